use Rattle.std.proofs.Common.{◌≡◌, length, take}
use Rattle.qx_script.specs.Settings.{configured}
use Rattle.qx_script.proofs.reading.set_all.Given as goal

-- those before the place are set
abbrev pub invariant-settings : goal.invariant-settings
invariant-settings l = record {
  users : length l.config.users ≡ length l.initial.config.users;
  set : l.config ≡ configured (take l.setting-index l.settings) l.initial.config;
}
