use Rattle.std.proofs.Common.{◌∙◌, List, [], ◌∷◌, ap, length, sym, take}
use Rattle.std.specs.Prelude.{slice_index_or}
use Rattle.std.proofs.lemmas.List.{take_more}
use Rattle.qx_types.specs.Configuration.{Configuration}
use Rattle.qx_script.specs.declared.setting.Setting.{Setting}
use Rattle.qx_script.specs.declared.setting.SettingName.TheVariants.{Ceiling}
use Rattle.qx_script.specs.Settings.{configured, set_by}
use Rattle.qx_script.proofs.SettingLemmas.{configured_more}
use Rattle.qx_script.proofs.reading.set_all.Goals as goal

pub settings-preserved : goal.settings-preserved
settings-preserved c =
    let all = c.args.settings.now in
    let place = c.settings.setting-index in
    let none : Setting = record { user = record { 0 = 0 }; name = Ceiling; value = 0 } in
    let setting : Setting = slice_index_or all place none in
    let more = take_more all place none c.settings-test.true in
    record {
      users = ap (λ (config : Configuration). length config.users) c.set.ensures.set ∙ c.settings.invariant.users;
      set = c.set.ensures.set
          ∙ (ap (set_by setting) c.settings.invariant.set
          ∙ (sym (configured_more (take place all) (setting ∷ []) c.args.config.now) ∙ ap (λ (some : List Setting). configured some c.args.config.now) (sym more)));
    }
