-- A front in code, as the definitions see it.
use Rattle.std.specs.Prelude.{◌≡◌, None, IfSome, option_map}
use Rattle.qx_live.specs.Sessions.{due_of, session_of}
use Rattle.qx_live_text.specs.declared.front.Front as code
use Rattle.qx_live_text.specs.Front.{Front}

abbrev pub front_of : code.Front → Front
front_of front = record {
  number = front.number;
  settings = front.settings.items;
  world = option_map (λ session. (session_of session).world) front.session;
  kept = option_map (λ lines. lines.items) front.kept;
}

-- nothing is due of a line before
abbrev pub IsReady : code.Front → Type 0
IsReady front = IfSome front.session (λ session. due_of session ≡ None)
