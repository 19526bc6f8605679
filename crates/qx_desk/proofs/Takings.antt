-- A step that is taken at a session in code.
use Rattle.std.proofs.Common.{◌≡◌, ℕ, [], refl, sym, ap, subst, ◌∙◌, eq-eqb, if◌then◌else◌}
use Rattle.std.specs.Prelude.{Option, Some, None, option_map}
use Rattle.qx_types.specs.Step.{actor_of, user_of}
use Rattle.qx_types.specs.declared.names.Actor.{Actor}
use Rattle.qx_types.specs.declared.step.Step.{Step}
use Rattle.qx_machine.specs.Machine.{World}
use Rattle.qx_machine.specs.Runs.{is_owner}
use Rattle.qx_live.specs.Live.{Session, after_line, after_steps}
use Rattle.qx_live.specs.Sessions.{caught_up, due_of, due_steps, session_of}
use Rattle.qx_live.specs.declared.line.LiveLine.{LiveLine}
use Rattle.qx_live.specs.declared.session.LineFault.{LineFault}
use Rattle.qx_live.specs.declared.session.LineFault.TheVariants.{Late, Refused}
use Rattle.qx_live.specs.declared.session.Session as code
use Rattle.qx_desk.specs.Desks.{Leads}
use Rattle.qx_desk.specs.Programs.{line_for}
use Rattle.qx_desk.specs.declared.taking.By.{By}
use Rattle.qx_desk.proofs.Comings.{leads_on}

abbrev fresh : World → Session
fresh w = record { world = w; written = [] }

abbrev ForOwner : ℕ → World → LiveLine → Option ℕ → Session
ForOwner user w line owner = if is_owner user owner then after_line (fresh w) line else fresh w

pub own_line : (user : ℕ) (w : World) (line : LiveLine) (actor : Actor) → actor_of line.step ≡ Some actor → user_of actor ≡ user → line_for user w line ≡ after_line (fresh w) line
own_line user w line actor by whose =
    ap (λ who. ForOwner user w line (option_map user_of who)) by
    ∙ ap (λ is. if is then after_line (fresh w) line else fresh w) (eq-eqb (user_of actor) user whose)

-- where nothing is due, what is there is what will be
pub none_due : (session : code.Session) → due_of session ≡ None → caught_up session ≡ session_of session
none_due session none = ap (λ due. after_steps (session_of session) (due_steps due session.world)) none

-- a line of the user that was taken leads on
pub line_leads : (by : By) (w : World) (e : Step) (actor : Actor) (before after : Session) → actor_of e ≡ Some actor → user_of actor ≡ by.user.0 → before ≡ fresh w
    → after ≡ after_line before (record { moment = by.moment; step = e }) → (start : World) → Leads by start w → Leads by start after.world
line_leads by w e actor before after who whose is led start leads =
    let line : LiveLine = record { moment = by.moment; step = e } in
    let one : line_for by.user.0 w line ≡ after = own_line by.user.0 w line actor who whose ∙ (ap (λ s. after_line s line) (sym is) ∙ sym led) in
    leads_on by start w after.world e (ap (λ (s : Session). s.world) one) leads

-- and so does one for which memory was short
pub fault_leads : (by : By) (w : World) (e : Step) (actor : Actor) (before after : Session) (fault : LineFault) → actor_of e ≡ Some actor → user_of actor ≡ by.user.0 → before ≡ fresh w
    → (fault ≡ Late → after ≡ after_line before (record { moment = by.moment; step = e })) → (fault ≡ Refused → after ≡ before) → (start : World) → Leads by start w → Leads by start after.world
fault_leads by w e actor before after Late who whose is late refused start leads = line_leads by w e actor before after who whose is (late refl) start leads
fault_leads by w e actor before after Refused who whose is late refused start leads = subst (Leads by start) (sym (ap (λ (s : Session). s.world) (refused refl ∙ is))) leads
