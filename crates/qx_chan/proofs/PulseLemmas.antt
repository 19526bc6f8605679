-- An unblock pulse is performed: who waits is answered, as in the machine.
use Rattle.std.proofs.Common.{◌≡◌, subst, ℕ, List, Option, Some, Ok, Err, map, refl, ◌∙◌, ap}
use Rattle.std.specs.Prelude.{◌<◌, IfOk, Result, length}
use Rattle.qx_types.specs.declared.outcome.Outcome.{Outcome}
use Rattle.qx_machine.specs.Functions.{Deed}
use Rattle.qx_isolation.specs.Judgements.{◌>>=◌}
use Rattle.qx_machine.specs.Parts.{Part}
use Rattle.qx_machine.specs.Performing.{Served, answered_changes, or_kept, serve_pulse, with_answers}
use Rattle.qx_machine.specs.PipeManager.{cancel_call}
use Rattle.qx_machine.specs.Processes.{Process}
use Rattle.qx_machine.specs.Resources.{Resources}
use Rattle.qx_isolation.specs.Rows.{row_at}
use Rattle.qx_machine.specs.Settling.{is_living}
use Rattle.qx_machine.proofs.Living.{lives-answers}
use Rattle.qx_machine.proofs.Waiters.{InDeed, cancel-gives}
use Rattle.qx_shared.specs.Shared.{shared_after, state_after, users_given}
use Rattle.qx_resources.specs.State as state
use Rattle.qx_resources.specs.State.{HasUser, told}
use Rattle.qx_resources.specs.Watching.{watched_call}
use Rattle.qx_resources.specs.declared.tables.Tables.{Tables as AllTables}
use Rattle.qx_resources.specs.declared.watching.Watched.{Watched}
use Rattle.qx_chan.specs.inner.Answers.{given_lines}
use Rattle.qx_chan.specs.inner.Kept.{AllStandTogether, Answering, StandTogether}
use Rattle.qx_chan.specs.Serving.{Serves, settled}
use Rattle.qx_chan.specs.inner.Serving.{Leaves}
use Rattle.qx_chan.specs.Users.{Users}
use Rattle.qx_chan.proofs.GivenLemmas.{lines-machine, resources-machine, users-machine}
use Rattle.qx_chan.proofs.RowReads.{row_within}
use Rattle.qx_chan.proofs.ServeLemmas.{Answering-left, Serves-given, Waits, given_all, nothing_done, shown, waits-before}
use Rattle.qx_chan.proofs.SettledLemmas.{Cancelled, cancelled, fits-cancelled, triggered_in}

-- a user who has processes is one of those who share
pub user-fits : {spare : Option (List ℕ)} (users : Users) (w : AllTables) (k : state.Kept) (processes : List (Option Process)) → row_at users k.user ≡ Some processes → AllStandTogether users w spare → HasUser k w
user-fits users w k processes there kept = record { pipes = few; events = rw kept.events few }
  where
    few : k.user < length w.shared.pipes
    few = rw kept.shared.users (row_within users k.user processes there)

module _ (users : Users) (w : AllTables) (k l : state.Kept) (v : AllTables) (processes : List (Option Process)) (there : row_at users k.user ≡ Some processes) (kept : StandTogether users w.shared) (process thread call moment : ℕ) where
  abbrev part : Part
  part = record { processes = processes; resources = told k w }

  abbrev served : Part → Served
  served part = or_kept part (serve_pulse part process thread call moment)

  -- what it comes to, by what the cancelling gives
  abbrev served_by : Deed Resources → Served
  served_by deed = record { part = with_answers deed.answers (record part { resources = deed.state }); changes = answered_changes deed.answers part }

  abbrev served_from : Result (Deed Resources) Outcome → Served
  served_from r = or_kept part (r >>= (λ deed. Ok (served_by deed)))

  abbrev Pulsed : Type 0
  Pulsed = Answering users v.shared × Serves (shown users w.shared w.mounts w.events.events) (given_all users v.shared v.mounts v.events.events) k l (λ part. settled part (served part))

  by_deed : (deed : Deed Resources) → served part ≡ served_by deed → InDeed (Waits users k.user) deed → Leaves (is_living processes) k w l v deed → Pulsed
  by_deed deed is keeps left = (
    Answering-left users k.user w.shared v.shared deed kept left.shared keeps,
    Serves-given users w k served kept l v deed k.user refl processes there left (served_by deed) is (resources-machine deed.answers (record part { resources = deed.state })) (lives-answers deed.answers (record part { resources = deed.state })) users v.shared refl refl
        (users-machine users k.user deed.answers (record part { resources = deed.state }) there)
        (ap (λ q. given_lines users q.lines (map (users_given k.user) deed.answers)) left.shared ∙ lines-machine users k.user w.shared.lines deed.answers part there),
  )

  pub pulsed : (r : Result (Deed Resources) Outcome) → cancel_call (told k w) process thread call moment ≡ r → Cancelled (is_living processes) k w l v r → Pulsed
  pulsed (Ok deed) is left =
      by_deed deed (ap served_from is) (subst (λ r. IfOk r (InDeed (Waits users k.user))) is (cancel-gives (Waits users k.user) (told k w) process thread call moment (waits-before users k.user w.shared kept.waits)).gives) left
  pulsed (Err outcome) is left =
      by_deed (nothing_done (told k w)) (ap served_from is) (record { pipes = waits-before users k.user w.shared kept.waits; answers = tt }) left

-- and once the events that are due by it have given their pulses
pub performed : {spare : Option (List ℕ)} (users : Users) (w v now : AllTables) (k l : state.Kept) (processes : List (Option Process)) → row_at users k.user ≡ Some processes → AllStandTogether users w spare → (process thread call moment : ℕ) (watched : Option Watched)
    → l.user ≡ k.user → told l v ≡ state_after (told k w) (cancel_call (told k w) process thread call moment) → v ≡ record w { shared = shared_after w.shared k.user (cancel_call (told k w) process thread call moment) }
    → watched ≡ watched_call (told k w) process thread call → now ≡ triggered_in (is_living processes) l v watched
    → Answering users now.shared × Serves (shown users w.shared w.mounts w.events.events) (given_all users now.shared now.mounts now.events.events) k l (λ part. settled part (or_kept part (serve_pulse part process thread call moment)))
performed users w v now k l processes there kept process thread call moment watched user told_is shared watches triggers =
    let fits = fits-cancelled k l w v (cancel_call (told k w) process thread call moment) (user-fits users w k processes there kept) user shared in
    pulsed users w k l now processes there kept.shared process thread call moment (cancel_call (told k w) process thread call moment) refl
    (cancelled (is_living processes) k l w v now process thread call moment watched fits user watches triggers (cancel_call (told k w) process thread call moment) refl told_is shared)
