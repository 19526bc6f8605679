-- What is left of a line comes to the same after each step that is taken of it.
use Rattle.std.proofs.Common.{◌≡◌, ℕ, zero, suc, ◌+◌, ◌-◌, ◌*◌, ◌≤◌, ◌<◌, List, [], ◌∷◌, true, false, refl, sym, ap, subst, ◌∙◌, arith, if◌then◌else◌}
use Rattle.std.specs.Prelude.{Some, None}
use Rattle.std.specs.List.{range_with_len}
use Rattle.qx_types.specs.Step.{actor_of, user_of}
use Rattle.qx_types.specs.declared.limits.TheConstants.Limits.{PROCESSES, THREADS}
use Rattle.qx_types.specs.declared.names.Actor.{Actor}
use Rattle.qx_types.specs.declared.names.Manager.{Manager}
use Rattle.qx_types.specs.declared.names.Proc.{Proc}
use Rattle.qx_types.specs.declared.step.Step.{Step}
use Rattle.qx_types.specs.declared.step.Step.TheVariants.{TakePulse, Receive, Perform}
use Rattle.qx_isolation.specs.Rows.{row_at}
use Rattle.qx_machine.specs.Machine.{World}
use Rattle.qx_machine.specs.Reads.{next_manager}
use Rattle.qx_machine.specs.Runs.{world_after}
use Rattle.qx_live.specs.Chosen.{each, first_worker, followed, items_waiting, rounds, round_steps, served_steps}
use Rattle.qx_live.specs.Live.{Session, after_line, after_step, after_steps, has_pulse, line_steps, pulse_count, pulse_steps, pulses, reply_steps, steps_by, told_steps}
use Rattle.qx_live.specs.Sessions.{processes_behind, served, serving_steps, threads_from, told_from}
use Rattle.qx_live.specs.declared.line.LiveLine.{LiveLine}
use Rattle.qx_live.proofs.Emptied.{stays, turn}
use Rattle.qx_live.proofs.Sessions.{after_all, after_both}
use Rattle.qx_live.proofs.Told.{pulsed}

pub goes_on : (session : Session) (steps : List Step) (next : World → List Step)
    → after_steps session (followed session.world steps next) ≡ after_steps (after_steps session steps) (next (after_steps session steps).world)
goes_on session steps next =
    after_both session steps (next (world_after session.world steps))
    ∙ ap (λ w. after_steps (after_steps session steps) (next w)) (sym (ap (λ (after : Session). after.world) (after_all session steps)))

-- ---- a line, and serving

pub line_begun : (session after : Session) (line : LiveLine) (actor : Actor) (user left : ℕ) → actor_of line.step ≡ Some actor → user ≡ user_of actor
    → after ≡ after_step session line.step → left ≡ 2 * items_waiting after.world → served user line.moment left after ≡ after_line session line
unfolding line_steps served_steps
line_begun session after line actor user left by same is count =
    let w = session.world in
    let asked = after_step session line.step in
    let steps : World → List Step = λ v. followed v (line.step ∷ []) (served_steps line.moment) in
    let all : after_steps session (steps_by w line (Some actor)) ≡ served (user_of actor) line.moment (2 * items_waiting asked.world) asked =
    goes_on session (steps w) (told_steps (user_of actor))
    ∙ (ap (λ s. after_steps s (told_steps (user_of actor) s.world)) (goes_on session (line.step ∷ []) (served_steps line.moment))
    ∙ sym (goes_on asked (served_steps line.moment asked.world) (told_steps (user_of actor)))) in
    ap (λ u. served u line.moment left after) same
    ∙ (ap (λ n. served (user_of actor) line.moment n after) count
    ∙ (ap (λ s. served (user_of actor) line.moment (2 * items_waiting s.world) s) is
    ∙ (sym all ∙ ap (λ who. after_steps session (steps_by w line who)) (sym by))))

pub received : (session after : Session) (user moment left left_now : ℕ) (manager : Manager) → next_manager session.world ≡ Some manager → left ≡ left_now + 1
    → after ≡ after_step session (Receive first_worker manager)
    → after_steps after (followed after.world (Perform first_worker moment ∷ []) (serving_steps user moment left_now)) ≡ served user moment left session
received session after user moment left left_now manager next one is =
    let w = session.world in
    let round = round_steps moment manager in
    let more : left ≡ suc left_now = omega (arith, one) in
    let taken = after_step session (Receive first_worker manager) in
    let done = after_step taken (Perform first_worker moment) in
    let here : after_steps taken (followed taken.world (Perform first_worker moment ∷ []) (serving_steps user moment left_now)) ≡ served user moment left_now done =
    goes_on taken (Perform first_worker moment ∷ []) (serving_steps user moment left_now) in
    let there : served user moment (suc left_now) session ≡ served user moment left_now done =
    goes_on session (rounds (suc left_now) moment w) (told_steps user)
    ∙ (ap (λ s. after_steps s (told_steps user s.world)) (ap (after_steps session) (turn left_now moment w manager next) ∙ goes_on session round (rounds left_now moment))
    ∙ sym (goes_on done (rounds left_now moment done.world) (told_steps user))) in
    ap (λ s. after_steps s (followed s.world (Perform first_worker moment ∷ []) (serving_steps user moment left_now))) is
    ∙ (here ∙ (sym there ∙ ap (λ n. served user moment n session) (sym more)))

pub performed : (session after : Session) (user moment left : ℕ) → after ≡ after_step session (Perform first_worker moment)
    → served user moment left after ≡ after_steps session (followed session.world (Perform first_worker moment ∷ []) (serving_steps user moment left))
performed session after user moment left is = ap (served user moment left) is ∙ sym (goes_on session (Perform first_worker moment ∷ []) (serving_steps user moment left))

-- ---- telling

-- a process, of so many threads
abbrev of_threads : ℕ → ℕ → ℕ → World → List Step
of_threads user threads process w = followed w (each (reply_steps user process) (range_with_len 1 threads) w) (pulse_steps user process)

next_of : (user threads now next behind left : ℕ) (w : World) → now ≡ threads → behind ≡ suc left
    → followed w (of_threads user now next w) (each (of_threads user threads) (range_with_len (next + 1) left)) ≡ each (of_threads user threads) (range_with_len next behind) w
next_of user threads now next behind left w same one =
    ap (λ n. followed w (of_threads user n next w) (each (of_threads user threads) (range_with_len (next + 1) left))) same
    ∙ ap (λ n. each (of_threads user threads) (range_with_len next n) w) (sym one)

from_first : (user : ℕ) (w : World) → told_from user 1 1 w ≡ told_steps user w
unfolding told_from told_steps
from_first user w = next_of user THREADS (THREADS + 1 - 1) 1 PROCESSES (PROCESSES - 1) w (omega arith) (omega arith)

pub rounds_over : (session : Session) (user moment : ℕ) → after_steps session (told_from user 1 1 session.world) ≡ served user moment 0 session
rounds_over session user moment = ap (after_steps session) (from_first user session.world)

pub none_left : (session : Session) (user moment left : ℕ) → next_manager session.world ≡ None → after_steps session (told_from user 1 1 session.world) ≡ served user moment left session
none_left session user moment left none = ap (after_steps session) (from_first user session.world ∙ sym (ap (λ steps. followed session.world steps (told_steps user)) (no_rounds left)))
  where
    no_rounds : (left : ℕ) → rounds left moment session.world ≡ []
    no_rounds zero = refl
    no_rounds (suc left) = stays left moment session.world none

-- the pulses of a process, and the other processes behind it
abbrev behind_threads : ℕ → ℕ → Session → Session
behind_threads user process session =
    let after = after_steps session (pulse_steps user process session.world) in
    after_steps after (processes_behind user process after.world)

told_is : (user process thread : ℕ) (session : Session)
    → after_steps session (told_from user process thread session.world) ≡ behind_threads user process (after_steps session (threads_from user process thread session.world))
unfolding told_from
told_is user process thread session =
    let threads = threads_from user process thread session.world in
    goes_on session (followed session.world threads (pulse_steps user process)) (processes_behind user process)
    ∙ ap (λ s. after_steps s (processes_behind user process s.world)) (goes_on session threads (pulse_steps user process))

pub thread_done : (user process thread : ℕ) (session after : Session) → thread ≤ THREADS → after ≡ after_steps session (reply_steps user process thread session.world)
    → after_steps after (told_from user process (thread + 1) after.world) ≡ after_steps session (told_from user process thread session.world)
thread_done user process thread session after few is =
    let choose = reply_steps user process in
    let left = THREADS + 1 - (thread + 1) in
    let one : THREADS + 1 - thread ≡ suc left = omega arith in
    let rest = each choose (range_with_len (thread + 1) left) in
    let all : after_steps session (each choose (range_with_len thread (suc left)) session.world) ≡ after_steps after (rest after.world) =
    goes_on session (choose thread session.world) rest ∙ ap (λ s. after_steps s (rest s.world)) (sym is) in
    told_is user process (thread + 1) after
    ∙ (ap (behind_threads user process) (sym (ap (λ n. after_steps session (each choose (range_with_len thread n) session.world)) one ∙ all))
    ∙ sym (told_is user process thread session))

-- the next process, and those behind it
pub from_next : (user process : ℕ) (w : World) → process < PROCESSES → told_from user (process + 1) 1 w ≡ processes_behind user process w
unfolding told_from
from_next user process w few = next_of user THREADS (THREADS + 1 - 1) (process + 1) (PROCESSES - process) (PROCESSES - (process + 1)) w (omega arith) (omega arith)

-- the process takes its pulses, and then come the processes behind it
pub process_done : (user process thread : ℕ) (session after : Session) → threads_from user process thread session.world ≡ [] → after ≡ after_steps session (pulse_steps user process session.world)
    → after_steps after (processes_behind user process after.world) ≡ after_steps session (told_from user process thread session.world)
process_done user process thread session after none is =
    ap (λ s. after_steps s (processes_behind user process s.world)) is
    ∙ (ap (behind_threads user process) (sym (ap (after_steps session) none)) ∙ sym (told_is user process thread session))

-- what came of pulses that are not all taken
pub pulses_late : (user process thread now : ℕ) (session after : Session) → threads_from user process thread session.world ≡ [] → threads_from user process now after.world ≡ []
    → after_steps after (pulse_steps user process after.world) ≡ after_steps session (pulse_steps user process session.world)
    → after_steps after (told_from user process now after.world) ≡ after_steps session (told_from user process thread session.world)
pulses_late user process thread now session after none also is =
    let behind : Session → Session = λ s. after_steps s (processes_behind user process s.world) in
    told_is user process now after
    ∙ (ap (behind_threads user process) (ap (after_steps after) also)
    ∙ (ap behind is
    ∙ (ap (behind_threads user process) (sym (ap (after_steps session) none)) ∙ sym (told_is user process thread session))))

-- ---- pulses

-- how many pulses a process has
abbrev pub pulses_of : Proc → Session → ℕ
pulses_of proc session = pulse_count proc.num (row_at session.world.parts proc.user.0)

-- the pulses that a process has are one, and those that are left
pub pulse_done : (proc : Proc) (session after : Session) → has_pulse session.world proc ≡ true → after ≡ after_step session (TakePulse proc)
    → after_steps after (pulses (pulse_count proc.num (row_at after.world.parts proc.user.0)) proc after.world) ≡ after_steps session (pulses (pulse_count proc.num (row_at session.world.parts proc.user.0)) proc session.world)
pulse_done proc session after has is =
    let w = session.world in
    let next = after_step session (TakePulse proc) in
    let left = pulse_count proc.num (row_at next.world.parts proc.user.0) in
    let one : pulse_count proc.num (row_at w.parts proc.user.0) ≡ suc left = omega (arith, (pulsed w proc has).count) in
    let all : after_steps session (pulses (suc left) proc w) ≡ after_steps next (pulses left proc next.world) =
    ap (λ b. after_steps session (if b then followed w (TakePulse proc ∷ []) (pulses left proc) else [])) has in
    ap (λ s. after_steps s (pulses (pulse_count proc.num (row_at s.world.parts proc.user.0)) proc s.world)) is
    ∙ sym (ap (λ n. after_steps session (pulses n proc w)) one ∙ all)

-- there are fewer after each
pub pulse_fewer : (proc : Proc) (session after : Session) → has_pulse session.world proc ≡ true → after ≡ after_step session (TakePulse proc)
    → pulse_count proc.num (row_at after.world.parts proc.user.0) < pulse_count proc.num (row_at session.world.parts proc.user.0)
pulse_fewer proc session after has is =
    let less : pulse_count proc.num (row_at (after_step session (TakePulse proc)).world.parts proc.user.0) < pulse_count proc.num (row_at session.world.parts proc.user.0) = omega (arith, (pulsed session.world proc has).count) in
    subst (λ (s : Session). pulse_count proc.num (row_at s.world.parts proc.user.0) < pulse_count proc.num (row_at session.world.parts proc.user.0)) (sym is) less

pub pulses_end : (left : ℕ) (proc : Proc) (session : Session) → has_pulse session.world proc ≡ false → after_steps session (pulses left proc session.world) ≡ session
pulses_end zero proc session none = refl
pulses_end (suc left) proc session none =
    ap (λ b. after_steps session (if b then followed session.world (TakePulse proc ∷ []) (pulses left proc) else [])) none

-- a process that has a pulse takes it, and then those that are left
pub pulse_told : (proc : Proc) (session after : Session) → has_pulse session.world proc ≡ true → after ≡ after_step session (TakePulse proc)
    → after_steps after (pulse_steps proc.user.0 proc.num after.world) ≡ after_steps session (pulse_steps proc.user.0 proc.num session.world)
unfolding pulse_steps
pulse_told proc session after has is = pulse_done proc session after has is

pub pulses_told : (proc : Proc) (session : Session) → has_pulse session.world proc ≡ false → after_steps session (pulse_steps proc.user.0 proc.num session.world) ≡ session
unfolding pulse_steps
pulses_told proc session none = pulses_end (pulse_count proc.num (row_at session.world.parts proc.user.0)) proc session none
