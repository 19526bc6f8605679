-- What a session writes at a line tells which steps of the line took answers and pulses.
use Rattle.std.proofs.Common.{◌≡◌, ◌∙◌, ℕ, zero, suc, ◌*◌, Bool, true, false, cond, List, [], ◌∷◌, ◌++◌, Option, Some, None, append_assoc, ap, drop, refl, sym}
use Rattle.std.specs.Prelude.{All}
use Rattle.std.specs.List.{range_with_len}
use Rattle.std.proofs.lemmas.List.Elements.{All-append, All-cons, All-head, All-nil, All-tail}
use Rattle.qx_types.specs.Configuration.{Configuration}
use Rattle.qx_types.specs.Step.{actor_of, user_of}
use Rattle.qx_types.specs.declared.limits.TheConstants.Limits.{PROCESSES, THREADS}
use Rattle.qx_types.specs.declared.names.Actor.{Actor}
use Rattle.qx_types.specs.declared.names.Manager.{Manager}
use Rattle.qx_types.specs.declared.names.Proc.{Proc}
use Rattle.qx_types.specs.declared.outcome.Outcome.{Outcome}
use Rattle.qx_types.specs.declared.step.Step.{Step}
use Rattle.qx_types.specs.declared.step.Step.TheVariants.{TakePulse, TakeReply}
use Rattle.qx_isolation.specs.declared.rows.Seen.{Seen}
use Rattle.qx_machine.specs.Machine.{World, boot, named_thread, step}
use Rattle.qx_machine.specs.Reads.{next_manager}
use Rattle.qx_machine.specs.Runs.{entries_from, world_after}
use Rattle.qx_live.specs.Chosen.{each, followed, items_waiting, round_steps, rounds, served_steps}
use Rattle.qx_live.specs.Live.{Session, after_line, after_steps, has_pulse, is_answered, line_steps, live_steps, process_steps, pulse_steps, pulses, reply_steps, steps_by, told_steps, written_by, written_of}
use Rattle.qx_live.specs.Sessions.{due_steps}
use Rattle.qx_live.specs.declared.line.LiveLine.{LiveLine}
use Rattle.qx_live.specs.declared.session.Due.{Due}
use Rattle.qx_live.proofs.Owned.{after_append}
use Rattle.qx_live.proofs.Sessions.{after_all}
use Rattle.qx_play.specs.Play.{all_served, world_played}
use Rattle.qx_play.specs.inner.Taken.{taken_steps, taking}

-- ---- who is told what

-- who takes a step by which something is taken
abbrev taking_by : Option Actor → List Step
taking_by None = []
taking_by (Some actor) = taking actor

-- by the step its actor takes what it is told
abbrev IsTold : Step → Type 0
IsTold e = taking_by (actor_of e) ≡ e ∷ []

abbrev AreTold : List Step → Type 0
AreTold steps = All IsTold steps

told_cond : (b : Bool) (xs : List Step) → AreTold xs → AreTold (cond b xs [])
told_cond true xs told = told
told_cond false xs told = All-nil IsTold

reply_told : (user process thread : ℕ) (w : World) → AreTold (reply_steps user process thread w)
unfolding reply_steps
reply_told user process thread w =
    let name = named_thread user process thread in
    told_cond (is_answered w name) (TakeReply name ∷ []) (All-cons IsTold (TakeReply name) [] refl (All-nil IsTold))

pulses_told : (left : ℕ) (proc : Proc) (w : World) → AreTold (pulses left proc w)
pulses_told zero proc w = All-nil IsTold
pulses_told (suc left) proc w =
    let next = world_after w (TakePulse proc ∷ []) in
    told_cond (has_pulse w proc) (followed w (TakePulse proc ∷ []) (pulses left proc)) (All-cons IsTold (TakePulse proc) (pulses left proc next) refl (pulses_told left proc next))

pulse_told : (user process : ℕ) (w : World) → AreTold (pulse_steps user process w)
unfolding pulse_steps
pulse_told user process w = pulses_told _ _ w

each_told : (choose : ℕ → World → List Step) → ((one : ℕ) (w : World) → AreTold (choose one w)) → (all : List ℕ) (w : World) → AreTold (each choose all w)
each_told choose told [] w = All-nil IsTold
each_told choose told (one ∷ more) w =
    let first = choose one w in
    All-append IsTold first (each choose more (world_after w first)) (told one w) (each_told choose told more (world_after w first))

process_told : (user process : ℕ) (w : World) → AreTold (process_steps user process w)
process_told user process w =
    let replies = each (reply_steps user process) (range_with_len 1 THREADS) w in
    All-append IsTold replies (pulse_steps user process (world_after w replies)) (each_told (reply_steps user process) (reply_told user process) (range_with_len 1 THREADS) w)
    (pulse_told user process (world_after w replies))

all_told : (user : ℕ) (w : World) → AreTold (told_steps user w)
unfolding told_steps
all_told user w = each_told (process_steps user) (process_told user) (range_with_len 1 PROCESSES) w

taken_first : (outcome : Outcome) (who : Option Actor) (rest : List Seen) → taken_steps (written_by outcome who ++ rest) ≡ taking_by who ++ taken_steps rest
taken_first outcome None rest = refl
taken_first outcome (Some actor) rest = refl

taken_all : (w : World) (steps : List Step) → AreTold steps → taken_steps (written_of (entries_from w steps)) ≡ steps
taken_all w [] told = refl
taken_all w (e ∷ steps) told =
    let next = (step w e).world in
    taken_first (step w e).outcome (actor_of e) (written_of (entries_from next steps))
    ∙ (λ i. All-head IsTold e steps told i ++ taken_all next steps (All-tail IsTold e steps told) i)

-- ---- of serving nothing is written

unwritten : (left moment : ℕ) (w : World) → written_of (entries_from w (rounds left moment w)) ≡ []
unwritten zero moment w = refl
unwritten (suc left) moment w = by_manager (next_manager w) (λ manager. unwritten left moment (world_after w (round_steps moment manager)))
  where
    by_manager : (next : Option Manager)
        → ((manager : Manager) → written_of (entries_from (world_after w (round_steps moment manager)) (rounds left moment (world_after w (round_steps moment manager)))) ≡ [])
        → written_of (entries_from w (elim next as (λ _. List Step) [ None ↦ [] | Some manager ↦ followed w (round_steps moment manager) (rounds left moment) ])) ≡ []
    by_manager None later = refl
    by_manager (Some manager) later = later manager

written_both : (w : World) (xs ys : List Step) → written_of (entries_from w (xs ++ ys)) ≡ written_of (entries_from w xs) ++ written_of (entries_from (world_after w xs) ys)
written_both w [] ys = refl
written_both w (e ∷ xs) ys =
    let next = (step w e).world in
    let first = written_by (step w e).outcome (actor_of e) in
    ap (λ l. first ++ l) (written_both next xs ys) ∙ sym (append_assoc first (written_of (entries_from next xs)) (written_of (entries_from (world_after next xs) ys)))

-- ---- a line

-- the step of a line, and all that waits then
abbrev begun_steps : World → LiveLine → List Step
begun_steps w line = followed w (line.step ∷ []) (served_steps line.moment)

abbrev told_line : World → LiveLine → Actor → List Step
told_line w line actor = told_steps (user_of actor) (world_after w (begun_steps w line))

line_is : (w : World) (line : LiveLine) (actor : Actor) → actor_of line.step ≡ Some actor → line_steps w line ≡ begun_steps w line ++ told_line w line actor
unfolding line_steps
line_is w line actor by = ap (steps_by w line) by

begun_written : (w : World) (line : LiveLine) (actor : Actor) → actor_of line.step ≡ Some actor
    → written_of (entries_from w (begun_steps w line)) ≡ record { actor = actor; outcome = (step w line.step).outcome } ∷ []
unfolding served_steps
begun_written w line actor by =
    let next = (step w line.step).world in
    (λ i. written_by (step w line.step).outcome (by i) ++ unwritten (2 * items_waiting next) line.moment next i)

-- what is written at a line behind its own step tells who takes what
told_taken : (w : World) (line : LiveLine) (actor : Actor) → actor_of line.step ≡ Some actor
    → taken_steps (drop 1 (after_line (record { world = w; written = [] }) line).written) ≡ told_line w line actor
told_taken w line actor by =
    let first = begun_steps w line in
    let last = told_line w line actor in
    let told = written_of (entries_from (world_after w first) last) in
    let all : (after_line (record { world = w; written = [] }) line).written ≡ record { actor = actor; outcome = (step w line.step).outcome } ∷ told =
    ap (λ (after : Session). after.written) (after_all (record { world = w; written = [] }) (line_steps w line))
    ∙ (ap (λ steps. written_of (entries_from w steps)) (line_is w line actor by)
    ∙ (written_both w first last ∙ ap (λ l. l ++ told) (begun_written w line actor by))) in
    ap (λ l. taken_steps (drop 1 l)) all ∙ taken_all (world_after w first) last (all_told (user_of actor) (world_after w first))

-- the steps of a line, behind others: its own, those of serving, and those of who is told something
pub line_taken : (config : Configuration) (steps asked served after : List Step) (e : Step) (written : List Seen) (line : LiveLine) (actor : Actor) → actor_of line.step ≡ Some actor
    → e ≡ line.step → asked ≡ steps ++ e ∷ [] → served ≡ all_served config line.moment asked → after ≡ served ++ taken_steps (drop 1 written)
    → written ≡ (after_line (record { world = world_played config steps; written = [] }) line).written → after ≡ steps ++ line_steps (world_played config steps) line
unfolding all_served
line_taken config steps asked served after e written line actor by same asked_is served_is after_is written_is =
    let w = world_played config steps in
    let choose = served_steps line.moment in
    let told = told_line w line actor in
    let own : asked ≡ steps ++ line.step ∷ [] = asked_is ∙ ap (λ first. steps ++ first ∷ []) same in
    let told_is : taken_steps (drop 1 written) ≡ told = ap (λ l. taken_steps (drop 1 l)) written_is ∙ told_taken w line actor by in
    let begun : served ≡ steps ++ begun_steps w line =
    served_is
    ∙ (ap (λ l. l ++ choose (world_played config l)) own
    ∙ (ap (λ v. (steps ++ line.step ∷ []) ++ choose v) (after_append (boot config) steps (line.step ∷ [])) ∙ append_assoc steps (line.step ∷ []) (choose (world_after w (line.step ∷ []))))) in
    after_is
    ∙ ((λ i. begun i ++ told_is i)
    ∙ (append_assoc steps (begun_steps w line) told ∙ ap (λ l. steps ++ l) (sym (line_is w line actor by))))

-- a session of which nothing is due, before the line and with nothing written
pub line_of : (now : World) (written : List Seen) (due : Option Due) (line : LiveLine) (w : World) (after : Session) → due ≡ None → written ≡ [] → now ≡ w
    → after ≡ after_line (after_steps (record { world = now; written = written }) (due_steps due now)) line → after ≡ after_line (record { world = w; written = [] }) line
line_of now written due line w after none cleared same is =
    is
    ∙ (ap (λ left. after_line (after_steps (record { world = now; written = written }) (due_steps left now)) line) none
    ∙ (λ i. after_line (record { world = same i; written = cleared i }) line))

-- a line that is no client's takes no step
pub no_line : (w : World) (line : LiveLine) → actor_of line.step ≡ None → line_steps w line ≡ []
unfolding line_steps
no_line w line by = ap (steps_by w line) by

-- ---- lines

-- one more line
pub lines_taken : (config : Configuration) (steps after : List Step) (line : LiveLine) (lines : List LiveLine) → after ≡ steps ++ line_steps (world_played config steps) line
    → after ++ live_steps (world_played config after) lines ≡ steps ++ live_steps (world_played config steps) (line ∷ lines)
lines_taken config steps after line lines is =
    let w = world_played config steps in
    let own = line_steps w line in
    ap (λ l. l ++ live_steps (world_played config l) lines) is
    ∙ (ap (λ v. (steps ++ own) ++ live_steps v lines) (after_append (boot config) steps own) ∙ append_assoc steps own (live_steps (world_after w own) lines))

-- both are at the same world
pub line_same : (config : Configuration) (steps after : List Step) (line : LiveLine) (w : World) → w ≡ (after_line (record { world = world_played config steps; written = [] }) line).world
    → after ≡ steps ++ line_steps (world_played config steps) line → w ≡ world_played config after
line_same config steps after line w is after_is =
    let before = world_played config steps in
    let own = line_steps before line in
    is
    ∙ (ap (λ (session : Session). session.world) (after_all (record { world = before; written = [] }) own)
    ∙ sym (ap (world_played config) after_is ∙ after_append (boot config) steps own))
