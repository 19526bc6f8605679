-- Whole sessions: what is left of their steps for a user are the steps of that user's lines alone.
use Rattle.std.proofs.Common.{◌≡◌, ℕ, zero, suc, ◌≤◌, List, [], ◌∷◌, ◌++◌, Bool, true, false, length, refl, sym, ap, subst, ◌∙◌, arith, append-nil, append_assoc, if◌then◌else◌}
use Rattle.std.specs.Prelude.{◌==◌, Option, Some, None, Result, Ok, Err, option_map, replicate, sum_by}
use Rattle.std.specs.List.{range_with_len}
use Rattle.std.proofs.lemmas.Bool.{cond_both, eqb-true}
use Rattle.std.proofs.lemmas.List.Sums.{sum_by-cons}
use Rattle.qx_types.specs.Configuration.{Configuration}
use Rattle.qx_types.specs.Managers.{manager_count}
use Rattle.qx_types.specs.Step.{actor_of, user_of}
use Rattle.qx_types.specs.declared.limits.TheConstants.Limits.{PROCESSES, THREADS}
use Rattle.qx_types.specs.declared.names.Actor.{Actor}
use Rattle.qx_types.specs.declared.names.Actor.TheVariants.{OfProc, OfThread}
use Rattle.qx_types.specs.declared.names.Proc.{Proc}
use Rattle.qx_types.specs.declared.names.Thread.{Thread}
use Rattle.qx_types.specs.declared.outcome.Outcome.{Outcome}
use Rattle.qx_types.specs.declared.outcome.Outcome.TheVariants.{WrongState}
use Rattle.qx_types.specs.declared.step.Step.{Step}
use Rattle.qx_types.specs.declared.step.Step.TheVariants.{TakeReply, TakePulse}
use Rattle.qx_isolation.specs.Judgements.{found}
use Rattle.qx_isolation.specs.Rows.{row_at}
use Rattle.qx_isolation.specs.System as system
use Rattle.qx_isolation.specs.System.{own_entries}
use Rattle.qx_isolation.specs.declared.rows.Entry.{Entry}
use Rattle.qx_isolation.specs.declared.rows.Queued.{Queued}
use Rattle.qx_isolation.specs.declared.rows.Seen.{Seen}
use Rattle.qx_isolation.proofs.Runs.{run_entries, run_reached, run_received, run_world}
use Rattle.qx_isolation.proofs.Steps.{reached_step, step_own}
use Rattle.qx_isolation.proofs.Views.{IsReached, row_at-view}
use Rattle.qx_machine.specs.declared.rows.Pulse.{Pulse}
use Rattle.qx_machine.specs.Clients.{ClientStep, answer_in, or_unchanged, pulse_taken, take_pulse, take_reply}
use Rattle.qx_machine.specs.Events.{first_pulse}
use Rattle.qx_machine.specs.Machine.{World, boot, client_step, lines_after, machine, named_thread, own_held, owner, owner_of, step, view}
use Rattle.qx_machine.specs.Parts.{Part, thread_at, thread_of}
use Rattle.qx_machine.specs.Processes.{living}
use Rattle.qx_machine.specs.Reads.{is_thread_answered, process_of_part}
use Rattle.qx_machine.specs.Runs.{entries_from, erase, erase_from, is_owner, received, run, seen_by, world_after}
use Rattle.qx_machine.specs.Users as users
use Rattle.qx_machine.proofs.Gives.{Gives, gives_done, gives_on}
use Rattle.qx_live.specs.Chosen.{each, followed, items_waiting, served_steps}
use Rattle.qx_live.specs.Live.{Session, after_lines, after_step, after_steps, begun, for_user, is_answered, is_line_of, line_steps, lines_of, live_steps, process_steps, pulse_count, pulse_steps, pulses, has_pulse, is_pulse, reply_steps, steps_by, told_steps, written, written_by, written_of}
use Rattle.qx_live.specs.declared.line.LiveLine.{LiveLine}
use Rattle.qx_live.proofs.Choices.{IsOf, each_of, followed_of, if_of, none_of, one_of, own_step}
use Rattle.qx_live.proofs.Kept.{keeps_boot, kept}
use Rattle.qx_live.proofs.Owned.{AreOwn, after_append, erase_append, erased_other, erased_own, unseen_after, view_after}
use Rattle.qx_live.proofs.Serving.{Own, Quiet, client_is, own_client, own_of_quiet, served_of}

-- ---- telling: a step that puts nothing into a line leaves the world quiet

-- what a client's step gives puts nothing into a line
abbrev PutsNothing : ClientStep → Type 0
PutsNothing given = given.changes ≡ []

no_changes : (part : Part) (given : Result ClientStep Outcome) → Gives PutsNothing given → (or_unchanged part given).changes ≡ []
no_changes part (Ok value) h = h.gives
no_changes part (Err outcome) h = refl

reply_puts : (part : Part) (thread : Thread) → Gives PutsNothing (take_reply part thread)
reply_puts part thread =
    gives_on PutsNothing (found (thread_at part thread.proc.num thread.tid) WrongState) _
    (λ row there. gives_on PutsNothing (found (answer_in row.state) WrongState) _ (λ given is. gives_done PutsNothing _ refl))

pulse_puts : (part : Part) (proc : Proc) → Gives PutsNothing (take_pulse part proc)
pulse_puts part proc =
    gives_on PutsNothing (found (living (row_at part.processes proc.num)) WrongState) _
    (λ process there. gives_done PutsNothing (pulse_taken part proc.num (first_pulse proc.num part.resources.events)) (either (first_pulse proc.num part.resources.events)))
  where
    either : (first : Option Pulse) → (pulse_taken part proc.num first).changes ≡ []
    either None = refl
    either (Some first) = refl

quiet_client : (n : ℕ) (w : World) (e : Step) (actor : Actor) (row : Option Part) → actor_of e ≡ Some actor
    → ((part : Part) → (users.client w.config (user_of actor) (own_held (user_of actor) w.hands) part e).changes ≡ []) → row_at w.parts (user_of actor) ≡ row → Quiet n w → Quiet n (step w e).world
quiet_client n w e actor row by nothing there q =
    let is = client_is w e actor by ∙ ap (client_step w (user_of actor) e) there in
    record {
      reached = reached_step w e q.reached;
      keeps = kept n w e q.keeps;
      empty = ap (λ after. items_waiting after.world) is ∙ same_lines row ∙ q.empty;
      hands = ap (λ after. after.world.hands) is ∙ same_hands row ∙ q.hands;
    }
  where
    same_lines : (row : Option Part) → items_waiting (client_step w (user_of actor) e row).world ≡ items_waiting w
    same_lines None = refl
    same_lines (Some part) = ap (λ changes. sum_by length (lines_after (user_of actor) w.lines changes)) (nothing part)

    same_hands : (row : Option Part) → (client_step w (user_of actor) e row).world.hands ≡ w.hands
    same_hands None = refl
    same_hands (Some part) = refl

pub quiet_reply : (n : ℕ) (w : World) (thread : Thread) → Quiet n w → Quiet n (step w (TakeReply thread)).world
unfolding users.client
quiet_reply n w thread q = quiet_client n w (TakeReply thread) (OfThread thread) _ refl (λ part. no_changes part (take_reply part thread) (reply_puts part thread)) refl q

pub quiet_pulse : (n : ℕ) (w : World) (proc : Proc) → Quiet n w → Quiet n (step w (TakePulse proc)).world
unfolding users.client
quiet_pulse n w proc q = quiet_client n w (TakePulse proc) (OfProc proc) _ refl (λ part. no_changes part (take_pulse part proc) (pulse_puts part proc)) refl q

pub quiet_reached : (n : ℕ) (w : World) → Quiet n w → IsReached w
quiet_reached n w q = q.reached

pub reply_of : (user n process thread : ℕ) (w : World) → Quiet n w → IsOf user (Quiet n) (reply_steps user process thread) w
unfolding reply_steps
reply_of user n process thread w q =
    let name = named_thread user process thread in
    let one = if_of (TakeReply name) (OfThread name) (Quiet n) (is_answered w name) w refl q (quiet_reply n w name q) in
    record {
      same = ap (λ row. if is_thread_answered (thread_of thread (process_of_part process row)) then TakeReply name ∷ [] else []) (row_at-view user user w q.reached refl);
      own = one.own;
      after = one.after;
    }

-- the user's view has a pulse to take where the world has one
same_pulse : (proc : Proc) (w : World) → IsReached w → has_pulse (view proc.user.0 w) proc ≡ has_pulse w proc
same_pulse proc w h = ap (λ after. is_pulse after.outcome) (step_own w proc.user.0 (TakePulse proc) h (own_step (TakePulse proc) (OfProc proc) w refl))

pulses_left_of : (n left : ℕ) (proc : Proc) (w : World) → Quiet n w → IsOf proc.user.0 (Quiet n) (pulses left proc) w
pulses_left_of n zero proc w q = none_of proc.user.0 (Quiet n) w q
pulses_left_of n (suc left) proc w q = by_one (λ v quiet. pulses_left_of n left proc v quiet) (has_pulse w proc) refl
  where
    by_one : ((v : World) → Quiet n v → IsOf proc.user.0 (Quiet n) (pulses left proc) v) → (is : Bool) → has_pulse w proc ≡ is → IsOf proc.user.0 (Quiet n) (pulses (suc left) proc) w
    by_one later true is =
        let one = one_of (TakePulse proc) (OfProc proc) (Quiet n) w refl (quiet_pulse n w proc q) in
        let all = followed_of proc.user.0 (Quiet n) (Quiet n) (λ v. TakePulse proc ∷ []) (pulses left proc) w q.reached one (later (step w (TakePulse proc)).world one.after) in
        let taken : pulses (suc left) proc w ≡ followed w (TakePulse proc ∷ []) (pulses left proc) = ap (λ has. if has then followed w (TakePulse proc ∷ []) (pulses left proc) else []) is in
        let v = view proc.user.0 w in
        record {
          same = ap (λ has. if has then followed v (TakePulse proc ∷ []) (pulses left proc) else []) (same_pulse proc w q.reached ∙ is) ∙ (all.same ∙ sym taken);
          own = subst (AreOwn proc.user.0 w) (sym taken) all.own;
          after = subst (λ steps. Quiet n (world_after w steps)) (sym taken) all.after;
        }
    by_one later false isnt =
        let none : pulses (suc left) proc w ≡ [] = ap (λ has. if has then followed w (TakePulse proc ∷ []) (pulses left proc) else []) isnt in
        let v = view proc.user.0 w in
        record {
          same = ap (λ has. if has then followed v (TakePulse proc ∷ []) (pulses left proc) else []) (same_pulse proc w q.reached ∙ isnt) ∙ sym none;
          own = subst (AreOwn proc.user.0 w) (sym none) tt;
          after = subst (λ steps. Quiet n (world_after w steps)) (sym none) q;
        }

pub pulses_of : (user n process : ℕ) (w : World) → Quiet n w → IsOf user (Quiet n) (pulse_steps user process) w
unfolding pulse_steps
pulses_of user n process w q =
    let proc : Proc = record { user = record { 0 = user }; num = process } in
    let all = pulses_left_of n (pulse_count process (row_at w.parts user)) proc w q in
    record {
      same = ap (λ row. pulses (pulse_count process row) proc (view user w)) (row_at-view user user w q.reached refl) ∙ all.same;
      own = all.own;
      after = all.after;
    }

pub process_of : (user n process : ℕ) (w : World) → Quiet n w → IsOf user (Quiet n) (process_steps user process) w
process_of user n process w q =
    let replies = each (reply_steps user process) (range_with_len 1 THREADS) in
    let first = each_of user (Quiet n) (reply_steps user process) (quiet_reached n) (reply_of user n process) (range_with_len 1 THREADS) w q in
    followed_of user (Quiet n) (Quiet n) replies (pulse_steps user process) w q.reached first (pulses_of user n process (world_after w (replies w)) first.after)

pub told_of : (user n : ℕ) (w : World) → Quiet n w → IsOf user (Quiet n) (told_steps user) w
unfolding told_steps
told_of user n w q = each_of user (Quiet n) (process_steps user) (quiet_reached n) (process_of user n) (range_with_len 1 PROCESSES) w q

-- ---- lines

pub line_of_user : (n : ℕ) (w : World) (line : LiveLine) (actor : Actor) → 1 ≤ n → actor_of line.step ≡ Some actor → Quiet n w → IsOf (user_of actor) (Quiet n) (λ v. steps_by v line (Some actor)) w
line_of_user n w line actor some by q =
    let user = user_of actor in
    let asked = one_of line.step actor (Own user n) w by (own_client n w line.step actor by (own_of_quiet user n w q)) in
    let after = (step w line.step).world in
    let served = followed_of user (Own user n) (Quiet n) (λ v. line.step ∷ []) (served_steps line.moment) w q.reached asked (served_of user n line.moment after some asked.after) in
    let until_served : World → List Step = λ v. followed v (line.step ∷ []) (served_steps line.moment) in
    followed_of user (Quiet n) (Quiet n) until_served (told_steps user) w q.reached served (told_of user n (world_after w (until_served w)) served.after)

-- a session of a user's lines alone begins with a line of the user, and not with another's

own_first : (user : ℕ) (line : LiveLine) (lines : List LiveLine) (actor : Actor) → actor_of line.step ≡ Some actor → (user_of actor == user) ≡ true → lines_of user (line ∷ lines) ≡ line ∷ lines_of user lines
own_first user line lines actor by own =
    ap (λ is. if is then line ∷ lines_of user lines else lines_of user lines) (ap (λ who. is_owner user (option_map user_of who)) by ∙ own)

other_first : (user : ℕ) (line : LiveLine) (lines : List LiveLine) → is_line_of user line ≡ false → lines_of user (line ∷ lines) ≡ lines_of user lines
other_first user line lines other = ap (λ is. if is then line ∷ lines_of user lines else lines_of user lines) other

-- ---- all lines

-- a line of the user, and what follows it
own_left : (n user : ℕ) (w : World) (line : LiveLine) (lines : List LiveLine) (actor : Actor) → 1 ≤ n → Quiet n w → actor_of line.step ≡ Some actor → (user_of actor == user) ≡ true
    → ((v : World) → Quiet n v → erase_from user v (live_steps v lines) ≡ live_steps (view user v) (lines_of user lines))
    → erase_from user w (followed w (steps_by w line (Some actor)) (λ after. live_steps after lines)) ≡ live_steps (view user w) (lines_of user (line ∷ lines))
unfolding line_steps
own_left n user w line lines actor some q by own later =
    let choose : World → List Step = λ v. steps_by v line (Some actor) in
    let steps = choose w in
    let after = world_after w steps in
    let of : IsOf user (Quiet n) choose w = subst (λ u. IsOf u (Quiet n) choose w) (eqb-true (user_of actor) user own) (line_of_user n w line actor some by q) in
    let rest = live_steps after lines in
    let more = lines_of user lines in
    let left : erase_from user w (steps ++ rest) ≡ steps ++ live_steps (view user after) more =
    erase_append user w steps rest ∙ ((λ i. erased_own user w steps of.own i ++ later after of.after i)) in
    let alone : live_steps (view user w) (line ∷ more) ≡ steps ++ live_steps (view user after) more =
    ap (λ who. followed (view user w) (steps_by (view user w) line who) (λ v. live_steps v more)) by
    ∙ (ap (λ l. followed (view user w) l (λ v. live_steps v more)) of.same ∙ ap (λ v. steps ++ live_steps v more) (view_after user w steps q.reached of.own)) in
    left ∙ sym (ap (live_steps (view user w)) (own_first user line lines actor by own) ∙ alone)

-- a line of another user, and what follows it
other_left : (n user : ℕ) (w : World) (line : LiveLine) (lines : List LiveLine) (actor : Actor) → 1 ≤ n → Quiet n w → actor_of line.step ≡ Some actor → (user_of actor == user) ≡ false
    → ((v : World) → Quiet n v → erase_from user v (live_steps v lines) ≡ live_steps (view user v) (lines_of user lines))
    → erase_from user w (followed w (steps_by w line (Some actor)) (λ after. live_steps after lines)) ≡ live_steps (view user w) (lines_of user (line ∷ lines))
other_left n user w line lines actor some q by other later =
    let steps = steps_by w line (Some actor) in
    let after = world_after w steps in
    let of = line_of_user n w line actor some by q in
    let rest = live_steps after lines in
    let more = lines_of user lines in
    let left : erase_from user w (steps ++ rest) ≡ live_steps (view user after) more =
    erase_append user w steps rest ∙ (λ i. erased_other (user_of actor) user w steps other of.own i ++ later after of.after i) in
    left ∙ (ap (λ v. live_steps v more) (unseen_after (user_of actor) user w steps other of.own)
    ∙ ap (live_steps (view user w)) (sym (other_first user line lines (ap (λ who. is_owner user (option_map user_of who)) by ∙ other))))

line_left : (n user : ℕ) (w : World) (line : LiveLine) (lines : List LiveLine) (actor : Actor) → 1 ≤ n → Quiet n w → actor_of line.step ≡ Some actor
    → ((v : World) → Quiet n v → erase_from user v (live_steps v lines) ≡ live_steps (view user v) (lines_of user lines)) → (is : Bool) → (user_of actor == user) ≡ is
    → erase_from user w (followed w (steps_by w line (Some actor)) (λ after. live_steps after lines)) ≡ live_steps (view user w) (lines_of user (line ∷ lines))
line_left n user w line lines actor some q by later true own = own_left n user w line lines actor some q by own later
line_left n user w line lines actor some q by later false other = other_left n user w line lines actor some q by other later

lines_left : (n user : ℕ) (w : World) (lines : List LiveLine) → 1 ≤ n → Quiet n w → erase_from user w (live_steps w lines) ≡ live_steps (view user w) (lines_of user lines)
unfolding line_steps
lines_left n user w [] some q = refl
lines_left n user w (line ∷ lines) some q = by_actor (λ v quiet. lines_left n user v lines some quiet) (actor_of line.step) refl
  where
    -- the lines that follow are so from any quiet world
    by_actor : ((v : World) → Quiet n v → erase_from user v (live_steps v lines) ≡ live_steps (view user v) (lines_of user lines)) → (who : Option Actor) → actor_of line.step ≡ who
        → erase_from user w (live_steps w (line ∷ lines)) ≡ live_steps (view user w) (lines_of user (line ∷ lines))
    by_actor later None by =
        ap (λ who. erase_from user w (followed w (steps_by w line who) (λ after. live_steps after lines))) by
        ∙ (later w q ∙ ap (live_steps (view user w)) (sym (other_first user line lines (ap (λ who. is_owner user (option_map user_of who)) by))))
    by_actor later (Some actor) by =
        ap (λ who. erase_from user w (followed w (steps_by w line who) (λ after. live_steps after lines))) by
        ∙ line_left n user w line lines actor some q by later (user_of actor == user) refl

-- ---- from boot

-- empty lines have no item
none_at_boot : (n : ℕ) (line : List Queued) → length line ≡ 0 → sum_by length (replicate n line) ≡ 0
none_at_boot zero line empty = refl
none_at_boot (suc n) line empty = let rest = none_at_boot n line empty in omega (arith, rest, empty, sum_by-cons length line (replicate n line))

pub quiet_boot : (config : Configuration) → Quiet config.workers (boot config)
unfolding system.boot
quiet_boot config = record { reached = run_reached machine config []; keeps = keeps_boot machine config; empty = none_at_boot manager_count [] refl; hands = refl }

view_boot : (user : ℕ) (config : Configuration) → view user (boot config) ≡ boot config
view_boot user config = sym (run_world machine config [] user)

pub steps_left : (config : Configuration) (lines : List LiveLine) (user : ℕ) → 1 ≤ config.workers
    → erase user config (live_steps (boot config) lines) ≡ live_steps (boot config) (lines_of user lines)
steps_left config lines user some =
    lines_left config.workers user (boot config) lines some (quiet_boot config) ∙ ap (λ w. live_steps w (lines_of user lines)) (view_boot user config)

-- ---- what is written

written_for : (user : ℕ) (entries : List Entry) → for_user user (written_of entries) ≡ received user entries
written_for user [] = refl
written_for user (entry ∷ entries) = by_actor (actor_of entry.step) (written_for user entries)
  where
    by_actor : (who : Option Actor) → for_user user (written_of entries) ≡ received user entries
        → for_user user (written_by entry.outcome who ++ written_of entries) ≡ seen_by user entry.outcome who ++ received user entries
    by_actor None later = later
    by_actor (Some actor) later =
        let seen : Seen = record { actor = actor; outcome = entry.outcome } in
        cond_both (user_of actor == user) (seen ∷ []) [] (λ l. for_user user (seen ∷ written_of entries) ≡ l ++ received user entries)
        (λ own. rw own (ap (λ l. seen ∷ l) later))
        (λ other. rw other later)

-- of a user's own steps all is written for the user
own_written : (user : ℕ) (w : World) (steps : List Step) → written_of (own_entries user w steps) ≡ received user (own_entries user w steps)
unfolding owner
own_written user w [] = refl
own_written user w (e ∷ steps) =
    let next = (step w e).world in
    let later = own_written user next steps in
    let entry : Entry = record { step = e; outcome = (step w e).outcome } in
    cond_both (is_owner user (owner w e)) (entry ∷ own_entries user next steps) (own_entries user next steps) (λ l. written_of l ≡ received user l)
    (λ own. λ i. by_own w e entry.outcome own i ++ later i)
    (λ other. later)
  where
    by_actor : (w : World) (e : Step) (outcome : Outcome) (who : Option Actor) → is_owner user (owner_of w e who) ≡ true → written_by outcome who ≡ seen_by user outcome who
    by_actor w e outcome None own = refl
    by_actor w e outcome (Some actor) own = rw own refl

    by_own : (w : World) (e : Step) (outcome : Outcome) → is_owner user (owner w e) ≡ true → written_by outcome (actor_of e) ≡ seen_by user outcome (actor_of e)
    by_own w e outcome own = by_actor w e outcome (actor_of e) own

-- ---- a session is a run

pub after_all : (session : Session) (steps : List Step)
    → after_steps session steps ≡ record { world = world_after session.world steps; written = session.written ++ written_of (entries_from session.world steps) }
after_all session [] = λ i. record { world = session.world; written = sym (append-nil session.written) i }
after_all session (e ∷ steps) =
    let next = (step session.world e).world in
    let first = written_by (step session.world e).outcome (actor_of e) in
    after_all (after_step session e) steps
    ∙ ap (λ seen. record { world = world_after next steps; written = seen }) (append_assoc session.written first (written_of (entries_from next steps)))

pub after_both : (session : Session) (xs ys : List Step) → after_steps session (xs ++ ys) ≡ after_steps (after_steps session xs) ys
after_both session [] ys = refl
after_both session (e ∷ xs) ys = after_both (after_step session e) xs ys

pub session_steps : (session : Session) (lines : List LiveLine) → after_lines session lines ≡ after_steps session (live_steps session.world lines)
session_steps session [] = refl
session_steps session (line ∷ lines) =
    let steps = line_steps session.world line in
    let next = after_steps session steps in
    session_steps next lines
    ∙ (ap (λ w. after_steps next (live_steps w lines)) (ap (λ (after : Session). after.world) (after_all session steps))
    ∙ sym (after_both session steps (live_steps (world_after session.world steps) lines)))

pub session_is : (config : Configuration) (lines : List LiveLine)
    → after_lines (begun config) lines ≡ record { world = (run config (live_steps (boot config) lines)).world; written = written_of (run config (live_steps (boot config) lines)).entries }
session_is config lines = session_steps (begun config) lines ∙ after_all (begun config) (live_steps (boot config) lines)

written_is : (config : Configuration) (lines : List LiveLine) → written config lines ≡ written_of (run config (live_steps (boot config) lines)).entries
unfolding written
written_is config lines = ap (λ (after : Session). after.written) (session_is config lines)

pub written_alone : (config : Configuration) (lines : List LiveLine) (user : ℕ) → 1 ≤ config.workers → for_user user (written config lines) ≡ written config (lines_of user lines)
written_alone config lines user some =
    let steps = live_steps (boot config) lines in
    let alone : (run config (live_steps (boot config) (lines_of user lines))).entries ≡ own_entries user (boot config) steps =
    ap (λ l. (run config l).entries) (sym (steps_left config lines user some)) ∙ run_entries machine config steps user in
    ap (for_user user) (written_is config lines)
    ∙ (written_for user (run config steps).entries
    ∙ (run_received machine config steps user
    ∙ (ap (received user) (run_entries machine config steps user)
    ∙ (sym (own_written user (boot config) steps)
    ∙ (ap written_of (sym alone) ∙ sym (written_is config (lines_of user lines)))))))

-- ---- between two lines nothing waits

quiet_after : (n : ℕ) (w : World) (lines : List LiveLine) → 1 ≤ n → Quiet n w → Quiet n (world_after w (live_steps w lines))
unfolding line_steps
quiet_after n w [] some q = q
quiet_after n w (line ∷ lines) some q = by_actor (λ v quiet. quiet_after n v lines some quiet) (actor_of line.step) refl
  where
    by_actor : ((v : World) → Quiet n v → Quiet n (world_after v (live_steps v lines))) → (who : Option Actor) → actor_of line.step ≡ who → Quiet n (world_after w (live_steps w (line ∷ lines)))
    by_actor later None by = subst (λ who. Quiet n (world_after w (followed w (steps_by w line who) (λ after. live_steps after lines)))) (sym by) (later w q)
    by_actor later (Some actor) by =
        let of = line_of_user n w line actor some by q in
        let steps = steps_by w line (Some actor) in
        subst (λ who. Quiet n (world_after w (followed w (steps_by w line who) (λ after. live_steps after lines)))) (sym by)
        (subst (Quiet n) (sym (after_append w steps (live_steps (world_after w steps) lines))) (later (world_after w steps) of.after))

quiet_session : (config : Configuration) (lines : List LiveLine) → 1 ≤ config.workers → Quiet config.workers (after_lines (begun config) lines).world
quiet_session config lines some =
    subst (λ (after : Session). Quiet config.workers after.world) (sym (session_is config lines)) (quiet_after config.workers (boot config) lines some (quiet_boot config))

pub none_waits : (config : Configuration) (lines : List LiveLine) → 1 ≤ config.workers → items_waiting (after_lines (begun config) lines).world ≡ 0
none_waits config lines some = (quiet_session config lines some).empty

pub none_held : (config : Configuration) (lines : List LiveLine) → 1 ≤ config.workers → (after_lines (begun config) lines).world.hands ≡ (boot config).hands
unfolding system.boot
none_held config lines some = (quiet_session config lines some).hands
