-- Nothing is left to be settled between steps.
use Rattle.std.proofs.Common.{◌≡◌, ◌≢◌, ℕ, zero, suc, ◌+◌, List, [], ◌∷◌, Bool, true, false, refl, sym, ap, ◌∙◌, subst, arith}
use Rattle.std.specs.Prelude.{Option, Some, None, Ok, ◌==◌, ◌||◌, not, if◌then◌else◌, slice_set}
use Rattle.std.proofs.lemmas.Bool.{cond_both, eqb-false, eqb-true}
use Rattle.std.proofs.lemmas.Option.{same_Some}
use Rattle.qx_types.specs.Configuration.{Configuration}
use Rattle.qx_types.specs.Step.{actor_of, user_of}
use Rattle.qx_types.specs.declared.names.Actor.{Actor}
use Rattle.qx_types.specs.declared.names.Manager.{Manager}
use Rattle.qx_types.specs.declared.step.Step.{Step}
use Rattle.qx_isolation.specs.declared.rows.Held.{Held}
use Rattle.qx_isolation.specs.declared.rows.OwnItem.{OwnItem}
use Rattle.qx_machine.specs.Laws.{IsSettled}
use Rattle.qx_machine.specs.Machine.{World, boot, boot_parts, client_step, item_to_do, item_to_take, own_held, performed_part, received_part, step, step_end, step_of, with_empty_hand, with_taken}
use Rattle.qx_machine.specs.Parts.{Change, Part}
use Rattle.qx_machine.specs.Processes.{Process, has_ended}
use Rattle.qx_isolation.specs.Rows.{row_at}
use Rattle.qx_machine.specs.Runs.{run, world_after}
use Rattle.qx_isolation.specs.System as system
use Rattle.qx_machine.specs.Settling.{is_kept, is_living, processes_left, row_left, stays}
use Rattle.qx_machine.specs.Users.{boot_part, client, serve, settle_part, take}
use Rattle.qx_machine.specs.Waiting.{Pipes}
use Rattle.qx_isolation.proofs.Changes.{own_held-view, own_hand-emptied_other, own_hand-put_other}
use Rattle.qx_machine.proofs.NotifyLemmas.{settled-unchanged}
use Rattle.qx_isolation.proofs.Places.{row_at-set_other}
use Rattle.qx_isolation.proofs.Workers.{after_doing, after_taking, holds, server_leaves, takes}

-- ---- processes that have ended

module _ (held : List OwnItem) (pipes : Pipes) where
  row_left-twice : (number : ℕ) (row : Option Process) → row_left held pipes number (row_left held pipes number row) ≡ row_left held pipes number row
  row_left-twice number None = refl
  row_left-twice number (Some process) =
      cond_both (stays held pipes number process) (Some process) None (λ row. row_left held pipes number row ≡ row) (λ stay. rw stay refl) (λ go. refl)

  left-twice : (number : ℕ) (rows : List (Option Process)) → processes_left held pipes number (processes_left held pipes number rows) ≡ processes_left held pipes number rows
  left-twice number [] = refl
  left-twice number (row ∷ rows) = λ i. row_left-twice number row i ∷ left-twice (number + 1) rows i

  -- a row that is left stays
  pub row_at-left : (first number : ℕ) (rows : List (Option Process)) → row_at (processes_left held pipes first rows) number ≡ row_left held pipes (first + number) (row_at rows number)
  row_at-left first number [] = refl
  row_at-left first zero (row ∷ rows) = ap (λ n. row_left held pipes n row) (omega arith)
  row_at-left first (suc number) (row ∷ rows) = row_at-left (first + 1) number rows ∙ ap (λ n. row_left held pipes n (row_at rows number)) (omega arith)

  left-stays : (number : ℕ) (process : Process) (stay : Bool) → stays held pipes number process ≡ stay → row_left held pipes number (Some process) ≡ Some process → stays held pipes number process ≡ true
  left-stays number process true is left = is
  left-stays number process false is left = let gone : None ≡ Some process = subst (λ b. (if b then Some process else None) ≡ Some process) is left in absurd (cc)

-- ---- settling again

-- rows that did not change have nothing due, so only processes that have ended may be left to be freed
pub same_settled : (part : Part) (held : List OwnItem) → processes_left held part.resources.pipes 0 part.processes ≡ part.processes → settle_part part held part ≡ part
unfolding settle_part
same_settled part held left = λ i. record { processes = left i; resources = record part.resources { events = settled-unchanged (is_living part.processes) part.resources part.resources refl refl i } }

left_after : (before after : Part) (held : List OwnItem) → processes_left held (settle_part before held after).resources.pipes 0 (settle_part before held after).processes ≡ (settle_part before held after).processes
unfolding settle_part
left_after before after held = left-twice held after.resources.pipes 0 after.processes

settled_again : (before after : Part) (held : List OwnItem) → settle_part (settle_part before held after) held (settle_part before held after) ≡ settle_part before held after
settled_again before after held = same_settled (settle_part before held after) held (left_after before after held)

-- ---- one step

-- the rows of all other users have nothing to be settled
abbrev SettledBut : ℕ → World → Type 0
SettledBut user w = (other : ℕ) (part : Part) → other ≢ user → row_at w.parts other ≡ Some part → settle_part part (own_held other w.hands) part ≡ part

pub row_at-set_same : {A : Type 0} (places : List (Option A)) (i : ℕ) (row : Option A) (there : A) → row_at (slice_set places i row) i ≡ Some there → row ≡ Some there
row_at-set_same [] i row there is = absurd (cc)
row_at-set_same (x ∷ places) zero row there is = is
row_at-set_same (x ∷ places) (suc i) row there is = row_at-set_same places i row there is

end_at : (user : ℕ) (before after : Part) (changes : List Change) (w : World) → SettledBut user w → (other : ℕ) (part : Part) (same : Bool) → (other == user) ≡ same
    → row_at (step_end user before after changes w).parts other ≡ Some part → settle_part part (own_held other w.hands) part ≡ part
end_at user before after changes w h other part true own here =
    let is : other ≡ user = eqb-true other user own in
    let put : settle_part before (own_held user w.hands) after ≡ part =
    same_Some _ _ (row_at-set_same w.parts user _ part (subst (λ n. row_at (slice_set w.parts user (Some (settle_part before (own_held user w.hands) after))) n ≡ Some part) is here)) in
    subst (λ n. settle_part part (own_held n w.hands) part ≡ part) (sym is)
    (subst (λ p. settle_part p (own_held user w.hands) p ≡ p) put (settled_again before after (own_held user w.hands)))
end_at user before after changes w h other part false differ here =
    let apart : other ≢ user = eqb-false other user differ in
    h other part apart (sym (row_at-set_other w.parts user other _ apart) ∙ here)

settled_end : (user : ℕ) (before after : Part) (changes : List Change) (w : World) → SettledBut user w → IsSettled (step_end user before after changes w)
settled_end user before after changes w h other part here = end_at user before after changes w h other part (other == user) refl here

settled_client : (w : World) (user : ℕ) (e : Step) (row : Option Part) → IsSettled w → IsSettled (client_step w user e row).world
settled_client w user e None h = h
settled_client w user e (Some part) h =
    let given = client w.config user (own_held user w.hands) part e in
    settled_end user part given.part given.changes w (λ other part apart here. h other part here)

-- ---- a worker's step

differs_by : (one other : ℕ) (same : Bool) → (one == other) ≡ same → other ≢ one → (one == other) ≡ false
differs_by one other true is apart = absurd (apart (sym (eqb-true one other is)))
differs_by one other false is apart = is

differs : (one other : ℕ) → other ≢ one → (one == other) ≡ false
differs one other apart = differs_by one other (one == other) refl apart

-- where the user has no rows, all others are all
no_row : (user : ℕ) (w : World) → row_at w.parts user ≡ None → SettledBut user w → IsSettled w
no_row user w none h other part here =
    h other part (λ same. let there = sym none ∙ subst (λ n. row_at w.parts n ≡ Some part) same here in absurd (cc)) here

settled_received : (w : World) (taken : Held) (row : Option Part) → row_at w.parts taken.user.0 ≡ row → SettledBut taken.user.0 w → IsSettled (received_part w taken row)
settled_received w taken None here h = no_row taken.user.0 w here h
settled_received w taken (Some part) here h = settled_end taken.user.0 part (take part taken.item) [] w h

settled_taking : (w : World) (worker : ℕ) (manager : Manager) (taken : Held) → IsSettled w → item_to_take w worker manager ≡ Ok taken → IsSettled (after_taking w worker manager taken).world
settled_taking w worker manager taken h is =
    settled_received (with_taken w worker manager taken) taken (row_at w.parts taken.user.0) refl (λ other part apart here.
    let same : own_held other (slice_set w.hands worker (Some taken)) ≡ own_held other w.hands =
    sym (own_held-view other (slice_set w.hands worker (Some taken)))
    ∙ (ap (own_held other) (own_hand-put_other other worker taken w.hands (takes w worker manager taken is).free (differs taken.user.0 other apart)) ∙ own_held-view other w.hands) in
    ap (λ held. settle_part part held part) same ∙ h other part here)

settled_performed : (w : World) (held : Held) (moment : ℕ) (row : Option Part) → row_at w.parts held.user.0 ≡ row → SettledBut held.user.0 w → IsSettled (performed_part w held moment row)
settled_performed w held moment None here h = no_row held.user.0 w here h
settled_performed w held moment (Some part) here h =
    let given = serve w.config held.user.0 (own_held held.user.0 w.hands) part held.item moment in
    settled_end held.user.0 part given.part given.changes w h

settled_doing : (w : World) (worker moment : ℕ) (held : Held) → IsSettled w → item_to_do w worker ≡ Ok held → IsSettled (after_doing w worker moment held).world
settled_doing w worker moment held h is =
    settled_performed (with_empty_hand w worker) held moment (row_at w.parts held.user.0) refl (λ other part apart here.
    let same : own_held other (slice_set w.hands worker None) ≡ own_held other w.hands =
    sym (own_held-view other (slice_set w.hands worker None))
    ∙ (ap (own_held other) (own_hand-emptied_other other worker held w.hands (holds w worker held is) (differs held.user.0 other apart)) ∙ own_held-view other w.hands) in
    ap (λ items. settle_part part items part) same ∙ h other part here)

-- ---- any step

settled_of : (w : World) (e : Step) (by : Option Actor) → IsSettled w → IsSettled (step_of w e by).world
settled_of w e None h = server_leaves w e IsSettled h (λ worker manager taken is. settled_taking w worker manager taken h is) (λ worker moment held is. settled_doing w worker moment held h is)
settled_of w e (Some actor) h = settled_client w (user_of actor) e (row_at w.parts (user_of actor)) h

pub settled_step : (w : World) (e : Step) → IsSettled w → IsSettled (step w e).world
unfolding step
settled_step w e h = settled_of w e (actor_of e) h

-- ---- runs

settled_boot_part : (config : Configuration) (user : ℕ) (held : List OwnItem) → settle_part (boot_part config user) held (boot_part config user) ≡ boot_part config user
unfolding boot_part
settled_boot_part config user held = same_settled _ held refl

boot_row : (config : Configuration) (first : ℕ) (names : List (List ℕ)) (user : ℕ) (part : Part) (held : List OwnItem) → row_at (boot_parts config first names) user ≡ Some part → settle_part part held part ≡ part
boot_row config first [] user part held here = absurd (cc)
boot_row config first (name ∷ names) zero part held here = subst (λ p. settle_part p held p ≡ p) (same_Some _ _ here) (settled_boot_part config first held)
boot_row config first (name ∷ names) (suc user) part held here = boot_row config (first + 1) names user part held here

settled_boot : (config : Configuration) → IsSettled (boot config)
unfolding system.boot
settled_boot config zero part here = absurd (cc)
settled_boot config (suc user) part here = boot_row config 1 config.users user part _ here

settled_after : (w : World) (steps : List Step) → IsSettled w → IsSettled (world_after w steps)
settled_after w [] h = h
settled_after w (e ∷ steps) h = settled_after (step w e).world steps (settled_step w e h)

pub run_settled : (config : Configuration) (steps : List Step) → IsSettled (run config steps).world
run_settled config steps = settled_after (boot config) steps (settled_boot config)

-- ---- what is left of a process that has ended

pub settled-left : (part : Part) (held : List OwnItem) → settle_part part held part ≡ part → processes_left held part.resources.pipes 0 part.processes ≡ part.processes
unfolding settle_part
settled-left part held same = ap (λ p. p.processes) same

kept-by : (a b : Bool) → a ≡ true → (not a || b) ≡ true → b ≡ true
kept-by true b ended stay = stay
kept-by false b ended stay = absurd (cc)

pub ended_kept : (config : Configuration) (steps : List Step) (user : ℕ) (part : Part) (number : ℕ) (process : Process) → row_at (run config steps).world.parts user ≡ Some part → row_at part.processes number ≡ Some process
    → has_ended process ≡ true → is_kept (own_held user (run config steps).world.hands) part.resources.pipes number process ≡ true
ended_kept config steps user part number process here row ended =
    let held = own_held user (run config steps).world.hands in
    let pipes = part.resources.pipes in
    let left : row_left held pipes number (Some process) ≡ Some process =
    ap (row_left held pipes number) (sym row) ∙ (sym (row_at-left held pipes 0 number part.processes ∙ ap (λ n. row_left held pipes n (row_at part.processes number)) (omega arith))
    ∙ (ap (λ rows. row_at rows number) (settled-left part held (run_settled config steps user part here)) ∙ row)) in
    kept-by (has_ended process) (is_kept held pipes number process) ended (left-stays held pipes number process (stays held pipes number process) refl left)
