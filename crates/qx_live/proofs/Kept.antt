-- What each step keeps, and what a receive and a perform of the first worker come to.
use Rattle.std.proofs.Common.{◌≡◌, ℕ, ◌+◌, ◌≤◌, ◌<◌, true, List, [], ◌∷◌, length, refl, ap, ◌∙◌, arith, slice_set}
use Rattle.std.specs.Prelude.{Option, Some, None}
use Rattle.std.proofs.lemmas.Grind.{common_steps}
use Rattle.std.proofs.lemmas.List.{length-replicate, length-set}
use Rattle.qx_types.specs.Configuration.{Configuration}
use Rattle.qx_types.specs.Managers.{manager_count, manager_number}
use Rattle.qx_types.specs.Step.{actor_of, user_of}
use Rattle.qx_types.specs.declared.names.Actor.{Actor}
use Rattle.qx_types.specs.declared.names.Manager.{Manager}
use Rattle.qx_types.specs.declared.step.Step.{Step}
use Rattle.qx_types.specs.declared.step.Step.TheVariants.{Receive, Perform}
use Rattle.qx_isolation.specs.Lines.{with_line}
use Rattle.qx_isolation.specs.Rows.{row_at}
use Rattle.qx_isolation.specs.System.{Behaviour, Change, World, boot, changed_manager, client_step, is_worker, line_after, line_of, lines_after, own_held, performed_part, received_part, server_step, step, step_end, step_of, with_empty_hand, with_taken, world_after}
use Rattle.qx_isolation.specs.declared.rows.Held.{Held}
use Rattle.qx_isolation.specs.declared.rows.Queued.{Queued}
use Rattle.qx_isolation.proofs.Workers.{after_doing, after_item, after_taking, item_done, item_taken, server_leaves}
use Rattle.qx_live.specs.Chosen.{first_worker}

lines_kept : (user : ℕ) (lines : List (List Queued)) (changes : List Change) → length (lines_after user lines changes) ≡ length lines
lines_kept user lines [] = refl
lines_kept user lines (change ∷ changes) =
    lines_kept user (with_line lines (manager_number (changed_manager change)) (line_after user change)) changes ∙ length-set lines _ _

pub at_one : {A : Type 0} (places : List (Option A)) (row : Option A) → 1 < length places → row_at (slice_set places 1 row) 1 ≡ row
at_one [] row room = absurd (omega arith)
at_one (first ∷ []) row room = absurd (omega arith)
at_one (first ∷ second ∷ rest) row room = refl

module _ {Part : Type 0} {b : Behaviour Part} where
  -- what each step keeps: the number of workers, a place for each one's hand and a line for each manager
  pub record Keeps (w : World b) (workers : ℕ) : Type 0 where
    pub same : w.config.workers ≡ workers
    pub hands : length w.hands ≡ workers + 1
    pub lines : length w.lines ≡ manager_count

  acts : (n : ℕ) (w : World b) (user : ℕ) (before after : Part) (changes : List Change) → Keeps w n → Keeps (step_end user before after changes w) n
  acts n w user before after changes k = record { same = k.same; hands = k.hands; lines = lines_kept user w.lines changes ∙ k.lines }

  client : (n : ℕ) (w : World b) (user : ℕ) (e : Step) (part : Option Part) → Keeps w n → Keeps (client_step w user e part).world n
  client n w user e None k = k
  client n w user e (Some part) k = acts n w user part _ (b.client w.config user (own_held user w.hands) part e).changes k

  taken : (n : ℕ) (w : World b) (worker : ℕ) (manager : Manager) (held : Held) → Keeps w n → Keeps (with_taken w worker manager held) n
  taken n w worker manager held k = record { same = k.same; hands = simp length-set k.hands; lines = length-set w.lines _ _ ∙ k.lines }

  given : (n : ℕ) (w : World b) (held : Held) (part : Option Part) → Keeps w n → Keeps (received_part w held part) n
  given n w held None k = k
  given n w held (Some part) k = acts n w held.user.0 part _ [] k

  done : (n : ℕ) (w : World b) (held : Held) (moment : ℕ) (part : Option Part) → Keeps w n → Keeps (performed_part w held moment part) n
  done n w held moment None k = k
  done n w held moment (Some part) k =
      acts n w held.user.0 part _ (b.serve w.config held.user.0 (own_held held.user.0 w.hands) part held.item moment).changes k

  emptied : (n : ℕ) (w : World b) (worker : ℕ) → Keeps w n → Keeps (with_empty_hand w worker) n
  emptied n w worker k = record { same = k.same; hands = simp length-set k.hands; lines = k.lines }

  server : (n : ℕ) (w : World b) (e : Step) → Keeps w n → Keeps (server_step w e).world n
  server n w e k = server_leaves w e (λ v. Keeps v n) k
      (λ worker manager held is. given n _ held (row_at w.parts held.user.0) (taken n w worker manager held k))
      (λ worker moment held is. done n _ held moment (row_at w.parts held.user.0) (emptied n w worker k))

  by : (n : ℕ) (w : World b) (e : Step) (actor : Option Actor) → Keeps w n → Keeps (step_of w e actor).world n
  by n w e None k = server n w e k
  by n w e (Some actor) k = client n w (user_of actor) e (row_at w.parts (user_of actor)) k

  pub kept : (n : ℕ) (w : World b) (e : Step) → Keeps w n → Keeps (step w e).world n
  unfolding step
  kept n w e k = by n w e (actor_of e) k

  pub kept_after : (n : ℕ) (w : World b) (steps : List Step) → Keeps w n → Keeps (world_after w steps) n
  kept_after n w [] k = k
  kept_after n w (e ∷ steps) k = kept_after n (step w e).world steps (kept n w e k)

  pub is_first : (n : ℕ) (w : World b) → 1 ≤ n → Keeps w n → is_worker w.config 1 ≡ true
  is_first n w some k = let more : 1 ≤ w.config.workers = omega (arith, k.same) in grind (arith, common_steps)

  pub received_is : (n : ℕ) (w : World b) (manager : Manager) (first : Queued) (rest : List Queued) → 1 ≤ n → Keeps w n → row_at w.hands 1 ≡ None → line_of w manager ≡ first ∷ rest
      → (step w (Receive first_worker manager)).world ≡ (after_taking w 1 manager (record { user = first.user; item = first.item })).world
  unfolding step
  received_is n w manager first rest some k free e =
      ap (λ item. (after_item w item (after_taking w 1 manager)).world) (item_taken w 1 manager first rest (is_first n w some k) free e)

  pub performed_is : (n : ℕ) (w : World b) (moment : ℕ) (held : Held) → 1 ≤ n → Keeps w n → row_at w.hands 1 ≡ Some held
      → (step w (Perform first_worker moment)).world ≡ (after_doing w 1 moment held).world
  unfolding step
  performed_is n w moment held some k full = ap (λ item. (after_item w item (after_doing w 1 moment)).world) (item_done w 1 held (is_first n w some k) full)

  pub given_lines : (w : World b) (held : Held) (part : Option Part) → (received_part w held part).lines ≡ w.lines
  given_lines w held None = refl
  given_lines w held (Some part) = refl

  pub given_hands : (w : World b) (held : Held) (part : Option Part) → (received_part w held part).hands ≡ w.hands
  given_hands w held None = refl
  given_hands w held (Some part) = refl

  pub performed_hands : (w : World b) (held : Held) (moment : ℕ) (part : Option Part) → (performed_part w held moment part).hands ≡ w.hands
  performed_hands w held moment None = refl
  performed_hands w held moment (Some part) = refl

pub keeps_boot : {Part : Type 0} (b : Behaviour Part) (config : Configuration) → Keeps (boot b config) config.workers
unfolding boot
keeps_boot b config = record { same = refl; hands = simp length-replicate (omega arith); lines = length-replicate manager_count [] }
