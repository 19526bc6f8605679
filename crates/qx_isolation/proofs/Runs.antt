-- Runs: what the run without the steps that are not a user's gives that user.
use Rattle.std.proofs.Common.{◌≡◌, ℕ, zero, suc, List, [], ◌∷◌, ◌++◌, refl, sym, ap, ◌∙◌}
use Rattle.std.specs.Prelude.{None, map, replicate}
use Rattle.std.proofs.lemmas.Bool.{cond_both}
use Rattle.std.proofs.lemmas.List.Elements.{All-replicate}
use Rattle.qx_types.specs.Configuration.{Configuration}
use Rattle.qx_types.specs.declared.step.Step.{Step}
use Rattle.qx_isolation.specs.declared.rows.Entry.{Entry}
use Rattle.qx_isolation.specs.System.{IsInOrder, own_entries}
use Rattle.qx_isolation.specs.System.{Behaviour, boot, boot_parts, entries_from, erase, erase_from, is_owner, own_hand, own_line, owner, rank, received, run, seen_by, step, view, World, world_after}
use Rattle.qx_types.specs.Step.{actor_of}
use Rattle.qx_types.specs.Managers.{manager_count}
use Rattle.qx_isolation.proofs.Orders.{in_order_none}
use Rattle.qx_isolation.proofs.Places.{set-row_at}
use Rattle.qx_isolation.proofs.Steps.{reached_step, step_own, step_other, owner_own, seen_other}
use Rattle.qx_isolation.proofs.Views.{IsReached}

module _ {Part : Type 0} (b : Behaviour Part) where
  -- boot

  reached_boot : (config : Configuration) → IsReached (boot b config)
  unfolding boot
  reached_boot config = record { lines = All-replicate (IsInOrder rank) manager_count [] (in_order_none rank); parts = refl }

own_hand-replicate : (user workers : ℕ) → map (own_hand user) (replicate workers None) ≡ replicate workers None
own_hand-replicate user zero = refl
own_hand-replicate user (suc workers) = ap (λ hands. None ∷ hands) (own_hand-replicate user workers)

own_line-replicate : (user lines : ℕ) → map (own_line user) (replicate lines []) ≡ replicate lines []
own_line-replicate user zero = refl
own_line-replicate user (suc lines) = ap (λ rest. [] ∷ rest) (own_line-replicate user lines)

module _ {Part : Type 0} (b : Behaviour Part) where
  view-boot : (user : ℕ) (config : Configuration) → view user (boot b config) ≡ boot b config
  unfolding view boot
  view-boot user config = λ i. record {
    config = config;
    parts = set-row_at (None ∷ boot_parts b config 1 config.users) user i;
    lines = own_line-replicate user manager_count i;
    hands = None ∷ own_hand-replicate user config.workers i;
  }

module _ {Part : Type 0} {b : Behaviour Part} where
  reached_after : (w : World b) (steps : List Step) → IsReached w → IsReached (world_after w steps)
  reached_after w [] h = h
  reached_after w (e ∷ steps) h = reached_after (step w e).world steps (reached_step w e h)

  -- from any world that a run reaches

  world_own : (user : ℕ) (w : World b) (steps : List Step) → IsReached w → world_after (view user w) (erase_from user w steps) ≡ view user (world_after w steps)
  world_own user w [] h = refl
  world_own user w (e ∷ steps) h =
      let next = (step w e).world in
      let rest = erase_from user next steps in
      let later = world_own user next steps (reached_step w e h) in
      cond_both (is_owner user (owner w e)) (e ∷ rest) rest (λ l. world_after (view user w) l ≡ view user (world_after next steps))
      (λ own. ap (λ after. world_after after.world rest) (step_own w user e h own) ∙ later)
      (λ other. ap (λ v. world_after v rest) (sym (step_other w user e other)) ∙ later)

  entries_own : (user : ℕ) (w : World b) (steps : List Step) → IsReached w → entries_from (view user w) (erase_from user w steps) ≡ own_entries user w steps
  entries_own user w [] h = refl
  entries_own user w (e ∷ steps) h =
      let next = (step w e).world in
      let rest = erase_from user next steps in
      let later = entries_own user next steps (reached_step w e h) in
      cond_both (is_owner user (owner w e)) (e ∷ rest) rest (λ l. entries_from (view user w) l ≡ own_entries user w (e ∷ steps))
      (λ own. let same = step_own w user e h own in
      rw own (λ i. record { step = e; outcome = (same i).outcome } ∷ (ap (λ after. entries_from after.world rest) same ∙ later) i))
      (λ other. rw other (ap (λ v. entries_from v rest) (sym (step_other w user e other)) ∙ later))

  erased_own : (user : ℕ) (w : World b) (steps : List Step) → IsReached w → erase_from user (view user w) (erase_from user w steps) ≡ erase_from user w steps
  erased_own user w [] h = refl
  erased_own user w (e ∷ steps) h =
      let next = (step w e).world in
      let rest = erase_from user next steps in
      let later = erased_own user next steps (reached_step w e h) in
      cond_both (is_owner user (owner w e)) (e ∷ rest) rest (λ l. erase_from user (view user w) l ≡ l)
      (λ own. rw (ap (is_owner user) (owner_own w user e own) ∙ own) (ap (λ l. e ∷ l) (ap (λ after. erase_from user after.world rest) (step_own w user e h own) ∙ later)))
      (λ other. ap (λ v. erase_from user v rest) (sym (step_other w user e other)) ∙ later)

  received_own : (user : ℕ) (w : World b) (steps : List Step) → received user (entries_from w steps) ≡ received user (own_entries user w steps)
  received_own user w [] = refl
  received_own user w (e ∷ steps) =
      let next = (step w e).world in
      let entry : Entry = record { step = e; outcome = (step w e).outcome } in
      let later = received_own user next steps in
      cond_both (is_owner user (owner w e)) (entry ∷ own_entries user next steps) (own_entries user next steps) (λ l. received user (entry ∷ entries_from next steps) ≡ received user l)
      (λ own. ap (λ l. seen_by user entry.outcome (actor_of e) ++ l) later)
      (λ other. rw (seen_other w user e entry.outcome other) later)

module _ {Part : Type 0} (b : Behaviour Part) where
  -- from boot

  pub run_entries : (config : Configuration) (steps : List Step) (user : ℕ) → (run b config (erase b user config steps)).entries ≡ own_entries user (boot b config) steps
  run_entries config steps user = ap (λ w. entries_from w (erase b user config steps)) (sym (view-boot b user config)) ∙ entries_own user (boot b config) steps (reached_boot b config)

  pub run_world : (config : Configuration) (steps : List Step) (user : ℕ) → (run b config (erase b user config steps)).world ≡ view user (run b config steps).world
  run_world config steps user = ap (λ w. world_after w (erase b user config steps)) (sym (view-boot b user config)) ∙ world_own user (boot b config) steps (reached_boot b config)

  pub run_received : (config : Configuration) (steps : List Step) (user : ℕ) → received user (run b config steps).entries ≡ received user (run b config (erase b user config steps)).entries
  run_received config steps user = received_own user (boot b config) steps ∙ ap (received user) (sym (run_entries config steps user))

  pub run_erased : (config : Configuration) (steps : List Step) (user : ℕ) → erase b user config (erase b user config steps) ≡ erase b user config steps
  run_erased config steps user = ap (λ w. erase_from user w (erase b user config steps)) (sym (view-boot b user config)) ∙ erased_own user (boot b config) steps (reached_boot b config)

  pub run_reached : (config : Configuration) (steps : List Step) → IsReached (run b config steps).world
  run_reached config steps = reached_after (boot b config) steps (reached_boot b config)
