-- A sound world: a user in it, by the columns of which the rows are put together, and the world after a step.
use Rattle.std.proofs.Common.{◌≡◌, inl, inr, ℕ, zero, suc, get_or, List, [], ◌∷◌, ◌++◌, Option, Some, None, is_some, refl, sym, subst, ap, ◌∙◌}
use Rattle.std.specs.Prelude.{slice_set}
use Rattle.std.proofs.lemmas.Bool.{false≢true}
use Rattle.qx_types.specs.Configuration.{Configuration}
use Rattle.qx_types.specs.declared.step.Step.{Step}
use Rattle.qx_isolation.specs.declared.rows.Held.{Held}
use Rattle.qx_machine.specs.Laws.{IsSettled}
use Rattle.qx_machine.specs.Machine.{World, boot, own_held, step}
use Rattle.qx_machine.specs.Processes.{Process}
use Rattle.qx_machine.specs.Resources.{Resources}
use Rattle.qx_isolation.specs.Rows.{row_at}
use Rattle.qx_machine.proofs.Runs.{world_after-append}
use Rattle.qx_machine.proofs.Settled.{run_settled, settled-left}
use Rattle.qx_rows.proofs.RowLemmas.{set-row}
use Rattle.qx_resources.specs.State.{told, Kept}
use Rattle.qx_chan.specs.Channel.{Channel, lists}
use Rattle.qx_chan.proofs.RowReads.{option_cases}
use Rattle.qx_steps.specs.inner.Parts.{parts_of, told_all, world_of, AreResourcesOf, IsSound}
use Rattle.qx_steps.proofs.LeftLemmas.{AreLeft}
use Rattle.qx_steps.proofs.PartsLemmas.{mapped-put, part-none, parts-set_both, parts-set_processes, row_at-parts, told-there}

-- nothing is left to be settled in a sound world
pub settled_sound : (config : Configuration) (c : Channel) (ks : List (Option Kept)) (hands : List (Option Held)) → IsSound config c ks hands → IsSettled (world_of config c ks hands)
settled_sound config c ks hands sound = subst IsSettled (sym sound.reached) (run_settled config sound.steps)

-- a user's rows, by the columns of which they are put together
part-there : (c : Channel) (ks : List (Option Kept)) → AreResourcesOf c ks → (user : ℕ) (ps : List (Option Process)) → row_at c.users user ≡ Some ps
    → (k : Kept) × ((row_at ks user ≡ Some k) × (row_at (parts_of c.users (told_all c ks)) user ≡ Some (record { processes = ps; resources = told k (lists c) })))
part-there c ks of user ps there = elim (option_cases (row_at ks user)) [
  | inl none ↦ absurd (false≢true (sym (ap is_some none) ∙ (sym (of.same user) ∙ ap is_some there)))
  | inr k ↦ (k.0, (k.1, row_at-parts c.users (told_all c ks) user ∙ rw (there, told-there c ks user k.0 k.1) refl))
]

module _ (config : Configuration) (c : Channel) (ks : List (Option Kept)) (hands : List (Option Held)) (sound : IsSound config c ks hands) where
  -- ---- a user

  abbrev w : World
  w = world_of config c ks hands

  -- a user who is there
  pub record Owner (user : ℕ) (ps : List (Option Process)) : Type 0 where
    pub k : Kept
    pub users : row_at c.users user ≡ Some ps
    pub kept : row_at ks user ≡ Some k
    pub own : k.user ≡ user
    pub resources : row_at (told_all c ks) user ≡ Some (told k (lists c))
    pub part : row_at w.parts user ≡ Some (record { processes = ps; resources = told k (lists c) })
    pub left : AreLeft (own_held user hands) (told k (lists c)).pipes 0 ps

  pub owner : (user : ℕ) (ps : List (Option Process)) → row_at c.users user ≡ Some ps → Owner user ps
  owner user ps there =
      let its = part-there c ks sound.users user ps there in
      record {
        k = its.0;
        users = there;
        kept = its.1.0;
        own = sound.users.own user its.0 its.1.0;
        resources = told-there c ks user its.0 its.1.0;
        part = its.1.1;
        left = settled-left (record { processes = ps; resources = told its.0 (lists c) }) (own_held user hands) (settled_sound config c ks hands sound user (record { processes = ps; resources = told its.0 (lists c) }) its.1.1);
      }

  pub nobody : (user : ℕ) → row_at c.users user ≡ None → row_at w.parts user ≡ None
  nobody user none = part-none c.users (told_all c ks) user none

  -- ---- the world after a step

  pub sound-step : (d : Channel) (ls : List (Option Kept)) (after : List (Option Held)) (e : Step) → AreResourcesOf d ls → world_of config d ls after ≡ (step w e).world → IsSound config d ls after
  sound-step d ls after e users is = record {
    users = users;
    steps = sound.steps ++ e ∷ [];
    reached = is ∙ (ap (λ world. (step world e).world) sound.reached ∙ sym (world_after-append (boot config) sound.steps e));
  }

  -- memory was refused once there was room for nodes
  pub sound-room : (room : ℕ) → IsSound config (record c { room = room }) ks hands
  sound-room room = record { users = record { same = sound.users.same; own = sound.users.own; mounts = sound.users.mounts }; steps = sound.steps; reached = sound.reached }

  -- the user's processes change
  pub others_kept : (user : ℕ) (ps : List (Option Process)) (o : Owner user ps) (after : List (Option Process)) → parts_of (slice_set c.users user (Some after)) (told_all c ks) ≡ slice_set w.parts user (Some (record { processes = after; resources = told o.k (lists c) }))
  others_kept user ps o after = parts-set_processes c.users (told_all c ks) user after (told o.k (lists c)) o.resources

  -- the user's resources are told otherwise, and the others' as before
  pub told_otherwise : (user : ℕ) (ps : List (Option Process)) (o : Owner user ps) (d : Channel) (after : List (Option Process)) (r : Resources) → d.users ≡ slice_set c.users user (Some after) → told o.k (lists d) ≡ r
      → ((other : ℕ) (m : Kept) → row_at ks other ≡ Some m → ¬ (other ≡ user) → told m (lists d) ≡ told m (lists c)) → parts_of d.users (told_all d ks) ≡ slice_set w.parts user (Some (record { processes = after; resources = r }))
  told_otherwise user ps o d after r users is others =
      let all : told_all d ks ≡ slice_set (told_all c ks) user (Some r) =
      ap (told_all d) (sym (set-row ks user o.k o.kept))
      ∙ (mapped-put (λ m. told m (lists d)) (λ m. told m (lists c)) ks user o.k others ∙ ap (λ new. slice_set (told_all c ks) user (Some new)) is)
      in
      (λ i. parts_of (users i) (all i)) ∙ parts-set_both c.users (told_all c ks) user after r

-- what is set where something is read, or nothing where nothing is there to be set
pub get-set : {A : Type 0} (change : A → A) (none : A) → change none ≡ none → (xs : List A) (i : ℕ) → get_or (slice_set xs i (change (get_or xs i none))) i none ≡ change (get_or xs i none)
get-set change none same [] i = sym same
get-set change none same (x ∷ xs) zero = refl
get-set change none same (x ∷ xs) (suc i) = get-set change none same xs i

-- ---- at boot

pub sound-boot : (config : Configuration) (c : Channel) (ks : List (Option Kept)) (hands : List (Option Held)) → AreResourcesOf c ks → world_of config c ks hands ≡ boot config → IsSound config c ks hands
sound-boot config c ks hands of is = record { users = of; steps = []; reached = is }
