-- A step that mounts: how it is judged, and what it comes to.
use Rattle.std.proofs.Common.{◌≡◌, inl, inr, ℕ, zero, suc, List, [], ◌∷◌, true, false, Option, Some, None, Result, Ok, Err, refl, sym, ap, ◌∙◌}
use Rattle.std.specs.Prelude.{IfOk, option_map, slice_set}
use Rattle.std.proofs.lemmas.Bool.{false≢true}
use Rattle.qx_types.specs.Configuration.{Configuration, name_bytes}
use Rattle.qx_base.specs.declared.errno.Errno.{Errno}
use Rattle.qx_types.specs.declared.names.Manager.{Manager}
use Rattle.qx_types.specs.declared.names.Thread.{Thread}
use Rattle.qx_types.specs.declared.outcome.Outcome.{Outcome}
use Rattle.qx_types.specs.declared.outcome.Outcome.TheVariants.{Done, WrongState}
use Rattle.qx_types.specs.declared.step.Step.TheVariants.{Mount}
use Rattle.std.proofs.lemmas.List.{get_or-set_other, get_or-set_same, length-set}
use Rattle.qx_paths.specs.Mounts.{mount_fault, mounted, mounts_of, with_mount_of}
use Rattle.qx_paths.specs.Prefixes.{MountPoint}
use Rattle.qx_isolation.specs.declared.rows.Held.{Held}
use Rattle.qx_machine.specs.Calls.{is_ready}
use Rattle.qx_machine.specs.Clients.{mount_by, or_unchanged}
use Rattle.qx_isolation.specs.Judgements.{or_refused}
use Rattle.qx_machine.specs.Laws.{IsSettled}
use Rattle.qx_machine.specs.Machine.{World, client_end, own_held, step}
use Rattle.qx_machine.specs.Mounting.{new_mount, with_mount}
use Rattle.qx_machine.specs.Parts.{Part, thread_of}
use Rattle.qx_machine.specs.Resources.{Resources}
use Rattle.qx_machine.specs.Processes.{Process}
use Rattle.qx_isolation.specs.Rows.{row_at, with_row}
use Rattle.qx_machine.specs.Users.{client}
use Rattle.qx_isolation.proofs.Places.{set-row_at}
use Rattle.qx_machine.proofs.Settled.{settled-left}
use Rattle.qx_resources.specs.Mounts as mounts
use Rattle.qx_resources.specs.Mounts.{with_new_root}
use Rattle.qx_resources.specs.State.{told, Kept}
use Rattle.qx_chan.specs.Channel.{Channel, lists}
use Rattle.qx_steps.specs.inner.Parts.{part_of, parts_of, told_all, world_of, AreResourcesOf, IsSound}
use Rattle.qx_steps.specs.inner.Reads.{is_thread_ready}
use Rattle.qx_machine.specs.Reads.{process_of_part, row_among_parts}
use Rattle.qx_steps.specs.inner.Steps.{after_mount, mount_from, mount_in, CanMount, IsMountable, IsMounting}
use Rattle.qx_chan.proofs.RowReads.{option_cases}
use Rattle.qx_steps.proofs.LeftLemmas.{AreLeft}
use Rattle.qx_steps.proofs.OwnerLemmas.{sound-step}
use Rattle.qx_steps.proofs.SettledLemmas.{settled-mount}
use Rattle.qx_steps.proofs.PartsLemmas.{mapped-put, row_at-parts, still-resources, told-none, told-there}
use Rattle.qx_steps.proofs.StillLemmas.{of-users}

-- ---- how it is judged

ready : (config : Configuration) (thread : Thread) (path : List ℕ) (manager : Manager) (part : Part) → is_thread_ready (thread_of thread.tid (row_at part.processes thread.proc.num)) ≡ true
    → mount_from config thread path manager (Some part) ≡ or_refused (new_mount (name_bytes config thread.proc.user.0) path manager part.resources)
ready config thread path manager part is = elim (option_cases (thread_of thread.tid (row_at part.processes thread.proc.num))) [
  | inl none ↦ let clash : false ≡ true = rw none at is in absurd (false≢true clash)
  | inr row ↦ let free : is_ready row.0.state ≡ true = rw row.1 at is in rw (row.1, free) refl
]

-- a user without resources has no rows
pub nobody-mount : (w : World) (us : List (Option (List (Option Process)))) (rs : List (Option Resources)) (thread : Thread) (path : List ℕ) (manager : Manager) → w.parts ≡ parts_of us rs → row_at rs thread.proc.user.0 ≡ None → mount_in w thread path manager ≡ Err WrongState
nobody-mount w us rs thread path manager is none =
    rw (is, row_at-parts us rs thread.proc.user.0, none) (elim (option_cases (row_at us thread.proc.user.0)) [
      | inl nobody ↦ rw nobody refl
      | inr ps ↦ rw ps.1 refl
    ])

ready_part : (config : Configuration) (thread : Thread) (path : List ℕ) (manager : Manager) (ps : Option (List (Option Process))) (r : Resources) → is_thread_ready (thread_of thread.tid (process_of_part thread.proc.num (part_of ps (Some r)))) ≡ true
    → (mount_from config thread path manager (part_of ps (Some r)) ≡ or_refused (new_mount (name_bytes config thread.proc.user.0) path manager r)) × ((mount : MountPoint) → IsMountable r mount → CanMount (part_of ps (Some r)) mount)
ready_part config thread path manager None r is = absurd (false≢true is)
ready_part config thread path manager (Some ps) r is = (ready config thread path manager (record { processes = ps; resources = r }) is, λ mount can. can)

pub ready-mount : (w : World) (us : List (Option (List (Option Process)))) (rs : List (Option Resources)) (thread : Thread) (path : List ℕ) (manager : Manager) (r : Resources) → w.parts ≡ parts_of us rs → row_at rs thread.proc.user.0 ≡ Some r → is_thread_ready (row_among_parts w.parts thread) ≡ true
    → (mount_in w thread path manager ≡ or_refused (new_mount (name_bytes w.config thread.proc.user.0) path manager r)) × ((mount : MountPoint) → IsMountable r mount → CanMount (row_at w.parts thread.proc.user.0) mount)
ready-mount w us rs thread path manager r parts there is =
    let row : row_at w.parts thread.proc.user.0 ≡ part_of (row_at us thread.proc.user.0) (Some r) = rw (parts, row_at-parts us rs thread.proc.user.0, there) refl in
    let free : is_thread_ready (thread_of thread.tid (process_of_part thread.proc.num (part_of (row_at us thread.proc.user.0) (Some r)))) ≡ true = rw row at is in
    rw row (ready_part w.config thread path manager (row_at us thread.proc.user.0) r free)

pub still_ok : (given : Result MountPoint Errno) (P Q : MountPoint → Type 0) → ((mount : MountPoint) → P mount → Q mount) → IfOk given P → IfOk (or_refused given) Q
still_ok (Ok mount) P Q step p = step mount p
still_ok (Err errno) P Q step p = tt

-- ---- what it comes to

-- a user whose rows stay
refused_by : (w : World) (user : ℕ) (part : Part) (outcome : Outcome) → IsSettled w → row_at w.parts user ≡ Some part → client_end w user part (or_unchanged part (Err outcome)) ≡ record { world = w; outcome = outcome }
refused_by w user part outcome settled row =
    ap (λ parts. record { world = record w { parts = parts }; outcome = outcome })
    (ap (λ after. slice_set w.parts user (Some after)) (settled user part row) ∙ (ap (slice_set w.parts user) (sym row) ∙ set-row_at w.parts user))

pub mount-refused : (w : World) (thread : Thread) (path : List ℕ) (manager : Manager) (outcome : Outcome) → IsSettled w → mount_in w thread path manager ≡ Err outcome → step w (Mount thread path manager) ≡ record { world = w; outcome = outcome }
unfolding step client
mount-refused w thread path manager outcome settled is = elim (option_cases (row_at w.parts thread.proc.user.0)) [
  | inl none ↦ let same : Err WrongState ≡ Err outcome = rw none at is in rw none (ap (λ o. record { world = w; outcome = o }) (cc))
  | inr part ↦
      let its : mount_by w.config thread.proc.user.0 part.0 thread path manager ≡ Err outcome = rw part.1 at is in
      rw (part.1, its) (refused_by w thread.proc.user.0 part.0 outcome settled part.1)
]

-- no process of the user is to be freed
left_of : (w : World) (user : ℕ) (part : Part) → IsSettled w → row_at w.parts user ≡ Some part → AreLeft (own_held user w.hands) part.resources.pipes 0 part.processes
left_of w user part settled row = settled-left part (own_held user w.hands) (settled user part row)

pub mount-done : (w : World) (thread : Thread) (path : List ℕ) (manager : Manager) (mount : MountPoint) → IsSettled w → mount_in w thread path manager ≡ Ok mount → step w (Mount thread path manager) ≡ record { world = after_mount w thread.proc.user.0 mount; outcome = Done }
unfolding step client
mount-done w thread path manager mount settled is = elim (option_cases (row_at w.parts thread.proc.user.0)) [
  | inl none ↦ let clash : Err WrongState ≡ Ok mount = rw none at is in absurd (cc)
  | inr part ↦
      let its : mount_by w.config thread.proc.user.0 part.0 thread path manager ≡ Ok mount = rw part.1 at is in
      let left = left_of w thread.proc.user.0 part.0 settled part.1 in
      rw (part.1, its, settled-mount mount part.0 (own_held thread.proc.user.0 w.hands) left) refl
]

-- ---- the world then is sound

pub sound-mount : (config : Configuration) (c d : Channel) (ks ls : List (Option Kept)) (hands : List (Option Held)) (user : ℕ) (mount : MountPoint) → IsSound config c ks hands → IsMounting (world_of config c ks hands) user mount → AreResourcesOf d ls
    → world_of config d ls hands ≡ after_mount (world_of config c ks hands) user mount → IsSound config d ls hands
sound-mount config c d ks ls hands user mount sound mounting users is = sound-step config c ks hands sound d ls hands mounting.0 users (is ∙ sym mounting.1)

-- ---- a manager is attached for a user

parts-with_resources : (us : List (Option (List (Option Process)))) (rs : List (Option Resources)) (user : ℕ) (change : Resources → Resources)
    → parts_of us (with_row rs user change) ≡ with_row (parts_of us rs) user (λ part. record part { resources = change part.resources })
parts-with_resources [] rs user change = refl
parts-with_resources (u ∷ us) [] zero change = refl
parts-with_resources (u ∷ us) [] (suc user) change = refl
parts-with_resources (None ∷ us) (None ∷ rs) zero change = refl
parts-with_resources (None ∷ us) (Some r ∷ rs) zero change = refl
parts-with_resources (Some ps ∷ us) (None ∷ rs) zero change = refl
parts-with_resources (Some ps ∷ us) (Some r ∷ rs) zero change = refl
parts-with_resources (u ∷ us) (r ∷ rs) (suc user) change = ap (λ parts. part_of u r ∷ parts) (parts-with_resources us rs user change)

module _ (config : Configuration) (c : Channel) (ks : List (Option Kept)) (hands : List (Option Held)) (of : AreResourcesOf c ks) (user : ℕ) (k : Kept) (mount : MountPoint) (there : row_at ks user ≡ Some k) where
  -- the user has one mount more among the mounts of all
  abbrev mounts_then : Channel
  mounts_then = record c { mounts = with_mount_of c.mounts user mount }

  abbrev with_root : Kept
  with_root = with_new_root mount.root k

  pub attached_of : AreResourcesOf mounts_then (slice_set ks user (Some with_root))
  attached_of = still-resources mounts_then ks user k with_root there refl (of-users c mounts_then ks of of.same (length-set c.mounts user (mounted (mounts_of c.mounts user) mount.prefix mount.manager mount.root)))

  -- what the machine is told of the others
  told_before : (other : ℕ) (m : Kept) → row_at ks other ≡ Some m → ¬ (other ≡ user) → told m (lists mounts_then) ≡ told m (lists c)
  told_before other m is differs =
      ap (λ mounts. record (told m (lists c)) { mounts = mounts })
      (get_or-set_other c.mounts user m.user (mounted (mounts_of c.mounts user) mount.prefix mount.manager mount.root) [] (λ same. differs (sym (of.own other m is) ∙ same)))

  told_then : told with_root (lists mounts_then) ≡ with_mount mount (told k (lists c))
  told_then =
      ap (λ mounts. record (told with_root (lists c)) { mounts = mounts })
      (ap (mounts_of (with_mount_of c.mounts user mount)) own
      ∙ get_or-set_same c.mounts user (mounted (mounts_of c.mounts user) mount.prefix mount.manager mount.root) [] (of.mounts user k there)
      ∙ ap (λ number. mounted (mounts_of c.mounts number) mount.prefix mount.manager mount.root) (sym own))
    where
      own : k.user ≡ user
      own = of.own user k there

  -- the machine's mount is that of the mounts of all and of what is kept
  pub attached : world_of config mounts_then (slice_set ks user (Some with_root)) hands ≡ after_mount (world_of config c ks hands) user mount
  attached =
      let rs : List (Option Resources) = told_all c ks in
      let r : Resources = told k (lists c) in
      let put : told_all mounts_then (slice_set ks user (Some with_root)) ≡ slice_set rs user (Some (with_mount mount r)) =
      mapped-put (λ m. told m (lists mounts_then)) (λ m. told m (lists c)) ks user with_root told_before ∙ ap (λ r. slice_set rs user (Some r)) told_then in
      let row : with_row rs user (with_mount mount) ≡ slice_set rs user (Some (with_mount mount r)) = ap (λ old. slice_set rs user (option_map (with_mount mount) old)) (told-there c ks user k there) in
      ap (λ parts. record (world_of config c ks hands) { parts = parts }) (ap (parts_of c.users) (put ∙ sym row) ∙ parts-with_resources c.users rs user (with_mount mount))

unmounted : (ps : Option (List (Option Process))) (mount : MountPoint) → CanMount (part_of ps None) mount → ⊥
unmounted None mount can = can
unmounted (Some ps) mount can = can

pub nobody-attached : (c : Channel) (ks : List (Option Kept)) (user : ℕ) (mount : MountPoint) → row_at ks user ≡ None → CanMount (row_at (parts_of c.users (told_all c ks)) user) mount → ⊥
nobody-attached c ks user mount none can = unmounted (row_at c.users user) mount (rw (row_at-parts c.users (told_all c ks) user, told-none c ks user none) at can)

can_by : (ps : Option (List (Option Process))) (r : Resources) (mount : MountPoint) → CanMount (part_of ps (Some r)) mount → IsMountable r mount
can_by None r mount can = absurd can
can_by (Some ps) r mount can = can

pub attached-can : (c : Channel) (ks : List (Option Kept)) (user : ℕ) (k : Kept) (mount : MountPoint) → k.user ≡ user → row_at ks user ≡ Some k → CanMount (row_at (parts_of c.users (told_all c ks)) user) mount → mounts.IsNextMount (mounts_of c.mounts user) k mount
attached-can c ks user k mount own there can =
    let free : IsMountable (told k (lists c)) mount = can_by (row_at c.users user) (told k (lists c)) mount (rw (row_at-parts c.users (told_all c ks) user, told-there c ks user k there) at can) in
    record { free = ap (λ number. mount_fault k.limits.mounts (mounts_of c.mounts number) mount.prefix) (sym own) ∙ free.0; next = free.1 }
