-- The rows of users, put together from two columns: one row, and a change in one column; and resources as the tables of all users tell them.
use Rattle.std.proofs.Common.{◌≡◌, ◌⊎◌, inl, inr, ℕ, zero, suc, ◌+◌, get_or, List, [], ◌∷◌, true, false, Option, Some, None, length, is_some, map, replicate, refl, sym, ap, ap₂, ◌∙◌, arith}
use Rattle.std.specs.Prelude.{◌<◌, ◌≤◌, option_map, slice_set, unwrap_or}
use Rattle.std.proofs.lemmas.List.{get_or-map, length-map}
use Rattle.std.proofs.lemmas.Option.{slice_get-get_or}
use Rattle.qx_types.specs.Configuration.{Configuration, name_bytes}
use Rattle.qx_types.specs.declared.names.Proc.{Proc}
use Rattle.qx_types.specs.declared.names.Thread.{Thread}
use Rattle.qx_paths.specs.Mounts.{all_boot_mounts, boot_mounts, mounts_of}
use Rattle.qx_machine.specs.Attributes.{top_inode}
use Rattle.qx_machine.specs.Events.{no_events}
use Rattle.qx_machine.specs.Machine.{boot, boot_parts}
use Rattle.qx_isolation.specs.System as system
use Rattle.qx_machine.specs.Parts.{thread_of}
use Rattle.qx_machine.specs.Resources.{Resources}
use Rattle.qx_machine.specs.Processes.{Process}
use Rattle.qx_isolation.specs.Rows.{row_at, with_row}
use Rattle.qx_machine.specs.Users.{boot_part}
use Rattle.qx_machine.specs.Waiting.{no_pipes}
use Rattle.qx_shared.proofs.RowLemmas.{row_at-mapped, rows-agree}
use Rattle.qx_resources.specs.Boot.{boot_resources, kept_of}
use Rattle.qx_resources.specs.State.{told, Kept}
use Rattle.qx_resources.specs.declared.tables.Tables.{Tables}
use Rattle.qx_chan.proofs.RowReads.{option_cases, row_within}
use Rattle.qx_chan.specs.Channel.{Channel, boot_channel, lists}
use Rattle.qx_chan.specs.Users as users
use Rattle.qx_chan.specs.Users.{no_processes}
use Rattle.qx_steps.specs.inner.Parts.{part_of, parts_of, told_all, world_of, AreResourcesOf, SameUsers}
use Rattle.qx_machine.specs.Reads.{process_among_parts, row_among_parts}
use Rattle.qx_steps.specs.Places.{process_places}

pub no_resources : (processes : Option (List (Option Process))) → part_of processes None ≡ None
no_resources None = refl
no_resources (Some processes) = refl

-- ---- one row

pub row_at-parts : (us : List (Option (List (Option Process)))) (rs : List (Option Resources)) (user : ℕ) → row_at (parts_of us rs) user ≡ part_of (row_at us user) (row_at rs user)
row_at-parts [] rs user = refl
row_at-parts (u ∷ us) [] user = sym (no_resources (row_at (u ∷ us) user))
row_at-parts (u ∷ us) (r ∷ rs) zero = refl
row_at-parts (u ∷ us) (r ∷ rs) (suc user) = row_at-parts us rs user

-- who has processes has rows of these
pub part-there : (us : List (Option (List (Option Process)))) (rs : List (Option Resources)) (user : ℕ) (ps : List (Option Process)) → SameUsers us rs → row_at us user ≡ Some ps
    → (r : Resources) × ((row_at rs user ≡ Some r) × (row_at (parts_of us rs) user ≡ Some (record { processes = ps; resources = r })))
part-there us rs user ps same there = elim (option_cases (row_at rs user)) [
  | inl none ↦ let clash : true ≡ false = rw (there, none) at (same user) in absurd (cc)
  | inr r ↦ (r.0, (r.1, row_at-parts us rs user ∙ rw (there, r.1) refl))
]

pub part-none : (us : List (Option (List (Option Process)))) (rs : List (Option Resources)) (user : ℕ) → row_at us user ≡ None → row_at (parts_of us rs) user ≡ None
part-none us rs user none = row_at-parts us rs user ∙ rw none refl

pub process_of-parts : (us : List (Option (List (Option Process)))) (rs : List (Option Resources)) (proc : Proc) → SameUsers us rs → process_among_parts (parts_of us rs) proc ≡ users.process_of us proc
process_of-parts us rs proc same = elim (option_cases (row_at us proc.user.0)) [
  | inl none ↦ rw (part-none us rs proc.user.0 none, none) refl
  | inr ps ↦ rw ((part-there us rs proc.user.0 ps.0 same ps.1).1.1, ps.1) refl
]

-- how many places a user's processes have
abbrev pub places_in : Option (List (Option Process)) → ℕ
places_in None = 0
places_in (Some ps) = length ps

pub places-parts : (us : List (Option (List (Option Process)))) (rs : List (Option Resources)) (user : ℕ) → SameUsers us rs → process_places (row_at (parts_of us rs) user) ≡ places_in (row_at us user)
places-parts us rs user same = elim (option_cases (row_at us user)) [
  | inl none ↦ rw (part-none us rs user none, none) refl
  | inr ps ↦ rw ((part-there us rs user ps.0 same ps.1).1.1, ps.1) refl
]

pub thread_row-parts : (us : List (Option (List (Option Process)))) (rs : List (Option Resources)) (thread : Thread) → SameUsers us rs → row_among_parts (parts_of us rs) thread ≡ users.thread_row us thread
thread_row-parts us rs thread same = ap (thread_of thread.tid) (process_of-parts us rs thread.proc same)

-- ---- a change of one user's row in one column, or in both

pub parts-set_processes : (us : List (Option (List (Option Process)))) (rs : List (Option Resources)) (user : ℕ) (ps : List (Option Process)) (r : Resources) → row_at rs user ≡ Some r
    → parts_of (slice_set us user (Some ps)) rs ≡ slice_set (parts_of us rs) user (Some (record { processes = ps; resources = r }))
parts-set_processes [] rs user ps r is = refl
parts-set_processes (u ∷ us) [] zero ps r is = cc
parts-set_processes (u ∷ us) [] (suc user) ps r is = cc
parts-set_processes (u ∷ us) (_ ∷ rs) zero ps r is = rw is refl
parts-set_processes (u ∷ us) (other ∷ rs) (suc user) ps r is = ap (λ parts. part_of u other ∷ parts) (parts-set_processes us rs user ps r is)

pub parts-set_both : (us : List (Option (List (Option Process)))) (rs : List (Option Resources)) (user : ℕ) (ps : List (Option Process)) (r : Resources)
    → parts_of (slice_set us user (Some ps)) (slice_set rs user (Some r)) ≡ slice_set (parts_of us rs) user (Some (record { processes = ps; resources = r }))
parts-set_both [] rs user ps r = refl
parts-set_both (u ∷ us) [] zero ps r = refl
parts-set_both (u ∷ us) [] (suc user) ps r = refl
parts-set_both (u ∷ us) (other ∷ rs) zero ps r = refl
parts-set_both (u ∷ us) (other ∷ rs) (suc user) ps r = ap (λ parts. part_of u other ∷ parts) (parts-set_both us rs user ps r)

-- a row that changes is there still
there-with_row : {A : Type 0} (rows : List (Option A)) (user other : ℕ) (change : A → A) → is_some (row_at (with_row rows user change) other) ≡ is_some (row_at rows other)
there-with_row [] user other change = refl
there-with_row (None ∷ rows) zero zero change = refl
there-with_row (Some row ∷ rows) zero zero change = refl
there-with_row (row ∷ rows) zero (suc other) change = refl
there-with_row (row ∷ rows) (suc user) zero change = refl
there-with_row (row ∷ rows) (suc user) (suc other) change = there-with_row rows user other change

pub same-with_processes : {A : Type 0} (us : List (Option (List (Option Process)))) (rs : List (Option A)) (user : ℕ) (change : List (Option Process) → List (Option Process)) → SameUsers us rs → SameUsers (with_row us user change) rs
same-with_processes us rs user change same other = there-with_row us user other change ∙ same other

there-set : {A : Type 0} (rows : List (Option A)) (user other : ℕ) (old new : A) → row_at rows user ≡ Some old → is_some (row_at (slice_set rows user (Some new)) other) ≡ is_some (row_at rows other)
there-set rows user other old new is = ap (λ o. is_some (row_at (slice_set rows user o) other)) (sym (ap (option_map (λ _. new)) is)) ∙ there-with_row rows user other (λ _. new)

pub same-set_resources : {A : Type 0} (us : List (Option (List (Option Process)))) (rs : List (Option A)) (user : ℕ) (old new : A) → row_at rs user ≡ Some old → SameUsers us rs → SameUsers us (slice_set rs user (Some new))
same-set_resources us rs user old new is same other = same other ∙ sym (there-set rs user other old new is)

-- ---- rows that are read by one function, where one of them is put

pub mapped-put : {A B : Type 0} (f g : A → B) (rows : List (Option A)) (i : ℕ) (row : A) → ((other : ℕ) (there : A) → row_at rows other ≡ Some there → ¬ (other ≡ i) → f there ≡ g there)
    → map (option_map f) (slice_set rows i (Some row)) ≡ slice_set (map (option_map g) rows) i (Some (f row))
mapped-put f g [] i row same = refl
mapped-put f g (first ∷ rows) zero row same = ap (λ rest. Some (f row) ∷ rest) (rows-agree f g rows (λ other there is. same (suc other) there is (λ e. absurd (omega (arith, e)))))
mapped-put f g (None ∷ rows) (suc i) row same = ap (λ rest. None ∷ rest) (mapped-put f g rows i row (λ other there is differs. same (suc other) there is (λ e. differs (omega (arith, e)))))
mapped-put f g (Some first ∷ rows) (suc i) row same =
    ap₂ (λ x rest. Some x ∷ rest) (same zero first refl (λ e. absurd (omega (arith, e)))) (mapped-put f g rows i row (λ other there is differs. same (suc other) there is (λ e. differs (omega (arith, e)))))

-- a row that is there once one is put is that one, or was there before, under another number
pub put-cases : {A : Type 0} (rows : List (Option A)) (i other : ℕ) (row there : A) → row_at (slice_set rows i (Some row)) other ≡ Some there
    → ((other ≡ i) × (there ≡ row)) ⊎ (¬ (other ≡ i) × (row_at rows other ≡ Some there))
put-cases [] i other row there is = absurd (cc)
put-cases (first ∷ rows) zero zero row there is = inl (refl, cc)
put-cases (first ∷ rows) zero (suc other) row there is = inr (λ e. absurd (omega (arith, e)), is)
put-cases (first ∷ rows) (suc i) zero row there is = inr (λ e. absurd (omega (arith, e)), is)
put-cases (first ∷ rows) (suc i) (suc other) row there is = elim (put-cases rows i other row there is) [
  | inl its ↦ inl (ap suc its.0, its.1)
  | inr before ↦ inr (λ e. before.0 (omega (arith, e)), before.1)
]

-- ---- resources, by the tables of all users

there-mapped : {A B : Type 0} (f : A → B) (row : Option A) → is_some row ≡ is_some (option_map f row)
there-mapped f None = refl
there-mapped f (Some x) = refl

module _ (c : Channel) (ks : List (Option Kept)) where
  abbrev tell : Kept → Resources
  tell kept = told kept (lists c)

  pub row_at-told : (user : ℕ) → row_at (told_all c ks) user ≡ option_map tell (row_at ks user)
  row_at-told user = row_at-mapped tell ks user

  pub told-there : (user : ℕ) (kept : Kept) → row_at ks user ≡ Some kept → row_at (told_all c ks) user ≡ Some (told kept (lists c))
  told-there user kept is = row_at-told user ∙ ap (option_map tell) is

  pub told-none : (user : ℕ) → row_at ks user ≡ None → row_at (told_all c ks) user ≡ None
  told-none user is = row_at-told user ∙ ap (option_map tell) is

  pub same-told : AreResourcesOf c ks → SameUsers c.users (told_all c ks)
  same-told of user = of.same user ∙ (there-mapped tell (row_at ks user) ∙ sym (ap is_some (row_at-told user)))

  pub process-told : (proc : Proc) → AreResourcesOf c ks → process_among_parts (parts_of c.users (told_all c ks)) proc ≡ users.process_of c.users proc
  process-told proc of = process_of-parts c.users (told_all c ks) proc (same-told of)

  pub places-told : (user : ℕ) → AreResourcesOf c ks → process_places (row_at (parts_of c.users (told_all c ks)) user) ≡ places_in (row_at c.users user)
  places-told user of = places-parts c.users (told_all c ks) user (same-told of)

  pub thread_row-told : (thread : Thread) → AreResourcesOf c ks → row_among_parts (parts_of c.users (told_all c ks)) thread ≡ users.thread_row c.users thread
  thread_row-told thread of = thread_row-parts c.users (told_all c ks) thread (same-told of)

-- a user's resources change
module _ (c : Channel) (ks : List (Option Kept)) (user : ℕ) (k l : Kept) (there : row_at ks user ≡ Some k) (number : l.user ≡ k.user) (of : AreResourcesOf c ks) where
  pub still-resources : AreResourcesOf c (slice_set ks user (Some l))
  still-resources = record {
    same = same-set_resources c.users ks user k l there of.same;
    own = λ other m is. elim (put-cases ks user other l m is) [
      | inl its ↦ ap (λ n. n.user) its.1 ∙ (number ∙ (of.own user k there ∙ sym its.0))
      | inr before ↦ of.own other m before.1
    ];
    mounts = λ other m is. elim (put-cases ks user other l m is) [
      | inl its ↦ rw its.0 (of.mounts user k there)
      | inr before ↦ of.mounts other m before.1
    ];
  }

-- ---- at boot

get_same : {A : Type 0} (n i : ℕ) (x : A) → get_or (replicate n x) i x ≡ x
get_same zero i x = refl
get_same (suc n) zero x = refl
get_same (suc n) (suc i) x = get_same n i x

told-kept_of : (r : Resources) (q : Tables) → mounts_of q.mounts r.user ≡ r.mounts → get_or q.shared.pipes r.user no_pipes ≡ r.pipes → get_or q.events.events r.user no_events ≡ r.events → told (kept_of r) q ≡ r
told-kept_of r q mounts pipes events = λ i. record r { mounts = mounts i; pipes = pipes i; events = events i }

-- each user has the top
mounts-boot : (config : Configuration) (root user : ℕ) → 1 ≤ user → user ≤ length config.users → mounts_of (all_boot_mounts config root) user ≡ boot_mounts (name_bytes config user) root
mounts-boot config root zero some few = absurd (omega (arith, some))
mounts-boot config root (suc n) some few =
    let within : n < length config.users = omega (arith, few) in
    get_or-map (λ name. boot_mounts name root) config.users n [] [] within ∙ ap (λ name. boot_mounts name root) (sym (ap (λ name. unwrap_or name []) (slice_get-get_or config.users n [] within)))

boot-rows : (q : Tables) (pipes : (user : ℕ) → get_or q.shared.pipes user no_pipes ≡ no_pipes) (events : (user : ℕ) → get_or q.events.events user no_events ≡ no_events) (config : Configuration) (mounts : (user : ℕ) → 1 ≤ user → user ≤ length config.users → mounts_of q.mounts user ≡ boot_mounts (name_bytes config user) top_inode)
    (user : ℕ) (names : List (List ℕ)) → 1 ≤ user → user + length names ≡ length config.users + 1
    → parts_of (replicate (length names) (Some (None ∷ []))) (map (option_map (λ kept. told kept q)) (boot_resources config user names)) ≡ boot_parts config user names
unfolding boot_part
boot-rows q pipes events config mounts user [] some fits = refl
boot-rows q pipes events config mounts user (name ∷ names) some fits =
    ap₂ (λ r parts. Some (record { processes = None ∷ []; resources = r }) ∷ parts)
    (told-kept_of (boot_part config user).resources q (mounts user some (omega (arith, fits))) (pipes user) (events user))
    (boot-rows q pipes events config mounts (user + 1) names (omega arith) (omega (arith, fits)))

parts-boot : (config : Configuration)
    → parts_of (no_processes (length config.users)) (told_all (boot_channel config) (None ∷ boot_resources config 1 config.users)) ≡ None ∷ boot_parts config 1 config.users
parts-boot config = ap (λ parts. None ∷ parts)
    (boot-rows (lists (boot_channel config)) (λ user. get_same (length config.users + 1) user no_pipes) (λ user. get_same (length config.users + 1) user no_events) config (mounts-boot config top_inode) 1 config.users (omega arith) (omega arith))

same-boot_rows : (config : Configuration) (user : ℕ) (names : List (List ℕ)) → SameUsers {A = List (Option Process)} (replicate (length names) (Some (None ∷ []))) (boot_resources config user names)
same-boot_rows config user [] other = refl
same-boot_rows config user (name ∷ names) zero = refl
same-boot_rows config user (name ∷ names) (suc other) = same-boot_rows config (user + 1) names other

same-at_boot : (config : Configuration) (names : List (List ℕ)) → SameUsers (no_processes (length names)) (None ∷ boot_resources config 1 names)
same-at_boot config names zero = refl
same-at_boot config names (suc other) = same-boot_rows config 1 names other

-- whose resources stand in a row at boot
kept_at-boot : (config : Configuration) (user : ℕ) (names : List (List ℕ)) (other : ℕ) (kept : Kept) → row_at (boot_resources config user names) other ≡ Some kept → kept.user ≡ user + other
unfolding boot_part
kept_at-boot config user [] other kept is = absurd (cc)
kept_at-boot config user (name ∷ names) zero kept is =
    let its : kept_of (boot_part config user).resources ≡ kept = cc in
    ap (λ k. k.user) (sym its) ∙ omega arith
kept_at-boot config user (name ∷ names) (suc other) kept is = kept_at-boot config (user + 1) names other kept is ∙ omega arith

kept_in-boot : (config : Configuration) (names : List (List ℕ)) (user : ℕ) (kept : Kept) → row_at (None ∷ boot_resources config 1 names) user ≡ Some kept → kept.user ≡ user
kept_in-boot config names zero kept is = absurd (cc)
kept_in-boot config names (suc user) kept is = kept_at-boot config 1 names user kept is ∙ omega arith

length-boot_resources : (config : Configuration) (user : ℕ) (names : List (List ℕ)) → length (boot_resources config user names) ≡ length names
length-boot_resources config user [] = refl
length-boot_resources config user (name ∷ names) = ap suc (length-boot_resources config (user + 1) names)

pub of-boot : (config : Configuration) → AreResourcesOf (boot_channel config) (None ∷ boot_resources config 1 config.users)
of-boot config = record {
  same = same-at_boot config config.users;
  own = λ user kept is. kept_in-boot config config.users user kept is;
  mounts = λ user kept is. omega (arith, row_within (None ∷ boot_resources config 1 config.users) user kept is, length-boot_resources config 1 config.users, length-map config.users (λ name. boot_mounts name top_inode));
}

pub world-boot : (config : Configuration) → world_of config (boot_channel config) (None ∷ boot_resources config 1 config.users) (None ∷ replicate config.workers None) ≡ boot config
unfolding system.boot
world-boot config = rw (parts-boot config) refl
