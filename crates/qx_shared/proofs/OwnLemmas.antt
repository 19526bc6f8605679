-- The pipes of all users, and one of them changed.
use Rattle.std.proofs.Common.{◌≡◌, ◌⊎◌, ◌<◌, ◌≤◌, ◌+◌, inl, inr, ℕ, zero, suc, List, [], ◌∷◌, Option, Some, None, is_some, length, map, slice_get, slice_set, get_or, option_map, unwrap_or, replicate, refl, sym, ◌∙◌, ap, ap₂, arith}
use Rattle.std.specs.FinMap as maps
use Rattle.std.specs.Ordering.{nat_cmp}
use Rattle.std.proofs.lemmas.List.{get_or-map, get_or-set_same, length-map, length-replicate, length-set, set-get_or}
use Rattle.std.proofs.lemmas.Option.{get_or_from_slice_get, same_Some}
use Rattle.qx_types.specs.declared.limits.TheConstants.Limits.{INODES, THREADS}
use Rattle.qx_types.specs.declared.names.Proc.{Proc}
use Rattle.qx_machine.specs.declared.rows.WaitingCall.{WaitingCall}
use Rattle.qx_machine.specs.Waiting.{Pipes, no_pipes}
use Rattle.qx_machine.specs.Pipes.{Pipe, pipe_of}
use Rattle.qx_isolation.specs.Rows.{row_at}
use Rattle.qx_isolation.proofs.Places.{row_at-set_other, set-row_at}
use Rattle.qx_rows.proofs.RowLemmas.{row_at-get_or}
use Rattle.qx_queues.specs.Queues as queues
use Rattle.qx_queues.specs.Queues.{Queues, no_queues}
use Rattle.qx_queues.proofs.PresenceLemmas.{same-below}
use Rattle.qx_queues.proofs.TableLemmas.{absent_is, none_some}
use Rattle.qx_shared.specs.inner.Own.{AreAllPipes, shown_pipe, pipes_in, shown_shared}
use Rattle.qx_shared.specs.inner.Row.{HasRow, Place, Rows, list_of_place, list_on, row_of, with_row_of}
use Rattle.qx_shared.specs.Row.{PipeRow}
use Rattle.qx_shared.specs.Shared.{HasPipe, nothing_shared, pipe_at, pipes_of, with_shared_process, with_shared_thread, without_shared_process, without_shared_thread, without_threads_below}
use Rattle.qx_shared.proofs.RowLemmas.{row_at-mapped, rows-agree}

-- ---- places

-- all places are read alike, but the one that was written
pub read-all : {A B : Type 0} (f g : A → B) (xs : List A) → ((j : ℕ) (z : A) → slice_get xs j ≡ Some z → f z ≡ g z) → map f xs ≡ map g xs
read-all f g [] same = refl
read-all f g (w ∷ ws) same = ap₂ (λ a b. a ∷ b) (same zero w refl) (read-all f g ws (λ j v at. same (suc j) v at))

read-set : {A B : Type 0} (f g : A → B) (xs : List A) (i : ℕ) (x : A) (y : B) → f x ≡ y → ((j : ℕ) (z : A) → (j ≡ i → ⊥) → slice_get xs j ≡ Some z → f z ≡ g z) → map f (slice_set xs i x) ≡ slice_set (map g xs) i y
read-set f g [] i x y here same = refl
read-set f g (z ∷ zs) zero x y here same = ap₂ (λ a b. a ∷ b) here (read-all f g zs (λ j w at. same (suc j) w (λ e. omega (arith, e)) at))
read-set f g (z ∷ zs) (suc i) x y here same = ap₂ (λ a b. a ∷ b) (same zero z (λ e. omega (arith, e)) refl) (read-set f g zs i x y here (λ j w differs at. same (suc j) w (λ e. differs (omega (arith, e))) at))

pub row_at-none : {A : Type 0} (n i : ℕ) → row_at {A = A} (replicate n None) i ≡ None
row_at-none zero i = refl
row_at-none (suc n) zero = refl
row_at-none (suc n) (suc i) = row_at-none n i

row_at-within : {A : Type 0} (places : List (Option A)) (i : ℕ) (row : A) → row_at places i ≡ Some row → i < length places
row_at-within [] i row is = absurd (none_some row None refl is)
row_at-within (x ∷ places) zero row is = omega arith
row_at-within (x ∷ places) (suc i) row is = let rest = row_at-within places i row is in omega (arith, rest)

pub mapped-there : {A B : Type 0} (f : A → B) (o : Option A) (y : B) → option_map f o ≡ Some y → (x : A) × (o ≡ Some x) × (f x ≡ y)
mapped-there f None y is = absurd (none_some y None refl is)
mapped-there f (Some x) y is = (x, refl, same_Some (f x) y is)

-- ---- one pipe of all

pub row_of-told : (c : Queues) (all : List Rows) (user inode : ℕ) → row_at (pipes_of (shown_shared c all) user) inode ≡ option_map (shown_pipe c) (row_of all user inode)
row_of-told c [] user inode = row_at-none (INODES + 1) inode
row_of-told c (rows ∷ all) zero inode = row_at-mapped (shown_pipe c) rows inode
row_of-told c (rows ∷ all) (suc user) inode = row_of-told c all user inode

-- where there is a pipe, there is a row
pub has_row : (c : Queues) (all : List Rows) (user inode : ℕ) → HasPipe (shown_shared c all) user inode → HasRow all user inode
has_row c all user inode there = of (row_of all user inode) refl
  where
    of : (o : Option PipeRow) → row_of all user inode ≡ o → HasRow all user inode
    of (Some row) is = (row, is)
    of None is = absurd (absent_is (row_at (pipes_of (shown_shared c all) user) inode) there (row_of-told c all user inode ∙ ap (option_map (shown_pipe c)) is))

pub pipe_at-row : (c : Queues) (all : List Rows) (user inode : ℕ) (o : Option PipeRow) → row_of all user inode ≡ o → pipe_at (shown_shared c all) user inode ≡ unwrap_or (option_map (shown_pipe c) o) (pipe_of None [] [] [])
pipe_at-row c all user inode o is = ap (λ o. unwrap_or o (pipe_of None [] [] [])) (row_of-told c all user inode ∙ ap (option_map (shown_pipe c)) is)

pub pipe_at-told : (c : Queues) (all : List Rows) (user inode : ℕ) (row : PipeRow) → row_of all user inode ≡ Some row → pipe_at (shown_shared c all) user inode ≡ shown_pipe c row
pipe_at-told c all user inode row is = pipe_at-row c all user inode (Some row) is

pub has-told : (c : Queues) (all : List Rows) (user inode : ℕ) → is_some (row_of all user inode) ≡ is_some (row_at (pipes_of (shown_shared c all) user) inode)
has-told c all user inode = of (row_of all user inode) ∙ ap is_some (sym (row_of-told c all user inode))
  where
    of : (o : Option PipeRow) → is_some o ≡ is_some (option_map (shown_pipe c) o)
    of None = refl
    of (Some row) = refl

pub row_of-within : (all : List Rows) (user inode : ℕ) (row : PipeRow) → row_of all user inode ≡ Some row → (user < length all) × (inode < length (get_or all user []))
row_of-within [] user inode row is = absurd (none_some row None refl is)
row_of-within (rows ∷ all) zero inode row is = (omega arith, row_at-within rows inode row is)
row_of-within (rows ∷ all) (suc user) inode row is = let rest = row_of-within all user inode row is in (omega (arith, rest.0), rest.1)

abbrev pub IsAt : ℕ → ℕ → Place → Type 0
IsAt user inode p = (p.user ≡ user) × (p.inode ≡ inode)

pub row_of-same : (all : List Rows) (user inode : ℕ) (row : Option PipeRow) → user < length all → inode < length (get_or all user []) → row_of (with_row_of all user inode row) user inode ≡ row
row_of-same [] user inode row within here = absurd (omega (arith, within))
row_of-same (rows ∷ all) zero inode row within here = row_at-get_or (slice_set rows inode row) inode ∙ get_or-set_same rows inode row None here
row_of-same (rows ∷ all) (suc user) inode row within here = row_of-same all user inode row (omega (arith, within)) here

pub row_of-other : (all : List Rows) (user inode : ℕ) (row : Option PipeRow) (other at : ℕ) → ((other ≡ user) × (at ≡ inode) → ⊥) → row_of (with_row_of all user inode row) other at ≡ row_of all other at
row_of-other [] user inode row other at differs = refl
row_of-other (rows ∷ all) zero inode row zero at differs = row_at-set_other rows inode at row (λ same. differs (refl, same))
row_of-other (rows ∷ all) zero inode row (suc other) at differs = refl
row_of-other (rows ∷ all) (suc user) inode row zero at differs = refl
row_of-other (rows ∷ all) (suc user) inode row (suc other) at differs = row_of-other all user inode row other at (λ same. differs (ap suc same.0, same.1))

pub rows-length : (all : List Rows) (user inode : ℕ) (row : Option PipeRow) (other : ℕ) → length (get_or (with_row_of all user inode row) other []) ≡ length (get_or all other [])
rows-length [] user inode row other = refl
rows-length (rows ∷ all) zero inode row zero = length-set rows inode row
rows-length (rows ∷ all) zero inode row (suc other) = refl
rows-length (rows ∷ all) (suc user) inode row zero = refl
rows-length (rows ∷ all) (suc user) inode row (suc other) = rows-length all user inode row other

pub row-same : (all : List Rows) (user inode : ℕ) (row : PipeRow) → row_of all user inode ≡ Some row → with_row_of all user inode (Some row) ≡ all
row-same all user inode row is = ap (slice_set all user) (ap (slice_set (get_or all user []) inode) (sym is) ∙ set-row_at (get_or all user []) inode) ∙ set-get_or all user []

-- pipes that are read alike, but the one that was written
pub told-set : (c d : Queues) (all : List Rows) (user inode : ℕ) (row : Option PipeRow) → user < length all → ((other at : ℕ) (r : PipeRow) → ((other ≡ user) × (at ≡ inode) → ⊥) → row_of all other at ≡ Some r → shown_pipe d r ≡ shown_pipe c r) →
    map (pipes_in d) (with_row_of all user inode row) ≡ slice_set (map (pipes_in c) all) user (slice_set (pipes_of (shown_shared c all) user) inode (option_map (shown_pipe d) row))
told-set c d all user inode row within same = read-set (pipes_in d) (pipes_in c) all user (slice_set (get_or all user []) inode row) _ own others
  where
    one : (at : ℕ) (o : Option PipeRow) → (at ≡ inode → ⊥) → slice_get (get_or all user []) at ≡ Some o → option_map (shown_pipe d) o ≡ option_map (shown_pipe c) o
    one at None differs is = refl
    one at (Some r) differs is = ap Some (same user at r (λ both. differs both.1) (ap (λ o. unwrap_or o None) is))

    own : pipes_in d (slice_set (get_or all user []) inode row) ≡ slice_set (pipes_of (shown_shared c all) user) inode (option_map (shown_pipe d) row)
    own =
        read-set (option_map (shown_pipe d)) (option_map (shown_pipe c)) (get_or all user []) inode row _ refl one
        ∙ ap (λ (pipes : Pipes). slice_set pipes inode (option_map (shown_pipe d) row)) (sym (get_or-map (pipes_in c) all user [] no_pipes within))

    others : (other : ℕ) (rows : Rows) → (other ≡ user → ⊥) → slice_get all other ≡ Some rows → pipes_in d rows ≡ pipes_in c rows
    others other rows differs is = rows-agree (shown_pipe d) (shown_pipe c) rows (λ at r there. same other at r (λ both. differs both.0) (ap (λ (p : Rows). row_at p at) (get_or_from_slice_get all other rows [] is) ∙ there))

-- ---- queues that have the same lists

-- the first threads of a process get nodes
pub process-pipes : (c : Queues) (proc : Proc) (threads : ℕ) → (queues.with_process_nodes c proc threads).pipes ≡ c.pipes
process-pipes c proc zero = refl
process-pipes c proc (suc threads) = process-pipes c proc threads

pub process-users : (c : Queues) (proc : Proc) (threads : ℕ) → (queues.with_process_nodes c proc threads).users ≡ c.users
process-users c proc zero = refl
process-users c proc (suc threads) = process-users c proc threads

pub process-told : (c : Queues) (all : List Rows) (proc : Proc) (threads : ℕ) → shown_shared (queues.with_process_nodes c proc threads) all ≡ with_shared_process (shown_shared c all) proc threads
process-told c all proc zero = refl
process-told c all proc (suc threads) = ap (λ s. with_shared_thread s (record { proc = proc; tid = suc threads })) (process-told c all proc threads)

-- the threads of a process lose their nodes
below-told : (c : Queues) (all : List Rows) (proc : Proc) (threads : ℕ) → shown_shared (queues.without_nodes_below c proc threads) all ≡ without_threads_below (shown_shared c all) proc threads
below-told c all proc zero = refl
below-told c all proc (suc threads) = ap (λ s. without_shared_thread s (record { proc = proc; tid = threads })) (below-told c all proc threads)

pub removed-told : (c : Queues) (all : List Rows) (proc : Proc) → shown_shared (queues.without_process_nodes c proc) all ≡ without_shared_process (shown_shared c all) proc
unfolding queues.without_process_nodes without_shared_process
removed-told c all proc = below-told c all proc (THREADS + 1)

-- and their lists stay
pub removed-pipes : (c : Queues) (proc : Proc) → (queues.without_process_nodes c proc).pipes ≡ c.pipes
unfolding queues.without_process_nodes
removed-pipes c proc = ap (λ q. q.pipes) (same-below c proc (THREADS + 1))

pub removed-users : (c : Queues) (proc : Proc) → (queues.without_process_nodes c proc).users ≡ c.users
unfolding queues.without_process_nodes
removed-users c proc = ap (λ q. q.users) (same-below c proc (THREADS + 1))

pub all-same : (c d : Queues) (all : List Rows) → d.pipes ≡ c.pipes → d.users ≡ c.users → AreAllPipes c all → AreAllPipes d all
all-same c d all same users are = record {
  count = are.count ∙ sym users;
  places = are.places;
  there = λ p list at. rw same (are.there p list at);
  users = λ p list at. rw same (are.users p list at);
  apart = are.apart;
  owned = λ list there. are.owned list (rw same at there);
}

-- ---- at boot

abbrev pub no_rows : Rows
no_rows = replicate (INODES + 1) None

none-told : (c : Queues) (n : ℕ) → map (option_map (shown_pipe c)) (replicate n None) ≡ replicate n None
none-told c zero = refl
none-told c (suc n) = ap (λ rest. None ∷ rest) (none-told c n)

all-told : (c : Queues) (n : ℕ) → map (pipes_in c) (replicate n no_rows) ≡ replicate n no_pipes
all-told c zero = refl
all-told c (suc n) = ap₂ (λ a b. a ∷ b) (none-told c (INODES + 1)) (all-told c n)

pub boot-told : (users : ℕ) (all : List Rows) → all ≡ replicate (users + 1) no_rows → shown_shared (no_queues users) all ≡ nothing_shared users
boot-told users all none = let pipes : map (pipes_in (no_queues users)) all ≡ replicate (users + 1) no_pipes = ap (map (pipes_in (no_queues users))) none ∙ all-told (no_queues users) (users + 1) in ap (λ all. record (nothing_shared users) { pipes = all }) pipes

no_row : (n user inode : ℕ) → row_of (replicate n no_rows) user inode ≡ None
no_row zero user inode = refl
no_row (suc n) zero inode = row_at-none (INODES + 1) inode
no_row (suc n) (suc user) inode = no_row n user inode

pub boot-all : (users : ℕ) (all : List Rows) → all ≡ replicate (users + 1) no_rows → AreAllPipes (no_queues users) all
boot-all users all none = record {
  count = ap length none ∙ length-replicate (users + 1) no_rows;
  places = λ user within. rw none (places (users + 1) user (rw none at within));
  there = λ p list at. absurd (nowhere p list at);
  users = λ p list at. absurd (nowhere p list at);
  apart = λ p q list at also. absurd (nowhere p list at);
  owned = λ list there. absurd (absent_is (maps.get (no_queues users).pipes list) there (maps.get-empty nat_cmp list));
}
  where
    places : (n user : ℕ) → user < length (replicate n no_rows) → length (get_or (replicate n no_rows) user []) ≡ INODES + 1
    places zero user within = absurd (omega (arith, within))
    places (suc n) zero within = length-replicate {A = Option PipeRow} (INODES + 1) None
    places (suc n) (suc user) within = places n user (omega (arith, within))

    nowhere : (p : Place) (list : ℕ) → list_of_place all p ≡ Some list → ⊥
    nowhere p list at = none_some list (list_of_place all p) (ap (λ xs. list_of_place xs p) none ∙ ap (option_map (list_on p.side)) (no_row (users + 1) p.user p.inode)) at

-- each user has a place for the pipe of each inode, and so has who is no user
pub places-told : (c : Queues) (all : List Rows) → AreAllPipes c all → (user : ℕ) → length (pipes_of (shown_shared c all) user) ≡ INODES + 1
places-told c all own user = elim (nat_lt_or_le user (length all)) [
  | inl within ↦ ap length (get_or-mapped all user within) ∙ length-map (get_or all user []) (option_map (shown_pipe c)) ∙ own.places user within
  | inr past ↦ ap length (get_or-past all user past) ∙ length-replicate (INODES + 1) nothing
]
  where
    nothing : Option (Pipe WaitingCall)
    nothing = None

    nat_lt_or_le : (n m : ℕ) → (n < m) ⊎ (m ≤ n)
    nat_lt_or_le n m = grind (arith)

    get_or-mapped : (xs : List Rows) (i : ℕ) → i < length xs → get_or (map (pipes_in c) xs) i no_pipes ≡ pipes_in c (get_or xs i [])
    get_or-mapped [] i within = absurd (omega (arith, within))
    get_or-mapped (x ∷ xs) zero within = refl
    get_or-mapped (x ∷ xs) (suc i) within = get_or-mapped xs i (omega (arith, within))

    get_or-past : (xs : List Rows) (i : ℕ) → length xs ≤ i → get_or (map (pipes_in c) xs) i no_pipes ≡ no_pipes
    get_or-past [] i past = refl
    get_or-past (x ∷ xs) zero past = absurd (omega (arith, past))
    get_or-past (x ∷ xs) (suc i) past = get_or-past xs i (omega (arith, past))
