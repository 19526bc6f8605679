-- Each open control block that is there is among those that were made, once, and no other, whatever happens; and among its client's.
use Rattle.std.proofs.Common.{◌≡◌, inl, inr, ℕ, ◌+◌, ◌≤◌, ◌==◌, Bool, true, false, List, [], ◌∷◌, length, refl, sym, ap, ◌∙◌, subst, arith}
use Rattle.std.specs.Prelude.{◌&&◌, Option, Some, None, filter, is_some, if◌then◌else◌}
use Rattle.std.specs.List.{count_by}
use Rattle.std.proofs.lemmas.Bool.{cases_eq, eq-eqb, eqb-true, ne_eqb}
use Rattle.std.proofs.lemmas.List.Sums.{sum_by-append}
use Rattle.qx_machine.specs.declared.rows.Client.{Client}
use Rattle.qx_machine.specs.declared.rows.Kind.{Kind}
use Rattle.qx_machine.specs.declared.rows.Ocb.{Ocb}
use Rattle.qx_machine.specs.Defaults.{without_block, without_unused}
use Rattle.qx_machine.specs.Inodes.{blocks_of_client, is_clients, new_attribute}
use Rattle.qx_machine.specs.Names.{under}
use Rattle.qx_machine.specs.Resources.{Resources}
use Rattle.qx_isolation.specs.Rows.{put_row, row_at}
use Rattle.qx_isolation.proofs.Places.{row_at-set_other}
use Rattle.qx_attr.specs.inner.Counts.{one}
use Rattle.qx_iofunc.proofs.PlaceLemmas.{put_at, row-freed}
use Rattle.qx_invariants.specs.Changes.{ResourceChange, Closes, Comes, MayHappen, Moves, Opens, Unlinks, moved, with_change, with_named, with_opened, with_unlinked}
use Rattle.qx_invariants.specs.Holds.{HasMade, HasRoom}
use Rattle.qx_invariants.proofs.Calls.{staying_none, staying_same}
use Rattle.qx_invariants.proofs.Counts.{count-cons}
use Rattle.qx_invariants.proofs.Rows.{block_is_new, content_cases, empty_cases, freed, put_other, unused_cases, with_row-some_at}

-- this number
abbrev is_it : ℕ → ℕ → Bool
is_it number other = other == number

-- what stands in open control blocks alone is seen
seen_made : (r now : Resources) → now.inodes.made ≡ r.inodes.made → ((number : ℕ) → is_some (row_at now.inodes.blocks number) ≡ is_some (row_at r.inodes.blocks number)) → HasMade r → HasMade now
seen_made r now made blocks h = record { once = λ number. ap (count_by (is_it number)) made ∙ (h.once number ∙ ap one (sym (blocks number))) }

unused_made : (own : Kind) (inode : ℕ) (r : Resources) → HasMade r → HasMade (without_unused own inode r)
unused_made own inode r h =
    unused_cases HasMade own inode r
    (λ gone. content_cases HasMade own inode (freed inode r) (λ is. seen_made r _ refl (λ number. refl) h) (λ is. seen_made r _ refl (λ number. refl) h) (λ is. seen_made r _ refl (λ number. refl) h)) (λ stays. h)

module _ (r : Resources) (h : HasMade r) where
  opened_made : (number : ℕ) (block : Ocb) → row_at r.inodes.blocks number ≡ None → number ≤ length r.inodes.blocks → HasMade (with_opened number block r)
  opened_made number block free within = record {
    once = λ other.
        let all = sum_by-append (λ n. one (is_it other n)) r.inodes.made (number ∷ []) in
        let was = h.once other in
        elim (cases_eq other number) [
          | inl same ↦
              let none : one (is_some (row_at r.inodes.blocks other)) ≡ 0 = ap (λ n. one (is_some (row_at r.inodes.blocks n))) same ∙ ap (λ row. one (is_some row)) free in
              let new : one (is_it other number) ≡ 1 = ap one (eq-eqb number other (sym same)) in
              let now : one (is_some (row_at (put_row r.inodes.blocks number block) other)) ≡ 1 = ap (λ n. one (is_some (row_at (put_row r.inodes.blocks number block) n))) same ∙ ap (λ row. one (is_some row)) (put_at r.inodes.blocks number block within) in
              omega (arith, all, was, none, new, now)
          | inr apart ↦
              let none : one (is_it other number) ≡ 0 = ap one (ne_eqb number other (λ e. apart (sym e))) in
              let now : one (is_some (row_at (put_row r.inodes.blocks number block) other)) ≡ one (is_some (row_at r.inodes.blocks other)) = ap (λ row. one (is_some row)) (put_other r.inodes.blocks number block within other apart) in
              omega (arith, all, was, none, now)
        ];
  }

  closed_made : (number : ℕ) → HasMade (without_block number r)
  closed_made number = record {
    once = λ other. elim (cases_eq other number) [
      | inl same ↦
          subst (λ n. count_by (is_it n) (without_block number r).inodes.made ≡ one (is_some (row_at (without_block number r).inodes.blocks n))) (sym same)
          (staying_none (is_it number) (is_it number) (λ n is_not. is_not) r.inodes.made ∙ ap (λ row. one (is_some row)) (sym (row-freed r.inodes.blocks number)))
      | inr apart ↦
          staying_same (is_it number) (is_it other) (λ n is. ne_eqb n other (λ same. apart (sym same ∙ eqb-true n number is))) r.inodes.made
          ∙ (h.once other ∙ ap (λ row. one (is_some row)) (sym (row_at-set_other r.inodes.blocks number other None apart)))
    ];
  }

pub made-keeps : (change : ResourceChange) (r : Resources) → MayHappen change r → HasRoom r → HasMade r → HasMade (with_change change r)
made-keeps (Comes inode directory name kind mode moment) r may room h =
    empty_cases HasMade kind inode (with_named inode (under directory name) (new_attribute kind mode r.user moment) r)
    (λ is. seen_made r _ refl (λ number. refl) h) (λ is. seen_made r _ refl (λ number. refl) h) (λ is. seen_made r _ refl (λ number. refl) h)
made-keeps (Opens number block at) r may room h = let new = block_is_new r.inodes number room.some_blocks may.0 in opened_made r h number block new.free new.within
made-keeps (Moves number move) r may room h = seen_made r _ refl (with_row-some_at r.inodes.blocks number (moved move)) h
made-keeps (Unlinks own directory name inode mtime ctime) r may room h = unused_made own inode (with_unlinked inode (under directory name) mtime ctime r) (seen_made r _ refl (λ number. refl) h)
made-keeps (Closes own number block parting) r may room h = unused_made own block.inode (without_block number r) (closed_made r h number)
made-keeps _ r may room h = seen_made r _ refl (λ number. refl) h

-- ---- those of a client

count-filter : {A : Type 0} (which test : A → Bool) (xs : List A) → count_by which (filter test xs) ≡ count_by (λ x. which x && test x) xs
count-filter which test [] = refl
count-filter which test (x ∷ xs) = by (test x) refl (count-filter which test xs)
  where
    and-true : (b : Bool) → one (b && true) ≡ one b
    and-true true = refl
    and-true false = refl

    and-false : (b : Bool) → one (b && false) ≡ 0
    and-false true = refl
    and-false false = refl

    both : count_by (λ y. which y && test y) (x ∷ xs) ≡ one (which x && test x) + count_by (λ y. which y && test y) xs
    both = count-cons (λ y. which y && test y) x xs

    by : (b : Bool) → test x ≡ b → count_by which (filter test xs) ≡ count_by (λ y. which y && test y) xs → count_by which (if b then x ∷ filter test xs else filter test xs) ≡ count_by (λ y. which y && test y) (x ∷ xs)
    by true is rest = let first = count-cons which x (filter test xs) in let here : one (which x && test x) ≡ one (which x) = ap (λ b. one (which x && b)) is ∙ and-true (which x) in omega (arith, first, both, rest, here)
    by false is rest = let here : one (which x && test x) ≡ 0 = ap (λ b. one (which x && b)) is ∙ and-false (which x) in omega (arith, both, rest, here)

-- a number counts where it has the property
count-number : (test : ℕ → Bool) (number : ℕ) (xs : List ℕ) → count_by (λ n. is_it number n && test n) xs ≡ (if test number then count_by (is_it number) xs else 0)
count-number test number [] = by (test number)
  where
    by : (b : Bool) → ◌≡◌ {A = ℕ} 0 (if b then 0 else 0)
    by true = refl
    by false = refl
count-number test number (x ∷ xs) = by (test number) refl (count-number test number xs)
  where
    first : count_by (λ n. is_it number n && test n) (x ∷ xs) ≡ one (is_it number x && test x) + count_by (λ n. is_it number n && test n) xs
    first = count-cons (λ n. is_it number n && test n) x xs

    here : (b : Bool) → test number ≡ b → (its : Bool) → is_it number x ≡ its → one (its && test x) ≡ (if b then one its else 0)
    here true is true its = ap one (ap test (eqb-true x number its) ∙ is)
    here false is true its = ap one (ap test (eqb-true x number its) ∙ is)
    here true is false its = refl
    here false is false its = refl

    by : (b : Bool) → test number ≡ b → count_by (λ n. is_it number n && test n) xs ≡ (if b then count_by (is_it number) xs else 0) → count_by (λ n. is_it number n && test n) (x ∷ xs) ≡ (if b then count_by (is_it number) (x ∷ xs) else 0)
    by true is rest = let all = count-cons (is_it number) x xs in let now = here true is (is_it number x) refl in omega (arith, first, all, rest, now)
    by false is rest = let now = here false is (is_it number x) refl in omega (arith, first, rest, now)

-- among a client's blocks stands each that it has, once
pub client_blocks : (r : Resources) → HasMade r → (client : Client) (number : ℕ) → count_by (λ other. other == number) (blocks_of_client r.inodes client) ≡ (if is_clients client (row_at r.inodes.blocks number) then 1 else 0)
client_blocks r h client number =
    count-filter (is_it number) (λ n. is_clients client (row_at r.inodes.blocks n)) r.inodes.made
    ∙ (count-number (λ n. is_clients client (row_at r.inodes.blocks n)) number r.inodes.made ∙ by (row_at r.inodes.blocks number) (h.once number))
  where
    once : (b : Bool) (count : ℕ) → count ≡ 1 → (if b then count else 0) ≡ (if b then 1 else 0)
    once true count is = is
    once false count is = refl

    by : (row : Option Ocb) → count_by (is_it number) r.inodes.made ≡ (if is_some row then 1 else 0) → (if is_clients client row then count_by (is_it number) r.inodes.made else 0) ≡ (if is_clients client row then 1 else 0)
    by None is = refl
    by (Some block) is = once (is_clients client (Some block)) (count_by (is_it number) r.inodes.made) is
