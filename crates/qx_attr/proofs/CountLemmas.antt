-- The counts beside attributes, as inodes and open control blocks come and go.
use Rattle.std.proofs.Common.{◌≡◌, ◌≢◌, ℕ, zero, suc, ◌+◌, ◌-◌, ◌<◌, ◌≤◌, Bool, true, false, ◌==◌, ◌&&◌, List, [], ◌∷◌, ◌++◌, length, refl, sym, ap, ◌∙◌, inl, inr, arith, Option, Some, None, IsSome, map, slice_set, count_by, get_or, ltb, length-append}
use Rattle.std.proofs.Math.ListN.{length-set}
use Rattle.std.proofs.Math.Seq.{map-set_same}
use Rattle.std.specs.Prelude.{if◌then◌else◌, option_map}
use Rattle.std.proofs.lemmas.Bool.{cases_eq, ltb-false, ltb-true, ne_eqb}
use Rattle.std.proofs.lemmas.Bool.Decides.{nat_tests}
use Rattle.std.proofs.lemmas.List.{get_or-set_same}
use Rattle.std.proofs.lemmas.Option.{unwrap_or-slice_get}
use Rattle.std.proofs.lemmas.List.Sums.{sum_by-append, sum_by-cons, sum_by-set}
use Rattle.qx_types.specs.declared.flags.OFlags.{OFlags}
use Rattle.qx_machine.specs.declared.rows.Ocb.{Ocb}
use Rattle.qx_machine.specs.Inodes.{is_open, moved_to, reads, writes}
use Rattle.qx_isolation.specs.Rows.{row_at, put_row, with_row}
use Rattle.qx_isolation.proofs.Places.{row_at-set_other, set-row_at}
use Rattle.qx_attr.specs.declared.attr.Attr.{Attr}
use Rattle.qx_attr.specs.inner.Counts.{AreCounted, IsCounted, attribute_of, count_in, counted, one, uncounted}
use Rattle.qx_attr.proofs.TableLemmas.{row-put}

-- ---- an inode comes

new_count : (count : Attr → ℕ) (which : OFlags → Bool) (attrs : List (Option Attr)) (blocks : List (Option Ocb)) (n : ℕ) (attr : Attr) → count attr ≡ 0 → row_at attrs n ≡ None → IsCounted count which attrs blocks → IsCounted count which (put_row attrs n attr) blocks
new_count count which attrs blocks n attr none free are m = elim (row-put attrs n attr free m) [
  | inl same ↦ ap (count_in count) same ∙ are m
  | inr new ↦ ap (count_in count) new.0 ∙ (none ∙ (ap (count_in count) (sym new.1) ∙ are m))
]

pub counted_inode : (attrs : List (Option Attr)) (blocks : List (Option Ocb)) (n : ℕ) (attr : Attr) → attr.blocks ≡ 0 → attr.readers ≡ 0 → attr.writers ≡ 0 → row_at attrs n ≡ None → AreCounted attrs blocks → AreCounted (put_row attrs n attr) blocks
counted_inode attrs blocks n attr no_blocks no_readers no_writers free are = record {
  blocks_are = new_count (λ attr. attr.blocks) (λ flags. true) attrs blocks n attr no_blocks free are.blocks_are;
  readers_are = new_count (λ attr. attr.readers) reads attrs blocks n attr no_readers free are.readers_are;
  writers_are = new_count (λ attr. attr.writers) writes attrs blocks n attr no_writers free are.writers_are;
}

-- ---- open control blocks come and go

pub within_table : {A : Type 0} (xs : List (Option A)) (n : ℕ) (x : A) → row_at xs n ≡ Some x → n < length xs
within_table [] n x e = absurd (cc)
within_table (y ∷ xs) zero x e = omega arith
within_table (y ∷ xs) (suc n) x e = let rest = within_table xs n x e in omega (arith, rest)

pub within-attributes : (attrs : List (Option Attr)) (n : ℕ) → IsSome (row_at (map attribute_of attrs) n) → n < length attrs
within-attributes [] n some = absurd (cc)
within-attributes (x ∷ xs) zero some = omega arith
within-attributes (x ∷ xs) (suc n) some = let rest = within-attributes xs n some in omega (arith, rest)

read_row : {A : Type 0} (xs : List (Option A)) (n : ℕ) → row_at xs n ≡ get_or xs n None
read_row xs n = unwrap_or-slice_get xs n None

module _ {A : Type 0} (p : Option A → Bool) (none : p None ≡ false) where
  by_test : (rows : List (Option A)) (n : ℕ) (row : A) → row_at rows n ≡ None → (test : Bool) → ltb n (length rows) ≡ test → count_by p (if test then slice_set rows n (Some row) else rows ++ Some row ∷ []) ≡ count_by p rows + one (p (Some row))
  by_test rows n row free true inside =
      let set = sum_by-set (λ place. one (p place)) rows n (Some row) None (ltb-true n (length rows) inside) in
      let was : one (p (get_or rows n None)) ≡ 0 = ap (λ place. one (p place)) (sym (read_row rows n) ∙ free) ∙ ap one none in
      omega (arith, set, was)
  by_test rows n row free false beyond = sum_by-append (λ place. one (p place)) rows (Some row ∷ []) ∙ ap (λ k. count_by p rows + k) (omega arith)

  pub count-put : (rows : List (Option A)) (n : ℕ) (row : A) → row_at rows n ≡ None → count_by p (put_row rows n row) ≡ count_by p rows + one (p (Some row))
  count-put rows n row free = by_test rows n row free (ltb n (length rows)) refl

  pub count-free : (rows : List (Option A)) (n : ℕ) (row : A) → row_at rows n ≡ Some row → count_by p (slice_set rows n None) + one (p (Some row)) ≡ count_by p rows
  count-free rows n row is =
      let set = sum_by-set (λ place. one (p place)) rows n None None (within_table rows n row is) in
      let was : one (p (get_or rows n None)) ≡ one (p (Some row)) = ap (λ place. one (p place)) (sym (read_row rows n) ∙ is) in
      let no : one (p None) ≡ 0 = ap one none in
      omega (arith, set, was, no)

  pub count-same : (rows : List (Option A)) (n : ℕ) (row now : A) → row_at rows n ≡ Some row → p (Some now) ≡ p (Some row) → count_by p (slice_set rows n (Some now)) ≡ count_by p rows
  count-same rows n row now is same =
      let set = sum_by-set (λ place. one (p place)) rows n (Some now) None (within_table rows n row is) in
      let was : one (p (get_or rows n None)) ≡ one (p (Some row)) = ap (λ place. one (p place)) (sym (read_row rows n) ∙ is) in
      let kept : one (p (Some now)) ≡ one (p (Some row)) = ap one same in
      omega (arith, set, was, kept)

pub row-set_same : {A : Type 0} (xs : List (Option A)) (n : ℕ) (x y : A) → row_at xs n ≡ Some x → row_at (slice_set xs n (Some y)) n ≡ Some y
row-set_same xs n x y is = read_row (slice_set xs n (Some y)) n ∙ get_or-set_same xs n (Some y) None (within_table xs n x is)

eqb-same : (n : ℕ) → (n == n) ≡ true
eqb-same n = grind (arith, nat_tests)

-- of one's own inode a block is counted where it has such flags, and of others never
pub counts_own : (which : OFlags → Bool) (block : Ocb) (m : ℕ) → m ≡ block.inode → is_open which m (Some block) ≡ which block.flags
counts_own which block m same = ap (λ test. test && which block.flags) (ap (λ n. block.inode == n) same ∙ eqb-same block.inode)

pub counts_other : (which : OFlags → Bool) (block : Ocb) (m : ℕ) → m ≢ block.inode → is_open which m (Some block) ≡ false
counts_other which block m differs = ap (λ test. test && which block.flags) (ne_eqb block.inode m (λ e. differs (sym e)))

module _ (count : Attr → ℕ) (which : OFlags → Bool) (attrs : List (Option Attr)) (blocks : List (Option Ocb)) (n : ℕ) (block : Ocb) (attr now : Attr) (there : row_at attrs block.inode ≡ Some attr) (are : IsCounted count which attrs blocks) where
  had : count attr ≡ count_by (is_open which block.inode) blocks
  had = ap (count_in count) (sym there) ∙ are block.inode

  own_now : (m : ℕ) → m ≡ block.inode → count_in count (row_at (slice_set attrs block.inode (Some now)) m) ≡ count now
  own_now m same = ap (λ k. count_in count (row_at (slice_set attrs block.inode (Some now)) k)) same ∙ ap (count_in count) (row-set_same attrs block.inode attr now there)

  other_now : (m : ℕ) → m ≢ block.inode → count_in count (row_at (slice_set attrs block.inode (Some now)) m) ≡ count_by (is_open which m) blocks
  other_now m differs = ap (count_in count) (row_at-set_other attrs block.inode m (Some now) differs) ∙ are m

  opened : row_at blocks n ≡ None → count now ≡ count attr + one (which block.flags) → IsCounted count which (slice_set attrs block.inode (Some now)) (put_row blocks n block)
  opened free more m =
      let put = count-put (is_open which m) refl blocks n block free in
      elim (cases_eq m block.inode) [
        | inl same ↦
            let own : one (is_open which m (Some block)) ≡ one (which block.flags) = ap one (counts_own which block m same) in
            let before : count attr ≡ count_by (is_open which m) blocks = had ∙ ap (λ k. count_by (is_open which k) blocks) (sym same) in
            let here = own_now m same in
            omega (arith, put, own, before, here, more)
        | inr differs ↦
            let other : one (is_open which m (Some block)) ≡ 0 = ap one (counts_other which block m differs) in
            let here = other_now m differs in
            omega (arith, put, other, here)
      ]

  closed : row_at blocks n ≡ Some block → count now ≡ count attr - one (which block.flags) → IsCounted count which (slice_set attrs block.inode (Some now)) (slice_set blocks n None)
  closed is less m =
      let freed = count-free (is_open which m) refl blocks n block is in
      elim (cases_eq m block.inode) [
        | inl same ↦
            let own : one (is_open which m (Some block)) ≡ one (which block.flags) = ap one (counts_own which block m same) in
            let before : count attr ≡ count_by (is_open which m) blocks = had ∙ ap (λ k. count_by (is_open which k) blocks) (sym same) in
            let here = own_now m same in
            omega (arith, freed, own, before, here, less)
        | inr differs ↦
            let other : one (is_open which m (Some block)) ≡ 0 = ap one (counts_other which block m differs) in
            let here = other_now m differs in
            omega (arith, freed, other, here)
      ]

module _ (attrs : List (Option Attr)) (blocks : List (Option Ocb)) (n : ℕ) (block : Ocb) (attr : Attr) (there : row_at attrs block.inode ≡ Some attr) (are : AreCounted attrs blocks) where
  pub counted_open : row_at blocks n ≡ None → AreCounted (slice_set attrs block.inode (Some (counted block.flags attr))) (put_row blocks n block)
  counted_open free = record {
    blocks_are = opened (λ attr. attr.blocks) (λ flags. true) attrs blocks n block attr (counted block.flags attr) there are.blocks_are free refl;
    readers_are = opened (λ attr. attr.readers) reads attrs blocks n block attr (counted block.flags attr) there are.readers_are free refl;
    writers_are = opened (λ attr. attr.writers) writes attrs blocks n block attr (counted block.flags attr) there are.writers_are free refl;
  }

  pub counted_close : row_at blocks n ≡ Some block → AreCounted (slice_set attrs block.inode (Some (uncounted block.flags attr))) (slice_set blocks n None)
  counted_close is = record {
    blocks_are = closed (λ attr. attr.blocks) (λ flags. true) attrs blocks n block attr (uncounted block.flags attr) there are.blocks_are is refl;
    readers_are = closed (λ attr. attr.readers) reads attrs blocks n block attr (uncounted block.flags attr) there are.readers_are is refl;
    writers_are = closed (λ attr. attr.writers) writes attrs blocks n block attr (uncounted block.flags attr) there are.writers_are is refl;
  }

-- what has no open control block has none of either kind
none_of : (which : OFlags → Bool) (inode : ℕ) (blocks : List (Option Ocb)) → count_by (is_open which inode) blocks ≤ count_by (is_open (λ flags. true) inode) blocks
none_of which inode [] = omega arith
none_of which inode (row ∷ blocks) =
    let rest = none_of which inode blocks in
    let all = sum_by-cons (λ row. one (is_open (λ flags. true) inode row)) row blocks in
    let some = sum_by-cons (λ row. one (is_open which inode row)) row blocks in
    let less = one_less row in
    omega (arith, rest, all, some, less)
  where
    and_less : (a b : Bool) → one (a && b) ≤ one (a && true)
    and_less true true = omega arith
    and_less true false = omega arith
    and_less false b = omega arith

    one_less : (row : Option Ocb) → one (is_open which inode row) ≤ one (is_open (λ flags. true) inode row)
    one_less None = omega arith
    one_less (Some block) = and_less (block.inode == inode) (which block.flags)

module _ (attrs : List (Option Attr)) (blocks : List (Option Ocb)) (n : ℕ) (are : AreCounted attrs blocks) where
  freed : (count : Attr → ℕ) (which : OFlags → Bool) → count_by (is_open (λ flags. true) n) blocks ≡ 0 → IsCounted count which attrs blocks → IsCounted count which (slice_set attrs n None) blocks
  freed count which none are m = elim (cases_eq m n) [
    | inl same ↦
        let few = none_of which n blocks in
        let zero_now : count_in count (row_at (slice_set attrs n None) m) ≡ 0 = ap (λ k. count_in count (row_at (slice_set attrs n None) k)) same ∙ ap (count_in count) (no_row attrs n) in
        let counts : count_by (is_open which m) blocks ≡ count_by (is_open which n) blocks = ap (λ k. count_by (is_open which k) blocks) same in
        omega (arith, few, zero_now, counts, none)
    | inr differs ↦ ap (count_in count) (row_at-set_other attrs n m None differs) ∙ are m
  ]
    where
      no_row : (attrs : List (Option Attr)) (n : ℕ) → row_at (slice_set attrs n None) n ≡ None
      no_row [] n = refl
      no_row (attr ∷ attrs) zero = refl
      no_row (attr ∷ attrs) (suc n) = no_row attrs n

  pub counted_free : count_by (is_open (λ flags. true) n) blocks ≡ 0 → AreCounted (slice_set attrs n None) blocks
  counted_free no_blocks = record {
    blocks_are = freed (λ attr. attr.blocks) (λ flags. true) no_blocks are.blocks_are;
    readers_are = freed (λ attr. attr.readers) reads no_blocks are.readers_are;
    writers_are = freed (λ attr. attr.writers) writes no_blocks are.writers_are;
  }

  rewritten : (count : Attr → ℕ) (which : OFlags → Bool) (attr now : Attr) → row_at attrs n ≡ Some attr → count now ≡ count attr → IsCounted count which attrs blocks → IsCounted count which (slice_set attrs n (Some now)) blocks
  rewritten count which attr now is same are m = elim (cases_eq m n) [
    | inl here ↦
        ap (λ k. count_in count (row_at (slice_set attrs n (Some now)) k)) here ∙ (ap (count_in count) (row-set_same attrs n attr now is) ∙
        (same ∙ (ap (count_in count) (sym is) ∙ (are n ∙ ap (λ k. count_by (is_open which k) blocks) (sym here)))))
    | inr differs ↦ ap (count_in count) (row_at-set_other attrs n m (Some now) differs) ∙ are m
  ]

  pub counted_same : (attr now : Attr) → row_at attrs n ≡ Some attr → now.blocks ≡ attr.blocks → now.readers ≡ attr.readers → now.writers ≡ attr.writers → AreCounted (slice_set attrs n (Some now)) blocks
  counted_same attr now is same_blocks same_readers same_writers = record {
    blocks_are = rewritten (λ attr. attr.blocks) (λ flags. true) attr now is same_blocks are.blocks_are;
    readers_are = rewritten (λ attr. attr.readers) reads attr now is same_readers are.readers_are;
    writers_are = rewritten (λ attr. attr.writers) writes attr now is same_writers are.writers_are;
  }

-- what is open is there
pub has_inode : (attrs : List (Option Attr)) (blocks : List (Option Ocb)) (n : ℕ) (block : Ocb) → AreCounted attrs blocks → row_at blocks n ≡ Some block → row_at attrs block.inode ≡ None → ⊥
has_inode attrs blocks n block are is none =
    let freed = count-free (is_open (λ flags. true) block.inode) refl blocks n block is in
    let own : one (is_open (λ flags. true) block.inode (Some block)) ≡ 1 = ap one (counts_own (λ flags. true) block block.inode refl) in
    let no : 0 ≡ count_by (is_open (λ flags. true) block.inode) blocks = ap (count_in (λ attr. attr.blocks)) (sym none) ∙ are.blocks_are block.inode in
    absurd (omega (arith, freed, own, no))

-- so that is there
pub inode_there : (attrs : List (Option Attr)) (blocks : List (Option Ocb)) (n : ℕ) (block : Ocb) → AreCounted attrs blocks → row_at blocks n ≡ Some block → IsSome (row_at attrs block.inode)
inode_there attrs blocks n block are is = by_row (row_at attrs block.inode) refl
  where
    by_row : (row : Option Attr) → row_at attrs block.inode ≡ row → IsSome row
    by_row None none = absurd (has_inode attrs blocks n block are is none)
    by_row (Some attr) there = refl

pub few_rows : {A : Type 0} (rows : List (Option A)) (n most : ℕ) (row : A) → n ≤ most → length rows ≤ most + 1 → length (put_row rows n row) ≤ most + 1
few_rows rows n most row small few = by_size (ltb n (length rows)) refl
  where
    by_size : (test : Bool) → ltb n (length rows) ≡ test → length (if test then slice_set rows n (Some row) else rows ++ Some row ∷ []) ≤ most + 1
    by_size true inside = let same = length-set rows n (Some row) in omega (arith, same, few)
    by_size false beyond = let past = ltb-false n (length rows) beyond in let more = length-append rows (Some row ∷ []) in omega (arith, past, more, small)

-- another count beside an attribute is not seen
pub same_attributes : (attrs : List (Option Attr)) (n : ℕ) (attr now : Attr) → row_at attrs n ≡ Some attr → now.attribute ≡ attr.attribute → map attribute_of (slice_set attrs n (Some now)) ≡ map attribute_of attrs
same_attributes attrs n attr now is same =
    map-set_same attribute_of attrs n (Some now) None (ap (λ attribute. Some attribute) same ∙ ap attribute_of (sym is ∙ read_row attrs n))

-- of a block only its inode and its flags are counted
pub counted_kept : (attrs : List (Option Attr)) (blocks : List (Option Ocb)) (n : ℕ) (now : Ocb) → option_map (λ was. was.inode) (row_at blocks n) ≡ Some now.inode → option_map (λ was. was.flags) (row_at blocks n) ≡ Some now.flags
    → AreCounted attrs blocks → AreCounted attrs (with_row blocks n (λ _. now))
counted_kept attrs blocks n now same_inode same_flags are = by_row (row_at blocks n) refl same_inode same_flags
  where
    as_many : (which : OFlags → Bool) (was : Ocb) (m : ℕ) → row_at blocks n ≡ Some was → now.inode ≡ was.inode → now.flags ≡ was.flags → count_by (is_open which m) (slice_set blocks n (Some now)) ≡ count_by (is_open which m) blocks
    as_many which was m is inode flags = count-same (is_open which m) refl blocks n was now is (λ i. (inode i == m) && which (flags i))

    by_row : (row : Option Ocb) → row_at blocks n ≡ row → option_map (λ was. was.inode) row ≡ Some now.inode → option_map (λ was. was.flags) row ≡ Some now.flags → AreCounted attrs (slice_set blocks n (option_map (λ _. now) row))
    by_row None is inode flags = absurd (cc)
    by_row (Some was) is inode flags = record {
      blocks_are = λ m. are.blocks_are m ∙ sym (as_many (λ flags. true) was m is (cc) (cc));
      readers_are = λ m. are.readers_are m ∙ sym (as_many reads was m is (cc) (cc));
      writers_are = λ m. are.writers_are m ∙ sym (as_many writes was m is (cc) (cc));
    }

set-none : (blocks : List (Option Ocb)) (n : ℕ) → row_at blocks n ≡ None → slice_set blocks n None ≡ blocks
set-none blocks n none = ap (slice_set blocks n) (sym none) ∙ set-row_at blocks n

-- where it begins to read or write is not
pub counted_moved : (attrs : List (Option Attr)) (blocks : List (Option Ocb)) (n offset : ℕ) → AreCounted attrs blocks → AreCounted attrs (with_row blocks n (moved_to offset))
counted_moved attrs blocks n offset are = by_row (row_at blocks n) refl
  where
    by_row : (row : Option Ocb) → row_at blocks n ≡ row → AreCounted attrs (with_row blocks n (moved_to offset))
    by_row None is = rw (is, set-none blocks n is) are
    by_row (Some was) is =
        let kept = counted_kept attrs blocks n (moved_to offset was) (ap (option_map (λ was. was.inode)) is) (ap (option_map (λ was. was.flags)) is) are in
        rw is (rw is at kept)
