-- Tables of rows that are seen through a function of their places.
use Rattle.std.proofs.Common.{◌≤◌, ◌<◌, ◌≡◌, ◌≢◌, ◌⊎◌, ℕ, zero, suc, ◌+◌, Bool, true, false, List, [], ◌∷◌, ◌++◌, length, refl, sym, ap, ◌∙◌, inl, inr, arith, subst, Option, Some, None, IsSome, map, nat_lt, slice_set, length-append}
use Rattle.std.proofs.Math.ListN.{length-set}
use Rattle.std.proofs.lemmas.Bool.{leb-true, ltb-false, ltb-true}
use Rattle.std.specs.Prelude.{Ok, Err, nat_le, if◌then◌else◌}
use Rattle.qx_isolation.proofs.Places.{row_at-set_other}
use Rattle.qx_machine.specs.Inodes.{number_within}
use Rattle.qx_isolation.specs.Rows.{row_at, lowest_from, put_row, taken_places}
use Rattle.qx_base.specs.declared.errno.Errno.{Errno}

pub same_map : {A B : Type 0} (f g : Option A → Option B) (keys : List (Option A)) → ((m : ℕ) → g (row_at keys m) ≡ f (row_at keys m)) → map g keys ≡ map f keys
same_map f g [] same = refl
same_map f g (key ∷ keys) same = λ i. same 0 i ∷ same_map f g keys (λ m. same (suc m)) i

-- two tables that differ at one place alone
pub same_but : {A B : Type 0} (f g : Option A → Option B) (keys : List (Option A)) (n : ℕ) (x : Option A) → ((m : ℕ) → m ≢ n → g (row_at keys m) ≡ f (row_at keys m)) → map g (slice_set keys n x) ≡ slice_set (map f keys) n (g x)
same_but f g [] n x same = refl
same_but f g (key ∷ keys) zero x same = ap (λ l. g x ∷ l) (same_map f g keys (λ m. same (suc m) (λ e. absurd (omega arith))))
same_but f g (key ∷ keys) (suc n) x same = λ i. same 0 (λ e. absurd (omega arith)) i ∷ same_but f g keys n x (λ m d. same (suc m) (λ e. d (omega arith))) i

pub length-rows : {A B : Type 0} (f : A → B) (keys : List A) → length (map f keys) ≡ length keys
length-rows f [] = refl
length-rows f (key ∷ keys) = ap suc (length-rows f keys)

pub append-rows : {A B : Type 0} (f : A → B) (keys : List A) (x : A) → map f (keys ++ x ∷ []) ≡ map f keys ++ f x ∷ []
append-rows f [] x = refl
append-rows f (key ∷ keys) x = ap (λ l. f key ∷ l) (append-rows f keys x)

pub no_value : {A : Type 0} (value : Option A) → value ≡ None → IsSome value → ⊥
no_value None e some = cc
no_value (Some value) e some = cc

-- ---- the lowest free number

-- a number that is given is within its limit
pub number_given : (limit number : ℕ) (error : Errno) (given : ℕ) → number_within limit number error ≡ Ok given → (given ≡ number) × (given ≤ limit)
number_given limit number error given is = by_test (nat_le number limit) refl is
  where
    by_test : (few : Bool) → nat_le number limit ≡ few → (if few then Ok number else Err error) ≡ Ok given → (given ≡ number) × (given ≤ limit)
    by_test true few e =
        let same : given ≡ number = cc in
        (same, subst (λ n. n ≤ limit) (sym same) (leb-true _ _ few))
    by_test false few e = absurd (cc)

taken-some : {A B : Type 0} (value : Option B) (rows : List (Option B)) (keys : List (Option A)) → IsSome value → taken_places rows ≡ taken_places keys → taken_places (value ∷ rows) ≡ taken_places keys + 1
taken-some {B = B} None rows keys some e = absurd (no_value {A = B} None refl some)
taken-some (Some value) rows keys some e = ap (λ n. n + 1) e

-- a place is taken in the one table where it is taken in the other
abbrev pub AreTaken : {A B : Type 0} → (Option A → Option B) → List (Option A) → Type 0
AreTaken {A} f keys = (n : ℕ) (key : A) → row_at keys n ≡ Some key → IsSome (f (Some key))

taken : {A B : Type 0} (f : Option A → Option B) (keys : List (Option A)) → f None ≡ None → AreTaken f keys → taken_places (map f keys) ≡ taken_places keys
taken f [] none there = refl
taken f (None ∷ keys) none there = rw none refl
taken f (Some key ∷ keys) none there = taken-some (f (Some key)) (map f keys) keys (there 0 key refl) (taken f keys none (λ n. there (suc n)))

pub lowest_map : {A B : Type 0} (f : Option A → Option B) (keys : List (Option A)) → f None ≡ None → AreTaken f keys → lowest_from 1 (map f keys) ≡ lowest_from 1 keys
lowest_map f [] none there = refl
lowest_map f (key ∷ keys) none there = ap (λ n. 1 + n) (taken f keys none (λ n. there (suc n)))

-- ---- a row comes to a free number

pub rows_put : {A B : Type 0} (f : Option A → Option B) (rows : List (Option A)) (n : ℕ) (x : A) (y : B) → f (Some x) ≡ Some y → map f (put_row rows n x) ≡ put_row (map f rows) n y
rows_put f rows n x y same = by_test (nat_lt n (length rows)) ∙ ap (λ count. if nat_lt n count then slice_set (map f rows) n (Some y) else map f rows ++ Some y ∷ []) (sym (length-rows f rows))
  where
    by_test : (test : Bool) → map f (if test then slice_set rows n (Some x) else rows ++ Some x ∷ []) ≡ (if test then slice_set (map f rows) n (Some y) else map f rows ++ Some y ∷ [])
    by_test true = same_but f f rows n (Some x) (λ m differs. refl) ∙ ap (slice_set (map f rows) n) same
    by_test false = append-rows f rows (Some x) ∙ ap (λ row. map f rows ++ row ∷ []) same

-- each place has the row that it had, or had none and has the new one
abbrev pub IsPut : {A : Type 0} → List (Option A) → List (Option A) → A → Type 0
IsPut rows now x = (m : ℕ) → (row_at now m ≡ row_at rows m) ⊎ ((row_at now m ≡ Some x) × (row_at rows m ≡ None))

put-set : {A : Type 0} (rows : List (Option A)) (n : ℕ) (x : A) → row_at rows n ≡ None → IsPut rows (slice_set rows n (Some x)) x
put-set [] n x free m = inl refl
put-set (row ∷ rows) zero x free zero = inr (refl, free)
put-set (row ∷ rows) zero x free (suc m) = inl refl
put-set (row ∷ rows) (suc n) x free zero = inl refl
put-set (row ∷ rows) (suc n) x free (suc m) = put-set rows n x free m

put-last : {A : Type 0} (rows : List (Option A)) (x : A) → IsPut rows (rows ++ Some x ∷ []) x
put-last [] x zero = inr (refl, refl)
put-last [] x (suc m) = inl refl
put-last (row ∷ rows) x zero = inl refl
put-last (row ∷ rows) x (suc m) = put-last rows x m

pub row-put : {A : Type 0} (rows : List (Option A)) (n : ℕ) (x : A) → row_at rows n ≡ None → IsPut rows (put_row rows n x) x
row-put rows n x free = by_test (nat_lt n (length rows))
  where
    by_test : (test : Bool) → IsPut rows (if test then slice_set rows n (Some x) else rows ++ Some x ∷ []) x
    by_test true = put-set rows n x free
    by_test false = put-last rows x

-- the place that it comes to has it, and the others are as they were, where that is in the table or is the next one after it

module _ {A : Type 0} where
  pub set_at : (rows : List (Option A)) (n : ℕ) (x : A) → n < length rows → row_at (slice_set rows n (Some x)) n ≡ Some x
  set_at [] n x inside = absurd (omega (arith, inside))
  set_at (row ∷ rows) zero x inside = refl
  set_at (row ∷ rows) (suc n) x inside = set_at rows n x (omega (arith, inside))

  last_at : (rows : List (Option A)) (x : A) → row_at (rows ++ Some x ∷ []) (length rows) ≡ Some x
  last_at [] x = refl
  last_at (row ∷ rows) x = last_at rows x

  last_other : (rows : List (Option A)) (x : A) (m : ℕ) → m ≢ length rows → row_at (rows ++ Some x ∷ []) m ≡ row_at rows m
  last_other [] x zero apart = absurd (apart refl)
  last_other [] x (suc m) apart = refl
  last_other (row ∷ rows) x zero apart = refl
  last_other (row ∷ rows) x (suc m) apart = last_other rows x m (λ same. apart (ap suc same))

  by_put : (rows : List (Option A)) (n : ℕ) (x : A) (P : List (Option A) → Type 0) → n ≤ length rows → (n < length rows → P (slice_set rows n (Some x))) → (length rows ≡ n → P (rows ++ Some x ∷ [])) → P (put_row rows n x)
  by_put rows n x P within inside last = by_test (nat_lt n (length rows)) refl
    where
      by_test : (test : Bool) → nat_lt n (length rows) ≡ test → P (if test then slice_set rows n (Some x) else rows ++ Some x ∷ [])
      by_test true is = inside (ltb-true n (length rows) is)
      by_test false is = let past = ltb-false n (length rows) is in last (omega (arith, within, past))

  pub put_at : (rows : List (Option A)) (n : ℕ) (x : A) → n ≤ length rows → row_at (put_row rows n x) n ≡ Some x
  put_at rows n x within = by_put rows n x (λ now. row_at now n ≡ Some x) within (set_at rows n x) (λ last. subst (λ m. row_at (rows ++ Some x ∷ []) m ≡ Some x) last (last_at rows x))

  pub put_other : (rows : List (Option A)) (n : ℕ) (x : A) → n ≤ length rows → (m : ℕ) → m ≢ n → row_at (put_row rows n x) m ≡ row_at rows m
  put_other rows n x within m apart =
      by_put rows n x (λ now. row_at now m ≡ row_at rows m) within (λ inside. row_at-set_other rows n m (Some x) apart) (λ last. last_other rows x m (λ same. apart (same ∙ last)))

  taken_within : (rows : List (Option A)) → taken_places rows ≤ length rows
  taken_within [] = omega arith
  taken_within (None ∷ rows) = omega arith
  taken_within (Some row ∷ rows) = let rest = taken_within rows in omega (arith, rest)

  pub lowest_within : (rows : List (Option A)) → 0 < length rows → lowest_from 1 rows ≤ length rows
  lowest_within [] some = absurd (omega (arith, some))
  lowest_within (row ∷ rows) some = let rest = taken_within rows in omega (arith, rest)

  -- ---- a row goes

  pub row-freed : (rows : List (Option A)) (n : ℕ) → row_at (slice_set rows n None) n ≡ None
  row-freed [] n = refl
  row-freed (row ∷ rows) zero = refl
  row-freed (row ∷ rows) (suc n) = row-freed rows n

-- ---- what is not seen

-- what has no row seen has none
pub none_before : {A B : Type 0} (f : Option A → Option B) (rows : List (Option A)) (n : ℕ) → ((x : A) → f (Some x) ≡ None → ⊥) → row_at (map f rows) n ≡ None → row_at rows n ≡ None
none_before f [] n some e = refl
none_before f (None ∷ rows) zero some e = refl
none_before f (Some row ∷ rows) zero some e = absurd (some row e)
none_before f (row ∷ rows) (suc n) some e = none_before f rows n some e

-- ---- how many places there are

-- a table gets no shorter
pub longer_put : {A : Type 0} (rows : List (Option A)) (n : ℕ) (row : A) → length rows ≤ length (put_row rows n row)
longer_put rows n row = by_test (nat_lt n (length rows))
  where
    by_test : (test : Bool) → length rows ≤ length (if test then slice_set rows n (Some row) else rows ++ Some row ∷ [])
    by_test true = let same = length-set rows n (Some row) in omega (arith, same)
    by_test false = let more = length-append rows (Some row ∷ []) in omega (arith, more)
