-- A directory that is read listing by listing.
use Rattle.std.specs.Prelude.{ℕ, zero, suc, ◌+◌, ◌-◌, ◌<◌, ◌≤◌, List, [], ◌∷◌, ◌++◌, All, None, Option, Some, length, unwrap_or, if◌then◌else◌, nat_le}
use Rattle.std.specs.Cmp.Lexicographic.{nat_list_cmp_total}
use Rattle.std.specs.Cmp.{tied_itself}
use Rattle.std.specs.List.{AllByRecursion, last_or}
use Rattle.std.specs.List.Sorted.{IsStrictlySortedBy}
use Rattle.std.specs.Ordering.{is_lt, ordering_reverse}
use Rattle.std.specs.declared.cmp.Ordering.{Ordering}
use Rattle.std.specs.declared.cmp.Ordering.TheVariants.{Less, Equal, Greater}
use Rattle.std.proofs.Common.{◌≡◌, Bool, true, false, T, cond, ap, refl, sym, ◌∙◌, subst, arith, append_assoc, append-nil, length-append}
use Rattle.std.proofs.lemmas.Bool.{cond_both, le-leb}
use Rattle.std.proofs.lemmas.List.Elements.{All-filter, All-head, All-tail, All-weaker, filter_passes, recursion_from_All}
use Rattle.std.proofs.lemmas.List.Kept.{IsStrictlySortedBy-filter}
use Rattle.std.proofs.lemmas.Map.Keys.{sorted_head, sorted_tail}
use Rattle.qx_types.specs.declared.limits.TheConstants.Limits.{COMPONENT, TRANSFER}
use Rattle.qx_machine.specs.Listings.{HasAtMostOnePath, HasSizedNames, IsZeroFree, listed_by, listed_next}
use Rattle.qx_machine.specs.Names.{Names, names_behind, fitting, listed, listing, names_in}
use Rattle.qx_machine.proofs.Directories.{is_less, name_cmp, names_rise}

-- ---- what fits

fitting-front : (room : ℕ) (names : List (List ℕ)) → (rest : List (List ℕ)) × (fitting room names ++ rest ≡ names)
fitting-front room [] = ([], refl)
fitting-front room (name ∷ names) = by (fitting-front (room - (length name + 1)) names) (nat_le (length name + 1) room)
  where
    by : (rest : List (List ℕ)) × (fitting (room - (length name + 1)) names ++ rest ≡ names) → (b : Bool)
        → (rest : List (List ℕ)) × ((if b then name ∷ fitting (room - (length name + 1)) names else []) ++ rest ≡ name ∷ names)
    by more true = (more.0, ap (name ∷◌) more.1)
    by more false = (name ∷ names, refl)

-- where the first name fits, something is given
fitting_some : (room : ℕ) (names : List (List ℕ)) → All (λ name. length name + 1 ≤ room) names → 0 < length names → 0 < length (fitting room names)
fitting_some room [] fits some = some
fitting_some room (name ∷ names) fits some =
    let first : fitting room (name ∷ names) ≡ name ∷ fitting (room - (length name + 1)) names =
    ap (λ b. cond b (name ∷ fitting (room - (length name + 1)) names) []) (le-leb (length name + 1) room (All-head (λ n. length n + 1 ≤ room) name names fits)) in
    subst (λ l. 0 < length l) (sym first) (omega arith)

-- ---- what is behind a name

abbrev AllBehind : List ℕ → List (List ℕ) → Type 0
AllBehind after names = AllByRecursion (λ name. name_cmp after name ≡ Less) names

all_behind : (after : List ℕ) (names : List (List ℕ)) → AllBehind after (names_behind after names)
all_behind after names =
    recursion_from_All (λ name. name_cmp after name ≡ Less) (names_behind after names)
    (All-weaker (λ name. is_lt (name_cmp after name) ≡ true) (λ name. name_cmp after name ≡ Less) (λ name e. is_less _ (subst T (sym e) tt)) (names_behind after names)
    (filter_passes (λ name. is_lt (name_cmp after name)) names))

behind-all : (after : List ℕ) (names : List (List ℕ)) → AllBehind after names → names_behind after names ≡ names
behind-all after [] h = refl
behind-all after (name ∷ names) h = ap (λ r. cond (is_lt r) (name ∷ names_behind after names) (names_behind after names)) h.0 ∙ ap (name ∷◌) (behind-all after names h.1)

-- a name that isn't behind one isn't behind a later one
not_later : (after later name : List ℕ) → name_cmp after later ≡ Less → is_lt (name_cmp after name) ≡ false → is_lt (name_cmp later name) ≡ false
not_later after later name less e = by (name_cmp later name) refl
  where
    by : (r : Ordering) → name_cmp later name ≡ r → is_lt r ≡ false
    by Less p = sym (ap is_lt (nat_list_cmp_total.trans after later name less p)) ∙ e
    by Equal p = refl
    by Greater p = refl

behind-later : (after later : List ℕ) (names : List (List ℕ)) → name_cmp after later ≡ Less → names_behind later names ≡ names_behind later (names_behind after names)
behind-later after later [] less = refl
behind-later after later (name ∷ names) less =
    cond_both (is_lt (name_cmp after name)) (name ∷ names_behind after names) (names_behind after names) (λ l. names_behind later (name ∷ names) ≡ names_behind later l)
    (λ e. ap (λ l. cond (is_lt (name_cmp later name)) (name ∷ l) l) (behind-later after later names less))
    (λ e. ap (λ b. cond b (name ∷ names_behind later names) (names_behind later names)) (not_later after later name less e) ∙ behind-later after later names less)

-- ---- the last name

-- the last of some names, or the one before them
abbrev last_from : List ℕ → List (List ℕ) → List ℕ
last_from before names = unwrap_or (last_or (Some before) names) []

abbrev last_of : List (List ℕ) → List ℕ
last_of names = unwrap_or (last_or None names) []

-- what holds of each of these names holds of the last of the first ones
last_front : (P : List ℕ → Type 0) (name : List ℕ) (names rest : List (List ℕ)) → AllByRecursion P (name ∷ (names ++ rest)) → P (last_from name names)
last_front P name [] rest h = h.0
last_front P name (next ∷ names) rest h = last_front P next names rest h.1

last-behind : (name : List ℕ) (names rest : List (List ℕ)) → IsStrictlySortedBy name_cmp (name ∷ (names ++ rest)) → names_behind (last_from name names) (name ∷ (names ++ rest)) ≡ rest
last-behind name [] rest rises =
    ap (λ r. cond (is_lt r) (name ∷ names_behind name rest) (names_behind name rest)) (tied_itself nat_list_cmp_total name)
    ∙ behind-all name rest (sorted_head name_cmp name rest rises)
last-behind name (next ∷ names) rest rises =
    let last : List ℕ = last_from next names in
    let all : List (List ℕ) = next ∷ (names ++ rest) in
    let less : name_cmp name last ≡ Less = last_front (λ n. name_cmp name n ≡ Less) next names rest (sorted_head name_cmp name all rises) in
    ap (λ r. cond (is_lt r) (name ∷ names_behind last all) (names_behind last all)) (nat_list_cmp_total.antisymm last name ∙ ap ordering_reverse less)
    ∙ last-behind next names rest (sorted_tail name_cmp name all rises)

last-append : (before : Option (List ℕ)) (names more : List (List ℕ)) → unwrap_or (last_or before (names ++ more)) [] ≡ last_from (unwrap_or (last_or before names) []) more
last-append None [] [] = refl
last-append None [] (name ∷ more) = refl
last-append (Some before) [] more = refl
last-append before (name ∷ names) more = last-append (Some name) names more

-- ---- listing by listing

none : (names : List (List ℕ)) → length names ≤ 0 → names ≡ []
none [] short = refl
none (name ∷ names) short = absurd (omega arith)

not_some : (n : ℕ) → (0 < n → ⊥) → n ≤ 0
not_some zero h = omega arith
not_some (suc n) h = absurd (h (omega arith))

from_empty : (name : List ℕ) → 0 < length name → name_cmp [] name ≡ Less
from_empty [] some = absurd (omega arith)
from_empty (byte ∷ name) some = refl

module _ (names : Names) (directory : ℕ) (single : HasAtMostOnePath names directory) (sized : HasSizedNames names directory) where
  abbrev all : List (List ℕ)
  all = names_in names directory

  -- what is given, and then what is behind the last of that, is what was behind the name asked for
  listed-more : (after : List ℕ) → listed names directory after ++ names_behind (last_from after (listed names directory after)) all ≡ names_behind after all
  listed-more after = by (listed names directory after) more.1
    where
      more : (rest : List (List ℕ)) × (listed names directory after ++ rest ≡ names_behind after all)
      more = fitting-front TRANSFER (names_behind after all)

      by : (front : List (List ℕ)) → front ++ more.0 ≡ names_behind after all → front ++ names_behind (last_from after front) all ≡ names_behind after all
      by [] e = refl
      by (name ∷ front) e =
          let last : List ℕ = last_from name front in
          let less : name_cmp after last ≡ Less = last_front (λ n. name_cmp after n ≡ Less) name front more.0 (subst (AllBehind after) (sym e) (all_behind after all)) in
          let rises : IsStrictlySortedBy name_cmp (name ∷ (front ++ more.0)) =
          subst (IsStrictlySortedBy name_cmp) (sym e) (IsStrictlySortedBy-filter name_cmp (λ n. is_lt (name_cmp after n)) all (names_rise names directory single)) in
          ap (λ l. name ∷ (front ++ l)) (behind-later after last all less ∙ ap (names_behind last) (sym e) ∙ last-behind name front more.0 rises) ∙ e

  -- a listing gives something, where anything is behind the name asked for
  listed_some : (after : List ℕ) → 0 < length (names_behind after all) → 0 < length (listed names directory after)
  listed_some after some =
      fitting_some TRANSFER (names_behind after all)
      (All-filter (λ n. is_lt (name_cmp after n)) (λ n. length n + 1 ≤ TRANSFER) all
      (All-weaker (λ n. (0 < length n) × (length n ≤ COMPONENT)) (λ n. length n + 1 ≤ TRANSFER) (λ n size. omega arith) all sized)) some

  abbrev given : ℕ → List (List ℕ)
  given listings = listed_by listings names directory

  abbrev left : ℕ → List (List ℕ)
  left listings = names_behind (last_of (given listings)) all

  left_on : (listings : ℕ) → listed_next names directory (given listings) ++ left (suc listings) ≡ left listings
  left_on listings =
      ap (λ last. listed_next names directory (given listings) ++ names_behind last all) (last-append None (given listings) (listed_next names directory (given listings)))
      ∙ listed-more (last_of (given listings))

  left_first : left 0 ≡ all
  left_first = behind-all [] all (recursion_from_All (λ n. name_cmp [] n ≡ Less) all
      (All-weaker (λ n. (0 < length n) × (length n ≤ COMPONENT)) (λ n. name_cmp [] n ≡ Less) (λ n size. from_empty n size.0) all sized))

  given-left : (listings : ℕ) → given listings ++ left listings ≡ all
  given-left zero = left_first
  given-left (suc listings) =
      append_assoc (given listings) (listed_next names directory (given listings)) (left (suc listings))
      ∙ ap (given listings ++◌) (left_on listings) ∙ given-left listings

  -- each listing gives one name at least, as long as names are left
  fewer_left : (listings : ℕ) → 0 < length (left listings) → length (left listings) + listings ≤ length all
  fewer_left zero some = omega (arith, ap length left_first)
  fewer_left (suc listings) some =
      let step = ap length (left_on listings) in
      let long = length-append (listed_next names directory (given listings)) (left (suc listings)) in
      let more : 0 < length (left listings) = omega arith in
      let gives : 0 < length (listed_next names directory (given listings)) = listed_some (last_of (given listings)) more in
      omega (arith, fewer_left listings more)

  pub listed_to_end : (listings : ℕ) → listed_next names directory (given listings) ≡ [] → given listings ≡ all
  listed_to_end listings e =
      let nothing : left listings ≡ [] = none (left listings) (not_some (length (left listings)) (λ some.
      let gives = listed_some (last_of (given listings)) some in omega (arith, gives, ap length e))) in
      sym (append-nil (given listings)) ∙ ap (given listings ++◌) (sym nothing) ∙ given-left listings

  pub listed_end : (listings : ℕ) → length all ≤ listings → listed_next names directory (given listings) ≡ []
  listed_end listings enough =
      ap (fitting TRANSFER) (none (left listings) (not_some (length (left listings)) (λ some. let few = fewer_left listings some in omega (arith, few, enough))))

-- ---- the bytes of a listing

-- two names without zero bytes, each followed by one, end where they do
told_name : (one two more rest : List ℕ) → AllByRecursion (λ byte. 0 < byte) one → AllByRecursion (λ byte. 0 < byte) two → (one ++ 0 ∷ []) ++ more ≡ (two ++ 0 ∷ []) ++ rest → (one ≡ two) × (more ≡ rest)
told_name [] [] more rest f g e = (refl, cc)
told_name [] (byte ∷ two) more rest f g e = let zeros : 0 ≡ byte = cc in absurd (omega (arith, zeros, g.0))
told_name (byte ∷ one) [] more rest f g e = let zeros : byte ≡ 0 = cc in absurd (omega (arith, zeros, f.0))
told_name (byte ∷ one) (other ∷ two) more rest f g e =
    let first : byte ≡ other = cc in
    let further : (one ++ 0 ∷ []) ++ more ≡ (two ++ 0 ∷ []) ++ rest = cc in
    let both = told_name one two more rest f.1 g.1 further in
    (λ i. first i ∷ both.0 i, both.1)

no_name : (name more : List ℕ) → [] ≡ (name ++ 0 ∷ []) ++ more → ⊥
no_name [] more e = cc
no_name (byte ∷ name) more e = cc

pub listing_told : (names others : List (List ℕ)) → All IsZeroFree names → All IsZeroFree others → listing names ≡ listing others → names ≡ others
listing_told [] [] f g e = refl
listing_told [] (other ∷ others) f g e = absurd (no_name other (listing others) e)
listing_told (name ∷ names) [] f g e = absurd (no_name name (listing names) (sym e))
listing_told (name ∷ names) (other ∷ others) f g e =
    let both = told_name name other (listing names) (listing others)
    (recursion_from_All (λ byte. 0 < byte) name (All-head IsZeroFree name names f)) (recursion_from_All (λ byte. 0 < byte) other (All-head IsZeroFree other others g)) e in
    λ i. both.0 i ∷ listing_told names others (All-tail IsZeroFree name names f) (All-tail IsZeroFree other others g) both.1 i
