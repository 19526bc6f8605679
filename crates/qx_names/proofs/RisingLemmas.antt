-- Entries in the order of their names: where a name stands, and what changes with one entry.
use Rattle.std.specs.Prelude.{ℕ, zero, suc, ◌==◌, ◌<◌, ◌≤◌, List, [], ◌∷◌, Option, Some, None, drop, filter, insert, length, map as mapped, remove, slice_get}
use Rattle.std.specs.Cmp.Lexicographic.{nat_list_cmp_total}
use Rattle.std.specs.Cmp.{IsTotalOrder, nat_cmp_total, on_total, then_total, tied_itself}
use Rattle.std.specs.FinMap as map
use Rattle.std.specs.FinMap.{IsAntisymmetric, nat_cmp-IsAntisymmetric, same_map, slice_cmp-IsAntisymmetric}
use Rattle.std.specs.FinMap.Entries.{below_all, find, find-put, find-where_key, is_sorted, put, same_entries, where_key}
use Rattle.std.specs.Ordering.{eq_by_cmp, is_eq, is_gt, is_lt, nat_cmp, ordering_reverse, ordering_then}
use Rattle.std.specs.declared.cmp.Ordering.{Ordering}
use Rattle.std.specs.declared.cmp.Ordering.TheVariants.{Less, Equal, Greater}
use Rattle.std.proofs.Common.{◌≡◌, Bool, true, false, not, ◌&&◌, T, cond, ap, refl, sym, ◌∙◌, subst, arith}
use Rattle.std.proofs.lemmas.Bool.{eq-eqb, eqb-true, ne_eqb}
use Rattle.std.proofs.lemmas.Map.Keys.{le_from_not_gt}
use mathlib.Core.Logic.{◌⊎◌, inl, inr}
use Rattle.qx_machine.specs.Names.{names_behind}
use Rattle.qx_machine.proofs.Directories.{first, is_less, name_cmp, second}
use Rattle.qx_names.specs.inner.Children.{Entry, IsRising, count_to}
use Rattle.qx_names.specs.inner.Folders.{Place, names_of, place_cmp}
use Rattle.qx_names.proofs.MapLemmas.{removed, removed_apart, same_or_not, untied}

pub names_same : IsAntisymmetric name_cmp
names_same = slice_cmp-IsAntisymmetric nat_cmp-IsAntisymmetric

pub place_total : IsTotalOrder place_cmp
place_total = then_total (on_total (λ (place : Place). place.0) nat_cmp_total) (on_total (λ (place : Place). place.1) nat_list_cmp_total)

then_first : (one two : Ordering) → ordering_then one two ≡ Equal → one ≡ Equal
then_first Less two e = e
then_first Equal two e = refl
then_first Greater two e = e

then_second : (one two : Ordering) → ordering_then one two ≡ Equal → two ≡ Equal
then_second Less two e = cc
then_second Equal two e = e
then_second Greater two e = cc

pub places_same : IsAntisymmetric place_cmp
places_same one two e =
    let directories = nat_cmp-IsAntisymmetric one.0 two.0 (then_first _ _ e) in
    let names = names_same one.1 two.1 (then_second _ _ e) in
    λ i. (directories i, names i)

true_false : true ≡ false → ⊥
true_false e = cc

pub both : (a b : Bool) → T a → T b → T (a && b)
both true b p q = q
both false b p q = p

pub less_than : (r : Ordering) → r ≡ Less → T (is_lt r)
less_than r e = subst (λ x. T (is_lt x)) (sym e) tt

-- a name, compared to that of an entry
abbrev before : Place → Entry → Bool
before name entry = is_lt (place_cmp name entry.0)

pub before_less : (r : Ordering) → is_lt r ≡ true → r ≡ Less
before_less Less e = refl
before_less Equal e = cc
before_less Greater e = cc

-- a name before the first of entries that rise is before them all
below_less : (name : Place) (key : Place) (es : List Entry) → place_cmp name key ≡ Less → T (below_all place_cmp key es) → T (below_all place_cmp name es)
below_less name key [] e below = tt
below_less name key (entry ∷ es) e below =
    both _ _ (less_than _ (place_total.trans name key entry.0 e (is_less _ (first _ _ below)))) (below_less name key es e (second _ _ below))

find_below : (name : Place) (es : List Entry) → T (below_all place_cmp name es) → find place_cmp name es ≡ None
find_below name [] below = refl
find_below name (entry ∷ es) below = ap (λ r. cond (is_eq r) (Some entry.1) (find place_cmp name es)) (is_less _ (first _ _ below)) ∙ find_below name es (second _ _ below)

count_below : (name : Place) (es : List Entry) → T (below_all place_cmp name es) → count_to name es ≡ 0
count_below name [] below = refl
count_below name (entry ∷ es) below = ap (λ r. cond (is_lt r) 0 (suc (count_to name es))) (is_less _ (first _ _ below))

-- ---- the place of a name

pub count_to-within : (name : Place) (es : List Entry) → count_to name es ≤ length es
count_to-within name [] = omega arith
count_to-within name (entry ∷ es) = by (count_to-within name es) (before name entry)
  where
    by : count_to name es ≤ length es → (b : Bool) → cond b 0 (suc (count_to name es)) ≤ suc (length es)
    by rest true = omega arith
    by rest false = omega (arith, rest)

pub count_to-low : (name : Place) (es : List Entry) (i : ℕ) (entry : Entry) → slice_get es i ≡ Some entry → is_lt (place_cmp name entry.0) ≡ true → count_to name es ≤ i
count_to-low name [] i entry is e = cc
count_to-low name (head ∷ es) zero entry is e =
    let same : head ≡ entry = cc in
    let none : count_to name (head ∷ es) ≡ 0 = ap (λ b. cond b 0 (suc (count_to name es))) (ap (before name) same ∙ e) in
    omega (arith, none)
count_to-low name (head ∷ es) (suc i) entry is e = by (count_to-low name es i entry is e) (before name head)
  where
    by : count_to name es ≤ i → (b : Bool) → cond b 0 (suc (count_to name es)) ≤ suc i
    by rest true = omega arith
    by rest false = omega (arith, rest)

-- the entries before one that is not behind the name are not either
not_before : (name : Place) (head : Entry) (es : List Entry) (i : ℕ) (entry : Entry) → T (below_all place_cmp head.0 es) → slice_get es i ≡ Some entry → is_lt (place_cmp name entry.0) ≡ false → before name head ≡ false
not_before name head [] i entry below is e = cc
not_before name head (next ∷ es) zero entry below is e = by (before name head) refl
  where
    by : (b : Bool) → before name head ≡ b → before name head ≡ false
    by false p = p
    by true p =
        let same : next ≡ entry = cc in
        absurd (true_false (sym (ap is_lt (place_total.trans name head.0 next.0 (before_less _ p) (is_less _ (first _ _ below)))) ∙ ap (before name) same ∙ e))
not_before name head (next ∷ es) (suc i) entry below is e = not_before name head es i entry (second _ _ below) is e

pub count_to-high : (name : Place) (es : List Entry) (i : ℕ) (entry : Entry) → IsRising es → slice_get es i ≡ Some entry → is_lt (place_cmp name entry.0) ≡ false → i < count_to name es
count_to-high name [] i entry rising is e = cc
count_to-high name (head ∷ es) zero entry rising is e =
    let same : head ≡ entry = cc in
    let some : count_to name (head ∷ es) ≡ suc (count_to name es) = ap (λ b. cond b 0 (suc (count_to name es))) (ap (before name) same ∙ e) in
    omega (arith, some)
count_to-high name (head ∷ es) (suc i) entry rising is e =
    let some : count_to name (head ∷ es) ≡ suc (count_to name es) = ap (λ b. cond b 0 (suc (count_to name es))) (not_before name head es i entry (first _ _ rising) is e) in
    omega (arith, some, count_to-high name es i entry (second _ _ rising) is e)

-- a name that is found stands last before those behind it
pub record Stands (name : Place) (es : List Entry) (inode : ℕ) : Type 0 where
  pub place : ℕ
  pub counted : count_to name es ≡ suc place
  pub is : slice_get es place ≡ Some (name, inode)

pub found_at : (name : Place) (es : List Entry) (inode : ℕ) → IsRising es → find place_cmp name es ≡ Some inode → Stands name es inode
found_at name [] inode rising e = cc
found_at name (head ∷ es) inode rising e = by (found_at name es inode (second _ _ rising)) (place_cmp name head.0) refl
  where
    by : (find place_cmp name es ≡ Some inode → Stands name es inode) → (r : Ordering) → place_cmp name head.0 ≡ r → Stands name (head ∷ es) inode
    by rest Less p =
        absurd (let none : find place_cmp name es ≡ None = find_below name es (below_less name head.0 es p (first _ _ rising)) in
        let some : find place_cmp name es ≡ Some inode = sym (ap (λ r. cond (is_eq r) (Some head.1) (find place_cmp name es)) p) ∙ e in
        let clash : None ≡ Some inode = sym none ∙ some in cc)
    by rest Equal p =
        let same : name ≡ head.0 = places_same _ _ p in
        let value : Some head.1 ≡ Some inode = sym (ap (λ r. cond (is_eq r) (Some head.1) (find place_cmp name es)) p) ∙ e in
        let inodes : head.1 ≡ inode = cc in
        record {
          place = 0;
          counted = ap (λ r. cond (is_lt r) 0 (suc (count_to name es))) p ∙ ap suc (count_below name es (subst (λ key. T (below_all place_cmp key es)) (sym same) (first _ _ rising)));
          is = ap Some (let back = sym same in λ i. (back i, inodes i));
        }
    by rest Greater p =
        let later : find place_cmp name es ≡ Some inode = sym (ap (λ r. cond (is_eq r) (Some head.1) (find place_cmp name es)) p) ∙ e in
        let at = rest later in
        record {
          place = suc at.place;
          counted = ap (λ r. cond (is_lt r) 0 (suc (count_to name es))) p ∙ ap suc at.counted;
          is = at.is;
        }

-- a name is not there where no entry stands before those behind it, or the last of these has another name
pub not_counted : (name : Place) (es : List Entry) → IsRising es → count_to name es ≡ 0 → find place_cmp name es ≡ None
not_counted name es rising none = by (find place_cmp name es) refl
  where
    by : (x : Option ℕ) → find place_cmp name es ≡ x → find place_cmp name es ≡ None
    by None e = e
    by (Some inode) e = let at = found_at name es inode rising e in absurd (let clash : 0 ≡ suc at.place = sym none ∙ at.counted in omega (arith, clash))

pub not_last : (name : Place) (es : List Entry) (place : ℕ) (entry : Entry) → IsRising es → count_to name es ≡ suc place → slice_get es place ≡ Some entry → (entry.0 ≡ name → ⊥) → find place_cmp name es ≡ None
not_last name es place entry rising counted is differs = by (find place_cmp name es) refl
  where
    by : (x : Option ℕ) → find place_cmp name es ≡ x → find place_cmp name es ≡ None
    by None e = e
    by (Some inode) e =
        let at = found_at name es inode rising e in
        let places : place ≡ at.place = (let both : suc place ≡ suc at.place = sym counted ∙ at.counted in omega (arith, both)) in
        let same : Some entry ≡ Some (name, inode) = sym is ∙ ap (slice_get es) places ∙ at.is in
        let entries : entry ≡ (name, inode) = cc in
        absurd (differs (ap (λ (e : Entry). e.0) entries))

-- a key of entries that rise is below none of the others
apart_from : (name : Place) (head : Entry) (es : List Entry) (i inode : ℕ) → T (below_all place_cmp head.0 es) → slice_get es i ≡ Some (name, inode) → place_cmp name head.0 ≡ Greater
apart_from name head [] i inode below is = cc
apart_from name head (next ∷ es) zero inode below is =
    let same : next ≡ (name, inode) = cc in
    place_total.antisymm name head.0 ∙ ap ordering_reverse (ap (λ (entry : Entry). place_cmp head.0 entry.0) (sym same) ∙ is_less _ (first _ _ below))
apart_from name head (next ∷ es) (suc i) inode below is = apart_from name head es i inode (second _ _ below) is

pub find_stands : (name : Place) (es : List Entry) (i inode : ℕ) → IsRising es → slice_get es i ≡ Some (name, inode) → find place_cmp name es ≡ Some inode
find_stands name [] i inode rising is = cc
find_stands name (head ∷ es) zero inode rising is =
    let same : head ≡ (name, inode) = cc in
    ap (λ (entry : Entry). cond (eq_by_cmp place_cmp name entry.0) (Some entry.1) (find place_cmp name es)) same ∙ ap (λ r. cond (is_eq r) (Some inode) (find place_cmp name es)) (tied_itself place_total name)
find_stands name (head ∷ es) (suc i) inode rising is =
    ap (λ r. cond (is_eq r) (Some head.1) (find place_cmp name es)) (apart_from name head es i inode (first _ _ rising) is) ∙ find_stands name es i inode (second _ _ rising) is

-- ---- what changes with one entry

-- a new name goes right before those behind it
pub insert-put : (name : Place) (inode : ℕ) (es : List Entry) → find place_cmp name es ≡ None → insert es (count_to name es) (name, inode) ≡ put place_cmp name inode es
insert-put name inode [] e = refl
insert-put name inode (head ∷ es) e = by (insert-put name inode es) (place_cmp name head.0) refl
  where
    by : (find place_cmp name es ≡ None → insert es (count_to name es) (name, inode) ≡ put place_cmp name inode es) → (r : Ordering) → place_cmp name head.0 ≡ r → insert (head ∷ es) (count_to name (head ∷ es)) (name, inode) ≡ put place_cmp name inode (head ∷ es)
    by rest Less p = rw p refl
    by rest Equal p =
        absurd (let clash : Some head.1 ≡ None = sym (ap (λ r. cond (is_eq r) (Some head.1) (find place_cmp name es)) p) ∙ e in cc)
    by rest Greater p =
        let later : find place_cmp name es ≡ None = sym (ap (λ r. cond (is_eq r) (Some head.1) (find place_cmp name es)) p) ∙ e in
        rw p (ap (λ xs. head ∷ xs) (rest later))

abbrev pub other_than : Place → Place → Bool
other_than name key = not (eq_by_cmp place_cmp name key)

-- all of them are kept
kept_below : (name : Place) (es : List Entry) → T (below_all place_cmp name es) → where_key place_cmp (other_than name) es ≡ es
kept_below name [] below = refl
kept_below name (head ∷ es) below = let p : place_cmp name head.0 ≡ Less = is_less _ (first _ _ below) in rw p (ap (λ xs. head ∷ xs) (kept_below name es (second _ _ below)))

pub remove-where : (name : Place) (inode : ℕ) (es : List Entry) (i : ℕ) → IsRising es → slice_get es i ≡ Some (name, inode) → remove es i ≡ where_key place_cmp (other_than name) es
remove-where name inode [] i rising is = cc
remove-where name inode (head ∷ es) zero rising is =
    let same : head ≡ (name, inode) = cc in
    let names : head.0 ≡ name = ap (λ (entry : Entry). entry.0) same in
    let tied : place_cmp name head.0 ≡ Equal = ap (place_cmp name) names ∙ tied_itself place_total name in
    rw tied (sym (kept_below name es (subst (λ key. T (below_all place_cmp key es)) names (first _ _ rising))))
remove-where name inode (head ∷ es) (suc i) rising is =
    let p = apart_from name head es i inode (first _ _ rising) is in
    rw p (ap (λ xs. head ∷ xs) (remove-where name inode es i (second _ _ rising) is))

-- ---- the same, as maps

pub entries-from : (es : List Entry) → IsRising es → map.entries (map.from_entries {R = place_cmp} es) ≡ es
entries-from es rising =
    same_entries place_cmp place_total places_same _ es (map.entries_sorted (map.from_entries es)) rising (λ name. sym (map.get-entries (map.from_entries es) name) ∙ map.get-from_entries place_total es name)

pub from-put : (name : Place) (inode : ℕ) (es : List Entry) → map.from_entries {R = place_cmp} (put place_cmp name inode es) ≡ map.insert (map.from_entries es) name inode
from-put name inode es =
    same_map place_total places_same _ _ (λ other.
    map.get-from_entries place_total (put place_cmp name inode es) other ∙ find-put place_cmp place_total other name inode es
    ∙ sym (map.get-insert place_total (map.from_entries es) name inode other ∙ ap (cond (eq_by_cmp place_cmp other name) (Some inode)) (map.get-from_entries place_total es other)))

pub from-where : (name : Place) (es : List Entry) → map.from_entries {R = place_cmp} (where_key place_cmp (other_than name) es) ≡ map.remove (map.from_entries es) name
from-where name es =
    same_map place_total places_same _ _ (λ other.
    map.get-from_entries place_total (where_key place_cmp (other_than name) es) other ∙ find-where_key place_cmp (other_than name) other (λ key tied. alike other key tied) es
    ∙ turned (eq_by_cmp place_cmp name other) (find place_cmp other es)
    ∙ ap (λ b. cond b None (find place_cmp other es)) (symmetric name other)
    ∙ sym (map.get-remove place_total (map.from_entries es) name other ∙ ap (cond (eq_by_cmp place_cmp other name) None) (map.get-from_entries place_total es other)))
  where
    alike : (other key : Place) → place_cmp other key ≡ Equal → other_than name key ≡ other_than name other
    alike other key tied = ap (other_than name) (sym (places_same other key tied))

    turned : (b : Bool) (x : Option ℕ) → cond (not b) x None ≡ cond b None x
    turned true x = refl
    turned false x = refl

    turned_back : (r : Ordering) → is_eq (ordering_reverse r) ≡ is_eq r
    turned_back Less = refl
    turned_back Equal = refl
    turned_back Greater = refl

    symmetric : (one two : Place) → eq_by_cmp place_cmp one two ≡ eq_by_cmp place_cmp two one
    symmetric one two = ap is_eq (place_total.antisymm one two) ∙ turned_back (place_cmp two one)

-- to take out a name that is not there changes nothing
pub remove-absent : (name : Place) (es : List Entry) → find place_cmp name es ≡ None → map.from_entries {R = place_cmp} es ≡ map.remove (map.from_entries es) name
remove-absent name es none = same_map place_total places_same _ _ (λ other. by other (same_or_not place_total places_same other name))
  where
    by : (other : Place) → ((other ≡ name) ⊎ (other ≡ name → ⊥)) → map.get (map.from_entries {R = place_cmp} es) other ≡ map.get (map.remove (map.from_entries {R = place_cmp} es) name) other
    by other (inl p) =
        ap (map.get (map.from_entries es)) p ∙ map.get-from_entries place_total es name ∙ none
        ∙ sym (ap (map.get (map.remove (map.from_entries es) name)) p ∙ removed place_total places_same (map.from_entries es) name)
    by other (inr p) = sym (removed_apart place_total places_same (map.from_entries es) name other p)

-- ---- the names of one directory

-- in one directory places are in the order of their names
pub same_directory : (directory : ℕ) (after : List ℕ) (place : Place) → (place.0 == directory) ≡ true → place_cmp (directory, after) place ≡ name_cmp after place.1
same_directory directory after place e = ap (λ r. ordering_then r (name_cmp after place.1)) (ap (nat_cmp directory) (eqb-true place.0 directory e) ∙ tied_itself nat_cmp_total directory)

all_behind : (directory : ℕ) (after : List ℕ) (es : List Entry) → T (below_all place_cmp (directory, after) es) → names_behind after (names_of directory es) ≡ names_of directory es
all_behind directory after [] below = refl
all_behind directory after (head ∷ es) below = by (all_behind directory after es (second _ _ below)) (head.0.0 == directory) refl
  where
    by : names_behind after (names_of directory es) ≡ names_of directory es → (b : Bool) → (head.0.0 == directory) ≡ b → names_behind after (names_of directory (head ∷ es)) ≡ names_of directory (head ∷ es)
    by rest true e =
        let p : name_cmp after head.0.1 ≡ Less = sym (same_directory directory after head.0 e) ∙ is_less _ (first _ _ below) in
        rw (e, p) (ap (λ xs. head.0.1 ∷ xs) rest)
    by rest false e = rw e rest

pub names_behind-count : (directory : ℕ) (after : List ℕ) (es : List Entry) → IsRising es → names_behind after (names_of directory es) ≡ names_of directory (drop (count_to (directory, after) es) es)
names_behind-count directory after [] rising = refl
names_behind-count directory after (head ∷ es) rising = by (names_behind-count directory after es (second _ _ rising)) (before (directory, after) head) refl (head.0.0 == directory) refl
  where
    by : names_behind after (names_of directory es) ≡ names_of directory (drop (count_to (directory, after) es) es) → (b : Bool) → before (directory, after) head ≡ b → (c : Bool) → (head.0.0 == directory) ≡ c
        → names_behind after (names_of directory (head ∷ es)) ≡ names_of directory (drop (count_to (directory, after) (head ∷ es)) (head ∷ es))
    by rest true p c q =
        all_behind directory after (head ∷ es) (both _ _ (less_than _ (before_less _ p)) (below_less (directory, after) head.0 es (before_less _ p) (first _ _ rising)))
        ∙ ap (λ n. names_of directory (drop n (head ∷ es))) (sym (ap (λ b. cond b 0 (suc (count_to (directory, after) es))) p))
    by rest false p true q =
        let not_behind : is_lt (name_cmp after head.0.1) ≡ false = ap is_lt (sym (same_directory directory after head.0 q)) ∙ p in
        rw (p, q, not_behind) rest
    by rest false p false q = rw (p, q) rest

not_greater : (r s : Ordering) → ordering_then r s ≡ Less → is_gt r ≡ false
not_greater Less s e = refl
not_greater Equal s e = refl
not_greater Greater s e = cc

place_low : (one two : Place) → place_cmp one two ≡ Less → one.0 ≤ two.0
place_low one two e = le_from_not_gt one.0 two.0 (not_greater _ _ e)

-- behind an entry of a further directory there is none of this one
further_none : (directory : ℕ) (head : Entry) (es : List Entry) → directory < head.0.0 → T (below_all place_cmp head.0 es) → names_of directory es ≡ []
further_none directory head [] further below = refl
further_none directory head (next ∷ es) further below =
    let later : head.0.0 ≤ next.0.0 = place_low head.0 next.0 (is_less (place_cmp head.0 next.0) (first (is_lt (place_cmp head.0 next.0)) (below_all place_cmp head.0 es) below)) in
    let apart : (next.0.0 == directory) ≡ false = ne_eqb next.0.0 directory (λ e. omega (arith, later, further, e)) in
    rw apart (further_none directory head es further (second (is_lt (place_cmp head.0 next.0)) (below_all place_cmp head.0 es) below))

pub no_further : (directory : ℕ) (after : List ℕ) (head : Entry) (es : List Entry) → IsRising (head ∷ es) → place_cmp (directory, after) head.0 ≡ Less → (head.0.0 ≡ directory → ⊥) → names_of directory (head ∷ es) ≡ []
no_further directory after head es rising behind differs =
    let low : directory ≤ head.0.0 = place_low (directory, after) head.0 behind in
    let apart : (head.0.0 == directory) ≡ false = ne_eqb head.0.0 directory differs in
    rw apart (further_none directory head es (omega (arith, low, differs)) (first (below_all place_cmp head.0 es) (is_sorted place_cmp es) rising))

-- a directory has no names where none is behind the empty name, and none is empty
pub none_at_all : (directory : ℕ) (es : List Entry) → find place_cmp (directory, []) es ≡ None → names_behind [] (names_of directory es) ≡ [] → names_of directory es ≡ []
none_at_all directory [] none behind = refl
none_at_all directory (((other, name), inode) ∷ es) none behind = by (none_at_all directory es) (other == directory) refl name none behind
  where
    by : (find place_cmp (directory, []) es ≡ None → names_behind [] (names_of directory es) ≡ [] → names_of directory es ≡ []) → (b : Bool) → (other == directory) ≡ b → (name : List ℕ)
        → find place_cmp (directory, []) (((other, name), inode) ∷ es) ≡ None → names_behind [] (names_of directory (((other, name), inode) ∷ es)) ≡ [] → names_of directory (((other, name), inode) ∷ es) ≡ []
    by rest true e [] none behind =
        let same : other ≡ directory = eqb-true other directory e in
        let tied : place_cmp (directory, []) (other, []) ≡ Equal = ap (λ d. place_cmp (directory, []) (d, [])) same ∙ tied_itself place_total (directory, []) in
        let clash : Some inode ≡ None = sym (ap (λ r. cond (is_eq r) (Some inode) (find place_cmp (directory, []) es)) tied) ∙ none in
        absurd (cc)
    by rest true e (byte ∷ name) none behind =
        let clash : (byte ∷ name) ∷ names_behind [] (names_of directory es) ≡ [] = sym (ap (λ b. names_behind [] (mapped (λ (entry : Entry). entry.0.1) (cond b (((other, byte ∷ name), inode) ∷ filter (λ entry. entry.0.0 == directory) es) (filter (λ entry. entry.0.0 == directory) es)))) e) ∙ behind in
        absurd (cc)
    by rest false e name none behind =
        let apart : eq_by_cmp place_cmp (directory, []) (other, name) ≡ false = untied place_total places_same (directory, []) (other, name) (λ p. true_false (sym (ap (◌== directory) (λ i. (sym p i).0) ∙ eq-eqb directory directory refl) ∙ e)) in
        let later : find place_cmp (directory, []) es ≡ None = sym (ap (λ b. cond b (Some inode) (find place_cmp (directory, []) es)) apart) ∙ none in
        let skipped : names_of directory (((other, name), inode) ∷ es) ≡ names_of directory es = ap (λ b. mapped (λ (entry : Entry). entry.0.1) (cond b (((other, name), inode) ∷ filter (λ entry. entry.0.0 == directory) es) (filter (λ entry. entry.0.0 == directory) es))) e in
        skipped ∙ rest later (sym (ap (names_behind []) skipped) ∙ behind)

-- it has some where an entry of it is found, or stands right behind the empty name
pub one_at_least : (directory : ℕ) (name : List ℕ) (es : List Entry) (i inode : ℕ) → slice_get es i ≡ Some ((directory, name), inode) → names_of directory es ≡ [] → ⊥
one_at_least directory name [] i inode is none = cc
one_at_least directory name (head ∷ es) zero inode is none =
    let same : head ≡ ((directory, name), inode) = cc in
    let here : (head.0.0 == directory) ≡ true = ap (λ (e : Entry). e.0.0 == directory) same ∙ eq-eqb directory directory refl in
    let clash : head.0.1 ∷ names_of directory es ≡ [] = sym (ap (λ b. mapped (λ (entry : Entry). entry.0.1) (cond b (head ∷ filter (λ (entry : Entry). entry.0.0 == directory) es) (filter (λ (entry : Entry). entry.0.0 == directory) es))) here) ∙ none in
    cc
one_at_least directory name (head ∷ es) (suc i) inode is none = by (one_at_least directory name es i inode is) (head.0.0 == directory) refl
  where
    by : (names_of directory es ≡ [] → ⊥) → (b : Bool) → (head.0.0 == directory) ≡ b → ⊥
    by rest true e =
        let clash : head.0.1 ∷ names_of directory es ≡ [] = sym (ap (λ b. mapped (λ (entry : Entry). entry.0.1) (cond b (head ∷ filter (λ (entry : Entry). entry.0.0 == directory) es) (filter (λ (entry : Entry). entry.0.0 == directory) es))) e) ∙ none in
        cc
    by rest false e = rest (sym (ap (λ b. mapped (λ (entry : Entry). entry.0.1) (cond b (head ∷ filter (λ (entry : Entry). entry.0.0 == directory) es) (filter (λ (entry : Entry). entry.0.0 == directory) es))) e) ∙ none)
