-- New empty lists, one after another.
use Rattle.std.proofs.Common.{◌≡◌, ◌≢◌, inl, inr, ℕ, zero, suc, ◌<◌, true, List, [], ◌∷◌, Contains, Some, None, is_some, length, get_or, refl, sym, ◌∙◌, ap, subst, arith}
use Rattle.std.specs.FinMap as map
use Rattle.std.proofs.lemmas.Bool.Decides.{eqb_tells}
use Rattle.std.proofs.lemmas.List.Elements.{Contains-get_or}
use Rattle.qx_lists.specs.Shows.{Lists}
use Rattle.qx_lists.specs.Table.{Table}
use Rattle.qx_lists.proofs.ListLemmas.{contains_cases, contains_first, contains_later}
use Rattle.qx_lists.proofs.MapLemmas.{get-insert_same, get-insert_other, get-remove_same, get-remove_other, same_map}
use Rattle.qx_lines.specs.Line.{AreApart}
use Rattle.qx_lines.specs.inner.Line.{AreNew, with_empty}

pub get_or_any : (xs : List ℕ) (i d e : ℕ) → i < length xs → get_or xs i e ≡ get_or xs i d
get_or_any [] i d e within = absurd (omega arith)
get_or_any (x ∷ xs) zero d e within = refl
get_or_any (x ∷ xs) (suc i) d e within = get_or_any xs i d e (omega arith)

-- a list that was made goes again
pub remove-insert : (lists : Lists) (list : ℕ) → map.get lists list ≡ None → map.remove (map.insert lists list []) list ≡ lists
remove-insert lists list none = same_map _ _ (λ q. elim (eqb_tells q list) [
  | inl same ↦ subst (λ k. map.get (map.remove (map.insert lists list []) list) k ≡ map.get lists k) (sym same.1) (get-remove_same (map.insert lists list []) list ∙ sym none)
  | inr differs ↦ get-remove_other (map.insert lists list []) list q differs.1 ∙ get-insert_other lists list [] q differs.1
])

pub gone_again : {T : Type 0} (t made : Table T) (list : ℕ) → made ≡ record t { lists = map.insert t.lists list [] } → map.get t.lists list ≡ None → record made { lists = map.remove made.lists list } ≡ t
gone_again {T} t made list is none =
    let same : map.remove (map.insert t.lists list []) list ≡ t.lists = remove-insert t.lists list none in
    ap {A = Table T} {B = Table T} (λ table. record table { lists = map.remove table.lists list }) is ∙ (λ i. record t { lists = same i })

not_new : (lists : Lists) (list new : ℕ) (nodes : List ℕ) → map.get lists list ≡ Some nodes → map.get lists new ≡ None → list ≢ new
not_new lists list new nodes there none same = let clash : Some nodes ≡ None = sym there ∙ ap (map.get lists) same ∙ none in cc

pub kept-with_empty : (lists : Lists) (news : List ℕ) (list : ℕ) (nodes : List ℕ) → AreNew lists news → map.get lists list ≡ Some nodes → map.get (with_empty lists news) list ≡ Some nodes
kept-with_empty lists [] list nodes are there = there
kept-with_empty lists (new ∷ news) list nodes are there =
    kept-with_empty (map.insert lists new []) news list nodes are.1 (get-insert_other lists new [] list (not_new lists list new nodes there are.0) ∙ there)

pub empty-with_empty : (lists : Lists) (news : List ℕ) → AreNew lists news → (i : ℕ) → i < length news → map.get (with_empty lists news) (get_or news i 0) ≡ Some []
empty-with_empty lists [] are i within = absurd (omega arith)
empty-with_empty lists (new ∷ news) are zero within = kept-with_empty (map.insert lists new []) news new [] are.1 (get-insert_same lists new [])
empty-with_empty lists (new ∷ news) are (suc i) within = empty-with_empty (map.insert lists new []) news are.1 i (omega arith)

pub contained-with_empty : (lists : Lists) (news : List ℕ) (list : ℕ) → AreNew lists news → Contains news list → is_some (map.get (with_empty lists news) list) ≡ true
contained-with_empty lists news list are at = ap is_some (subst (λ l. map.get (with_empty lists news) l ≡ Some []) is (empty-with_empty lists news are at.0 at.1))
  where
    is : get_or news at.0 0 ≡ list
    is = get_or_any news at.0 list 0 at.1 ∙ at.2

pub other-with_empty : (lists : Lists) (news : List ℕ) (list : ℕ) → (Contains news list → ⊥) → map.get (with_empty lists news) list ≡ map.get lists list
other-with_empty lists [] list absent = refl
other-with_empty lists (new ∷ news) list absent =
    other-with_empty (map.insert lists new []) news list (λ at. absent (contains_later new list news at))
    ∙ get-insert_other lists new [] list (λ same. absent (subst (Contains (new ∷ news)) (sym same) (contains_first new news)))

pub was_new : (lists : Lists) (news : List ℕ) (list : ℕ) → AreNew lists news → Contains news list → map.get lists list ≡ None
was_new lists [] list are at = absurd (omega (arith, at.1))
was_new lists (new ∷ news) list are at = elim (contains_cases new list news at) [
  | inl same ↦ ap (map.get lists) same ∙ are.0
  | inr later ↦ elim (eqb_tells list new) [
    | inl same ↦ ap (map.get lists) same.1 ∙ are.0
    | inr differs ↦ sym (get-insert_other lists new [] list differs.1) ∙ was_new (map.insert lists new []) news list are.1 later
  ]
]

once_new : (lists : Lists) (new : ℕ) (news : List ℕ) → AreNew (map.insert lists new []) news → Contains news new → ⊥
once_new lists new news are at = let clash : Some [] ≡ None = sym (get-insert_same lists new []) ∙ was_new (map.insert lists new []) news new are at in cc

pub apart_new : (lists : Lists) (news : List ℕ) → AreNew lists news → AreApart news
unfolding AreApart
apart_new lists [] are one other in_one in_other same = absurd (omega arith)
apart_new lists (new ∷ news) are zero zero in_one in_other same = refl
apart_new lists (new ∷ news) are zero (suc other) in_one in_other same = absurd (once_new lists new news are.1 (subst (Contains news) (sym same) (Contains-get_or news other 0 (omega arith))))
apart_new lists (new ∷ news) are (suc one) zero in_one in_other same = absurd (once_new lists new news are.1 (subst (Contains news) same (Contains-get_or news one 0 (omega arith))))
apart_new lists (new ∷ news) are (suc one) (suc other) in_one in_other same = ap suc (apart_new (map.insert lists new []) news are.1 one other (omega arith) (omega arith) same)
