-- Walking over the components of a path.
use Rattle.std.proofs.Common.{◌≡◌, ℕ, ◌+◌, ◌-◌, ◌<◌, Bool, true, false, eqb, ltb, List, [], ◌∷◌, length, take, drop, Option, Some, None, refl, ap, subst, ◌∙◌, arith}
use Rattle.std.specs.Prelude.{position, filter, IfSome, if◌then◌else◌}
use Rattle.std.specs.List.{list_all, position_or_len, slice_split}
use Rattle.std.proofs.lemmas.Grind.{common_steps}
use Rattle.std.proofs.lemmas.Option.{cond_some}
use Rattle.std.proofs.lemmas.List.Splits.{slice_split-cons_yes}
use Rattle.qx_base.specs.declared.errno.Errno.{Errno}
use Rattle.qx_wire.specs.Rests.{is_component}
use Rattle.qx_wire.proofs.RestLemmas.{next_first, next_last}
use Rattle.std.specs.Str.{bytes_eq}
use Rattle.std.proofs.lemmas.Bool.{and_parts}
use Rattle.qx_paths.specs.Prefixes.{behind}
use Rattle.qx_paths.specs.Paths.{begins_with_slash, component_fault, first_fault, is_named, or_fault, path_components}

abbrev slash : ℕ → Bool
slash x = eqb x 47

pub skip_slash : (bytes : List ℕ) → path_components (47 ∷ bytes) ≡ path_components bytes
unfolding path_components
skip_slash bytes = ap (filter is_named) (slice_split-cons_yes slash 47 bytes refl)

kept : (name : List ℕ) (names : List (List ℕ)) → 0 < length name → filter is_named (name ∷ names) ≡ name ∷ filter is_named names
kept [] names some = absurd (omega arith)
kept (b ∷ name) names some = refl

pub no_bytes : (bytes : List ℕ) → length bytes ≡ 0 → path_components bytes ≡ []
unfolding path_components
no_bytes [] e = refl
no_bytes (b ∷ bytes) e = absurd (omega arith)

pub cut_nowhere : (bytes : List ℕ) → 0 < length bytes → position slash bytes ≡ None → path_components bytes ≡ bytes ∷ path_components []
unfolding path_components
cut_nowhere bytes some e = ap (filter is_named) (next_last bytes e) ∙ kept bytes [] some

first_at : (b : ℕ) (bytes : List ℕ) (at : ℕ) → slash b ≡ false → position slash (b ∷ bytes) ≡ Some at → 0 < at
first_at b bytes at e is =
    let g = cond_some (ltb (position_or_len slash (b ∷ bytes)) (length (b ∷ bytes))) (position_or_len slash (b ∷ bytes)) at is in
    let later : position_or_len slash (b ∷ bytes) ≡ 1 + position_or_len slash bytes = rw e refl in
    omega (arith, g.1, later)

taken_some : (at : ℕ) (bytes : List ℕ) → 0 < at → 0 < length bytes → 0 < length (take at bytes)
taken_some at bytes some more = grind (arith, common_steps)

pub cut_there : (bytes : List ℕ) (at : ℕ) → 0 < length bytes → begins_with_slash bytes ≡ false → position slash bytes ≡ Some at → path_components bytes ≡ take at bytes ∷ path_components (take (length bytes - (at + 1)) (drop (at + 1) bytes))
unfolding path_components
cut_there [] at some clear e = absurd (omega arith)
cut_there (b ∷ bytes) at some clear e = ap (filter is_named) (next_first (b ∷ bytes) at e) ∙ kept (take at (b ∷ bytes)) (slice_split slash (take (length (b ∷ bytes) - (at + 1)) (drop (at + 1) (b ∷ bytes)))) (taken_some at (b ∷ bytes) (first_at b bytes at clear e) some)

-- ---- reading

or_none : (one two : Option Errno) → or_fault one two ≡ None → (one ≡ None) × (two ≡ None)
or_none (Some e) two is = absurd cc
or_none None two is = (refl, is)

last_choice : (long good : Bool) (x y : Errno) → (if long then Some x else if good then None else Some y) ≡ None → good ≡ true
last_choice true good x y is = absurd cc
last_choice false true x y is = refl
last_choice false false x y is = absurd cc

fault_none : (name : List ℕ) → component_fault name ≡ None → is_component name ≡ true
fault_none name is = last_choice _ _ _ _ is

pub faultless : (names : List (List ℕ)) → first_fault names ≡ None → list_all is_component names ≡ true
faultless [] is = refl
faultless (name ∷ names) is =
    let both = or_none (component_fault name) (first_fault names) is in
    rw (fault_none name both.0, faultless names both.1) refl

-- ---- behind a prefix

chosen_some : {X : Type 0} (b : Bool) (left : Option X) (x : X) → (if b then left else None) ≡ Some x → left ≡ Some x
chosen_some true left x e = e
chosen_some false left x e = absurd cc

pub good_behind : (path names rest : List (List ℕ)) → behind path names ≡ Some rest → list_all is_component path ≡ true → list_all is_component rest ≡ true
good_behind path [] rest is good = subst (λ (left : Option (List (List ℕ))). IfSome left (λ p. list_all is_component p ≡ true)) is good
good_behind [] (name ∷ names) rest is good = absurd cc
good_behind (first ∷ path) (name ∷ names) rest is good = good_behind path names rest (chosen_some (bytes_eq first name) (behind path names) rest is) (and_parts (is_component first) (list_all is_component path) good).1
