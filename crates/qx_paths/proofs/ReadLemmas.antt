-- What a path that was read has, and reading it again from its components.
use Rattle.std.proofs.Common.{nat_le, append_assoc, ◌≡◌, ℕ, ◌+◌, ◌≤◌, Bool, true, false, ◌&&◌, eqb, List, [], ◌∷◌, ◌++◌, length, take, drop, Option, None, Some, refl, ap, sym, subst, ◌∙◌, arith}
use Rattle.std.specs.Prelude.{IfOk, Result, Ok, Err, if◌then◌else◌, filter, nat_lt}
use Rattle.std.specs.List.{list_all, slice_split}
use Rattle.std.proofs.lemmas.Bool.{eqb-true, le-leb, le-ltb, ltb-false, and_parts}
use Rattle.std.proofs.lemmas.List.{length-append, take-append-drop}
use Rattle.std.proofs.lemmas.List.Folds.{list_all-append}
use Rattle.std.proofs.lemmas.List.Splits.{join_with_byte-slice_split}
use Rattle.qx_base.specs.declared.errno.Errno.{Errno}
use Rattle.qx_base.specs.declared.errno.Errno.TheVariants.{EINVAL, ENAMETOOLONG}
use Rattle.qx_types.specs.declared.limits.TheConstants.Limits.{PATH}
use Rattle.qx_wire.specs.Rests.{is_component, is_rest, components_of, joined}
use Rattle.qx_wire.proofs.RestLemmas.{components_joined, components_some}
use Rattle.qx_paths.specs.Paths.{begins_with_slash, first_fault, is_named, path_components, read_path, unless}
use Rattle.qx_paths.specs.inner.Paths.{IsShortPath}
use Rattle.qx_paths.proofs.PathLemmas.{faultless, skip_slash}

abbrev slash : ℕ → Bool
slash x = eqb x 47

-- ---- lengths

-- the components' bytes, and one more for each
abbrev weight : List (List ℕ) → ℕ
weight [] = 0
weight (name ∷ names) = length name + 1 + weight names

joined_length : (name : List ℕ) (names : List (List ℕ)) → length (joined (name ∷ names)) + 1 ≡ weight (name ∷ names)
joined_length name [] = omega arith
joined_length name (next ∷ names) = omega (arith, length-append name (47 ∷ joined (next ∷ names)), joined_length next names)

weight_joined : (names : List (List ℕ)) → weight names ≤ length (joined names) + 1
weight_joined [] = omega arith
weight_joined (name ∷ names) = omega (arith, joined_length name names)

joined_within : (names : List (List ℕ)) (n : ℕ) → weight names ≤ n + 1 → length (joined names) ≤ n
joined_within [] n e = omega arith
joined_within (name ∷ names) n e = omega (arith, e, joined_length name names)

weight_named : (names : List (List ℕ)) → weight (filter is_named names) ≤ weight names
weight_named [] = omega arith
weight_named ([] ∷ names) = omega (arith, weight_named names)
weight_named ((b ∷ name) ∷ names) = omega (arith, weight_named names)

weight_append : (one two : List (List ℕ)) → weight (one ++ two) ≡ weight one + weight two
weight_append [] two = omega arith
weight_append (name ∷ one) two = omega (arith, weight_append one two)

weight_drop : (n : ℕ) (names : List (List ℕ)) → weight (drop n names) ≤ weight names
weight_drop n names =
    let e : weight (take n names) + weight (drop n names) ≡ weight names = sym (weight_append (take n names) (drop n names)) ∙ ap weight (take-append-drop n names) in
    omega (arith, e)

weight_components : (bytes : List ℕ) → weight (path_components bytes) ≤ length bytes + 1
unfolding path_components
weight_components bytes =
    let whole : length (joined (slice_split slash bytes)) ≡ length bytes = ap length (join_with_byte-slice_split 47 bytes) in
    omega (arith, whole, weight_joined (slice_split slash bytes), weight_named (slice_split slash bytes))

weight_path : (bytes : List ℕ) → begins_with_slash bytes ≡ true → weight (path_components bytes) ≤ length bytes
weight_path [] e = absurd cc
weight_path (b ∷ bytes) e = rw (eqb-true b 47 e, skip_slash bytes) (omega (arith, weight_components bytes))

-- ---- what was read

-- a path that is read as these components
pub record IsRead (bytes : List ℕ) (names : List (List ℕ)) : Type 0 where
  pub short : length bytes ≤ PATH
  pub slash_first : begins_with_slash bytes ≡ true
  pub faultless : first_fault names ≡ None
  pub are : path_components bytes ≡ names

told : (long first : Bool) (fault : Option Errno) (parts names : List (List ℕ)) → (if long then Err ENAMETOOLONG else if first then unless fault parts else Err EINVAL) ≡ Ok names → ((long ≡ false) × (first ≡ true)) × ((fault ≡ None) × (parts ≡ names))
told true first fault parts names e = absurd cc
told false false fault parts names e = absurd cc
told false true (Some errno) parts names e = absurd cc
told false true None parts names e = ((refl, refl), (refl, subst (λ (r : Result (List (List ℕ)) Errno). IfOk r (λ z. parts ≡ z)) e refl))

pub was_read : (bytes : List ℕ) (names : List (List ℕ)) → read_path bytes ≡ Ok names → IsRead bytes names
was_read bytes names e =
    let t = told (nat_lt PATH (length bytes)) (begins_with_slash bytes) (first_fault (path_components bytes)) (path_components bytes) names e in
    record { short = ltb-false PATH (length bytes) t.0.0; slash_first = t.0.1; faultless = subst (λ (parts : List (List ℕ)). first_fault parts ≡ None) t.1.1 t.1.0; are = t.1.1 }

pub is_read : (bytes : List ℕ) (names : List (List ℕ)) → IsRead bytes names → read_path bytes ≡ Ok names
is_read bytes names r = rw (le-ltb PATH (length bytes) r.short, r.slash_first, r.are, r.faultless) refl

-- ---- rests

pub rests : (bytes : List ℕ) (names : List (List ℕ)) (n : ℕ) → read_path bytes ≡ Ok names → is_rest (drop n names) ≡ true
rests bytes names n e =
    let r = was_read bytes names e in
    let heavy : weight names ≤ length bytes = subst (λ (parts : List (List ℕ)). weight parts ≤ length bytes) r.are (weight_path bytes r.slash_first) in
    let short : length (joined (drop n names)) ≤ PATH = joined_within (drop n names) PATH (omega (arith, heavy, weight_drop n names, r.short)) in
    let parted : (list_all is_component (take n names) && list_all is_component (drop n names)) ≡ true = sym (list_all-append is_component (take n names) (drop n names)) ∙ ap (list_all is_component) (take-append-drop n names) ∙ faultless names r.faultless in
    let good = (and_parts (list_all is_component (take n names)) (list_all is_component (drop n names)) parted).1 in
    rw (le-leb (length (joined (drop n names))) PATH short, good) refl

pub good_rest : (bytes : List ℕ) → IsShortPath bytes → is_rest (path_components bytes) ≡ true
good_rest bytes path =
    let short : length (joined (path_components bytes)) ≤ PATH = omega (arith, path.short, joined_within (path_components bytes) (length bytes) (weight_components bytes)) in
    rw (le-leb (length (joined (path_components bytes))) PATH short, path.good) refl

pub joined_more : (text name : List ℕ) (names : List (List ℕ)) → joined (((text ++ 47 ∷ []) ++ name) ∷ names) ≡ joined (text ∷ name ∷ names)
joined_more text name [] = append_assoc text (47 ∷ []) name
joined_more text name (next ∷ names) = rw (append_assoc text (47 ∷ []) name) (append_assoc text (47 ∷ name) (47 ∷ joined (next ∷ names)))

pub rest_again : (rest : List (List ℕ)) → is_rest rest ≡ true → components_of (joined rest) ≡ rest
rest_again rest good = components_joined rest (and_parts (nat_le (length (joined rest)) PATH) (list_all is_component rest) good).1

-- ---- reading again

all_named : (names : List (List ℕ)) → list_all is_component names ≡ true → filter is_named names ≡ names
all_named [] good = refl
all_named ([] ∷ names) good = absurd cc
all_named ((b ∷ name) ∷ names) good = ap (λ (xs : List (List ℕ)). (b ∷ name) ∷ xs) (all_named names (and_parts (is_component (b ∷ name)) (list_all is_component names) good).1)

joined_some : (name : List ℕ) (names : List (List ℕ)) → list_all is_component (name ∷ names) ≡ true → length (joined (name ∷ names)) ≡ 0 → ⊥
joined_some [] names good e = cc
joined_some (b ∷ name) names good e = omega (arith, e, joined_length (b ∷ name) names)

pub again : (names : List (List ℕ)) → list_all is_component names ≡ true → path_components (joined names) ≡ names
unfolding path_components
again [] good = refl
again (name ∷ names) good = ap (filter is_named) (sym (components_some (joined (name ∷ names)) (joined_some name names good)) ∙ components_joined (name ∷ names) good) ∙ all_named (name ∷ names) good

bytes_left : (bytes : List ℕ) (names : List (List ℕ)) → begins_with_slash bytes ≡ true → path_components bytes ≡ names → weight names ≤ length bytes → length (joined names) + 1 ≤ length bytes
bytes_left [] names e are heavy = absurd cc
bytes_left (b ∷ bytes) [] e are heavy = omega arith
bytes_left (b ∷ bytes) (name ∷ names) e are heavy = omega (arith, heavy, joined_length name names)

pub read_again : (bytes : List ℕ) (names : List (List ℕ)) → read_path bytes ≡ Ok names → read_path (47 ∷ joined names) ≡ Ok names
read_again bytes names e =
    let r = was_read bytes names e in
    let heavy : weight names ≤ length bytes = subst (λ (parts : List (List ℕ)). weight parts ≤ length bytes) r.are (weight_path bytes r.slash_first) in
    is_read (47 ∷ joined names) names (record { short = omega (arith, r.short, bytes_left bytes names r.slash_first r.are heavy); slash_first = refl; faultless = r.faultless; are = skip_slash (joined names) ∙ again names (faultless names r.faultless) })
