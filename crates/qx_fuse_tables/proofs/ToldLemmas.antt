-- A name that the kernel is told has the number that it is told.
use Rattle.std.proofs.Common.{◌≡◌, ◌∙◌, ℕ, suc, ◌+◌, ◌<◌, ◌≤◌, Bool, true, false, cond, ltb, eqb, List, [], ◌∷◌, ◌++◌, length, drop, get_or, refl, sym, ap, arith, Option, None, Some, inl, inr, length-drop}
use Rattle.std.specs.Prelude.{option_map, unwrap_or}
use Rattle.std.specs.List.{position, position_or_len}
use Rattle.std.specs.Cmp.Lexicographic.{nat_list_eq_equiv}
use Rattle.std.specs.Str.{bytes_eq}
use Rattle.std.proofs.Math.ListN.{set, length-set}
use Rattle.std.proofs.lemmas.Bool.{and_from, cases_lt, eq-eqb, le-ltb, lt-ltb}
use Rattle.std.proofs.lemmas.List.{get_or-set_other, get_or-set_same, get_or_append_left, get_or_push, length_push}
use Rattle.std.proofs.lemmas.List.Folds.{position_or_len-set}
use Rattle.std.proofs.lemmas.List.Sums.{fails_before_first, position_or_len_is}
use Rattle.std.proofs.lemmas.Option.{none-some}
use Rattle.qx_isolation.specs.Rows.{put_row, row_at, with_row}
use Rattle.qx_rows.proofs.RowLemmas.{row_at-get_or}
use Rattle.qx_fuse_tables.specs.declared.change.Change.TheVariants.{Told}
use Rattle.qx_fuse_tables.specs.declared.change.Node.{Node}
use Rattle.qx_fuse_tables.specs.declared.handles.Kind.{Kind}
use Rattle.qx_fuse_tables.specs.Handles.{HandleRows}
use Rattle.qx_fuse_tables.specs.Nodes.{NodeRows, ToldIsFound, changed, first_idle, free_number, is_called, is_unneeded, new_node, number_of, told_at}

-- a place, if it is within so many
abbrev at_place : ℕ → ℕ → Option ℕ
at_place place count = cond (ltb place count) (Some place) None

missing : (place count : ℕ) → at_place place count ≡ None → count ≤ place
missing place count is = elim (cases_lt place count) [
  | inl lt ↦
      let found : at_place place count ≡ Some place = ap (λ (b : Bool). cond b (Some place) None) (lt-ltb place count lt) in
      absurd (none-some place (sym is ∙ found))
  | inr le ↦ le
]

-- ---- a name that has a number

-- told once more it is called the same
same_name : (directory : ℕ) (name : List ℕ) (kind : Kind) (place : Option Node) → is_called directory name (option_map (changed (Told kind)) place) ≡ is_called directory name place
same_name directory name kind None = refl
same_name directory name kind (Some node) = refl

told_again : (nodes : NodeRows) (directory : ℕ) (name : List ℕ) (kind : Kind) (n : ℕ) → number_of (with_row nodes n (changed (Told kind))) directory name ≡ number_of nodes directory name
told_again nodes directory name kind n =
    let p : Option Node → Bool = λ place. is_called directory name place in
    let row : Option Node = option_map (changed (Told kind)) (row_at nodes n) in
    let same : p row ≡ p (get_or nodes n None) = same_name directory name kind (row_at nodes n) ∙ ap p (row_at-get_or nodes n) in
    ap (λ (k : ℕ). at_place k (length (set nodes n row))) (position_or_len-set p nodes n row None same)
    ∙ ap (λ (count : ℕ). at_place (position_or_len p nodes) count) (length-set nodes n row)

-- ---- a name that gets one

module _ (p : Option Node → Bool) (nodes : NodeRows) (row : Option Node) (none : length nodes ≤ position_or_len p nodes) (passes : p row ≡ true) where
  set_found : (n : ℕ) → n < length nodes → position p (set nodes n row) ≡ Some n
  set_found n lt =
      let long = length-set nodes n row in
      let within : n < length (set nodes n row) = omega (arith, long, lt) in
      let first : position_or_len p (set nodes n row) ≡ n = position_or_len_is p (set nodes n row) n None (omega (arith, within))
      (λ k below. ap p (get_or-set_other nodes n k row None (λ same. omega (arith, below, same))) ∙ fails_before_first p nodes k None (omega (arith, below, lt, none)))
      (λ _. ap p (get_or-set_same nodes n row None lt) ∙ passes)
      in
      ap (λ (k : ℕ). at_place k (length (set nodes n row))) first ∙ ap (λ (b : Bool). cond b (Some n) None) (lt-ltb n (length (set nodes n row)) within)

  push_found : position p (nodes ++ row ∷ []) ≡ Some (length nodes)
  push_found =
      let n = length nodes in
      let long = length_push nodes row in
      let within : n < length (nodes ++ row ∷ []) = omega (arith, long) in
      let first : position_or_len p (nodes ++ row ∷ []) ≡ n = position_or_len_is p (nodes ++ row ∷ []) n None (omega (arith, within))
      (λ k below. ap p (get_or_append_left nodes (row ∷ []) None k below) ∙ fails_before_first p nodes k None (omega (arith, below, none)))
      (λ _. ap p (get_or_push nodes row None n refl) ∙ passes)
      in
      ap (λ (k : ℕ). at_place k (length (nodes ++ row ∷ []))) first ∙ ap (λ (b : Bool). cond b (Some n) None) (lt-ltb n (length (nodes ++ row ∷ [])) within)

put_found : (p : Option Node → Bool) (nodes : NodeRows) (node : Node) (n : ℕ) → length nodes ≤ position_or_len p nodes → p (Some node) ≡ true → n ≤ length nodes → position p (put_row nodes n node) ≡ Some n
put_found p nodes node n none passes within = elim (cases_lt n (length nodes)) [
  | inl lt ↦ ap either (lt-ltb n (length nodes) lt) ∙ set_found p nodes (Some node) none passes n lt
  | inr le ↦
      let last : length nodes ≡ n = omega (arith, le, within) in
      ap either (le-ltb n (length nodes) le) ∙ (push_found p nodes (Some node) none passes ∙ ap (λ (k : ℕ). Some k) last)
]
  where
    either : Bool → Option ℕ
    either b = position p (cond b (set nodes n (Some node)) (nodes ++ Some node ∷ []))

-- ---- its number is within the table, or the next one

bounded : (b : Bool) (m n most : ℕ) → m ≤ most → n ≤ most → cond b m n ≤ most
bounded true m n most one other = one
bounded false m n most one other = other

first_idle_within : (nodes : NodeRows) (handles : HandleRows) (n : ℕ) (places : List (Option Node)) → first_idle nodes handles n places ≤ n + length places
first_idle_within nodes handles n [] = omega arith
first_idle_within nodes handles n (place ∷ places) =
    let rest = first_idle_within nodes handles (n + 1) places in
    bounded (is_unneeded nodes handles n place) n (first_idle nodes handles (n + 1) places) (n + suc (length places)) (omega arith) (omega (arith, rest))

free_within : (nodes : NodeRows) (handles : HandleRows) → 2 ≤ length nodes → free_number nodes handles ≤ length nodes
free_within nodes handles some = omega (arith, some, first_idle_within nodes handles 2 (drop 2 nodes), length-drop 2 nodes)

-- ---- both

new_called : (directory : ℕ) (name : List ℕ) (kind : Kind) → is_called directory name (Some (new_node directory name kind)) ≡ true
new_called directory name kind = and_from (eqb directory directory) (bytes_eq name name) (eq-eqb directory directory refl) (nat_list_eq_equiv.refl name)

pub told_found : ToldIsFound
told_found nodes handles directory name kind some = by_number (number_of nodes directory name) refl
  where
    by_number : (found : Option ℕ) → number_of nodes directory name ≡ found
        → number_of (told_at nodes handles directory name kind found) directory name ≡ Some (unwrap_or found (free_number nodes handles))
    by_number (Some n) is = told_again nodes directory name kind n ∙ is
    by_number None is =
        let p : Option Node → Bool = λ place. is_called directory name place in
        put_found p nodes (new_node directory name kind) (free_number nodes handles) (missing (position_or_len p nodes) (length nodes) is) (new_called directory name kind) (free_within nodes handles some)
