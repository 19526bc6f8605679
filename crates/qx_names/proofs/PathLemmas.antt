-- The path that leads to an inode.
use Rattle.std.specs.Prelude.{ℕ, ◌==◌, List, [], ◌∷◌, Option, Some, None, if◌then◌else◌}
use Rattle.std.specs.Cmp.{IsTotalOrder, tied_itself}
use Rattle.std.specs.FinMap.{IsAntisymmetric, entries, entries_sorted, get, get-entries}
use Rattle.std.specs.FinMap.Entries.{below_all, find, is_sorted}
use Rattle.std.specs.Ordering.{eq_by_cmp, is_eq, is_lt}
use Rattle.std.specs.declared.cmp.Ordering.{Ordering}
use Rattle.std.specs.declared.cmp.Ordering.TheVariants.{Equal}
use Rattle.std.proofs.Common.{◌≡◌, Bool, true, false, T, cond, ap, refl, sym, ◌∙◌, subst}
use Rattle.std.proofs.lemmas.Bool.{eq-eqb, eqb-true}
use Rattle.qx_machine.specs.Names.{Key, Names, root_key}
use Rattle.qx_machine.proofs.Directories.{first, second}
use Rattle.qx_names.specs.Paths.{HasPath, key_in, path_of}
use Rattle.qx_names.specs.inner.Shows.{Shows, key_total, key-IsAntisymmetric}
use Rattle.qx_names.proofs.MapLemmas.{is_equal}

pub not_less : (r : Ordering) → r ≡ Equal → T (is_lt r) → ⊥
not_less r e p = subst (λ x. T (is_lt x)) e p

abbrev unwrap : Option ℕ → ℕ
unwrap None = 0
unwrap (Some value) = value

true_false : true ≡ false → ⊥
true_false e = cc

same_value : (a b : ℕ) → (a == b) ≡ true → a ≡ b
same_value a b e = eqb-true a b e

module _ {K : Type 0} {R : K → K → Ordering} (o : IsTotalOrder R) (same : IsAntisymmetric R) where
  -- a key below all is not found
  not_found : (key : K) (es : List (K × ℕ)) (value : ℕ) → T (below_all R key es) → find R key es ≡ Some value → ⊥
  not_found key [] value below e = cc
  not_found key (entry ∷ es) value below e = by (not_found key es value (second _ _ below)) (eq_by_cmp R key entry.0) refl e
    where
      by : (find R key es ≡ Some value → ⊥) → (b : Bool) → eq_by_cmp R key entry.0 ≡ b → cond b (Some entry.1) (find R key es) ≡ Some value → ⊥
      by rest true p q = not_less _ (is_equal _ p) (first _ _ below)
      by rest false p q = rest q

  -- the first key of a value that is there has it
  found_first : (other : K) (es : List (K × ℕ)) (value : ℕ) (key : K) → T (is_sorted R es) → find R key es ≡ Some value → find R (key_in other es value) es ≡ Some value
  found_first other [] value key sorted e = cc
  found_first other (entry ∷ es) value key sorted e = by (λ q. found_first other es value key (second _ _ sorted) q) (entry.1 == value) refl
    where
      later : (b : Bool) → eq_by_cmp R key entry.0 ≡ b → cond b (Some entry.1) (find R key es) ≡ Some value → (entry.1 == value) ≡ false → find R key es ≡ Some value
      later true p q apart = let same_values : entry.1 ≡ value = ap (λ x. unwrap x) q in absurd (true_false (sym (eq-eqb entry.1 value same_values) ∙ apart))
      later false p q apart = q

      skip : (b : Bool) (found : K) → eq_by_cmp R found entry.0 ≡ b → find R found es ≡ Some value → cond b (Some entry.1) (find R found es) ≡ Some value
      skip true found p q = absurd (not_found found es value (subst (λ k. T (below_all R k es)) (sym (same _ _ (is_equal _ p))) (first _ _ sorted)) q)
      skip false found p q = q

      by : (find R key es ≡ Some value → find R (key_in other es value) es ≡ Some value) → (b : Bool) → (entry.1 == value) ≡ b → find R (if b then entry.0 else key_in other es value) (entry ∷ es) ≡ Some value
      by rest true p = ap (λ r. cond (is_eq r) (Some entry.1) (find R entry.0 es)) (tied_itself o entry.0) ∙ ap Some (same_value _ _ p)
      by rest false p = skip _ (key_in other es value) refl (rest (later _ refl e p))

-- what some path leads to, its own path leads to
pub is_named : (names : Names) (key : Key) (inode : ℕ) → get names key ≡ Some inode → HasPath names inode
unfolding path_of
is_named names key inode e =
    get-entries names _ ∙ found_first key_total key-IsAntisymmetric (root_key inode) (entries names) inode key (entries_sorted names) (sym (get-entries names key) ∙ e)

-- and no other
pub path_is : (root : ℕ → Bool) (entry : ℕ → List ℕ → Option ℕ) (names : Names) → Shows root entry names → (key : Key) (inode : ℕ) → get names key ≡ Some inode → path_of names inode ≡ key
path_is root entry names s key inode e = s.single _ key inode (is_named names key inode e) e
