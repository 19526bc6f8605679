-- Whether a path goes through a directory, and on.
use Rattle.std.specs.Prelude.{ℕ, ◌||◌, List, [], ◌∷◌, Option, Some, None, Result, Ok, Err, nat_eq}
use Rattle.std.specs.FinMap.{get}
use Rattle.std.proofs.Common.{◌≡◌, Bool, true, false, ap, refl, sym, ◌∙◌}
use Rattle.std.proofs.Math.Bool.{or-true}
use Rattle.std.proofs.lemmas.Bool.{cases_eq, eq-eqb, ne_eqb}
use mathlib.Core.Logic.{inl, inr}
use Rattle.qx_base.specs.declared.errno.Errno.{Errno}
use Rattle.qx_base.specs.declared.errno.Errno.TheVariants.{ENOENT}
use Rattle.qx_machine.specs.Inodes.{Inodes}
use Rattle.qx_isolation.specs.Judgements.{◌>>=◌, found}
use Rattle.qx_machine.specs.Names.{Key, Names, Spot, is_below, is_same_key, search, under, walk}
use Rattle.qx_names.specs.Paths.{HasPath, path_of}
use Rattle.qx_names.specs.inner.Shows.{key_total, key-IsAntisymmetric}
use Rattle.qx_names.proofs.MapLemmas.{tied, untied}
use Rattle.qx_names.proofs.ShowsLemmas.{some_same}

ended : (r : Result Bool Errno) (spot at : Spot) → (r >>= (λ searched. Ok spot)) ≡ Ok at → spot ≡ at
ended (Ok searched) spot at e = cc
ended (Err error) spot at e = cc

went_on : (r : Result Bool Errno) (x : Option ℕ) (next : ℕ → Result Spot Errno) (at : Spot) → (r >>= (λ searched. (found x ENOENT >>= next))) ≡ Ok at → (inode : ℕ) × ((x ≡ Some inode) × (next inode ≡ Ok at))
went_on (Ok searched) None next at e = cc
went_on (Ok searched) (Some inode) next at e = (inode, (refl, e))
went_on (Err error) x next at e = cc

module _ (inodes : Inodes) (names : Names) (user : ℕ) where
  pub walk_end : (directory : ℕ) (key : Key) (name : List ℕ) (at : Spot) → walk inodes names user directory key name [] ≡ Ok at → at.key ≡ under key name
  walk_end directory key name at e = ap (λ (s : Spot). s.key) (sym (ended (search inodes user directory) _ at e))

  pub walk_on : (directory : ℕ) (key : Key) (name further : List ℕ) (rest : List (List ℕ)) (at : Spot) → walk inodes names user directory key name (further ∷ rest) ≡ Ok at → (next : ℕ) × ((get names (under key name) ≡ Some next) × (walk inodes names user next (under key name) further rest ≡ Ok at))
  walk_on directory key name further rest at e = went_on (search inodes user directory) (get names (under key name)) (λ next. walk inodes names user next (under key name) further rest) at e

  -- a path that has gone through it stays below
  pub walk_below : (from : Key) (directory : ℕ) (key : Key) (name : List ℕ) (rest : List (List ℕ)) (at : Spot) → walk inodes names user directory key name rest ≡ Ok at → (is_same_key key from || is_below from key.0 key.1) ≡ true → is_below from at.key.0 at.key.1 ≡ true
  walk_below from directory key name [] at e through = ap (λ (k : Key). is_below from k.0 k.1) (walk_end directory key name at e) ∙ through
  walk_below from directory key name (further ∷ rest) at e through =
      let on = walk_on directory key name further rest at e in
      walk_below from on.0 (under key name) further rest at on.1.1 (ap (λ b. is_same_key (under key name) from || b) through ∙ or-true (is_same_key (under key name) from))

  -- one name further
  pub walk_next : (directory : ℕ) (key : Key) (name further : List ℕ) (rest all : List (List ℕ)) → all ≡ further ∷ rest → (child : ℕ) → get names (under key name) ≡ Some child → (path : Key) → path ≡ under key name → (at : Spot) → walk inodes names user directory key name all ≡ Ok at → walk inodes names user child path further rest ≡ Ok at
  walk_next directory key name further rest all is child leads path path_is at e =
      let on = walk_on directory key name further rest at (ap (walk inodes names user directory key name) (sym is) ∙ e) in
      let same : child ≡ on.0 = some_same _ _ (sym leads ∙ on.1.0) in
      ap (λ d. walk inodes names user d path further rest) same ∙ (ap (λ k. walk inodes names user on.0 k further rest) path_is ∙ on.1.1)

  -- and none further
  pub walk_last : (directory : ℕ) (key : Key) (name : List ℕ) (all : List (List ℕ)) → all ≡ [] → (at : Spot) → walk inodes names user directory key name all ≡ Ok at → at.key ≡ under key name
  walk_last directory key name all none at e = walk_end directory key name at (ap (walk inodes names user directory key name) (sym none) ∙ e)

module _ (names : Names) (parent directory : ℕ) (led : HasPath names parent) (there : HasPath names directory) where
  pub same_path : parent ≡ directory → is_same_key (path_of names parent) (path_of names directory) ≡ true
  same_path e = ap (λ d. is_same_key (path_of names d) (path_of names directory)) e ∙ tied key_total key-IsAntisymmetric (path_of names directory)

  pub other_path : (parent ≡ directory → ⊥) → is_same_key (path_of names parent) (path_of names directory) ≡ false
  other_path apart = untied key_total key-IsAntisymmetric (path_of names parent) (path_of names directory) (λ e. apart (some_same _ _ (sym led ∙ ap (get names) e ∙ there)))

  pub told_path : nat_eq parent directory ≡ is_same_key (path_of names parent) (path_of names directory)
  told_path = elim (cases_eq parent directory) [
    | inl same ↦ eq-eqb parent directory same ∙ sym (same_path same)
    | inr apart ↦ ne_eqb parent directory apart ∙ sym (other_path apart)
  ]
