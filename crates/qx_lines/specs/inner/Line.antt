-- What only the proofs need of Line.
use Rattle.std.specs.Prelude.{◌≡◌, ℕ, Bool, List, [], ◌∷◌, None, get_or}
use Rattle.std.specs.FinMap as map
use Rattle.std.specs.Ordering.{nat_cmp}
use Rattle.qx_lines.specs.Marks.{is_marked}
use Rattle.qx_lines.specs.declared.Line.{Line}

-- the list of a priority
abbrev pub list_of : Line → ℕ → ℕ
list_of line priority = get_or line.lists priority 0

-- nothing but a priority's mark is different, and it tells whether there are items
pub record IsRemarked (old new : Line) (priority : ℕ) (has_items : Bool) : Type 0 where
  pub lists : new.lists ≡ old.lists
  pub len : new.len ≡ old.len
  pub set : is_marked new.marks.words priority ≡ has_items
  pub others : (other : ℕ) → (other ≡ priority → ⊥) → is_marked new.marks.words other ≡ is_marked old.marks.words other

-- the lists with these numbers, one after another, as empty ones
abbrev pub with_empty : map.FinMap nat_cmp (List ℕ) → List ℕ → map.FinMap nat_cmp (List ℕ)
with_empty lists [] = lists
with_empty lists (new ∷ news) = with_empty (map.insert lists new []) news

-- none of the numbers is a list's, nor is one there twice
abbrev pub AreNew : map.FinMap nat_cmp (List ℕ) → List ℕ → Type 0
AreNew lists [] = Unit {0}
AreNew lists (new ∷ news) = (map.get lists new ≡ None) × AreNew (map.insert lists new []) news
