-- A line as an item comes: how long it is, and which items are there.
use Rattle.std.proofs.Common.{Bool, true, nat_lt, ◌≡◌, inl, inr, ℕ, ◌+◌, false, List, [], ◌∷◌, length, Contains, refl, arith}
use Rattle.std.proofs.lemmas.Bool.Decides.{nat_tests}
use Rattle.std.proofs.lemmas.Bool.{cond_both}
use Rattle.qx_lists.proofs.ListLemmas.{contains_cases, contains_first, contains_later}
use Rattle.qx_isolation.specs.Lines.{into}

pub length-into : (rank : ℕ → ℕ) (nodes : List ℕ) (node : ℕ) → length (into rank nodes node) ≡ length nodes + 1
length-into rank [] node = refl
length-into rank (x ∷ xs) node = let rest = length-into rank xs node in grind (arith, nat_tests)

pub contains_into : (rank : ℕ → ℕ) (nodes : List ℕ) (node : ℕ) → Contains (into rank nodes node) node
contains_into rank [] node = contains_first node []
contains_into rank (x ∷ xs) node = cond_both (nat_lt (rank x) (rank node)) (node ∷ x ∷ xs) (x ∷ into rank xs node) (λ line. Contains line node)
    (λ above. contains_first node (x ∷ xs))
    (λ below. contains_later x node (into rank xs node) (contains_into rank xs node))

pub into_keeps : (rank : ℕ → ℕ) (nodes : List ℕ) (node other : ℕ) → Contains nodes other → Contains (into rank nodes node) other
into_keeps rank [] node other stands = absurd (omega (arith, stands.1))
into_keeps rank (first ∷ nodes) node other stands = by_test (nat_lt (rank first) (rank node)) refl (elim (contains_cases first other nodes stands) [
  | inl same ↦ rw same (contains_first first (into rank nodes node))
  | inr later ↦ contains_later first other (into rank nodes node) (into_keeps rank nodes node other later)
])
  where
    by_test : (b : Bool) → nat_lt (rank first) (rank node) ≡ b → Contains (first ∷ into rank nodes node) other → Contains (into rank (first ∷ nodes) node) other
    by_test true is past = rw is (contains_later node other (first ∷ nodes) stands)
    by_test false is past = rw is past
