-- Maps from numbers, and lists under them, as one entry changes.
use Rattle.std.proofs.Common.{◌≡◌, ◌≢◌, ℕ, None, Some, inl, inr, sym, ◌∙◌, arith}
use Rattle.std.specs.FinMap as map
use Rattle.std.specs.Ordering.{nat_cmp}
use Rattle.std.specs.Cmp.{unsigned_tied}
use Rattle.std.proofs.lemmas.Bool.Decides.{eqb_tells}
use Rattle.std.proofs.lemmas.Cmp.{nat_cmp_total}

module _ {X : Type 0} (m : map.FinMap nat_cmp X) where
  pub get-insert_same : (k : ℕ) (v : X) → map.get (map.insert m k v) k ≡ Some v
  get-insert_same k v = grind (arith, map.get-insert nat_cmp_total m k v k, unsigned_tied k k)

  pub get-insert_other : (k : ℕ) (v : X) (q : ℕ) → q ≢ k → map.get (map.insert m k v) q ≡ map.get m q
  get-insert_other k v q differs = grind (arith, map.get-insert nat_cmp_total m k v q, unsigned_tied q k)

  pub get-remove_same : (k : ℕ) → map.get (map.remove m k) k ≡ None
  get-remove_same k = grind (arith, map.get-remove nat_cmp_total m k k, unsigned_tied k k)

  pub get-remove_other : (k q : ℕ) → q ≢ k → map.get (map.remove m k) q ≡ map.get m q
  get-remove_other k q differs = grind (arith, map.get-remove nat_cmp_total m k q, unsigned_tied q k)

-- two maps that answer alike are equal
pub same_map : {X : Type 0} (m n : map.FinMap nat_cmp X) → ((q : ℕ) → map.get m q ≡ map.get n q) → m ≡ n
same_map m n same = map.same_map nat_cmp_total map.nat_cmp-IsAntisymmetric m n same

-- a value that stands there already
pub insert-there : {X : Type 0} (m : map.FinMap nat_cmp X) (k : ℕ) (v : X) → map.get m k ≡ Some v → map.insert m k v ≡ m
insert-there m k v is = same_map _ _ (λ q. elim (eqb_tells q k) [
  | inl same ↦ rw same.1 (get-insert_same m k v ∙ sym is)
  | inr differs ↦ get-insert_other m k v q differs.1
])
