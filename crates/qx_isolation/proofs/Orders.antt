-- Lines in order of priority, and the items of a line that pass a test.
use Rattle.std.proofs.Common.{◌≡◌, ℕ, zero, suc, ◌<◌, ◌≤◌, List, [], ◌∷◌, Bool, true, false, sym, refl, arith}
use Rattle.std.specs.Prelude.{filter, All}
use Rattle.std.proofs.lemmas.Bool.{cond_both, ltb-true, ltb-false}
use Rattle.std.proofs.lemmas.Bool.Decides.{nat_tests}
use Rattle.std.proofs.lemmas.List.Elements.{All-nil, All-cons, All-head, All-tail, All-filter, All-weaker}
use Rattle.std.proofs.lemmas.List.Kept.{AllPairs-cons}
use Rattle.qx_isolation.specs.System.{IsInOrder}
use Rattle.qx_isolation.specs.Lines.{into}
use lib.Dec.{ltb}

module _ {A : Type 0} (rank : A → ℕ) where
  pub in_order_none : IsInOrder rank []
  in_order_none = λ i j d lt within. absurd (omega arith)

  pub in_order_rest : (first : A) (line : List A) → IsInOrder rank (first ∷ line) → IsInOrder rank line
  in_order_rest first line h = λ i j d lt within. h (suc i) (suc j) d (omega arith) (omega arith)

  pub in_order_first : (first : A) (line : List A) → IsInOrder rank (first ∷ line) → All (λ later. rank later ≤ rank first) line
  in_order_first first line h = λ k d within. h zero (suc k) d (omega arith) (omega arith)

  pub in_order_cons : (first : A) (line : List A) → All (λ later. rank later ≤ rank first) line → IsInOrder rank line → IsInOrder rank (first ∷ line)
  in_order_cons = AllPairs-cons (λ earlier later. rank later ≤ rank earlier)

  -- the items of a line in order come before an item of higher priority than its first
  all_below : (first : A) (line : List A) (item : A) → IsInOrder rank (first ∷ line) → rank first < rank item → All (λ later. rank later < rank item) (first ∷ line)
  all_below first line item h above =
      All-cons (λ later. rank later < rank item) first line above
      (All-weaker (λ later. rank later ≤ rank first) (λ later. rank later < rank item) (λ later below. omega arith) line (in_order_first first line h))

  -- an item of higher priority than the whole line goes to its front
  into_front : (line : List A) (item : A) → All (λ later. rank later < rank item) line → into rank line item ≡ item ∷ line
  into_front [] item h = refl
  into_front (first ∷ line) item h = let below = All-head (λ later. rank later < rank item) first line h in grind (arith, nat_tests)

  All-into : (P : A → Type 0) (line : List A) (item : A) → All P line → P item → All P (into rank line item)
  All-into P [] item h p = All-cons P item [] p h
  All-into P (first ∷ line) item h p =
      cond_both (ltb (rank first) (rank item)) (item ∷ first ∷ line) (first ∷ into rank line item) (All P)
      (λ above. All-cons P item (first ∷ line) p h)
      (λ below. All-cons P first (into rank line item) (All-head P first line h) (All-into P line item (All-tail P first line h) p))

  pub in_order_into : (line : List A) (item : A) → IsInOrder rank line → IsInOrder rank (into rank line item)
  in_order_into [] item h = in_order_cons item [] (All-nil (λ later. rank later ≤ rank item)) h
  in_order_into (first ∷ line) item h =
      cond_both (ltb (rank first) (rank item)) (item ∷ first ∷ line) (first ∷ into rank line item) (IsInOrder rank)
      (λ above. in_order_cons item (first ∷ line)
      (All-weaker (λ later. rank later < rank item) (λ later. rank later ≤ rank item) (λ later below. omega arith) (first ∷ line)
      (all_below first line item h (ltb-true (rank first) (rank item) above))) h)
      (λ below. in_order_cons first (into rank line item)
      (All-into (λ later. rank later ≤ rank first) line item (in_order_first first line h) (ltb-false (rank first) (rank item) below))
      (in_order_into line item (in_order_rest first line h)))

module _ {A : Type 0} (rank : A → ℕ) (mine : A → Bool) where
  pub filter-into : (line : List A) (item : A) → IsInOrder rank line → mine item ≡ true → filter mine (into rank line item) ≡ into rank (filter mine line) item
  filter-into [] item h own = grind arith
  filter-into (first ∷ line) item h own =
      cond_both (ltb (rank first) (rank item)) (item ∷ first ∷ line) (first ∷ into rank line item) (λ l. filter mine l ≡ into rank (filter mine (first ∷ line)) item)
      (λ above. rw own (sym (into_front rank (filter mine (first ∷ line)) item
      (All-filter mine (λ later. rank later < rank item) (first ∷ line) (all_below rank first line item h (ltb-true (rank first) (rank item) above))))))
      (λ below. grind (arith, nat_tests, filter-into line item (in_order_rest rank first line h) own))

  pub filter-into_other : (line : List A) (item : A) → mine item ≡ false → filter mine (into rank line item) ≡ filter mine line
  filter-into_other [] item other = grind arith
  filter-into_other (first ∷ line) item other = grind (arith, nat_tests, filter-into_other line item other)
