-- Words of bits: one bit set or taken away, and the highest bit.
use Rattle.std.proofs.Common.{◌≡◌, ◌≢◌, inl, inr, ℕ, zero, suc, ◌+◌, ◌*◌, ◌/◌, ◌%◌, ◌^◌, ◌<◌, ◌≤◌, ◌==◌, ◌&&◌, Bool, true, false, List, [], ◌∷◌, length, get_or, slice_set, refl, sym, subst, ◌∙◌, ap, arith}
use Rattle.std.specs.Int.{bit_at}
use Rattle.std.proofs.lemmas.Bool.Decides.{eqb_tells}
use Rattle.std.proofs.lemmas.List.{get_or-set_same, get_or-set_other, get_or_past}
use Rattle.std.proofs.lemmas.Nat.{div-add-mod', le-div, pow-add, pow_pos, shr_below}
use Rattle.std.proofs.lemmas.Nat.Bits.{bit_at_above, bit_at-zero}
use Rattle.qx_lines.specs.Marks.{is_marked}
use Rattle.qx_lines.specs.inner.Marks.{IsHighest}

-- two priorities of one word have different bits
place_differs : (one other : ℕ) → one ≢ other → one / 64 ≡ other / 64 → one % 64 ≢ other % 64
place_differs one other differs word bit = differs (omega (arith, div-add-mod' one 64, div-add-mod' other 64, word, bit))

module _ (words : List ℕ) (priority new : ℕ) (within : priority / 64 < length words) where
  pub marked-set : (b : Bool) → (bit_at new (priority % 64) == 1) ≡ b → is_marked (slice_set words (priority / 64) new) priority ≡ b
  unfolding is_marked
  marked-set b is = ap (λ word. bit_at word (priority % 64) == 1) (get_or-set_same words (priority / 64) new 0 within) ∙ is

  pub marked-others : ((i : ℕ) → i < 64 → i ≢ priority % 64 → bit_at new i ≡ bit_at (get_or words (priority / 64) 0) i) → (other : ℕ) → other ≢ priority → is_marked (slice_set words (priority / 64) new) other ≡ is_marked words other
  unfolding is_marked
  marked-others same other differs = elim (eqb_tells (other / 64) (priority / 64)) [
    | inl here ↦
        let at : get_or (slice_set words (priority / 64) new) (other / 64) 0 ≡ new = rw here.1 (get_or-set_same words (priority / 64) new 0 within) in
        let bit : bit_at new (other % 64) ≡ bit_at (get_or words (priority / 64) 0) (other % 64) = same (other % 64) (omega arith) (place_differs other priority differs here.1) in
        ap (λ word. bit_at word (other % 64) == 1) at ∙ ap (λ b. b == 1) bit ∙ ap (λ w. bit_at (get_or words w 0) (other % 64) == 1) (sym here.1)
    | inr there ↦ ap (λ word. bit_at word (other % 64) == 1) (get_or-set_other words (priority / 64) (other / 64) new 0 there.1)
  ]

-- no priority of the words from one on, where they are not there
pub marked_past : (words : List ℕ) (count : ℕ) → length words ≤ count → (priority : ℕ) → 64 * count ≤ priority → is_marked words priority ≡ false
unfolding is_marked
marked_past words count length_is priority past =
    let none : get_or words (priority / 64) 0 ≡ 0 = get_or_past words (priority / 64) 0 (omega arith) in
    ap (λ word. bit_at word (priority % 64) == 1) none ∙ ap (λ b. b == 1) (bit_at-zero (priority % 64))

-- nor of a word that is 0
pub marked_none : (words : List ℕ) (word : ℕ) → get_or words word 0 ≡ 0 → ((priority : ℕ) → 64 * (word + 1) ≤ priority → is_marked words priority ≡ false) → (priority : ℕ) → 64 * word ≤ priority → is_marked words priority ≡ false
unfolding is_marked
marked_none words word none above priority from = elim (eqb_tells (priority / 64) word) [
  | inl here ↦ ap (λ w. bit_at (get_or words w 0) (priority % 64) == 1) here.1 ∙ ap (λ bits. bit_at bits (priority % 64) == 1) none ∙ ap (λ b. b == 1) (bit_at-zero (priority % 64))
  | inr there ↦ above priority (omega (arith, there.1))
]

-- the highest bit of a word
module _ (bits place : ℕ) (high : bits < 2 * 2 ^ place) where
  below_next : bits < 2 ^ (1 + place)
  below_next = subst (λ n. bits < n) (sym (pow-add 2 1 place)) high

  top_is : 2 ^ place ≤ bits → bit_at bits place ≡ 1
  top_is low =
      let some : 1 ≤ bits / 2 ^ place = le-div 1 bits (2 ^ place) (pow_pos place) (omega (arith, low)) in
      let few : bits / 2 ^ place < 2 ^ 1 = shr_below bits 1 place below_next in
      let one : bits / 2 ^ place ≡ 1 = omega (arith, some, few) in
      ap (λ n. n % 2) one

  none_above : (i : ℕ) → place < i → bit_at bits i ≡ 0
  none_above i higher = bit_at_above bits (1 + place) i below_next (omega (arith, higher))

-- it is the highest priority of all, where no later word marks any
pub highest_is : (words : List ℕ) (count word place : ℕ) → word < count → place < 64 → 2 ^ place ≤ get_or words word 0 → get_or words word 0 < 2 * 2 ^ place → ((priority : ℕ) → 64 * (word + 1) ≤ priority → is_marked words priority ≡ false) → IsHighest words (64 * count) (64 * word + place)
unfolding is_marked
highest_is words count word place within fits low high above =
    let at : (64 * word + place) / 64 ≡ word = omega (arith, fits) in
    let bit : (64 * word + place) % 64 ≡ place = omega (arith, fits) in
    record {
      within = omega (arith, fits);
      marked = rw (at, bit) (ap (λ b. b == 1) (top_is (get_or words word 0) place high low));
      highest = λ higher is. elim (eqb_tells (higher / 64) word) [
        | inl here ↦ rw here.1 (ap (λ b. b == 1) (none_above (get_or words word 0) place high (higher % 64) (omega (arith, here.1, fits, div-add-mod' higher 64))))
        | inr there ↦ above higher (omega (arith, there.1, div-add-mod' higher 64))
      ];
    }

-- words that are all 0 mark nothing
abbrev pub all_zero : List ℕ → Bool
all_zero [] = true
all_zero (word ∷ words) = (word == 0) && all_zero words

zero_at : (words : List ℕ) (i : ℕ) → all_zero words ≡ true → get_or words i 0 ≡ 0
zero_at [] i zeros = refl
zero_at (word ∷ words) zero zeros = elim (eqb_tells word 0) [
  | inl same ↦ same.1
  | inr differs ↦ let clash : false ≡ true = rw differs.0 at zeros in cc
]
zero_at (word ∷ words) (suc i) zeros = elim (eqb_tells word 0) [
  | inl same ↦ zero_at words i (rw same.0 at zeros)
  | inr differs ↦ let clash : false ≡ true = rw differs.0 at zeros in cc
]

pub marked_zero : (words : List ℕ) (priority : ℕ) → all_zero words ≡ true → is_marked words priority ≡ false
unfolding is_marked
marked_zero words priority zeros = ap (λ bits. bit_at bits (priority % 64) == 1) (zero_at words (priority / 64) zeros) ∙ ap (λ b. b == 1) (bit_at-zero (priority % 64))
