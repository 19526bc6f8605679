-- Sets of threads as bits: one bit set or taken away.
use Rattle.std.proofs.Common.{◌≡◌, ◌≢◌, inl, inr, ℕ, zero, suc, ◌-◌, ◌*◌, ◌%◌, ◌^◌, ◌<◌, ◌≤◌, ◌==◌, ◌&&◌, ◌||◌, Bool, true, false, not, min, ◌⊎◌, List, length, get_or, slice_set, replicate, refl, sym, ◌∙◌, ap, arith, bit_and, bit_or, w64}
use Rattle.std.specs.Int.{bit_at, bit_not, trailing_zeros}
use Rattle.std.proofs.lemmas.Bool.{cases_lt, eq-eqb, ne_eqb}
use Rattle.std.proofs.lemmas.Bool.Decides.{eqb_tells}
use Rattle.std.proofs.lemmas.Grind.{common_steps}
use Rattle.std.proofs.lemmas.List.{get_or-replicate, get_or_past, get_or-set_same, get_or-set_other, length-replicate}
use Rattle.std.proofs.lemmas.Nat.{and_le_l}
use Rattle.std.proofs.lemmas.Nat.Bits.{bit_at-zero, bit_at_and, bit_at_not, bit_at_set_same, bit_at_set_other, bit_at_clear_same, bit_at_clear_other, bit_at-lt, bit_at-trailing_zeros}
use Rattle.qx_types.specs.declared.names.Thread.{Thread}
use Rattle.qx_monitor.specs.Waits.{IsPossible, has, is_in, number_of}
use Rattle.qx_monitor.specs.declared.waits.ThreadSet.{ThreadSet}

-- two threads of a user have two numbers
pub apart : (one other : Thread) → IsPossible one → IsPossible other → one.proc.user.0 ≡ other.proc.user.0 → number_of one ≡ number_of other → one ≡ other
apart one other is is_too user number = grind (arith, common_steps)

pub few : (thread : Thread) → number_of thread < 64
few thread = omega arith

pub has_none : (thread : Thread) → has 0 thread ≡ false
unfolding has
has_none thread = ap (λ bit. bit == 1) (bit_at-zero (number_of thread))

pub none_waits : (count : ℕ) (thread : Thread) → has (get_or (replicate count 0) thread.proc.user.0 0) thread ≡ false
none_waits count thread =
    let none : get_or (replicate count 0) thread.proc.user.0 0 ≡ 0 = elim (cases_lt thread.proc.user.0 count) [
      | inl within ↦ get_or-replicate count thread.proc.user.0 0 0 within
      | inr past ↦ get_or_past (replicate count 0) thread.proc.user.0 0 (rw length-replicate past)
    ] in
    ap (λ word. has word thread) none ∙ has_none thread

module _ (bits number : ℕ) (thread : Thread) (within : number < 64) where
  pub has_set : has (bit_or bits (1 * 2 ^ number % 2 ^ 64)) thread ≡ ((number_of thread == number) || has bits thread)
  unfolding has
  has_set = elim (eqb_tells (number_of thread) number) [
    | inl here ↦ rw here.0 (ap (λ n. bit_at (bit_or bits (1 * 2 ^ number % 2 ^ 64)) n == 1) here.1 ∙ ap (λ bit. bit == 1) (bit_at_set_same w64 bits number within))
    | inr there ↦ rw there.0 (ap (λ bit. bit == 1) (bit_at_set_other w64 bits number within (number_of thread) there.1))
  ]

  pub has_clear : has (bit_and bits (bit_not w64 (1 * 2 ^ number % 2 ^ 64))) thread ≡ (not (number_of thread == number) && has bits thread)
  unfolding has
  has_clear = elim (eqb_tells (number_of thread) number) [
    | inl here ↦ rw here.0 (ap (λ n. bit_at (bit_and bits (bit_not w64 (1 * 2 ^ number % 2 ^ 64))) n == 1) here.1 ∙ ap (λ bit. bit == 1) (bit_at_clear_same w64 bits number within))
    | inr there ↦ rw there.0 (ap (λ bit. bit == 1) (bit_at_clear_other w64 bits number within (number_of thread) (few thread) there.1))
  ]

is_bit : (bit : ℕ) → bit < 2 → (bit ≡ 0) ⊎ (bit ≡ 1)
is_bit zero within = inl refl
is_bit (suc zero) within = inr refl
is_bit (suc (suc bit)) within = absurd (omega arith)

bits_apart : (one other : ℕ) → one < 2 → other < 2 → (min one (1 - other) == 1) ≡ ((one == 1) && not (other == 1))
bits_apart one other fits fits_too = elim (is_bit one fits) [
  | inl clear ↦ elim (is_bit other fits_too) [ inl clear_too ↦ rw (clear, clear_too) refl | inr set ↦ rw (clear, set) refl ]
  | inr set ↦ elim (is_bit other fits_too) [ inl clear ↦ rw (set, clear) refl | inr set_too ↦ rw (set, set_too) refl ]
]

pub has_without : (bits others : ℕ) (thread : Thread) → others < 2 ^ 64 → has (bit_and bits (bit_not w64 others)) thread ≡ (has bits thread && not (has others thread))
unfolding has
has_without bits others thread fits =
    ap (λ bit. bit == 1) (bit_at_and bits (bit_not w64 others) (number_of thread) ∙ ap (min (bit_at bits (number_of thread))) (bit_at_not w64 others (number_of thread) fits (few thread)))
    ∙ bits_apart (bit_at bits (number_of thread)) (bit_at others (number_of thread)) (bit_at-lt bits (number_of thread)) (bit_at-lt others (number_of thread))

-- a word from which a bit is taken that was set is less
pub fewer : (bits number : ℕ) → number < 64 → bit_at bits number ≡ 1 → bit_and bits (bit_not w64 (1 * 2 ^ number % 2 ^ 64)) < bits
fewer bits number within was =
    let left = bit_and bits (bit_not w64 (1 * 2 ^ number % 2 ^ 64)) in
    let no_more : left ≤ bits = and_le_l bits (bit_not w64 (1 * 2 ^ number % 2 ^ 64)) in
    let gone : bit_at left number ≡ 0 = bit_at_clear_same w64 bits number within in
    elim (eqb_tells left bits) [
      | inl same ↦ let still : bit_at left number ≡ 1 = ap (λ n. bit_at n number) same.1 ∙ was in absurd (omega (arith, gone, still))
      | inr differs ↦ omega (arith, no_more, differs.1)
    ]

-- a user's word is changed
module _ (words : List ℕ) (user new : ℕ) (within : user < length words) (thread : Thread) where
  at_user : thread.proc.user.0 ≡ user → has (get_or (slice_set words user new) thread.proc.user.0 0) thread ≡ has new thread
  at_user is = ap (λ word. has word thread) (rw is (get_or-set_same words user new 0 within))

  elsewhere : thread.proc.user.0 ≢ user → has (get_or (slice_set words user new) thread.proc.user.0 0) thread ≡ has (get_or words thread.proc.user.0 0) thread
  elsewhere differs = ap (λ word. has word thread) (get_or-set_other words user thread.proc.user.0 new 0 differs)

or_true : (one : Bool) → (one || true) ≡ true
or_true true = refl
or_true false = refl

and_false : (one : Bool) → (one && false) ≡ false
and_false true = refl
and_false false = refl

and_true : (one : Bool) → (one && not false) ≡ one
and_true true = refl
and_true false = refl

module _ (words : List ℕ) (user number : ℕ) (within : user < length words) (few_is : number < 64) (thread : Thread) where
  pub waits_too : thread.proc.user.0 ≡ user → number ≡ number_of thread → has (get_or (slice_set words user (bit_or (get_or words user 0) (1 * 2 ^ number % 2 ^ 64))) thread.proc.user.0 0) thread ≡ true
  waits_too is number_is =
      at_user words user _ within thread is
      ∙ has_set (get_or words user 0) number thread few_is
      ∙ ap (λ same. same || has (get_or words user 0) thread) (eq-eqb (number_of thread) number (sym number_is))

  pub waits_still : has (get_or words thread.proc.user.0 0) thread ≡ true → has (get_or (slice_set words user (bit_or (get_or words user 0) (1 * 2 ^ number % 2 ^ 64))) thread.proc.user.0 0) thread ≡ true
  waits_still waits = elim (eqb_tells thread.proc.user.0 user) [
    | inl here ↦
        at_user words user _ within thread here.1
        ∙ has_set (get_or words user 0) number thread few_is
        ∙ ap (λ had. (number_of thread == number) || had) (ap (λ of. has (get_or words of 0) thread) (sym here.1) ∙ waits)
        ∙ or_true (number_of thread == number)
    | inr there ↦ elsewhere words user _ within thread there.1 ∙ waits
  ]

pub waits_no_longer : (words : List ℕ) (user bits : ℕ) → user < length words → bits < 2 ^ 64 → (thread : Thread) → has (get_or (slice_set words user (bit_and (get_or words user 0) (bit_not w64 bits))) thread.proc.user.0 0) thread ≡ (has (get_or words thread.proc.user.0 0) thread && not ((thread.proc.user.0 == user) && has bits thread))
waits_no_longer words user bits within fits thread = elim (eqb_tells thread.proc.user.0 user) [
  | inl here ↦
      at_user words user _ within thread here.1
      ∙ has_without (get_or words user 0) bits thread fits
      ∙ ap (λ had. had && not (has bits thread)) (ap (λ of. has (get_or words of 0) thread) (sym here.1))
      ∙ ap (λ same. has (get_or words thread.proc.user.0 0) thread && not (same && has bits thread)) (sym here.0)
  | inr there ↦
      elsewhere words user _ within thread there.1
      ∙ sym (and_true (has (get_or words thread.proc.user.0 0) thread))
      ∙ ap (λ same. has (get_or words thread.proc.user.0 0) thread && not (same && has bits thread)) (sym there.0)
]

-- one thread of a set's user
module _ (set : ThreadSet) (number : ℕ) (within : number < 64) where
  pub joins : (thread : Thread) → thread.proc.user ≡ set.user → number ≡ number_of thread → is_in (record { user = set.user; bits = bit_or set.bits (1 * 2 ^ number % 2 ^ 64) }) thread ≡ true
  joins thread user is =
      ap (λ same. same && has (bit_or set.bits (1 * 2 ^ number % 2 ^ 64)) thread) (eq-eqb thread.proc.user.0 set.user.0 (ap (λ u. u.0) user))
      ∙ has_set set.bits number thread within
      ∙ ap (λ same. same || has set.bits thread) (eq-eqb (number_of thread) number (sym is))

  pub joins_alone : (thread other : Thread) → thread.proc.user ≡ set.user → number ≡ number_of thread → IsPossible thread → IsPossible other → other ≢ thread → is_in (record { user = set.user; bits = bit_or set.bits (1 * 2 ^ number % 2 ^ 64) }) other ≡ is_in set other
  joins_alone thread other user is possible possible_too differs = elim (eqb_tells other.proc.user.0 set.user.0) [
    | inl own ↦
        ap (λ same. same && has (bit_or set.bits (1 * 2 ^ number % 2 ^ 64)) other) own.0
        ∙ has_set set.bits number other within
        ∙ ap (λ same. same || has set.bits other) (ne_eqb (number_of other) number (λ same. differs (apart other thread possible_too possible (own.1 ∙ sym (ap (λ u. u.0) user)) (same ∙ is))))
        ∙ ap (λ same. same && has set.bits other) (sym own.0)
    | inr foreign ↦ ap (λ same. same && has (bit_or set.bits (1 * 2 ^ number % 2 ^ 64)) other) foreign.0 ∙ ap (λ same. same && has set.bits other) (sym foreign.0)
  ]

  pub leaves : (thread : Thread) → thread.proc.user ≡ set.user → number_of thread ≡ number → is_in (record { user = set.user; bits = bit_and set.bits (bit_not w64 (1 * 2 ^ number % 2 ^ 64)) }) thread ≡ false
  leaves thread user is =
      ap (λ same. same && has (bit_and set.bits (bit_not w64 (1 * 2 ^ number % 2 ^ 64))) thread) (eq-eqb thread.proc.user.0 set.user.0 (ap (λ u. u.0) user))
      ∙ has_clear set.bits number thread within
      ∙ ap (λ same. not same && has set.bits thread) (eq-eqb (number_of thread) number is)

  pub leaves_alone : (thread other : Thread) → thread.proc.user ≡ set.user → number_of thread ≡ number → IsPossible thread → IsPossible other → other ≢ thread → is_in (record { user = set.user; bits = bit_and set.bits (bit_not w64 (1 * 2 ^ number % 2 ^ 64)) }) other ≡ is_in set other
  leaves_alone thread other user is possible possible_too differs = elim (eqb_tells other.proc.user.0 set.user.0) [
    | inl own ↦
        ap (λ same. same && has (bit_and set.bits (bit_not w64 (1 * 2 ^ number % 2 ^ 64))) other) own.0
        ∙ has_clear set.bits number other within
        ∙ ap (λ same. not same && has set.bits other) (ne_eqb (number_of other) number (λ same. differs (apart other thread possible_too possible (own.1 ∙ sym (ap (λ u. u.0) user)) (same ∙ sym is))))
        ∙ ap (λ same. same && has set.bits other) (sym own.0)
    | inr foreign ↦ ap (λ same. same && has (bit_and set.bits (bit_not w64 (1 * 2 ^ number % 2 ^ 64))) other) foreign.0 ∙ ap (λ same. same && has set.bits other) (sym foreign.0)
  ]

-- the lowest bit of a set that is not empty
module _ (set : ThreadSet) (some : set.bits ≢ 0) (fits : set.bits < 2 ^ 64) where
  lowest : (trailing_zeros w64 set.bits < 64) × (bit_at set.bits (trailing_zeros w64 set.bits) ≡ 1)
  lowest = let found = bit_at-trailing_zeros w64 set.bits (omega arith) fits in (found.0, found.1)

  pub was_there : (thread : Thread) → thread.proc.user ≡ set.user → number_of thread ≡ trailing_zeros w64 set.bits → is_in set thread ≡ true
  unfolding has
  was_there thread user is =
      ap (λ same. same && has set.bits thread) (eq-eqb thread.proc.user.0 set.user.0 (ap (λ u. u.0) user))
      ∙ ap (λ n. bit_at set.bits n == 1) is
      ∙ ap (λ bit. bit == 1) lowest.1

  pub one_fewer : bit_and set.bits (bit_not w64 (1 * 2 ^ trailing_zeros w64 set.bits % 2 ^ 64)) < set.bits
  one_fewer = fewer set.bits (trailing_zeros w64 set.bits) lowest.0 lowest.1

pub none_there : (set : ThreadSet) → set.bits ≡ 0 → (thread : Thread) → is_in set thread ≡ false
none_there set none thread = ap (λ bits. (thread.proc.user.0 == set.user.0) && has bits thread) none ∙ ap (λ had. (thread.proc.user.0 == set.user.0) && had) (has_none thread) ∙ and_false (thread.proc.user.0 == set.user.0)
