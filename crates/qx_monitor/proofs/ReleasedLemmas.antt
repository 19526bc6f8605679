-- Which threads of a user are found to wait for no answer, one after the other.
use Rattle.std.proofs.Common.{◌≡◌, ◌≢◌, inl, inr, ◌⊎◌, ◌&&◌, Bool, true, false, not, refl, sym, ◌∙◌, ap}
use Rattle.std.proofs.lemmas.Bool.Decides.{eqb_tells}
use Rattle.qx_types.specs.declared.names.Thread.{Thread}
use Rattle.qx_monitor.specs.Waits.{IsPossible, is_in, number_of}
use Rattle.qx_monitor.specs.declared.waits.ThreadSet.{ThreadSet}
use Rattle.qx_monitor.proofs.WaitLemmas.{apart}

-- of all of them some are waiting to be looked at; of the others those are released that are not blocked
pub record AreReleased (blocked : Thread → Bool) (all waiting released : ThreadSet) : Type 0 where
  pub waiting_user : waiting.user ≡ all.user
  pub released_user : released.user ≡ all.user
  pub among : (thread : Thread) → IsPossible thread → is_in waiting thread ≡ true → is_in all thread ≡ true
  pub told : (thread : Thread) → IsPossible thread → is_in released thread ≡ ((is_in all thread && not (is_in waiting thread)) && not (blocked thread))

-- none is released yet
none_of : (b c : Bool) → ((b && not b) && c) ≡ false
none_of true true = refl
none_of true false = refl
none_of false true = refl
none_of false false = refl

pub released_none : (blocked : Thread → Bool) (all released : ThreadSet) → released.user ≡ all.user → ((thread : Thread) → is_in released thread ≡ false) → AreReleased blocked all all released
released_none blocked all released user none = record {
  waiting_user = refl;
  released_user = user;
  among = λ thread possible there. there;
  told = λ thread possible. none thread ∙ sym (none_of (is_in all thread) (not (blocked thread)));
}

same_or_not : (one other : Thread) → IsPossible one → IsPossible other → (one ≡ other) ⊎ (one ≢ other)
same_or_not one other is is_too = elim (eqb_tells one.proc.user.0 other.proc.user.0) [
  | inl user ↦ elim (eqb_tells (number_of one) (number_of other)) [
    | inl number ↦ inl (apart one other is is_too user.1 number.1)
    | inr differs ↦ inr (λ same. differs.1 (ap number_of same))
  ]
  | inr differs ↦ inr (λ same. differs.1 (ap (λ thread. thread.proc.user.0) same))
]

-- one more thread is looked at
module _
    (blocked : Thread → Bool) (all waiting next released : ThreadSet) (looked_at : Thread)
    (now : AreReleased blocked all waiting released) (next_user : next.user ≡ waiting.user) (possible : IsPossible looked_at)
    (was_in : is_in waiting looked_at ≡ true) (left : is_in next looked_at ≡ false)
    (others : (other : Thread) → IsPossible other → other ≢ looked_at → is_in next other ≡ is_in waiting other) where
  among_all : (thread : Thread) → IsPossible thread → is_in next thread ≡ true → is_in all thread ≡ true
  among_all thread is there = elim (same_or_not thread looked_at is possible) [
    | inl same ↦ let clash : false ≡ true = sym (ap (is_in next) same ∙ left) ∙ there in cc
    | inr differs ↦ now.among thread is (sym (others thread is differs) ∙ there)
  ]

  told_of : (thread : Thread) → IsPossible thread → thread ≢ looked_at → is_in released thread ≡ ((is_in all thread && not (is_in next thread)) && not (blocked thread))
  told_of thread is differs = now.told thread is ∙ ap (λ there. (is_in all thread && not there) && not (blocked thread)) (sym (others thread is differs))

  at_it : is_in all looked_at ≡ true
  at_it = now.among looked_at possible was_in

  pub released_too : blocked looked_at ≡ false → (after : ThreadSet) → after.user ≡ released.user → is_in after looked_at ≡ true → ((other : Thread) → IsPossible other → other ≢ looked_at → is_in after other ≡ is_in released other) → AreReleased blocked all next after
  released_too free after user joined same = record {
    waiting_user = next_user ∙ now.waiting_user;
    released_user = user ∙ now.released_user;
    among = among_all;
    told = λ thread is. elim (same_or_not thread looked_at is possible) [
      | inl it ↦ rw it (rw (joined, at_it, left, free) refl)
      | inr differs ↦ same thread is differs ∙ told_of thread is differs
    ];
  }

  pub not_released : blocked looked_at ≡ true → AreReleased blocked all next released
  not_released waits = record {
    waiting_user = next_user ∙ now.waiting_user;
    released_user = now.released_user;
    among = among_all;
    told = λ thread is. elim (same_or_not thread looked_at is possible) [
      | inl it ↦ rw it (now.told looked_at possible ∙ (rw (at_it, was_in, left, waits) refl))
      | inr differs ↦ told_of thread is differs
    ];
  }

and_true : (b : Bool) → (b && true) ≡ b
and_true true = refl
and_true false = refl

-- all were looked at
pub released_all : (blocked : Thread → Bool) (all waiting released : ThreadSet) → AreReleased blocked all waiting released → ((thread : Thread) → is_in waiting thread ≡ false) → (thread : Thread) → IsPossible thread → is_in released thread ≡ (is_in all thread && not (blocked thread))
released_all blocked all waiting released end none thread is =
    end.told thread is ∙ ap (λ there. (is_in all thread && not there) && not (blocked thread)) (none thread) ∙ ap (λ had. had && not (blocked thread)) (and_true (is_in all thread))
