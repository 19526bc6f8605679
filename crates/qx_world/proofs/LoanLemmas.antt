-- What a loan of the newest outcome says of the trace that lends it.
use Rattle.std.proofs.Common.{◌≡◌, List, [], ◌∷◌, ◌++◌, Ok, Err, refl, ap, ◌∙◌}
use Rattle.std.specs.Prelude.{◌≢◌, IfOk, IfErr, OnOk, is_ok}
use Rattle.std.specs.Borrow.{Bor, follows_so, GName, RattleType}
use Rattle.std.specs.declared.result.Result.{Result}
use mathlib.Core.Option.{Option}
use denote.Follow.{such_by, follows_by}
use seplogic.Ra.Ura.{Ura}
use base.Logic.{ent}
use types.Logic.{Logic, sem}
use types.Kit.{‵, ◌$◌, ◌∵◌, !, qed, done, fpick, fpack}
use denote.Struct.Members.{Lone}
use mir.Val.{Val}
use denote.Exit.{Kept, left}
use denote.Signature.{Slot}
use denote.Triple.Walked.{Stay, Goes}
use Prim.Native.Nat.{ℕ}
use Rattle.qx_types.specs.declared.outcome.Outcome.{Outcome}
use Rattle.qx_types.specs.declared.step.Step.{Step}
use Rattle.qx_world.specs.declared.trace.Unstored.{Unstored}
use Rattle.qx_machine.specs.Machine.{boot, step}
use Rattle.qx_machine.specs.Runs.{world_after}
use Rattle.qx_world.specs.Trace.{Trace, IsAfter, IsLast, outcome_now}

-- what ends so ends as anything that follows from it
module _ {M : Type 1} {𝓤 : Ura M} (𝓛 : Logic 𝓤) (R T : RattleType) (γ : GName) (m : Option GName) (P : T.Denot → R.Denot → Type 0) (P₀ P₁ : R.Denot → Type 0) (h : (x : R.Denot) → P₀ x → P₁ x) where
  pub so-weaker : ent 𝓤 (sem 𝓛 (follows_so R T γ m P P₀)) (sem 𝓛 (follows_so R T γ m P P₁))
  unfolding such_by
  so-weaker = qed 𝓛 (‵ (follows_so R T γ m P P₀) ∷ []) ∵ fpick ! (λ s. fpack ! ((s : (T.Denot → R.Denot) × R.Denot) × ((w : T.Denot) → P w (s.0 w)) × P₁ s.1) (λ s. follows_by R.Denot T.Denot R.coded.code T.coded.code γ m s.0.0 s.0.1) (s.0, s.1, h s.0.1 s.2) $ done !)

-- of a parameter that a callee had, what that call says of it
abbrev pub stay_left : {n : ℕ} (s : Slot n) (k : Kept) → Stay s k
stay_left s k = record { fit = λ κs x w. Unit {0}; has = λ κs x w vs. left ((s.row κs).exit k) x w }

module _ {M : Type 1} {𝓤 : Ura M} (𝓛 : Logic 𝓤) (n : ℕ) where
  pub Goes-left : (s : Slot n) (k : Kept) → Goes 𝓛 n s k (stay_left s k)
  Goes-left s k κs x w vs fits = 𝓛.laws.⇛_intro _

pub lone_val : (vs : List Val) → Lone vs → Val
lone_val [] l = absurd l
lone_val (v ∷ []) l = v
lone_val (v ∷ u ∷ us) l = absurd l

pub is_lone : (vs : List Val) (l : Lone vs) → vs ≡ lone_val vs l ∷ []
unfolding lone_val
is_lone [] l = absurd l
is_lone (v ∷ []) l = refl
is_lone (v ∷ u ∷ us) l = absurd l

not_empty : (steps : List Step) (e : Step) → steps ++ e ∷ [] ≢ []
not_empty [] e is = cc
not_empty (first ∷ steps) e is = cc

pub told-ready : (before after : Trace) (e : Step) (stored : Result (Unit {0}) Unstored) → IsAfter before e (is_ok stored) after → OnOk stored (after.steps ≢ [])
told-ready before after e (Ok x) is = λ none. not_empty before.steps e (rw is.steps at none)
told-ready before after e (Err u) is = tt

pub told-after : (before after t : Trace) (e : Step) (stored : Result (Unit {0}) Unstored) (result : Result (Bor Outcome) Unstored) → IsAfter before e (is_ok stored) after → is_ok result ≡ is_ok stored → t ≡ after → IsAfter before e (is_ok result) t
told-after before after t e stored result is same ends = rw (same, ends) is

pub told-outcome : (before after shown : Trace) (e : Step) (stored : Result (Unit {0}) Unstored) (result : Result (Bor Outcome) Unstored) → IsAfter before e (is_ok stored) after → is_ok result ≡ is_ok stored → shown ≡ after → IfOk result (λ outcome. IsLast shown outcome.now) → IfOk result (λ outcome. outcome.now ≡ outcome_now before e)
told-outcome before after shown e stored (Ok outcome) is same here last =
    let done = rw (← same) at is in
    last before.steps e (ap (λ trace. trace.steps) here ∙ done.steps) ∙ ap (λ config. (step (world_after (boot config) before.steps) e).outcome) (ap (λ trace. trace.config) here ∙ done.config)
told-outcome before after shown e stored (Err unstored) is same here last = tt

pub told-back : (e : Step) (stored : Result (Unit {0}) Unstored) (result : Result (Bor Outcome) Unstored) → IfErr stored (λ unstored. unstored.step ≡ e) → IfErr result (λ unstored. stored ≡ Err unstored) → IfErr result (λ unstored. unstored.step ≡ e)
told-back e stored (Ok outcome) back is = tt
told-back e stored (Err unstored) back is = rw is at back
