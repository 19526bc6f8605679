-- Which steps were taken, with events more.
use Rattle.std.proofs.Common.{◌≡◌, ◌∙◌, ◌∷◌, ◌++◌, ◌==◌, ◌+◌, ◌<◌, [], List, ℕ, Bool, true, false, zero, suc, length, map, refl, ap, sym, subst, arith, if◌then◌else◌, append_assoc}
use Rattle.std.proofs.lemmas.List.{append-nil}
use Rattle.std.proofs.lemmas.Bool.{eq-eqb}
use Rattle.qx_types.specs.declared.step.Step.{Step}
use Rattle.qx_tied.specs.declared.event.Event.{Event}
use Rattle.qx_tied.specs.declared.event.Event.TheVariants.{Tried, CameBack}
use Rattle.qx_tied.specs.declared.event.Tagged.{Tagged}
use Rattle.qx_tied.specs.Tied.{came_back, tagged, taken}
use Rattle.qx_tied.specs.inner.Counts.{seat_of, tries_at}

-- what stands in front of a step that is tried is not told otherwise by it
not_back : (seat : ℕ) (events : List Event) (t : Tagged) (more : List Event) → came_back seat (events ++ Tried t ∷ more) ≡ came_back seat events
not_back seat [] t more = refl
not_back seat (Tried s ∷ events) t more = refl
not_back seat (CameBack at ∷ events) t more = refl

choose : {A : Type 0} (a b : Bool) (x y : A) (f : A → A) → a ≡ b → x ≡ y → (if a then x else f x) ≡ (if b then y else f y)
choose a b x y f same is = λ i. if same i then is i else f (is i)

both : (b : Bool) (t : Tagged) (xs ys : List Tagged) → (if b then xs ++ ys else t ∷ (xs ++ ys)) ≡ (if b then xs else t ∷ xs) ++ ys
both true t xs ys = refl
both false t xs ys = refl

-- the steps of what was there before, and of a step that is tried and what follows it
pub taken-append : (events : List Event) (t : Tagged) (more : List Event) → taken (events ++ Tried t ∷ more) ≡ taken events ++ taken (Tried t ∷ more)
taken-append [] t more = refl
taken-append (Tried s ∷ events) t more =
    choose _ _ _ _ (λ l. s ∷ l) (not_back s.seat events t more) (taken-append events t more) ∙ both (came_back s.seat events) s (taken events) (taken (Tried t ∷ more))
taken-append (CameBack at ∷ events) t more = taken-append events t more

-- a step that was tried and came back is not among them
pub taken-back : (events : List Event) (t : Tagged) → taken (events ++ Tried t ∷ CameBack t.seat ∷ []) ≡ taken events
taken-back events t =
    taken-append events t (CameBack t.seat ∷ [])
    ∙ ap (λ (b : Bool). taken events ++ (if b then [] else t ∷ [])) (eq-eqb t.seat t.seat refl)
    ∙ append-nil (taken events)

-- the list of a step that was tried and came back
pub back_list : (events : List Event) (t : Tagged) (seat : ℕ) (front now : List Event) → t.seat ≡ seat → front ≡ events ++ Tried t ∷ [] → now ≡ front ++ CameBack seat ∷ [] → now ≡ events ++ Tried t ∷ CameBack t.seat ∷ []
back_list events t seat front now at tried back =
    back ∙ ap (λ l. l ++ CameBack seat ∷ []) tried ∙ append_assoc events (Tried t ∷ []) (CameBack seat ∷ []) ∙ ap (λ n. events ++ Tried t ∷ CameBack n ∷ []) (sym at)

pub back_taken : (events : List Event) (t : Tagged) (seat : ℕ) (front now : List Event) → t.seat ≡ seat → front ≡ events ++ Tried t ∷ [] → now ≡ front ++ CameBack seat ∷ [] → taken now ≡ taken events
back_taken events t seat front now at tried back = ap taken (back_list events t seat front now at tried back) ∙ taken-back events t
