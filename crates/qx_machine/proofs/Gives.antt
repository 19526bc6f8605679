-- What a judgement gives, if it gives anything.
use Rattle.std.proofs.Common.{◌≡◌, Bool, true, false, refl}
use Rattle.std.specs.Prelude.{Option, Some, None, Result, Ok, Err, IfOk, if◌then◌else◌}
use Rattle.std.proofs.lemmas.Result.{IfOk-at_ok, IfOk-weaker}
use Rattle.qx_isolation.specs.Judgements.{◌>>=◌, found, need}

-- what a judgement gives, if it gives anything, has the property
pub record Gives {A E : Type 0} (Q : A → Type 0) (given : Result A E) : Type 0 where
  pub gives : IfOk given Q

pub gives_on : {A B E : Type 0} (Q : B → Type 0) (first : Result A E) (next : A → Result B E) → ((value : A) → first ≡ Ok value → Gives Q (next value)) → Gives Q (first >>= next)
gives_on Q (Ok value) next h = h value refl
gives_on Q (Err error) next h = record { gives = tt }

pub gives_done : {A E : Type 0} (Q : A → Type 0) (value : A) → Q value → Gives {E = E} Q (Ok value)
gives_done Q value h = record { gives = h }

pub gives_error : {A E : Type 0} (Q : A → Type 0) (error : E) → Gives Q (Err error)
gives_error Q error = record { gives = tt }

pub gives_if : {A E : Type 0} (Q : A → Type 0) (test : Bool) (first second : Result A E) → Gives Q first → Gives Q second → Gives Q (if test then first else second)
gives_if Q true first second h k = h
gives_if Q false first second h k = k

pub gives-value : {A E : Type 0} (Q : A → Type 0) (given : Result A E) (value : A) → given ≡ Ok value → Gives Q given → Q value
gives-value Q given value is h = IfOk-at_ok Q is h.gives

-- a judgement whose first part gives what has a property
pub gives_by : {A B E : Type 0} (Q : A → Type 0) (R : B → Type 0) (first : Result A E) (next : A → Result B E) → Gives Q first → ((value : A) → Q value → Gives R (next value)) → Gives R (first >>= next)
gives_by Q R first next h each = gives_on R first next (λ value is. each value (gives-value Q first value is h))

pub found-row : {A E : Type 0} (row : Option A) (error : E) (value : A) → found row error ≡ Ok value → row ≡ Some value
found-row None error value is = absurd (cc)
found-row (Some there) error value is = cc

pub need-true : {E : Type 0} (test : Bool) (error : E) (value : Bool) → need test error ≡ Ok value → test ≡ true
need-true true error value is = refl
need-true false error value is = absurd (cc)

pub gives_more : {A E : Type 0} (Q R : A → Type 0) (given : Result A E) → ((value : A) → Q value → R value) → Gives Q given → Gives R given
gives_more Q R given more h = record { gives = IfOk-weaker given Q R more h.gives }
