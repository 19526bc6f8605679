-- A judgement as one block: each line finds something or gives the error of what changes nothing.
use Rattle.std.specs.Prelude.{Bool, true, false, Option, Some, None, Result, Ok, Err}
use Rattle.qx_base.specs.declared.errno.Errno.{Errno}
use Rattle.qx_types.specs.declared.outcome.Outcome.{Outcome}
use Rattle.qx_types.specs.declared.outcome.Outcome.TheVariants.{Refused}

infixl 10 ◌>>=◌
abbrev pub ◌>>=◌ : {A B E : Type 0} → Result A E → (A → Result B E) → Result B E
(Ok value) >>= next = next value
(Err error) >>= next = Err error

abbrev pub found : {A E : Type 0} → Option A → E → Result A E
found (Some value) error = Ok value
found None error = Err error

abbrev pub need : {E : Type 0} → Bool → E → Result Bool E
need true error = Ok true
need false error = Err error

-- an error refuses the step
abbrev pub or_refused : {A : Type 0} → Result A Errno → Result A Outcome
or_refused (Ok value) = Ok value
or_refused (Err errno) = Err (Refused errno)

-- what is not reached is not so
abbrev pub or_false : {E : Type 0} → Result Bool E → Bool
or_false (Ok so) = so
or_false (Err error) = false
