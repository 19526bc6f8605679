-- Clauses of a result, each from one that says more.
use Rattle.std.specs.Prelude.{Result, Ok, Err, OnErr, OnOk}

module _ {T E P : Type 0} where
  -- what holds is a clause of an error too
  pub on_err : (r : Result T E) → P → OnErr r P
  on_err (Ok value) p = tt
  on_err (Err error) p = p

  module _ {Q : Type 0} where
    pub on_ok_by : (r : Result T E) → (P → Q) → OnOk r P → OnOk r Q
    on_ok_by (Ok value) step p = step p
    on_ok_by (Err error) step p = tt

    pub on_err_by : (r : Result T E) → (P → Q) → OnErr r P → OnErr r Q
    on_err_by (Ok value) step p = tt
    on_err_by (Err error) step p = step p

    -- what follows from either holds
    pub on_either : {R : Type 0} (r : Result T E) → OnOk r P → OnErr r Q → (P → R) → (Q → R) → R
    on_either (Ok value) p q from_ok from_err = from_ok p
    on_either (Err error) p q from_ok from_err = from_err q
