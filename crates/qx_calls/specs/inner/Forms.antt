-- What only the proofs need of Forms.
use Rattle.qx_calls.specs.Forms.{Form, Maker, Values, at_most, end, ◌then◌}

abbrev pub made_of : {A : Type 0} (form : Form) → Maker form A → Values form → A
made_of end made values = made
made_of (kind then form) made values = made_of form (made values.0) values.1
made_of (at_most kind) made values = made values
