-- What only the proofs need of Calls.
use Rattle.std.specs.Prelude.{ℕ, List}
use Rattle.qx_types.specs.declared.names.Thread.{Thread}
use Rattle.qx_types.specs.declared.request.Request.{Request}
use Rattle.qx_calls.specs.Forms.{CanBeSaid}
use Rattle.qx_words.specs.Kinds.{CanNameThread}
use Rattle.qx_calls.specs.Calls.{call_said}

-- a call of one of the users with these names, of numbers and words that a line can have
abbrev pub CanSayCall : List (List ℕ) → Thread × Request → Type 0
CanSayCall users call = CanNameThread users call.0 × CanBeSaid users (call_said call.0 call.1)
