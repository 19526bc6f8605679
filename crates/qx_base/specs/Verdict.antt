-- What a call to a device comes to, by the device's own bytes and by nothing else.
use Rattle.std.specs.Prelude.{ℕ, List, []}
use Rattle.qx_base.specs.declared.errno.Errno.{Errno}
use Rattle.qx_base.specs.declared.device.Told.{Told}
use Rattle.qx_base.specs.declared.device.Told.TheVariants as told

-- it waits; it gets a status and bytes, and the device has this state then; or it gets an error, and nothing changes
pub data Verdict : Type 0 where
  Waits : Verdict
  Gives : (status : ℕ) (bytes : List ℕ) (state : List ℕ) → Verdict
  Fails : (error : Errno) → Verdict

-- what it is told, the bytes that it is given, and those that the device has then
pub record Left : Type 0 where
  pub told : Told
  pub bytes : List ℕ
  pub state : List ℕ

-- what a call leaves that comes to this, where the device has these bytes
abbrev pub left_by : List ℕ → Verdict → Left
left_by state Waits = record { told = told.Waits; bytes = []; state = state }
left_by state (Gives status bytes after) = record { told = told.Gives status; bytes = bytes; state = after }
left_by state (Fails error) = record { told = told.Fails error; bytes = []; state = state }
