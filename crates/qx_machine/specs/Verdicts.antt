-- What a call comes to by the bytes that stand, where nobody waits before it: at a pipe, and at a device of an author's own, whose limits are
-- kept here whatever it says.
use Rattle.std.specs.Prelude.{◌==◌, ◌&&◌, ◌||◌, not, Bool, true, ℕ, ◌+◌, List, [], ◌∷◌, ◌++◌, length, take, drop, min, nat_le, nat_lt, Option, Some, None, if◌then◌else◌}
use Rattle.qx_base.specs.declared.errno.Errno.TheVariants.{ENOSPC, EPIPE}
use Rattle.qx_base.specs.Verdict.{Verdict, Waits, Gives, Fails}
use Rattle.qx_base.specs.declared.device.TheConstants.{STATE}
use Rattle.qx_devices.specs.Devices.{has_input, has_output, read_verdict, write_verdict}
use Rattle.qx_devices.specs.declared.Device.{Device}
use Rattle.qx_types.specs.declared.limits.TheConstants.Limits.{PIPE}
use Rattle.qx_types.specs.declared.outcome.Answer.{Answer}
use Rattle.qx_types.specs.declared.outcome.Answer.TheVariants.{Reply, Failed}
use Rattle.qx_machine.specs.declared.rows.Manner.{Manner}
use Rattle.qx_machine.specs.declared.rows.Sides.{Sides}

-- ---- a pipe

-- a read gets the first of the bytes that stand
abbrev pub pipe_read : ℕ → List ℕ → Verdict
pipe_read count [] = Waits
pipe_read count (first ∷ rest) =
    Gives (min count (length (first ∷ rest))) (take (min count (length (first ∷ rest))) (first ∷ rest)) (drop (min count (length (first ∷ rest))) (first ∷ rest))

-- a write's bytes go in last, all of them or none
abbrev pub pipe_write : List ℕ → List ℕ → Verdict
pipe_write given bytes = if nat_le (length bytes + length given) PIPE then Gives (length given) [] (bytes ++ given) else Waits

-- ---- a device

-- no more bytes are given than were asked for; a call that would leave more bytes than a device keeps fails in place of that
abbrev pub within : ℕ → Verdict → Verdict
within most Waits = Waits
within most (Gives status bytes state) = if nat_le (length state) STATE then Gives status (take most bytes) state else Fails ENOSPC
within most (Fails error) = Fails error

-- ---- either of them

abbrev pub read_of : Option Device → ℕ → List ℕ → Verdict
read_of None count bytes = pipe_read count bytes
read_of (Some device) count bytes = within count (read_verdict device count bytes)

abbrev pub write_of : Option Device → List ℕ → List ℕ → Verdict
write_of None given bytes = pipe_write given bytes
write_of (Some device) given bytes = within 0 (write_verdict device given bytes)

-- what a call is answered, and the bytes that stand then; nothing, where it waits
abbrev pub told_of : List ℕ → Verdict → Option (Answer × List ℕ)
told_of before Waits = None
told_of before (Gives status bytes state) = Some (Reply status bytes, state)
told_of before (Fails error) = Some (Failed error, before)

-- ---- what is told at a pipe whoever waits there; nothing at a device, which knows nobody's block

-- a read of nothing is done; a pipe that nobody writes any more and in which nothing stands has come to its end
abbrev pub read_ended : Option Device → Manner → ℕ → List ℕ → Option Answer
read_ended None manner count bytes = if (count == 0) || ((length bytes == 0) && not manner.has_other_side) then Some (Reply 0 []) else None
read_ended (Some device) manner count bytes = None

-- a write of nothing is done; nobody reads any more: EPIPE
abbrev pub write_ended : Option Device → Manner → List ℕ → Option Answer
write_ended None manner given = if length given == 0 then Some (Reply 0 []) else if not manner.has_other_side then Some (Failed EPIPE) else None
write_ended (Some device) manner given = None

-- a device is there for both sides, whoever has it open
abbrev pub sides_at : Option Device → Sides → Sides
sides_at None sides = sides
sides_at (Some device) sides = record { for_reading = true; for_writing = true }

-- ---- what a read and a write would not wait for (C Library Reference: ionotify)

-- bytes that stand in a pipe, or nobody who has it open for writing
abbrev pub may_read : Option Device → Sides → List ℕ → Bool
may_read None sides bytes = not (length bytes == 0) || not sides.for_writing
may_read (Some device) sides bytes = has_input device bytes

-- room in a pipe, or nobody who has it open for reading
abbrev pub may_write : Option Device → Sides → List ℕ → Bool
may_write None sides bytes = nat_lt (length bytes) PIPE || not sides.for_reading
may_write (Some device) sides bytes = has_output device bytes
