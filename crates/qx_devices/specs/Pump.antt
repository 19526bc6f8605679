-- A syringe pump: it is given a rate, filled and started; each tick gives so much of what is left, and the one that gives the last
-- of it stops it with an alarm, which stands until it is silenced.
--
--   bytes     what is read
--   0, 1      the rate: microlitres a tick, low byte first
--   2, 3      what is left: microlitres, low byte first
--   4         what it does: 0 nothing, 1 it runs, 2 it has stopped with an alarm
--
--   bytes               what is written, and when that is an error
--   0                   a tick
--   1, low, high        sets the rate; EINVAL where that is 0
--   2, low, high        fills it; EINVAL where that is 0, EBUSY while it runs
--   3                   starts it; EBUSY where it runs, an alarm stands, no rate was set or nothing is left
--   4                   stops it, if it runs
--   5                   silences its alarm; EBUSY where none stands
--   all others          EINVAL
use Rattle.std.specs.Prelude.{ℕ, ◌-◌, ◌==◌, ◌||◌, ◌++◌, Bool, true, false, cond, List, [], ◌∷◌, Option, Some, None, Result, Ok, Err, length, min, nat_le, take}
use Rattle.std.specs.Int.{w16, from_le_bytes, to_le_bytes}
use Rattle.qx_base.specs.declared.errno.Errno.{Errno}
use Rattle.qx_base.specs.declared.errno.Errno.TheVariants.{EBUSY, EINVAL}
use Rattle.qx_base.specs.Verdict.{Verdict, Gives, Fails}
use Rattle.qx_devices.specs.declared.pump.Command.{Command}
use Rattle.qx_devices.specs.declared.pump.Command.TheVariants as command
use Rattle.qx_devices.specs.declared.pump.Doing.{Doing}
use Rattle.qx_devices.specs.declared.pump.Doing.TheVariants.{Stopped, Running, Alarm}
use Rattle.qx_devices.specs.declared.pump.Pump.{Pump}

-- ---- its bytes

abbrev pub byte_of : Doing → ℕ
byte_of Stopped = 0
byte_of Running = 1
byte_of Alarm = 2

abbrev pub doing_of : ℕ → Doing
doing_of byte = cond (byte == 1) Running (cond (byte == 2) Alarm Stopped)

abbrev pub bytes_of : Pump → List ℕ
bytes_of p = to_le_bytes w16 p.rate ++ to_le_bytes w16 p.left ++ byte_of p.doing ∷ []

-- a new device has no bytes
abbrev pub pump_of : List ℕ → Pump
pump_of (a ∷ b ∷ c ∷ d ∷ doing ∷ []) = record { rate = from_le_bytes w16 (a ∷ b ∷ []); left = from_le_bytes w16 (c ∷ d ∷ []); doing = doing_of doing }
pump_of _ = record { rate = 0; left = 0; doing = Stopped }

-- ---- what it is told

abbrev pub plain_command : ℕ → Option Command
plain_command code =
    cond (code == 0) (Some command.Tick) (
    cond (code == 3) (Some command.Start) (
    cond (code == 4) (Some command.Stop) (
    cond (code == 5) (Some command.Silence) None)))

abbrev pub command_with : ℕ → ℕ → Option Command
command_with code number =
    cond (number == 0) None (
    cond (code == 1) (Some (command.SetRate number)) (
    cond (code == 2) (Some (command.Fill number)) None))

abbrev pub command_of : List ℕ → Option Command
command_of (code ∷ []) = plain_command code
command_of (code ∷ low ∷ high ∷ []) = command_with code (from_le_bytes w16 (low ∷ high ∷ []))
command_of _ = None

-- ---- what comes of it

abbrev pub doing : Pump → Doing → Pump
doing p now = record { rate = p.rate; left = p.left; doing = now }

-- a tick where it runs
abbrev pub given : Pump → Pump
given p = cond (nat_le p.left p.rate)
    (record { rate = p.rate; left = 0; doing = Alarm })
    (record { rate = p.rate; left = p.left - p.rate; doing = Running })

abbrev pub ticked : Pump → Doing → Pump
ticked p Running = given p
ticked p _ = p

abbrev pub filled : Pump → ℕ → Doing → Result Pump Errno
filled p volume Running = Err EBUSY
filled p volume other = Ok (record { rate = p.rate; left = volume; doing = other })

abbrev pub started : Pump → Doing → Result Pump Errno
started p Stopped = cond (p.rate == 0 || p.left == 0) (Err EBUSY) (Ok (doing p Running))
started p _ = Err EBUSY

abbrev pub stopped : Pump → Doing → Pump
stopped p Running = doing p Stopped
stopped p _ = p

abbrev pub silenced : Pump → Doing → Result Pump Errno
silenced p Alarm = Ok (doing p Stopped)
silenced p _ = Err EBUSY

abbrev pub told : Pump → Option Command → Result Pump Errno
told p None = Err EINVAL
told p (Some command.Tick) = Ok (ticked p p.doing)
told p (Some (command.SetRate rate)) = Ok (record { rate = rate; left = p.left; doing = p.doing })
told p (Some (command.Fill volume)) = filled p volume p.doing
told p (Some command.Start) = started p p.doing
told p (Some command.Stop) = Ok (stopped p p.doing)
told p (Some command.Silence) = silenced p p.doing

-- ---- calls

-- a read gets the pump as it is, and never waits
unfoldable pub read_verdict : ℕ → List ℕ → Verdict
read_verdict count state = Gives (min count 5) (take count (bytes_of (pump_of state))) state

abbrev pub verdict_of : ℕ → Result Pump Errno → Verdict
verdict_of status (Ok p) = Gives status [] (bytes_of p)
verdict_of status (Err error) = Fails error

-- so does a write of a command
unfoldable pub write_verdict : List ℕ → List ℕ → Verdict
write_verdict bytes state = verdict_of (length bytes) (told (pump_of state) (command_of bytes))

-- what a notification is told: there is input while an alarm stands (C Library Reference: ionotify)
abbrev pub is_alarm : Doing → Bool
is_alarm Alarm = true
is_alarm _ = false

unfoldable pub has_input : List ℕ → Bool
has_input state = is_alarm (pump_of state).doing

unfoldable pub has_output : List ℕ → Bool
has_output state = true
