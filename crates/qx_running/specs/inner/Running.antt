-- What only the proofs need of Running.
use Rattle.std.specs.Prelude.{ℕ, List}
use Rattle.circular_buffer.specs.Buffer.{Buffer}
use Rattle.qx_machine.specs.Machine.{World}
use Rattle.qx_running.specs.Running.{Now}
use Rattle.qx_running.specs.declared.running.Recorded.{Recorded}

-- the run that the fields are of
abbrev pub now_of : World → Buffer Recorded → ℕ → List ℕ → Now
now_of world recorder taken turns = record { world = world; last = recorder.items; room = recorder.capacity; taken = taken; turns = turns }
