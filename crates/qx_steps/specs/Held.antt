-- What a worker holds, as the work that it has to do.
use Rattle.std.specs.Prelude.{◌≡◌, ◌≢◌, ⊤, ℕ, List, Option, Some, None, if◌then◌else◌, option_map}
use Rattle.qx_isolation.specs.declared.rows.Held.{Held}
use Rattle.qx_isolation.specs.declared.rows.OwnItem.{OwnItem}
use Rattle.qx_isolation.specs.declared.rows.OwnItem.TheVariants as item
use Rattle.qx_machine.specs.declared.rows.Sent.{Sent}
use Rattle.qx_machine.specs.Machine.{World, is_worker, named_thread}
use Rattle.qx_machine.specs.Parts.{Part}
use Rattle.qx_machine.specs.Processes.{Process}
use Rattle.qx_isolation.specs.Rows.{row_at}
use Rattle.qx_chan.specs.Calls.{taken_of}
use Rattle.qx_steps.specs.declared.work.Work.{Work}
use Rattle.qx_steps.specs.declared.work.Work.TheVariants as work
use Rattle.qx_steps.specs.declared.work.WorkRef.{WorkRef}
use Rattle.qx_steps.specs.declared.work.WorkRef.TheVariants as lent
use Rattle.qx_machine.specs.Reads.{process_among_parts}

abbrev pub bytes_or : Option Sent → Option (List ℕ) → Option (List ℕ)
bytes_or None kept = kept
bytes_or (Some sent) kept = Some sent.bytes

-- the bytes of a thread's message that was received and is not served; a process that has ended keeps them
abbrev pub received_bytes : ℕ → Option Process → Option (List ℕ)
received_bytes thread None = None
received_bytes thread (Some process) = bytes_or (taken_of (row_at process.threads thread)) (row_at process.held thread)

-- the work of an item of a user: the bytes of a received message, or a pulse
abbrev pub work_of : List (Option Part) → ℕ → OwnItem → Option Work
work_of parts user (item.Message process thread) = option_map (λ bytes. work.Message bytes) (received_bytes thread (process_among_parts parts (named_thread user process thread).proc))
work_of parts user _ = Some work.Pulse

abbrev pub work_in_hand : World → Option Held → Option Work
work_in_hand w None = None
work_in_hand w (Some held) = work_of w.parts held.user.0 held.item

-- what a worker holds; none where there is no such worker or it holds nothing
abbrev pub held_work : World → ℕ → Option Work
held_work w worker = if is_worker w.config worker then work_in_hand w (row_at w.hands worker) else None

-- the work that is lent
abbrev pub work_now : WorkRef → Work
work_now (lent.Message bytes) = work.Message bytes.now
work_now lent.Pulse = work.Pulse

-- something is held that the work is not
abbrev pub IsStale : Option Work → Work → Type 0
IsStale None given = ⊥
IsStale (Some held) given = held ≢ given

-- a message that was read before is the one that is held
abbrev pub IsReadFor : Option (List ℕ) → Option Work → Type 0
IsReadFor (Some bytes) (Some held) = held ≡ work.Message bytes
IsReadFor _ _ = ⊤

-- the bytes of the message that is to be done
abbrev pub bytes_of_work : Work → Option (List ℕ)
bytes_of_work (work.Message bytes) = Some bytes
bytes_of_work work.Pulse = None
