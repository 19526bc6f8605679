-- What threads wait for, and which worker is woken, in the machine's words.
use Rattle.std.specs.Prelude.{ℕ, ◌+◌, ◌-◌, ◌^◌, ◌==◌, Bool, if◌then◌else◌, is_some, min, not}
use Rattle.qx_types.specs.declared.names.Thread.{Thread}
use Rattle.qx_types.specs.declared.step.Step.TheVariants.{TakePulse}
use Rattle.qx_machine.specs.Machine.{World, step}
use Rattle.qx_process.specs.Reads.{is_thread_blocked}
use Rattle.qx_machine.specs.Reads.{next_manager, row_among_parts}
use Rattle.qx_chan.specs.Channel.{is_no_pulse}
use Rattle.qx_monitor.specs.declared.waits.Awaited.{Awaited}
use Rattle.qx_monitor.specs.declared.waits.Awaited.TheVariants.{Item, OfThread}
use Rattle.qx_monitor.specs.declared.waits.Coming.{Coming}
use Rattle.qx_monitor.specs.declared.waits.Coming.TheVariants.{Answer, Pulse}
use Rattle.qx_monitor.specs.declared.waits.Woken.{Woken}
use Rattle.qx_monitor.specs.declared.waits.Woken.TheVariants.{Looking, Nobody, Sleeping}

-- the thread waits for an answer
abbrev pub is_blocked : World → Thread → Bool
is_blocked w thread = is_thread_blocked (row_among_parts w.parts thread)

-- what is awaited of a thread has yet to come: its answer, or a pulse of its process
abbrev pub is_to_come_of : World → Coming → Thread → Bool
is_to_come_of w Answer thread = is_blocked w thread
is_to_come_of w Pulse thread = is_no_pulse (step w (TakePulse thread.proc)).outcome

-- what is awaited has yet to come
abbrev pub is_to_come : World → Awaited → Bool
is_to_come w Item = not (is_some (next_manager w))
is_to_come w (OfThread what thread) = is_to_come_of w what thread

-- how many workers look for an item without the lock, where so many did and a thread begins to look for this
abbrev pub looking_more : Awaited → ℕ → ℕ
looking_more Item looking = min (looking + 1) (2 ^ 32 - 1)
looking_more (OfThread what thread) looking = looking

-- and where it has the lock again
abbrev pub looking_less : Awaited → ℕ → ℕ
looking_less Item looking = looking - 1
looking_less (OfThread what thread) looking = looking

-- which worker an item in a line wakes, where so many workers look for one
abbrev pub woken : World → ℕ → Woken
woken w looking = if is_to_come w Item then Nobody else if looking == 0 then Sleeping else Looking

-- which worker is woken by a client that spun in vain: one that sleeps, where an item stands still that was left to one that looks
abbrev pub overdue : World → ℕ → Woken
overdue w looking = if is_to_come w Item then Nobody else if looking == 0 then Nobody else Sleeping
