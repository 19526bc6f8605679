-- What is owed once a step was taken under the lock: whom to wake; and what a worker receives there.
use Rattle.std.specs.Prelude.{◌≡◌, ◌==◌, ◌&&◌, ⊤, ℕ, Option, Some, None, not}
use Rattle.qx_base.specs.Memory.{FitInto, Leave, kept_beside}
use Rattle.qx_types.specs.declared.names.Item.{Item}
use Rattle.qx_types.specs.declared.names.Manager.{Manager}
use Rattle.qx_types.specs.declared.names.Thread.{Thread}
use Rattle.qx_types.specs.declared.names.Worker.{Worker}
use Rattle.qx_types.specs.declared.outcome.Outcome.{Outcome}
use Rattle.qx_types.specs.declared.outcome.Outcome.TheVariants.{Took}
use Rattle.qx_types.specs.declared.step.Step.TheVariants.{Receive}
use Rattle.qx_machine.specs.Machine.{World, step}
use Rattle.qx_steps.specs.declared.work.Work.{Work}
use Rattle.qx_steps.specs.declared.work.Work.TheVariants as work
use Rattle.qx_monitor.specs.Awaits.{is_to_come_of}
use Rattle.qx_monitor.specs.Waits.{IsPossible, is_awaited, is_in}
use Rattle.qx_monitor.specs.declared.locked.HeldCopy.{HeldCopy}
use Rattle.qx_monitor.specs.declared.locked.HeldCopy.TheVariants.{Message, Pulse}
use Rattle.qx_monitor.specs.declared.locked.Received.{Received}
use Rattle.qx_monitor.specs.declared.locked.Received.TheVariants as received
use Rattle.qx_monitor.specs.declared.monitor.Called.{Called}
use Rattle.qx_monitor.specs.declared.monitor.Called.TheVariants as called
use Rattle.qx_monitor.specs.declared.monitor.Performed.{Performed}
use Rattle.qx_monitor.specs.declared.monitor.Performed.TheVariants.{Handled}
use Rattle.qx_monitor.specs.declared.owed.Begun.{Begun}
use Rattle.qx_monitor.specs.declared.owed.Released.{Released}
use Rattle.qx_monitor.specs.declared.owed.Wake.{Wake}
use Rattle.qx_monitor.specs.declared.waits.Coming.{Coming}
use Rattle.qx_monitor.specs.declared.waits.Coming.TheVariants as coming
use Rattle.qx_monitor.specs.declared.waits.ThreadSet.{ThreadSet}
use Rattle.qx_monitor.specs.declared.waits.Waits.{Waits}

-- the set has a user's threads for which clients waited and of which that came
abbrev pub Came : World → Coming → ℕ → Waits → ThreadSet → Type 0
Came w what user waits set = (thread : Thread) → IsPossible thread → is_in set thread ≡ (((thread.proc.user.0 == user) && is_awaited waits thread) && not (is_to_come_of w what thread))

-- those to wake are a user's, of whom that came in this world; nobody where the step was no user's
abbrev pub AreReleased : World → Option ℕ → Waits → Waits → Option Released → Type 0
AreReleased w (Some user) answers pulses (Some released) = Came w coming.Answer user answers released.answered × Came w coming.Pulse user pulses released.pulsed
AreReleased w None answers pulses None = ⊤
AreReleased w _ answers pulses _ = ⊥

-- the work that a copy tells
abbrev pub copied : HeldCopy → Work
copied (Message bytes) = work.Message bytes
copied Pulse = work.Pulse

-- a copy of what is held needs no more memory than is kept for it: that of a message which fits, and that of a pulse
abbrev pub HasRoom : Option Work → ℕ → Type 0
HasRoom (Some (work.Message bytes)) kept = FitInto bytes kept
HasRoom _ kept = ⊤

-- the memory that is kept once what is held was copied: more than a few bytes take it along
abbrev pub kept_by : Option Work → ℕ → ℕ
kept_by (Some (work.Message bytes)) kept = kept_beside bytes kept
kept_by _ kept = kept

-- what was done leaves its memory for the next copy
abbrev pub LeavesRoom : Work → ℕ → ℕ → Type 0
LeavesRoom (work.Message bytes) before after = Leave bytes before after
LeavesRoom work.Pulse before after = after ≡ before

abbrev pub item_taken : Outcome → Option Item
item_taken (Took item) = Some item
item_taken _ = None

-- the item that a worker takes from the line that is next; none where none is next, or the worker takes none
abbrev pub next_item : World → Worker → Option Manager → Option Item
next_item w worker None = None
next_item w worker (Some manager) = item_taken (step w (Receive worker manager)).outcome

-- ---- what holds of each way in which a receive, a call or a perform ended

abbrev pub IfTook : Received → (Item → HeldCopy → Type 0) → Type 0
IfTook (received.Took item held) P = P item held
IfTook _ P = ⊤

abbrev pub IfShort : Received → Type 0 → Type 0
IfShort (received.Short short) P = P
IfShort _ P = ⊤

abbrev pub IfSent : Called → (Begun → Wake → Type 0) → Type 0
IfSent (called.Sent begun wake) P = P begun wake
IfSent _ P = ⊤

abbrev pub IfUnsent : Called → (Outcome → Type 0) → Type 0
IfUnsent (called.Unsent outcome) P = P outcome
IfUnsent _ P = ⊤

abbrev pub IfHandled : Performed → (Begun → Type 0) → Type 0
IfHandled (Handled begun) P = P begun
IfHandled _ P = ⊤
