-- What only the proofs need of Waiting.
use Rattle.std.specs.Prelude.{⊤, ℕ, true, []}
use Rattle.qx_types.specs.declared.names.Thread.{Thread}
use Rattle.qx_types.specs.declared.names.Prio.{Prio}
use Rattle.qx_types.specs.declared.outcome.Answer.TheVariants.{Reply}
use Rattle.qx_queues.specs.Queues.{UsersAnswer, caller}
use Rattle.qx_queues.specs.declared.waiting.Slot.{Slot}
use Rattle.qx_queues.specs.declared.waiting.Slot.TheVariants as slot
use Rattle.qx_queues.specs.Waiting.{Answered, ComesWithRoom, Load, Nothing, Waiting, Waits, addressed_by}

abbrev pub nobody : Thread
nobody = record { proc = record { user = record { 0 = 0 }; num = 0 }; tid = 0 }

abbrev pub given_in : Load → UsersAnswer
given_in Nothing = record { thread = nobody; call = 0; answer = Reply 0 [] }
given_in (Waits call) = record { thread = nobody; call = 0; answer = Reply 0 [] }
given_in (Answered given) = given

-- the answer that a node carries
abbrev pub given_of : Waiting → UsersAnswer
given_of waiting = given_in waiting.load

abbrev pub thread_of_load : ℕ → Load → Thread
thread_of_load user Nothing = nobody
thread_of_load user (Waits call) = caller (record { user = user; call = call })
thread_of_load user (Answered given) = given.thread

-- the thread whose call a node carries, or carried until it was answered
abbrev pub thread_carried : Waiting → Thread
thread_carried waiting = thread_of_load waiting.queued.user.0 waiting.load

-- so does the answer that is kept in a node, if one is
abbrev pub KeepsRoom : Slot → Type 0
KeepsRoom (slot.Answered taken) = ComesWithRoom taken
KeepsRoom _ = ⊤

-- what is kept in a node, seen without the rooms for replies
abbrev pub load_of : Slot → Load
load_of slot.Empty = Nothing
load_of (slot.Waits call) = Waits call
load_of (slot.Answered taken) = Answered (addressed_by taken)

-- the same item with another priority
abbrev pub ranked : Prio → Waiting → Waiting
ranked prio waiting = record waiting { queued = record waiting.queued { prio = prio } }

-- the call that waits is one of a process that has ended
abbrev pub gone_load : Load → Load
gone_load Nothing = Nothing
gone_load (Waits call) = Waits (record call { is_gone = true })
gone_load (Answered given) = Answered given

abbrev pub with_gone_call : Waiting → Waiting
with_gone_call waiting = record waiting { load = gone_load waiting.load }
