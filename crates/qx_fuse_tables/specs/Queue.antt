-- The requests of one user that wait for a free thread.
use Rattle.std.specs.Prelude.{ℕ, ◌==◌, Bool, nat_lt, List, [], ◌∷◌, ◌++◌, Option, if◌then◌else◌, is_some, length, position}
use Rattle.qx_fuse_tables.specs.declared.queue.Queued.{Queued}
use Rattle.qx_fuse_tables.specs.Waits.{WaitingList, thread_for}

abbrev pub QueuedList : Type 0
QueuedList = List Queued

-- behind the others, unless there are as many as there may be
abbrev pub put : QueuedList → ℕ → Queued → QueuedList
put queue most one = if nat_lt (length queue) most then queue ++ one ∷ [] else queue

abbrev pub is_ready : List ℕ → ℕ → WaitingList → Queued → Bool
is_ready tids writers waits one = is_some (thread_for tids writers waits one.process one.wait)

-- where the first one stands for which there is a thread
abbrev pub ready_place : QueuedList → List ℕ → ℕ → WaitingList → Option ℕ
ready_place queue tids writers waits = position (λ one. is_ready tids writers waits one) queue

abbrev pub place_of : QueuedList → ℕ → Option ℕ
place_of queue unique = position (λ one. one.unique == unique) queue
