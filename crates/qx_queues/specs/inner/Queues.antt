-- What only the proofs need of Queues.
use Rattle.std.specs.Prelude.{ℕ, ◌==◌, ◌&&◌, nat_le, nat_lt, Bool}
use Rattle.qx_types.specs.declared.names.Proc.{Proc}
use Rattle.qx_types.specs.declared.names.Thread.{Thread}
use Rattle.qx_queues.specs.Queues.{is_same_proc}

-- one of the first threads of a process
abbrev pub is_thread_of : Proc → ℕ → Thread → Bool
is_thread_of proc threads other = (proc.user.0 == other.proc.user.0) && (proc.num == other.proc.num) && nat_le 1 other.tid && nat_le other.tid threads

-- one of the threads of a process below a number
abbrev pub is_thread_below : Proc → ℕ → Thread → Bool
is_thread_below proc threads other = is_same_proc proc other.proc && nat_lt other.tid threads

-- the same process at the same manager
abbrev pub is_same_server : Proc → ℕ → Proc → ℕ → Bool
is_same_server proc number other at = (proc.user.0 == other.user.0) && (proc.num == other.num) && (number == at)
