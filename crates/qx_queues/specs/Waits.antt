-- Calls that wait in lists, and their answers.
use Rattle.std.specs.Borrow.{Bor}
use Rattle.std.specs.Prelude.{ℕ, ◌==◌, ◌&&◌, Bool, true, List, Result, Ok, Err}
use Rattle.qx_types.specs.declared.names.Thread.{Thread}
use Rattle.qx_base.specs.declared.errno.Errno.{Errno}
use Rattle.qx_types.specs.declared.outcome.Answer.{Answer}
use Rattle.qx_types.specs.declared.outcome.Answer.TheVariants.{Failed, Reply}
use Rattle.qx_machine.specs.declared.rows.WaitingCall.{WaitingCall}
use Rattle.qx_machine.specs.Waiting.{is_call, is_gone}
use Rattle.qx_queues.specs.Queues.{UsersCall, caller, is_same_thread}
use Rattle.qx_queues.specs.declared.leaving.Leaving.{Leaving}
use Rattle.qx_queues.specs.declared.leaving.Leaving.TheVariants as leaving

-- the answer that a call is handed
abbrev pub handed : Result (ℕ × Bor (List ℕ)) Errno → Answer
handed (Ok reply) = Reply reply.0 reply.1.now
handed (Err error) = Failed error

-- which calls are meant
abbrev pub leaves : Leaving → WaitingCall → Bool
leaves leaving.Gone call = is_gone call
leaves (leaving.Call process thread number) call = is_call process thread number call
leaves (leaving.Block block) call = call.block == block
leaves leaving.All call = true

-- a call with its user
abbrev pub users_call : ℕ → WaitingCall → UsersCall
users_call user call = record { user = user; call = call }

-- that call of a thread
abbrev pub is_users_call : Thread → ℕ → UsersCall → Bool
is_users_call thread number own = is_same_thread (caller own) thread && (own.call.call == number)
