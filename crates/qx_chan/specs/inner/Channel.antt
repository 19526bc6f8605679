-- What only the proofs need of Channel.
use Rattle.std.specs.Prelude.{ℕ, List}
use Rattle.qx_types.specs.declared.outcome.Answer.TheVariants.{Reply}
use Rattle.qx_machine.specs.declared.rows.Effect.{Effect}
use Rattle.qx_machine.specs.declared.rows.Over.{Over}
use Rattle.qx_machine.specs.Processes.{Process, after_reply, answered_thread, with_thread}

-- a thread of a process gets a reply
abbrev pub process_replied : ℕ → Effect → ℕ → List ℕ → Over → Process → Process
process_replied thread effect status bytes over process = after_reply thread over effect (with_thread thread (answered_thread (Reply status bytes)) process)
