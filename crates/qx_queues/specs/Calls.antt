-- What a call that waits in a pipe is to do there.
use Rattle.std.specs.Prelude.{ℕ, List, [], take}
use Rattle.qx_types.specs.declared.limits.TheConstants.Limits.{TRANSFER}
use Rattle.qx_queues.specs.declared.calls.Work.{Work}
use Rattle.qx_queues.specs.declared.calls.Work.TheVariants as work

-- how many bytes a call reads
abbrev pub wanted_by : Work → ℕ
wanted_by (work.Read wanted) = wanted
wanted_by work.Write = 0

-- the bytes that a call writes: those that are kept in its room, at most as many as one write has
abbrev pub written_by : Work → List ℕ → List ℕ
written_by (work.Read wanted) kept = []
written_by work.Write kept = take TRANSFER kept
