use Rattle.std.proofs.Common.{refl}
use Rattle.qx_queues.proofs.TableLemmas.{IsFree-value}
use Rattle.qx_queues.proofs.queues.take_slot.Goals as goal

pub returns-clause-free : goal.returns-clause-free
returns-clause-free c = IsFree-value c.unlink.new.table _ c.args.node _ refl c.unlink.ensures.freed
