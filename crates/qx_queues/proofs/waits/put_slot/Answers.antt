use Rattle.std.proofs.Common.{refl}
use Rattle.qx_queues.proofs.TableLemmas.{IsFree-value}
use Rattle.qx_queues.proofs.waits.put_slot.Goals as goal

pub push_back-requires-clause-free : goal.push_back-requires-clause-free
push_back-requires-clause-free c = IsFree-value c.args.table.now _ c.args.node _ refl c.requires.free
