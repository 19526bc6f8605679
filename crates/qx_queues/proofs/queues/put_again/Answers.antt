use Rattle.qx_queues.proofs.TableLemmas.{IsFree-value, IsLineOf-value, PutIn-of}
use Rattle.qx_queues.proofs.queues.put_again.Goals as goal

pub put-requires-clause-of : goal.put-requires-clause-of
put-requires-clause-of c = IsLineOf-value c.args.table.now _ c.args.node _ c.set_prio.ensures.set c.requires.free c.args.line.now c.requires.line

pub put-requires-clause-free : goal.put-requires-clause-free
put-requires-clause-free c = IsFree-value c.args.table.now _ c.args.node _ c.set_prio.ensures.set c.requires.free

pub returns : goal.returns
returns c = record { put = PutIn-of c.args.table.now c.set_prio.new.table _ c.args.line.now _ c.args.node _ c.set_prio.ensures.set c.requires.free c.put.ensures.of c.put.ensures.put c.put.ensures.elsewhere c.put.ensures.own }
