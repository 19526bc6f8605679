use Rattle.qx_lists.proofs.TableFacts.{kept_there}
use Rattle.qx_notify.proofs.PutLemmas.{free-still, nowhere-free, put-last}
use Rattle.qx_notify.proofs.lists.move_to.Goals as goal

pub push_back-requires-clause-list : goal.push_back-requires-clause-list
push_back-requires-clause-list c = rw c.unlink.ensures.unlinked (kept_there c.args.table.now.lists c.args.from _ c.args.to c.requires.to).1

pub push_back-requires-clause-free : goal.push_back-requires-clause-free
push_back-requires-clause-free c = free-still c.unlink.new.table c.args.node c.args.event c.unlink.ensures.freed

pub returns-clause-put : goal.returns-clause-put
returns-clause-put c = rw (← c.unlink.ensures.unlinked, c.push_back.ensures) (put-last c.unlink.new.table c.args.to c.args.node c.args.event c.unlink.new.table.room (nowhere-free c.unlink.new.table c.args.node c.unlink.ensures.freed))
