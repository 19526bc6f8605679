use Rattle.std.proofs.Common.{◌∙◌, [], ap, is_some}
use Rattle.std.specs.FinMap as maps
use Rattle.qx_lists.proofs.MapLemmas.{get-insert_same}
use Rattle.qx_queues.specs.Queues.{with_waiting, without_list}
use Rattle.qx_shared.proofs.PlaceLemmas.{added, list-unmade}
use Rattle.qx_shared.proofs.shared.Shared.add_pipe.Goals as goal

pub invariant_of-self-in-Ok : goal.invariant_of-self-in-Ok
invariant_of-self-in-Ok c =
    (added c.self.inside.queues c.self.inside.pipes.items c.self.invariant c.args.user.0 c.args.inode (rw (← c.self.view_is) at c.requires.user) c.requires.inode (rw (← c.self.view_is) at c.requires.none) c.args.device c.in_ok-readers.readers c.in-Ok.writers c.in_ok-readers.ensures.was_new (rw c.in_ok-readers.ensures.made at c.in-Ok.ensures.was_new)
    c.add_list-2.new.self _ _ (c.in-Ok.ensures.made ∙ ap (λ q. with_waiting q c.in-Ok.writers []) c.in_ok-readers.ensures.made) c.index_mut.ensures.value (rw (c.new-row.ensures.row, c.in_ok-blank.ensures.blank) at c.set.ensures.set)).1

pub returns-in-Ok-clause-ok : goal.returns-in-Ok-clause-ok
returns-in-Ok-clause-ok c =
    rw (← c.self.view_is) (added c.self.inside.queues c.self.inside.pipes.items c.self.invariant c.args.user.0 c.args.inode (rw (← c.self.view_is) at c.requires.user) c.requires.inode (rw (← c.self.view_is) at c.requires.none) c.args.device c.in_ok-readers.readers c.in-Ok.writers c.in_ok-readers.ensures.was_new (rw c.in_ok-readers.ensures.made at c.in-Ok.ensures.was_new)
    c.add_list-2.new.self _ _ (c.in-Ok.ensures.made ∙ ap (λ q. with_waiting q c.in-Ok.writers []) c.in_ok-readers.ensures.made) c.index_mut.ensures.value (rw (c.new-row.ensures.row, c.in_ok-blank.ensures.blank) at c.set.ensures.set)).0

pub free_list-requires : goal.free_list-requires
free_list-requires c = record { list = ap (λ q. maps.contains_key q.pipes c.in_ok-readers.readers) (c.in-Err.ensures.err ∙ c.in_ok-readers.ensures.made) ∙ ap is_some (get-insert_same c.self.inside.queues.pipes c.in_ok-readers.readers []) }

pub invariant_of-self-in-Err : goal.invariant_of-self-in-Err
invariant_of-self-in-Err c = rw (c.free_list.ensures ∙ ap (λ q. without_list q c.in_ok-readers.readers) (c.in-Err.ensures.err ∙ c.in_ok-readers.ensures.made) ∙ list-unmade c.self.inside.queues c.in_ok-readers.readers c.in_ok-readers.ensures.was_new) c.self.invariant

pub returns-in-Err-clause-err : goal.returns-in-Err-clause-err
returns-in-Err-clause-err c = rw (c.free_list.ensures ∙ ap (λ q. without_list q c.in_ok-readers.readers) (c.in-Err.ensures.err ∙ c.in_ok-readers.ensures.made) ∙ list-unmade c.self.inside.queues c.in_ok-readers.readers c.in_ok-readers.ensures.was_new) c.self.view_is
