use Rattle.std.proofs.Common.{◌+◌, [], ◌∷◌, length, length-append, ap, ◌∙◌}
use Rattle.qx_notify.proofs.BootLemmas.{new-more, new-none}
use Rattle.qx_notify.proofs.lists.UserLists.new.Goals as goal

pub processes-init : goal.processes-init
processes-init c = record {
  count = ap length c.new-pulses.ensures.items;
  new = rw c.new-pulses.ensures.items (new-more c.args.table.now c.args.table.now c.add_list.new.self [] c.in_ok-armed.armed (new-none c.args.table.now) c.in_ok-armed.ensures.was_new c.in_ok-armed.ensures.made);
}

pub processes-preserved : goal.processes-preserved
processes-preserved c = record {
  count = ap length c.in_ok-push.ensures.items ∙ length-append c.processes.pulses.items _ ∙ ap (λ n. n + 1) c.processes.invariant.count;
  new = rw c.in_ok-push.ensures.items (new-more c.args.table.now c.processes.table c.add_list-in-processes.new.self (c.in_ok-armed.armed ∷ c.processes.pulses.items) c.in_ok-list.list c.processes.invariant.new c.in_ok-list.ensures.was_new c.in_ok-list.ensures.made);
}
