use Rattle.std.proofs.Common.{◌≡◌, None, rules}
use Rattle.qx_isolation.specs.Rows.{row_at}
use Rattle.qx_rows.proofs.RowLemmas.{with_row-none}
use Rattle.qx_clients.specs.Calls.{after_or, with_prio}
use Rattle.qx_chan.proofs.PrioLemmas.{Kept-ranked}
use Rattle.qx_chan.proofs.channel.Channel.set_prio.Goals as goal

pub returns-in_default-clause-ranked : goal.returns-in_default-clause-ranked
returns-in_default-clause-ranked c =
    let none : row_at c.self.inside.users c.args.thread.proc.user.0 ≡ None = search rules in
    rw (← c.self.view_is, with_row-none c.self.inside.users c.args.thread.proc.user.0 (λ processes. after_or processes (with_prio c.args.ceiling.0 processes c.args.thread.proc.num c.args.thread.tid c.args.prio.0)) none)

pub invariant_of-self-2 : goal.invariant_of-self-2
invariant_of-self-2 c = record {
  spare = c.self.invariant.spare;
  shared = rw c.set_prio.ensures.rows (Kept-ranked c.args.ceiling.0 c.self.inside.users c.self.inside.tables.shared c.args.thread c.args.prio.0 c.in-Some.processes.now c.in-Some.ensures.row c.self.invariant.shared);
  events = c.self.invariant.events;
}
