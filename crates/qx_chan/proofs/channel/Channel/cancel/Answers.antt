use Rattle.std.proofs.Common.{◌≡◌, Some, sym, ◌∙◌, ap}
use Rattle.qx_isolation.specs.Rows.{row_at}
use Rattle.qx_resources.specs.declared.tables.Tables.{Tables}
use Rattle.qx_shared.specs.Shared.{Shared}
use Rattle.qx_chan.proofs.NodesLemmas.{room-cancelled}
use Rattle.qx_chan.proofs.PulseLemmas.{performed, user-fits}
use Rattle.qx_chan.proofs.SettledLemmas.{fits-cancelled, places}
use Rattle.qx_chan.proofs.channel.Channel.cancel.Goals as goal

pub watch_call-watched-requires-clause-fits : goal.watch_call-watched-requires-clause-fits
watch_call-watched-requires-clause-fits c =
    let there : row_at c.self.inside.users c.args.resources.now.user ≡ Some c.in-Some.processes.now = ap (row_at c.self.inside.users) c.requires.user ∙ sym c.in-Some.ensures.row in
    user-fits c.self.inside.users c.self.inside.tables c.args.resources.now c.in-Some.processes.now there c.self.invariant

pub cancel-requires-clause-fits : goal.cancel-requires-clause-fits
cancel-requires-clause-fits c =
    let there : row_at c.self.inside.users c.args.resources.now.user ≡ Some c.in-Some.processes.now = ap (row_at c.self.inside.users) c.requires.user ∙ sym c.in-Some.ensures.row in
    user-fits c.self.inside.users c.self.inside.tables c.args.resources.now c.in-Some.processes.now there c.self.invariant

pub trigger-requires : goal.trigger-requires
trigger-requires c =
    let there : row_at c.self.inside.users c.args.resources.now.user ≡ Some c.in-Some.processes.now = ap (row_at c.self.inside.users) c.requires.user ∙ sym c.in-Some.ensures.row in
    record { fits = fits-cancelled c.args.resources.now c.cancel.new.self c.self.inside.tables c.cancel.new.all _ (user-fits c.self.inside.users c.self.inside.tables c.args.resources.now c.in-Some.processes.now there c.self.invariant) c.cancel.ensures.user c.cancel.ensures.shared }

pub give_answers-requires : goal.give_answers-requires
give_answers-requires c =
    let there : row_at c.self.inside.users c.args.resources.now.user ≡ Some c.in-Some.processes.now = ap (row_at c.self.inside.users) c.requires.user ∙ sym c.in-Some.ensures.row in
    record {
      answering = (performed c.self.inside.users c.self.inside.tables c.cancel.new.all c.trigger.new.tables c.args.resources.now c.cancel.new.self c.in-Some.processes.now there c.self.invariant c.args.thread.proc.num c.args.thread.tid c.args.call c.args.moment c.watch_call-watched.result
          c.cancel.ensures.user c.cancel.ensures.state c.cancel.ensures.shared c.watch_call-watched.ensures.watched c.trigger.ensures.triggered).0;
    }

pub invariant_of-self : goal.invariant_of-self
invariant_of-self c =
    let there : row_at c.self.inside.users c.args.resources.now.user ≡ Some c.in-Some.processes.now = ap (row_at c.self.inside.users) c.requires.user ∙ sym c.in-Some.ensures.row in
    record {
      spare = c.self.invariant.spare;
      shared = c.give_answers.ensures.kept;
      events = rw c.give_answers.ensures.queues (places _ _ _ _ _ (performed c.self.inside.users c.self.inside.tables c.cancel.new.all c.trigger.new.tables c.args.resources.now c.cancel.new.self c.in-Some.processes.now there c.self.invariant c.args.thread.proc.num c.args.thread.tid c.args.call c.args.moment c.watch_call-watched.result
          c.cancel.ensures.user c.cancel.ensures.state c.cancel.ensures.shared c.watch_call-watched.ensures.watched c.trigger.ensures.triggered).1 c.self.invariant.events);
    }

pub returns : goal.returns
returns c =
    let there : row_at c.self.inside.users c.args.resources.now.user ≡ Some c.in-Some.processes.now = ap (row_at c.self.inside.users) c.requires.user ∙ sym c.in-Some.ensures.row in
    record {
      cancelled = rw (← c.self.view_is, c.give_answers.ensures.users, c.give_answers.ensures.queues) (performed c.self.inside.users c.self.inside.tables c.cancel.new.all c.trigger.new.tables c.args.resources.now c.cancel.new.self c.in-Some.processes.now there c.self.invariant c.args.thread.proc.num c.args.thread.tid c.args.call c.args.moment c.watch_call-watched.result
          c.cancel.ensures.user c.cancel.ensures.state c.cancel.ensures.shared c.watch_call-watched.ensures.watched c.trigger.ensures.triggered).1;
      room = rw (← c.self.view_is) (ap (λ (q : Shared). q.room) c.give_answers.ensures.queues ∙ ap (λ (w : Tables). w.shared.room) c.trigger.ensures.triggered ∙ ap (λ (w : Tables). w.shared.room) c.cancel.ensures.shared ∙ room-cancelled c.self.inside.tables.shared _ _);
    }
