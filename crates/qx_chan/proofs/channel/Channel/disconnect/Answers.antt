use Rattle.std.proofs.Common.{◌≡◌, inl, inr, true, false, None, is_some, ap, sym, ◌∙◌}
use Rattle.std.specs.Option.{option_copied}
use Rattle.qx_isolation.specs.Rows.{row_at}
use Rattle.qx_chan.specs.Users.{process_of, process_of_user}
use Rattle.qx_chan.proofs.DisconnectLemmas.{Answering-gone, Serves-disconnected, Serves-gone}
use Rattle.qx_chan.proofs.PulseLemmas.{user-fits}
use Rattle.qx_chan.proofs.RowReads.{option_cases}
use Rattle.qx_chan.proofs.channel.Channel.disconnect.Goals as goal

pub returns-then-is_none-clause-disconnected : goal.returns-then-is_none-clause-disconnected
returns-then-is_none-clause-disconnected c =
    let none : process_of c.self.inside.users c.args.proc ≡ None = ap (process_of_user c.args.proc.num) (sym c.in-Some.ensures.row) ∙ sym c.process.ensures.row ∙ elim (option_cases c.process.result) [
      | inl none ↦ ap option_copied none
      | inr some ↦ let clash : true ≡ false = sym (ap is_some some.1) ∙ c.if-is_none.ensures in absurd (cc)
    ] in
    rw (← c.self.view_is) (Serves-gone c.self.inside.users c.self.inside.tables c.args.resources.now c.args.proc c.requires.user c.args.server c.args.moment none)

pub disconnect-requires : goal.disconnect-requires
disconnect-requires c =
    record { fits = user-fits c.self.inside.users c.self.inside.tables c.args.resources.now c.in-Some.processes.now (ap (row_at c.self.inside.users) c.requires.user ∙ sym c.in-Some.ensures.row) c.self.invariant }

pub give_answers-requires : goal.give_answers-requires
give_answers-requires c = record {
  answering = rw c.free_server.ensures.freed (elim (option_cases c.process.result) [
    | inl none ↦ let clash : false ≡ true = sym (ap is_some none) ∙ c.if-is_none.ensures in absurd (cc)
    | inr some ↦ Answering-gone c.self.inside.users c.self.inside.tables c.args.resources.now c.args.proc c.requires.user c.args.server c.args.moment c.self.invariant c.disconnect.new.self c.disconnect.new.all c.in-Some.processes.now (sym c.in-Some.ensures.row)
        some.0.now (sym c.process.ensures.row ∙ ap option_copied some.1) c.disconnect.ensures.user c.disconnect.ensures.state c.disconnect.ensures.shared
  ]);
}

pub returns-clause-disconnected : goal.returns-clause-disconnected
returns-clause-disconnected c = rw (← c.self.view_is, c.give_answers.ensures.users, c.give_answers.ensures.queues, c.free_server.ensures.freed) (elim (option_cases c.process.result) [
  | inl none ↦ let clash : false ≡ true = sym (ap is_some none) ∙ c.if-is_none.ensures in absurd (cc)
  | inr some ↦ Serves-disconnected c.self.inside.users c.self.inside.tables c.args.resources.now c.args.proc c.requires.user c.args.server c.args.moment c.self.invariant c.disconnect.new.self c.disconnect.new.all c.in-Some.processes.now (sym c.in-Some.ensures.row)
      some.0.now (sym c.process.ensures.row ∙ ap option_copied some.1) c.disconnect.ensures.user c.disconnect.ensures.state c.disconnect.ensures.shared
])
