use Rattle.std.proofs.Common.{rules, ◌≡◌}
use Rattle.qx_wire.specs.declared.message.Meaning.TheVariants.{Unknown}
use Rattle.qx_wire.specs.Reading.{body_cut}
use Rattle.qx_wire.proofs.TableLemmas.{judged_where-unknown}
use Rattle.qx_wire.proofs.reading.body_cut.Goals as goal

pub returns-in_default : goal.returns-in_default
unfolding body_cut
returns-in_default c =
    let none : body_cut c.args.kind c.args.subtype c.args.body.now ≡ Unknown = search rules in
    rw none (judged_where-unknown c.args.judges)
