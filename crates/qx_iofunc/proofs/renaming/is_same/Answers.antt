use Rattle.std.proofs.Common.{◌∙◌}
use Rattle.std.proofs.lemmas.Bool.{ne_eqb}
use Rattle.qx_iofunc.proofs.RenameLemmas.{other_spots, same_spots}
use Rattle.qx_iofunc.proofs.renaming.is_same.Goals as goal

pub returns-then-one-two : goal.returns-then-one-two
returns-then-one-two c = c.eq.ensures ∙ same_spots c.args.names.now c.args.one.now.parent c.args.two.now.parent c.args.one.now.name.now c.args.two.now.name.now c.if-one-two.true

pub returns-else-one-two : goal.returns-else-one-two
returns-else-one-two c =
    ne_eqb c.args.one.now.parent c.args.two.now.parent c.if-one-two.false
    ∙ other_spots c.args.names.now c.args.one.now.parent c.args.two.now.parent c.args.one.now.name.now c.args.two.now.name.now c.requires.one c.requires.two c.if-one-two.false
