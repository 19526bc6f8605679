use Rattle.std.proofs.Common.{ap, ◌∙◌}
use Rattle.qx_machine.specs.Names as of_names
use Rattle.qx_names.specs.Spots.{spot_of}
use Rattle.qx_iofunc.proofs.renaming.is_below.Goals as goal

pub returns : goal.returns
returns c =
    let leads = c.requires.leads in
    let at : of_names.Spot = spot_of c.args.names.now c.args.new.now in
    c.is_below.ensures leads.0 leads.1 leads.2 at leads.3 ∙ ap (λ (key : of_names.Key). of_names.is_below key at.key.0 at.key.1) (c.named_once.ensures.path (spot_of c.args.names.now c.args.old.now).key c.args.inode c.requires.there)
