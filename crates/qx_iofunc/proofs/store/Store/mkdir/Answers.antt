use Rattle.std.proofs.Common.{◌≡◌, None, sym, ◌∙◌}
use Rattle.qx_iofunc.proofs.OpenLemmas.{MakesDirectory, at_spot, makes_directory}
use Rattle.qx_iofunc.proofs.StoreLemmas.{StoreFits, made_fits, number_fresh}
use Rattle.qx_iofunc.specs.Store.{Stored}
use Rattle.qx_machine.specs.declared.rows.Kind.TheVariants.{Directory}
use Rattle.qx_isolation.specs.Rows.{row_at}
use Rattle.qx_names.specs.Paths.{HasNoPath}
use Rattle.qx_names.specs.Spots.{spot_of}
use Rattle.qx_base.specs.declared.errno.Errno.TheVariants.{EEXIST}
use Rattle.qx_iofunc.proofs.store.Store.mkdir.Goals.{In-Ok-may_make_directory}
use Rattle.qx_iofunc.proofs.store.Store.mkdir.Goals as goal

abbrev stored : In-Ok-may_make_directory → Stored
stored c = let t = c.self-inside.inside.0.0 in record { user = t.user.0; inodes = t.inodes.inodes; names = t.names; files = t.files.files; limits = t.limits }

fits : (c : In-Ok-may_make_directory) → StoreFits (stored c)
fits c = rw (← c.self-inside.view_is) at c.self.invariant

makes : (c : In-Ok-may_make_directory) → MakesDirectory (stored c).inodes c.in-Ok.at.parent c.in-Ok.at.inode c.in-Ok-may_make_directory.new
makes c = makes_directory (stored c).inodes (stored c).user c.in-Ok.at.parent c.in-Ok.at.inode c.in-Ok-may_make_directory.new (sym c.in-Ok-may_make_directory.ensures.may)

fresh : (c : In-Ok-may_make_directory) → HasNoPath (stored c).names c.in-Ok-may_make_directory.new.inode × (row_at (stored c).files c.in-Ok-may_make_directory.new.inode ≡ None)
fresh c = number_fresh (stored c) c.in-Ok-may_make_directory.new.inode (makes c).number_is (fits c)

pub make-requires-clause-missing : goal.make-requires-clause-missing
make-requires-clause-missing c =
    let t = c.self-inside.inside.0.0 in
    sym (at_spot t.inodes.inodes t.names t.user.0 c.args.root c.args.rest.now EEXIST (spot_of t.names c.in-Ok.at) c.in-Ok.ensures.spot) ∙ (makes (goal.at.make-requires-clause-missing c).In-Ok-may_make_directory).missing

pub make-requires-clause-unnamed : goal.make-requires-clause-unnamed
make-requires-clause-unnamed c = (fresh (goal.at.make-requires-clause-unnamed c).In-Ok-may_make_directory).0

pub make-requires-clause-empty : goal.make-requires-clause-empty
make-requires-clause-empty c = (fresh (goal.at.make-requires-clause-empty c).In-Ok-may_make_directory).1

pub invariant_of-self-2 : goal.invariant_of-self-2
invariant_of-self-2 c =
    let at = (goal.at.invariant_of-self-2 c).In-Ok-may_make_directory in
    let new = c.in-Ok-may_make_directory.new in
    rw (c.in_ok-make.ensures.ok, c.in_ok-reserve.ensures.ok)
    (made_fits (stored at) (spot_of (stored at).names c.in-Ok.at) new.inode new.parent Directory c.args.mode c.args.moment (makes at).number_is (makes at).parent_is (fits at))
