use Rattle.std.proofs.Common.{◌≡◌, None, refl, sym}
use Rattle.qx_machine.specs.Resources.{resized}
use Rattle.qx_isolation.specs.Rows.{row_at}
use Rattle.qx_rows.proofs.RowLemmas.{with_row-none}
use Rattle.qx_iofunc.proofs.tables.Tables.resize.Goals as goal

pub returns-in_default : goal.returns-in_default
returns-in_default c =
    let rows = c.args.self.now.stored.inodes.attributes in
    let none : row_at rows c.args.inode ≡ None = rw (← c.self.view_is) (sym c.in_default.ensures.attribute) in
    rw (with_row-none rows c.args.inode (resized c.args.size c.args.moment) none) refl
