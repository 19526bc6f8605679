use Rattle.std.proofs.Common.{◌≡◌, ap}
use Rattle.qx_iofunc.proofs.StoreLemmas.{made_from, number_free, still_there}
use Rattle.qx_iofunc.specs.Store.{Store}
use Rattle.qx_iofunc.proofs.tables.Tables.make.Goals as goal

pub set_attribute-requires : goal.set_attribute-requires
set_attribute-requires c =
    let inodes = c.args.self.now.stored.inodes in
    let new = c.args.new.inode in
    let same : c.self.inside.inodes.inodes ≡ inodes = ap (λ (store : Store). store.stored.inodes) c.self.view_is in
    let now = made_from inodes c.self.inside.inodes.inodes c.add_inode.new.self.inodes c.new_attribute.result new same c.requires.next c.add_inode.ensures.made in
    record { there = rw now (still_there inodes.attributes new c.new_attribute.result (number_free inodes new c.requires.next) c.args.at.parent c.requires.parent) }
