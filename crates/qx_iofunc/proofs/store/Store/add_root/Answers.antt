use Rattle.std.proofs.Common.{◌≡◌, Ok, ap}
use Rattle.qx_attr.specs.Counts.{Reserved}
use Rattle.qx_iofunc.proofs.StoreLemmas.{StoreFits, made_from, number_fresh, root_fits}
use Rattle.qx_iofunc.specs.Store.{Stored}
use Rattle.qx_machine.specs.Inodes.{inode_number}
use Rattle.qx_iofunc.proofs.store.Store.add_root.Goals as goal

pub add_root-requires : goal.add_root-requires
add_root-requires c =
    let t = c.self-inside.inside.0.0 in
    let s : Stored = record { user = t.user.0; inodes = t.inodes.inodes; names = t.names; files = t.files.files; limits = t.limits } in
    let fits : StoreFits s = rw (← c.self-inside.view_is) at c.self.invariant in
    let next : inode_number s.inodes ≡ Ok c.args.root = rw (← c.self.view_is, ← c.self-inside.view_is) at c.requires.next in
    record { new = (number_fresh s c.args.root next fits).0 }

pub invariant_of-self-2 : goal.invariant_of-self-2
invariant_of-self-2 c =
    let t = c.self-inside.inside.0.0 in
    let s : Stored = record { user = t.user.0; inodes = t.inodes.inodes; names = t.names; files = t.files.files; limits = t.limits } in
    let fits : StoreFits s = rw (← c.self-inside.view_is) at c.self.invariant in
    let next : inode_number s.inodes ≡ Ok c.args.root = rw (← c.self.view_is, ← c.self-inside.view_is) at c.requires.next in
    let reserved : c.reserve.new.self.inodes ≡ s.inodes = ap (λ (r : Reserved). r.inodes) c.in_ok-reserve.ensures.ok in
    let made = made_from s.inodes c.reserve.new.self.inodes c.add_inode.new.self.inodes c.root_attribute.result c.args.root reserved next c.add_inode.ensures.made in
    rw (made, c.root_attribute.ensures, c.in_ok-add_root.ensures.ok) (root_fits c.args.root s next fits)
