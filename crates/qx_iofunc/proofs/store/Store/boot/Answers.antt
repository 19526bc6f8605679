use Rattle.std.proofs.Common.{◌≡◌, ap, ◌∙◌}
use Rattle.qx_attr.specs.Counts.{Reserved}
use Rattle.qx_iofunc.proofs.FitLemmas.{none_named}
use Rattle.qx_iofunc.proofs.StoreLemmas.{boot_fits, first_inode, made_from}
use Rattle.qx_machine.specs.Inodes.{no_inodes, none_of}
use Rattle.qx_iofunc.proofs.store.Store.boot.Goals as goal

pub add_root-requires : goal.add_root-requires
add_root-requires c = record { new = rw c.new-names.ensures.none (none_named 1) }

pub invariant_of-result : goal.invariant_of-result
invariant_of-result c =
    let reserved : c.reserve.new.self.inodes ≡ no_inodes c.args.limits = ap (λ (r : Reserved). r.inodes) c.in_ok-reserve.ensures.ok ∙ ap (λ (r : Reserved). r.inodes) c.in_ok-inodes.ensures.none ∙ (λ i. none_of (c.get-most_inodes.ensures.limit i) (c.get.ensures.limit i)) in
    let made = made_from (no_inodes c.args.limits) c.reserve.new.self.inodes c.add_inode.new.self.inodes c.root_attribute.result 1 reserved (first_inode c.args.limits c.know.ensures.limited) c.add_inode.ensures.made in
    rw (made, c.root_attribute.ensures, c.in_ok-add_root.ensures.ok, c.new-names.ensures.none, c.in_ok-files.ensures.none) (boot_fits c.args.limits c.know.ensures.limited c.args.user.0)
