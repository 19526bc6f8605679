use Rattle.std.proofs.Common.{◌≡◌, Some, ap, subst, sym, ◌∙◌}
use Rattle.qx_machine.specs.Names.{Key, under}
use Rattle.qx_names.specs.Paths.{path_of}
use Rattle.qx_iofunc.proofs.RenameLemmas.{can_move, free_fits, free_names}
use Rattle.qx_iofunc.proofs.StoreLemmas.{StoreFits}
use Rattle.qx_iofunc.specs.Store.{Store, Stored}
use Rattle.qx_iofunc.specs.inner.Store.{IsReplaceable, name_free, row_taken}
use Rattle.qx_iofunc.proofs.tables.Tables.free_name.Goals as goal

pub returns-clause-moves : goal.returns-clause-moves
returns-clause-moves c =
    let s : Stored = c.args.self.now.stored in
    let there = c.in-Some.there in
    let key : Key = under (path_of s.names c.args.new.parent) c.args.new.name.now in
    let empty : IsReplaceable s.inodes s.names (Some there) = rw c.in-Some.is at c.requires.replaceable in
    let freed : c.take_name.new.self.stored ≡ name_free key (Some there) c.args.moment s = c.take_name.ensures.taken ∙ ap (row_taken key there c.args.moment s) (rw (ap (λ (store : Store). store.stored.inodes) c.self.view_is) at c.in-Some-attr.ensures.attribute) in
    can_move s.names c.args.old.now c.args.new c.args.inode (Some there) c.requires.directory c.requires.target c.requires.there (sym c.in-Some.is ∙ c.requires.leads) c.requires.differ s.inodes empty c.take_name.new.self.stored.names
    (ap (λ (s : Stored). s.names) freed ∙ free_names s key c.args.moment (Some there) empty) c.take_name.ensures.others

pub returns-clause-fits : goal.returns-clause-fits
returns-clause-fits c = λ fits.
    let s : Stored = c.args.self.now.stored in
    let there = c.in-Some.there in
    let key : Key = under (path_of s.names c.args.new.parent) c.args.new.name.now in
    let empty : IsReplaceable s.inodes s.names (Some there) = rw c.in-Some.is at c.requires.replaceable in
    let freed : c.take_name.new.self.stored ≡ name_free key (Some there) c.args.moment s = c.take_name.ensures.taken ∙ ap (row_taken key there c.args.moment s) (rw (ap (λ (store : Store). store.stored.inodes) c.self.view_is) at c.in-Some-attr.ensures.attribute) in
    subst StoreFits (sym freed) (free_fits s key c.args.moment (Some there) empty c.take_name.ensures.unnamed fits)
