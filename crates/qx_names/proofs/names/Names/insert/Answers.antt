use Rattle.std.proofs.lemmas.Result.{err_from_is_err_and}
use Rattle.qx_names.proofs.NamesLemmas.{free_entry, insert_shows, put_kept, same_shows}
use Rattle.qx_names.proofs.ShowsLemmas.{names_are}
use Rattle.qx_names.proofs.names.Names.insert.Goals as goal

pub put-requires : goal.put-requires
put-requires c = record { new = free_entry c.self.inside.roots.items c.self.inside.folders c.self.inside.kept c.args.self.now c.self.view_is c.args.directory c.args.name.now c.requires.directory c.requires.free }

pub invariant_of-self-inside : goal.invariant_of-self-inside
invariant_of-self-inside c =
    (put_kept c.self.inside.roots.items c.self.inside.folders c.self.inside.kept c.args.self.now c.self.view_is c.put.result c.put.new.self c.args.directory c.args.name.now c.args.inode c.requires.directory c.requires.free c.requires.new c.put.ensures.ok c.put.ensures.err, tt)

pub returns-in_err-put-clause-err : goal.returns-in_err-put-clause-err
returns-in_err-put-clause-err c =
    let p = err_from_is_err_and c.from_residual.result c.from_residual.ensures.1 in
    rw p.1 (names_are _ _ _ _ (same_shows c.self.inside.roots.items c.self.inside.folders c.self.inside.kept c.args.self.now c.self.view_is c.put.new.self c.in_err-put.ensures.err))

pub returns-clause-ok : goal.returns-clause-ok
returns-clause-ok c =
    names_are _ _ _ _ (insert_shows c.self.inside.roots.items c.self.inside.folders c.self.inside.kept c.args.self.now c.self.view_is c.put.new.self c.args.directory c.args.name.now c.args.inode c.requires.directory c.requires.free c.requires.new c.in_ok-put.ensures.ok)
