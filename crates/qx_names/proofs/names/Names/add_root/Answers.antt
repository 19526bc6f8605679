use Rattle.std.proofs.Common.{[], ◌∷◌, ◌++◌, ap, subst, sym, ◌∙◌}
use Rattle.std.proofs.lemmas.Result.{err_from_is_err_and}
use Rattle.qx_names.specs.inner.Folders.{entry_at}
use Rattle.qx_names.specs.inner.Shows.{Shows, is_root}
use Rattle.qx_names.proofs.NamesLemmas.{root_shows, rooted_once, shows_now}
use Rattle.qx_names.proofs.ShowsLemmas.{names_are}
use Rattle.qx_names.proofs.names.Names.add_root.Goals as goal

pub invariant_of-self-inside : goal.invariant_of-self-inside
invariant_of-self-inside c =
    ((_, subst (λ roots. Shows (is_root roots) (entry_at c.self.inside.folders) c.args.self.now) (sym c.reserve.ensures.items) (shows_now c.self.inside.roots.items c.self.inside.folders c.self.inside.kept c.args.self.now c.self.view_is)), tt)

pub returns-in_err-reserve-clause-err : goal.returns-in_err-reserve-clause-err
returns-in_err-reserve-clause-err c =
    let p = err_from_is_err_and c.from_residual.result c.from_residual.ensures.1 in
    rw p.1 (names_are _ _ _ _ (subst (λ roots. Shows (is_root roots) (entry_at c.self.inside.folders) c.args.self.now) (sym c.reserve.ensures.items) (shows_now c.self.inside.roots.items c.self.inside.folders c.self.inside.kept c.args.self.now c.self.view_is)))

pub invariant_of-self-inside-2 : goal.invariant_of-self-inside-2
invariant_of-self-inside-2 c =
    ((_, root_shows c.self.inside.roots.items c.self.inside.folders c.self.inside.kept c.args.self.now c.self.view_is c.push_reserved.new.self.items c.args.root (c.push_reserved.ensures.items ∙ ap (◌++ c.args.root ∷ []) c.reserve.ensures.items) c.requires.new), tt)

pub invariant_of-self-2 : goal.invariant_of-self-2
invariant_of-self-2 c =
    record {
      distinct = rooted_once c.self.inside.roots.items c.self.inside.folders c.self.inside.kept c.args.self.now c.self.view_is c.push_reserved.new.self.items c.args.root (c.push_reserved.ensures.items ∙ ap (◌++ c.args.root ∷ []) c.reserve.ensures.items) c.requires.new c.self.invariant.distinct;
    }

pub returns-clause-ok : goal.returns-clause-ok
returns-clause-ok c =
    names_are _ _ _ _ (root_shows c.self.inside.roots.items c.self.inside.folders c.self.inside.kept c.args.self.now c.self.view_is c.push_reserved.new.self.items c.args.root (c.push_reserved.ensures.items ∙ ap (◌++ c.args.root ∷ []) c.reserve.ensures.items) c.requires.new)
