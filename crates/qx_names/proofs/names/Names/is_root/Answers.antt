use Rattle.std.proofs.Common.{Some, None, ap, sym, if◌then◌else◌, ◌∙◌}
use Rattle.qx_names.specs.inner.Shows.{is_root}
use Rattle.qx_names.proofs.ShowsLemmas.{root_shown, names_shown}
use Rattle.qx_names.proofs.names.Names.is_root.Goals as goal

pub returns : goal.returns
returns c =
    let found = c.contains.ensures.value ∙ ap (λ roots. is_root roots c.args.inode) c.deref.ensures.value in
    record {
      root = rw (← c.self.view_is) (root_shown _ _ _ (names_shown _ _ c.self.inside.kept) c.args.inode ∙ ap (λ b. if b then Some c.args.inode else None) (sym found));
    }
