use Rattle.std.proofs.Common.{◌≡◌, ℕ, Bool, List, Option, None, Some, IfSome, sym, ◌∙◌, ap}
use Rattle.qx_machine.specs.Names as machine
use Rattle.qx_names.specs.Paths.{HasPath, path_of}
use Rattle.qx_names.specs.inner.Shows.{Shows}
use Rattle.std.specs.FinMap as map
use Rattle.qx_names.proofs.PathLemmas.{is_named, path_is}
use Rattle.qx_names.proofs.ShowsLemmas.{entry_under, names_shown}
use Rattle.qx_names.proofs.names.Names.entry.Goals as goal

pub returns-clause-entry : goal.returns-clause-entry
returns-clause-entry c =
    c.entry.ensures.entry ∙ ap (λ f. f) (rw (← c.self.view_is) (sym (entry_under _ _ _ (names_shown _ _ c.self.inside.kept) _ c.args.directory c.args.name.now (rw (← c.self.view_is) at c.requires.directory))))

named : (root : ℕ → Bool) (entry : ℕ → List ℕ → Option ℕ) (names : machine.Names) → Shows root entry names → (key : machine.Key) (x : Option ℕ) → map.get names key ≡ x → IfSome x (λ inode. path_of names inode ≡ key)
named root entry names s key None e = tt
named root entry names s key (Some inode) e = path_is root entry names s key inode e

led : (names : machine.Names) (key : machine.Key) (x : Option ℕ) → map.get names key ≡ x → IfSome x (λ inode. HasPath names inode)
led names key None e = tt
led names key (Some inode) e = is_named names key inode e

pub returns-clause-named : goal.returns-clause-named
returns-clause-named c = led _ _ c.entry.result (sym (returns-clause-entry c))

pub returns-clause-path : goal.returns-clause-path
returns-clause-path c =
    rw (← c.self.view_is) (named _ _ _ (names_shown _ _ c.self.inside.kept) _ c.entry.result (sym (rw (← c.self.view_is) at (returns-clause-entry c))))
