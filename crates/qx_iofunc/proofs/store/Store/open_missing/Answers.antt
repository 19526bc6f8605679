use Rattle.std.proofs.Common.{◌≡◌, ◌∙◌, None, Ok, true, ap, subst, sym}
use Rattle.std.specs.Prelude.{IsSome}
use Rattle.qx_attr.specs.Counts.{Reserved, with_number}
use Rattle.qx_iofunc.proofs.OpenLemmas.{Makes, missing_done, missing_makes, opened_fits}
use Rattle.qx_iofunc.proofs.StoreLemmas.{StoreFits, made_fits, made_there, number_fresh}
use Rattle.qx_iofunc.specs.declared.store.Store.TheInside.{Inside}
use Rattle.qx_iofunc.specs.Given as given
use Rattle.qx_iofunc.specs.Makes.{may_make}
use Rattle.qx_iofunc.specs.Store.{Store, Stored, with_stored}
use Rattle.qx_iofunc.specs.inner.Store.{with_made}
use Rattle.qx_machine.specs.declared.rows.NewOpen.{NewOpen}
use Rattle.qx_machine.specs.Defaults.{open_missing}
use Rattle.qx_machine.specs.Inodes.{open_block}
use Rattle.qx_isolation.specs.Rows.{row_at}
use Rattle.qx_names.specs.Paths.{HasNoPath}
use Rattle.qx_names.specs.Spots.{spot_of}
use Rattle.qx_iofunc.proofs.store.Store.open_missing.Goals.{In_ok-make, In_ok-reserve}
use Rattle.qx_iofunc.proofs.store.Store.open_missing.Goals as goal

abbrev stored : In_ok-reserve → Stored
stored c = let t = c.self-inside.inside.0.0 in record { user = t.user.0; inodes = t.inodes.inodes; names = t.names; files = t.files.files; limits = t.limits }

fits : (c : In_ok-reserve) → StoreFits (stored c)
fits c = rw (← c.self-inside.view_is) at c.self.invariant

judged : (c : In_ok-reserve) → may_make (stored c).inodes (stored c).user c.args.at.parent c.args.wish.flags ≡ Ok (c.args.new, c.args.block)
judged c = rw (← c.self.view_is, ← c.self-inside.view_is) at c.requires.judged

makes : (c : In_ok-reserve) → Makes (stored c).inodes (stored c).user c.args.at.parent c.args.wish.flags c.args.new c.args.block
makes c = missing_makes (stored c).inodes (stored c).user c.args.at.parent c.args.new c.args.block c.args.wish.flags (judged c)

fresh : (c : In_ok-reserve) → HasNoPath (stored c).names c.args.new.inode × (row_at (stored c).files c.args.new.inode ≡ None)
fresh c = number_fresh (stored c) c.args.new.inode (makes c).number_is (fits c)

pub make-requires-clause-unnamed : goal.make-requires-clause-unnamed
make-requires-clause-unnamed c = (fresh (goal.at.make-requires-clause-unnamed c).In_ok-reserve).0

pub make-requires-clause-empty : goal.make-requires-clause-empty
make-requires-clause-empty c = (fresh (goal.at.make-requires-clause-empty c).In_ok-reserve).1

-- what there is once it is made
made : (c : In_ok-make) → let t = c.self-inside.inside.0.0 in
    c.make.new.self.stored ≡ with_made (spot_of t.names c.args.at) c.args.new.inode c.args.new.parent c.args.own c.args.wish.mode c.args.wish.moment (record { user = t.user.0; inodes = t.inodes.inodes; names = t.names; files = t.files.files; limits = t.limits })
made c =
    let t = c.self-inside.inside.0.0 in
    let wish = c.args.wish in
    ap (λ (store : Store). store.stored) c.in_ok-make.ensures.ok
    ∙ ap (λ (reserve : Reserved). with_made (spot_of t.names c.args.at) c.args.new.inode c.args.new.parent c.args.own wish.mode wish.moment (record { user = t.user.0; inodes = reserve.inodes; names = t.names; files = t.files.files; limits = t.limits })) c.in_ok-reserve.ensures.ok

pub add_block-requires-clause-there : goal.add_block-requires-clause-there
add_block-requires-clause-there c =
    let after = ap (λ (inside : Inside). inside.tables.stored) c.self-inside-2.view_is ∙ made (goal.at.add_block-requires-clause-there c).In_ok-make in
    let new = c.args.new in
    let wish = c.args.wish in
    let before = (goal.at.add_block-requires-clause-there c).In_ok-reserve in
    subst (λ (stored : Stored). IsSome (row_at stored.inodes.attributes new.inode)) (sym after)
    (made_there (stored before) (spot_of (stored before).names c.args.at) new.inode new.parent c.args.own wish.mode wish.moment (makes before).number_is (makes before).parent_is (fits before))

pub invariant_of-self-2 : goal.invariant_of-self-2
invariant_of-self-2 c =
    let after = ap (λ (inside : Inside). inside.tables.stored) c.self-inside-2.view_is ∙ made (goal.at.invariant_of-self-2 c).In_ok-make in
    let inside = c.self-inside-2.inside.0.0 in
    let new = c.args.new in
    let wish = c.args.wish in
    let before = (goal.at.invariant_of-self-2 c).In_ok-reserve in
    let made_fit = made_fits (stored before) (spot_of (stored before).names c.args.at) new.inode new.parent c.args.own wish.mode wish.moment (makes before).number_is (makes before).parent_is (fits before) in
    opened_fits inside.inodes.inodes c.add_block.new.self.inodes new.inode c.args.block wish.flags c.args.client c.add_block.ensures.opened inside.names inside.files.files (subst StoreFits (sym after) made_fit)

pub returns-clause-opened : goal.returns-clause-opened
returns-clause-opened c =
    let before = (goal.at.returns-clause-opened c).In_ok-reserve in
    let after = ap (λ (inside : Inside). inside.tables.stored) c.self-inside-2.view_is ∙ made (goal.at.returns-clause-opened c).In_ok-make in
    let at = spot_of (stored before).names c.args.at in
    let new = c.args.new in
    let wish = c.args.wish in
    let number = c.args.block in
    let now = c.add_block.new.self.inodes in
    let opened = subst (λ (stored : Stored). with_number now (Ok number) ≡ open_block stored.inodes new.inode wish.flags c.args.client) after c.add_block.ensures.opened in
    rw (← c.self.view_is, ← c.self-inside.view_is) (λ r coid root.
    let over : NewOpen = record { coid = coid; client = c.args.client; root = root } in
    subst (λ (after : Stored). open_missing c.args.own (with_stored r (stored before)) over at wish ≡ Ok (given.open_given coid c.args.own (record { number = number; inode = new.inode; is_new = true }) (with_stored r (record after { inodes = now })))) (sym after)
    (missing_done r (stored before) over at c.args.own wish new now number (judged before) opened))
