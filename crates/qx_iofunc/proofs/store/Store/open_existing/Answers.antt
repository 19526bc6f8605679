use Rattle.std.proofs.Common.{◌≡◌, ◌∙◌, Ok, false, ap, refl, subst, sym}
use Rattle.std.specs.Option.{IsSome}
use Rattle.qx_attr.specs.Counts.{Reserved, with_number}
use Rattle.qx_iofunc.proofs.StoreLemmas.{StoreFits, emptied_fits, emptied_in, emptied_number, emptied_there}
use Rattle.qx_iofunc.proofs.OpenLemmas.{existing_done, may_open_is, opened_fits}
use Rattle.qx_iofunc.specs.declared.store.Store.TheInside.{Inside}
use Rattle.qx_iofunc.specs.Store.{Store, Stored, with_stored}
use Rattle.qx_iofunc.specs.inner.Store.{with_truncated}
use Rattle.qx_iofunc.specs.Given as given
use Rattle.qx_machine.specs.declared.rows.NewOpen.{NewOpen}
use Rattle.qx_machine.specs.Defaults.{open_existing}
use Rattle.qx_machine.specs.Inodes.{block_number, open_block}
use Rattle.qx_isolation.specs.Rows.{row_at}
use Rattle.qx_iofunc.proofs.store.Store.open_existing.Goals as goal
use Rattle.qx_iofunc.proofs.store.Store.open_existing.Goals.{Joined-contains, then-contains+then-contains-2, else-contains, else-contains-via-then-contains+else-contains-2, else-contains-via-else-contains}

emptied : (c : Joined-contains) → c.if-contains.self-inside.tables.stored ≡ emptied_in c.args.wish.flags c.args.inode c.args.wish.moment c.args.self.now.stored
emptied c =
    let inside = c.self-inside.inside.0.0 in
    let reserved = ap (λ (reserve : Reserved). record { user = inside.user.0; inodes = reserve.inodes; names = inside.names; files = inside.files.files; limits = inside.limits }) c.in_ok-reserve.ensures.ok
    ∙ (ap (λ (inside : Inside). inside.tables.stored) c.self-inside.view_is ∙ ap (λ (store : Store). store.stored) c.self.view_is) in
    let truncates = sym (c.contains.ensures tt) in
    elim c.if-contains.branch [
      | then-contains+then-contains-2 w ↦
          ap (λ (inside : Inside). inside.tables.stored) w.self-inside-is
          ∙ (ap (λ (store : Store). store.stored) w.truncate.ensures
          ∙ (ap (with_truncated c.args.inode c.args.wish.moment) reserved ∙ rw (truncates ∙ w.if-contains.true, sym (w.contains-then-contains.ensures tt) ∙ w.if-contains-2.true) refl))
      | else-contains w ↦
          let kept = ap (λ (inside : Inside). inside.tables.stored) w.self-inside-is ∙ reserved in
          elim w.else-contains.branch [
            | else-contains-via-then-contains+else-contains-2 other ↦ kept ∙ rw (truncates ∙ other.if-contains.true, sym (other.contains-then-contains.ensures tt) ∙ other.if-contains-2.false) refl
            | else-contains-via-else-contains other ↦ kept ∙ rw (truncates ∙ other.if-contains.false) refl
          ]
    ]

-- and it may still be opened
opens : (c : Joined-contains) → IsSome (row_at c.if-contains.self-inside.tables.stored.inodes.attributes c.args.inode) × (block_number c.if-contains.self-inside.tables.stored.inodes ≡ Ok c.args.block)
opens c =
    let stored = c.args.self.now.stored in
    let wish = c.args.wish in
    let may = may_open_is stored.inodes stored.user c.args.inode wish.flags c.args.block c.requires.judged in
    subst (λ (s : Stored). IsSome (row_at s.inodes.attributes c.args.inode) × (block_number s.inodes ≡ Ok c.args.block)) (sym (emptied c))
    (emptied_there wish.flags c.args.inode wish.moment stored may.0, emptied_number wish.flags c.args.inode wish.moment stored c.args.block may.1)

pub add_block-requires-clause-there : goal.add_block-requires-clause-there
add_block-requires-clause-there c = rw (← c.self-inside-2.view_is) at (opens (goal.at.add_block-requires-clause-there c).Joined-contains).0

pub add_block-requires-clause-number : goal.add_block-requires-clause-number
add_block-requires-clause-number c = rw (← c.self-inside-2.view_is) at (opens (goal.at.add_block-requires-clause-number c).Joined-contains).1

pub invariant_of-self-2 : goal.invariant_of-self-2
invariant_of-self-2 c =
    let inside = c.self-inside-2.inside.0.0 in
    let before = subst (λ (store : Store). StoreFits store.stored) c.self.view_is c.self.invariant in
    let fits = subst StoreFits (sym (emptied (goal.at.invariant_of-self-2 c).Joined-contains)) (emptied_fits c.args.wish.flags c.args.inode c.args.wish.moment c.args.self.now.stored before) in
    opened_fits inside.inodes.inodes c.add_block.new.self.inodes c.args.inode c.args.block c.args.wish.flags c.args.client c.add_block.ensures.opened inside.names inside.files.files (rw (← c.self-inside-2.view_is) at fits)

pub returns-clause-opened : goal.returns-clause-opened
returns-clause-opened c = λ r coid root own.
    let over : NewOpen = record { coid = coid; client = c.args.client; root = root } in
    let wish = c.args.wish in
    let inode = c.args.inode in
    let stored = c.args.self.now.stored in
    let number = c.args.block in
    let now = c.add_block.new.self.inodes in
    let after = ap (λ (inside : Inside). inside.tables.stored) c.self-inside-2.view_is ∙ emptied (goal.at.returns-clause-opened c).Joined-contains in
    let opened = subst (λ (stored : Stored). with_number now (Ok number) ≡ open_block stored.inodes inode wish.flags c.args.client) after c.add_block.ensures.opened in
    subst (λ (after : Stored). open_existing (with_stored r stored) over inode wish ≡ Ok (given.open_given coid own (record { number = number; inode = inode; is_new = false }) (with_stored r (record after { inodes = now })))) (sym after)
    (existing_done stored now number inode over wish c.requires.judged opened r own)
