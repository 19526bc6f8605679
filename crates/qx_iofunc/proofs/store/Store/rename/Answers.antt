use Rattle.std.proofs.Common.{◌≡◌, [], Err, Ok, Result, ap, refl, rules, subst, sym, ◌∙◌}
use Rattle.std.specs.Prelude.{⊤}
use Rattle.qx_isolation.specs.Judgements.{◌>>=◌}
use Rattle.qx_base.specs.declared.errno.Errno.{Errno}
use Rattle.qx_base.specs.declared.errno.Errno.TheVariants.{EBUSY}
use Rattle.qx_machine.specs.declared.rows.Effect.TheVariants.{Keeps}
use Rattle.qx_machine.specs.Functions.{reply_alone}
use Rattle.qx_machine.specs.Names as of_names
use Rattle.qx_machine.specs.Names.{under}
use Rattle.qx_names.specs.Paths.{path_of}
use Rattle.qx_names.specs.Spots.{spot_of}
use Rattle.qx_iofunc.proofs.OpenLemmas.{at_spot, writable_row}
use Rattle.qx_iofunc.proofs.RenameLemmas.{IsJudged, are_short, both_fit, free_user, moved_fits, renamed, renamed_is, renamed_now, replaceable, replaceable_kept, there_set}
use Rattle.qx_iofunc.proofs.StoreLemmas.{StoreFits}
use Rattle.qx_iofunc.specs.declared.store.Store.TheInside.{Inside}
use Rattle.qx_iofunc.specs.Store.{Store, Stored, with_stored}
use Rattle.qx_iofunc.specs.inner.Store.{both_changed, name_free}
use Rattle.qx_iofunc.proofs.store.Store.rename.Goals as goal

pub is_below-requires-clause-there : goal.is_below-requires-clause-there
is_below-requires-clause-there c =
    let t = c.self-inside.inside.0.0 in
    sym (at_spot t.inodes.inodes t.names t.user.0 c.args.root c.args.from.now EBUSY (spot_of t.names c.in_ok-old.old) c.in_ok-old.ensures.spot) ∙ c.in-Some.is

pub free_name-requires-clause-there : goal.free_name-requires-clause-there
free_name-requires-clause-there c =
    let t = c.self-inside.inside.0.0 in
    sym (at_spot t.inodes.inodes t.names t.user.0 c.args.root c.args.from.now EBUSY (spot_of t.names c.in_ok-old.old) c.in_ok-old.ensures.spot) ∙ c.in-Some.is

pub free_name-requires-clause-leads : goal.free_name-requires-clause-leads
free_name-requires-clause-leads c =
    let t = c.self-inside.inside.0.0 in
    at_spot t.inodes.inodes t.names t.user.0 c.args.root c.args.to.now EBUSY (spot_of t.names c.in_ok-new.new) c.in_ok-new.ensures.spot

pub set_attribute-requires-2 : goal.set_attribute-requires-2
set_attribute-requires-2 c =
    let t = c.self-inside.inside.0.0 in
    let parent = writable_row t.inodes.inodes t.user.0 c.in_ok-old.old.parent c.in_ok-parent.parent (sym c.in_ok-parent.ensures.writable) in
    let other = writable_row t.inodes.inodes t.user.0 c.in_ok-new.new.parent c.in_ok-other.other (sym c.in_ok-other.ensures.writable) in
    record { there = rw c.set_attribute.ensures.set (there_set t.inodes.inodes.attributes c.in_ok-old.old.parent c.changed.result (rw parent refl) c.in_ok-new.new.parent (rw other refl)) }

pub free_name-requires-clause-replaceable : goal.free_name-requires-clause-replaceable
free_name-requires-clause-replaceable c =
    let t = c.self-inside.inside.0.0 in
    let s : Stored = record { user = t.user.0; inodes = t.inodes.inodes; names = t.names; files = t.files.files; limits = t.limits } in
    let parent = writable_row s.inodes s.user c.in_ok-old.old.parent c.in_ok-parent.parent (sym c.in_ok-parent.ensures.writable) in
    let other = writable_row s.inodes s.user c.in_ok-new.new.parent c.in_ok-other.other (sym c.in_ok-other.ensures.writable) in
    rw (c.set_attribute-2.ensures.set, c.set_attribute.ensures.set, c.changed-2.ensures, c.changed.ensures)
    (replaceable_kept s c.in_ok-old.old.parent c.in_ok-new.new.parent c.in_ok-parent.parent c.in_ok-other.other c.args.moment parent other c.in_ok-new.new.inode
    (replaceable c.in-Some-attr.attr.now.attribute.kind s.inodes s.names c.in_ok-new.new.inode (sym c.in_ok-may_replace.ensures.may)))

pub rename-requires-clause-short : goal.rename-requires-clause-short
rename-requires-clause-short c = c.in_ok-new.ensures.short (are_short c.args.to.now c.requires.good)

pub invariant_of-self : goal.invariant_of-self
invariant_of-self c =
    let t = c.self-inside.inside.0.0 in
    let s : Stored = record { user = t.user.0; inodes = t.inodes.inodes; names = t.names; files = t.files.files; limits = t.limits } in
    let u = c.self-inside-2.inside.0.0 in
    let free : Stored = record { user = u.user.0; inodes = u.inodes.inodes; names = u.names; files = u.files.files; limits = u.limits } in
    let fits : StoreFits s = rw (← c.self-inside.view_is) at c.self.invariant in
    let parent = writable_row s.inodes s.user c.in_ok-old.old.parent c.in_ok-parent.parent (sym c.in_ok-parent.ensures.writable) in
    let other = writable_row s.inodes s.user c.in_ok-new.new.parent c.in_ok-other.other (sym c.in_ok-other.ensures.writable) in
    let seen : free ≡ c.free_name.new.self.stored = ap (λ (inside : Inside). inside.tables.stored) c.self-inside-2.view_is in
    let now : StoreFits free = subst StoreFits (sym seen) (c.free_name.ensures.fits
    (rw (c.set_attribute-2.ensures.set, c.set_attribute.ensures.set, c.changed-2.ensures, c.changed.ensures) (both_fit s c.in_ok-old.old.parent c.in_ok-new.new.parent c.in_ok-parent.parent c.in_ok-other.other c.args.moment parent other fits))) in
    rw c.rename.ensures.moved (moved_fits free (under (path_of u.names c.in_ok-old.old.parent) c.in_ok-old.old.name.now) (under (path_of u.names c.in_ok-new.new.parent) c.in_ok-new.new.name.now) now)

pub returns-clause-user : goal.returns-clause-user
returns-clause-user c =
    let t = c.self-inside.inside.0.0 in
    let was : t.user.0 ≡ c.args.self.now.stored.user = ap (λ (inside : Inside). inside.tables.stored.user) c.self-inside.view_is ∙ ap (λ (store : Store). store.stored.user) c.self.view_is in
    let seen = ap (λ (inside : Inside). inside.tables.stored.user) c.self-inside-2.view_is in
    seen ∙ (ap (λ (s : Stored). s.user) c.free_name.ensures.freed ∙ (free_user _ _ c.args.moment c.in_ok-new.new.inode ∙ was))

pub returns-in_err-may_replace-clause-renamed : goal.returns-in_err-may_replace-clause-renamed
returns-in_err-may_replace-clause-renamed c = λ r.
    let t = c.self-inside.inside.0.0 in
    let s : Stored = record { user = t.user.0; inodes = t.inodes.inodes; names = t.names; files = t.files.files; limits = t.limits } in
    let old : of_names.Spot = spot_of s.names c.in_ok-old.old in
    let new : of_names.Spot = spot_of s.names c.in_ok-new.new in
    let parent = writable_row s.inodes s.user old.parent c.in_ok-parent.parent (sym c.in_ok-parent.ensures.writable) in
    let other = writable_row s.inodes s.user new.parent c.in_ok-other.other (sym c.in_ok-other.ensures.writable) in
    let is : IsJudged s c.args.root c.args.from.now c.args.to.now old new c.in-Some.inode c.in_ok-parent.parent c.in_ok-other.other c.in-Some-attr.attr.now.attribute = record {
      named = rw (← c.if-is_root.ensures, ← c.if-is_root-2.ensures) refl;
      old_is = sym c.in_ok-old.ensures.spot;
      there = c.in-Some.is;
      new_is = sym c.in_ok-new.ensures.spot;
      parent_is = sym c.in_ok-parent.ensures.writable;
      other_is = sym c.in_ok-other.ensures.writable;
      parent_row = parent;
      other_row = other;
      apart = sym c.if-is_same.ensures;
      attribute_is = sym c.in-Some-attr.ensures.attribute;
      outside = sym c.if-is_below.ensures;
    } in
    let was : s ≡ c.args.self.now.stored = ap (λ (inside : Inside). inside.tables.stored) c.self-inside.view_is ∙ ap (λ (store : Store). store.stored) c.self.view_is in
    let given = renamed_is r s c.args.root c.args.from.now c.args.to.now c.args.moment old new c.in-Some.inode c.in_ok-parent.parent c.in_ok-other.other c.in-Some-attr.attr.now.attribute is in
    let failed : c.from_residual-in_err-may_replace.result ≡ Err c.in_err-may_replace.field-0.0 = search rules in
    rw (← was, failed) (sym (given ∙ ap (λ (judged : Result ⊤ Errno). judged >>= (λ _. Ok (reply_alone 0 [] Keeps (with_stored r (renamed old new c.in_ok-parent.parent c.in_ok-other.other c.args.moment s))))) (sym c.in_err-may_replace.ensures.may)))

pub returns-clause-renamed : goal.returns-clause-renamed
returns-clause-renamed c = λ r.
    let t = c.self-inside.inside.0.0 in
    let s : Stored = record { user = t.user.0; inodes = t.inodes.inodes; names = t.names; files = t.files.files; limits = t.limits } in
    let u = c.self-inside-2.inside.0.0 in
    let free : Stored = record { user = u.user.0; inodes = u.inodes.inodes; names = u.names; files = u.files.files; limits = u.limits } in
    let old : of_names.Spot = spot_of s.names c.in_ok-old.old in
    let new : of_names.Spot = spot_of s.names c.in_ok-new.new in
    let parent = writable_row s.inodes s.user old.parent c.in_ok-parent.parent (sym c.in_ok-parent.ensures.writable) in
    let other = writable_row s.inodes s.user new.parent c.in_ok-other.other (sym c.in_ok-other.ensures.writable) in
    let is : IsJudged s c.args.root c.args.from.now c.args.to.now old new c.in-Some.inode c.in_ok-parent.parent c.in_ok-other.other c.in-Some-attr.attr.now.attribute = record {
      named = rw (← c.if-is_root.ensures, ← c.if-is_root-2.ensures) refl;
      old_is = sym c.in_ok-old.ensures.spot;
      there = c.in-Some.is;
      new_is = sym c.in_ok-new.ensures.spot;
      parent_is = sym c.in_ok-parent.ensures.writable;
      other_is = sym c.in_ok-other.ensures.writable;
      parent_row = parent;
      other_row = other;
      apart = sym c.if-is_same.ensures;
      attribute_is = sym c.in-Some-attr.ensures.attribute;
      outside = sym c.if-is_below.ensures;
    } in
    let was : s ≡ c.args.self.now.stored = ap (λ (inside : Inside). inside.tables.stored) c.self-inside.view_is ∙ ap (λ (store : Store). store.stored) c.self.view_is in
    let given = renamed_is r s c.args.root c.args.from.now c.args.to.now c.args.moment old new c.in-Some.inode c.in_ok-parent.parent c.in_ok-other.other c.in-Some-attr.attr.now.attribute is in
    let seen : free ≡ c.free_name.new.self.stored = ap (λ (inside : Inside). inside.tables.stored) c.self-inside-2.view_is in
    let freed : free ≡ name_free new.key new.inode c.args.moment (both_changed old.parent c.in_ok-parent.parent new.parent c.in_ok-other.other c.args.moment s) =
    seen ∙ rw (c.set_attribute-2.ensures.set, c.set_attribute.ensures.set, c.changed-2.ensures, c.changed.ensures) at c.free_name.ensures.freed in
    let names_seen : free.names ≡ c.free_name.new.self.stored.names = ap (λ (now : Stored). now.names) seen in
    let left = renamed_now old new c.in_ok-parent.parent c.in_ok-other.other c.args.moment s free _ _ c.rename.new.self freed (rw (← names_seen) at c.free_name.ensures.moves.from) (rw (← names_seen) at c.free_name.ensures.moves.to) c.rename.ensures.moved in
    rw (← was) (sym (given ∙ ap (λ (judged : Result ⊤ Errno). judged >>= (λ _. Ok (reply_alone 0 [] Keeps (with_stored r (renamed old new c.in_ok-parent.parent c.in_ok-other.other c.args.moment s))))) (sym c.in_ok-may_replace.ensures.may)
    ∙ ap (λ (after : Stored). Ok (reply_alone 0 [] Keeps (with_stored r after))) (sym left)))
