use Rattle.std.proofs.Common.{◌≡◌, ◌∙◌, None, Some, false, true, refl, sym}
use Rattle.qx_iofunc.proofs.PlaceLemmas.{with_row-same}
use Rattle.qx_iofunc.proofs.StoreLemmas.{kept_fits}
use Rattle.qx_iofunc.specs.Fits.{file_size, is_file}
use Rattle.qx_iofunc.specs.Sizes.{sized}
use Rattle.qx_machine.specs.declared.rows.Kind.{Kind}
use Rattle.qx_machine.specs.declared.rows.Kind.TheVariants as kind
use Rattle.qx_machine.specs.Names.{has_calls}
use Rattle.qx_isolation.specs.Rows.{row_at}
use Rattle.qx_rows.proofs.RowLemmas.{with_row-none}
use Rattle.qx_iofunc.proofs.store.Store.set_size.Goals.{then-filled, else-filled}
use Rattle.qx_iofunc.proofs.store.Store.set_size.Goals as goal

calls_no_file : (k : Kind) → has_calls k ≡ true → is_file k ≡ false
calls_no_file kind.Pipe is = refl
calls_no_file (kind.Device device) is = refl
calls_no_file _ is = absurd (cc)

pub returns-in_default : goal.returns-in_default
returns-in_default c =
    let rows = c.args.self.now.stored.inodes.attributes in
    let none : row_at rows c.args.inode ≡ None = rw (← c.self.view_is, ← c.self-inside.view_is) (sym c.in_default.ensures.attribute) in
    record { sized = rw (with_row-none rows c.args.inode (sized c.args.size c.args.filled c.args.moment) none) refl }

pub returns-then-not-has_calls : goal.returns-then-not-has_calls
returns-then-not-has_calls c =
    let rows = c.args.self.now.stored.inodes.attributes in
    let was = c.in-Some.attr.now.attribute in
    let is : row_at rows c.args.inode ≡ Some was = rw (← c.self.view_is, ← c.self-inside.view_is) (sym c.in-Some.ensures.attribute) in
    let other : has_calls was.kind ≡ false = sym c.has_calls.ensures ∙ c.if-not-has_calls.true in
    record { sized = rw (with_row-same rows c.args.inode (sized c.args.size c.args.filled c.args.moment) was is (rw other refl)) refl }

-- what calls may wait in has no bytes of a file
pub invariant_of-self : goal.invariant_of-self
invariant_of-self c =
    let t = c.self-inside.inside.0.0 in
    let was = c.in-Some.attr.now.attribute in
    let now = c.if-filled.attribute in
    let kept : (now.links ≡ was.links) × (now.kind ≡ was.kind) = elim c.if-filled.branch [ then-filled w ↦ rw w.attribute-is (refl, refl) | else-filled w ↦ rw w.attribute-is (refl, refl) ] in
    let pipe : is_file was.kind ≡ false = calls_no_file was.kind (sym c.has_calls.ensures ∙ c.if-not-has_calls.false) in
    let size : file_size (Some now) ≡ file_size (Some was) = rw (kept.1, pipe) refl in
    rw c.set_attribute.ensures.set (kept_fits t.inodes.inodes t.names t.files.files c.args.inode was now (sym c.in-Some.ensures.attribute) kept.0 size (rw (← c.self-inside.view_is) at c.self.invariant))
