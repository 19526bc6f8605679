use Rattle.std.proofs.Common.{◌≡◌, None, Some, ap, arith, slice_set, sym, ◌∙◌}
use Rattle.std.specs.List.{sum_by}
use Rattle.std.specs.Prelude.{option_map}
use Rattle.qx_machine.specs.Files.{size_of}
use Rattle.qx_isolation.specs.Rows.{row_at}
use Rattle.qx_isolation.proofs.Places.{set-row_at}
use Rattle.qx_files.specs.Blocks.{Held}
use Rattle.qx_files.specs.Files.{without}
use Rattle.qx_files.specs.inner.Kept.{files_of, kept_of}
use Rattle.qx_files.proofs.KeptLemmas.{file-row, files-freed, kept-freed}
use Rattle.qx_files.proofs.SizeLemmas.{size_within, total_set}
use Rattle.qx_files.proofs.files.Files.remove.Goals as goal

pub overflow_sub-self : goal.overflow_sub-self
overflow_sub-self c =
    let contents = c.self.inside.contents in
    let is : row_at (files_of contents) c.args.inode ≡ Some c.in-Some.data.now.bytes = file-row contents c.args.inode ∙ ap (option_map (λ (held : Held). held.bytes)) (sym c.in-Some.ensures.bytes) in
    let le = size_within (files_of contents) c.args.inode c.in-Some.data.now.bytes is in
    omega (arith, le, c.len.ensures, c.self.invariant.summed)

pub invariant_of-self : goal.invariant_of-self
invariant_of-self c =
    let contents = c.self.inside.contents in
    let is : row_at (files_of contents) c.args.inode ≡ Some c.in-Some.data.now.bytes = file-row contents c.args.inode ∙ ap (option_map (λ (held : Held). held.bytes)) (sym c.in-Some.ensures.bytes) in
    let set = total_set (files_of contents) c.args.inode c.in-Some.data.now.bytes None is in
    let now : sum_by size_of (files_of c.remove.new.self) ≡ sum_by size_of (slice_set (files_of contents) c.args.inode None) = ap (λ contents. sum_by size_of (files_of contents)) c.remove.ensures.removed ∙ ap (sum_by size_of) (files-freed contents c.args.inode) in
    record { summed = omega (arith, set, now, c.len.ensures, c.self.invariant.summed); few = omega (arith, c.self.invariant.few) }

pub returns-in-Some : goal.returns-in-Some
returns-in-Some c = ap kept_of c.remove.ensures.removed ∙ (kept-freed c.self.inside.contents c.args.inode ∙ ap (without c.args.inode) c.self.view_is)

pub returns-in_default : goal.returns-in_default
returns-in_default c =
    let contents = c.self.inside.contents in
    let none : row_at contents c.args.inode ≡ None = sym c.in_default.ensures.bytes in
    let same : slice_set contents c.args.inode None ≡ contents = ap (slice_set contents c.args.inode) (sym none) ∙ set-row_at contents c.args.inode in
    sym c.self.view_is ∙ (ap kept_of (sym same) ∙ (kept-freed contents c.args.inode ∙ ap (without c.args.inode) c.self.view_is))
