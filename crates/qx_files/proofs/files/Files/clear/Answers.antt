use Rattle.std.proofs.Common.{◌≡◌, false, true, [], None, Some, subst, ap, arith, slice_set, sym, ◌∙◌}
use Rattle.std.specs.List.{sum_by}
use Rattle.std.specs.Prelude.{IsSome, option_map}
use Rattle.qx_machine.specs.Files.{size_of}
use Rattle.qx_isolation.specs.Rows.{row_at}
use Rattle.qx_files.specs.Blocks.{Held, nothing}
use Rattle.qx_files.specs.Files.{Kept, with_nothing}
use Rattle.qx_files.specs.inner.Kept.{files_of}
use Rattle.qx_files.proofs.KeptLemmas.{file-row, files-put, kept-put}
use Rattle.qx_files.proofs.SizeLemmas.{size_within, total_set}
use Rattle.qx_files.proofs.files.Files.clear.Goals as goal

pub overflow_sub-self : goal.overflow_sub-self
overflow_sub-self c =
    let contents = c.self.inside.contents in
    let is : row_at (files_of contents) c.args.inode ≡ Some c.in-Some.data.now.bytes = file-row contents c.args.inode ∙ ap (option_map (λ (held : Held). held.bytes)) (sym c.in-Some.ensures.bytes) in
    let le = size_within (files_of contents) c.args.inode c.in-Some.data.now.bytes is in
    omega (arith, le, c.len.ensures, c.self.invariant.summed)

pub invariant_of-self : goal.invariant_of-self
invariant_of-self c =
    let contents = c.self.inside.contents in
    let is : row_at (files_of contents) c.args.inode ≡ Some c.in-Some.data.now.bytes = file-row contents c.args.inode ∙ ap (option_map (λ (held : Held). held.bytes)) (sym c.in-Some.ensures.bytes) in
    let set = total_set (files_of contents) c.args.inode c.in-Some.data.now.bytes (Some []) is in
    let now : sum_by size_of (files_of (slice_set contents c.args.inode (Some nothing))) ≡ sum_by size_of (slice_set (files_of contents) c.args.inode (Some [])) = ap (sum_by size_of) (files-put contents c.args.inode) in
    rw c.clear.ensures (record { summed = omega (arith, set, now, c.len.ensures, c.self.invariant.summed); few = omega (arith, c.self.invariant.few) })

pub returns-in-Some : goal.returns-in-Some
returns-in-Some c = rw c.clear.ensures (record { empty = kept-put c.self.inside.contents c.args.inode ∙ ap (with_nothing c.args.inode) c.self.view_is })

pub returns-in_default : goal.returns-in_default
returns-in_default c =
    let none : row_at c.args.self.now.files c.args.inode ≡ None = ap (λ (kept : Kept). row_at kept.files c.args.inode) (sym c.self.view_is) ∙ (file-row c.self.inside.contents c.args.inode ∙ ap (option_map (λ (held : Held). held.bytes)) (sym c.in_default.ensures.bytes)) in
    absurd (let clash : false ≡ true = subst (λ row. IsSome row) none c.requires.file in cc)
