use Rattle.std.proofs.Common.{◌≡◌, None, ap, ◌∙◌, sym}
use Rattle.std.specs.List.{sum_by}
use Rattle.qx_files.specs.Files.{Kept, with_nothing}
use Rattle.qx_files.specs.inner.Kept.{files_of, kept_of}
use Rattle.qx_machine.specs.Files.{size_of}
use Rattle.qx_isolation.specs.Rows.{row_at}
use Rattle.qx_files.proofs.KeptLemmas.{files-put, kept-put}
use Rattle.qx_files.proofs.SizeLemmas.{total_new}
use Rattle.qx_files.proofs.files.Files.add.Goals as goal

pub invariant_of-self : goal.invariant_of-self
invariant_of-self c =
    let contents = c.self.inside.contents in
    let free : row_at (files_of contents) c.args.inode ≡ None = ap (λ (kept : Kept). row_at kept.files c.args.inode) c.self.view_is ∙ c.requires.free in
    record {
      summed = c.self.invariant.summed ∙ (sym (total_new (files_of contents) c.args.inode free) ∙ (ap (sum_by size_of) (sym (files-put contents c.args.inode)) ∙ ap (λ now. sum_by size_of (files_of now)) (sym c.put.ensures.put)));
      few = c.self.invariant.few;
    }

pub returns : goal.returns
returns c = record { made = ap kept_of c.put.ensures.put ∙ (kept-put c.self.inside.contents c.args.inode ∙ ap (with_nothing c.args.inode) c.self.view_is) }
