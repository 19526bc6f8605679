use Rattle.std.proofs.Common.{◌≡◌, ap, arith, length, subst, ◌∙◌}
use Rattle.std.proofs.lemmas.Result.{err_from_is_err_and}
use Rattle.std.specs.List.{sum_by}
use Rattle.qx_machine.specs.Files.{put, size_of, total_size}
use Rattle.qx_files.specs.Files.{FileLacksBlock, Kept, blocks_pasted, pasted}
use Rattle.qx_files.specs.inner.Kept.{files_of, kept_of}
use Rattle.qx_files.proofs.KeptLemmas.{file_lacks, files-written, kept-written}
use Rattle.qx_files.proofs.SizeLemmas.{after_total, size_le}
use Rattle.qx_files.proofs.files.Files.write.Goals as goal

pub overflow_sub-self : goal.overflow_sub-self
overflow_sub-self c =
    let le = size_le (files_of c.self.inside.contents) c.args.inode in
    omega (arith, le, c.in_ok-before.ensures.before, c.self.invariant.summed)

pub overflow_add-self : goal.overflow_add-self
overflow_add-self c =
    let old = c.self.inside.contents in
    let is : files_of c.paste.new.contents ≡ pasted (files_of old) c.args.inode c.args.offset c.args.new.now = ap files_of c.in_ok-before.ensures.ok ∙ files-written old c.args.inode c.args.offset c.args.new.now in
    let sum = after_total (files_of old) (files_of c.paste.new.contents) c.args.inode c.self.inside.total c.in_ok-before.before c.in_ok-before.after (λ old. put old c.args.offset c.args.new.now) is c.self.invariant.summed c.in_ok-before.ensures.before c.in_ok-before.ensures.after in
    let same = ap (sum_by size_of) is ∙ ap (λ (kept : Kept). total_size (pasted kept.files c.args.inode c.args.offset c.args.new.now)) c.self.view_is in
    omega (arith, sum, same, c.requires.few)

pub invariant_of-self-2 : goal.invariant_of-self-2
invariant_of-self-2 c =
    let old = c.self.inside.contents in
    let is : files_of c.paste.new.contents ≡ pasted (files_of old) c.args.inode c.args.offset c.args.new.now = ap files_of c.in_ok-before.ensures.ok ∙ files-written old c.args.inode c.args.offset c.args.new.now in
    let sum = after_total (files_of old) (files_of c.paste.new.contents) c.args.inode c.self.inside.total c.in_ok-before.before c.in_ok-before.after (λ old. put old c.args.offset c.args.new.now) is c.self.invariant.summed c.in_ok-before.ensures.before c.in_ok-before.ensures.after in
    let same = ap (sum_by size_of) is ∙ ap (λ (kept : Kept). total_size (pasted kept.files c.args.inode c.args.offset c.args.new.now)) c.self.view_is in
    record { summed = sum; few = omega (arith, sum, same, c.requires.few) }

pub returns-in_err-before-clause-lacks : goal.returns-in_err-before-clause-lacks
returns-in_err-before-clause-lacks c =
    let p = err_from_is_err_and c.from_residual.result c.from_residual.ensures.1 in
    let lacks = file_lacks c.self.inside.contents c.args.inode c.args.offset (length c.args.new.now) c.in_err-before.ensures.lacks in
    rw p.1 (subst (λ kept. FileLacksBlock kept c.args.inode c.args.offset (length c.args.new.now)) c.self.view_is lacks)

pub returns-clause-ok : goal.returns-clause-ok
returns-clause-ok c =
    let old = c.self.inside.contents in
    ap kept_of c.in_ok-before.ensures.ok
    ∙ (kept-written old c.args.inode c.args.offset c.args.new.now
    ∙ ap (λ (kept : Kept). record { files = pasted kept.files c.args.inode c.args.offset c.args.new.now; blocks = blocks_pasted kept.blocks c.args.inode c.args.offset (length c.args.new.now) }) c.self.view_is)
