use Rattle.std.proofs.Common.{◌≡◌, None, Some, ap, sym, ◌∙◌}
use Rattle.std.proofs.lemmas.Result.{err_from_is_err_and}
use Rattle.std.specs.Prelude.{option_map}
use Rattle.qx_attr.proofs.CountLemmas.{row-set_same}
use Rattle.qx_machine.specs.Files.{size_of}
use Rattle.qx_isolation.specs.Rows.{row_at}
use Rattle.qx_rows.proofs.RowLemmas.{set-row, with_row-none}
use Rattle.qx_files.specs.Blocks.{Held, after_write}
use Rattle.qx_files.proofs.KeptLemmas.{file-row}
use Rattle.qx_files.proofs.files.paste.Goals as goal

pub returns-in_default-clause-ok : goal.returns-in_default-clause-ok
returns-in_default-clause-ok c =
    let none : row_at c.args.contents.now c.args.inode ≡ None = sym c.in_default.ensures.bytes in
    sym (with_row-none c.args.contents.now c.args.inode (λ held. after_write held c.args.offset c.args.new.now) none)

pub returns-in_default-clause-before : goal.returns-in_default-clause-before
returns-in_default-clause-before c = ap size_of (ap (option_map (λ (held : Held). held.bytes)) c.in_default.ensures.bytes ∙ sym (file-row c.args.contents.now c.args.inode))

pub returns-in_default-clause-after : goal.returns-in_default-clause-after
returns-in_default-clause-after c = ap size_of (ap (option_map (λ (held : Held). held.bytes)) c.in_default.ensures.bytes ∙ sym (file-row c.args.contents.now c.args.inode))

pub returns-in_err-write-clause-err : goal.returns-in_err-write-clause-err
returns-in_err-write-clause-err c =
    let is : row_at c.args.contents.now c.args.inode ≡ Some c.in-Some.data.now = sym c.in-Some.ensures.bytes in
    let p = err_from_is_err_and c.from_residual.result c.from_residual.ensures.1 in
    rw (p.1, c.in_err-write.ensures.err) (set-row c.args.contents.now c.args.inode c.in-Some.data.now is)

pub returns-clause-before : goal.returns-clause-before
returns-clause-before c = c.len-before.ensures ∙ ap size_of (ap (option_map (λ (held : Held). held.bytes)) c.in-Some.ensures.bytes ∙ sym (file-row c.args.contents.now c.args.inode))

pub returns-clause-after : goal.returns-clause-after
returns-clause-after c =
    let is : row_at c.args.contents.now c.args.inode ≡ Some c.in-Some.data.now = sym c.in-Some.ensures.bytes in
    let now = row-set_same c.args.contents.now c.args.inode c.in-Some.data.now c.write.new.self is in
    c.len.ensures ∙ ap size_of (ap (option_map (λ (held : Held). held.bytes)) (sym now) ∙ sym (file-row _ c.args.inode))
