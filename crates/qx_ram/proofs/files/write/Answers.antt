-- A write: by what it goes to, and by why it can't be.
use Rattle.std.proofs.Common.{◌+◌, [], Ok, ap, length, sym, ◌∙◌}
use Rattle.std.proofs.lemmas.Result.{err_from_is_err_and}
use Rattle.qx_types.specs.declared.flags.TheConstants.OFlags.{WRITE}
use Rattle.qx_attr.specs.Flags.{block_for}
use Rattle.qx_files.specs.Files.{Kept}
use Rattle.qx_iofunc.specs.Store.{with_stored}
use Rattle.qx_machine.specs.RamManager.{moved}
use Rattle.qx_machine.specs.Resources.{Resources}
use Rattle.qx_isolation.specs.Rows.{row_at}
use Rattle.qx_ram.proofs.WriteLemmas.{lacks_of, to_blank, written}
use Rattle.qx_ram.proofs.files.write.Goals as goal

pub returns-in-Some-write_fault-clause-written : goal.returns-in-Some-write_fault-clause-written
returns-in-Some-write_fault-clause-written c = λ r. written (with_stored r c.args.store.now.stored) c.args.opened c.args.new.now c.inodes.ensures (ap (λ (kept : Kept). kept.files) c.files-files.ensures) c.in-Ok.ensures c.in-Some.ensures.bytes c.if-is_empty.ensures c.write_offset-offset.ensures (rw c.limits.ensures.limits at c.in-Some-write_fault.ensures)

pub returns-in_err-write-clause-wanted : goal.returns-in_err-write-clause-wanted
returns-in_err-write-clause-wanted c =
    let error = err_from_is_err_and c.from_residual.result c.from_residual.ensures.1 in
    let is = c.in-Ok.ensures ∙ ap (λ inodes. block_for inodes c.args.opened.number WRITE) c.inodes.ensures in
    let has_bytes = c.in-Some.ensures.bytes ∙ ap (λ (kept : Kept). row_at kept.files c.in-Ok.block.inode) c.files-files.ensures in
    rw error.1 λ r. rw (← written (with_stored r c.args.store.now.stored) c.args.opened c.args.new.now c.inodes.ensures (ap (λ (kept : Kept). kept.files) c.files-files.ensures) c.in-Ok.ensures c.in-Some.ensures.bytes c.if-is_empty.ensures c.write_offset-offset.ensures (rw c.limits.ensures.limits at c.in_default-write_fault.ensures))
    (to_blank (with_stored r c.args.store.now.stored) c.args.opened c.args.new.now _ c.in-Ok.block c.in-Some.data.now.bytes c.write_offset-offset.result c.write_offset-offset.ensures is has_bytes c.in_err-write.ensures.lacks)

pub returns-clause-written : goal.returns-clause-written
returns-clause-written c = λ r.
    let all = written (with_stored r c.args.store.now.stored) c.args.opened c.args.new.now c.inodes.ensures (ap (λ (kept : Kept). kept.files) c.files-files.ensures) c.in-Ok.ensures c.in-Some.ensures.bytes c.if-is_empty.ensures c.write_offset-offset.ensures (rw c.limits.ensures.limits at c.in_default-write_fault.ensures) in
    let after = c.in_ok-write.ensures.ok r c.in-Some.data.now.bytes (ap (λ (kept : Kept). row_at kept.files c.in-Ok.block.inode) (sym c.files-files.ensures) ∙ sym c.in-Some.ensures.bytes) in
    rw (c.set_offset.ensures.moved) (ap (λ (r : Resources). Ok (moved c.args.opened.number (c.write_offset-offset.result + length c.args.new.now) (length c.args.new.now) [] r)) after ∙ all)

pub returns-in_err-write-clause-lacks : goal.returns-in_err-write-clause-lacks
returns-in_err-write-clause-lacks c =
    let error = err_from_is_err_and c.from_residual.result c.from_residual.ensures.1 in
    let is = c.in-Ok.ensures ∙ ap (λ inodes. block_for inodes c.args.opened.number WRITE) c.inodes.ensures in
    let has_bytes = c.in-Some.ensures.bytes ∙ ap (λ (kept : Kept). row_at kept.files c.in-Ok.block.inode) c.files-files.ensures in
    rw error.1 (lacks_of c.args.store.now c.args.opened.number (length c.args.new.now) c.in-Ok.block c.in-Some.data.now.bytes c.write_offset-offset.result c.write_offset-offset.ensures is has_bytes c.in_err-write.ensures.lacks)
