-- What a write comes to, once it is known what it goes to.
use Rattle.std.proofs.Common.{◌≡◌, ℕ, ◌+◌, ◌-◌, ◌==◌, ◌≤◌, Bool, true, false, List, [], length, max, arith, Option, Some, None, Result, Ok, Err, slice_set, subst}
use Rattle.std.specs.Prelude.{IsOkAnd, IsSomeAnd, IsTrue}
use Rattle.qx_base.specs.declared.errno.Errno.{Errno}
use Rattle.qx_base.specs.declared.errno.Errno.TheVariants.{EBADF}
use Rattle.qx_types.specs.declared.flags.TheConstants.OFlags.{WRITE}
use Rattle.qx_types.specs.declared.limits.TheConstants.Limits.{FILES}
use Rattle.qx_types.specs.UserLimits.{UserLimits}
use Rattle.qx_attr.specs.Flags.{block_for}
use Rattle.qx_files.specs.Blocks.{LacksBlock}
use Rattle.qx_files.specs.Files.{FileLacksBlock, Kept, pasted}
use Rattle.qx_iofunc.specs.Store.{Store}
use Rattle.qx_files.proofs.DataLemmas.{lacks-reaches}
use Rattle.qx_files.proofs.PutLemmas.{length-put}
use Rattle.qx_files.proofs.SizeLemmas.{size_within, total_set}
use Rattle.qx_machine.specs.declared.rows.Ocb.{Ocb}
use Rattle.qx_machine.specs.declared.rows.Opened.{Opened}
use Rattle.qx_machine.specs.Files.{Files, put, total_size, write_offset}
use Rattle.qx_machine.specs.Functions.{Deed}
use Rattle.qx_machine.specs.Inodes.{Inodes, has}
use Rattle.qx_machine.specs.RamManager.{moved, with_bytes, write_file}
use Rattle.qx_machine.specs.Resources.{Resources}
use Rattle.qx_machine.specs.Wants.{reaches_blank, writes_to_blank}
use Rattle.qx_isolation.specs.Judgements.{◌>>=◌, found, need}
use Rattle.qx_isolation.specs.Rows.{row_at}
use Rattle.qx_ram.specs.Writes.{WritesToLacking}
use Rattle.qx_ram.specs.inner.Given.{write_fault}

-- the sum of the sizes after a write
pub total_after : (files : Files) (inode offset : ℕ) (bytes new : List ℕ) → row_at files inode ≡ Some bytes → total_size (slice_set files inode (Some (put bytes offset new))) ≡ total_size files - length bytes + max (length bytes) (offset + length new)
total_after files inode offset bytes new is =
    let set = total_set files inode bytes (Some (put bytes offset new)) is in
    let within = size_within files inode bytes is in
    let long = length-put bytes new offset in
    omega (arith, set, within, long)

-- the sum stays within its limit where nothing is refused
pub few_after : (limits : UserLimits) (files : Files) (inode offset : ℕ) (bytes new : List ℕ) → row_at files inode ≡ Some bytes → write_fault limits (total_size files) (length bytes) offset (length new) ≡ None → limits.bytes ≤ FILES → total_size (pasted files inode offset new) ≤ FILES
few_after limits files inode offset bytes new is none few = rw (is, total_after files inode offset bytes new is) (grind arith)

-- a fault, or else what is done
abbrev pub answered : Option Errno → Deed Resources → Result (Deed Resources) Errno
answered None deed = Ok deed
answered (Some error) deed = Err error

-- a write of some bytes is judged by its fault alone
pub written : (r : Resources) (opened : Opened) (new : List ℕ) {inodes : Inodes} {files : Files} {block : Ocb} {bytes : List ℕ} {offset : ℕ} {fault : Option Errno} → inodes ≡ r.inodes → files ≡ r.files → Ok block ≡ block_for inodes opened.number WRITE → Some bytes ≡ row_at files block.inode → false ≡ (length new == 0) → offset ≡ write_offset block bytes → fault ≡ write_fault r.limits (total_size files) (length bytes) offset (length new) → answered fault (moved opened.number (offset + length new) (length new) [] (with_bytes block.inode opened.moment (put bytes offset new) r)) ≡ write_file r opened new
written r opened new same_inodes same_files is has_bytes some begins faults = grind (arith, total_after)

-- what wants memory, once it is known what the write goes to
pub lacks_of : (s : Store) (number count : ℕ) (block : Ocb) (bytes : List ℕ) (offset : ℕ) → offset ≡ write_offset block bytes → Ok block ≡ block_for s.stored.inodes number WRITE → Some bytes ≡ row_at s.stored.files block.inode
    → FileLacksBlock (record { files = s.stored.files; blocks = s.blocks }) block.inode offset count → WritesToLacking s number count
lacks_of s number count block bytes offset begins is has_bytes lacks =
    let kept : Kept = record { files = s.stored.files; blocks = s.blocks } in
    let at : FileLacksBlock kept block.inode (write_offset block bytes) count = subst (λ o. FileLacksBlock kept block.inode o count) begins lacks in
    let there : IsSomeAnd (row_at s.stored.files block.inode) (λ bytes. FileLacksBlock kept block.inode (write_offset block bytes) count) = subst (λ row. IsSomeAnd row (λ bytes. FileLacksBlock kept block.inode (write_offset block bytes) count)) has_bytes at in
    subst (λ row. IsOkAnd row (λ (block : Ocb). IsSomeAnd (row_at s.stored.files block.inode) (λ bytes. FileLacksBlock kept block.inode (write_offset block bytes) count))) is there

-- it goes to a blank block then
pub to_blank : (r : Resources) (opened : Opened) (new : List ℕ) (blocks : List (Option (List Bool))) (block : Ocb) (bytes : List ℕ) (offset : ℕ) → offset ≡ write_offset block bytes → Ok block ≡ block_for r.inodes opened.number WRITE → Some bytes ≡ row_at r.files block.inode
    → FileLacksBlock (record { files = r.files; blocks = blocks }) block.inode offset (length new) → IsTrue (writes_to_blank r (Ok opened) new)
to_blank r opened new blocks block bytes offset begins is has_bytes lacks = rw (there (row_at r.inodes.blocks opened.number) is, ← has_bytes, ← begins) (reached (row_at blocks block.inode) (rw (← has_bytes) at lacks))
  where
    there : (row : Option Ocb) → Ok block ≡ (found row EBADF >>= λ other. need (has other.flags WRITE) EBADF >>= λ allowed. Ok other) → row ≡ Some block
    there None is = absurd (cc)
    there (Some other) is = by_flag (has other.flags WRITE) is
      where
        by_flag : (flag : Bool) → Ok block ≡ (need flag EBADF >>= λ allowed. Ok other) → Some other ≡ Some block
        by_flag true is = cc
        by_flag false is = absurd (cc)

    reached : (row : Option (List Bool)) → IsSomeAnd row (λ blocks. LacksBlock (record { bytes = bytes; blocks = blocks }) offset (length new)) → IsTrue (reaches_blank bytes offset (length new))
    reached None lacks = absurd lacks
    reached (Some blocks) lacks = lacks-reaches (record { bytes = bytes; blocks = blocks }) offset (length new) lacks
