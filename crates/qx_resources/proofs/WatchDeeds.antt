-- What a read, a write, a seek and an unblock come to: nothing comes to hold, or of one pipe alone.
use Rattle.std.proofs.Common.{◌≡◌, ℕ, ◌≤◌, Bool, ◌==◌, length, refl, sym, ap, ◌∙◌, arith, Option, Some, None, List, ◌∷◌, [], le_of_eq, Result, option_map, count_by, slice_set, nat_le, position, ◌+◌, zero, suc}
use Rattle.std.proofs.lemmas.Bool.{cond_both}
use Rattle.std.specs.Prelude.{ℤ, ◌&&◌}
use Rattle.qx_base.specs.declared.errno.Errno.{Errno}
use Rattle.qx_base.specs.declared.errno.Errno.TheVariants.{EBADF, EFBIG, EINVAL, EISDIR, ENOSPC}
use Rattle.qx_types.specs.declared.fields.Whence.{Whence}
use Rattle.qx_types.specs.declared.flags.OFlags.{OFlags}
use Rattle.qx_types.specs.declared.limits.TheConstants.Limits.{OFFSET}
use Rattle.qx_types.specs.declared.outcome.Outcome.TheVariants.{WrongState}
use Rattle.qx_machine.specs.declared.rows.Event.{Event}
use Rattle.qx_machine.specs.declared.rows.Ocb.{Ocb}
use Rattle.qx_machine.specs.declared.rows.Opened.{Opened}
use Rattle.qx_machine.specs.declared.rows.WaitingCall.{WaitingCall}
use Rattle.qx_machine.specs.Events.{Events}
use Rattle.qx_machine.specs.Files.{base, moved_by, put, total_size}
use Rattle.qx_machine.specs.Functions.{Deed}
use Rattle.qx_machine.specs.Inodes.{readers_of, writers_of, is_open, moved_to, reads, writes}
use Rattle.qx_isolation.specs.Judgements.{found, need}
use Rattle.qx_machine.specs.PipeManager.{cancel_call, deed_of_call, deed_of_pipe, read_pipe, write_pipe}
use Rattle.qx_machine.specs.Pipes.{Pipe, read, write, PipeAfter, cancel}
use Rattle.qx_machine.specs.RamManager.{read_file, seek_file, write_file, written_at, moved}
use Rattle.qx_machine.specs.Resources.{Resources}
use Rattle.qx_isolation.specs.Rows.{row_at, with_row}
use Rattle.qx_machine.specs.Waiting.{holds, is_call, is_gone, manner_of, offered, waiting_call, wanted}
use Rattle.qx_isolation.proofs.Places.{row_at-set_other}
use Rattle.qx_attr.proofs.CountLemmas.{count-same}
use Rattle.qx_resources.proofs.WatchFacts.{IsEnough, IsStill, Stays, all-events, watch-settled}
use Rattle.qx_machine.proofs.AtOnce.{call-by}
use Rattle.qx_machine.proofs.Gives.{Gives, found-row, gives_done, gives_on}
use Rattle.qx_resources.proofs.WatchQuiet.{IsQuiet, inode_of, quiet-over, pipe-falls, quiet-same, conditions_over}
use Rattle.qx_resources.specs.Watching.{pipe_conditions, watch, watched_settled, watch_block, watch_place}

-- it is enough to watch the pipe that the block of this number has open
abbrev pub IsSettledAt : Resources → ℕ → Resources → Type 0
IsSettledAt r number s = IsEnough r (watch_block r (row_at r.inodes.blocks number)) s

pub at-block : (r s : Resources) (number : ℕ) (block : Ocb) → row_at r.inodes.blocks number ≡ Some block → IsEnough r (watch r block.inode) s → IsSettledAt r number s
at-block r s number block is settled lives = ap (λ (row : Option Ocb). watched_settled lives (watch_block r row) s) is ∙ settled lives

no-events : (events : List Event) → length events ≡ 0 → events ≡ []
no-events [] none = refl
no-events (e ∷ es) none = absurd (omega (arith, none))

-- nothing is armed where nothing was
pub unarmed : (r s : Resources) → s.events ≡ r.events → length r.events.armed ≡ 0 → s.events.armed ≡ []
unarmed r s events none = ap (λ (e : Events). e.armed) events ∙ no-events r.events.armed none

-- ---- nothing changes that is told

pub kept-settled : (r : Resources) (inode : ℕ) → IsEnough r (watch r inode) r
kept-settled r inode = watch-settled r r inode (λ other apart. quiet-same _ _ refl) (all-events (Stays r r) r.events.armed (λ event. refl)) (unarmed r r refl)

-- ---- one pipe changes

pub pipe-settled : (r : Resources) (inode moment : ℕ) (after : PipeAfter WaitingCall) → IsEnough r (watch r inode) (deed_of_pipe r inode moment after).state
pipe-settled r inode moment after =
    let s = (deed_of_pipe r inode moment after).state in
    watch-settled r s inode
    (λ other apart. pipe-falls r s other (le_of_eq refl) (le_of_eq refl) (row_at-set_other r.pipes inode other (Some after.pipe) apart))
    (all-events (Stays r s) s.events.armed (λ event. refl)) (unarmed r s refl)

call-settled : (r : Resources) (number : ℕ) (block : Ocb) (moment : ℕ) → row_at r.inodes.blocks number ≡ Some block → (pipe : Pipe WaitingCall) (after : PipeAfter WaitingCall) → IsSettledAt r number (deed_of_call r block.inode moment pipe after).state
call-settled r number block moment is pipe after =
    let settled = at-block r (deed_of_pipe r block.inode moment after).state number block is (pipe-settled r block.inode moment after) in
    call-by (λ (deed : Deed Resources). IsSettledAt r number deed.state) r block.inode moment pipe after settled (λ nobody status bytes replied. settled)

pub read_pipe-settled : (r : Resources) (over : Opened) (count : ℕ) → Gives (λ deed. IsSettledAt r over.number deed.state) (read_pipe r over count)
read_pipe-settled r over count =
    gives_on _ (found (row_at r.inodes.blocks over.number) EBADF) _ (λ block is.
    gives_on _ (need (reads block.flags) EBADF) _ (λ reading may.
    gives_on _ (found (row_at r.pipes block.inode) EISDIR) _ (λ pipe here.
    gives_done _ _ (call-settled r over.number block over.moment (found-row _ _ block is) pipe
    (read wanted offered is_gone (manner_of (writers_of r.inodes block.inode) block over.is_asked) (waiting_call over count []) pipe)))))

pub write_pipe-settled : (r : Resources) (over : Opened) (bytes : List ℕ) → Gives (λ deed. IsSettledAt r over.number deed.state) (write_pipe r over bytes)
write_pipe-settled r over bytes =
    gives_on _ (found (row_at r.inodes.blocks over.number) EBADF) _ (λ block is.
    gives_on _ (need (writes block.flags) EBADF) _ (λ writing may.
    gives_on _ (found (row_at r.pipes block.inode) EBADF) _ (λ pipe here.
    gives_done _ _ (call-settled r over.number block over.moment (found-row _ _ block is) pipe
    (write wanted offered is_gone (manner_of (readers_of r.inodes block.inode) block over.is_asked) (waiting_call over 0 bytes) pipe)))))

at-place : (r s : Resources) (place : Option ℕ) (inode : ℕ) → place ≡ Some inode → IsEnough r (watch r inode) s → IsEnough r (watch_place r place) s
at-place r s place inode is settled lives = ap (λ (place : Option ℕ). watched_settled lives (watch_place r place) s) is ∙ settled lives

pub cancel-settled : (r : Resources) (process thread call moment : ℕ) → Gives (λ (deed : Deed Resources). IsEnough r (watch_place r (position (holds (is_call process thread call)) r.pipes)) deed.state) (cancel_call r process thread call moment)
cancel-settled r process thread call moment =
    gives_on _ (found (position (holds (is_call process thread call)) r.pipes) WrongState) _ (λ inode at.
    gives_on _ (found (row_at r.pipes inode) WrongState) _ (λ pipe here.
    gives_done _ _ (at-place r _ (position (holds (is_call process thread call)) r.pipes) inode (found-row _ _ inode at)
    (pipe-settled r inode moment (cancel wanted offered is_gone (is_call process thread call) pipe)))))

-- ---- a block stands at another offset, or more or fewer connections have it

-- what a block has open, and how, stays
pub record KeepsOpen (change : Ocb → Ocb) : Type 0 where
  pub inode : (block : Ocb) → (change block).inode ≡ block.inode
  pub flags : (block : Ocb) → (change block).flags ≡ block.flags

-- only the offset is another
only-moved : (offset : ℕ) → KeepsOpen (moved_to offset)
only-moved offset = record { inode = λ block. refl; flags = λ block. refl }

module _ (change : Ocb → Ocb) (keeps : KeepsOpen change) where
  same-inode : (row : Option Ocb) → inode_of row ≡ inode_of (option_map change row)
  same-inode None = refl
  same-inode (Some block) = ap Some (sym (keeps.inode block))

  moved-rows : (blocks : List (Option Ocb)) (number other : ℕ) → inode_of (row_at blocks other) ≡ inode_of (row_at (with_row blocks number change) other)
  moved-rows [] number other = refl
  moved-rows (place ∷ blocks) zero zero = same-inode place
  moved-rows (place ∷ blocks) zero (suc other) = refl
  moved-rows (place ∷ blocks) (suc number) zero = refl
  moved-rows (place ∷ blocks) (suc number) (suc other) = moved-rows blocks number other

  same-open : (which : OFlags → Bool) (inode : ℕ) (block : Ocb) → is_open which inode (Some (change block)) ≡ is_open which inode (Some block)
  same-open which inode block i = (keeps.inode block i == inode) && which (keeps.flags block i)

  moved-count : (which : OFlags → Bool) (inode : ℕ) (blocks : List (Option Ocb)) (number : ℕ) (block : Ocb) → row_at blocks number ≡ Some block → count_by (is_open which inode) (with_row blocks number change) ≡ count_by (is_open which inode) blocks
  moved-count which inode blocks number block is =
      ap (λ (row : Option Ocb). count_by (is_open which inode) (slice_set blocks number (option_map change row))) is
      ∙ count-same (is_open which inode) refl blocks number block (change block) is (same-open which inode block)

module _ (r s : Resources) (number : ℕ) (change : Ocb → Ocb) (keeps : KeepsOpen change) (block : Ocb) (is : row_at r.inodes.blocks number ≡ Some block) (blocks : with_row r.inodes.blocks number change ≡ s.inodes.blocks) (pipes : s.pipes ≡ r.pipes) where
  moved-stays : (other : ℕ) → inode_of (row_at r.inodes.blocks other) ≡ inode_of (row_at s.inodes.blocks other)
  moved-stays other = moved-rows change keeps r.inodes.blocks number other ∙ ap (λ (rows : List (Option Ocb)). inode_of (row_at rows other)) blocks

  moved-counts : (which : OFlags → Bool) (inode : ℕ) → count_by (is_open which inode) r.inodes.blocks ≤ count_by (is_open which inode) s.inodes.blocks
  moved-counts which inode = le_of_eq (sym (moved-count change keeps which inode r.inodes.blocks number block is) ∙ ap (count_by (is_open which inode)) blocks)

  moved-quiet : (inode : ℕ) → IsQuiet (pipe_conditions r inode) (pipe_conditions s inode)
  moved-quiet inode = pipe-falls r s inode (moved-counts reads inode) (moved-counts writes inode) (ap (λ (rows : List (Option (Pipe WaitingCall))). row_at rows inode) pipes)

  pub moved-still : IsStill r s
  moved-still other = quiet-over r s other _ _ refl (sym (moved-stays other)) (by (inode_of (row_at r.inodes.blocks other)))
    where
      by : (place : Option ℕ) → IsQuiet (conditions_over r place) (conditions_over s place)
      by None = quiet-same _ _ refl
      by (Some inode) = moved-quiet inode

  pub moved-settled : s.events ≡ r.events → IsSettledAt r number s
  moved-settled events =
      at-block r s number block is
      (watch-settled r s block.inode (λ other apart. moved-quiet other) (all-events (Stays r s) s.events.armed (λ event. moved-stays event.block)) (unarmed r s events))

pub read_file-settled : (r : Resources) (over : Opened) (count : ℕ) → Gives (λ deed. IsSettledAt r over.number deed.state) (read_file r over count)
read_file-settled r over count =
    gives_on _ (found (row_at r.inodes.blocks over.number) EBADF) _ (λ block is.
    gives_on _ (need (reads block.flags) EBADF) _ (λ reading may.
    gives_on _ (found (row_at r.files block.inode) EISDIR) _ (λ bytes here.
    gives_done _ _ (moved-settled r _ over.number _ (only-moved _) block (found-row _ _ block is) refl refl refl))))

written-settled : (r : Resources) (number inode : ℕ) (bytes : List ℕ) (offset : ℕ) (new : List ℕ) (moment : ℕ) (block : Ocb) → row_at r.inodes.blocks number ≡ Some block → Gives (λ deed. IsSettledAt r number deed.state) (written_at r number inode bytes offset new moment)
written-settled r number inode bytes offset new moment block is =
    gives_on _ (need (nat_le (offset + length new) r.limits.file) EFBIG) _ (λ short is_short.
    gives_on _ (need (nat_le (total_size (slice_set r.files inode (Some (put bytes offset new)))) r.limits.bytes) ENOSPC) _ (λ few is_few.
    gives_done _ _ (moved-settled r _ number _ (only-moved (offset + length new)) block is refl refl refl)))

pub write_file-settled : (r : Resources) (over : Opened) (new : List ℕ) → Gives (λ deed. IsSettledAt r over.number deed.state) (write_file r over new)
write_file-settled r over new =
    gives_on _ (found (row_at r.inodes.blocks over.number) EBADF) _ (λ block is.
    gives_on _ (need (writes block.flags) EBADF) _ (λ writing may.
    gives_on _ (found (row_at r.files block.inode) EBADF) _ (λ bytes here.
    cond_both (length new == 0) _ _ (Gives (λ (deed : Deed Resources). IsSettledAt r over.number deed.state))
    (λ none. gives_done _ _ (at-block r r over.number block (found-row _ _ block is) (kept-settled r block.inode)))
    (λ some. written-settled r over.number block.inode bytes _ new over.moment block (found-row _ _ block is)))))

-- nothing comes to hold by this
abbrev pub GivesStill : Resources → Result (Deed Resources) Errno → Type 0
GivesStill r given = Gives (λ (deed : Deed Resources). IsStill r deed.state) given

pub seek_file-still : (r : Resources) (over : Opened) (whence : Whence) (by : ℤ) → GivesStill r (seek_file r over whence by)
seek_file-still r over whence by =
    gives_on _ (found (row_at r.inodes.blocks over.number) EBADF) _ (λ block is.
    gives_on _ (found (row_at r.files block.inode) EINVAL) _ (λ bytes here.
    gives_on _ (found (moved_by (base whence block bytes) by) EINVAL) _ (λ offset is_moved.
    gives_on _ (need (nat_le offset OFFSET) EINVAL) _ (λ small is_small.
    gives_done _ _ (moved-still r (moved over.number offset offset [] r).state over.number _ (only-moved offset) block (found-row _ _ block is) refl refl)))))
