-- What of two pairs of conditions comes to hold, and of pipes where blocks come.
use Rattle.std.proofs.Common.{◌≡◌, inl, inr, ℕ, ◌≤◌, Bool, true, false, not, ◌==◌, length, refl, sym, ap, subst, ◌∙◌, arith, Option, Some, None}
use Rattle.std.proofs.Math.Bool.{and-false, and-not_self}
use Rattle.std.proofs.lemmas.Bool.{false≢true, eq-eqb, eqb-true, true≢false, cases_Bool}
use Rattle.std.specs.Prelude.{nat_lt, ◌&&◌, ◌||◌}
use Rattle.qx_devices.specs.declared.Device.{Device}
use Rattle.qx_types.specs.declared.limits.TheConstants.Limits.{PIPE}
use Rattle.qx_machine.specs.declared.rows.Conditions.{Conditions}
use Rattle.qx_machine.specs.declared.rows.Ocb.{Ocb}
use Rattle.qx_machine.specs.declared.rows.Sides.{Sides}
use Rattle.qx_machine.specs.declared.rows.WaitingCall.{WaitingCall}
use Rattle.qx_machine.specs.Inodes.{readers_of, writers_of}
use Rattle.qx_machine.specs.Notification.{block_conditions, conditions_at, conditions_of}
use Rattle.qx_machine.specs.Pipes.{Pipe}
use Rattle.qx_machine.specs.Resources.{Resources}
use Rattle.qx_isolation.specs.Rows.{row_at}
use Rattle.qx_machine.specs.Verdicts.{may_read, may_write}
use Rattle.qx_machine.specs.Waiting.{sides_of}
use Rattle.qx_resources.specs.Watching.{pipe_conditions, unwatched}

-- ---- what comes to hold

-- no condition holds after that did not before
pub record IsQuiet (before after : Conditions) : Type 0 where
  pub input : (after.input && not before.input) ≡ false
  pub output : (after.output && not before.output) ≡ false

pub quiet-same : (before after : Conditions) → before ≡ after → IsQuiet before after
quiet-same before after same = subst (IsQuiet before) same (record { input = and-not_self before.input; output = and-not_self before.output })

-- nothing can come to hold where both conditions did
pub quiet-both : (before after : Conditions) → before ≡ unwatched → IsQuiet before after
quiet-both before after both = subst (λ (c : Conditions). IsQuiet c after) (sym both) (record { input = and-false after.input; output = and-false after.output })

-- ---- which pipe a block has open

abbrev pub inode_of : Option Ocb → Option ℕ
inode_of None = None
inode_of (Some block) = Some block.inode

-- what holds of what a block has open, by its inode
abbrev pub conditions_over : Resources → Option ℕ → Conditions
conditions_over r None = unwatched
conditions_over r (Some inode) = pipe_conditions r inode

pub over-is : (r : Resources) (row : Option Ocb) → conditions_at r row ≡ conditions_over r (inode_of row)
over-is r None = refl
over-is r (Some block) = refl

pub block-over : (r : Resources) (number : ℕ) (place : Option ℕ) → inode_of (row_at r.inodes.blocks number) ≡ place → block_conditions r number ≡ conditions_over r place
block-over r number place is = over-is r (row_at r.inodes.blocks number) ∙ ap (conditions_over r) is

pub quiet-over : (r s : Resources) (number : ℕ) (was is : Option ℕ) → inode_of (row_at r.inodes.blocks number) ≡ was → inode_of (row_at s.inodes.blocks number) ≡ is
    → IsQuiet (conditions_over r was) (conditions_over s is) → IsQuiet (block_conditions r number) (block_conditions s number)
quiet-over r s number was is before after quiet =
    subst (λ (c : Conditions). IsQuiet c (block_conditions s number)) (sym (block-over r number was before))
    (subst (IsQuiet (conditions_over r was)) (sym (block-over s number is after)) quiet)

-- ---- what more open control blocks come to

-- a condition that held where a side was open comes not to hold where it is open still; a device knows nobody's sides
part : (holds was is : Bool) → (was ≡ true → is ≡ true) → ((holds || not is) && not (holds || not was)) ≡ false
part true was is more = refl
part false true true more = refl
part false true false more = absurd (false≢true (more refl))
part false false true more = refl
part false false false more = refl

quiet-pipe : (was is : Sides) (pipe : Option (Pipe WaitingCall)) → (was.for_reading ≡ true → is.for_reading ≡ true) → (was.for_writing ≡ true → is.for_writing ≡ true) → IsQuiet (conditions_of was pipe) (conditions_of is pipe)
quiet-pipe was is None read write = record { input = refl; output = refl }
quiet-pipe was is (Some pipe) read write = by_device pipe.device
  where
    conditions : Option Device → Sides → Conditions
    conditions device sides = record { input = may_read device sides pipe.bytes; output = may_write device sides pipe.bytes }

    by_device : (device : Option Device) → IsQuiet (conditions device was) (conditions device is)
    by_device None = record {
      input = part (not (length pipe.bytes == 0)) was.for_writing is.for_writing write;
      output = part (nat_lt (length pipe.bytes) PIPE) was.for_reading is.for_reading read;
    }
    by_device (Some device) = quiet-same (conditions (Some device) was) (conditions (Some device) is) refl

some-stay : (was is : ℕ) → was ≤ is → not (was == 0) ≡ true → not (is == 0) ≡ true
some-stay was is more some = elim (cases_Bool (is == 0)) [
  | inl none ↦
      let zero_is = eqb-true is 0 none in
      let zero_was : was ≡ 0 = omega (arith, more, zero_is) in
      absurd (true≢false (sym some ∙ ap not (eq-eqb was 0 zero_was)))
  | inr none_not ↦ ap not none_not
]

-- nothing comes to hold of a pipe that is as before, where no fewer blocks have it open
pub pipe-falls : (r s : Resources) (inode : ℕ) → readers_of r.inodes inode ≤ readers_of s.inodes inode → writers_of r.inodes inode ≤ writers_of s.inodes inode → row_at s.pipes inode ≡ row_at r.pipes inode → IsQuiet (pipe_conditions r inode) (pipe_conditions s inode)
pipe-falls r s inode readers writers same =
    subst (λ (row : Option (Pipe WaitingCall)). IsQuiet (pipe_conditions r inode) (conditions_of (sides_of s.inodes inode) row)) (sym same)
    (quiet-pipe (sides_of r.inodes inode) (sides_of s.inodes inode) (row_at r.pipes inode) (some-stay _ _ readers) (some-stay _ _ writers))
