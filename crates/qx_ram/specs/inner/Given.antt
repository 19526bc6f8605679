-- What only the proofs need of Given.
use Rattle.std.specs.Prelude.{ℕ, ℤ, ◌+◌, ◌-◌, Result, Ok, Option, Some, None, max, nat_le, if◌then◌else◌}
use Rattle.qx_base.specs.declared.errno.Errno.{Errno}
use Rattle.qx_base.specs.declared.errno.Errno.TheVariants.{EFBIG, EINVAL, ENOSPC}
use Rattle.qx_types.specs.declared.limits.TheConstants.Limits.{OFFSET}
use Rattle.qx_types.specs.UserLimits.{UserLimits}
use Rattle.qx_machine.specs.Files.{moved_by}
use Rattle.qx_isolation.specs.Judgements.{◌>>=◌, found, need}

-- why so many bytes can't be written at an offset of a file of that size, by the user's limits and the sum of the sizes before
abbrev pub write_fault : UserLimits → ℕ → ℕ → ℕ → ℕ → Option Errno
write_fault limits total size offset count =
    if nat_le (offset + count) limits.file then
    (if nat_le (total - size + max size (offset + count)) limits.bytes then None else Some ENOSPC)
    else Some EFBIG

-- a further offset
abbrev pub moved_offset : ℕ → ℤ → Result ℕ Errno
moved_offset base by = do
  offset ← found (moved_by base by) EINVAL
  small ← need (nat_le offset OFFSET) EINVAL
  Ok offset
