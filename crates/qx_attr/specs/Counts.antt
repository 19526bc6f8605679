-- The three counts that stand beside an attribute, so that nobody has to count open control blocks.
use Rattle.std.specs.Prelude.{ℕ, Result, Ok, Err}
use Rattle.qx_base.specs.declared.errno.Errno.{Errno}
use Rattle.qx_machine.specs.Inodes.{Inodes, Numbered}

-- inodes and open control blocks, and how many more of each can be made with no memory
pub record Reserved : Type 0 where
  pub inodes : Inodes
  pub room : ℕ

-- a number that was given, with what there is then
abbrev pub with_number : Inodes → Result ℕ Errno → Result Numbered Errno
with_number inodes (Ok number) = Ok (record { number = number; inodes = inodes })
with_number inodes (Err error) = Err error
