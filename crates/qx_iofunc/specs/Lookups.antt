-- What a lookup found, and what an open does there.
use Rattle.std.specs.Prelude.{ℕ, ◌≡◌, None, Result, Ok, IsOk}
use Rattle.std.specs.FinMap.{get}
use Rattle.qx_iofunc.specs.declared.found.Lookup.{Lookup}
use Rattle.qx_iofunc.specs.declared.found.Lookup.TheVariants.{Found, Missing}
use Rattle.qx_iofunc.specs.Makes.{may_make, may_open}
use Rattle.qx_iofunc.specs.Store.{Stored, with_stored}
use Rattle.qx_machine.specs.declared.rows.Kind.{Kind}
use Rattle.qx_machine.specs.declared.rows.NewOpen.{NewOpen}
use Rattle.qx_machine.specs.declared.rows.Wish.{Wish}
use Rattle.qx_machine.specs.Defaults.{open_existing, open_missing}
use Rattle.qx_machine.specs.Functions.{Deed}
use Rattle.qx_machine.specs.Inodes.{Inodes}
use Rattle.qx_isolation.specs.Judgements.{◌>>=◌}
use Rattle.qx_machine.specs.Names.{Names, under}
use Rattle.qx_machine.specs.Resources.{Resources}
use Rattle.qx_names.specs.Paths.{HasPath, path_of}
use Rattle.qx_names.specs.Spots.{spot_of}
use Rattle.qx_base.specs.declared.errno.Errno.{Errno}
use Rattle.qx_types.specs.declared.flags.OFlags.{OFlags}

abbrev pub open_found : Kind → Resources → NewOpen → Lookup → Wish → Result (Deed Resources) Errno
open_found own r over (Found inode block) wish = open_existing r over inode wish
open_found own r over (Missing at new block) wish = open_missing own r over (spot_of r.names at) wish

-- how many inodes and open control blocks it needs room for
abbrev pub needed : Lookup → ℕ
needed (Found inode block) = 1
needed (Missing at new block) = 2

-- an open, once it was looked up what it opens
abbrev pub open_looked_up : Kind → Resources → NewOpen → Result Lookup Errno → Wish → Result (Deed Resources) Errno
open_looked_up own r over lookup wish = do
  there ← lookup
  open_found own r over there wish

-- what is missing has a directory, in which nothing has its name
abbrev pub HasFreeName : Names → Lookup → Type 0
HasFreeName names (Found inode block) = Unit {0}
HasFreeName names (Missing at new block) = HasPath names at.parent × (get names (under (path_of names at.parent) at.name.now) ≡ None)

-- what is there was judged, or what is to be made in this directory
abbrev pub IsJudged : Inodes → ℕ → OFlags → Lookup → Type 0
IsJudged inodes user flags (Found inode block) = may_open inodes user inode flags ≡ Ok block
IsJudged inodes user flags (Missing at new block) = may_make inodes user at.parent flags ≡ Ok (new, block)

-- what a lookup found may be opened, or made and opened
pub record IsAllowed (s : Stored) (flags : OFlags) (lookup : Lookup) : Type 0 where
  pub free : HasFreeName s.names lookup
  pub judged : IsJudged s.inodes s.user flags lookup
  pub opens : (r : Resources) (over : NewOpen) (own : Kind) (mode moment : ℕ) → IsOk (open_found own (with_stored r s) over lookup (record { flags = flags; mode = mode; moment = moment }))
