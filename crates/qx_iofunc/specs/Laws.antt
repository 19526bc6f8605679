-- What holds of names, inodes and files by their definitions alone.
use Rattle.std.specs.Prelude.{ℕ, ◌≡◌, List, [], Ok, unwrap_or}
use Rattle.std.specs.List.{sum_by}
use Rattle.qx_iofunc.specs.Fits.{Fits, file_size}
use Rattle.qx_machine.specs.declared.rows.Kind.{Kind}
use Rattle.qx_machine.specs.Defaults.{unlink_path}
use Rattle.qx_machine.specs.Files.{Files, total_size}
use Rattle.qx_machine.specs.Functions.{Deed}
use Rattle.qx_machine.specs.Inodes.{Inodes}
use Rattle.qx_machine.specs.Names.{Names, inode_at, names_in}
use Rattle.qx_machine.specs.Resources.{Resources}

-- what is removed had no names in it
abbrev pub RemovedEmpty : Type 0
RemovedEmpty = (own : Kind) (r : Resources) (root : ℕ) (rest : List (List ℕ)) (moment inode : ℕ) (deed : Deed Resources) →
    unlink_path own r root rest moment ≡ Ok deed → inode_at r.inodes r.names r.user root rest ≡ Ok inode → names_in r.names inode ≡ []

-- the sum of the sizes of a user's files is that of the sizes that their inodes have
abbrev pub TotalOfSizes : Type 0
TotalOfSizes = (inodes : Inodes) (names : Names) (files : Files) → Fits inodes names files → total_size files ≡ sum_by (λ row. unwrap_or (file_size row) 0) inodes.attributes
