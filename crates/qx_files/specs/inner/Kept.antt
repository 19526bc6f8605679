-- What is seen of the files of a user, by what each one holds.
use Rattle.std.specs.Prelude.{List, Option, map, option_map}
use Rattle.qx_machine.specs.Files.{Files}
use Rattle.qx_files.specs.Blocks.{Held}
use Rattle.qx_files.specs.Files.{Kept}

-- the bytes of files
abbrev pub files_of : List (Option Held) → Files
files_of contents = map (option_map (λ (held : Held). held.bytes)) contents

-- that, and the blocks that are there
abbrev pub kept_of : List (Option Held) → Kept
kept_of contents = record { files = files_of contents; blocks = map (option_map (λ (held : Held). held.blocks)) contents }
