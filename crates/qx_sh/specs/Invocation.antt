-- How the shell ends, from the words of the command line to its exit status.
use Rattle.std.specs.Prelude.{◌≡◌, ◌≢◌, ℕ, Bool, false, List, Option}
use Rattle.std.specs.Io.KnownBytes.{Appends}
use Rattle.std.specs.declared.io.ErrorKind.{ErrorKind}
use Rattle.std.specs.declared.io.ErrorKind.TheVariants.{OutOfMemory}
use Rattle.clap.specs.Walk.{Text}
use Rattle.qx_sh.specs.declared.ending.End.{End}
use Rattle.qx_sh.specs.declared.ending.End.TheVariants.{Done, Input, Output, Words, Line, Memory}
use Rattle.qx_sh.specs.Options.{AsksFor, AsksForNone}
use Rattle.qx_sh.specs.Run.{EndsAs, WritesNothing}
use Rattle.qx_sh.specs.Watched.{Told}
use Rattle.qx_sh.specs.Written.{AppendsFront, report_text, status_of}

-- the words ask for a limit, and the run within it ends so
pub record EndsWithin (words : List Text) (told : Told) (end : End) : Type 0 where
  pub limit : ℕ
  pub asked : AsksFor words limit
  pub ending : EndsAs limit told end

-- how the shell ends on these words, by what the input and the output tell
abbrev pub EndsOn : List Text → Told → End → Type 0
EndsOn words told Done = EndsWithin words told Done
EndsOn words told Input = EndsWithin words told Input
EndsOn words told Output = EndsWithin words told Output
EndsOn words told Words = AsksForNone words × WritesNothing told
EndsOn words told (Line line) = EndsWithin words told (Line line)
EndsOn words told Memory = WritesNothing told

-- how it ends where the words could not be had, for want of memory or since they are no text: nothing is written
pub record EndsUnread (kind : ErrorKind) (told : Told) (end : End) : Type 0 where
  pub memory : kind ≡ OutOfMemory → end ≡ Memory
  pub words : kind ≢ OutOfMemory → end ≡ Words
  pub writes_nothing : WritesNothing told

-- the status is that of an end that came about so; its line is all that was appended to the errors, or a front of it where they have failed
pub record Exits (Ends : End → Type 0) (old new : Option (List ℕ)) (failed : Bool) (status : ℕ) : Type 0 where
  pub end : End
  pub ends : Ends end
  pub status_is : status ≡ status_of end
  pub whole : failed ≡ false → Appends old new (report_text end)
  pub front : AppendsFront old new (report_text end)
