-- How a run ends, told by what its reader and its writer tell.
use Rattle.std.specs.Prelude.{◌≡◌, ◌<◌, ◌≤◌, ◌⊎◌, ℕ, true, List, Option, IfSome, length}
use Rattle.std.specs.Io.KnownBytes.{Appends}
use Rattle.qx_types.specs.Configuration.{Configuration}
use Rattle.qx_script.specs.declared.command.Command.{Command}
use Rattle.qx_sh.specs.declared.ending.End.{End}
use Rattle.qx_sh.specs.declared.ending.End.TheVariants.{Done, Input, Output, Words, Line, Memory}
use Rattle.qx_play.specs.Play.{shown}
use Rattle.qx_script.specs.Script.{script, Bad, Good}
use Rattle.qx_sh.specs.Watched.{NoReadFailed, NoWriteFailed, Told}
use Rattle.qx_sh.specs.Written.{AppendsFront}

-- the script is good, and this is the text that it prints
pub record Prints (bytes text : List ℕ) : Type 0 where
  pub config : Configuration
  pub commands : List Command
  pub good : script bytes ≡ Good config commands
  pub text_is : text ≡ shown config commands

-- the bytes that were read are no more than the limit, and all that there were to read, where those are known
pub record IsRead (limit : ℕ) (known : Option (List ℕ)) (bytes : List ℕ) : Type 0 where
  pub within : length bytes ≤ limit
  pub all : IfSome known (λ there. bytes ≡ there)

-- `Done`: a script was read, its whole text was written, and the writer flushed behind it
pub record WritesAll (limit : ℕ) (told : Told) : Type 0 where
  pub bytes : List ℕ
  pub read : IsRead limit told.there bytes
  pub text : List ℕ
  pub prints : Prints bytes text
  pub appends : Appends told.before told.after text
  pub flushed : told.flushed ≡ true
  pub no_read_failed : NoReadFailed told
  pub no_write_failed : NoWriteFailed told

-- nothing was written, and neither the reader nor the writer failed
pub record WritesNothing (told : Told) : Type 0 where
  pub unwritten : told.after ≡ told.before
  pub no_read_failed : NoReadFailed told
  pub no_write_failed : NoWriteFailed told

-- `Input`: the reader has failed, or has more bytes than the limit, where they are known; nothing was written
pub record Unread (limit : ℕ) (told : Told) : Type 0 where
  pub cause : (told.read_failed ≡ true) ⊎ IfSome told.there (λ there. limit < length there)
  pub unwritten : told.after ≡ told.before
  pub no_write_failed : NoWriteFailed told

-- `Output`: a script was read, a write or a flush has failed, or a write took nothing, and a front of the script's text was written
pub record WritesFront (limit : ℕ) (told : Told) : Type 0 where
  pub bytes : List ℕ
  pub read : IsRead limit told.there bytes
  pub text : List ℕ
  pub prints : Prints bytes text
  pub appends : AppendsFront told.before told.after text
  pub has_failed : told.write_failed ≡ true
  pub no_read_failed : NoReadFailed told

-- `Line`: a script was read that is bad, first at this line
pub record RefusedAt (line limit : ℕ) (told : Told) : Type 0 where
  pub bytes : List ℕ
  pub read : IsRead limit told.there bytes
  pub bad : script bytes ≡ Bad line
  pub writes_nothing : WritesNothing told

-- how a run ends, by the most bytes that it may read and what its reader and writer tell; it never refuses words
abbrev pub EndsAs : ℕ → Told → End → Type 0
EndsAs limit told Done = WritesAll limit told
EndsAs limit told Input = Unread limit told
EndsAs limit told Output = WritesFront limit told
EndsAs limit told Words = ⊥
EndsAs limit told (Line line) = RefusedAt line limit told
EndsAs limit told Memory = WritesNothing told
