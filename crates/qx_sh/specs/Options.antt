-- What the command line of `qnxsh` asks for.
use Rattle.std.specs.Prelude.{◌≡◌, ◌≤◌, ℕ, List, [], Option, Some, None, codes}
use Rattle.std.specs.Fmt.{decimal}
use Rattle.clap.specs.Kinds.{Kinds}
use Rattle.clap.specs.Faults.{fault_of}
use Rattle.clap.specs.Simple.{App, matches_of, new_app, new_rule, with_rule}
use Rattle.clap.specs.Walk.{Rule, Text, first_of}

-- the command, with its one option `--limit`, a text
abbrev pub limit_option : Rule
limit_option = record (new_rule (codes "limit")) { long = Some (codes "limit") }

abbrev pub qnxsh_command : App
qnxsh_command = with_rule (new_app (codes "qnxsh")) limit_option

-- why clap refuses the words, apart from want of memory; empty where it takes them
unfoldable pub refusal : List Text → Kinds
refusal words = fault_of qnxsh_command words

-- the text that `--limit` has in clap's matches of the words
unfoldable pub limit_text : List Text → Option Text
limit_text words = first_of (codes "limit") (matches_of qnxsh_command words)

-- the text is the limit in decimal digits, without a leading zero; a limit is 1 to 16,777,216
abbrev pub WritesLimit : Text → ℕ → Type 0
WritesLimit text limit = (text ≡ decimal limit) × (1 ≤ limit) × (limit ≤ 16_777_216)

-- the limit that the text of `--limit` asks for, or the default where there is none
abbrev pub IsLimitOf : Option Text → ℕ → Type 0
IsLimitOf (Some text) limit = WritesLimit text limit
IsLimitOf None limit = limit ≡ 1_048_576

-- clap takes the words, and they ask for this limit
abbrev pub AsksFor : List Text → ℕ → Type 0
AsksFor words limit = (refusal words ≡ []) × IsLimitOf (limit_text words) limit

-- clap refuses the words, or the text of `--limit` is no limit
abbrev pub AsksForNone : List Text → Type 0
AsksForNone words = (limit : ℕ) → ¬ AsksFor words limit
