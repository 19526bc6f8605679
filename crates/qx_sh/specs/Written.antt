-- What is written, and how the program ends.
use Rattle.std.specs.Prelude.{◌≡◌, ℕ, List, [], ◌++◌, Option, codes, decimal}
use Rattle.std.specs.Io.KnownBytes.{Appends}
use Rattle.qx_sh.specs.declared.ending.End.{End}
use Rattle.qx_sh.specs.declared.ending.End.TheVariants.{Done, Input, Output, Words, Line, Memory}

-- a front of the text is appended
pub record AppendsFront (old new : Option (List ℕ)) (text : List ℕ) : Type 0 where
  pub front : List ℕ
  pub rest : List ℕ
  pub parts : text ≡ front ++ rest
  pub appends : Appends old new front

-- the program's exit status
abbrev pub status_of : End → ℕ
status_of Done = 0
status_of Input = 1
status_of Output = 1
status_of Words = 2
status_of (Line line) = 3
status_of Memory = 4

-- the line on standard error
abbrev pub report_text : End → List ℕ
report_text Done = []
report_text Input = codes "qnxsh: input\n"
report_text Output = codes "qnxsh: output\n"
report_text Words = codes "qnxsh: words\n"
report_text (Line line) = codes "qnxsh: line " ++ decimal line ++ codes "\n"
report_text Memory = codes "qnxsh: memory\n"
