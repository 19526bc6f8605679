-- What only the proofs need of Run.
use Rattle.std.specs.Prelude.{◌≡◌, ℕ, List, Result, Err, MatchResult}
use Rattle.std.specs.Global.{Vec}
use Rattle.qx_sh.specs.declared.ending.End.{End}
use Rattle.qx_sh.specs.declared.ending.End.TheVariants.{Done, Input, Output, Words, Line, Memory}
use Rattle.qx_play.specs.Play.{shown}
use Rattle.qx_script.specs.Script.{Script, script, Bad, Good}

-- a good script prints its text, or ends for want of memory; a bad one ends at its line
abbrev pub PlaysAs : Script → Result (Vec ℕ) End → Type 0
PlaysAs (Good config commands) played = MatchResult played (λ text. text.items ≡ shown config commands) (λ end. end ≡ Memory)
PlaysAs (Bad line) played = played ≡ Err (Line line)

-- how a script ends that prints nothing
abbrev pub EndsUnprinted : List ℕ → End → Type 0
EndsUnprinted bytes Done = ⊥
EndsUnprinted bytes Input = ⊥
EndsUnprinted bytes Output = ⊥
EndsUnprinted bytes Words = ⊥
EndsUnprinted bytes (Line line) = script bytes ≡ Bad line
EndsUnprinted bytes Memory = Unit {0}
