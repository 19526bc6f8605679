-- How the shell ends, from how a run does and from how a report does.
use Rattle.std.proofs.Common.{◌≡◌, ℕ, Bool, true, false, List, Option, Result, Ok, Err, OnErr, OnOk}
use Rattle.std.specs.Io.KnownBytes.{Appends}
use Rattle.qx_sh.specs.Written.{AppendsFront}
use Rattle.qx_sh.proofs.Written.{front_all}

-- whatever a report came to, a front of its line is written
pub front_reported : {T E : Type 0} (r : Result T E) (old new : Option (List ℕ)) (line : List ℕ)
    → OnOk r (Appends old new line) → OnErr r (AppendsFront old new line) → AppendsFront old new line
front_reported (Ok x) old new line whole front = front_all old new line whole
front_reported (Err e) old new line whole front = front

-- and the whole line, where nothing has failed
pub whole_reported : {T E : Type 0} (r : Result T E) (old new : Option (List ℕ)) (line : List ℕ) (failed : Bool)
    → OnOk r (Appends old new line) → OnErr r (failed ≡ true) → failed ≡ false → Appends old new line
whole_reported (Ok x) old new line failed whole fails unfailed = whole
whole_reported (Err e) old new line failed whole fails unfailed = cc
