-- What a recorder keeps of a step and of its outcome, and how many bytes these had.
use Rattle.std.specs.Prelude.{ℕ, ◌+◌, ◌-◌, ◌^◌, List, length, min, take}
use Rattle.qx_types.specs.declared.outcome.Outcome.{Outcome}
use Rattle.qx_types.specs.declared.outcome.Outcome.TheVariants as outcome
use Rattle.qx_types.specs.declared.request.Request.{Request}
use Rattle.qx_types.specs.declared.request.Request.TheVariants as request
use Rattle.qx_types.specs.declared.step.Step.{Step}
use Rattle.qx_types.specs.declared.step.Step.TheVariants as step
use Rattle.qx_types.specs.declared.cut.TheConstants.{KEPT}

-- the first bytes
abbrev pub cut : List ℕ → List ℕ
cut bytes = take KEPT bytes

-- a request, and a step, with each of its byte strings cut; all else stays
abbrev pub cut_request : Request → Request
cut_request (request.OpenPath flags mode path) = request.OpenPath flags mode (cut path)
cut_request (request.StatPath path) = request.StatPath (cut path)
cut_request (request.Unlink path) = request.Unlink (cut path)
cut_request (request.Mkdir mode path) = request.Mkdir mode (cut path)
cut_request (request.Rename from to) = request.Rename (cut from) (cut to)
cut_request (request.Write coid bytes) = request.Write coid (cut bytes)
cut_request (request.List coid after) = request.List coid (cut after)
cut_request (request.Raw coid bytes) = request.Raw coid (cut bytes)
cut_request other = other

abbrev pub cut_step : Step → Step
cut_step (step.Call thread request) = step.Call thread (cut_request request)
cut_step (step.Mount thread path manager) = step.Mount thread (cut path) manager
cut_step other = other

-- an outcome with the bytes of a reply cut
abbrev pub cut_outcome : Outcome → Outcome
cut_outcome (outcome.Reply status bytes) = outcome.Reply status (cut bytes)
cut_outcome other = other

-- how many bytes there were; of two paths both together, at most the greatest number of 64 bits
abbrev pub bytes_of_request : Request → ℕ
bytes_of_request (request.OpenPath flags mode path) = length path
bytes_of_request (request.StatPath path) = length path
bytes_of_request (request.Unlink path) = length path
bytes_of_request (request.Mkdir mode path) = length path
bytes_of_request (request.Rename from to) = min (length from + length to) (2 ^ 64 - 1)
bytes_of_request (request.Write coid bytes) = length bytes
bytes_of_request (request.List coid after) = length after
bytes_of_request (request.Raw coid bytes) = length bytes
bytes_of_request _ = 0

abbrev pub bytes_of_step : Step → ℕ
bytes_of_step (step.Call thread request) = bytes_of_request request
bytes_of_step (step.Mount thread path manager) = length path
bytes_of_step _ = 0

abbrev pub bytes_of_outcome : Outcome → ℕ
bytes_of_outcome (outcome.Reply status bytes) = length bytes
bytes_of_outcome _ = 0
