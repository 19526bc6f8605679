-- What a `show` line prints is what the user receives in the erased run, which an `erased` line prints.
use Rattle.std.proofs.Common.{◌≡◌, ◌∙◌, List, [], ◌∷◌, ◌++◌, refl, ap, sym, append_assoc, append-nil, map}
use Rattle.qx_types.specs.Configuration.{Configuration}
use Rattle.qx_types.specs.declared.names.User.{User}
use Rattle.qx_types.specs.declared.step.Step.{Step}
use Rattle.qx_machine.specs.Machine.{machine}
use Rattle.qx_machine.specs.Runs.{erase, received, run}
use Rattle.qx_isolation.proofs.Runs.{run_received}
use Rattle.qx_script.specs.declared.command.Command.{Command}
use Rattle.qx_script.specs.declared.command.Command.TheVariants.{Erased, Show, Take}
use Rattle.qx_play.specs.Play.{Played, played, played_line, played_lines, shown}
use Rattle.qx_play.specs.Printed.{transcript_text}

-- the lines before the last, and then the last
last_line : (config : Configuration) (before : Played) (commands : List Command) (last : Command)
    → played_lines config before (commands ++ last ∷ []) ≡ played_line config (played_lines config before commands) last
last_line config before [] last = refl
last_line config before (command ∷ commands) last = last_line config (played_line config before command) commands last

pub shown_last : (config : Configuration) (commands : List Command) (user : User)
    → shown config (commands ++ Show user ∷ []) ≡ shown config commands ++ transcript_text config (received user.0 (run config (erase user.0 config (played config commands).steps)).entries)
unfolding shown
shown_last config commands user =
    ap (λ (played : Played). played.text) (last_line config (record { steps = []; text = [] }) commands (Show user))
    ∙ ap (λ seen. (played config commands).text ++ transcript_text config seen) (run_received machine config (played config commands).steps user.0)

pub erased_last : (config : Configuration) (commands : List Command) (user : User) → shown config (commands ++ Erased user ∷ []) ≡ shown config (commands ++ Show user ∷ [])
unfolding shown
erased_last config commands user =
    ap (λ (played : Played). played.text) (last_line config (record { steps = []; text = [] }) commands (Erased user)) ∙ sym (shown_last config commands user)

played_again : (config : Configuration) (before : Played) (steps : List Step) → (played_lines config before (map Take steps)).steps ≡ before.steps ++ steps
played_again config before [] = sym (append-nil before.steps)
played_again config before (step ∷ steps) =
    played_again config (record { steps = before.steps ++ step ∷ []; text = before.text }) steps ∙ append_assoc before.steps (step ∷ []) steps

pub same_steps : (config : Configuration) (steps : List Step) → (played config (map Take steps)).steps ≡ steps
same_steps config steps = played_again config (record { steps = []; text = [] }) steps
