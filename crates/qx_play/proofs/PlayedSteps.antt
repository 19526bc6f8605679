-- The steps that a script takes are such that a line can say them.
use Rattle.std.proofs.Common.{◌≡◌, ℕ, zero, suc, ◌*◌, Bool, true, false, cond, List, [], ◌∷◌, ◌++◌, Option, Some, None, arith}
use Rattle.std.specs.Prelude.{All}
use Rattle.std.proofs.lemmas.List.Elements.{All-append, All-cons, All-head, All-nil, All-push, All-tail}
use Rattle.qx_types.specs.Configuration.{Configuration}
use Rattle.qx_types.specs.declared.names.Manager.{Manager}
use Rattle.qx_types.specs.declared.names.Thread.{Thread}
use Rattle.qx_types.specs.declared.step.Step.{Step}
use Rattle.qx_types.specs.declared.step.Step.TheVariants.{Call, TakeReply, Receive, Perform}
use Rattle.qx_machine.specs.Machine.{World, step}
use Rattle.qx_script.specs.declared.command.Command.{Command}
use Rattle.qx_script.specs.declared.command.Command.TheVariants.{Take, Serve, Do, Show, Erased, Trace}
use Rattle.qx_machine.specs.Reads.{next_manager}
use Rattle.qx_machine.specs.Runs.{world_after}
use Rattle.qx_live.specs.Chosen.{first_worker, followed, items_waiting, round_steps, rounds, served_steps}
use Rattle.qx_play.specs.Play.{Played, all_served, called, hand_emptied, has_answer, is_holding, is_sent, played, played_line, played_lines, with_reply_taken, with_lines_served, world_played}
use Rattle.qx_words.specs.Kinds.{CanNameThread}
use Rattle.qx_script.specs.Lines.{CanSay}
use Rattle.qx_script.specs.Script.{Good, script}
use Rattle.qx_script.proofs.ReadCommands.{CanSayCommand, IsMoment}
use Rattle.qx_script.proofs.ReadScripts.{script_read}

abbrev pub AllSaid : Configuration → List Step → Type 0
AllSaid config steps = All (CanSay config.users) steps

either : (config : Configuration) (b : Bool) (xs ys : List Step) → AllSaid config xs → AllSaid config ys → AllSaid config (cond b xs ys)
either config true xs ys first second = first
either config false xs ys first second = second

managed : (config : Configuration) (next : Option Manager) (steps : List Step) (more : Manager → List Step) → AllSaid config steps
    → ((manager : Manager) → AllSaid config (more manager)) → AllSaid config (elim next [ None ↦ steps | Some manager ↦ more manager ])
managed config None steps more first second = first
managed config (Some manager) steps more first second = second manager

pushed : (config : Configuration) (steps : List Step) (last : Step) → AllSaid config steps → CanSay config.users last → AllSaid config (steps ++ last ∷ [])
pushed config steps last all said = All-push (CanSay config.users) steps last all said

round_said : (config : Configuration) (moment : ℕ) (manager : Manager) → IsMoment moment → AllSaid config (round_steps moment manager)
round_said config moment manager within =
    let say = CanSay config.users in
    let does = Perform first_worker moment in
    All-cons say (Receive first_worker manager) (does ∷ []) (omega arith, (tt, tt)) (All-cons say does [] (omega arith, (within, tt)) (All-nil say))

rounds_said : (left : ℕ) (config : Configuration) (moment : ℕ) (w : World) → IsMoment moment → AllSaid config (rounds left moment w)
rounds_said zero config moment w within = All-nil (CanSay config.users)
rounds_said (suc left) config moment w within =
    managed config (next_manager w) [] (λ manager. followed w (round_steps moment manager) (rounds left moment)) (All-nil (CanSay config.users))
    (λ manager. All-append (CanSay config.users) (round_steps moment manager) (rounds left moment (world_after w (round_steps moment manager)))
    (round_said config moment manager within) (rounds_said left config moment (world_after w (round_steps moment manager)) within))

served_said : (config : Configuration) (moment : ℕ) (steps : List Step) → IsMoment moment → AllSaid config steps → AllSaid config (with_lines_served config moment steps)
unfolding with_lines_served all_served hand_emptied served_steps
served_said config moment steps within all =
    let w = world_played config (hand_emptied config moment steps) in
    All-append (CanSay config.users) (hand_emptied config moment steps) (rounds (2 * items_waiting w) moment w)
    (either config (is_holding (world_played config steps)) _ steps (pushed config steps (Perform first_worker moment) all (omega arith, (within, tt))) all)
    (rounds_said (2 * items_waiting w) config moment w within)

replied_said : (config : Configuration) (thread : Thread) (steps : List Step) → CanNameThread config.users thread → AllSaid config steps → AllSaid config (with_reply_taken config thread steps)
unfolding with_reply_taken
replied_said config thread steps can all =
    either config (has_answer (world_played config steps) thread) _ steps (pushed config steps (TakeReply thread) all (can, tt)) all

called_said : (config : Configuration) (moment : ℕ) (thread : Thread) (call : Step) (steps : List Step) → IsMoment moment → CanNameThread config.users thread
    → CanSay config.users call → AllSaid config steps → AllSaid config (called config moment thread call steps)
unfolding called
called_said config moment thread call steps within can said all =
    let sent = pushed config steps call all said in
    either config (is_sent (step (world_played config steps) call).outcome) _ _
    (replied_said config thread (with_lines_served config moment (steps ++ call ∷ [])) can (served_said config moment (steps ++ call ∷ []) within sent)) sent

line_said : (config : Configuration) (before : Played) (command : Command) → CanSayCommand config.users command → AllSaid config before.steps
    → AllSaid config (played_line config before command).steps
line_said config before (Take taken) said all = pushed config before.steps taken all said
line_said config before (Serve moment) said all = served_said config moment before.steps said all
line_said config before (Do moment thread request) said all =
    called_said config moment thread (Call thread request) before.steps said.0 said.1.0 said.1.1 all
line_said config before (Show user) said all = all
line_said config before (Erased user) said all = all
line_said config before Trace said all = all

lines_said : (config : Configuration) (before : Played) (commands : List Command) → All (CanSayCommand config.users) commands → AllSaid config before.steps
    → AllSaid config (played_lines config before commands).steps
lines_said config before [] said all = all
lines_said config before (command ∷ commands) said all =
    lines_said config (played_line config before command) commands (All-tail (CanSayCommand config.users) command commands said)
    (line_said config before command (All-head (CanSayCommand config.users) command commands said) all)

pub played_said : (text : List ℕ) (config : Configuration) (commands : List Command) → script text ≡ Good config commands → AllSaid config (played config commands).steps
played_said text config commands is =
    lines_said config (record { steps = []; text = [] }) commands (script_read text config commands is).said (All-nil (CanSay config.users))
