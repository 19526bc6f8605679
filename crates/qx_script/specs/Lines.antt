-- The lines of a script.
use Rattle.std.specs.Prelude.{ℕ, List, [], ◌∷◌, Option, Some, None, if◌then◌else◌, codes, option_map}
use Rattle.std.specs.Str.{bytes_eq}
use Rattle.qx_types.specs.Optional.{◌>>=◌}
use Rattle.qx_types.specs.declared.names.Thread.{Thread}
use Rattle.qx_types.specs.declared.request.Request.{Request}
use Rattle.qx_types.specs.declared.step.Step.{Step}
use Rattle.qx_types.specs.declared.step.Step.TheVariants.{Spawn, Exit, Call, TakeReply, TakePulse, SetPrio, Interrupt, Mount, Receive, Perform}
use Rattle.qx_script.specs.declared.setting.Setting.{Setting}
use Rattle.qx_script.specs.declared.setting.SettingName.TheVariants.{Ceiling, Disconnect, Limit}
use Rattle.qx_script.specs.declared.command.Command.{Command}
use Rattle.qx_script.specs.declared.command.Command.TheVariants.{Take, Serve, Do, Show, Erased, Trace}
use Rattle.qx_calls.specs.Calls.{call_in_line, call_said}
use Rattle.qx_calls.specs.Forms.{◌then◌, end, Line, Saying, CanBeSaid, by, read_one_of}
use Rattle.qx_words.specs.Kinds.{AName, AUser, AProcess, AThread, AByte, AFourByteNumber, AMoment, APath, AManager, ALimit}
use Rattle.qx_words.specs.Words.{moment_of}

-- who uses the system, what each user may ask for, and how many workers serve it

abbrev pub user_line : Line (List ℕ)
user_line = record { name = codes "user"; form = AName then end; made = λ name. name }

abbrev pub ceiling_line : Line Setting
ceiling_line = record { name = codes "ceiling"; form = AUser then AByte then end; made = λ user prio. record { user = user; name = Ceiling; value = prio } }

abbrev pub disconnect_line : Line Setting
disconnect_line = record { name = codes "disconnect"; form = AUser then AByte then end; made = λ user prio. record { user = user; name = Disconnect; value = prio } }

abbrev pub limit_line : Line Setting
limit_line = record { name = codes "limit"; form = AUser then ALimit then AFourByteNumber then end; made = λ user limit n. record { user = user; name = Limit limit; value = n } }

abbrev pub workers_line : Line ℕ
workers_line = record { name = codes "workers"; form = AByte then end; made = λ workers. workers }

-- steps

abbrev pub spawn_line : Line Step
spawn_line = record { name = codes "spawn"; form = AUser then AByte then AByte then end; made = λ user threads prio. Spawn user threads (record { 0 = prio }) }

abbrev pub exit_line : Line Step
exit_line = record { name = codes "exit"; form = AProcess then end; made = λ process. Exit process }

abbrev pub reply_line : Line Step
reply_line = record { name = codes "reply"; form = AThread then end; made = λ thread. TakeReply thread }

abbrev pub pulse_line : Line Step
pulse_line = record { name = codes "pulse"; form = AProcess then end; made = λ process. TakePulse process }

abbrev pub prio_line : Line Step
prio_line = record { name = codes "prio"; form = AThread then AByte then end; made = λ thread prio. SetPrio thread (record { 0 = prio }) }

abbrev pub interrupt_line : Line Step
interrupt_line = record { name = codes "interrupt"; form = AThread then end; made = λ thread. Interrupt thread }

abbrev pub mount_line : Line Step
mount_line = record { name = codes "mount"; form = AThread then APath then AManager then end; made = λ thread path manager. Mount thread path manager }

abbrev pub line_of_receive : Line Step
line_of_receive = record { name = codes "receive"; form = AByte then AManager then end; made = λ worker manager. Receive (record { 0 = worker }) manager }

abbrev pub perform_line : Line Step
perform_line = record { name = codes "perform"; form = AByte then AMoment then end; made = λ worker moment. Perform (record { 0 = worker }) moment }

abbrev pub step_lines : List (Line Step)
step_lines = spawn_line ∷ exit_line ∷ reply_line ∷ pulse_line ∷ prio_line ∷ interrupt_line ∷ mount_line ∷ line_of_receive ∷ perform_line ∷ []

-- the line that takes the step
abbrev pub step_said : Step → Saying
step_said (Spawn user threads prio) = by spawn_line (user, (threads, (prio.0, tt)))
step_said (Exit process) = by exit_line (process, tt)
step_said (Call thread request) = call_said thread request
step_said (TakeReply thread) = by reply_line (thread, tt)
step_said (TakePulse process) = by pulse_line (process, tt)
step_said (SetPrio thread prio) = by prio_line (thread, (prio.0, tt))
step_said (Interrupt thread) = by interrupt_line (thread, tt)
step_said (Mount thread path manager) = by mount_line (thread, (path, (manager, tt)))
step_said (Receive worker manager) = by line_of_receive (worker.0, (manager, tt))
step_said (Perform worker moment) = by perform_line (worker.0, (moment, tt))

abbrev pub CanSay : List (List ℕ) → Step → Type 0
CanSay users step = CanBeSaid users (step_said step)

-- commands

abbrev pub serve_line : Line Command
serve_line = record { name = codes "serve"; form = AMoment then end; made = λ moment. Serve moment }

abbrev pub show_line : Line Command
show_line = record { name = codes "show"; form = AUser then end; made = λ user. Show user }

abbrev pub erased_line : Line Command
erased_line = record { name = codes "erased"; form = AUser then end; made = λ user. Erased user }

abbrev pub trace_line : Line Command
trace_line = record { name = codes "trace"; form = end; made = Trace }

abbrev pub command_lines : List (Line Command)
command_lines = serve_line ∷ show_line ∷ erased_line ∷ trace_line ∷ []

-- the step that makes a call
abbrev pub call_step : Thread × Request → Step
call_step call = Call call.0 call.1

unfoldable pub step_in_line : List (List ℕ) → List ℕ → List (List ℕ) → Option Step
step_in_line users name words = read_one_of step_lines (option_map call_step (call_in_line users name words)) users name words

-- moment, a call
unfoldable pub do_of : List (List ℕ) → List (List ℕ) → Option Command
do_of users [] = None
do_of users (word ∷ []) = None
do_of users (word ∷ name ∷ words) = do
  moment ← moment_of word
  call ← call_in_line users name words
  Some (Do moment call.0 call.1)

-- a line that takes steps or prints, by its first word
unfoldable pub command_of : List (List ℕ) → List ℕ → List (List ℕ) → Option Command
command_of users name words =
    if bytes_eq name (codes "do") then do_of users words
    else read_one_of command_lines (option_map Take (step_in_line users name words)) users name words
