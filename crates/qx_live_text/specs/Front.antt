-- What a live session answers to the lines of a text: at each line, the text of what is written there.
use Rattle.std.specs.Prelude.{ℕ, ◌+◌, ◌==◌, Bool, List, [], ◌∷◌, ◌++◌, Option, Some, None, codes, drop, if◌then◌else◌, option_map, position, take}
use Rattle.std.specs.List.{onto_first}
use Rattle.qx_types.specs.Configuration.{Configuration}
use Rattle.qx_types.specs.Step.{actor_of}
use Rattle.qx_types.specs.declared.names.Actor.{Actor}
use Rattle.qx_types.specs.declared.step.Step.{Step}
use Rattle.qx_types.specs.declared.step.Step.TheVariants.{Call}
use Rattle.qx_words.specs.Words.{moment_of}
use Rattle.qx_script.specs.declared.command.Command.{Command}
use Rattle.qx_script.specs.declared.command.Command.TheVariants.{Take, Serve, Do, Show, Erased, Trace}
use Rattle.qx_script.specs.Script.{Script, Bad, Good, is_skipped, script}
use Rattle.qx_machine.specs.Machine.{World}
use Rattle.qx_live.specs.Live.{Session, after_line, begun}
use Rattle.qx_live.specs.declared.line.LiveLine.{LiveLine}
use Rattle.qx_live_text.specs.declared.line.BadLine.{BadLine}
use Rattle.qx_live_text.specs.declared.line.BadLine.TheVariants.{Unread, NotAClients, Late, NotKept}
use Rattle.qx_live_text.specs.declared.line.Said.{Said}
use Rattle.qx_live_text.specs.declared.line.Said.TheVariants as says
use Rattle.qx_play.specs.Play.{session_trace}
use Rattle.qx_play.specs.Printed.{transcript_text}

-- ---- a line

-- a line with its moment
pub record AtMoment : Type 0 where
  pub moment : ℕ
  pub line : List ℕ

abbrev pub behind_moment : ℕ → List ℕ → ℕ → Option ℕ → AtMoment
behind_moment number line place None = record { moment = number; line = line }
behind_moment number line place (Some moment) = record { moment = moment; line = drop (place + 1) line }

abbrev pub around_space : ℕ → List ℕ → Option ℕ → AtMoment
around_space number line None = record { moment = number; line = line }
around_space number line (Some place) = behind_moment number line place (moment_of (take place line))

-- a moment may stand before the first space; else the line's number is its moment
unfoldable pub at_moment : ℕ → List ℕ → AtMoment
at_moment number line = around_space number line (position (λ byte. byte == 32) line)

abbrev pub by_actor : Configuration → ℕ → Step → Option Actor → Said
by_actor config moment e (Some actor) = says.Asks config (record { moment = moment; step = e })
by_actor config moment e None = says.Bad NotAClients

-- a `do` has a moment of its own
abbrev pub asked : Configuration → ℕ → Command → Said
asked config moment (Take e) = by_actor config moment e (actor_of e)
asked config moment (Serve at) = says.Bad NotAClients
asked config moment (Do at thread request) = says.Asks config (record { moment = at; step = Call thread request })
asked config moment (Show user) = says.Bad NotAClients
asked config moment (Erased user) = says.Bad NotAClients
asked config moment Trace = says.Traces config

-- what the last line of a script asks for, which alone may be a command
abbrev pub said_of : ℕ → Script → Said
said_of moment (Bad line) = says.Bad Unread
said_of moment (Good config []) = says.Setting
said_of moment (Good config (command ∷ rest)) = asked config moment command

abbrev pub bad_text : BadLine → List ℕ
bad_text Unread = codes "bad: no line of a script\n"
bad_text NotAClients = codes "bad: no client's step\n"
bad_text Late = codes "bad: a setting after the first step\n"
bad_text NotKept = codes "bad: no lines are kept\n"

-- ---- a front

-- how many lines came, those that set something, the world from the first step on, and the lines of steps, if they are kept
pub record Front : Type 0 where
  pub number : ℕ
  pub settings : List ℕ
  pub world : Option World
  pub kept : Option (List LiveLine)

abbrev pub unasked : Bool → Front
unasked keeps = record { number = 0; settings = []; world = None; kept = if keeps then Some [] else None }

-- the front after lines, and the text that answers them
pub record Answered : Type 0 where
  pub front : Front
  pub text : List ℕ

-- without a world the first step has one
abbrev pub session_at : Configuration → Option World → Session
session_at config None = begun config
session_at config (Some w) = record { world = w; written = [] }

abbrev pub told : Front → LiveLine → Session → Answered
told front line session = record {
  front = record front { world = Some session.world; kept = option_map (λ lines. lines ++ line ∷ []) front.kept };
  text = transcript_text session.world.config session.written;
}

-- the trace of a session that took the lines
abbrev pub traced : Front → Configuration → Option (List LiveLine) → Answered
traced front config None = record { front = front; text = bad_text NotKept }
traced front config (Some lines) = record { front = front; text = session_trace config lines }

abbrev pub with_setting : Front → List ℕ → Option World → Answered
with_setting front line None = record { front = record front { settings = front.settings ++ line ++ codes "\n" }; text = [] }
with_setting front line (Some w) = record { front = front; text = bad_text Late }

abbrev pub answer_to : Front → List ℕ → Said → Answered
answer_to front line says.Setting = with_setting front line front.world
answer_to front line (says.Asks config asked) = told front asked (after_line (session_at config front.world) asked)
answer_to front line (says.Traces config) = traced front config front.kept
answer_to front line (says.Bad bad) = record { front = front; text = bad_text bad }

abbrev pub counted : Front → Front
counted front = record front { number = front.number + 1 }

-- an empty line or a comment is not answered
abbrev pub answer_timed : Front → AtMoment → Answered
answer_timed front at =
    if is_skipped at.line then record { front = front; text = [] }
    else answer_to front at.line (said_of at.moment (script (front.settings ++ at.line)))

unfoldable pub answer : Front → List ℕ → Answered
answer front line = answer_timed (counted front) (at_moment (front.number + 1) line)

abbrev pub answers : Front → List (List ℕ) → Answered
answers front [] = record { front = front; text = [] }
answers front (line ∷ lines) =
    let first = answer front line in
    let rest = answers first.front lines in
    record { front = rest.front; text = first.text ++ rest.text }

-- ---- texts

-- the lines of a text: each ends with a newline, which the last may lack
abbrev pub text_lines : List ℕ → List (List ℕ)
text_lines [] = []
text_lines (byte ∷ bytes) = if byte == 10 then [] ∷ text_lines bytes else onto_first byte (text_lines bytes)

-- the front after the lines of a text, and what answers them
abbrev pub after_text : Front → List ℕ → Answered
after_text front text = answers front (text_lines text)

-- what answers the lines of two texts, one behind the other
unfoldable pub session_text : Bool → List ℕ → List ℕ → List ℕ
session_text keeps first text = (answers (unasked keeps) (text_lines first ++ text_lines text)).text
