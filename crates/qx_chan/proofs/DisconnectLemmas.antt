-- A disconnect pulse is performed: the open control blocks of its client go, its server connection goes, and who waited for them is answered, as in
-- the machine.
use Rattle.std.proofs.Common.{◌≡◌, ℕ, List, Option, Some, None, Ok, map, refl, sym, ◌∙◌, ap}
use Rattle.qx_types.specs.declared.names.Proc.{Proc}
use Rattle.qx_types.specs.declared.outcome.Outcome.TheVariants.{WrongState}
use Rattle.qx_machine.specs.declared.rows.Client.{Client}
use Rattle.qx_isolation.specs.declared.rows.ServerName.{ServerName}
use Rattle.qx_machine.specs.Functions.{Deed}
use Rattle.qx_isolation.specs.Judgements.{◌>>=◌, found}
use Rattle.qx_machine.specs.Managers.{close_client}
use Rattle.qx_machine.specs.Parts.{Part, with_process}
use Rattle.qx_machine.specs.Performing.{Served, answering, or_kept, serve_disconnect}
use Rattle.qx_machine.specs.Processes.{Process, without_server}
use Rattle.qx_machine.specs.Resources.{Resources}
use Rattle.qx_isolation.specs.Rows.{row_at, with_row}
use Rattle.qx_machine.specs.Settling.{is_living}
use Rattle.qx_machine.proofs.Living.{lives-answers, lives-changed}
use Rattle.qx_machine.proofs.Waiters.{client-keeps}
use Rattle.qx_shared.specs.Shared.{users_given}
use Rattle.qx_resources.specs.Disconnects.{disconnected}
use Rattle.qx_resources.specs.State as state
use Rattle.qx_resources.specs.State.{told}
use Rattle.qx_resources.specs.declared.tables.Tables.{Tables as AllTables}
use Rattle.qx_chan.specs.inner.Answers.{given_lines}
use Rattle.qx_chan.specs.inner.Kept.{AllStandTogether, Answering}
use Rattle.qx_chan.specs.Serving.{Serves, settled}
use Rattle.qx_chan.specs.inner.Serving.{Leaves}
use Rattle.qx_chan.specs.Users.{Users, process_of, process_of_user, with_process_of}
use Rattle.qx_chan.proofs.FreedLemmas.{Answering-freed}
use Rattle.qx_chan.proofs.GivenLemmas.{lines-machine, resources-machine, users-machine}
use Rattle.qx_chan.proofs.RowReads.{with_row-twice}
use Rattle.qx_chan.proofs.ServeLemmas.{Answering-left, Serves-given, Serves-nothing, Waits, given_all, shown, waits-before}
use Rattle.qx_chan.proofs.ServedLemmas.{changed-there}

module _ (users : Users) (w : AllTables) (k : state.Kept) (proc : Proc) (of : k.user ≡ proc.user.0) (server : ServerName) (moment : ℕ) where
  abbrev client : Client
  client = record { process = proc.num; server = server }

  abbrev served : Part → Served
  served part = or_kept part (serve_disconnect part client moment)

  abbrev part_of : List (Option Process) → Part
  part_of processes = record { processes = processes; resources = told k w }

  abbrev deed : Deed Resources
  deed = close_client (told k w) client moment

  -- what it comes to, by the row of the process
  abbrev served_from : Part → Option Process → Served
  served_from part row = or_kept part (found row WrongState >>= (λ process. Ok (answering (with_process proc.num (without_server server) part) deed)))

  -- nothing, where the process is not there
  pub Serves-gone : process_of users proc ≡ None → Serves (shown users w.shared w.mounts w.events.events) (shown users w.shared w.mounts w.events.events) k k (λ part. settled part (or_kept part (serve_disconnect part (record { process = proc.num; server = server }) moment)))
  Serves-gone none = Serves-nothing users w k served (λ processes there. ap (served_from (part_of processes)) (sym (ap (process_of_user proc.num) (sym (ap (row_at users) of) ∙ there)) ∙ none))

  module _ {spare : Option (List ℕ)} (kept : AllStandTogether users w spare) (l : state.Kept) (v : AllTables) (processes : List (Option Process)) (there : row_at users proc.user.0 ≡ Some processes) (process : Process) (here : row_at processes proc.num ≡ Some process)
      (user : l.user ≡ k.user) (told_is : told l v ≡ (disconnected (is_living processes) (told k w) (record { process = proc.num; server = server }) moment).state)
      (shared : v ≡ state.shared k w (disconnected (is_living processes) (told k w) (record { process = proc.num; server = server }) moment).state (disconnected (is_living processes) (told k w) (record { process = proc.num; server = server }) moment).answers) where
    abbrev rows : List (Option Process)
    rows = with_row processes proc.num (without_server server)

    abbrev left_part : Part
    left_part = record { processes = rows; resources = deed.state }

    abbrev freed : Users
    freed = with_process_of users proc (without_server server)

    freed-there : row_at freed proc.user.0 ≡ Some rows
    freed-there = changed-there users proc (without_server server) processes there

    left : Leaves (is_living processes) k w l v deed
    left = record { told_is = told_is; shared = ap (λ (v : AllTables). v.shared) shared; events = ap (λ (v : AllTables). v.events.events) shared; mounts = ap (λ (v : AllTables). v.mounts) shared; user = user }

    pub Answering-gone : Answering (with_process_of users proc (without_server server)) v.shared
    Answering-gone = Answering-freed users proc server v.shared (Answering-left users k.user w.shared v.shared deed kept.shared left.shared
        (client-keeps (Waits users k.user) (told k w) client moment (waits-before users k.user w.shared kept.shared.waits)))

    pub Serves-disconnected : Serves (shown users w.shared w.mounts w.events.events) (given_all (with_process_of users proc (without_server server)) v.shared v.mounts v.events.events) k l (λ part. settled part (or_kept part (serve_disconnect part (record { process = proc.num; server = server }) moment)))
    Serves-disconnected = Serves-given users w k served kept.shared l v deed proc.user.0 of processes there left (answering (with_process proc.num (without_server server) (part_of processes)) deed) (ap (served_from (part_of processes)) here)
        (resources-machine deed.answers left_part) (lives-answers deed.answers left_part ∙ lives-changed processes proc.num (without_server server) (record { keeps = λ process. refl })) freed v.shared refl refl
        (users-machine freed proc.user.0 deed.answers left_part freed-there
        ∙ with_row-twice users proc.user.0 (λ rows. with_row rows proc.num (without_server server)) (λ _. (answering (with_process proc.num (without_server server) (part_of processes)) deed).part.processes))
        (ap (λ q. given_lines freed q.lines (map (users_given proc.user.0) deed.answers)) left.shared ∙ lines-machine freed proc.user.0 w.shared.lines deed.answers (with_process proc.num (without_server server) (part_of processes)) freed-there)
