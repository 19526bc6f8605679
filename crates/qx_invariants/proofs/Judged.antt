-- What a judgement comes to: it gives what has a property, or it fails with an error that has one.
use Rattle.std.proofs.Common.{◌≡◌, inl, inr, ℕ, Bool, true, false, List, [], ◌∷◌, ◌++◌, map, refl, sym, ap, ◌∙◌}
use Rattle.std.specs.Prelude.{◌==◌, Option, Some, None, Result, Ok, Err, IfErr, IfOk, if◌then◌else◌}
use Rattle.std.proofs.lemmas.Bool.{cond_both, false≢true}
use Rattle.qx_base.specs.declared.errno.Errno.{Errno}
use Rattle.qx_base.specs.declared.errno.Errno.TheVariants.{EACCES, EAGAIN, EBADF, EEXIST, EINVAL, EMFILE, ENAMETOOLONG, ENOENT, ENOSPC, EPERM, EXDEV}
use Rattle.qx_types.specs.Configuration.{Configuration, limits_of, name_bytes}
use Rattle.qx_types.specs.UserLimits.{UserLimits}
use Rattle.qx_types.specs.declared.names.Actor.{Actor}
use Rattle.qx_types.specs.declared.names.Manager.{Manager}
use Rattle.qx_types.specs.declared.names.Prio.{Prio}
use Rattle.qx_types.specs.declared.names.Thread.{Thread}
use Rattle.qx_types.specs.declared.outcome.Answer.{Answer}
use Rattle.qx_types.specs.declared.outcome.Answer.TheVariants as answer
use Rattle.qx_types.specs.declared.outcome.Outcome.{Outcome}
use Rattle.qx_types.specs.declared.outcome.Outcome.TheVariants.{Busy, Idle, Nothing, Refused, WrongState}
use Rattle.qx_types.specs.declared.request.Request.{Request}
use Rattle.qx_types.specs.declared.request.Request.TheVariants as request
use Rattle.qx_types.specs.declared.step.Step.{Step}
use Rattle.qx_types.specs.declared.step.Step.TheVariants.{Call, Exit, Interrupt, Mount, Perform, Receive, SetPrio, Spawn, TakePulse, TakeReply}
use Rattle.qx_types.specs.Step.{actor_of, user_of}
use Rattle.qx_paths.specs.Mounts.{located, longest, mount_fault, resolve, top_fault}
use Rattle.qx_paths.specs.Paths.{component_fault, first_fault, or_fault, read_path, unless}
use Rattle.qx_paths.specs.Prefixes.{MountPoint}
use Rattle.qx_paths.specs.declared.resolved.Resolved.{Resolved}
use Rattle.qx_isolation.specs.declared.rows.OwnItem.{OwnItem}
use Rattle.qx_isolation.specs.Judgements.{◌>>=◌, found, need, or_refused}
use Rattle.qx_isolation.specs.Rows.{row_at}
use Rattle.qx_machine.specs.declared.rows.Over.{Over}
use Rattle.qx_machine.specs.declared.rows.Over.TheVariants.{Side}
use Rattle.qx_machine.specs.declared.rows.Pulse.{Pulse}
use Rattle.qx_machine.specs.declared.rows.State.{State}
use Rattle.qx_machine.specs.declared.rows.State.TheVariants as state
use Rattle.qx_machine.specs.Calls.{Opens, Connects, ConnectsBoth, Uses, Duplicates, address, connection_at, free_connection, is_ready, may_call, place_of, request_in_ranges, target_at, to_place}
use Rattle.qx_machine.specs.Clients.{ClientStep, answer_in, client_given, interrupt_in, may_give, mount_by, or_unchanged, outcome_of, pulse_taken, spawn_number, target_by}
use Rattle.qx_machine.specs.Events.{first_pulse}
use Rattle.qx_machine.specs.Laws.{is_refusal}
use Rattle.qx_machine.specs.Machine.{World, After, client_step, item_to_do, item_to_take, or_same_world, own_held, perform, receive, server_step, step, step_of}
use Rattle.qx_machine.specs.Mounting.{new_mount}
use Rattle.qx_machine.specs.Inodes.{inode_number}
use Rattle.qx_machine.specs.Parts.{Part, thread_at}
use Rattle.qx_machine.specs.Processes.{Process, living}
use Rattle.qx_machine.specs.Resources.{Resources}
use Rattle.qx_machine.specs.Users.{client}
use Rattle.qx_invariants.specs.Errors.{IsAmong, call, form, path, refusals, refused}

-- it gives what has the one property, or an error that has the other
pub record Comes {A E : Type 0} (Q : A → Type 0) (N : E → Type 0) (given : Result A E) : Type 0 where
  pub gives : IfOk given Q
  pub fails : IfErr given N

-- whatever it gives
abbrev pub Anything : {A : Type 0} → A → Type 0
Anything value = Unit {0}

pub comes_done : {A E : Type 0} (Q : A → Type 0) (N : E → Type 0) (value : A) → Q value → Comes Q N (Ok value)
comes_done Q N value h = record { gives = h; fails = tt }

pub comes_error : {A E : Type 0} (Q : A → Type 0) (N : E → Type 0) (error : E) → N error → Comes Q N (Err error)
comes_error Q N error h = record { gives = tt; fails = h }

pub comes_on : {A B E : Type 0} (Q : B → Type 0) (N : E → Type 0) (first : Result A E) (next : A → Result B E) → Comes Anything N first → ((value : A) → first ≡ Ok value → Comes Q N (next value)) → Comes Q N (first >>= next)
comes_on Q N (Ok value) next h each = each value refl
comes_on Q N (Err error) next h each = record { gives = tt; fails = h.fails }

pub comes_found : {A E : Type 0} (N : E → Type 0) (row : Option A) (error : E) → N error → Comes Anything N (found row error)
comes_found N (Some value) error h = record { gives = tt; fails = tt }
comes_found N None error h = record { gives = tt; fails = h }

pub comes_need : {E : Type 0} (N : E → Type 0) (test : Bool) (error : E) → N error → Comes Anything N (need test error)
comes_need N true error h = record { gives = tt; fails = tt }
comes_need N false error h = record { gives = tt; fails = h }

pub comes_if : {A E : Type 0} (Q : A → Type 0) (N : E → Type 0) (test : Bool) (first second : Result A E) → Comes Q N first → Comes Q N second → Comes Q N (if test then first else second)
comes_if Q N true first second h k = h
comes_if Q N false first second h k = k

pub comes_refused : {A : Type 0} (N : Errno → Type 0) (M : Outcome → Type 0) (given : Result A Errno) → Comes Anything N given → ((error : Errno) → N error → M (Refused error)) → Comes Anything M (or_refused given)
comes_refused N M (Ok value) h each = record { gives = tt; fails = tt }
comes_refused N M (Err error) h each = record { gives = tt; fails = each error h.fails }

-- ---- lists

module _ {A : Type 0} where
  pub among_first : (it : A) (xs ys : List A) → IsAmong it xs → IsAmong it (xs ++ ys)
  among_first it [] ys h = elim h [ ]
  among_first it (x ∷ xs) ys (inl same) = inl same
  among_first it (x ∷ xs) ys (inr later) = inr (among_first it xs ys later)

  pub among_rest : (it : A) (xs ys : List A) → IsAmong it ys → IsAmong it (xs ++ ys)
  among_rest it [] ys h = h
  among_rest it (x ∷ xs) ys h = inr (among_rest it xs ys h)

  pub among_map : {B : Type 0} (f : A → B) (it : A) (xs : List A) → IsAmong it xs → IsAmong (f it) (map f xs)
  among_map f it [] h = elim h [ ]
  among_map f it (x ∷ xs) (inl same) = inl (ap f same)
  among_map f it (x ∷ xs) (inr later) = inr (among_map f it xs later)

-- ---- paths

-- a fault, if there is one, has a property
abbrev IfFault : (Errno → Type 0) → Option Errno → Type 0
IfFault N None = Unit {0}
IfFault N (Some error) = N error

module _ (N : Errno → Type 0) where
  fault_if : (test : Bool) (first second : Option Errno) → IfFault N first → IfFault N second → IfFault N (if test then first else second)
  fault_if true first second h k = h
  fault_if false first second h k = k

  unless_comes : {A : Type 0} (fault : Option Errno) (value : A) → IfFault N fault → Comes Anything N (unless fault value)
  unless_comes None value h = record { gives = tt; fails = tt }
  unless_comes (Some error) value h = record { gives = tt; fails = h }

  module _ (long : N ENAMETOOLONG) (bad : N EINVAL) where
    component_named : (name : List ℕ) → IfFault N (component_fault name)
    component_named name = search (fault_if, long, bad)

    either_named : (fault later : Option Errno) → IfFault N fault → IfFault N later → IfFault N (or_fault fault later)
    either_named (Some error) later h k = h
    either_named None later h k = k

    first_named : (names : List (List ℕ)) → IfFault N (first_fault names)
    first_named [] = tt
    first_named (name ∷ names) = either_named (component_fault name) (first_fault names) (component_named name) (first_named names)

    pub path_comes : (bytes : List ℕ) → Comes Anything N (read_path bytes)
    path_comes bytes = search (comes_if, comes_error, unless_comes, first_named, long, bad)

  module _ (others : N EACCES) (nobody : N ENOENT) where
    top_named : (names : List (List ℕ)) (own : List ℕ) (names_of : List (List ℕ)) → IfFault N (top_fault names own names_of)
    top_named names own [] = others
    top_named names own (first ∷ rest) = search (fault_if, others, nobody)

    located_comes : (fault : Option Errno) (place : Option Resolved) → IfFault N fault → Comes Anything N (located fault place)
    located_comes (Some error) place h = record { gives = tt; fails = h }
    located_comes None None h = record { gives = tt; fails = nobody }
    located_comes None (Some place) h = record { gives = tt; fails = tt }

    resolve_comes : (names : List (List ℕ)) (own : List ℕ) (mounts : List MountPoint) (at : List (List ℕ)) → Comes Anything N (resolve names own mounts at)
    resolve_comes names own mounts at = located_comes (top_fault names own at) (longest at None 0 mounts) (top_named names own at)

    pub place_comes : N ENAMETOOLONG → N EINVAL → (config : Configuration) (user : ℕ) (mounts : List MountPoint) (bytes : List ℕ) → Comes Anything N (place_of config user mounts bytes)
    place_comes long bad config user mounts bytes = comes_on _ N (read_path bytes) _ (path_comes long bad bytes) (λ names is. resolve_comes config.users (name_bytes config user) mounts names)

  -- a number is free, or it is the one above the last
  pub inode_comes : N ENOSPC → (r : Resources) → Comes Anything N (inode_number r.inodes)
  inode_comes full r = search (comes_if, comes_done, comes_error, full)

  taken_named : N EEXIST → N ENOSPC → (most : ℕ) (mounts : List MountPoint) (names : List (List ℕ)) → IfFault N (mount_fault most mounts names)
  taken_named there full most mounts names = search (fault_if, there, full)

  mount_comes : N ENAMETOOLONG → N EINVAL → N EACCES → N EEXIST → N ENOSPC → (name bytes : List ℕ) (manager : Manager) (r : Resources) → Comes Anything N (new_mount name bytes manager r)
  mount_comes long bad others there full name bytes manager r =
      comes_on _ N (read_path bytes) _ (path_comes long bad bytes) (λ names is. search (comes_on, comes_need, unless_comes, taken_named, inode_comes, comes_done, others, there, full))

-- ---- steps of clients

-- this outcome refuses no step
abbrev Goes : ClientStep → Type 0
Goes given = is_refusal given.outcome ≡ false

-- a step may be refused so
abbrev pub May : Step → Outcome → Type 0
May e outcome = IsAmong outcome (refusals e)

module _ (N : Outcome → Type 0) where
  give_comes : N (Refused EINVAL) → N (Refused EPERM) → (ceiling prio : ℕ) → Comes Anything N (may_give ceiling prio)
  unfolding may_give
  give_comes none above ceiling prio = search (comes_on, comes_need, none, above)

  spawn_comes : N (Refused EINVAL) → N (Refused EPERM) → N (Refused EAGAIN) → (limits : UserLimits) (processes : List (Option Process)) (threads prio : ℕ) → Comes Anything N (spawn_number limits processes threads prio)
  spawn_comes none above full limits processes threads prio = search (comes_on, comes_need, give_comes, comes_done, none, above, full)

  -- where a call goes
  connection_comes : N (Refused EBADF) → (coid : ℕ) (process : Process) → Comes Anything N (connection_at coid process)
  connection_comes gone coid process = search (comes_on, comes_need, comes_found, gone)

  free_comes : N (Refused EMFILE) → (most : ℕ) (process : Process) → Comes Anything N (free_connection most process)
  free_comes full most process = search (comes_on, comes_need, comes_done, full)

  place_to : N (Refused EAGAIN) → (most : ℕ) (processes : List (Option Process)) (process : Process) (place : Resolved) (to : List (List ℕ)) (over : Over) (prio : Prio) → Comes Anything N (to_place most processes process place to over prio)
  place_to full most processes process place to over prio = search (comes_on, comes_need, comes_done, full)

  -- of a path
  led_comes : ((error : Errno) → IsAmong error path → N (Refused error)) → (config : Configuration) (user : ℕ) (mounts : List MountPoint) (bytes : List ℕ) → Comes Anything N (or_refused (place_of config user mounts bytes))
  led_comes each config user mounts bytes =
      comes_refused (λ error. IsAmong error path) N (place_of config user mounts bytes)
      (place_comes (λ error. IsAmong error path) (inr (inr (inl refl))) (inr (inr (inr (inl refl)))) (inl refl) (inr (inl refl)) config user mounts bytes) each

module _ (config : Configuration) (user : ℕ) (mounts : List MountPoint) (processes : List (Option Process)) (process : Process) (prio : Prio) where
  opens_comes : (N : Outcome → Type 0) → ((error : Errno) → IsAmong error path → N (Refused error)) → N (Refused EMFILE) → N (Refused EAGAIN) → (bytes : List ℕ) → Comes Anything N (target_at config user mounts processes process prio (Opens bytes))
  opens_comes N leads many full bytes =
      comes_on _ N (or_refused (place_of config user mounts bytes)) _ (led_comes N leads config user mounts bytes) (λ place is.
      comes_on _ N (free_connection (limits_of config user).connections process) _ (free_comes N many (limits_of config user).connections process) (λ coid is_free.
      place_to N full (limits_of config user).servers processes process place [] _ prio))

  connects_comes : (N : Outcome → Type 0) → ((error : Errno) → IsAmong error path → N (Refused error)) → N (Refused EAGAIN) → (bytes : List ℕ) → Comes Anything N (target_at config user mounts processes process prio (Connects bytes))
  connects_comes N leads full bytes =
      comes_on _ N (or_refused (place_of config user mounts bytes)) _ (led_comes N leads config user mounts bytes) (λ place is.
      place_to N full (limits_of config user).servers processes process place [] _ prio)

  both_comes : (N : Outcome → Type 0) → ((error : Errno) → IsAmong error path → N (Refused error)) → N (Refused EXDEV) → N (Refused EAGAIN) → (bytes to : List ℕ) → Comes Anything N (target_at config user mounts processes process prio (ConnectsBoth bytes to))
  both_comes N leads apart full bytes to =
      comes_on _ N (or_refused (place_of config user mounts bytes)) _ (led_comes N leads config user mounts bytes) (λ place is.
      comes_on _ N (or_refused (place_of config user mounts to)) _ (led_comes N leads config user mounts to) (λ other is_other.
      comes_on _ N (need (place.root == other.root) (Refused EXDEV)) _ (comes_need N _ _ apart) (λ same is_same.
      place_to N full (limits_of config user).servers processes process place other.rest Side prio)))

  uses_comes : (N : Outcome → Type 0) → N (Refused EBADF) → (coid : ℕ) → Comes Anything N (target_at config user mounts processes process prio (Uses coid))
  uses_comes N gone coid = comes_on _ N (connection_at coid process) _ (connection_comes N gone coid process) (λ connection is. comes_done _ N _ tt)

  duplicates_comes : (N : Outcome → Type 0) → N (Refused EBADF) → N (Refused EMFILE) → (coid : ℕ) → Comes Anything N (target_at config user mounts processes process prio (Duplicates coid))
  duplicates_comes N gone many coid =
      comes_on _ N (connection_at coid process) _ (connection_comes N gone coid process) (λ connection is.
      comes_on _ N (free_connection (limits_of config user).connections process) _ (free_comes N many (limits_of config user).connections process) (λ other is_other. comes_done _ N _ tt))

  -- each request is refused by what its address is refused by
  asked_comes : (N : Outcome → Type 0) (asked : Request) → ((error : Errno) → IsAmong error (call asked) → N (Refused error)) → Comes Anything N (target_at config user mounts processes process prio (address asked))
  asked_comes N (request.OpenPath flags mode name) may = opens_comes N (λ error named. may error (among_first error path (EMFILE ∷ EAGAIN ∷ []) named)) (may EMFILE (among_rest EMFILE path (EMFILE ∷ EAGAIN ∷ []) (inl refl))) (may EAGAIN (among_rest EAGAIN path (EMFILE ∷ EAGAIN ∷ []) (inr (inl refl)))) name
  asked_comes N (request.StatPath name) may = connects_comes N (λ error named. may error (among_first error path (EAGAIN ∷ []) named)) (may EAGAIN (among_rest EAGAIN path (EAGAIN ∷ []) (inl refl))) name
  asked_comes N (request.Unlink name) may = connects_comes N (λ error named. may error (among_first error path (EAGAIN ∷ []) named)) (may EAGAIN (among_rest EAGAIN path (EAGAIN ∷ []) (inl refl))) name
  asked_comes N (request.Mkdir mode name) may = connects_comes N (λ error named. may error (among_first error path (EAGAIN ∷ []) named)) (may EAGAIN (among_rest EAGAIN path (EAGAIN ∷ []) (inl refl))) name
  asked_comes N (request.Rename old new) may = both_comes N (λ error named. may error (among_first error path (EXDEV ∷ EAGAIN ∷ []) named)) (may EXDEV (among_rest EXDEV path (EXDEV ∷ EAGAIN ∷ []) (inl refl))) (may EAGAIN (among_rest EAGAIN path (EXDEV ∷ EAGAIN ∷ []) (inr (inl refl)))) old new
  asked_comes N (request.Dup coid) may = duplicates_comes N (may EBADF (inl refl)) (may EMFILE (inr (inl refl))) coid.0
  asked_comes N (request.Read coid count) may = uses_comes N (may EBADF (inl refl)) coid.0
  asked_comes N (request.Write coid bytes) may = uses_comes N (may EBADF (inl refl)) coid.0
  asked_comes N (request.Close coid) may = uses_comes N (may EBADF (inl refl)) coid.0
  asked_comes N (request.Seek coid whence far) may = uses_comes N (may EBADF (inl refl)) coid.0
  asked_comes N (request.Fstat coid) may = uses_comes N (may EBADF (inl refl)) coid.0
  asked_comes N (request.List coid after) may = uses_comes N (may EBADF (inl refl)) coid.0
  asked_comes N (request.Chmod coid mode) may = uses_comes N (may EBADF (inl refl)) coid.0
  asked_comes N (request.Notify coid action conds code value) may = uses_comes N (may EBADF (inl refl)) coid.0
  asked_comes N (request.Notify64 coid action conds code value) may = uses_comes N (may EBADF (inl refl)) coid.0
  asked_comes N (request.Raw coid bytes) may = uses_comes N (may EBADF (inl refl)) coid.0

  target_comes : (thread : Thread) (asked : Request) → Comes Anything (May (Call thread asked)) (target_at config user mounts processes process prio (address asked))
  target_comes thread asked = asked_comes (May (Call thread asked)) asked (λ error named. inr (among_map Refused error (EINVAL ∷ EAGAIN ∷ call asked) (inr (inr named))))

pub addressed_comes : (config : Configuration) (user : ℕ) (mounts : List MountPoint) (processes : List (Option Process)) (thread : Thread) (asked : Request) → Comes Anything (May (Call thread asked)) (target_by config user mounts processes thread asked)
addressed_comes config user mounts processes thread asked =
    comes_on _ _ (found (row_at processes thread.proc.num) WrongState) _ (comes_found _ _ _ (inl refl)) (λ process is_process.
    comes_on _ _ (found (row_at process.threads thread.tid) WrongState) _ (comes_found _ _ _ (inl refl)) (λ row is_row.
    comes_on _ _ (may_call row asked) _
    (comes_on _ _ (need (is_ready row.state) WrongState) _ (comes_need _ _ _ (inl refl)) (λ ready is_ready.
    comes_on _ _ (need (request_in_ranges asked) (Refused EINVAL)) _ (comes_need _ _ _ (inr (inl refl))) (λ valid is_valid.
    comes_on _ _ (need _ (Refused EAGAIN)) _ (comes_need _ _ _ (inr (inr (inl refl)))) (λ countable is_countable. comes_done _ _ _ tt))))
    (λ may is_may. target_comes config user mounts processes process row.prio thread asked)))

answer_goes : (given : Answer) → is_refusal (outcome_of given) ≡ false
answer_goes (answer.Reply status bytes) = refl
answer_goes (answer.Failed error) = refl

interrupt_goes : (prio : ℕ) (part : Part) (thread : Thread) (number : ℕ) (doing : State) → Goes (interrupt_in prio part thread number doing)
interrupt_goes prio part thread number (state.Queued sent) = refl
interrupt_goes prio part thread number (state.Taken sent) = cond_both sent.is_asked _ _ Goes (λ asked. refl) (λ first. refl)
interrupt_goes prio part thread number (state.Waiting sent) = cond_both sent.is_asked _ _ Goes (λ asked. refl) (λ first. refl)
interrupt_goes prio part thread number _ = refl

pulse_goes : (part : Part) (process : ℕ) (first : Option Pulse) → Goes (pulse_taken part process first)
pulse_goes part process None = refl
pulse_goes part process (Some first) = refl

-- an error of a mount
abbrev mounting : List Errno
mounting = form ++ EACCES ∷ EEXIST ∷ ENOSPC ∷ []

abbrev Form : Errno → Type 0
Form error = IsAmong error mounting

module _ (config : Configuration) (user : ℕ) (held : List OwnItem) (part : Part) where
  -- a client's step goes, or is refused as it may be
  abbrev IsJudged : Step → Type 0
  IsJudged e = Comes Goes (May e) (client_given config user held part e)

  call_judged : (thread : Thread) (asked : Request) → IsJudged (Call thread asked)
  call_judged thread asked = comes_on _ _ (target_by config user part.resources.mounts part.processes thread asked) _ (addressed_comes config user part.resources.mounts part.processes thread asked) (λ addressed is. comes_done _ _ _ refl)

  reply_judged : (thread : Thread) → IsJudged (TakeReply thread)
  reply_judged thread =
      comes_on _ _ (found (thread_at part thread.proc.num thread.tid) WrongState) _ (comes_found _ _ _ (inl refl)) (λ row is.
      comes_on _ _ (found (answer_in row.state) WrongState) _ (comes_found _ _ _ (inl refl)) (λ given answered. comes_done _ _ _ (answer_goes given)))

  prio_judged : (thread : Thread) (prio : Prio) → IsJudged (SetPrio thread prio)
  prio_judged thread prio =
      comes_on _ _ (found (thread_at part thread.proc.num thread.tid) WrongState) _ (comes_found _ _ _ (inl refl)) (λ row is.
      comes_on _ _ (may_give (limits_of config user).ceiling prio.0) _ (give_comes _ (inr (inl refl)) (inr (inr (inl refl))) (limits_of config user).ceiling prio.0) (λ allowed is_allowed. comes_done _ _ _ refl))

  mount_judged : (thread : Thread) (bytes : List ℕ) (manager : Manager) → IsJudged (Mount thread bytes manager)
  mount_judged thread bytes manager =
      comes_on _ _ (mount_by config user part thread bytes manager) _
      (comes_on _ _ (found (thread_at part thread.proc.num thread.tid) WrongState) _ (comes_found _ _ _ (inl refl)) (λ row is.
      comes_on _ _ (need (is_ready row.state) WrongState) _ (comes_need _ _ _ (inl refl)) (λ ready is_one.
      comes_refused Form _ (new_mount (name_bytes config user) bytes manager part.resources)
      (mount_comes Form (inl refl) (inr (inl refl)) (inr (inr (inl refl))) (inr (inr (inr (inl refl)))) (inr (inr (inr (inr (inl refl))))) (name_bytes config user) bytes manager part.resources)
      (λ error named. inr (among_map Refused error mounting named)))))
      (λ mount is. comes_done _ _ _ refl)

  given_judged : (e : Step) → IsJudged e
  given_judged (Spawn of_user threads prio) =
      comes_on _ _ (spawn_number (limits_of config user) part.processes threads prio.0) _ (spawn_comes _ (inr (inl refl)) (inr (inr (inl refl))) (inr (inr (inr (inl refl)))) (limits_of config user) part.processes threads prio.0) (λ number is. comes_done _ _ _ refl)
  given_judged (Exit proc) = comes_on _ _ (found (living (row_at part.processes proc.num)) WrongState) _ (comes_found _ _ _ (inl refl)) (λ process is. comes_done _ _ _ refl)
  given_judged (Call thread asked) = call_judged thread asked
  given_judged (TakeReply thread) = reply_judged thread
  given_judged (TakePulse proc) = comes_on _ _ (found (living (row_at part.processes proc.num)) WrongState) _ (comes_found _ _ _ (inl refl)) (λ process is. comes_done _ _ _ (pulse_goes part proc.num (first_pulse proc.num part.resources.events)))
  given_judged (SetPrio thread prio) = prio_judged thread prio
  given_judged (Interrupt thread) =
      comes_on _ _ (found (thread_at part thread.proc.num thread.tid) WrongState) _ (comes_found _ _ _ (inl refl)) (λ row is. comes_done _ _ _ (interrupt_goes (limits_of config user).disconnect part thread row.calls row.state))
  given_judged (Mount thread bytes manager) = mount_judged thread bytes manager
  given_judged (Receive worker manager) = comes_error _ _ _ (inl refl)
  given_judged (Perform worker moment) = comes_error _ _ _ (inl refl)

refused_named : (part : Part) (e : Step) (given : Result ClientStep Outcome) → Comes Goes (May e) given → is_refusal (or_unchanged part given).outcome ≡ true → May e (or_unchanged part given).outcome
refused_named part e (Ok given) h refused = absurd (false≢true (sym h.gives ∙ refused))
refused_named part e (Err outcome) h refused = h.fails

-- ---- steps

wrong_named : (e : Step) → May e WrongState
wrong_named (Spawn of_user threads prio) = inl refl
wrong_named (Exit proc) = inl refl
wrong_named (Call thread asked) = inl refl
wrong_named (TakeReply thread) = inl refl
wrong_named (TakePulse proc) = inl refl
wrong_named (SetPrio thread prio) = inl refl
wrong_named (Interrupt thread) = inl refl
wrong_named (Mount thread bytes manager) = inl refl
wrong_named (Receive worker manager) = inl refl
wrong_named (Perform worker moment) = inl refl

client_named : (w : World) (user : ℕ) (e : Step) (row : Option Part) → is_refusal (client_step w user e row).outcome ≡ true → May e (client_step w user e row).outcome
unfolding client
client_named w user e None refused = wrong_named e
client_named w user e (Some part) refused = refused_named part e (client_given w.config user (own_held user w.hands) part e) (given_judged w.config user (own_held user w.hands) part e) refused

-- a worker's step takes or does an item, or is refused by what finds none
item_named : (w : World) (e : Step) (given : Result After Outcome) → Comes (λ (after : After). is_refusal after.outcome ≡ false) (May e) given → is_refusal (or_same_world w given).outcome ≡ true → May e (or_same_world w given).outcome
item_named w e (Ok after) h refused = absurd (false≢true (sym h.gives ∙ refused))
item_named w e (Err outcome) h refused = h.fails

taken_comes : (N : Outcome → Type 0) → N WrongState → N Busy → N Idle → (w : World) (worker : ℕ) (manager : Manager) → Comes Anything N (item_to_take w worker manager)
taken_comes N wrong busy idle w worker manager = search (comes_on, comes_need, comes_found, comes_done, wrong, busy, idle)

done_comes : (N : Outcome → Type 0) → N WrongState → N Nothing → (w : World) (worker : ℕ) → Comes Anything N (item_to_do w worker)
done_comes N wrong none w worker = search (comes_on, comes_need, comes_found, wrong, none)

server_named : (w : World) (e : Step) → is_refusal (server_step w e).outcome ≡ true → May e (server_step w e).outcome
server_named w (Receive worker manager) refused =
    item_named w (Receive worker manager) (receive w worker.0 manager) (comes_on _ _ (item_to_take w worker.0 manager) _ (taken_comes _ (inl refl) (inr (inl refl)) (inr (inr (inl refl))) w worker.0 manager) (λ taken is. comes_done _ _ _ refl)) refused
server_named w (Perform worker moment) refused =
    item_named w (Perform worker moment) (perform w worker.0 moment) (comes_on _ _ (item_to_do w worker.0) _ (done_comes _ (inl refl) (inr (inl refl)) w worker.0) (λ held is. comes_done _ _ _ refl)) refused
server_named w e refused = wrong_named e

step_named : (w : World) (e : Step) (actor : Option Actor) → is_refusal (step_of w e actor).outcome ≡ true → May e (step_of w e actor).outcome
step_named w e None refused = server_named w e refused
step_named w e (Some actor) refused = client_named w (user_of actor) e (row_at w.parts (user_of actor)) refused

pub refusals_named : (w : World) (e : Step) → is_refusal (step w e).outcome ≡ true → IsAmong (step w e).outcome (refusals e)
unfolding step
refusals_named w e refused = step_named w e (actor_of e) refused
