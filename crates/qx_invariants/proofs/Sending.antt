-- What stands for a message that is not served yet: the mount to which it was sent, and the connection that its call made, whatever becomes of its process.
use Rattle.std.proofs.Common.{◌≡◌, ◌≢◌, ◌⊎◌, inl, inr, ℕ, zero, suc, ◌+◌, ◌≤◌, ◌==◌, List, [], ◌∷◌, ◌++◌, drop, length, length-drop, refl, sym, ap, ◌∙◌, subst, arith}
use Rattle.std.specs.Prelude.{Option, Some, None, Result, Ok, Err, nat_lt, option_map, slice_get, take, replicate}
use Rattle.std.proofs.lemmas.Bool.{cases_eq}
use Rattle.std.proofs.lemmas.Option.{same_Some}
use Rattle.qx_types.specs.Configuration.{Configuration, limits_of, name_bytes}
use Rattle.qx_base.specs.declared.errno.Errno.{Errno}
use Rattle.qx_base.specs.declared.errno.Errno.TheVariants.{EAGAIN, EMFILE, EXDEV}
use Rattle.qx_types.specs.declared.limits.TheConstants.Limits.{FIRST_CONNECTION}
use Rattle.qx_types.specs.declared.names.Coid.{Coid}
use Rattle.qx_types.specs.declared.outcome.Outcome.TheVariants.{Refused}
use Rattle.qx_types.specs.declared.names.Prio.{Prio}
use Rattle.qx_paths.specs.Mounts.{resolve}
use Rattle.qx_paths.specs.Paths.{read_path}
use Rattle.qx_paths.specs.Prefixes.{MountPoint}
use Rattle.qx_paths.specs.declared.resolved.Resolved.{Resolved}
use Rattle.qx_paths.proofs.MountLemmas.{leads_to_place}
use Rattle.qx_machine.specs.declared.rows.Addressed.{Addressed}
use Rattle.qx_machine.specs.declared.rows.Connection.{Connection}
use Rattle.qx_machine.specs.declared.rows.Over.{Over}
use Rattle.qx_machine.specs.declared.rows.Over.TheVariants.{New, Side}
use Rattle.qx_machine.specs.declared.rows.Sent.{Sent}
use Rattle.qx_machine.specs.declared.rows.State.{State}
use Rattle.qx_machine.specs.declared.rows.State.TheVariants as state
use Rattle.qx_machine.specs.declared.rows.Target.{Target}
use Rattle.qx_machine.specs.declared.rows.ThreadRow.{ThreadRow}
use Rattle.qx_machine.specs.Calls.{Address, Connects, ConnectsBoth, Duplicates, Opens, Uses, can_serve, connection_at, free_connection, place_of, target_at, to_place}
use Rattle.qx_machine.specs.Functions.{new_coid}
use Rattle.qx_isolation.specs.Judgements.{need, or_refused}
use Rattle.qx_machine.specs.Processes.{Process, new_process, new_thread, queued_thread}
use Rattle.qx_isolation.specs.Rows.{lowest_from, row_at, taken_places, with_row}
use Rattle.qx_machine.proofs.Gives.{Gives, gives_by, gives_done, gives_error, gives_on}
use Rattle.qx_isolation.proofs.Places.{lowest_from_free}
use Rattle.qx_invariants.proofs.Managed.{IsMounted, stays_mounted}
use Rattle.qx_invariants.proofs.Rows.{with_row-at, with_row-other}

-- where a thread's message goes that is not served yet
abbrev pub target_in : State → Option Target
target_in (state.Queued sent) = Some sent.target
target_in (state.Taken sent) = Some sent.target
target_in _ = None

abbrev pub target_of_row : Option ThreadRow → Option Target
target_of_row None = None
target_of_row (Some row) = target_in row.state

abbrev pub target_of : ℕ → Process → Option Target
target_of thread process = target_of_row (row_at process.threads thread)

-- a connection with no open control block yet
abbrev pub unopened_at : Target → Connection
unopened_at target = record { manager = target.manager; block = None }

pub record Sends (mounts : List MountPoint) (process : Process) : Type 0 where
  -- a message to a path was sent to the root of a mount of its manager
  pub rooted : (thread : ℕ) (target : Target) → target_of thread process ≡ Some target → (root : ℕ) → target.root ≡ Some root → IsMounted mounts target.manager root
  -- a new connection is there, at its manager, and has nothing open yet
  pub connected : (thread : ℕ) (target : Target) → target_of thread process ≡ Some target → (coid : Coid) → new_coid target.over ≡ Some coid → row_at process.connections coid.0 ≡ Some (unopened_at target)
  -- it is one message's
  pub apart : (one two : ℕ) (target other : Target) → target_of one process ≡ Some target → target_of two process ≡ Some other → (coid : Coid) → new_coid target.over ≡ Some coid → new_coid other.over ≡ Some coid → one ≡ two

-- ---- fewer messages

-- a message that is not served yet was not before, and its new connection is as it was
pub record IsQuiet (process now : Process) : Type 0 where
  pub was : (thread : ℕ) (target : Target) → target_of thread now ≡ Some target → target_of thread process ≡ Some target
  pub same : (thread : ℕ) (target : Target) → target_of thread now ≡ Some target → (coid : Coid) → new_coid target.over ≡ Some coid → row_at now.connections coid.0 ≡ row_at process.connections coid.0

pub quiet_sends : (mounts : List MountPoint) (process now : Process) → IsQuiet process now → Sends mounts process → Sends mounts now
quiet_sends mounts process now quiet h = record {
  rooted = λ thread target is. h.rooted thread target (quiet.was thread target is);
  connected = λ thread target is coid over. quiet.same thread target is coid over ∙ h.connected thread target (quiet.was thread target is) coid over;
  apart = λ one two target other is also. h.apart one two target other (quiet.was one target is) (quiet.was two other also);
}

-- as another mount comes
pub mounted_sends : (mounts more : List MountPoint) (process : Process) → Sends mounts process → Sends (mounts ++ more) process
mounted_sends mounts more process h = record {
  rooted = λ thread target is root at_root. stays_mounted mounts more target.manager root (h.rooted thread target is root at_root);
  connected = h.connected;
  apart = h.apart;
}

-- ---- one thread changes

-- a thread's message is the same after this, or is served
abbrev pub Quietens : (ThreadRow → ThreadRow) → Type 0
Quietens change = (row : ThreadRow) (target : Target) → target_in (change row).state ≡ Some target → target_in row.state ≡ Some target

-- it is served
abbrev pub Silences : (ThreadRow → ThreadRow) → Type 0
Silences change = (row : ThreadRow) → target_in (change row).state ≡ None

module _ (process now : Process) (thread : ℕ) (change : ThreadRow → ThreadRow) (changes : now.threads ≡ with_row process.threads thread change) where
  pub target_own : target_of thread now ≡ target_of_row (option_map change (row_at process.threads thread))
  target_own = ap (λ rows. target_of_row (row_at rows thread)) changes ∙ ap target_of_row (with_row-at process.threads thread change)

  pub target_other : (t : ℕ) → t ≢ thread → target_of t now ≡ target_of t process
  target_other t apart = ap (λ rows. target_of_row (row_at rows t)) changes ∙ ap target_of_row (with_row-other process.threads thread change t apart)

  pub quietened : Quietens change → (t : ℕ) (target : Target) → target_of t now ≡ Some target → target_of t process ≡ Some target
  quietened quietens t target is = elim (cases_eq t thread) [
    | inl same ↦
        ap (λ n. target_of n process) same ∙ by (row_at process.threads thread) (sym target_own ∙ (ap (λ n. target_of n now) (sym same) ∙ is))
    | inr apart ↦ sym (target_other t apart) ∙ is
  ]
    where
      by : (row : Option ThreadRow) → target_of_row (option_map change row) ≡ Some target → target_of_row row ≡ Some target
      by None there = there
      by (Some row) there = quietens row target there

  -- a message that is not served yet is another thread's
  pub silenced : Silences change → (t : ℕ) (target : Target) → target_of t now ≡ Some target → (t ≢ thread) × (target_of t process ≡ Some target)
  silenced silences t target is = elim (cases_eq t thread) [
    | inl same ↦ let clash : None ≡ Some target = sym (by (row_at process.threads thread)) ∙ (sym target_own ∙ (ap (λ n. target_of n now) (sym same) ∙ is)) in absurd (cc)
    | inr apart ↦ (apart, sym (target_other t apart) ∙ is)
  ]
    where
      by : (row : Option ThreadRow) → target_of_row (option_map change row) ≡ None
      by None = refl
      by (Some row) = silences row

-- connections are the same
pub thread_quiet : (process now : Process) (thread : ℕ) (change : ThreadRow → ThreadRow) → now.threads ≡ with_row process.threads thread change → now.connections ≡ process.connections → Quietens change → IsQuiet process now
thread_quiet process now thread change changes same quietens = record {
  was = quietened process now thread change changes quietens;
  same = λ t target is coid over. ap (λ rows. row_at rows coid.0) same;
}

-- a connection changes that is of no other message
pub connection_quiet : (process now : Process) (thread : ℕ) (change : ThreadRow → ThreadRow) → now.threads ≡ with_row process.threads thread change → Silences change → (number : ℕ) → ((m : ℕ) → m ≢ number → row_at now.connections m ≡ row_at process.connections m)
    → ((t : ℕ) (target : Target) → t ≢ thread → target_of t process ≡ Some target → (coid : Coid) → new_coid target.over ≡ Some coid → coid.0 ≢ number) → IsQuiet process now
connection_quiet process now thread change changes silences number others apart = record {
  was = λ t target is. (silenced process now thread change changes silences t target is).1;
  same = λ t target is coid over. let was = silenced process now thread change changes silences t target is in others coid.0 (apart t target was.0 was.1 coid over);
}

-- ---- a message is sent

-- the lowest free number of a connection
abbrev pub IsFree : Process → ℕ → Type 0
IsFree process number = number ≡ lowest_from FIRST_CONNECTION process.connections

-- where a call's message goes: to the root of a mount of its manager, and over the lowest free connection, or over none of its own
pub record IsAddressed (mounts : List MountPoint) (process : Process) (target : Target) : Type 0 where
  pub rooted : (root : ℕ) → target.root ≡ Some root → IsMounted mounts target.manager root
  pub free : (coid : Coid) → new_coid target.over ≡ Some coid → IsFree process coid.0

module _ (config : Configuration) (user : ℕ) (mounts : List MountPoint) (processes : List (Option Process)) (process : Process) (prio : Prio) where
  abbrev Addresses : Addressed → Type 0
  Addresses addressed = IsAddressed mounts process addressed.target

  -- a path leads to a mount
  abbrev IsPlaced : Resolved → Type 0
  IsPlaced place = IsMounted mounts place.manager place.root

  refused-gives : {A : Type 0} (Q : A → Type 0) (given : Result A Errno) → Gives Q given → Gives Q (or_refused given)
  refused-gives Q (Ok value) h = record { gives = h.gives }
  refused-gives Q (Err error) h = gives_error _ _

  place-gives : (path : List ℕ) → Gives IsPlaced (or_refused (place_of config user mounts path))
  place-gives path =
      refused-gives IsPlaced (place_of config user mounts path)
      (gives_on _ (read_path path) _ (λ names is_path. by names (resolve config.users (name_bytes config user) mounts names) (λ place leads. (leads_to_place config.users (name_bytes config user) mounts names place leads).0)))
    where
      by : (names : List (List ℕ)) (given : Result Resolved Errno) → ((place : Resolved) → given ≡ Ok place → slice_get mounts place.number ≡ Some (record { prefix = take place.depth names; manager = place.manager; root = place.root })) → Gives IsPlaced given
      by names (Ok place) at = gives_done _ _ (record { number = place.number; mount = record { prefix = take place.depth names; manager = place.manager; root = place.root }; there = at place refl; manager_is = refl; root_is = refl })
      by names (Err error) at = gives_error _ _

  place-addressed : (place : Resolved) (to : List (List ℕ)) (over : Over) → IsPlaced place → ((coid : Coid) → new_coid over ≡ Some coid → IsFree process coid.0) → Gives Addresses (to_place (limits_of config user).servers processes process place to over prio)
  place-addressed place to over placed free =
      gives_on _ (need (can_serve (limits_of config user).servers processes process place.manager) (Refused EAGAIN)) _ (λ served is_served.
      gives_done _ _ (record { rooted = λ root at_root. subst (IsMounted mounts place.manager) (same_Some _ _ at_root) placed; free = free }))

  free-gives : (most : ℕ) → Gives (IsFree process) (free_connection most process)
  free-gives most = gives_on _ (need (nat_lt (lowest_from FIRST_CONNECTION process.connections) (FIRST_CONNECTION + most)) (Refused EMFILE)) _ (λ free is_free. gives_done _ _ refl)

  pub addressed-gives : (address : Address) → Gives Addresses (target_at config user mounts processes process prio address)
  addressed-gives (Opens path) =
      gives_by IsPlaced _ (or_refused (place_of config user mounts path)) _ (place-gives path) (λ place placed.
      gives_by (IsFree process) _ (free_connection (limits_of config user).connections process) _ (free-gives (limits_of config user).connections) (λ number free.
      place-addressed place [] (New (record { 0 = number })) placed (λ coid over. subst (λ (c : Coid). IsFree process c.0) (same_Some _ _ over) free)))
  addressed-gives (Connects path) =
      gives_by IsPlaced _ (or_refused (place_of config user mounts path)) _ (place-gives path) (λ place placed. place-addressed place [] Side placed (λ coid over. absurd (cc)))
  addressed-gives (ConnectsBoth path to) =
      gives_by IsPlaced _ (or_refused (place_of config user mounts path)) _ (place-gives path) (λ place placed.
      gives_on _ (or_refused (place_of config user mounts to)) _ (λ other is_other.
      gives_on _ (need (place.root == other.root) (Refused EXDEV)) _ (λ same is_same. place-addressed place other.rest Side placed (λ coid over. absurd (cc)))))
  addressed-gives (Uses coid) =
      gives_on _ (connection_at coid process) _ (λ connection there.
      gives_done _ _ (record { rooted = λ root at_root. absurd (cc); free = λ other over. absurd (cc) }))
  addressed-gives (Duplicates coid) =
      gives_on _ (connection_at coid process) _ (λ connection there.
      gives_by (IsFree process) _ (free_connection (limits_of config user).connections process) _ (free-gives (limits_of config user).connections) (λ number free.
      gives_done _ _ (record { rooted = λ root at_root. absurd (cc); free = λ other over. subst (λ (c : Coid). IsFree process c.0) (same_Some _ _ over) free })))

taken_few : {A : Type 0} (rows : List (Option A)) → taken_places rows ≤ length rows
taken_few [] = omega arith
taken_few (None ∷ rows) = omega arith
taken_few (Some row ∷ rows) = let rest = taken_few rows in omega (arith, rest)

-- the lowest free number is in the table, or is the next one
pub lowest_few : {A : Type 0} (first : ℕ) (rows : List (Option A)) → first ≤ length rows → lowest_from first rows ≤ length rows
lowest_few first rows long = let few = taken_few (drop first rows) in let rest = length-drop first rows in omega (arith, few, rest, long)

-- a thread that waited for nothing sends a message so
module _ (mounts : List MountPoint) (process : Process) (h : Sends mounts process) (room : FIRST_CONNECTION ≤ length process.connections) (thread : ℕ) (row : ThreadRow) (there : row_at process.threads thread ≡ Some row) (idle : target_in row.state ≡ None) (sent : Sent) (at : IsAddressed mounts process sent.target) (now : Process)
    (threads : now.threads ≡ with_row process.threads thread (queued_thread sent)) (others : (m : ℕ) → ((coid : Coid) → new_coid sent.target.over ≡ Some coid → m ≢ coid.0) → row_at now.connections m ≡ row_at process.connections m)
    (own : (coid : Coid) → new_coid sent.target.over ≡ Some coid → row_at now.connections coid.0 ≡ Some (unopened_at sent.target)) where
  -- it goes where the message does, or is another thread's that was sent before
  its_target : (t : ℕ) (target : Target) → target_of t now ≡ Some target → ((t ≡ thread) × (sent.target ≡ target)) ⊎ ((t ≢ thread) × (target_of t process ≡ Some target))
  its_target t target is = elim (cases_eq t thread) [
    | inl same ↦
        inl (same, same_Some _ _ (sym (ap (λ place. target_of_row (option_map (queued_thread sent) place)) there) ∙ (sym (target_own process now thread (queued_thread sent) threads) ∙ (ap (λ n. target_of n now) (sym same) ∙ is))))
    | inr apart ↦ inr (apart, sym (target_other process now thread (queued_thread sent) threads t apart) ∙ is)
  ]

  free : (coid : Coid) → new_coid sent.target.over ≡ Some coid → row_at process.connections coid.0 ≡ None
  free coid over = ap (row_at process.connections) (at.free coid over) ∙ lowest_from_free FIRST_CONNECTION process.connections

  -- a connection that is there is not the new one
  not_new : (m : ℕ) (connection : Connection) → row_at process.connections m ≡ Some connection → (coid : Coid) → new_coid sent.target.over ≡ Some coid → m ≢ coid.0
  not_new m connection is coid over = λ same. let clash : None ≡ Some connection = sym (free coid over) ∙ (ap (row_at process.connections) (sym same) ∙ is) in cc

  pub sending_sends : Sends mounts now
  sending_sends = record {
    rooted = λ t target is root at_root. elim (its_target t target is) [
      | inl its ↦ subst (λ (g : Target). g.root ≡ Some root → IsMounted mounts g.manager root) its.1 (at.rooted root) at_root
      | inr was ↦ h.rooted t target was.1 root at_root
    ];
    connected = λ t target is coid over. elim (its_target t target is) [
      | inl its ↦ subst (λ (g : Target). new_coid g.over ≡ Some coid → row_at now.connections coid.0 ≡ Some (unopened_at g)) its.1 (own coid) over
      | inr was ↦ let before = h.connected t target was.1 coid over in others coid.0 (not_new coid.0 (unopened_at target) before) ∙ before
    ];
    apart = λ one two target other is also coid over too. by one two target other coid (its_target one target is) (its_target two other also) over too;
  }
    where
      clash : (two : ℕ) (target other : Target) (coid : Coid) → sent.target ≡ target → target_of two process ≡ Some other → new_coid target.over ≡ Some coid → new_coid other.over ≡ Some coid → ⊥
      clash two target other coid same was over too = not_new coid.0 (unopened_at other) (h.connected two other was coid too) coid (ap (λ (g : Target). new_coid g.over) same ∙ over) refl

      by : (one two : ℕ) (target other : Target) (coid : Coid) → ((one ≡ thread) × (sent.target ≡ target)) ⊎ ((one ≢ thread) × (target_of one process ≡ Some target)) → ((two ≡ thread) × (sent.target ≡ other)) ⊎ ((two ≢ thread) × (target_of two process ≡ Some other))
          → new_coid target.over ≡ Some coid → new_coid other.over ≡ Some coid → one ≡ two
      by one two target other coid (inl its) (inl also) over too = its.0 ∙ sym also.0
      by one two target other coid (inl its) (inr was) over too = absurd (clash two target other coid its.1 was.1 over too)
      by one two target other coid (inr was) (inl its) over too = absurd (clash one other target coid its.1 was.1 too over)
      by one two target other coid (inr was) (inr also) over too = h.apart one two target other was.1 also.1 coid over too

-- ---- a new process

pub new_sends : (mounts : List MountPoint) (threads prio : ℕ) → Sends mounts (new_process threads prio)
new_sends mounts threads prio = record {
  rooted = λ thread target is. absurd (none thread target is);
  connected = λ thread target is. absurd (none thread target is);
  apart = λ one two target other is. absurd (none one target is);
}
  where
    ready : (count t : ℕ) → target_of_row (row_at (replicate count (Some (new_thread prio))) t) ≡ None
    ready zero t = refl
    ready (suc count) zero = refl
    ready (suc count) (suc t) = ready count t

    all : (t : ℕ) → target_of t (new_process threads prio) ≡ None
    all zero = refl
    all (suc t) = ready threads t

    none : (t : ℕ) (target : Target) → target_of t (new_process threads prio) ≡ Some target → ⊥
    none t target is = let clash : None ≡ Some target = sym (all t) ∙ is in cc
