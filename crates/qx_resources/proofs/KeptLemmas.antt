-- What functions come to, by what the store and the pipes tell of them.
use Rattle.std.proofs.Common.{◌≡◌, ◌∙◌, ◌+◌, ◌-◌, ℕ, Bool, true, false, List, [], Result, Ok, Err, IfOk, OnErr, MatchResult, refl, sym, ap, subst, arith}
use Rattle.std.specs.Prelude.{◌||◌, IsTrue, Option, Some, None, option_map}
use Rattle.std.proofs.lemmas.List.{set-get_or}
use Rattle.qx_base.specs.declared.errno.Errno.{Errno}
use Rattle.qx_devices.specs.declared.Device.{Device}
use Rattle.qx_types.specs.declared.names.Manager.TheVariants as managers
use Rattle.qx_paths.specs.Mounts.{mounts_of}
use Rattle.qx_paths.specs.Prefixes.{MountPoint}
use Rattle.qx_iofunc.specs.Given.{number_replied}
use Rattle.qx_iofunc.specs.Store.{Store, Stored, with_stored}
use Rattle.qx_machine.specs.declared.rows.Effect.{Effect}
use Rattle.qx_machine.specs.declared.rows.Effect.TheVariants.{Keeps}
use Rattle.qx_machine.specs.declared.rows.Kind.{Kind}
use Rattle.qx_machine.specs.declared.rows.Opened.{Opened}
use Rattle.qx_machine.specs.Defaults.{close_dup, close_last, close_ocb}
use Rattle.qx_machine.specs.Events.{event_count, no_events}
use Rattle.qx_machine.specs.Inodes.{is_shared}
use Rattle.qx_isolation.specs.Judgements.{◌>>=◌}
use Rattle.qx_isolation.specs.Rows.{row_at}
use Rattle.std.proofs.lemmas.Bool.{cond-false}
use Rattle.qx_machine.specs.Functions.{Deed, reply_alone}
use Rattle.qx_machine.specs.Managers.{own_kind}
use Rattle.qx_machine.specs.Resources.{Resources}
use Rattle.qx_machine.specs.Wants.{difference_wants_memory, got_events, is_done_so, writes_to_blank}
use Rattle.qx_pipes.proofs.PipesLemmas.{given-same}
use Rattle.qx_pipes.specs.Pipes.{Follows, done_of, kind_with, seen}
use Rattle.qx_pipes.specs.Told.{bytes_told, status_told}
use Rattle.qx_resmgr.specs.Deeds.{Did, reply_with}
use Rattle.qx_resmgr.specs.declared.functions.Done.{Done}
use Rattle.qx_resmgr.specs.declared.functions.Done.TheVariants.{Reply}
use Rattle.qx_resources.specs.Boot.{kept_of}
use Rattle.qx_notify.specs.Events.{AllEvents, events_of, with_events}
use Rattle.qx_resources.specs.State.{Kept, state, told}
use Rattle.qx_resources.specs.Told.{done_at_once, manager_with}
use Rattle.qx_resources.proofs.ToldLemmas.{KeepsAll, reply-told}
use Rattle.qx_resources.specs.inner.State.{AreLeft, Came}
use Rattle.qx_resources.specs.declared.tables.Tables.{Tables}
use Rattle.qx_shared.specs.Shared.{Shared, pipes_of}

-- what is kept for a user, with this of it in a store
abbrev pub kept_with : Stored → Kept
kept_with s = record { user = s.user; inodes = s.inodes; names = s.names; files = s.files; limits = s.limits }

-- what all share, of these parts
abbrev pub tables_of : Shared → AllEvents → List (List MountPoint) → Tables
tables_of c e mounts = record { shared = c; events = e; mounts = mounts }

-- no event changes
pub same-events : (e : AllEvents) (user : ℕ) → e ≡ with_events e user (events_of e user)
same-events e user =
    let room : e.room ≡ e.room + event_count (events_of e user) - event_count (events_of e user) = omega arith in
    λ i. record { events = sym (set-get_or e.events user no_events) i; room = room i }

-- ---- what follows the machine

module _ (mounts : List (List MountPoint)) (old new : Stored) (c d : Shared) (e : AllEvents) (bytes : List ℕ) where
  abbrev before : Resources
  before = told (kept_with old) (tables_of c e mounts)

  abbrev DidSo : Result Done Errno → Result (Deed Resources) Errno → Type 0
  DidSo result meant = Did state (kept_with old) (tables_of c e mounts) (kept_with new) (tables_of d e mounts) bytes result meant

  left-so : (deed : Deed Resources) → Follows {E = Errno} old c new d before (Ok deed) → new.user ≡ old.user → AreLeft (kept_with old) (tables_of c e mounts) (kept_with new) (tables_of d e mounts) deed
  left-so deed follows user = record {
    state = ap (λ user. record (seen before new d) { mounts = mounts_of mounts user; events = events_of e user }) user ∙ follows.state;
    shared = λ i. record { shared = follows.shared i; events = (same-events e old.user ∙ ap (λ (r : Resources). with_events e old.user r.events) follows.state) i; mounts = mounts };
    user = user;
  }

  -- what follows the machine came to what the machine gave
  came-so : (given : Result (Unit {0}) Errno) (meant : Result (Deed Resources) Errno) → Follows old c new d before meant → given ≡ done_of meant → new.user ≡ old.user → Came (kept_with old) (tables_of c e mounts) (kept_with new) (tables_of d e mounts) given meant
  came-so (Ok nothing) (Ok deed) follows is user = left-so deed follows user
  came-so (Err error) (Err meant) follows is user = let same : error ≡ meant = cc in (same, ap kept_of follows.state, ap (λ s. tables_of s e mounts) follows.shared)
  came-so (Ok nothing) (Err meant) follows is user = absurd (cc)
  came-so (Err error) (Ok deed) follows is user = absurd (cc)

  pub came : (given : Result (Unit {0}) Errno) (meant : Resources → Result (Deed Resources) Errno) → ((r : Resources) → Follows old c new d r (meant r)) → ((r : Resources) → given ≡ done_of (meant r)) → new.user ≡ old.user → Came (kept_with old) (tables_of c e mounts) (kept_with new) (tables_of d e mounts) given (meant before)
  came given meant follows is = came-so given (meant before) (follows before) (is before)

  passed_as : (answer : Done) (given : Result (Unit {0}) Errno) (result : Result Done Errno) (meant : Result (Deed Resources) Errno) → Follows old c new d before meant → given ≡ done_of meant → new.user ≡ old.user → IfOk meant (λ deed. reply_with bytes answer ≡ deed.reply)
      → bytes ≡ [] → MatchResult given (λ nothing. result ≡ Ok answer) (λ error. result ≡ Err error) → DidSo result meant
  passed_as answer (Ok nothing) result (Ok deed) follows is user replies none gives = let left = left-so deed follows user in rw gives (replies, left.state, left.shared, user)
  passed_as answer (Err error) result (Err meant) follows is user replies none gives = let same : error ≡ meant = cc in rw gives (same, ap kept_of follows.state, ap (λ s. tables_of s e mounts) follows.shared, none)
  passed_as answer (Ok nothing) result (Err meant) follows is user replies none gives = absurd (cc)
  passed_as answer (Err error) result (Ok deed) follows is user replies none gives = absurd (cc)

  -- what is done is answered so
  pub passed : (answer : Done) (given : Result (Unit {0}) Errno) (result : Result Done Errno) (meant : Resources → Result (Deed Resources) Errno) → ((r : Resources) → Follows old c new d r (meant r)) → ((r : Resources) → given ≡ done_of (meant r)) → new.user ≡ old.user
      → IfOk (meant before) (λ deed. reply_with bytes answer ≡ deed.reply) → bytes ≡ [] → MatchResult given (λ nothing. result ≡ Ok answer) (λ error. result ≡ Err error) → DidSo result (meant before)
  passed answer given result meant follows is = passed_as answer given result (meant before) (follows before) (is before)

  told_as : (given : Result (Option ℕ) Errno) (result : Result Done Errno) (meant : Result (Deed Resources) Errno) → Follows old c new d before meant → given ≡ status_told meant → bytes ≡ bytes_told meant → KeepsAll meant → new.user ≡ old.user
      → MatchResult given (λ status. result ≡ Ok (done_at_once status)) (λ error. result ≡ Err error) → DidSo result meant
  told_as (Ok status) result (Ok deed) follows is told keeps user gives =
      let left = left-so deed follows user in
      let same : status ≡ option_map (λ reply. reply.status) deed.reply = cc in
      rw gives (reply-told status bytes deed same told keeps, left.state, left.shared, user)
  told_as (Err error) result (Err meant) follows is told keeps user gives = let same : error ≡ meant = cc in rw gives (same, ap kept_of follows.state, ap (λ s. tables_of s e mounts) follows.shared, told)
  told_as (Ok status) result (Err meant) follows is told keeps user gives = absurd (cc)
  told_as (Err error) result (Ok deed) follows is told keeps user gives = absurd (cc)

  -- what is told at once is the reply that is meant
  pub told_at_once : (given : Result (Option ℕ) Errno) (result : Result Done Errno) (meant : Resources → Result (Deed Resources) Errno) → ((r : Resources) → Follows old c new d r (meant r)) → ((r : Resources) → given ≡ status_told (meant r))
      → ((r : Resources) → bytes ≡ bytes_told (meant r)) → KeepsAll (meant before) → new.user ≡ old.user → MatchResult given (λ status. result ≡ Ok (done_at_once status)) (λ error. result ≡ Err error) → DidSo result (meant before)
  told_at_once given result meant follows is told = told_as given result (meant before) (follows before) (is before) (told before)

  -- each value is told as a reply of its own, and each error is an error
  pub told_so : {A : Type 0} (tell : Resources → Result A Errno → Result (Deed Resources) Errno) (status : A → ℕ) (effect : A → Effect) → ((r : Resources) (value : A) → tell r (Ok value) ≡ Ok (reply_alone (status value) bytes (effect value) r))
      → ((r : Resources) (error : Errno) → tell r (Err error) ≡ Err error) → (given : Result A Errno) (result : Result Done Errno) (meant : Resources → Result (Deed Resources) Errno) → ((r : Resources) → Follows old c new d r (meant r)) → ((r : Resources) → tell (seen r new d) given ≡ meant r)
      → new.user ≡ old.user → bytes ≡ [] → MatchResult given (λ value. result ≡ Ok (Reply (status value) (effect value))) (λ error. result ≡ Err error) → DidSo result (meant before)
  told_so tell status effect ok err (Ok value) result meant follows is user none gives =
      rw gives (subst (λ meant. Follows old c new d before meant → DidSo (Ok (Reply (status value) (effect value))) meant) (sym (ok _ value) ∙ is before) (λ follows. let left = left-so _ follows user in (refl, left.state, left.shared, user)) (follows before))
  told_so tell status effect ok err (Err error) result meant follows is user none gives =
      rw gives (subst (λ meant. Follows old c new d before meant → DidSo (Err error) meant) (sym (err _ error) ∙ is before) (λ follows. (refl, ap kept_of follows.state, ap (λ s. tables_of s e mounts) follows.shared, none)) (follows before))

-- ---- the RAM manager and the default functions leave what all users share

module _ (old new : Store) (w : Tables) (bytes : List ℕ) where
  abbrev first : Resources
  first = told (kept_with old.stored) w

  abbrev DidAlone : Result Done Errno → Result (Deed Resources) Errno → Type 0
  DidAlone result meant = Did state (kept_with old.stored) w (kept_with new.stored) w bytes result meant

  pub answered : (status : ℕ) (effect : Effect) (done_of : Done) (meant : Resources → Result (Deed Resources) Errno) → done_of ≡ Reply status effect → ((r : Resources) → Ok (reply_alone status bytes effect (with_stored r new.stored)) ≡ meant r) → new.stored.user ≡ old.stored.user → DidAlone (Ok done_of) (meant first)
  answered status effect done_of meant reply is user =
      rw reply (subst (DidAlone (Ok (Reply status effect))) (is first) (
        refl,
        ap (λ user. record (with_stored first new.stored) { mounts = mounts_of w.mounts user; pipes = pipes_of w.shared user; events = events_of w.events user }) user,
        λ i. record { shared = given-same w.shared old.stored.user i; events = same-events w.events old.stored.user i; mounts = w.mounts },
        user,
      ))

  pub refused : (error : Errno) (meant : Resources → Result (Deed Resources) Errno) → ((r : Resources) → Err error ≡ meant r) → new ≡ old → bytes ≡ [] → DidAlone (Err error) (meant first)
  refused error meant is same none = subst (DidAlone (Err error)) (is first) (refl, ap (λ (s : Store). kept_with s.stored) same, refl, none)

  -- each value is told as a reply of its own, and each error is an error
  pub told_alone : {A : Type 0} (tell : Resources → Result A Errno → Result (Deed Resources) Errno) (status : A → ℕ) → ((r : Resources) (value : A) → tell r (Ok value) ≡ Ok (reply_alone (status value) bytes Keeps r)) → ((r : Resources) (error : Errno) → tell r (Err error) ≡ Err error)
      → (given : Result A Errno) (result : Result Done Errno) (meant : Resources → Result (Deed Resources) Errno) → ((r : Resources) → tell (with_stored r new.stored) given ≡ meant r) → new.stored.user ≡ old.stored.user → OnErr given ((new ≡ old) × (bytes ≡ []))
      → MatchResult given (λ value. result ≡ Ok (Reply (status value) Keeps)) (λ error. result ≡ Err error) → DidAlone result (meant first)
  told_alone tell status ok err (Ok value) result meant is user kept gives = rw gives (answered (status value) Keeps (Reply (status value) Keeps) meant refl (λ r. sym (ok _ value) ∙ is r) user)
  told_alone tell status ok err (Err error) result meant is user kept gives = rw gives (refused error meant (λ r. sym (err _ error) ∙ is r) kept.0 kept.1)

  pub replied_alone : (given : Result ℕ Errno) (result : Result Done Errno) (meant : Resources → Result (Deed Resources) Errno) → ((r : Resources) → number_replied bytes (with_stored r new.stored) given ≡ meant r) → new.stored.user ≡ old.stored.user → OnErr given ((new ≡ old) × (bytes ≡ []))
      → MatchResult given (λ status. result ≡ Ok (Reply status Keeps)) (λ error. result ≡ Err error) → DidAlone result (meant first)
  replied_alone = told_alone (number_replied bytes) (λ status. status) (λ _ _. refl) (λ _ _. refl)

-- ---- a close of the last connection that has a block

module _ (k l : Kept) (w v : Tables) (own : Kind) (opened : Opened) (last : is_shared (row_at k.inodes.blocks opened.number) ≡ false) where
  refused-by : (error : Errno) (meant : Result (Deed Resources) Errno) (next : Deed Resources → Result (Deed Resources) Errno) → Came k w l v (Err error) meant → Did state k w l v [] (Err error) (meant >>= next)
  refused-by error (Ok deed) next came = absurd came
  refused-by error (Err meant) next came = (came.0, came.1, came.2, refl)

  pub close-refused : (error : Errno) → Came k w l v (Err error) (close_ocb own (told k w) opened.number opened.moment) → Did state k w l v [] (Err error) (close_dup own (told k w) opened)
  close-refused error came =
      let closed : close_dup own (told k w) opened ≡ close_last own (told k w) opened = cond-false (is_shared (row_at k.inodes.blocks opened.number)) _ _ last in
      rw closed (refused-by error (close_ocb own (told k w) opened.number opened.moment) _ came)

-- ---- the pipe manager, and each device's

pub own-with : (device : Option Device) → own_kind (manager_with device) ≡ kind_with device
own-with None = refl
own-with (Some device) = refl

-- ---- what a write or a notification wants

or-right : (test : Bool) {other : Bool} → other ≡ true → (test || other) ≡ true
or-right true is = refl
or-right false is = is

module _ (r : Resources) (over : Result Opened Errno) (bytes : List ℕ) where
  -- what a write to a blank block wants, it wants of the RAM manager
  pub blank-wanted : (given : Result (Deed Resources) Errno) → IsTrue (is_done_so (λ before after. writes_to_blank before over bytes) r given) → IsTrue (is_done_so (difference_wants_memory managers.Ram over bytes) r given)
  blank-wanted (Ok deed) blank = ap (λ (test : Bool). test || got_events r deed.state) blank
  blank-wanted (Err error) blank = blank

  -- what a notification that arms wants, it wants of the RAM manager too
  pub events-wanted : (given : Result (Deed Resources) Errno) → IsTrue (is_done_so got_events r given) → IsTrue (is_done_so (difference_wants_memory managers.Ram over bytes) r given)
  events-wanted (Ok deed) more = or-right (writes_to_blank r over bytes) more
  events-wanted (Err error) more = more

  -- and of the pipe manager, and of a device's
  pub pipe-wanted : (device : Option Device) (given : Result (Deed Resources) Errno) → IsTrue (is_done_so got_events r given) → IsTrue (is_done_so (difference_wants_memory (manager_with device) over bytes) r given)
  pipe-wanted None (Ok deed) more = more
  pipe-wanted (Some device) (Ok deed) more = more
  pipe-wanted None (Err error) more = more
  pipe-wanted (Some device) (Err error) more = more
