-- What all users share once the calls of a list or the bytes of a pipe are others.
use Rattle.std.proofs.Common.{◌≡◌, ◌≢◌, ◌⊎◌, ◌<◌, ◌≤◌, ◌+◌, inl, inr, ℕ, Bool, true, false, if◌then◌else◌, List, [], ◌∷◌, ◌++◌, Option, Some, None, is_some, length, map, get_or, option_map, unwrap_or, slice_get, slice_set, refl, sym, ◌∙◌, ap, ap₂, subst, append-nil, arith}
use Rattle.std.specs.Prelude.{IfSome, filter, drop, not, take}
use Rattle.std.specs.FinMap as maps
use Rattle.std.specs.List.{flat_map, list_any}
use Rattle.std.proofs.lemmas.Bool.Decides.{eqb_tells}
use Rattle.std.proofs.lemmas.List.{drop-map, get_or_default, length-map, length-set, map-append, map-id, take-map}
use Rattle.std.proofs.lemmas.Simd.{map-map}
use Rattle.std.proofs.lemmas.Option.{same_Some}
use Rattle.qx_lists.proofs.MapLemmas.{get-insert_same, get-insert_other, insert-there}
use Rattle.qx_types.specs.declared.limits.TheConstants.Limits.{PIPE}
use Rattle.qx_types.specs.declared.outcome.Answer.{Answer}
use Rattle.qx_types.specs.declared.outcome.Answer.TheVariants.{Reply}
use Rattle.qx_devices.specs.declared.Device.{Device}
use Rattle.qx_machine.specs.declared.rows.WaitingCall.{WaitingCall}
use Rattle.qx_machine.specs.Waiting.{is_written}
use Rattle.qx_machine.specs.Pipes.{PipeAfter, Pipe, all_answered, nobody_answered, pipe_of, removed, staying}
use Rattle.qx_isolation.specs.Rows.{row_at}
use Rattle.qx_queues.specs.Queues.{Queues, UsersCall, answer_to, waiting_in_list, with_more_answers, with_waiting}
use Rattle.qx_queues.specs.Waits.{users_call}
use Rattle.qx_shared.specs.inner.Own.{AreAllPipes, AreUsers, calls_of, shown_pipe, pipes_in, shown_shared}
use Rattle.qx_shared.specs.inner.Row.{Place, Rows, list_of_place, list_on, place, row_of, row_with_bytes, with_row_of}
use Rattle.qx_shared.specs.Row.{PipeRow}
use Rattle.qx_shared.specs.Shared.{HasPipe, dismissed_on, pipe_at, pipes_of, users_given, waiting_on, went_in, with_pipe_after, with_waiting_on}
use Rattle.qx_shared.specs.declared.side.Side.{Side}
use Rattle.qx_shared.specs.declared.side.Side.TheVariants.{Reading, Writing}
use Rattle.qx_shared.proofs.AfterLemmas.{then-after}
use Rattle.qx_shared.proofs.CallLemmas.{list_any-mapped, waiting_on-in}
use Rattle.qx_shared.proofs.OwnLemmas.{IsAt, all-same, mapped-there, pipe_at-row, pipe_at-told, row_of-other, row_of-same, row-same, row_of-within, rows-length, told-set}

pub at-cases : (user inode : ℕ) (p : Place) → IsAt user inode p ⊎ (IsAt user inode p → ⊥)
at-cases user inode p = elim (eqb_tells p.user user) [
  | inr differs ↦ inr (λ at. differs.1 at.0)
  | inl same ↦ elim (eqb_tells p.inode inode) [
    | inl also ↦ inl (same.1, also.1)
    | inr differs ↦ inr (λ at. differs.1 at.1)
  ]
]

calls-agree : (c d : Queues) (list : ℕ) → maps.get d.pipes list ≡ maps.get c.pipes list → calls_of d list ≡ calls_of c list
calls-agree c d list same = ap (λ o. map (λ own. own.call) (unwrap_or o [])) same

pub users-agree : (c d : Queues) (user list : ℕ) → maps.get d.pipes list ≡ maps.get c.pipes list → AreUsers c user list → AreUsers d user list
users-agree c d user list same are = ap (λ o. unwrap_or o []) same ∙ are ∙ ap (map (users_call user)) (sym (calls-agree c d list same))

-- a pipe whose lists stay
module _ (c d : Queues) (all : List Rows) (user inode : ℕ) where
  abbrev pub SameElsewhere : Type 0
  SameElsewhere = (p : Place) (list : ℕ) → list_of_place all p ≡ Some list → (IsAt user inode p → ⊥) → maps.get d.pipes list ≡ maps.get c.pipes list

  pub pipes-set : (row : Option PipeRow) → user < length all → SameElsewhere → map (pipes_in d) (with_row_of all user inode row) ≡ slice_set (map (pipes_in c) all) user (slice_set (pipes_of (shown_shared c all) user) inode (option_map (shown_pipe d) row))
  pipes-set row within same = told-set c d all user inode row within (λ other at r differs is.
      let readers = calls-agree c d r.readers (same (place other at Reading) r.readers (ap (option_map (list_on Reading)) is) differs) in
      let writers = calls-agree c d r.writers (same (place other at Writing) r.writers (ap (option_map (list_on Writing)) is) differs) in
      λ i. record { device = r.device; bytes = r.bytes; readers = readers i; writers = writers i })

-- the calls of one list are others
module _ (c : Queues) (all : List Rows) (are : AreAllPipes c all) (p : Place) (list : ℕ) (is : list_of_place all p ≡ Some list) (calls : List WaitingCall) where
  abbrev pub relisted : Queues
  relisted = with_waiting c list (map (users_call p.user) calls)

  own : maps.get relisted.pipes list ≡ Some (map (users_call p.user) calls)
  own = get-insert_same c.pipes list (map (users_call p.user) calls)

  pub other : (q : ℕ) → q ≢ list → maps.get relisted.pipes q ≡ maps.get c.pipes q
  other q differs = get-insert_other c.pipes list (map (users_call p.user) calls) q differs

  pub calls-own : calls_of relisted list ≡ calls
  calls-own = ap (λ o. map (λ own. own.call) (unwrap_or o [])) own ∙ map-map (λ own. own.call) (users_call p.user) calls ∙ map-id calls

  users-own : AreUsers relisted p.user list
  users-own = ap (λ o. unwrap_or o []) own ∙ ap (map (users_call p.user)) (sym calls-own)

  pub relisted-all : AreAllPipes relisted all
  relisted-all = record {
    count = are.count;
    places = are.places;
    there = λ q at is_at. elim (eqb_tells at list) [
      | inl same ↦ rw same.1 (ap is_some own)
      | inr differs ↦ ap is_some (other at differs.1) ∙ are.there q at is_at
    ];
    users = λ q at is_at. elim (eqb_tells at list) [
      | inl same ↦ rw (are.apart q p list (is_at ∙ ap Some same.1) is, same.1) users-own
      | inr differs ↦ users-agree c relisted q.user at (other at differs.1) (are.users q at is_at)
    ];
    apart = are.apart;
    owned = λ at there. elim (eqb_tells at list) [
      | inl same ↦ (p, is ∙ ap Some (sym same.1))
      | inr differs ↦ are.owned at (ap is_some (sym (other at differs.1)) ∙ there)
    ];
  }

-- other bytes stand in a pipe
abbrev pub with_bytes_of : List Rows → ℕ → ℕ → List ℕ → List Rows
with_bytes_of all user inode bytes = with_row_of all user inode (option_map (λ row. row_with_bytes row bytes) (row_of all user inode))

-- a row of the same lists
abbrev renewed_row : PipeRow → Option Device → List ℕ → PipeRow
renewed_row row device bytes = record row { device = device; bytes = bytes }

module _ (all : List Rows) (user inode : ℕ) (row : PipeRow) (is : row_of all user inode ≡ Some row) (device : Option Device) (bytes : List ℕ) where
  list_on-renewed : (side : Side) → list_on side (renewed_row row device bytes) ≡ list_on side row
  list_on-renewed Reading = refl
  list_on-renewed Writing = refl

  list_at-renewed : (p : Place) → list_of_place (with_row_of all user inode (Some (renewed_row row device bytes))) p ≡ list_of_place all p
  list_at-renewed p = elim (at-cases user inode p) [
    | inr differs ↦ ap (option_map (list_on p.side)) (row_of-other all user inode (Some (renewed_row row device bytes)) p.user p.inode differs)
    | inl at ↦
        let within = row_of-within all user inode row is in
        rw (at.0, at.1) (ap (option_map (list_on p.side)) (row_of-same all user inode (Some (renewed_row row device bytes)) within.0 within.1) ∙ ap Some (list_on-renewed p.side) ∙ ap (option_map (list_on p.side)) (sym is))
  ]

  renewed-all : (c : Queues) → AreAllPipes c all → AreAllPipes c (with_row_of all user inode (Some (renewed_row row device bytes)))
  renewed-all c are = record {
    count = length-set all user _ ∙ are.count;
    places = λ other within. rows-length all user inode (Some (renewed_row row device bytes)) other ∙ are.places other (rw length-set at within);
    there = λ p list at. are.there p list (sym (list_at-renewed p) ∙ at);
    users = λ p list at. are.users p list (sym (list_at-renewed p) ∙ at);
    apart = λ p q list at also. are.apart p q list (sym (list_at-renewed p) ∙ at) (sym (list_at-renewed q) ∙ also);
    owned = λ list there. let own = are.owned list there in (own.0, list_at-renewed own.0 ∙ own.1);
  }

-- ---- a pipe is another

-- what all users share, as the pipe of an inode became what it is afterwards
pub record Became (c d : Queues) (all new : List Rows) (user inode : ℕ) (after : PipeAfter WaitingCall) : Type 0 where
  pub told_is : shown_shared d new ≡ with_pipe_after (shown_shared c all) user inode after
  pub all_are : AreAllPipes d new

abbrev opposite : Side → Side
opposite Reading = Writing
opposite Writing = Reading

opposite-not : (side : Side) → opposite side ≡ side → ⊥
opposite-not Reading same = absurd (cc)
opposite-not Writing same = absurd (cc)

pipe-relisted : (c d : Queues) (side : Side) (row : PipeRow) (bytes : List ℕ) (calls : List WaitingCall) → calls_of d (list_on side row) ≡ calls → calls_of d (list_on (opposite side) row) ≡ calls_of c (list_on (opposite side) row) →
    shown_pipe d (row_with_bytes row bytes) ≡ with_waiting_on side calls (record (shown_pipe c row) { bytes = bytes })
pipe-relisted c d Reading row bytes calls own other = λ i. record { device = row.device; bytes = bytes; readers = own i; writers = other i }
pipe-relisted c d Writing row bytes calls own other = λ i. record { device = row.device; bytes = bytes; readers = other i; writers = own i }

pub no_answers : (c : Queues) → with_more_answers c [] ≡ c
no_answers c = ap (λ a. record c { answered = a }) (append-nil c.answered)

answers-mapped : (user : ℕ) (answer : Answer) (calls : List WaitingCall) → map (λ own. answer_to own answer) (map (users_call user) calls) ≡ map (users_given user) (map (λ call. (call, answer)) calls)
answers-mapped user answer calls = map-map (λ own. answer_to own answer) (users_call user) calls ∙ sym (map-map (users_given user) (λ call. (call, answer)) calls)

filter-mapped : {A B : Type 0} (f : A → B) (which : B → Bool) (xs : List A) → filter which (map f xs) ≡ map f (filter (λ x. which (f x)) xs)
filter-mapped f which [] = refl
filter-mapped f which (x ∷ xs) = by (which (f x)) (filter-mapped f which xs)
  where
    by : (b : Bool) → filter which (map f xs) ≡ map f (filter (λ y. which (f y)) xs) → (if b then f x ∷ filter which (map f xs) else filter which (map f xs)) ≡ map f (if b then x ∷ filter (λ y. which (f y)) xs else filter (λ y. which (f y)) xs)
    by true rest = ap (λ ys. f x ∷ ys) rest
    by false rest = rest

-- nobody waits where there is no pipe
pub nobody-waits : (c : Queues) (all : List Rows) (user inode : ℕ) (side : Side) → row_of all user inode ≡ None → slice_get (waiting_on side (pipe_at (shown_shared c all) user inode)) 0 ≡ None
nobody-waits c all user inode side none = ap (λ p. slice_get (waiting_on side p) 0) (pipe_at-row c all user inode None none) ∙ of side
  where
    of : (side : Side) → slice_get (waiting_on side (pipe_of None [] [] [])) 0 ≡ None
    of Reading = refl
    of Writing = refl

module _ (c : Queues) (all : List Rows) (are : AreAllPipes c all) (user inode : ℕ) (side : Side) (list : ℕ) (is : list_of_place all (place user inode side) ≡ Some list) where
  row_there : (row : PipeRow) × (row_of all user inode ≡ Some row) × (list_on side row ≡ list)
  row_there = mapped-there (list_on side) (row_of all user inode) list is

  abbrev pub old : Pipe WaitingCall
  old = pipe_at (shown_shared c all) user inode

  abbrev pub waiting : List WaitingCall
  waiting = waiting_on side (pipe_at (shown_shared c all) user inode)

  old-is : old ≡ shown_pipe c row_there.0
  old-is = pipe_at-told c all user inode row_there.0 row_there.1

  pub waiting-there : waiting_in_list c list ≡ map (users_call user) waiting
  waiting-there = are.users (place user inode side) list is ∙ ap (map (users_call user)) (sym (ap (waiting_on side) old-is ∙ waiting_on-in c side row_there.0 ∙ ap (calls_of c) row_there.2))

  pub waiting-some : 0 < length waiting → 0 < length (waiting_in_list c list)
  waiting-some some = rw (waiting-there, length-map waiting (users_call user)) some

  pub first-written : (answer : Answer) → list_any (λ own. is_written own.call.bytes answer) (take 1 (waiting_in_list c list)) ≡ went_in (map (λ call. (call, answer)) (take 1 waiting))
  first-written answer =
      ap (λ own. list_any (λ own. is_written own.call.bytes answer) (take 1 own)) waiting-there
      ∙ ap (list_any (λ own. is_written own.call.bytes answer)) (take-map (users_call user) 1 waiting)
      ∙ list_any-mapped (users_call user) (λ own. is_written own.call.bytes answer) (take 1 waiting)
      ∙ sym (list_any-mapped (λ call. (call, answer)) (λ given. is_written given.0.bytes given.1) (take 1 waiting))

  pub first-there : option_map (λ own. own.call) (slice_get (waiting_in_list c list) 0) ≡ slice_get waiting 0
  first-there = ap (λ own. option_map (λ own. own.call) (slice_get own 0)) waiting-there ∙ of waiting
    where
      of : (calls : List WaitingCall) → option_map (λ own. own.call) (slice_get (map (users_call user) calls) 0) ≡ slice_get calls 0
      of [] = refl
      of (call ∷ calls) = refl

  -- the calls of a side and the bytes are others, and some were answered
  pub changed : (bytes : List ℕ) (calls : List WaitingCall) (answers : List (WaitingCall × Answer)) (d : Queues) (new : List Rows) → d ≡ with_more_answers (with_waiting c list (map (users_call user) calls)) (map (users_given user) answers) → new ≡ with_bytes_of all user inode bytes →
      Became c d all new user inode (record { pipe = with_waiting_on side calls (record old { bytes = bytes }); answers = answers })
  changed bytes calls answers d new queues rows = record {
    told_is = ap₂ shown_shared queues rows_are ∙ (λ i. record { lines = c.lines; threads = c.threads; servers = c.servers; room = c.room; pipes = pipes i; answered = c.answered ++ map (users_given user) answers });
    all_are = rw (queues, rows_are) (all-same next (with_more_answers next (map (users_given user) answers)) _ refl refl (renewed-all all user inode row_there.0 row_there.1 row_there.0.device bytes next (relisted-all c all are here list is calls)));
  }
    where
      here : Place
      here = place user inode side

      next : Queues
      next = relisted c all are here list is calls

      rows_are : new ≡ with_row_of all user inode (Some (row_with_bytes row_there.0 bytes))
      rows_are = rows ∙ ap (λ o. with_row_of all user inode (option_map (λ row. row_with_bytes row bytes) o)) row_there.1

      pipe : shown_pipe next (row_with_bytes row_there.0 bytes) ≡ with_waiting_on side calls (record old { bytes = bytes })
      pipe =
          pipe-relisted c next side row_there.0 bytes calls (ap (calls_of next) row_there.2 ∙ calls-own c all are here list is calls)
          (calls-agree c next (list_on (opposite side) row_there.0) (other c all are here list is calls (list_on (opposite side) row_there.0) (λ same. opposite-not side (ap (λ p. p.side) (are.apart (place user inode (opposite side)) here list (ap (option_map (list_on (opposite side))) row_there.1 ∙ ap Some same) is)))))
          ∙ ap (λ p. with_waiting_on side calls (record p { bytes = bytes })) (sym old-is)

      pipes : map (pipes_in next) (with_row_of all user inode (Some (row_with_bytes row_there.0 bytes))) ≡ slice_set (map (pipes_in c) all) user (slice_set (pipes_of (shown_shared c all) user) inode (Some (with_waiting_on side calls (record old { bytes = bytes }))))
      pipes =
          pipes-set c next all user inode (Some (row_with_bytes row_there.0 bytes)) (row_of-within all user inode row_there.0 row_there.1).0
          (λ p other_list at differs. other c all are here list is calls other_list (λ same. let q = are.apart p here list (at ∙ ap Some same) is in differs (ap (λ p. p.user) q, ap (λ p. p.inode) q)))
          ∙ ap (λ p. slice_set (map (pipes_in c) all) user (slice_set (pipes_of (shown_shared c all) user) inode (Some p))) pipe

  pub same-bytes : all ≡ with_bytes_of all user inode old.bytes
  same-bytes =
      sym (row-same all user inode row_there.0 row_there.1)
      ∙ ap (λ bytes. with_row_of all user inode (Some (row_with_bytes row_there.0 bytes))) (sym (ap (λ p. p.bytes) old-is))
      ∙ ap (λ o. with_row_of all user inode (option_map (λ row. row_with_bytes row old.bytes) o)) (sym row_there.1)

  -- nobody is answered
  pub kept : (calls : List WaitingCall) (d : Queues) → d ≡ with_waiting c list (map (users_call user) calls) → Became c d all all user inode (nobody_answered (with_waiting_on side calls old))
  kept calls d queues = changed old.bytes calls [] d all (queues ∙ sym (no_answers _)) same-bytes

  pub waited : (call : WaitingCall) (d : Queues) → d ≡ with_waiting c list (waiting_in_list c list ++ users_call user call ∷ []) → Became c d all all user inode (nobody_answered (with_waiting_on side (waiting ++ call ∷ []) old))
  waited call d queues = kept (waiting ++ call ∷ []) d (queues ∙ ap (with_waiting c list) (ap (λ own. own ++ users_call user call ∷ []) waiting-there ∙ sym (map-append (users_call user) waiting (call ∷ []))))

  pub left : (leaves : WaitingCall → Bool) (d : Queues) → d ≡ with_waiting c list (staying (λ own. leaves own.call) (waiting_in_list c list)) → Became c d all all user inode (nobody_answered (with_waiting_on side (staying leaves waiting) old))
  left leaves d queues = kept (staying leaves waiting) d (queues ∙ ap (with_waiting c list) (ap (staying (λ own. leaves own.call)) waiting-there ∙ filter-mapped (users_call user) (λ own. not (leaves own.call)) waiting))

  -- some are answered alike
  pub answered : (bytes : List ℕ) (answer : Answer) (stay leave : List WaitingCall) (d : Queues) (new : List Rows) (rest gone : List UsersCall) → d ≡ with_more_answers (with_waiting c list rest) (map (λ own. answer_to own answer) gone) → rest ≡ map (users_call user) stay → gone ≡ map (users_call user) leave → new ≡ with_bytes_of all user inode bytes →
      Became c d all new user inode (record { pipe = with_waiting_on side stay (record old { bytes = bytes }); answers = map (λ call. (call, answer)) leave })
  answered bytes answer stay leave d new rest gone queues rest_is gone_is rows = changed bytes stay (map (λ call. (call, answer)) leave) d new
      (queues ∙ ap₂ (λ w a. with_more_answers (with_waiting c list w) a) rest_is (ap (map (λ own. answer_to own answer)) gone_is ∙ answers-mapped user answer leave)) rows

  pub first_answered : (bytes : List ℕ) (answer : Answer) (d : Queues) (new : List Rows) → d ≡ with_more_answers (with_waiting c list (drop 1 (waiting_in_list c list))) (map (λ own. answer_to own answer) (take 1 (waiting_in_list c list))) → new ≡ with_bytes_of all user inode bytes →
      Became c d all new user inode (record { pipe = with_waiting_on side (drop 1 waiting) (record old { bytes = bytes }); answers = map (λ call. (call, answer)) (take 1 waiting) })
  first_answered bytes answer d new queues rows = answered bytes answer (drop 1 waiting) (take 1 waiting) d new _ _ queues (ap (drop 1) waiting-there ∙ drop-map (users_call user) 1 waiting) (ap (take 1) waiting-there ∙ take-map (users_call user) 1 waiting) rows

  dismissed-on : (leaves : WaitingCall → Bool) (answer : Answer) (s : Side) (p : Pipe WaitingCall) → record { pipe = with_waiting_on s (staying leaves (waiting_on s p)) p; answers = all_answered leaves answer (waiting_on s p) } ≡ dismissed_on s leaves answer p
  dismissed-on leaves answer Reading p = refl
  dismissed-on leaves answer Writing p = refl

  pub dismissed : (leaves : WaitingCall → Bool) (answer : Answer) (d : Queues) → d ≡ with_more_answers (with_waiting c list (staying (λ own. leaves own.call) (waiting_in_list c list))) (map (λ own. answer_to own answer) (filter (λ own. leaves own.call) (waiting_in_list c list))) → Became c d all all user inode (dismissed_on side leaves answer old)
  dismissed leaves answer d queues = subst (Became c d all all user inode) (dismissed-on leaves answer side old)
      (answered old.bytes answer (staying leaves waiting) (filter leaves waiting) d all _ _ queues (ap (staying (λ own. leaves own.call)) waiting-there ∙ filter-mapped (users_call user) (λ own. not (leaves own.call)) waiting) (ap (filter (λ own. leaves own.call)) waiting-there ∙ filter-mapped (users_call user) (λ own. leaves own.call) waiting) same-bytes)

  -- the calls stay
  same-calls : with_waiting c list (map (users_call user) waiting) ≡ c
  same-calls = ap (λ pipes. record c { pipes = pipes }) (insert-there c.pipes list (map (users_call user) waiting) (of (maps.get c.pipes list) (are.there (place user inode side) list is) ∙ ap Some waiting-there))
    where
      of : (o : Option (List UsersCall)) → is_some o ≡ true → o ≡ Some (unwrap_or o [])
      of None there = absurd (cc)
      of (Some calls) there = refl

-- the bytes of a pipe are others
module _ (c : Queues) (all : List Rows) (are : AreAllPipes c all) (user inode : ℕ) (row : PipeRow) (is : row_of all user inode ≡ Some row) where
  pub refilled : (bytes : List ℕ) (answers : List (WaitingCall × Answer)) (d : Queues) (new : List Rows) → d ≡ with_more_answers c (map (users_given user) answers) → new ≡ with_bytes_of all user inode bytes →
      Became c d all new user inode (record { pipe = record (pipe_at (shown_shared c all) user inode) { bytes = bytes }; answers = answers })
  refilled bytes answers d new queues rows =
      let readers : list_of_place all (place user inode Reading) ≡ Some row.readers = ap (option_map (list_on Reading)) is in
      changed c all are user inode Reading row.readers readers bytes (waiting c all are user inode Reading row.readers readers) answers d new (queues ∙ ap (λ q. with_more_answers q (map (users_given user) answers)) (sym (same-calls c all are user inode Reading row.readers readers))) rows

  -- another stands there, with no bytes
  pub renewed : (device : Option Device) (new : List Rows) → new ≡ with_row_of all user inode (Some (renewed_row row device [])) → Became c c all new user inode (nobody_answered (record (pipe_at (shown_shared c all) user inode) { device = device; bytes = [] }))
  renewed device new rows =
      let within = (row_of-within all user inode row is).0 in
      let pipes =
      pipes-set c c all user inode (Some (renewed_row row device [])) within (λ p list at differs. refl)
      ∙ ap (λ (p : Pipe WaitingCall). slice_set (map (pipes_in c) all) user (slice_set (pipes_of (shown_shared c all) user) inode (Some (record p { device = device; bytes = [] })))) (sym (pipe_at-told c all user inode row is)) in
      record {
        told_is = ap (shown_shared c) rows ∙ (λ i. record (shown_shared c all) { pipes = pipes i; answered = sym (append-nil c.answered) i });
        all_are = rw rows (renewed-all all user inode row is device [] c are);
      }

  -- the first of its bytes
  pub stand : (count : ℕ) → count ≤ length (pipe_at (shown_shared c all) user inode).bytes → count ≤ length row.bytes
  stand count within = rw (pipe_at-told c all user inode row is) at within

  pub first-of : (count : ℕ) (bytes : List ℕ) → IfSome (row_of all user inode) (λ row. bytes ≡ take count row.bytes) → bytes ≡ take count (pipe_at (shown_shared c all) user inode).bytes
  first-of count bytes first = let first_is : bytes ≡ take count row.bytes = rw is at first in first_is ∙ ap (λ p. take count p.bytes) (sym (pipe_at-told c all user inode row is))

  -- as a change of the user's pipes gives them
  module _ (own : Rows) (read : own ≡ get_or all user own) where
    pub own-is : own ≡ get_or all user []
    own-is = read ∙ get_or_default all user own [] (row_of-within all user inode row is).0

    pub own-row : row_at own inode ≡ Some row
    own-row = ap (λ (p : Rows). row_at p inode) own-is ∙ is

    pub stand-own : (count : ℕ) → count ≤ length (pipe_at (shown_shared c all) user inode).bytes → IfSome (row_at own inode) (λ row. count ≤ length row.bytes)
    stand-own count within = rw own-row (stand count within)

    pub fits : (more : ℕ) → length (pipe_at (shown_shared c all) user inode).bytes + more ≤ PIPE → IfSome (row_at own inode) (λ row. length row.bytes + more ≤ PIPE)
    fits more within = rw own-row (rw (pipe_at-told c all user inode row is) at within)

    pub put-renewed : (changed : Rows) (device : Option Device) → IfSome (row_at own inode) (λ row. changed ≡ slice_set own inode (Some (renewed_row row device []))) → slice_set all user changed ≡ with_row_of all user inode (Some (renewed_row row device []))
    put-renewed changed device put =
        let put_is : changed ≡ slice_set own inode (Some (renewed_row row device [])) = rw own-row at put in
        ap (slice_set all user) (put_is ∙ ap (λ (p : Rows). slice_set p inode (Some (renewed_row row device []))) own-is)

    pub put-bytes : (changed : Rows) (change : List ℕ → List ℕ) → IfSome (row_at own inode) (λ row. changed ≡ slice_set own inode (Some (row_with_bytes row (change row.bytes)))) → slice_set all user changed ≡ with_bytes_of all user inode (change (pipe_at (shown_shared c all) user inode).bytes)
    put-bytes changed change put =
        let put_is : changed ≡ slice_set own inode (Some (row_with_bytes row (change row.bytes))) = rw own-row at put in
        ap (slice_set all user) (put_is ∙ ap (λ (p : Rows). slice_set p inode (Some (row_with_bytes row (change row.bytes)))) own-is)
        ∙ ap (λ (p : Pipe WaitingCall). with_row_of all user inode (Some (row_with_bytes row (change p.bytes)))) (sym (pipe_at-told c all user inode row is))
        ∙ ap (λ o. with_row_of all user inode (option_map (λ row. row_with_bytes row (change (pipe_at (shown_shared c all) user inode).bytes)) o)) (sym is)

-- ---- both sides

pub taken-out : (c : Queues) (all : List Rows) (are : AreAllPipes c all) (user inode readers writers : ℕ) → list_of_place all (place user inode Reading) ≡ Some readers → list_of_place all (place user inode Writing) ≡ Some writers → HasPipe (shown_shared c all) user inode → (leaves : WaitingCall → Bool) (d e : Queues) →
    d ≡ with_waiting c readers (staying (λ own. leaves own.call) (waiting_in_list c readers)) → e ≡ with_waiting d writers (staying (λ own. leaves own.call) (waiting_in_list d writers)) → Became c e all all user inode (nobody_answered (removed leaves (pipe_at (shown_shared c all) user inode)))
taken-out c all are user inode readers writers reading writing there leaves d e first second =
    let old_pipe : Pipe WaitingCall = pipe_at (shown_shared c all) user inode in
    let one = left c all are user inode Reading readers reading leaves d first in
    let two = left d all one.all_are user inode Writing writers writing leaves e second in
    let next = λ (p : Pipe WaitingCall). nobody_answered (record p { writers = staying leaves p.writers }) in
    record {
      told_is = two.told_is ∙ ap (λ s. with_pipe_after s user inode (next (pipe_at s user inode))) one.told_is ∙ then-after (shown_shared c all) user inode there (nobody_answered (record old_pipe { readers = staying leaves old_pipe.readers })) next;
      all_are = two.all_are;
    }

-- the first of those who wait to write is answered, and its bytes go in
module _ (calls : List WaitingCall) (call : WaitingCall) (is : slice_get calls 0 ≡ Some call) where
  pub first-bytes : flat_map (λ other. other.bytes) (take 1 calls) ≡ call.bytes
  first-bytes = of calls is
    where
      of : (calls : List WaitingCall) → slice_get calls 0 ≡ Some call → flat_map (λ other. other.bytes) (take 1 calls) ≡ call.bytes
      of [] none = absurd (cc)
      of (first ∷ rest) some = append-nil first.bytes ∙ ap (λ other. other.bytes) (same_Some first call some)

  pub first-taken : (bytes : List ℕ) → map {B = WaitingCall × Answer} (λ other. (other, Reply (length call.bytes) bytes)) (take 1 calls) ≡ map (λ other. (other, Reply (length other.bytes) bytes)) (take 1 calls)
  first-taken bytes = of calls is
    where
      of : (calls : List WaitingCall) → slice_get calls 0 ≡ Some call → map {B = WaitingCall × Answer} (λ other. (other, Reply (length call.bytes) bytes)) (take 1 calls) ≡ map (λ other. (other, Reply (length other.bytes) bytes)) (take 1 calls)
      of [] none = refl
      of (first ∷ rest) some = ap (λ other. (first, Reply (length other.bytes) bytes) ∷ []) (sym (same_Some first call some))

pub first-some : {A : Type 0} (xs : List A) → 0 < length xs → None ≡ slice_get xs 0 → ⊥
first-some [] some none = absurd (omega (arith, some))
first-some (x ∷ xs) some none = absurd (cc)
