-- What a call leaves in a pipe or a device: whoever waited or came is answered once or waits on, nobody waits in vain, and no more bytes stand than may; and how long a file is once bytes were put into it.
use Rattle.std.proofs.Common.{◌≡◌, ◌⊎◌, inl, inr, ℕ, ◌+◌, ◌≤◌, Bool, true, false, not, List, [], ◌∷◌, ◌++◌, length, take, map, refl, ap, ap₂, ◌∙◌, subst, arith, length-append, length-drop, cond}
use Rattle.std.specs.Prelude.{◌==◌, ◌||◌, Option, Some, None, min, nat_le, if◌then◌else◌}
use Rattle.std.specs.List.{count_by}
use Rattle.std.proofs.lemmas.Bool.{cases_lt, cond_both, leb-true}
use Rattle.std.proofs.lemmas.List.Filters.{sum_by-filter_both}
use Rattle.std.proofs.lemmas.List.Sums.{sum_by-append, sum_by-cons}
use Rattle.std.proofs.lemmas.Option.{same_Some}
use Rattle.qx_base.specs.declared.errno.Errno.TheVariants.{EBADF, EINTR, ENOSPC}
use Rattle.qx_base.specs.Verdict.{Verdict, Waits, Gives, Fails}
use Rattle.qx_base.specs.declared.device.TheConstants.{STATE}
use Rattle.qx_devices.specs.Devices.{read_verdict, write_verdict}
use Rattle.qx_devices.specs.declared.Device.{Device}
use Rattle.qx_types.specs.declared.limits.TheConstants.Limits.{PIPE}
use Rattle.qx_types.specs.declared.outcome.Answer.{Answer}
use Rattle.qx_types.specs.declared.outcome.Answer.TheVariants.{Failed}
use Rattle.qx_machine.specs.declared.rows.Manner.{Manner}
use Rattle.qx_machine.specs.declared.rows.Sides.{Sides}
use Rattle.qx_machine.specs.declared.rows.WaitingCall.{WaitingCall}
use Rattle.qx_machine.specs.Clients.{abandoned, with_abandoned}
use Rattle.qx_machine.specs.Files.{put}
use Rattle.qx_machine.specs.Pipes.{PipeAfter, Pipe, cancel, clean, clean_read, clean_write, dismissed, if_first, nobody_answered, pipe_of, read, read_told, readers_ended, release, removed, served, settle, staying, told_or_waiting, waiting_unless, with_reader, with_writer, write, write_told, writers_ended}
use Rattle.qx_machine.specs.Verdicts.{pipe_read, pipe_write, read_ended, read_of, sides_at, told_of, within, write_ended, write_of}
use Rattle.qx_machine.specs.Waiting.{is_gone, is_of_process, offered as offers, wanted as wants}
use Rattle.qx_machine.proofs.AtOnce.{IsIdle}
use Rattle.qx_files.proofs.PutLemmas.{length-put}
use Rattle.qx_pipe.specs.Laws.{FirstWaits, IsSettled}
use Rattle.qx_pipe.proofs.LawLemmas as laws
use Rattle.qx_pipe.proofs.LawLemmas.{ReaderWaits, WriterWaits, is_settled, served_by, settled-by, tried_by}
use Rattle.qx_invariants.specs.Changes.{IsPipeSettled, IsShort, most_bytes}
use Rattle.qx_invariants.specs.Waits.{count_answers_to, count_waiting_of}

-- ---- who is answered, and who waits

pub no_one : (b : Bool) → b ≡ false → 0 + cond b 1 0 ≡ 0
no_one b is = ap (λ test. 0 + cond test 1 0) is

module _ {W : Type 0} (leaves which : W → Bool) where
  -- as many of those stay of whom nobody leaves
  pub staying_same : ((who : W) → leaves who ≡ true → which who ≡ false) → (all : List W) → count_by which (staying leaves all) ≡ count_by which all
  staying_same apart [] = refl
  staying_same apart (who ∷ all) = by (leaves who) refl (staying_same apart all)
    where
      first : (rest : List W) → count_by which (who ∷ rest) ≡ cond (which who) 1 0 + count_by which rest
      first rest = sum_by-cons (λ w. cond (which w) 1 0) who rest

      by : (b : Bool) → leaves who ≡ b → count_by which (staying leaves all) ≡ count_by which all → count_by which (if not b then who ∷ staying leaves all else staying leaves all) ≡ count_by which (who ∷ all)
      by true is rest = let none = no_one (which who) (apart who is) in omega (arith, first all, none, rest)
      by false is rest = omega (arith, first all, first (staying leaves all), rest)

  -- and none of those who all leave
  pub staying_none : ((who : W) → leaves who ≡ false → which who ≡ false) → (all : List W) → count_by which (staying leaves all) ≡ 0
  staying_none apart [] = refl
  staying_none apart (who ∷ all) = by (leaves who) refl (staying_none apart all)
    where
      by : (b : Bool) → leaves who ≡ b → count_by which (staying leaves all) ≡ 0 → count_by which (if not b then who ∷ staying leaves all else staying leaves all) ≡ 0
      by true is rest = rest
      by false is rest = let first = sum_by-cons (λ w. cond (which w) 1 0) who (staying leaves all) in let none = no_one (which who) (apart who is) in omega (arith, first, none, rest)

  staying_fewer : (all : List W) → count_by which (staying leaves all) ≤ count_by which all
  staying_fewer all = let both = sum_by-filter_both leaves (λ who. not (leaves who)) (λ who. refl) (λ w. cond (which w) 1 0) all in omega (arith, both)

  -- ---- in a pipe

  pub removed_same : ((who : W) → leaves who ≡ true → which who ≡ false) → (p : Pipe W) → count_waiting_of which (removed leaves p) ≡ count_waiting_of which p
  removed_same apart p = let readers = staying_same apart p.readers in let writers = staying_same apart p.writers in omega (arith, readers, writers)

  pub removed_none : ((who : W) → leaves who ≡ false → which who ≡ false) → (p : Pipe W) → count_waiting_of which (removed leaves p) ≡ 0
  removed_none apart p = let readers = staying_none apart p.readers in let writers = staying_none apart p.writers in omega (arith, readers, writers)

  pub removed_fewer : (p : Pipe W) → count_waiting_of which (removed leaves p) ≤ count_waiting_of which p
  removed_fewer p = let readers = staying_fewer p.readers in let writers = staying_fewer p.writers in omega (arith, readers, writers)

module _ {W : Type 0} (wanted : W → ℕ) (offered : W → List ℕ) (gone : W → Bool) where
  read_once : (manner : Manner) (who : W) (p : Pipe W) (which : W → Bool)
      → count_answers_to which (read wanted offered gone manner who p).answers + count_waiting_of which (read wanted offered gone manner who p).pipe ≡ count_waiting_of which (removed gone p) + count_by which (who ∷ [])
  read_once manner who p which = omega (arith, laws.read_once wanted offered gone manner who p which, sum_by-append (λ w. cond (which w) 1 0) (staying gone p.readers) (who ∷ []))

  write_once : (manner : Manner) (who : W) (p : Pipe W) (which : W → Bool)
      → count_answers_to which (write wanted offered gone manner who p).answers + count_waiting_of which (write wanted offered gone manner who p).pipe ≡ count_waiting_of which (removed gone p) + count_by which (who ∷ [])
  write_once manner who p which = omega (arith, laws.write_once wanted offered gone manner who p which, sum_by-append (λ w. cond (which w) 1 0) (staying gone p.writers) (who ∷ []))

  cancel_once : (is_asked : W → Bool) (p : Pipe W) (which : W → Bool)
      → count_answers_to which (cancel wanted offered gone is_asked p).answers + count_waiting_of which (cancel wanted offered gone is_asked p).pipe ≡ count_waiting_of which (removed gone p) + 0
  cancel_once is_asked p which = omega (arith, laws.cancel_once wanted offered gone is_asked p which)

  module _ (is_on_it : W → Bool) (sides : Sides) (p : Pipe W) where
    release_once : (which : W → Bool)
        → count_answers_to which (release wanted offered gone is_on_it sides p).answers + count_waiting_of which (release wanted offered gone is_on_it sides p).pipe ≡ count_waiting_of which (removed gone p) + 0
    release_once which = omega (arith, laws.release_once wanted offered gone is_on_it sides p which)

    -- nobody waits over the block any more
    pub release_none : count_waiting_of is_on_it (release wanted offered gone is_on_it sides p).pipe ≡ 0
    release_none =
        let cleaned : Pipe W = (clean wanted offered gone p).pipe in
        let left : Pipe W = (dismissed is_on_it (Failed EBADF) cleaned).pipe in
        let open_for : Sides = sides_at p.device sides in
        let readers : Pipe W = (readers_ended open_for left).pipe in
        let writers : Pipe W = (writers_ended open_for readers).pipe in
        let served : Pipe W = (settle wanted offered writers).pipe in
        let no_readers = staying_none is_on_it is_on_it (λ who not_on. not_on) cleaned.readers in
        let no_writers = staying_none is_on_it is_on_it (λ who not_on. not_on) cleaned.writers in
        omega (arith, no_readers, no_writers, (laws.counted-readers_ended is_on_it open_for left).counted, (laws.counted-writers_ended is_on_it open_for readers).counted, (laws.counted-settle is_on_it wanted offered writers).counted, (laws.counted-without_bytes is_on_it open_for served).counted)

-- ---- nobody waits in vain

module _ {W : Type 0} (wanted : W → ℕ) (offered : W → List ℕ) where
  settled_served : (device : Option Device) (bytes : List ℕ) (readers writers : List W) → ReaderWaits wanted offered device bytes readers → WriterWaits wanted offered device bytes writers
      → served wanted offered device bytes readers writers ≡ nobody_answered (pipe_of device bytes readers writers)
  settled_served device bytes [] [] no_read no_write = refl
  settled_served device bytes (reader ∷ readers) [] no_read no_write = rw no_read refl
  settled_served device bytes [] (writer ∷ writers) no_read no_write = rw no_write refl
  settled_served device bytes (reader ∷ readers) (writer ∷ writers) no_read no_write = rw (no_read, no_write) refl

  -- to settle it changes nothing and answers nobody
  rests : (p : Pipe W) → IsSettled wanted offered p → settle wanted offered p ≡ nobody_answered p
  unfolding settle
  rests p settled = settled_served p.device p.bytes p.readers p.writers settled.readers settled.writers

-- ---- a process ends

-- its calls offer and want as much as before
pub abandoned_part : {A : Type 0} (process : ℕ) (call : WaitingCall) (part : WaitingCall → A) → part (record call { is_gone = true }) ≡ part call → part (abandoned process call) ≡ part call
abandoned_part process call part same = cond_both (is_of_process process call) _ _ (λ now. part now ≡ part call) (λ its. same) (λ other. refl)

abandoned_waits : {A : Type 0} (process : ℕ) (part : WaitingCall → A) (verdict : A → Verdict) → ((call : WaitingCall) → part (record call { is_gone = true }) ≡ part call)
    → (all : List WaitingCall) → FirstWaits (λ call. verdict (part call)) all → FirstWaits (λ call. verdict (part call)) (map (abandoned process) all)
abandoned_waits process part verdict same [] waits = tt
abandoned_waits process part verdict same (call ∷ all) waits = ap verdict (abandoned_part process call part (same call)) ∙ waits

-- nor does anybody wait in vain then
pub abandoned_rests : (process : ℕ) (pipe : Pipe WaitingCall) → IsPipeSettled pipe → IsPipeSettled (with_abandoned process pipe)
abandoned_rests process pipe is =
    let settled = subst (IsSettled wants offers) (ap (λ (after : PipeAfter WaitingCall). after.pipe) is) (is_settled wants offers pipe) in
    rests wants offers (with_abandoned process pipe) (settled-by wants offers (with_abandoned process pipe)
    (abandoned_waits process wants (λ count. read_of pipe.device count pipe.bytes) (λ call. refl) pipe.readers settled.readers)
    (abandoned_waits process offers (λ given. write_of pipe.device given pipe.bytes) (λ call. refl) pipe.writers settled.writers))

-- ---- a pipe or that device still, and no more bytes than may stand there

-- no more bytes are left than so many
abbrev LeavesFew : ℕ → Verdict → Type 0
LeavesFew most Waits = Unit {0}
LeavesFew most (Gives status bytes state) = length state ≤ most
LeavesFew most (Fails error) = Unit {0}

told_few : (most : ℕ) (before : List ℕ) (verdict : Verdict) (answer : Answer) (left : List ℕ) → LeavesFew most verdict → told_of before verdict ≡ Some (answer, left) → length before ≤ most → length left ≤ most
told_few most before Waits answer left few told short = absurd (cc)
told_few most before (Gives status bytes state) answer left few told short = subst (λ (given : Answer × List ℕ). length given.1 ≤ most) (same_Some _ _ told) few
told_few most before (Fails error) answer left few told short = subst (λ (given : Answer × List ℕ). length given.1 ≤ most) (same_Some _ _ told) short

pipe_read_few : (count : ℕ) (bytes : List ℕ) → length bytes ≤ PIPE → LeavesFew PIPE (pipe_read count bytes)
pipe_read_few count [] short = tt
pipe_read_few count (b ∷ bs) short = let long = length-drop (min count (length (b ∷ bs))) (b ∷ bs) in omega (arith, long, short)

pipe_write_few : (given bytes : List ℕ) → LeavesFew PIPE (pipe_write given bytes)
pipe_write_few given bytes =
    cond_both (nat_le (length bytes + length given) PIPE) (Gives (length given) [] (bytes ++ given)) Waits (LeavesFew PIPE)
    (λ fits. let few = leb-true (length bytes + length given) PIPE fits in let long = length-append bytes given in omega (arith, few, long)) (λ full. tt)

within_few : (most : ℕ) (verdict : Verdict) → LeavesFew STATE (within most verdict)
within_few most Waits = tt
within_few most (Gives status bytes state) = cond_both (nat_le (length state) STATE) (Gives status (take most bytes) state) (Fails ENOSPC) (LeavesFew STATE) (leb-true (length state) STATE) (λ many. tt)
within_few most (Fails error) = tt

read_few : (device : Option Device) (count : ℕ) (bytes : List ℕ) → length bytes ≤ most_bytes device → LeavesFew (most_bytes device) (read_of device count bytes)
read_few None count bytes short = pipe_read_few count bytes short
read_few (Some device) count bytes short = within_few count (read_verdict device count bytes)

write_few : (device : Option Device) (given bytes : List ℕ) → LeavesFew (most_bytes device) (write_of device given bytes)
write_few None given bytes = pipe_write_few given bytes
write_few (Some device) given bytes = within_few 0 (write_verdict device given bytes)

-- what was done kept the rules, and left no more bytes than may stand
pub record KeepsRules {W : Type 0} (before after : Pipe W) : Type 0 where
  pub device : after.device ≡ before.device
  pub short : IsShort before → IsShort after

module _ {W : Type 0} where
  rules-then : {first second third : Pipe W} → KeepsRules first second → KeepsRules second third → KeepsRules first third
  rules-then one other = record { device = other.device ∙ one.device; short = λ short. other.short (one.short short) }

  -- other calls wait
  rules-same : (p : Pipe W) (readers writers : List W) → KeepsRules p (record p { readers = readers; writers = writers })
  rules-same p readers writers = record { device = refl; short = λ short. short }

  rules-if : (p : Pipe W) (b : Bool) (first other : PipeAfter W) → KeepsRules p first.pipe → KeepsRules p other.pipe → KeepsRules p (if b then first else other).pipe
  rules-if p true first other one_is other_is = one_is
  rules-if p false first other one_is other_is = other_is

module _ {W : Type 0} (wanted : W → ℕ) (offered : W → List ℕ) where
  rules-read : (p : Pipe W) (reader : W) (answer : Answer) (left : List ℕ) → read_told wanted offered p.device p.bytes reader ≡ Some (answer, left) → KeepsRules p (record p { bytes = left })
  rules-read p reader answer left told = record { device = refl; short = λ short. told_few (most_bytes p.device) p.bytes _ answer left (read_few p.device (wanted reader) p.bytes short) told short }

  rules-write : (p : Pipe W) (writer : W) (answer : Answer) (left : List ℕ) → write_told wanted offered p.device p.bytes writer ≡ Some (answer, left) → KeepsRules p (record p { bytes = left })
  rules-write p writer answer left told = record { device = refl; short = λ short. told_few (most_bytes p.device) p.bytes _ answer left (write_few p.device (offered writer) p.bytes) told short }

  settle_rules : (p : Pipe W) → KeepsRules p (settle wanted offered p).pipe
  unfolding settle
  settle_rules p =
      served_by wanted offered p.device (λ bytes readers writers after. KeepsRules (pipe_of p.device bytes readers writers) after.pipe)
      (λ bytes readers writers no_read no_write. rules-same (pipe_of p.device bytes readers writers) readers writers)
      (λ bytes reader readers writers answer left after told later. let first = rules-read (pipe_of p.device bytes (reader ∷ readers) writers) reader answer left told in record { device = later.device; short = λ short. later.short (first.short short) })
      (λ bytes writer readers writers answer left after told later. let first = rules-write (pipe_of p.device bytes readers (writer ∷ writers)) writer answer left told in record { device = later.device; short = λ short. later.short (first.short short) })
      p.bytes p.readers p.writers

  rules-told : (manner : Manner) (who : W) (ended : Option Answer) (told : Option (Answer × List ℕ)) (p with_it : Pipe W) → ((answer : Answer) (left : List ℕ) → told ≡ Some (answer, left) → KeepsRules p (record p { bytes = left })) → KeepsRules p with_it
      → KeepsRules p (told_or_waiting wanted offered manner who ended told p with_it).pipe
  rules-told manner who (Some answer) told p with_it answered waits = rules-same p p.readers p.writers
  rules-told manner who None told p with_it answered waits =
      tried_by (λ after. KeepsRules p after.pipe) who told (λ left. settle wanted offered (record p { bytes = left })) (waiting_unless manner who p with_it)
      (λ answer left is. rules-then (answered answer left is) (settle_rules (record p { bytes = left })))
      (λ none. rules-if p manner.is_nonblock _ _ (rules-same p p.readers p.writers) (rules-if p manner.is_asked _ _ (rules-same p p.readers p.writers) waits))

  first-told : (others : List W) (told : Option (Answer × List ℕ)) (given : Answer × List ℕ) → if_first others told ≡ Some given → told ≡ Some given
  first-told others told given is = by (length others == 0) is
    where
      by : (first : Bool) → (if first then told else None) ≡ Some given → told ≡ Some given
      by true same = same
      by false same = absurd (cc)

  rules-clean_read : (manner : Manner) (who : W) (p : Pipe W) → KeepsRules p (clean_read wanted offered manner who p).pipe
  rules-clean_read manner who p =
      rules-told manner who (read_ended p.device manner (wanted who) p.bytes) (if_first p.readers (read_told wanted offered p.device p.bytes who)) p (with_reader p who)
      (λ answer left is. rules-read p who answer left (first-told p.readers _ (answer, left) is)) (rules-same p (p.readers ++ who ∷ []) p.writers)

  rules-clean_write : (manner : Manner) (who : W) (p : Pipe W) → KeepsRules p (clean_write wanted offered manner who p).pipe
  rules-clean_write manner who p =
      rules-told manner who (write_ended p.device manner (offered who)) (if_first p.writers (write_told wanted offered p.device p.bytes who)) p (with_writer p who)
      (λ answer left is. rules-write p who answer left (first-told p.writers _ (answer, left) is)) (rules-same p p.readers (p.writers ++ who ∷ []))

  rules-without : (b : Bool) (p : Pipe W) → KeepsRules p (if b then p else record p { bytes = [] })
  rules-without true p = rules-same p p.readers p.writers
  rules-without false p = record { device = refl; short = λ short. omega arith }

  module _ (gone : W → Bool) (p : Pipe W) where
    abbrev cleaned : Pipe W
    cleaned = (clean wanted offered gone p).pipe

    rules-clean : KeepsRules p cleaned
    rules-clean = let left = settle_rules (removed gone p) in record { device = left.device; short = left.short }

    read_rules : (manner : Manner) (who : W) → KeepsRules p (read wanted offered gone manner who p).pipe
    read_rules manner who = rules-then rules-clean (rules-clean_read manner who cleaned)

    write_rules : (manner : Manner) (who : W) → KeepsRules p (write wanted offered gone manner who p).pipe
    write_rules manner who = rules-then rules-clean (rules-clean_write manner who cleaned)

    -- who leaves takes nothing along
    rules-dismissed : (leaves : W → Bool) (answer : Answer) → KeepsRules p (dismissed leaves answer cleaned).pipe
    rules-dismissed leaves answer = rules-then rules-clean (rules-same cleaned (staying leaves cleaned.readers) (staying leaves cleaned.writers))

    cancel_rules : (is_asked : W → Bool) → KeepsRules p (cancel wanted offered gone is_asked p).pipe
    cancel_rules is_asked = rules-then (rules-dismissed is_asked (Failed EINTR)) (settle_rules (dismissed is_asked (Failed EINTR) cleaned).pipe)

    release_rules : (is_on_it : W → Bool) (sides : Sides) → KeepsRules p (release wanted offered gone is_on_it sides p).pipe
    release_rules is_on_it sides =
        let open_for : Sides = sides_at p.device sides in
        let left : Pipe W = (dismissed is_on_it (Failed EBADF) cleaned).pipe in
        let readers : Pipe W = (readers_ended open_for left).pipe in
        let writers : Pipe W = (writers_ended open_for readers).pipe in
        let served : Pipe W = (settle wanted offered writers).pipe in
        let no_readers : KeepsRules left readers = rules-if left open_for.for_writing _ _ (rules-same left left.readers left.writers) (rules-same left (staying (λ who. true) left.readers) left.writers) in
        let no_writers : KeepsRules readers writers = rules-if readers open_for.for_reading _ _ (rules-same readers readers.readers readers.writers) (rules-same readers readers.readers (staying (λ who. true) readers.writers)) in
        rules-then (rules-dismissed is_on_it (Failed EBADF)) (rules-then no_readers (rules-then no_writers (rules-then (settle_rules writers) (rules-without (open_for.for_reading || open_for.for_writing) served))))

-- ---- what a call leaves

-- whoever waited or came is answered once or waits, nobody waits in vain, and it keeps its rules
pub record LeavesWell (p : Pipe WaitingCall) (came : List WaitingCall) (after : PipeAfter WaitingCall) : Type 0 where
  pub once : (which : WaitingCall → Bool) → count_answers_to which after.answers + count_waiting_of which after.pipe ≡ count_waiting_of which (removed is_gone p) + count_by which came
  pub settled : IsPipeSettled after.pipe
  pub rules : KeepsRules p after.pipe

module _ (p : Pipe WaitingCall) where
  pub read_well : (manner : Manner) (who : WaitingCall) → LeavesWell p (who ∷ []) (read wants offers is_gone manner who p)
  read_well manner who = record { once = read_once wants offers is_gone manner who p; settled = rests wants offers _ (laws.read_settled wants offers is_gone manner who p); rules = read_rules wants offers is_gone p manner who }

  pub write_well : (manner : Manner) (who : WaitingCall) → LeavesWell p (who ∷ []) (write wants offers is_gone manner who p)
  write_well manner who = record { once = write_once wants offers is_gone manner who p; settled = rests wants offers _ (laws.write_settled wants offers is_gone manner who p); rules = write_rules wants offers is_gone p manner who }

  pub cancel_well : (is_asked : WaitingCall → Bool) → LeavesWell p [] (cancel wants offers is_gone is_asked p)
  cancel_well is_asked = record { once = cancel_once wants offers is_gone is_asked p; settled = rests wants offers _ (laws.cancel_settled wants offers is_gone is_asked p); rules = cancel_rules wants offers is_gone p is_asked }

  pub release_well : (is_on_it : WaitingCall → Bool) (sides : Sides) → LeavesWell p [] (release wants offers is_gone is_on_it sides p)
  release_well is_on_it sides = record { once = release_once wants offers is_gone is_on_it sides p; settled = rests wants offers _ (laws.release_settled wants offers is_gone is_on_it sides p); rules = release_rules wants offers is_gone p is_on_it sides }

  waits_none : (which : WaitingCall → Bool) (idle : Pipe WaitingCall) → IsIdle idle → count_waiting_of which idle ≡ 0
  waits_none which idle nobody = ap₂ (λ (readers writers : List WaitingCall). count_by which readers + count_by which writers) nobody.0 nobody.1

  -- where nobody waits in it, before and then, it is as if nobody came and nobody was answered
  pub idle_well : (came : List WaitingCall) (after : PipeAfter WaitingCall) → IsIdle p → IsIdle after.pipe → LeavesWell p came after → LeavesWell p [] (nobody_answered after.pipe)
  idle_well came after before left well = record {
    once = λ which. let now = waits_none which after.pipe left in let were = waits_none which p before in let fewer = removed_fewer is_gone which p in omega (arith, now, were, fewer);
    settled = well.settled;
    rules = well.rules;
  }

-- ---- files

-- once bytes were put there it is no longer than before, or than to where they end
pub put_short : (bytes new : List ℕ) (o most : ℕ) → o + length new ≤ most → (length (put bytes o new) ≤ length bytes) ⊎ (length (put bytes o new) ≤ most)
put_short bytes new o most few = elim (cases_lt (length bytes) (o + length new)) [
  | inl past ↦ let long = length-put bytes new o in inr (omega (arith, long, past, few))
  | inr le ↦ let long = length-put bytes new o in inl (omega (arith, long, le))
]
