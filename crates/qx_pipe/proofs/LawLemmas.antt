-- The laws of settling, and of each call: who waits is answered in order, once, or waits on; no byte of a pipe is lost; and nobody waits in vain.
use Rattle.std.proofs.Common.{◌≡◌, ◌⊎◌, inl, inr, ℕ, zero, suc, ◌+◌, Bool, true, false, not, List, [], ◌∷◌, ◌++◌, length, take, drop, refl, sym, ap, subst, ◌∙◌, append-nil, append_assoc, arith}
use Rattle.std.specs.Prelude.{◌||◌, Option, Some, None, cond, filter, map, nat_le, if◌then◌else◌}
use Rattle.std.specs.List.{count_by}
use Rattle.std.proofs.lemmas.Bool.Decides.{leb_tells}
use Rattle.std.proofs.lemmas.List.{take-append-drop}
use Rattle.std.proofs.lemmas.List.Filters.{sum_by-filter_both}
use Rattle.std.proofs.lemmas.List.Sums.{sum_by-append}
use Rattle.std.proofs.lemmas.Option.{same_Some}
use Rattle.qx_base.specs.declared.errno.Errno.TheVariants.{EAGAIN, EBADF, EINTR, EPIPE}
use Rattle.qx_base.specs.Verdict.{Verdict, Waits, Gives, Fails}
use Rattle.qx_devices.specs.declared.Device.{Device}
use Rattle.qx_types.specs.declared.limits.TheConstants.Limits.{PIPE}
use Rattle.qx_types.specs.declared.outcome.Answer.{Answer}
use Rattle.qx_types.specs.declared.outcome.Answer.TheVariants.{Reply, Failed}
use Rattle.qx_machine.specs.declared.rows.Manner.{Manner}
use Rattle.qx_machine.specs.declared.rows.Sides.{Sides}
use Rattle.qx_machine.specs.Pipes.{PipeAfter, Pipe, all_answered, and_then, cancel, clean, clean_read, clean_write, dismissed, first_answered, if_first, nobody_answered, one_answered, pipe_of, read, read_told, readers_dismissed, readers_ended, release, removed, served, settle, staying, told_or_waiting, tried, waiting_unless, with_reader, with_writer, without_bytes, write, write_told, writers_dismissed, writers_ended}
use Rattle.qx_machine.specs.Verdicts.{pipe_read, pipe_write, read_ended, read_of, sides_at, told_of, write_ended, write_of}
use Rattle.qx_pipe.specs.Laws.{AnswersInOrder, AnswersOnce, Conserves, FirstWaits, IsSettled, NoneFits, answered_bytes, answers_to, brought, handed_out, waiting_of}

-- ---- settling, one answer after another

-- who is told something is answered first, and who is told nothing is left
pub tried_by : {W : Type 0} (P : PipeAfter W → Type 0) (who : W) (told : Option (Answer × List ℕ)) (next : List ℕ → PipeAfter W) (otherwise : PipeAfter W)
    → ((answer : Answer) (left : List ℕ) → told ≡ Some (answer, left) → P (first_answered who answer (next left))) → (told ≡ None → P otherwise) → P (tried who told next otherwise)
tried_by P who None next otherwise answered waits = waits refl
tried_by P who (Some (answer, left)) next otherwise answered waits = answered answer left refl

-- who is told nothing waits
told_nothing : (before : List ℕ) (verdict : Verdict) → told_of before verdict ≡ None → verdict ≡ Waits
told_nothing before Waits none = refl
told_nothing before (Gives status bytes state) none = absurd (cc)
told_nothing before (Fails error) none = absurd (cc)

module _ {W : Type 0} (wanted : W → ℕ) (offered : W → List ℕ) (device : Option Device) where
  abbrev pub ReaderWaits : List ℕ → List W → Type 0
  ReaderWaits bytes readers = FirstWaits (λ reader. read_of device (wanted reader) bytes) readers

  abbrev pub WriterWaits : List ℕ → List W → Type 0
  WriterWaits bytes writers = FirstWaits (λ writer. write_of device (offered writer) bytes) writers

  reader_waits : (bytes : List ℕ) (reader : W) → read_told wanted offered device bytes reader ≡ None → read_of device (wanted reader) bytes ≡ Waits
  reader_waits bytes reader none = told_nothing bytes (read_of device (wanted reader) bytes) none

  writer_waits : (bytes : List ℕ) (writer : W) → write_told wanted offered device bytes writer ≡ None → write_of device (offered writer) bytes ≡ Waits
  writer_waits bytes writer none = told_nothing bytes (write_of device (offered writer) bytes) none

  -- what holds where the first on each side waits, and holds once one more was answered before, holds of settling
  module _ (P : List ℕ → List W → List W → PipeAfter W → Type 0)
      (rest : (bytes : List ℕ) (readers writers : List W) → ReaderWaits bytes readers → WriterWaits bytes writers → P bytes readers writers (nobody_answered (pipe_of device bytes readers writers)))
      (reads : (bytes : List ℕ) (reader : W) (readers writers : List W) (answer : Answer) (left : List ℕ) (after : PipeAfter W) → read_told wanted offered device bytes reader ≡ Some (answer, left) → P left readers writers after → P bytes (reader ∷ readers) writers (first_answered reader answer after))
      (writes : (bytes : List ℕ) (writer : W) (readers writers : List W) (answer : Answer) (left : List ℕ) (after : PipeAfter W) → write_told wanted offered device bytes writer ≡ Some (answer, left) → P left readers writers after → P bytes readers (writer ∷ writers) (first_answered writer answer after)) where
    pub served_by : (bytes : List ℕ) (readers writers : List W) → P bytes readers writers (served wanted offered device bytes readers writers)
    served_by bytes [] [] = rest bytes [] [] tt tt
    served_by bytes (reader ∷ readers) [] =
        tried_by (P bytes (reader ∷ readers) []) reader (read_told wanted offered device bytes reader) (λ left. served wanted offered device left readers []) (nobody_answered (pipe_of device bytes (reader ∷ readers) []))
        (λ answer left told. reads bytes reader readers [] answer left _ told (served_by left readers []))
        (λ none. rest bytes (reader ∷ readers) [] (reader_waits bytes reader none) tt)
    served_by bytes [] (writer ∷ writers) =
        tried_by (P bytes [] (writer ∷ writers)) writer (write_told wanted offered device bytes writer) (λ left. served wanted offered device left [] writers) (nobody_answered (pipe_of device bytes [] (writer ∷ writers)))
        (λ answer left told. writes bytes writer [] writers answer left _ told (served_by left [] writers))
        (λ none. rest bytes [] (writer ∷ writers) tt (writer_waits bytes writer none))
    served_by bytes (reader ∷ readers) (writer ∷ writers) =
        let neither : PipeAfter W = nobody_answered (pipe_of device bytes (reader ∷ readers) (writer ∷ writers)) in
        let written : PipeAfter W = tried writer (write_told wanted offered device bytes writer) (λ left. served wanted offered device left (reader ∷ readers) writers) neither in
        tried_by (P bytes (reader ∷ readers) (writer ∷ writers)) reader (read_told wanted offered device bytes reader) (λ left. served wanted offered device left readers (writer ∷ writers)) written
        (λ answer left told. reads bytes reader readers (writer ∷ writers) answer left _ told (served_by left readers (writer ∷ writers)))
        (λ no_read. tried_by (P bytes (reader ∷ readers) (writer ∷ writers)) writer (write_told wanted offered device bytes writer) (λ left. served wanted offered device left (reader ∷ readers) writers) neither
        (λ answer left told. writes bytes writer (reader ∷ readers) writers answer left _ told (served_by left (reader ∷ readers) writers))
        (λ no_write. rest bytes (reader ∷ readers) (writer ∷ writers) (reader_waits bytes reader no_read) (writer_waits bytes writer no_write)))

-- ---- messages are answered in their order, and of a pipe no byte is lost

module _ {W : Type 0} (wanted : W → ℕ) (offered : W → List ℕ) where
  abbrev order-nobody : (p : Pipe W) → AnswersInOrder p (nobody_answered p)
  order-nobody p = record { read = 0; written = 0; readers = refl; writers = refl; whom = (refl, refl) }

  abbrev order-reader : {device : Option Device} {bytes left : List ℕ} {reader : W} {readers writers : List W} {answer : Answer} {after : PipeAfter W} → AnswersInOrder (pipe_of device left readers writers) after → AnswersInOrder (pipe_of device bytes (reader ∷ readers) writers) (first_answered reader answer after)
  order-reader {readers} rest = record { read = suc rest.read; written = rest.written; readers = rest.readers; writers = rest.writers; whom = inl (take rest.read readers, refl, rest.whom) }

  abbrev order-writer : {device : Option Device} {bytes left : List ℕ} {writer : W} {readers writers : List W} {answer : Answer} {after : PipeAfter W} → AnswersInOrder (pipe_of device left readers writers) after → AnswersInOrder (pipe_of device bytes readers (writer ∷ writers)) (first_answered writer answer after)
  order-writer {writers} rest = record { read = rest.read; written = suc rest.written; readers = rest.readers; writers = rest.writers; whom = inr (take rest.written writers, refl, rest.whom) }

  pub in_order : (p : Pipe W) → AnswersInOrder p (settle wanted offered p)
  unfolding settle
  in_order p =
      served_by wanted offered p.device (λ bytes readers writers after. AnswersInOrder (pipe_of p.device bytes readers writers) after)
      (λ bytes readers writers no_read no_write. order-nobody (pipe_of p.device bytes readers writers))
      (λ bytes reader readers writers answer left after told rest. order-reader rest)
      (λ bytes writer readers writers answer left after told rest. order-writer rest)
      p.bytes p.readers p.writers

  -- what a reader gets and what is left is what stood
  read_bytes : (bytes : List ℕ) (reader : W) (answer : Answer) (left : List ℕ) → read_told wanted offered None bytes reader ≡ Some (answer, left) → answered_bytes answer ++ left ≡ bytes
  read_bytes [] reader answer left told = absurd (cc)
  read_bytes (b ∷ bs) reader answer left told = ap (λ (given : Answer × List ℕ). answered_bytes given.0 ++ given.1) (sym (same_Some _ _ told)) ∙ take-append-drop _ (b ∷ bs)

  -- a writer gets nothing, and what stands then is what stood and its bytes
  write_bytes : (bytes : List ℕ) (writer : W) (answer : Answer) (left : List ℕ) → write_told wanted offered None bytes writer ≡ Some (answer, left) → answered_bytes answer ++ left ≡ bytes ++ offered writer
  write_bytes bytes writer answer left told = by (nat_le (length bytes + length (offered writer)) PIPE) told
    where
      by : (fits : Bool) → told_of bytes (if fits then Gives (length (offered writer)) [] (bytes ++ offered writer) else Waits) ≡ Some (answer, left) → answered_bytes answer ++ left ≡ bytes ++ offered writer
      by true gives = ap (λ (given : Answer × List ℕ). answered_bytes given.0 ++ given.1) (sym (same_Some _ _ gives))
      by false gives = absurd (cc)

  -- one more answer, and what was given for it
  conserves-more : (answer : Answer) (before left given later : List ℕ) (answers : List (W × Answer)) (stand : List ℕ) → answered_bytes answer ++ left ≡ before ++ given → handed_out answers ++ stand ≡ left ++ later
      → (answered_bytes answer ++ handed_out answers) ++ stand ≡ before ++ (given ++ later)
  conserves-more answer before left given later answers stand one rest =
      append_assoc (answered_bytes answer) (handed_out answers) stand ∙ ap (λ all. answered_bytes answer ++ all) rest ∙ sym (append_assoc (answered_bytes answer) left later)
      ∙ ap (λ all. all ++ later) one ∙ append_assoc before given later

  pub conserves : (p : Pipe W) → p.device ≡ None → Conserves offered p (settle wanted offered p)
  unfolding settle
  conserves p none =
      subst (λ device. Conserves offered (pipe_of device p.bytes p.readers p.writers) (served wanted offered device p.bytes p.readers p.writers)) (sym none)
      (served_by wanted offered None (λ bytes readers writers after. Conserves offered (pipe_of None bytes readers writers) after)
      (λ bytes readers writers no_read no_write. record { order = order-nobody (pipe_of None bytes readers writers); bytes = sym (append-nil bytes) })
      (λ bytes reader readers writers answer left after told rest. record {
        order = order-reader rest.order;
        bytes = conserves-more answer bytes left [] (brought offered (take rest.order.written writers)) after.answers after.pipe.bytes (read_bytes bytes reader answer left told ∙ sym (append-nil bytes)) rest.bytes;
      })
      (λ bytes writer readers writers answer left after told rest. record {
        order = order-writer rest.order;
        bytes = conserves-more answer bytes left (offered writer) (brought offered (take rest.order.written writers)) after.answers after.pipe.bytes (write_bytes bytes writer answer left told) rest.bytes;
      })
      p.bytes p.readers p.writers)

-- ---- who waits is answered once or waits on

module _ {W : Type 0} (which : W → Bool) where
  -- answered or waiting are those who waited, and so many more
  pub record Counted (more : ℕ) (p : Pipe W) (after : PipeAfter W) : Type 0 where
    pub counted : answers_to which after.answers + waiting_of which after.pipe ≡ more + waiting_of which p

  abbrev one : W → ℕ
  one who = count_by which (who ∷ [])

  count-first : (who : W) (all : List W) → count_by which (who ∷ all) ≡ one who + count_by which all
  count-first who all = sum_by-append (λ who. cond (which who) 1 0) (who ∷ []) all

  count-last : (all : List W) (who : W) → count_by which (all ++ who ∷ []) ≡ count_by which all + one who
  count-last all who = sum_by-append (λ who. cond (which who) 1 0) all (who ∷ [])

  answers-both : (xs ys : List (W × Answer)) → answers_to which (xs ++ ys) ≡ answers_to which xs + answers_to which ys
  answers-both xs ys = sum_by-append (λ a. cond (which a.0) 1 0) xs ys

  counted-if : {more : ℕ} {p : Pipe W} (b : Bool) {first other : PipeAfter W} → Counted more p first → Counted more p other → Counted more p (if b then first else other)
  counted-if true one_is other_is = one_is
  counted-if false one_is other_is = other_is

  counted-then : {more : ℕ} {p : Pipe W} {first : PipeAfter W} (next : Pipe W → PipeAfter W) → Counted 0 p first → Counted more first.pipe (next first.pipe) → Counted more p (and_then first next)
  counted-then {first} next before after = record { counted = omega (arith, answers-both first.answers (next first.pipe).answers, before.counted, after.counted) }

  counted-nobody : (p : Pipe W) → Counted 0 p (nobody_answered p)
  counted-nobody p = record { counted = omega arith }

  -- whoever comes is answered before all others
  counted-first : {p : Pipe W} {after : PipeAfter W} (who : W) (answer : Answer) (bytes : List ℕ) → Counted 0 (record p { bytes = bytes }) after → Counted (one who) p (first_answered who answer after)
  counted-first {after} who answer bytes later = record { counted = omega (arith, answers-both ((who, answer) ∷ []) after.answers, later.counted) }

  -- ---- settling

  counted-reader : {device : Option Device} {bytes left : List ℕ} {reader : W} {readers writers : List W} {answer : Answer} {after : PipeAfter W} → Counted 0 (pipe_of device left readers writers) after → Counted 0 (pipe_of device bytes (reader ∷ readers) writers) (first_answered reader answer after)
  counted-reader {reader} {readers} {answer} {after} later = record { counted = omega (arith, answers-both ((reader, answer) ∷ []) after.answers, count-first reader readers, later.counted) }

  counted-writer : {device : Option Device} {bytes left : List ℕ} {writer : W} {readers writers : List W} {answer : Answer} {after : PipeAfter W} → Counted 0 (pipe_of device left readers writers) after → Counted 0 (pipe_of device bytes readers (writer ∷ writers)) (first_answered writer answer after)
  counted-writer {writer} {writers} {answer} {after} later = record { counted = omega (arith, answers-both ((writer, answer) ∷ []) after.answers, count-first writer writers, later.counted) }

  module _ (wanted : W → ℕ) (offered : W → List ℕ) where
    pub counted-settle : (p : Pipe W) → Counted 0 p (settle wanted offered p)
    unfolding settle
    counted-settle p =
        served_by wanted offered p.device (λ bytes readers writers after. Counted 0 (pipe_of p.device bytes readers writers) after)
        (λ bytes readers writers no_read no_write. counted-nobody (pipe_of p.device bytes readers writers))
        (λ bytes reader readers writers answer left after told later. counted-reader later)
        (λ bytes writer readers writers answer left after told later. counted-writer later)
        p.bytes p.readers p.writers

  -- ---- who leaves

  answers-all : (answer : Answer) (all : List W) → answers_to which (map (λ who. (who, answer)) all) ≡ count_by which all
  answers-all answer [] = refl
  answers-all answer (who ∷ all) = omega (arith, answers-both ((who, answer) ∷ []) (map (λ who. (who, answer)) all), count-first who all, answers-all answer all)

  answers-left : (leaves : W → Bool) (answer : Answer) (all : List W) → answers_to which (all_answered leaves answer all) + count_by which (staying leaves all) ≡ count_by which all
  answers-left leaves answer all = ap (λ n. n + count_by which (staying leaves all)) (answers-all answer (filter leaves all)) ∙ sum_by-filter_both leaves (λ who. not (leaves who)) (λ who. refl) (λ who. cond (which who) 1 0) all

  counted-readers_dismissed : (leaves : W → Bool) (answer : Answer) (p : Pipe W) → Counted 0 p (readers_dismissed leaves answer p)
  counted-readers_dismissed leaves answer p = record { counted = omega (arith, answers-left leaves answer p.readers) }

  counted-writers_dismissed : (leaves : W → Bool) (answer : Answer) (p : Pipe W) → Counted 0 p (writers_dismissed leaves answer p)
  counted-writers_dismissed leaves answer p = record { counted = omega (arith, answers-left leaves answer p.writers) }

  counted-dismissed : (leaves : W → Bool) (answer : Answer) (p : Pipe W) → Counted 0 p (dismissed leaves answer p)
  counted-dismissed leaves answer p = counted-then (writers_dismissed leaves answer) (counted-readers_dismissed leaves answer p) (counted-writers_dismissed leaves answer _)

  pub counted-readers_ended : (sides : Sides) (p : Pipe W) → Counted 0 p (readers_ended sides p)
  counted-readers_ended sides p = counted-if sides.for_writing (counted-nobody p) (counted-readers_dismissed (λ who. true) (Reply 0 []) p)

  pub counted-writers_ended : (sides : Sides) (p : Pipe W) → Counted 0 p (writers_ended sides p)
  counted-writers_ended sides p = counted-if sides.for_reading (counted-nobody p) (counted-writers_dismissed (λ who. true) (Failed EPIPE) p)

  pub counted-without_bytes : (sides : Sides) (p : Pipe W) → Counted 0 p (without_bytes sides p)
  counted-without_bytes sides p = by_side (sides.for_reading || sides.for_writing)
    where
      by_side : (b : Bool) → Counted 0 p (nobody_answered (if b then p else record p { bytes = [] }))
      by_side true = counted-nobody p
      by_side false = record { counted = omega arith }

  -- ---- READ and WRITE

  module _ (wanted : W → ℕ) (offered : W → List ℕ) (manner : Manner) (who : W) (p : Pipe W) where
    counted-alone : (answer : Answer) → Counted (one who) p (one_answered who answer p)
    counted-alone answer = counted-first who answer p.bytes (counted-nobody p)

    counted-told : (ended : Option Answer) (told : Option (Answer × List ℕ)) (with_it : Pipe W) → waiting_of which with_it ≡ one who + waiting_of which p → Counted (one who) p (told_or_waiting wanted offered manner who ended told p with_it)
    counted-told (Some answer) told with_it more = counted-alone answer
    counted-told None told with_it more =
        tried_by (Counted (one who) p) who told (λ left. settle wanted offered (record p { bytes = left })) (waiting_unless manner who p with_it)
        (λ answer left is. counted-first who answer left (counted-settle wanted offered (record p { bytes = left })))
        (λ none. counted-if manner.is_nonblock (counted-alone (Failed EAGAIN)) (counted-if manner.is_asked (counted-alone (Failed EINTR)) (record { counted = omega (arith, more) })))

    counted-clean_read : Counted (one who) p (clean_read wanted offered manner who p)
    counted-clean_read = counted-told _ _ (with_reader p who) (omega (arith, count-last p.readers who))

    counted-clean_write : Counted (one who) p (clean_write wanted offered manner who p)
    counted-clean_write = counted-told _ _ (with_writer p who) (omega (arith, count-last p.writers who))

module _ {W : Type 0} (wanted : W → ℕ) (offered : W → List ℕ) (gone : W → Bool) where
  pub read_once : (manner : Manner) (who : W) (p : Pipe W) → AnswersOnce (with_reader (removed gone p) who) (read wanted offered gone manner who p)
  read_once manner who p = λ which.
      let all = counted-then which (clean_read wanted offered manner who) (counted-settle which wanted offered (removed gone p)) (counted-clean_read which wanted offered manner who _) in
      omega (arith, count-last which (removed gone p).readers who, all.counted)

  pub write_once : (manner : Manner) (who : W) (p : Pipe W) → AnswersOnce (with_writer (removed gone p) who) (write wanted offered gone manner who p)
  write_once manner who p = λ which.
      let all = counted-then which (clean_write wanted offered manner who) (counted-settle which wanted offered (removed gone p)) (counted-clean_write which wanted offered manner who _) in
      omega (arith, count-last which (removed gone p).writers who, all.counted)

  pub cancel_once : (is_asked : W → Bool) (p : Pipe W) → AnswersOnce (removed gone p) (cancel wanted offered gone is_asked p)
  cancel_once is_asked p = λ which.
      let cleaned = counted-settle which wanted offered (removed gone p) in
      let asked = counted-then which (dismissed is_asked (Failed EINTR)) cleaned (counted-dismissed which is_asked (Failed EINTR) _) in
      let all = counted-then which (settle wanted offered) asked (counted-settle which wanted offered _) in
      omega (arith, all.counted)

  pub release_once : (is_on_it : W → Bool) (sides : Sides) (p : Pipe W) → AnswersOnce (removed gone p) (release wanted offered gone is_on_it sides p)
  release_once is_on_it sides p = λ which.
      let open_for : Sides = sides_at p.device sides in
      let cleaned = counted-settle which wanted offered (removed gone p) in
      let left = counted-then which (dismissed is_on_it (Failed EBADF)) cleaned (counted-dismissed which is_on_it (Failed EBADF) _) in
      let readers = counted-then which (readers_ended open_for) left (counted-readers_ended which open_for _) in
      let writers = counted-then which (writers_ended open_for) readers (counted-writers_ended which open_for _) in
      let served = counted-then which (settle wanted offered) writers (counted-settle which wanted offered _) in
      let all = counted-then which (without_bytes open_for) served (counted-without_bytes which open_for _) in
      omega (arith, all.counted)

-- ---- nobody waits in vain

module _ {W : Type 0} where
  drop-nobody : (n : ℕ) (all : List W) → all ≡ [] → drop n all ≡ []
  drop-nobody zero all none = none
  drop-nobody (suc n) [] none = refl
  drop-nobody (suc n) (who ∷ all) none = let clash : who ∷ all ≡ [] = none in absurd (cc)

  nobody-stays : (all : List W) → staying (λ who. true) all ≡ []
  nobody-stays [] = refl
  nobody-stays (who ∷ all) = nobody-stays all

  -- who comes last waits, or is the first and comes to waiting
  last-waits : (verdict : W → Verdict) (told : Option (Answer × List ℕ)) (all : List W) (who : W) → FirstWaits verdict all → (told ≡ None → verdict who ≡ Waits) → if_first all told ≡ None → FirstWaits verdict (all ++ who ∷ [])
  last-waits verdict told [] who before own none = own none
  last-waits verdict told (first ∷ others) who before own none = before

  nobody-waits : (verdict : W → Verdict) (all : List W) → all ≡ [] → FirstWaits verdict all
  nobody-waits verdict all none = subst (FirstWaits verdict) (sym none) tt

module _ {W : Type 0} (wanted : W → ℕ) (offered : W → List ℕ) where
  -- ---- at a pipe

  no_bytes : (bytes : List ℕ) (readers : List W) → FirstWaits (λ reader. pipe_read (wanted reader) bytes) readers → (bytes ≡ []) ⊎ (readers ≡ [])
  no_bytes [] readers waits = inl refl
  no_bytes (b ∷ bs) [] waits = inr refl
  no_bytes (b ∷ bs) (reader ∷ readers) waits = absurd (cc)

  none_fits : (bytes : List ℕ) (writers : List W) → FirstWaits (λ writer. pipe_write (offered writer) bytes) writers → NoneFits offered bytes writers
  none_fits bytes [] waits = tt
  none_fits bytes (writer ∷ writers) waits = elim (leb_tells (length bytes + length (offered writer)) PIPE) [
    | inl fits ↦ let gives : pipe_write (offered writer) bytes ≡ Gives (length (offered writer)) [] (bytes ++ offered writer) = rw fits.0 refl in absurd (cc)
    | inr full ↦ full.1
  ]

  pub settled-by : (p : Pipe W) → ReaderWaits wanted offered p.device p.bytes p.readers → WriterWaits wanted offered p.device p.bytes p.writers → IsSettled wanted offered p
  settled-by p readers writers = record {
    readers = readers;
    writers = writers;
    pipe = λ none. (
      no_bytes p.bytes p.readers (subst (λ device. ReaderWaits wanted offered device p.bytes p.readers) none readers),
      none_fits p.bytes p.writers (subst (λ device. WriterWaits wanted offered device p.bytes p.writers) none writers),
    );
  }

  -- ---- settling

  pub is_settled : (p : Pipe W) → IsSettled wanted offered (settle wanted offered p).pipe
  unfolding settle
  is_settled p =
      served_by wanted offered p.device (λ bytes readers writers after. IsSettled wanted offered after.pipe)
      (λ bytes readers writers no_read no_write. settled-by (pipe_of p.device bytes readers writers) no_read no_write)
      (λ bytes reader readers writers answer left after told rest. rest)
      (λ bytes writer readers writers answer left after told rest. rest)
      p.bytes p.readers p.writers

  -- ---- READ and WRITE

  settled-if : (b : Bool) (first other : PipeAfter W) → IsSettled wanted offered first.pipe → IsSettled wanted offered other.pipe → IsSettled wanted offered (if b then first else other).pipe
  settled-if true first other one_is other_is = one_is
  settled-if false first other one_is other_is = other_is

  settled-told : (manner : Manner) (who : W) (ended : Option Answer) (told : Option (Answer × List ℕ)) (p with_it : Pipe W) → IsSettled wanted offered p → (told ≡ None → IsSettled wanted offered with_it) → IsSettled wanted offered (told_or_waiting wanted offered manner who ended told p with_it).pipe
  settled-told manner who (Some answer) told p with_it before waits = before
  settled-told manner who None told p with_it before waits =
      tried_by (λ after. IsSettled wanted offered after.pipe) who told (λ left. settle wanted offered (record p { bytes = left })) (waiting_unless manner who p with_it)
      (λ answer left is. is_settled (record p { bytes = left }))
      (λ none. settled-if manner.is_nonblock _ _ before (settled-if manner.is_asked _ _ before (waits none)))

  settled-clean_read : (manner : Manner) (who : W) (p : Pipe W) → IsSettled wanted offered p → IsSettled wanted offered (clean_read wanted offered manner who p).pipe
  settled-clean_read manner who p before =
      let told : Option (Answer × List ℕ) = read_told wanted offered p.device p.bytes who in
      settled-told manner who (read_ended p.device manner (wanted who) p.bytes) (if_first p.readers told) p (with_reader p who) before (λ none.
      settled-by (with_reader p who) (last-waits _ told p.readers who before.readers (reader_waits wanted offered p.device p.bytes who) none) before.writers)

  settled-clean_write : (manner : Manner) (who : W) (p : Pipe W) → IsSettled wanted offered p → IsSettled wanted offered (clean_write wanted offered manner who p).pipe
  settled-clean_write manner who p before =
      let told : Option (Answer × List ℕ) = write_told wanted offered p.device p.bytes who in
      settled-told manner who (write_ended p.device manner (offered who)) (if_first p.writers told) p (with_writer p who) before (λ none.
      settled-by (with_writer p who) before.readers (last-waits _ told p.writers who before.writers (writer_waits wanted offered p.device p.bytes who) none))

  -- ---- the freeing of a block

  settled-empty : (p : Pipe W) → p.readers ≡ [] → p.writers ≡ [] → IsSettled wanted offered p
  settled-empty p no_readers no_writers = settled-by p (nobody-waits _ p.readers no_readers) (nobody-waits _ p.writers no_writers)

  -- with the last block go all who wait, and then the bytes
  settled-without : (reading writing : Bool) (left : Pipe W) →
      let ended : Pipe W = (writers_ended (record { for_reading = reading; for_writing = writing }) (readers_ended (record { for_reading = reading; for_writing = writing }) left).pipe).pipe in
      IsSettled wanted offered (without_bytes (record { for_reading = reading; for_writing = writing }) (settle wanted offered ended).pipe).pipe
  settled-without true writing left = is_settled _
  settled-without false true left = is_settled _
  settled-without false false left =
      let ended : Pipe W = record left { readers = staying (λ who. true) left.readers; writers = staying (λ who. true) left.writers } in
      let kept = in_order wanted offered ended in
      settled-empty (record (settle wanted offered ended).pipe { bytes = [] })
      (kept.readers ∙ drop-nobody kept.read ended.readers (nobody-stays left.readers))
      (kept.writers ∙ drop-nobody kept.written ended.writers (nobody-stays left.writers))

  module _ (gone : W → Bool) where
    pub read_settled : (manner : Manner) (who : W) (p : Pipe W) → IsSettled wanted offered (read wanted offered gone manner who p).pipe
    read_settled manner who p = settled-clean_read manner who _ (is_settled (removed gone p))

    pub write_settled : (manner : Manner) (who : W) (p : Pipe W) → IsSettled wanted offered (write wanted offered gone manner who p).pipe
    write_settled manner who p = settled-clean_write manner who _ (is_settled (removed gone p))

    pub cancel_settled : (is_asked : W → Bool) (p : Pipe W) → IsSettled wanted offered (cancel wanted offered gone is_asked p).pipe
    cancel_settled is_asked p = is_settled _

    pub release_settled : (is_on_it : W → Bool) (sides : Sides) (p : Pipe W) → IsSettled wanted offered (release wanted offered gone is_on_it sides p).pipe
    release_settled is_on_it sides p = settled-without (sides_at p.device sides).for_reading (sides_at p.device sides).for_writing (dismissed is_on_it (Failed EBADF) (clean wanted offered gone p).pipe).pipe
