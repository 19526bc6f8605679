-- With which errors those are answered who wait in a pipe or at a device: a READ with those of a READ, and a WRITE with those of a WRITE.
use Rattle.std.proofs.Common.{◌≡◌, inl, inr, ℕ, ◌+◌, ◌==◌, List, [], ◌∷◌, ◌++◌, length, map, Bool, true, false, refl, sym, subst}
use Rattle.std.specs.Prelude.{◌&&◌, ◌||◌, Option, Some, None, filter, nat_le, not, if◌then◌else◌}
use Rattle.std.specs.List.{AllByRecursion}
use Rattle.std.proofs.lemmas.Bool.{cond_both}
use Rattle.qx_base.specs.declared.errno.Errno.{Errno}
use Rattle.qx_base.specs.declared.errno.Errno.TheVariants.{EAGAIN, EBADF, EINTR, ENOSPC, EPIPE}
use Rattle.qx_base.specs.Verdict.{Verdict, Waits, Gives, Fails}
use Rattle.qx_base.specs.declared.device.TheConstants.{STATE}
use Rattle.qx_devices.specs.Devices.{read_verdict, write_verdict}
use Rattle.qx_devices.specs.declared.Device.{Device}
use Rattle.qx_types.specs.declared.limits.TheConstants.Limits.{PIPE}
use Rattle.qx_types.specs.declared.outcome.Answer.{Answer}
use Rattle.qx_types.specs.declared.outcome.Answer.TheVariants.{Failed, Reply}
use Rattle.qx_wire.specs.declared.message.Message.TheVariants as msg
use Rattle.qx_machine.specs.declared.rows.Manner.{Manner}
use Rattle.qx_machine.specs.declared.rows.Sides.{Sides}
use Rattle.qx_machine.specs.Pipes.{PipeAfter, Pipe, all_answered, and_then, cancel, clean, clean_read, clean_write, dismissed, if_first, nobody_answered, one_answered, pipe_of, read, read_told, readers_ended, release, served, settle, staying, told_or_waiting, tried, waiting_unless, without_bytes, write, write_told, writers_ended}
use Rattle.qx_machine.specs.Verdicts.{pipe_read, pipe_write, read_ended, read_of, sides_at, told_of, within, write_ended, write_of}
use Rattle.qx_invariants.specs.Errors.{Any, Errors, IsOneOf, pipe}

-- the errors of a READ and of a WRITE of a pipe, or at a device
abbrev pub read_errors : Option Device → Errors
read_errors None = pipe (msg.Read 0)
read_errors (Some device) = Any

abbrev pub write_errors : Option Device → Errors
write_errors None = pipe (msg.Write [])
write_errors (Some device) = Any

-- those of a pipe are so at a device too
read_may : (device : Option Device) (error : Errno) → IsOneOf (pipe (msg.Read 0)) error → IsOneOf (read_errors device) error
read_may None error h = h
read_may (Some device) error h = tt

write_may : (device : Option Device) (error : Errno) → IsOneOf (pipe (msg.Write [])) error → IsOneOf (write_errors device) error
write_may None error h = h
write_may (Some device) error h = tt

module _ {A : Type 0} (P : A → Type 0) where
  pub all_append : (xs ys : List A) → AllByRecursion P xs → AllByRecursion P ys → AllByRecursion P (xs ++ ys)
  all_append [] ys h k = k
  all_append (x ∷ xs) ys h k = (h.0, all_append xs ys h.1 k)

  all_filter : (test : A → Bool) (xs : List A) → AllByRecursion P xs → AllByRecursion P (filter test xs)
  all_filter test [] h = tt
  all_filter test (x ∷ xs) h = cond_both (test x) (x ∷ filter test xs) (filter test xs) (AllByRecursion P) (λ passes. (h.0, all_filter test xs h.1)) (λ fails. all_filter test xs h.1)

  pub all_more : (Q : A → Type 0) → ((x : A) → P x → Q x) → (xs : List A) → AllByRecursion P xs → AllByRecursion Q xs
  all_more Q more [] h = tt
  all_more Q more (x ∷ xs) h = (more x h.0, all_more Q more xs h.1)

  -- those who stay have it, if they have it unless they leave
  all_staying : (leaves : A → Bool) (xs : List A) → AllByRecursion (λ x. leaves x ≡ false → P x) xs → AllByRecursion P (staying leaves xs)
  all_staying leaves [] h = tt
  all_staying leaves (x ∷ xs) h = by (leaves x) refl (all_staying leaves xs h.1)
    where
      by : (is : Bool) → leaves x ≡ is → AllByRecursion P (staying leaves xs) → AllByRecursion P (if not is then x ∷ staying leaves xs else staying leaves xs)
      by true is rest = rest
      by false is rest = (h.0 is, rest)

-- what each may be told
module _ {W : Type 0} (T : W → Errno → Type 0) where
  abbrev pub IsTold : W × Answer → Type 0
  IsTold (who, Reply status bytes) = Unit {0}
  IsTold (who, Failed error) = T who error

  abbrev pub AreTold : List (W × Answer) → Type 0
  AreTold answers = AllByRecursion IsTold answers

  -- whoever reads may be told each error of a READ, and whoever writes each of a WRITE
  abbrev pub MayRead : Option Device → W → Type 0
  MayRead device who = (error : Errno) → IsOneOf (read_errors device) error → T who error

  abbrev pub MayWrite : Option Device → W → Type 0
  MayWrite device who = (error : Errno) → IsOneOf (write_errors device) error → T who error

  abbrev IfTold : W → Option (Answer × List ℕ) → Type 0
  IfTold who None = Unit {0}
  IfTold who (Some (answer, bytes)) = IsTold (who, answer)

  abbrev IfAnswered : W → Option Answer → Type 0
  IfAnswered who None = Unit {0}
  IfAnswered who (Some answer) = IsTold (who, answer)

  -- ---- what they are told

  -- whatever a device's own function says
  within_told : (who : W) (most : ℕ) (before : List ℕ) (verdict : Verdict) → ((error : Errno) → T who error) → IfTold who (told_of before (within most verdict))
  within_told who most before Waits may = tt
  within_told who most before (Gives status bytes after) may = cond_both (nat_le (length after) STATE) _ (Fails ENOSPC) (λ verdict. IfTold who (told_of before verdict)) (λ few. tt) (λ many. may ENOSPC)
  within_told who most before (Fails error) may = may error

  pipe_read-told : (who : W) (count : ℕ) (bytes : List ℕ) → IfTold who (told_of bytes (pipe_read count bytes))
  pipe_read-told who count [] = tt
  pipe_read-told who count (first ∷ rest) = tt

  pipe_write-told : (who : W) (given bytes : List ℕ) → IfTold who (told_of bytes (pipe_write given bytes))
  pipe_write-told who given bytes = cond_both (nat_le (length bytes + length given) PIPE) (Gives (length given) [] (bytes ++ given)) Waits (λ verdict. IfTold who (told_of bytes verdict)) (λ fits. tt) (λ full. tt)

  read_of-told : (device : Option Device) (who : W) → MayRead device who → (count : ℕ) (bytes : List ℕ) → IfTold who (told_of bytes (read_of device count bytes))
  read_of-told None who may count bytes = pipe_read-told who count bytes
  read_of-told (Some device) who may count bytes = within_told who count bytes (read_verdict device count bytes) (λ error. may error tt)

  write_of-told : (device : Option Device) (who : W) → MayWrite device who → (given bytes : List ℕ) → IfTold who (told_of bytes (write_of device given bytes))
  write_of-told None who may given bytes = pipe_write-told who given bytes
  write_of-told (Some device) who may given bytes = within_told who 0 bytes (write_verdict device given bytes) (λ error. may error tt)

  read_ended-told : (device : Option Device) (who : W) (manner : Manner) (count : ℕ) (bytes : List ℕ) → IfAnswered who (read_ended device manner count bytes)
  read_ended-told None who manner count bytes = cond_both ((count == 0) || ((length bytes == 0) && not manner.has_other_side)) (Some (Reply 0 [])) None (IfAnswered who) (λ ended. tt) (λ open_still. tt)
  read_ended-told (Some device) who manner count bytes = tt

  write_ended-told : (device : Option Device) (who : W) → MayWrite device who → (manner : Manner) (given : List ℕ) → IfAnswered who (write_ended device manner given)
  write_ended-told None who may manner given =
      cond_both (length given == 0) (Some (Reply 0 [])) _ (IfAnswered who) (λ none. tt) (λ some. cond_both (not manner.has_other_side) (Some (Failed EPIPE)) None (IfAnswered who) (λ broken. may EPIPE (inr (inr (inl refl)))) (λ whole. tt))
  write_ended-told (Some device) who may manner given = tt

  -- ---- a pipe

  module _ (device : Option Device) where
    -- who waits in a pipe or at that device
    pub record InPipe (p : Pipe W) : Type 0 where
      pub device_is : p.device ≡ device
      pub readers : AllByRecursion (MayRead device) p.readers
      pub writers : AllByRecursion (MayWrite device) p.writers

    -- who waits afterwards, and who was answered
    pub record InAfter (after : PipeAfter W) : Type 0 where
      pub pipe : InPipe after.pipe
      pub answers : AreTold after.answers

    nobody_told : (p : Pipe W) → InPipe p → InAfter (nobody_answered p)
    nobody_told p h = record { pipe = h; answers = tt }

    then_told : (first : PipeAfter W) (next : Pipe W → PipeAfter W) → InAfter first → ((p : Pipe W) → InPipe p → InAfter (next p)) → InAfter (and_then first next)
    then_told first next h each = record {
      pipe = (each first.pipe h.pipe).pipe;
      answers = all_append IsTold first.answers (next first.pipe).answers h.answers (each first.pipe h.pipe).answers;
    }

    tried_told : (who : W) (told : Option (Answer × List ℕ)) (next : List ℕ → PipeAfter W) (otherwise : PipeAfter W) → IfTold who told → ((bytes : List ℕ) → InAfter (next bytes)) → InAfter otherwise → InAfter (tried who told next otherwise)
    tried_told who None next otherwise its left h = h
    tried_told who (Some (answer, bytes)) next otherwise its left h = record { pipe = (left bytes).pipe; answers = (its, (left bytes).answers) }

    all_told : (leaves : W → Bool) (error : Errno) (all : List W) → AllByRecursion (λ who. T who error) all → AreTold (all_answered leaves (Failed error) all)
    all_told leaves error [] h = tt
    all_told leaves error (who ∷ all) h =
        cond_both (leaves who) (who ∷ filter leaves all) (filter leaves all) (λ left. AreTold (map (λ who. (who, Failed error)) left)) (λ is. (h.0, all_told leaves error all h.1)) (λ is_not. all_told leaves error all h.1)

    all_replied : (leaves : W → Bool) (status : ℕ) (bytes : List ℕ) (all : List W) → AreTold (all_answered leaves (Reply status bytes) all)
    all_replied leaves status bytes all = each (filter leaves all)
      where
        each : (some : List W) → AreTold (map (λ who. (who, Reply status bytes)) some)
        each [] = tt
        each (who ∷ some) = (tt, each some)

    readers_may : (error : Errno) → IsOneOf (pipe (msg.Read 0)) error → (all : List W) → AllByRecursion (MayRead device) all → AllByRecursion (λ who. T who error) all
    readers_may error is all h = all_more (MayRead device) (λ who. T who error) (λ who may. may error (read_may device error is)) all h

    writers_may : (error : Errno) → IsOneOf (pipe (msg.Write [])) error → (all : List W) → AllByRecursion (MayWrite device) all → AllByRecursion (λ who. T who error) all
    writers_may error is all h = all_more (MayWrite device) (λ who. T who error) (λ who may. may error (write_may device error is)) all h

    readers_stay : (leaves : W → Bool) (p : Pipe W) → InPipe p → InPipe (record p { readers = staying leaves p.readers })
    readers_stay leaves p h = record { device_is = h.device_is; readers = all_filter (MayRead device) _ p.readers h.readers; writers = h.writers }

    writers_stay : (leaves : W → Bool) (p : Pipe W) → InPipe p → InPipe (record p { writers = staying leaves p.writers })
    writers_stay leaves p h = record { device_is = h.device_is; readers = h.readers; writers = all_filter (MayWrite device) _ p.writers h.writers }

    dismissed_told : (leaves : W → Bool) (error : Errno) → IsOneOf (pipe (msg.Read 0)) error → IsOneOf (pipe (msg.Write [])) error → (p : Pipe W) → InPipe p → InAfter (dismissed leaves (Failed error) p)
    dismissed_told leaves error reads writes p h =
        then_told _ _ (record { pipe = readers_stay leaves p h; answers = all_told leaves error p.readers (readers_may error reads p.readers h.readers) })
        (λ q k. record { pipe = writers_stay leaves q k; answers = all_told leaves error q.writers (writers_may error writes q.writers k.writers) })

    one_told : (who : W) (answer : Answer) (p : Pipe W) → IsTold (who, answer) → InPipe p → InAfter (one_answered who answer p)
    one_told who answer p its h = record { pipe = h; answers = (its, tt) }

    waiting_told : (manner : Manner) (who : W) (p with_it : Pipe W) → T who EAGAIN → T who EINTR → InPipe p → InPipe with_it → InAfter (waiting_unless manner who p with_it)
    waiting_told manner who p with_it again asked h waits =
        cond_both manner.is_nonblock (one_answered who (Failed EAGAIN) p) _ InAfter (λ is. one_told who _ p again h)
        (λ is_not. cond_both manner.is_asked (one_answered who (Failed EINTR) p) (nobody_answered with_it) InAfter (λ is. one_told who _ p asked h) (λ is_not. nobody_told with_it waits))

    module _ (wanted : W → ℕ) (offered : W → List ℕ) where
      served_told : (bytes : List ℕ) (readers writers : List W) → AllByRecursion (MayRead device) readers → AllByRecursion (MayWrite device) writers → InAfter (served wanted offered device bytes readers writers)
      served_told bytes [] [] r w = nobody_told _ (record { device_is = refl; readers = r; writers = w })
      served_told bytes (reader ∷ readers) [] r w =
          tried_told reader (read_told wanted offered device bytes reader) (λ left. served wanted offered device left readers []) (nobody_answered (pipe_of device bytes (reader ∷ readers) []))
          (read_of-told device reader r.0 (wanted reader) bytes) (λ left. served_told left readers [] r.1 w)
          (nobody_told (pipe_of device bytes (reader ∷ readers) []) (record { device_is = refl; readers = r; writers = w }))
      served_told bytes [] (writer ∷ writers) r w =
          tried_told writer (write_told wanted offered device bytes writer) (λ left. served wanted offered device left [] writers) (nobody_answered (pipe_of device bytes [] (writer ∷ writers)))
          (write_of-told device writer w.0 (offered writer) bytes) (λ left. served_told left [] writers r w.1)
          (nobody_told (pipe_of device bytes [] (writer ∷ writers)) (record { device_is = refl; readers = r; writers = w }))
      served_told bytes (reader ∷ readers) (writer ∷ writers) r w =
          let neither = nobody_answered (pipe_of device bytes (reader ∷ readers) (writer ∷ writers)) in
          let written = tried writer (write_told wanted offered device bytes writer) (λ left. served wanted offered device left (reader ∷ readers) writers) neither in
          tried_told reader (read_told wanted offered device bytes reader) (λ left. served wanted offered device left readers (writer ∷ writers)) written
          (read_of-told device reader r.0 (wanted reader) bytes) (λ left. served_told left readers (writer ∷ writers) r.1 w)
          (tried_told writer (write_told wanted offered device bytes writer) (λ left. served wanted offered device left (reader ∷ readers) writers) neither
          (write_of-told device writer w.0 (offered writer) bytes) (λ left. served_told left (reader ∷ readers) writers r w.1)
          (nobody_told (pipe_of device bytes (reader ∷ readers) (writer ∷ writers)) (record { device_is = refl; readers = r; writers = w })))

      settle_told : (p : Pipe W) → InPipe p → InAfter (settle wanted offered p)
      unfolding settle
      settle_told p h = subst (λ own. InAfter (served wanted offered own p.bytes p.readers p.writers)) (sym h.device_is) (served_told p.bytes p.readers p.writers h.readers h.writers)

      told_told : (manner : Manner) (who : W) (ended : Option Answer) (told : Option (Answer × List ℕ)) (p with_it : Pipe W) → IfAnswered who ended → IfTold who told → T who EAGAIN → T who EINTR → InPipe p → InPipe with_it
          → InAfter (told_or_waiting wanted offered manner who ended told p with_it)
      told_told manner who (Some answer) told p with_it first its again asked h waits = one_told who answer p first h
      told_told manner who None told p with_it first its again asked h waits =
          tried_told who told (λ left. settle wanted offered (record p { bytes = left })) (waiting_unless manner who p with_it) its
          (λ left. settle_told _ (record { device_is = h.device_is; readers = h.readers; writers = h.writers })) (waiting_told manner who p with_it again asked h waits)

      first_told : (who : W) (others : List W) (told : Option (Answer × List ℕ)) → IfTold who told → IfTold who (if_first others told)
      first_told who others told its = cond_both (length others == 0) told None (IfTold who) (λ first. its) (λ later. tt)

      clean_read_told : (manner : Manner) (reader : W) → MayRead device reader → (p : Pipe W) → InPipe p → InAfter (clean_read wanted offered manner reader p)
      clean_read_told manner reader may p h =
          let own = subst (λ d. MayRead d reader) (sym h.device_is) may in
          told_told manner reader _ _ p _ (read_ended-told p.device reader manner (wanted reader) p.bytes) (first_told reader p.readers _ (read_of-told p.device reader own (wanted reader) p.bytes))
          (may EAGAIN (read_may device EAGAIN (inr (inr (inr (inl refl)))))) (may EINTR (read_may device EINTR (inr (inr (inr (inr (inl refl))))))) h
          (record { device_is = h.device_is; readers = all_append (MayRead device) p.readers (reader ∷ []) h.readers (may, tt); writers = h.writers })

      clean_write_told : (manner : Manner) (writer : W) → MayWrite device writer → (p : Pipe W) → InPipe p → InAfter (clean_write wanted offered manner writer p)
      clean_write_told manner writer may p h =
          let own = subst (λ d. MayWrite d writer) (sym h.device_is) may in
          told_told manner writer _ _ p _ (write_ended-told p.device writer own manner (offered writer)) (first_told writer p.writers _ (write_of-told p.device writer own (offered writer) p.bytes))
          (may EAGAIN (write_may device EAGAIN (inr (inr (inr (inl refl)))))) (may EINTR (write_may device EINTR (inr (inr (inr (inr (inl refl))))))) h
          (record { device_is = h.device_is; readers = h.readers; writers = all_append (MayWrite device) p.writers (writer ∷ []) h.writers (may, tt) })

    readers_ended_told : (sides : Sides) (p : Pipe W) → InPipe p → InAfter (readers_ended sides p)
    readers_ended_told sides p h =
        cond_both sides.for_writing (nobody_answered p) _ InAfter (λ some. nobody_told p h) (λ none. record { pipe = readers_stay (λ who. true) p h; answers = all_replied (λ who. true) 0 [] p.readers })

    writers_ended_told : (sides : Sides) (p : Pipe W) → InPipe p → InAfter (writers_ended sides p)
    writers_ended_told sides p h =
        cond_both sides.for_reading (nobody_answered p) _ InAfter (λ some. nobody_told p h)
        (λ none. record { pipe = writers_stay (λ who. true) p h; answers = all_told (λ who. true) EPIPE p.writers (writers_may EPIPE (inr (inr (inl refl))) p.writers h.writers) })

    without_bytes_told : (sides : Sides) (p : Pipe W) → InPipe p → InAfter (without_bytes sides p)
    without_bytes_told sides p h = nobody_told _ (cond_both (sides.for_reading || sides.for_writing) p (record p { bytes = [] }) InPipe (λ some. h) (λ none. record { device_is = h.device_is; readers = h.readers; writers = h.writers }))

    -- ---- whoever is gone is told nothing

    module _ (gone : W → Bool) where
      -- who waits, unless they are gone
      pub record IsLeft (p : Pipe W) : Type 0 where
        pub device_is : p.device ≡ device
        pub readers : AllByRecursion (λ who. gone who ≡ false → MayRead device who) p.readers
        pub writers : AllByRecursion (λ who. gone who ≡ false → MayWrite device who) p.writers

      pub left_all : (p : Pipe W) → InPipe p → IsLeft p
      left_all p h = record { device_is = h.device_is; readers = all_more _ _ (λ who may here. may) p.readers h.readers; writers = all_more _ _ (λ who may here. may) p.writers h.writers }

      module _ (wanted : W → ℕ) (offered : W → List ℕ) where
        clean_told : (p : Pipe W) → IsLeft p → InAfter (clean wanted offered gone p)
        clean_told p h = settle_told wanted offered _ (record { device_is = h.device_is; readers = all_staying (MayRead device) gone p.readers h.readers; writers = all_staying (MayWrite device) gone p.writers h.writers })

        pub cancel_told : (is_asked : W → Bool) (p : Pipe W) → IsLeft p → InAfter (cancel wanted offered gone is_asked p)
        cancel_told is_asked p h = then_told _ _ (then_told _ _ (clean_told p h) (dismissed_told is_asked EINTR (inr (inr (inr (inr (inl refl))))) (inr (inr (inr (inr (inl refl))))))) (settle_told wanted offered)

        pub read_told_so : (manner : Manner) (reader : W) (p : Pipe W) → MayRead device reader → IsLeft p → InAfter (read wanted offered gone manner reader p)
        read_told_so manner reader p may h = then_told _ _ (clean_told p h) (clean_read_told wanted offered manner reader may)

        pub write_told_so : (manner : Manner) (writer : W) (p : Pipe W) → MayWrite device writer → IsLeft p → InAfter (write wanted offered gone manner writer p)
        write_told_so manner writer p may h = then_told _ _ (clean_told p h) (clean_write_told wanted offered manner writer may)

        pub release_told : (is_on_it : W → Bool) (sides : Sides) (p : Pipe W) → IsLeft p → InAfter (release wanted offered gone is_on_it sides p)
        release_told is_on_it sides p h =
            then_told _ _
            (then_told _ _
            (then_told _ _ (then_told _ _ (then_told _ _ (clean_told p h) (dismissed_told is_on_it EBADF (inr (inl refl)) (inr (inl refl)))) (readers_ended_told (sides_at p.device sides))) (writers_ended_told (sides_at p.device sides)))
            (settle_told wanted offered))
            (without_bytes_told (sides_at p.device sides))
