-- Pipes (C Library Reference: pipe, read, write, close; that nobody waits for an open, that a write is never taken in part, and how many
-- bytes stand in a pipe is this profile), and devices of an author's own, in which calls wait as in a pipe. What waits are messages, told by
-- whatever stands for them.
use Rattle.std.specs.Prelude.{Bool, ◌==◌, ◌&&◌, ◌||◌, not, true, filter, ℕ, List, [], ◌∷◌, ◌++◌, length, map, Option, Some, None, if◌then◌else◌}
use Rattle.qx_base.specs.declared.errno.Errno.TheVariants.{EAGAIN, EBADF, EINTR, EPIPE}
use Rattle.qx_devices.specs.declared.Device.{Device}
use Rattle.qx_types.specs.declared.outcome.Answer.{Answer}
use Rattle.qx_types.specs.declared.outcome.Answer.TheVariants.{Reply, Failed}
use Rattle.qx_machine.specs.declared.rows.Manner.{Manner}
use Rattle.qx_machine.specs.declared.rows.Sides.{Sides}
use Rattle.qx_machine.specs.Verdicts.{read_ended, read_of, sides_at, told_of, write_ended, write_of}

-- the bytes that stand in a pipe, and who waits to read and to write, in order of waiting; or the bytes of a device, and who waits there
pub record Pipe (W : Type 0) : Type 0 where
  pub device : Option Device
  pub bytes : List ℕ
  pub readers : List W
  pub writers : List W

-- a pipe as it is afterwards, and who was answered what, in order
pub record PipeAfter (W : Type 0) : Type 0 where
  pub pipe : Pipe W
  pub answers : List (W × Answer)

-- ---- answers

module _ {W : Type 0} where
  abbrev pub pipe_of : Option Device → List ℕ → List W → List W → Pipe W
  pipe_of device bytes readers writers = record { device = device; bytes = bytes; readers = readers; writers = writers }

  -- nobody waits in a pipe
  abbrev pub is_idle : Pipe W → Bool
  is_idle p = (length p.readers == 0) && (length p.writers == 0)

  abbrev pub nobody_answered : Pipe W → PipeAfter W
  nobody_answered p = record { pipe = p; answers = [] }

  -- one is answered, and nothing else happens
  abbrev pub one_answered : W → Answer → Pipe W → PipeAfter W
  one_answered who answer p = record { pipe = p; answers = (who, answer) ∷ [] }

  -- one was answered before all others
  abbrev pub first_answered : W → Answer → PipeAfter W → PipeAfter W
  first_answered who answer after = record { pipe = after.pipe; answers = (who, answer) ∷ after.answers }

  -- these were answered before all others
  abbrev pub answered_first : List (W × Answer) → PipeAfter W → PipeAfter W
  answered_first answers after = record { pipe = after.pipe; answers = answers ++ after.answers }

  -- one is answered so, if at all, and the rest is done with the bytes that stand then
  abbrev pub tried : W → Option (Answer × List ℕ) → (List ℕ → PipeAfter W) → PipeAfter W → PipeAfter W
  tried who None next otherwise = otherwise
  tried who (Some (answer, bytes)) next otherwise = first_answered who answer (next bytes)

  -- the status and the bytes of a reply that is the only answer
  abbrev pub only_reply : List (W × Answer) → Option (ℕ × List ℕ)
  only_reply ((who, Reply status bytes) ∷ []) = Some (status, bytes)
  only_reply _ = None

  -- what follows is done with the pipe as it is then
  abbrev pub and_then : PipeAfter W → (Pipe W → PipeAfter W) → PipeAfter W
  and_then first next = answered_first first.answers (next first.pipe)

-- ---- settling

module _ {W : Type 0} (wanted : W → ℕ) (offered : W → List ℕ) where
  -- what a reader and a writer are told by the bytes that stand
  abbrev pub read_told : Option Device → List ℕ → W → Option (Answer × List ℕ)
  read_told device bytes reader = told_of bytes (read_of device (wanted reader) bytes)

  abbrev pub write_told : Option Device → List ℕ → W → Option (Answer × List ℕ)
  write_told device bytes writer = told_of bytes (write_of device (offered writer) bytes)

  -- the first reader is answered, if it can be; else the first writer; again until neither
  abbrev pub served : Option Device → List ℕ → List W → List W → PipeAfter W
  served device bytes [] [] = nobody_answered (pipe_of device bytes [] [])
  served device bytes (reader ∷ readers) [] =
      tried reader (read_told device bytes reader) (λ left. served device left readers [])
      (nobody_answered (pipe_of device bytes (reader ∷ readers) []))
  served device bytes [] (writer ∷ writers) =
      tried writer (write_told device bytes writer) (λ left. served device left [] writers)
      (nobody_answered (pipe_of device bytes [] (writer ∷ writers)))
  served device bytes (reader ∷ readers) (writer ∷ writers) =
      tried reader (read_told device bytes reader) (λ left. served device left readers (writer ∷ writers))
      (tried writer (write_told device bytes writer) (λ left. served device left (reader ∷ readers) writers)
      (nobody_answered (pipe_of device bytes (reader ∷ readers) (writer ∷ writers))))

  unfoldable pub settle : Pipe W → PipeAfter W
  settle p = served p.device p.bytes p.readers p.writers

-- ---- who leaves

module _ {W : Type 0} where
  -- those who do not leave
  abbrev pub staying : (W → Bool) → List W → List W
  staying leaves all = filter (λ who. not (leaves who)) all

  -- those leave the pipe
  abbrev pub removed : (W → Bool) → Pipe W → Pipe W
  removed leaves p = record p { readers = staying leaves p.readers; writers = staying leaves p.writers }

  -- those who leave are answered
  abbrev pub all_answered : (W → Bool) → Answer → List W → List (W × Answer)
  all_answered leaves answer all = map (λ who. (who, answer)) (filter leaves all)

  -- those readers leave the pipe with an answer
  abbrev pub readers_dismissed : (W → Bool) → Answer → Pipe W → PipeAfter W
  readers_dismissed leaves answer p = record { pipe = record p { readers = staying leaves p.readers }; answers = all_answered leaves answer p.readers }

  -- those writers leave the pipe with an answer
  abbrev pub writers_dismissed : (W → Bool) → Answer → Pipe W → PipeAfter W
  writers_dismissed leaves answer p = record { pipe = record p { writers = staying leaves p.writers }; answers = all_answered leaves answer p.writers }

  -- those leave the pipe with an answer, readers first
  abbrev pub dismissed : (W → Bool) → Answer → Pipe W → PipeAfter W
  dismissed leaves answer p = and_then (readers_dismissed leaves answer p) (writers_dismissed leaves answer)

module _ {W : Type 0} (wanted : W → ℕ) (offered : W → List ℕ) (gone : W → Bool) where
  -- the waiting messages of ended processes go, and others may be served then
  abbrev pub clean : Pipe W → PipeAfter W
  clean p = settle wanted offered (removed gone p)

  -- a waiting message is asked to unblock: once the pipe is clean, it is answered EINTR if it still waits, and others may be served then
  -- (Writing a Resource Manager: the unblock pulse)
  abbrev pub cancel : (W → Bool) → Pipe W → PipeAfter W
  cancel is_asked p = and_then (and_then (clean p) (dismissed is_asked (Failed EINTR))) (settle wanted offered)

-- ---- READ and WRITE

module _ {W : Type 0} where
  abbrev pub with_reader : Pipe W → W → Pipe W
  with_reader p reader = record p { readers = p.readers ++ reader ∷ [] }

  abbrev pub with_writer : Pipe W → W → Pipe W
  with_writer p writer = record p { writers = p.writers ++ writer ∷ [] }

  -- a call comes in its turn where nobody waits before it
  abbrev pub if_first : List W → Option (Answer × List ℕ) → Option (Answer × List ℕ)
  if_first others told = if length others == 0 then told else None

  -- who can't be served at once waits, unless its block is NONBLOCK or it was asked to unblock
  abbrev pub waiting_unless : Manner → W → Pipe W → Pipe W → PipeAfter W
  waiting_unless manner who p with_it =
      if manner.is_nonblock then one_answered who (Failed EAGAIN) p
      else if manner.is_asked then one_answered who (Failed EINTR) p
      else nobody_answered with_it

module _ {W : Type 0} (wanted : W → ℕ) (offered : W → List ℕ) where
  -- it is told that at once, if anything; else it is answered in its turn, and others may be served then; else it waits
  abbrev pub told_or_waiting : Manner → W → Option Answer → Option (Answer × List ℕ) → Pipe W → Pipe W → PipeAfter W
  told_or_waiting manner who (Some answer) told p with_it = one_answered who answer p
  told_or_waiting manner who None told p with_it = tried who told (λ left. settle wanted offered (record p { bytes = left })) (waiting_unless manner who p with_it)

  -- a READ of a clean pipe
  abbrev pub clean_read : Manner → W → Pipe W → PipeAfter W
  clean_read manner reader p =
      told_or_waiting manner reader (read_ended p.device manner (wanted reader) p.bytes) (if_first p.readers (read_told wanted offered p.device p.bytes reader)) p (with_reader p reader)

  -- a WRITE to a clean pipe
  abbrev pub clean_write : Manner → W → Pipe W → PipeAfter W
  clean_write manner writer p =
      told_or_waiting manner writer (write_ended p.device manner (offered writer)) (if_first p.writers (write_told wanted offered p.device p.bytes writer)) p (with_writer p writer)

  -- a READ: the pipe is cleaned first
  abbrev pub read : (W → Bool) → Manner → W → Pipe W → PipeAfter W
  read gone manner reader p = and_then (clean wanted offered gone p) (clean_read manner reader)

  -- a WRITE: the pipe is cleaned first
  abbrev pub write : (W → Bool) → Manner → W → Pipe W → PipeAfter W
  write gone manner writer p = and_then (clean wanted offered gone p) (clean_write manner writer)

-- ---- the freeing of a block

module _ {W : Type 0} where
  -- readers come to the end of a pipe that nobody writes any more
  abbrev pub readers_ended : Sides → Pipe W → PipeAfter W
  readers_ended sides p = if sides.for_writing then nobody_answered p else readers_dismissed (λ who. true) (Reply 0 []) p

  -- a pipe that nobody reads any more is broken for writers
  abbrev pub writers_ended : Sides → Pipe W → PipeAfter W
  writers_ended sides p = if sides.for_reading then nobody_answered p else writers_dismissed (λ who. true) (Failed EPIPE) p

  -- with a pipe's last block go its bytes
  abbrev pub without_bytes : Sides → Pipe W → PipeAfter W
  without_bytes sides p = nobody_answered (if sides.for_reading || sides.for_writing then p else record p { bytes = [] })

-- a block is freed, and there are blocks for these sides then: once the pipe is clean, the messages on the block are answered EBADF; a side
-- that no block is left for is ended; others may be served then
abbrev pub release : {W : Type 0} → (W → ℕ) → (W → List ℕ) → (W → Bool) → (W → Bool) → Sides → Pipe W → PipeAfter W
release wanted offered gone is_on_it sides p =
    and_then (and_then (and_then (and_then (and_then (clean wanted offered gone p) (dismissed is_on_it (Failed EBADF))) (readers_ended (sides_at p.device sides))) (writers_ended (sides_at p.device sides))) (settle wanted offered)) (without_bytes (sides_at p.device sides))
