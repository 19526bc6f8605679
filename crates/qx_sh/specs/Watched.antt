-- A reader or a writer that tells what its calls came to.
use Rattle.std.specs.Prelude.{◌≡◌, ℕ, Bool, List, Option, Result, Ok, Err}
use Rattle.qx_sh.specs.declared.watched.Watched.{Watched}

-- how many bytes a write took: none where it failed
abbrev pub taken : {E : Type 0} → Result ℕ E → ℕ
taken (Ok count) = count
taken (Err error) = 0

-- the bytes that the reader has left, or the writer holds, where they are known
abbrev pub held : {S : Type 0} → (S → Option (List ℕ)) → Watched S → Option (List ℕ)
held bytes watched = bytes watched.stream

-- a read, a write or a flush has failed, or a write took nothing
abbrev pub has_failed : {S : Type 0} → Watched S → Bool
has_failed watched = watched.failed

-- a flush of the writer has succeeded since its last write
abbrev pub is_flushed : {S : Type 0} → Watched S → Bool
is_flushed watched = watched.flushed

-- what the reader and the writer of a run tell: the bytes that there were to read, where they are known, and whether the reader has failed, before and after; the bytes that the writer held before and holds after, where they are known, whether it has failed, before and after, and whether it was flushed behind its last write
pub record Told : Type 0 where
  pub there : Option (List ℕ)
  pub read_failed_before : Bool
  pub read_failed : Bool
  pub before : Option (List ℕ)
  pub after : Option (List ℕ)
  pub write_failed_before : Bool
  pub write_failed : Bool
  pub flushed : Bool

abbrev pub told_by : {R W : Type 0} → (R → Option (List ℕ)) → (W → Option (List ℕ)) → Watched R → Watched R → Watched W → Watched W → Told
told_by remaining contents reader_old reader_new writer_old writer_new = record {
  there = held remaining reader_old;
  read_failed_before = has_failed reader_old;
  read_failed = has_failed reader_new;
  before = held contents writer_old;
  after = held contents writer_new;
  write_failed_before = has_failed writer_old;
  write_failed = has_failed writer_new;
  flushed = is_flushed writer_new;
}

-- no read failed that was not told of before
abbrev pub NoReadFailed : Told → Type 0
NoReadFailed told_by = told_by.read_failed ≡ told_by.read_failed_before

-- no write and no flush failed, and no write took nothing, that was not told of before
abbrev pub NoWriteFailed : Told → Type 0
NoWriteFailed told_by = told_by.write_failed ≡ told_by.write_failed_before
