-- One turn of settling, and then the next.
use Rattle.std.proofs.Common.{◌≡◌, ◌==◌, ◌&&◌, inl, inr, ℕ, ◌+◌, ◌≤◌, ◌<◌, ◌++◌, Bool, false, true, List, [], ◌∷◌, length, take, drop, slice_get, Option, Some, None, IsSome, is_some, refl, sym, ap, ◌∙◌, append-nil, arith}
use Rattle.std.specs.Borrow.{Bor}
use Rattle.std.specs.Option.{option_copied}
use Rattle.std.specs.Prelude.{IfNone, IfSome, min, nat_eq, nat_le, not}
use Rattle.std.proofs.lemmas.Bool.{le-leb, lt-leb}
use Rattle.std.proofs.lemmas.Bool.Decides.{eqb_tells}
use Rattle.std.proofs.lemmas.Option.{same_Some}
use Rattle.qx_types.specs.declared.limits.TheConstants.Limits.{PIPE}
use Rattle.qx_types.specs.declared.outcome.Answer.{Answer}
use Rattle.qx_types.specs.declared.outcome.Answer.TheVariants.{Reply}
use Rattle.qx_machine.specs.declared.rows.WaitingCall.{WaitingCall}
use Rattle.qx_machine.specs.Waiting.{is_gone, offered, wanted}
use Rattle.qx_machine.specs.Pipes.{PipeAfter, Pipe, and_then, clean, nobody_answered, read_told, removed, served, settle, staying, tried, write_told}
use Rattle.qx_shared.proofs.AfterLemmas.{pipe_at-after}
use Rattle.qx_shared.specs.declared.side.Side.{Side}
use Rattle.qx_shared.specs.declared.side.Side.TheVariants.{Reading, Writing}
use Rattle.qx_shared.specs.Shared.{HasPipe, Shared, after_told, at_first, first_told, passed_to, pipe_at, taken_from, waiting_on, went_in, with_pipe_after}
use Rattle.qx_pipe.specs.inner.Turns.{NobodyWaits, Turning, settling, waiting_count}
use Rattle.qx_pipe.proofs.AfterLemmas.{steps}
use Rattle.qx_pipe.proofs.LawLemmas.{served_by}

-- ---- what settling does first

-- others wait there
abbrev waiting_at : Pipe WaitingCall → List WaitingCall → List WaitingCall → Pipe WaitingCall
waiting_at p readers writers = record p { readers = readers; writers = writers }

pub settle-reader : (p : Pipe WaitingCall) → IsSome (first_told Reading p) → settle wanted offered p ≡ and_then (after_told Reading p (first_told Reading p)) (settle wanted offered)
unfolding settle
settle-reader p is = of p.readers p.writers is
  where
    by : (reader : WaitingCall) (readers writers : List WaitingCall) (told : Option (Answer × List ℕ)) (otherwise : PipeAfter WaitingCall) → IsSome told
        → tried reader told (λ left. served wanted offered p.device left readers writers) otherwise ≡ and_then (after_told Reading (waiting_at p (reader ∷ readers) writers) told) (settle wanted offered)
    by reader readers writers None otherwise is = absurd (cc)
    by reader readers writers (Some (answer, left)) otherwise is = refl

    of : (readers writers : List WaitingCall) → IsSome (first_told Reading (waiting_at p readers writers)) → served wanted offered p.device p.bytes readers writers ≡ and_then (after_told Reading (waiting_at p readers writers) (first_told Reading (waiting_at p readers writers))) (settle wanted offered)
    of [] writers is = absurd (cc)
    of (reader ∷ readers) [] is = by reader readers [] (read_told wanted offered p.device p.bytes reader) _ is
    of (reader ∷ readers) (writer ∷ writers) is = by reader readers (writer ∷ writers) (read_told wanted offered p.device p.bytes reader) _ is

pub settle-writer : (p : Pipe WaitingCall) → first_told Reading p ≡ None → IsSome (first_told Writing p) → settle wanted offered p ≡ and_then (after_told Writing p (first_told Writing p)) (settle wanted offered)
unfolding settle
settle-writer p none is = of p.readers p.writers none is
  where
    by : (readers : List WaitingCall) (writer : WaitingCall) (writers : List WaitingCall) (told : Option (Answer × List ℕ)) (otherwise : PipeAfter WaitingCall) → IsSome told
        → tried writer told (λ left. served wanted offered p.device left readers writers) otherwise ≡ and_then (after_told Writing (waiting_at p readers (writer ∷ writers)) told) (settle wanted offered)
    by readers writer writers None otherwise is = absurd (cc)
    by readers writer writers (Some (answer, left)) otherwise is = refl

    of : (readers writers : List WaitingCall) → first_told Reading (waiting_at p readers writers) ≡ None → IsSome (first_told Writing (waiting_at p readers writers)) → served wanted offered p.device p.bytes readers writers ≡ and_then (after_told Writing (waiting_at p readers writers) (first_told Writing (waiting_at p readers writers))) (settle wanted offered)
    of readers [] none is = absurd (cc)
    of [] (writer ∷ writers) none is = by [] writer writers (write_told wanted offered p.device p.bytes writer) _ is
    of (reader ∷ readers) (writer ∷ writers) none is = rw none (by (reader ∷ readers) writer writers (write_told wanted offered p.device p.bytes writer) _ is)

pub settle-nobody : (p : Pipe WaitingCall) → first_told Reading p ≡ None → first_told Writing p ≡ None → settle wanted offered p ≡ nobody_answered p
unfolding settle
settle-nobody p none_read none_writes = of p.readers p.writers none_read none_writes
  where
    of : (readers writers : List WaitingCall) → first_told Reading (waiting_at p readers writers) ≡ None → first_told Writing (waiting_at p readers writers) ≡ None → served wanted offered p.device p.bytes readers writers ≡ nobody_answered (waiting_at p readers writers)
    of [] [] none_read none_writes = refl
    of (reader ∷ readers) [] none_read none_writes = rw none_read refl
    of [] (writer ∷ writers) none_read none_writes = rw none_writes refl
    of (reader ∷ readers) (writer ∷ writers) none_read none_writes = rw (none_read, none_writes) refl

pub settle-device : (p : Pipe WaitingCall) → (settle wanted offered p).pipe.device ≡ p.device
unfolding settle
settle-device p =
    served_by wanted offered p.device (λ bytes readers writers after. after.pipe.device ≡ p.device)
    (λ bytes readers writers no_read no_write. refl)
    (λ bytes reader readers writers answer left after told rest. rest)
    (λ bytes writer readers writers answer left after told rest. rest)
    p.bytes p.readers p.writers

-- nobody waits
module _ (p : Pipe WaitingCall) (nobody : NobodyWaits p) where
  pub settle-alone : settle wanted offered p ≡ nobody_answered p
  settle-alone = settle-nobody p (rw nobody.0 refl) (rw nobody.1 refl)

  removed-alone : removed is_gone p ≡ p
  removed-alone = λ i. record p { readers = (ap (staying is_gone) nobody.0 ∙ sym nobody.0) i; writers = (ap (staying is_gone) nobody.1 ∙ sym nobody.1) i }

  pub clean-alone : clean wanted offered is_gone p ≡ nobody_answered p
  clean-alone = ap (settle wanted offered) removed-alone ∙ settle-alone

-- ---- who is first

module _ (told : WaitingCall → Option (Answer × List ℕ)) where
  first-one : (calls : List WaitingCall) (call : WaitingCall) → slice_get calls 0 ≡ Some call → at_first told calls ≡ told call
  first-one [] call is = absurd (cc)
  first-one (first ∷ rest) call is = ap told (same_Some _ _ is)

  first-none : (calls : List WaitingCall) → ((call : WaitingCall) → slice_get calls 0 ≡ Some call → told call ≡ None) → at_first told calls ≡ None
  first-none [] none = refl
  first-none (first ∷ rest) none = none first refl

-- ---- what a call comes to at a pipe

module _ (p : Pipe WaitingCall) (pipe : p.device ≡ None) where
  pub pipe-gets : (reader : WaitingCall) (count : ℕ) → 0 < length p.bytes → count ≡ min reader.wanted (length p.bytes) → read_told wanted offered p.device p.bytes reader ≡ Some (Reply count (take count p.bytes), drop count p.bytes)
  pipe-gets reader count stand is = rw pipe (of p.bytes stand is)
    where
      of : (bytes : List ℕ) → 0 < length bytes → count ≡ min reader.wanted (length bytes) → read_told wanted offered None bytes reader ≡ Some (Reply count (take count bytes), drop count bytes)
      of [] stand is = absurd (omega arith)
      of (b ∷ bs) stand is = rw is refl

  pub pipe-empty : (reader : WaitingCall) → length p.bytes ≡ 0 → read_told wanted offered p.device p.bytes reader ≡ None
  pipe-empty reader empty = rw pipe (of p.bytes empty)
    where
      of : (bytes : List ℕ) → length bytes ≡ 0 → read_told wanted offered None bytes reader ≡ None
      of [] empty = refl
      of (b ∷ bs) empty = absurd (omega (arith, empty))

  pub pipe-fits : (writer : WaitingCall) → length p.bytes + length writer.bytes ≤ PIPE → write_told wanted offered p.device p.bytes writer ≡ Some (Reply (length writer.bytes) [], p.bytes ++ writer.bytes)
  pipe-fits writer fits = let test : nat_le (length p.bytes + length writer.bytes) PIPE ≡ true = le-leb _ _ fits in rw (pipe, test) refl

  pub pipe-full : (writer : WaitingCall) → PIPE < length p.bytes + length writer.bytes → write_told wanted offered p.device p.bytes writer ≡ None
  pipe-full writer full = let test : nat_le (length p.bytes + length writer.bytes) PIPE ≡ false = lt-leb _ _ full in rw (pipe, test) refl

  -- no reader waits beside bytes
  none-reads : (0 < length p.bytes → slice_get p.readers 0 ≡ None) → first_told Reading p ≡ None
  none-reads none = first-none _ p.readers (λ reader first. elim (eqb_tells (length p.bytes) 0) [
    | inl empty ↦ pipe-empty reader empty.1
    | inr stand ↦ let clash : Some reader ≡ None = sym first ∙ none (omega (arith, stand.1)) in absurd (cc)
  ])

  taken-first : (writer : WaitingCall) → slice_get p.writers 0 ≡ Some writer
      → after_told Writing p (Some (Reply (length writer.bytes) [], p.bytes ++ writer.bytes)) ≡ taken_from (take 1 p.writers) (record p { writers = drop 1 p.writers })
  taken-first writer first = of p.writers first
    where
      of : (writers : List WaitingCall) → slice_get writers 0 ≡ Some writer
          → after_told Writing (record p { writers = writers }) (Some (Reply (length writer.bytes) [], p.bytes ++ writer.bytes)) ≡ taken_from (take 1 writers) (record p { writers = drop 1 writers })
      of [] first = absurd (cc)
      of (next ∷ writers) first = let same : next ≡ writer = cc in rw (same, append-nil writer.bytes) refl

  -- ---- what settling does first there

  pub settle-passed : (reader : WaitingCall) (count : ℕ) → 0 < length p.bytes → slice_get p.readers 0 ≡ Some reader → count ≡ min reader.wanted (length p.bytes)
      → settle wanted offered p ≡ and_then (passed_to count (take 1 p.readers) (record p { readers = drop 1 p.readers })) (settle wanted offered)
  settle-passed reader count stand first is =
      let told : first_told Reading p ≡ Some (Reply count (take count p.bytes), drop count p.bytes) = first-one _ p.readers reader first ∙ pipe-gets reader count stand is in
      settle-reader p (ap is_some told) ∙ ap (λ told. and_then (after_told Reading p told) (settle wanted offered)) told

  pub settle-taken : (writer : WaitingCall) → (0 < length p.bytes → slice_get p.readers 0 ≡ None) → slice_get p.writers 0 ≡ Some writer → length p.bytes + length writer.bytes ≤ PIPE
      → settle wanted offered p ≡ and_then (taken_from (take 1 p.writers) (record p { writers = drop 1 p.writers })) (settle wanted offered)
  settle-taken writer none first fits =
      let told : first_told Writing p ≡ Some (Reply (length writer.bytes) [], p.bytes ++ writer.bytes) = first-one _ p.writers writer first ∙ pipe-fits writer fits in
      settle-writer p (none-reads none) (ap is_some told) ∙ ap (λ told. and_then (after_told Writing p told) (settle wanted offered)) told ∙ ap (λ after. and_then after (settle wanted offered)) (taken-first writer first)

  pub settle-rested : (0 < length p.bytes → slice_get p.readers 0 ≡ None) → ((writer : WaitingCall) → slice_get p.writers 0 ≡ Some writer → PIPE < length p.bytes + length writer.bytes) → settle wanted offered p ≡ nobody_answered p
  settle-rested none full = settle-nobody p (none-reads none) (first-none _ p.writers (λ writer first. pipe-full writer (full writer first)))

-- ---- turns

module _ (old new : Shared) (user inode : ℕ) (has : HasPipe old user inode) (first : PipeAfter WaitingCall) (is : new ≡ with_pipe_after old user inode first) where
  pub pipe-then : pipe_at new user inode ≡ first.pipe
  pipe-then = ap (λ (c : Shared). pipe_at c user inode) is ∙ pipe_at-after old user inode has first

  pub turns : (more : Bool) → first.pipe.device ≡ (pipe_at old user inode).device → settling old user inode ≡ and_then first (settle wanted offered) → more ≡ went_in first.answers → Turning old new user inode more
  turns more device settles filled = record { pipe = grind (arith, steps); device = ap (λ (p : Pipe WaitingCall). p.device) pipe-then ∙ device; after = grind (arith, steps); went = grind (arith, steps) }

  pub fewer-then : waiting_count first.pipe < waiting_count (pipe_at old user inode) → waiting_count (pipe_at new user inode) < waiting_count (pipe_at old user inode)
  fewer-then fewer = grind (arith, steps)

drop-one : {A : Type 0} (xs : List A) → 0 < length xs → length (drop 1 xs) < length xs
drop-one [] some = absurd (omega arith)
drop-one (x ∷ xs) some = omega arith

-- a pipe is another, and nobody is answered
pub pipe-now : (old new : Shared) (user inode : ℕ) → HasPipe old user inode → (p : Pipe WaitingCall) → new ≡ with_pipe_after old user inode (nobody_answered p) → pipe_at new user inode ≡ p
pipe-now old new user inode has p is = pipe-then old new user inode has (nobody_answered p) is

pub some-first : {A : Type 0} (xs : List A) (x : A) → slice_get xs 0 ≡ Some x → length (drop 1 xs) < length xs
some-first [] x first = absurd (cc)
some-first (y ∷ xs) x first = omega arith

-- who is told something waits no more
pub told-fewer : (side : Side) (p : Pipe WaitingCall) → IsSome (first_told side p) → waiting_count (after_told side p (first_told side p)).pipe < waiting_count p
told-fewer side p is = of side p.readers p.writers is
  where
    by : (side : Side) (p : Pipe WaitingCall) (told : Option (Answer × List ℕ)) → 0 < length (waiting_on side p) → IsSome told → waiting_count (after_told side p told).pipe < waiting_count p
    by side p None some is = absurd (cc)
    by Reading p (Some (answer, left)) some is = omega (arith, drop-one p.readers some)
    by Writing p (Some (answer, left)) some is = omega (arith, drop-one p.writers some)

    of : (side : Side) (readers writers : List WaitingCall) → IsSome (first_told side (waiting_at p readers writers)) → waiting_count (after_told side (waiting_at p readers writers) (first_told side (waiting_at p readers writers))).pipe < waiting_count (waiting_at p readers writers)
    of Reading [] writers is = absurd (cc)
    of Reading (reader ∷ readers) writers is = by Reading (waiting_at p (reader ∷ readers) writers) _ (omega arith) is
    of Writing readers [] is = absurd (cc)
    of Writing readers (writer ∷ writers) is = by Writing (waiting_at p readers (writer ∷ writers)) _ (omega arith) is

pub told-device : (side : Side) (p : Pipe WaitingCall) (told : Option (Answer × List ℕ)) → (after_told side p told).pipe.device ≡ p.device
told-device side p None = refl
told-device Reading p (Some (answer, left)) = refl
told-device Writing p (Some (answer, left)) = refl

pub none-told : {A : Type 0} (told : Option A) → is_some told ≡ false → told ≡ None
none-told None none = refl
none-told (Some x) none = absurd (cc)

-- no reader was told anything, and perhaps a writer is
module _ (old new : Shared) (user inode : ℕ) (has : HasPipe old user inode) where
  abbrev before : Pipe WaitingCall
  before = pipe_at old user inode

  abbrev last : PipeAfter WaitingCall
  last = after_told Writing before (first_told Writing before)

  module _ (is : new ≡ with_pipe_after old user inode last) where
    pub turned-last : (result : Option Bool) → first_told Reading before ≡ None → is_some result ≡ is_some (first_told Writing before) → IfSome result (λ more. more ≡ went_in last.answers) → IfSome result (λ more. Turning old new user inode more)
    turned-last None none told went = tt
    turned-last (Some more) none told went = turns old new user inode has last is more (told-device Writing before (first_told Writing before)) (settle-writer before none (sym told)) went

    pub fewer-last : (result : Option Bool) → is_some result ≡ is_some (first_told Writing before) → IfSome result (λ more. waiting_count (pipe_at new user inode) < waiting_count before)
    fewer-last None told = tt
    fewer-last (Some more) told = fewer-then old new user inode has last is (told-fewer Writing before (sym told))

  pub rested-last : (result : Option Bool) → first_told Reading before ≡ None → is_some result ≡ is_some (first_told Writing before) → IfNone result (settling old user inode ≡ nobody_answered before)
  rested-last None none told = settle-nobody before none (none-told (first_told Writing before) (sym told))
  rested-last (Some more) none told = tt

-- ---- whether anyone waits

pub not_zero : (n : ℕ) → (n ≡ 0 → ⊥) → nat_eq n 0 ≡ false
not_zero n differs = elim (eqb_tells n 0) [ inl same ↦ absurd (differs same.1) | inr other ↦ other.0 ]

pub none-waits : {A : Type 0} (first : Option (Bor A)) (xs : List A) → option_copied first ≡ slice_get xs 0 → is_some first ≡ false → xs ≡ []
none-waits first [] is none = refl
none-waits None (x ∷ xs) is none = absurd (cc)
none-waits (Some borrowed) (x ∷ xs) is none = absurd (cc)

pub is-some : {A : Type 0} (first : Option (Bor A)) (xs : List A) → option_copied first ≡ slice_get xs 0 → is_some first ≡ not (length xs == 0)
is-some None [] is = refl
is-some None (x ∷ xs) is = absurd (cc)
is-some (Some borrowed) [] is = absurd (cc)
is-some (Some borrowed) (x ∷ xs) is = sym (ap not (not_zero (length (x ∷ xs)) (λ none. omega (arith, none))))

pub first-waits : (a b : Bool) → true ≡ not a → true ≡ not (a && b)
first-waits false b some = refl
first-waits true b some = absurd (cc)

pub then-waits : (a b : Bool) → false ≡ not a → not b ≡ not (a && b)
then-waits true b none = refl
then-waits false b none = absurd (cc)
