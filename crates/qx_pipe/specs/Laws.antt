-- What a reader asks of the calls on a pipe, and on a device.
use Rattle.std.specs.Prelude.{Bool, ◌≡◌, ◌⊎◌, ℕ, ◌+◌, ◌<◌, List, [], ◌∷◌, ◌++◌, None, length, take, drop, map}
use Rattle.std.specs.List.{count_by}
use Rattle.qx_base.specs.Verdict.{Verdict, Waits}
use Rattle.qx_types.specs.declared.outcome.Answer.{Answer}
use Rattle.qx_types.specs.declared.outcome.Answer.TheVariants.{Reply, Failed}
use Rattle.qx_types.specs.declared.limits.TheConstants.Limits.{PIPE}
use Rattle.qx_machine.specs.Pipes.{PipeAfter, Pipe}
use Rattle.qx_machine.specs.Verdicts.{read_of, write_of}

-- the bytes that an answer carries
abbrev pub answered_bytes : Answer → List ℕ
answered_bytes (Reply status bytes) = bytes
answered_bytes (Failed error) = []

-- nobody waits to write, or the first one's bytes do not fit
abbrev pub NoneFits : {W : Type 0} → (W → List ℕ) → List ℕ → List W → Type 0
NoneFits offered bytes [] = Unit {0}
NoneFits offered bytes (writer ∷ writers) = PIPE < length bytes + length (offered writer)

-- nobody waits on a side, or the first one's call comes to waiting
abbrev pub FirstWaits : {W : Type 0} → (W → Verdict) → List W → Type 0
FirstWaits verdict [] = Unit {0}
FirstWaits verdict (who ∷ others) = verdict who ≡ Waits

-- the third list holds the others' members, each once and in their order
abbrev pub IsMerge : {W : Type 0} → List W → List W → List W → Type 0
IsMerge xs ys [] = (xs ≡ []) × (ys ≡ [])
IsMerge {W} xs ys (z ∷ zs) = ((rest : List W) × (xs ≡ z ∷ rest) × IsMerge rest ys zs) ⊎ ((rest : List W) × (ys ≡ z ∷ rest) × IsMerge xs rest zs)

module _ {W : Type 0} where
  -- the bytes that answers carry, in order
  abbrev pub handed_out : List (W × Answer) → List ℕ
  handed_out [] = []
  handed_out (first ∷ rest) = answered_bytes first.1 ++ handed_out rest

  -- the bytes that writers have, in order
  abbrev pub brought : (W → List ℕ) → List W → List ℕ
  brought offered [] = []
  brought offered (writer ∷ writers) = offered writer ++ brought offered writers

  -- the first so many readers and the first so many writers were answered, each once, and the others wait on as they did
  pub record AnswersInOrder (p : Pipe W) (after : PipeAfter W) : Type 0 where
    pub read : ℕ
    pub written : ℕ
    pub readers : after.pipe.readers ≡ drop read p.readers
    pub writers : after.pipe.writers ≡ drop written p.writers
    pub whom : IsMerge (take read p.readers) (take written p.writers) (map (λ a. a.0) after.answers)

  -- so they were, and what readers got and what stands now is what stood and what these writers gave: no byte is lost, doubled or moved
  pub record Conserves (offered : W → List ℕ) (p : Pipe W) (after : PipeAfter W) : Type 0 where
    pub order : AnswersInOrder p after
    pub bytes : handed_out after.answers ++ after.pipe.bytes ≡ p.bytes ++ brought offered (take order.written p.writers)

  -- how many of those who wait are such
  abbrev pub waiting_of : (W → Bool) → Pipe W → ℕ
  waiting_of which p = count_by which p.readers + count_by which p.writers

  -- how many of the answers are to such
  abbrev pub answers_to : (W → Bool) → List (W × Answer) → ℕ
  answers_to which answers = count_by (λ a. which a.0) answers

  -- each of those who waited was answered once or waits on: nobody is answered twice, answered and left waiting, or lost
  abbrev pub AnswersOnce : Pipe W → PipeAfter W → Type 0
  AnswersOnce p after = (which : W → Bool) → answers_to which after.answers + waiting_of which after.pipe ≡ waiting_of which p

  -- nobody waits who could be served
  pub record IsSettled (wanted : W → ℕ) (offered : W → List ℕ) (p : Pipe W) : Type 0 where
    -- the first reader's call comes to waiting, and so does the first writer's
    pub readers : FirstWaits (λ reader. read_of p.device (wanted reader) p.bytes) p.readers
    pub writers : FirstWaits (λ writer. write_of p.device (offered writer) p.bytes) p.writers
    -- at a pipe: no reader waits beside bytes, and no first writer whose bytes fit
    pub pipe : p.device ≡ None → ((p.bytes ≡ []) ⊎ (p.readers ≡ [])) × NoneFits offered p.bytes p.writers
