-- A READ and a WRITE where nobody waits.
use Rattle.std.proofs.Common.{◌≡◌, ℕ, Bool, false, true, List, [], ◌∷◌, length, Option, Some, None, IsSome, refl, sym, ap, ◌∙◌}
use Rattle.std.specs.Prelude.{◌&&◌, ◌||◌, IfNone, IfSome, nat_eq}
use Rattle.std.proofs.lemmas.Bool.{cond_both}
use Rattle.std.proofs.lemmas.Option.{same_Some}
use Rattle.qx_base.specs.declared.device.Told.{Told}
use Rattle.qx_base.specs.declared.device.Told.TheVariants as told
use Rattle.qx_base.specs.Verdict.{Left, Verdict, Fails, Gives, Waits, left_by}
use Rattle.qx_devices.specs.declared.Device.{Device}
use Rattle.qx_base.specs.declared.errno.Errno.TheVariants.{EPIPE}
use Rattle.qx_types.specs.declared.outcome.Answer.{Answer}
use Rattle.qx_types.specs.declared.outcome.Answer.TheVariants.{Failed, Reply}
use Rattle.qx_machine.specs.declared.rows.Manner.{Manner}
use Rattle.qx_machine.specs.declared.rows.WaitingCall.{WaitingCall}
use Rattle.qx_machine.specs.Waiting.{is_gone, offered, wanted}
use Rattle.qx_machine.specs.Pipes.{PipeAfter, Pipe, and_then, clean_read, clean_write, if_first, one_answered, only_reply, read, read_told, told_or_waiting, with_reader, with_writer, write, write_told}
use Rattle.qx_machine.specs.Verdicts.{read_ended, told_of, write_ended}
use Rattle.qx_pipe.specs.inner.Turns.{NobodyWaits, status_given}
use Rattle.qx_pipe.proofs.TurnLemmas.{clean-alone, not_zero, settle-alone}

-- ---- what a call comes to by what it is told

-- it waits, or gets an error
abbrev pub IsNoReply : Option (Answer × List ℕ) → Type 0
IsNoReply (Some (Reply status bytes, left)) = ⊥
IsNoReply _ = Unit {0}

module _ (manner : Manner) (who : WaitingCall) (p with_it : Pipe WaitingCall) where
  abbrev pub comes_to : Option Answer → Option (Answer × List ℕ) → PipeAfter WaitingCall
  comes_to ended told = told_or_waiting wanted offered manner who ended told p with_it

  pub told-ended : (ended : Option Answer) (told : Option (Answer × List ℕ)) (answer : Answer) → ended ≡ Some answer → comes_to ended told ≡ one_answered who answer p
  told-ended ended told answer is = rw is refl

  module _ (nobody : NobodyWaits p) (ended : Option Answer) (told : Option (Answer × List ℕ)) (none : ended ≡ None) where
    pub told-alone : (answer : Answer) (left : List ℕ) → told ≡ Some (answer, left) → comes_to ended told ≡ one_answered who answer (record p { bytes = left })
    told-alone answer left is = rw (none, is) (ap (λ (after : PipeAfter WaitingCall). record after { answers = (who, answer) ∷ after.answers }) (settle-alone (record p { bytes = left }) nobody))

    -- who can't be served at once gets no reply
    pub told-silent : IsNoReply told → only_reply (comes_to ended told).answers ≡ None
    told-silent quiet = rw none (of told quiet)
      where
        of : (told : Option (Answer × List ℕ)) → IsNoReply told → only_reply (comes_to None told).answers ≡ None
        of None quiet =
            cond_both {A = PipeAfter WaitingCall} manner.is_nonblock _ _ (λ after. only_reply after.answers ≡ None) (λ _. refl)
            (λ _. cond_both {A = PipeAfter WaitingCall} manner.is_asked _ _ (λ after. only_reply after.answers ≡ None) (λ _. refl) (λ _. refl))
        of (Some (Reply status bytes, left)) quiet = absurd quiet
        of (Some (Failed error, left)) quiet = ap (λ (after : PipeAfter WaitingCall). only_reply ((who, Failed error) ∷ after.answers)) (settle-alone (record p { bytes = left }) nobody)

-- ---- a READ and a WRITE where nobody waits

first-is : (others : List WaitingCall) (told : Option (Answer × List ℕ)) → others ≡ [] → if_first others told ≡ told
first-is others told none = rw none refl

module _ (manner : Manner) (call : WaitingCall) (p : Pipe WaitingCall) (nobody : NobodyWaits p) where
  pub read-is : read wanted offered is_gone manner call p ≡ comes_to manner call p (with_reader p call) (read_ended p.device manner call.wanted p.bytes) (read_told wanted offered p.device p.bytes call)
  read-is = ap (λ after. and_then after (clean_read wanted offered manner call)) (clean-alone p nobody) ∙ ap (comes_to manner call p (with_reader p call) (read_ended p.device manner call.wanted p.bytes)) (first-is p.readers _ nobody.0)

  pub write-is : write wanted offered is_gone manner call p ≡ comes_to manner call p (with_writer p call) (write_ended p.device manner call.bytes) (write_told wanted offered p.device p.bytes call)
  write-is = ap (λ after. and_then after (clean_write wanted offered manner call)) (clean-alone p nobody) ∙ ap (comes_to manner call p (with_writer p call) (write_ended p.device manner call.bytes)) (first-is p.writers _ nobody.1)

-- ---- what is told at a pipe whoever waits there

or-true : (b : Bool) → (b || true) ≡ true
or-true true = refl
or-true false = refl

and-false : (b : Bool) → (b && false) ≡ false
and-false true = refl
and-false false = refl

module _ (manner : Manner) (call : WaitingCall) (p : Pipe WaitingCall) (pipe : p.device ≡ None) where
  pub read-nothing : call.wanted ≡ 0 → read_ended p.device manner call.wanted p.bytes ≡ Some (Reply 0 [])
  read-nothing none = rw (pipe, none) refl

  pub read-over : length p.bytes ≡ 0 → manner.has_other_side ≡ false → read_ended p.device manner call.wanted p.bytes ≡ Some (Reply 0 [])
  read-over empty over = rw (pipe, empty, over, or-true (nat_eq call.wanted 0)) refl

  pub read-stands : (call.wanted ≡ 0 → ⊥) → (length p.bytes ≡ 0 → ⊥) → read_ended p.device manner call.wanted p.bytes ≡ None
  read-stands some stand = rw (pipe, not_zero _ some, not_zero _ stand) refl

  pub read-open : (call.wanted ≡ 0 → ⊥) → manner.has_other_side ≡ true → read_ended p.device manner call.wanted p.bytes ≡ None
  read-open some is_open = rw (pipe, not_zero _ some, is_open, and-false (nat_eq (length p.bytes) 0)) refl

  pub write-nothing : length call.bytes ≡ 0 → write_ended p.device manner call.bytes ≡ Some (Reply 0 [])
  write-nothing none = rw (pipe, none) refl

  pub write-broken : (length call.bytes ≡ 0 → ⊥) → manner.has_other_side ≡ false → write_ended p.device manner call.bytes ≡ Some (Failed EPIPE)
  write-broken some broken = rw (pipe, not_zero _ some, broken) refl

  pub write-open : (length call.bytes ≡ 0 → ⊥) → manner.has_other_side ≡ true → write_ended p.device manner call.bytes ≡ None
  write-open some is_open = rw (pipe, not_zero _ some, is_open) refl

-- ---- at a device

module _ (manner : Manner) (call : WaitingCall) (p : Pipe WaitingCall) (device : IsSome p.device) where
  pub read-unended : read_ended p.device manner call.wanted p.bytes ≡ None
  read-unended = of p.device device
    where
      of : (device : Option Device) → IsSome device → read_ended device manner call.wanted p.bytes ≡ None
      of None none = absurd (cc)
      of (Some device) some = refl

  pub write-unended : write_ended p.device manner call.bytes ≡ None
  write-unended = of p.device device
    where
      of : (device : Option Device) → IsSome device → write_ended device manner call.bytes ≡ None
      of None none = absurd (cc)
      of (Some device) some = refl

-- ---- what a device leaves by what it was told

abbrev pub answered_by : Told → List ℕ → List ℕ → Option (Answer × List ℕ)
answered_by told.Waits bytes state = None
answered_by (told.Gives status) bytes state = Some (Reply status bytes, state)
answered_by (told.Fails error) bytes state = Some (Failed error, state)

module _ (told : Told) (bytes state : List ℕ) where
  abbrev left : Left
  left = record { told = told; bytes = bytes; state = state }

  abbrev answered_in : Left → Option (Answer × List ℕ)
  answered_in left = answered_by left.told left.bytes left.state

  pub left-told : (before : List ℕ) (verdict : Verdict) → left ≡ left_by before verdict → told_of before verdict ≡ answered_by told bytes state
  left-told before Waits is = ap answered_in (sym is)
  left-told before (Gives status given after) is = ap answered_in (sym is)
  left-told before (Fails error) is = ap answered_in (sym is)

  -- where it gives nothing, the same bytes stand
  pub left-same : (before : List ℕ) (verdict : Verdict) → left ≡ left_by before verdict → status_given told ≡ None → (bytes ≡ []) × (state ≡ before)
  left-same before Waits is none = (ap (λ (left : Left). left.bytes) is, ap (λ (left : Left). left.state) is)
  left-same before (Fails error) is none = (ap (λ (left : Left). left.bytes) is, ap (λ (left : Left). left.state) is)
  left-same before (Gives status given after) is none = let clash : Some status ≡ None = sym (ap (λ (left : Left). status_given left.told) is) ∙ none in absurd (cc)

pub given-reply : (told : Told) (bytes state : List ℕ) (status : ℕ) → status_given told ≡ Some status → answered_by told bytes state ≡ Some (Reply status bytes, state)
given-reply told.Waits bytes state status is = absurd (cc)
given-reply (told.Fails error) bytes state status is = absurd (cc)
given-reply (told.Gives given) bytes state status is = ap (λ status. Some (Reply status bytes, state)) (same_Some _ _ is)

pub given-nothing : (told : Told) (bytes state : List ℕ) → status_given told ≡ None → IsNoReply (answered_by told bytes state)
given-nothing told.Waits bytes state none = tt
given-nothing (told.Fails error) bytes state none = tt
given-nothing (told.Gives given) bytes state none = absurd (cc)

-- ---- a result by its cases

pub none-by : {A : Type 0} (result : Option A) {P : Type 0} → (result ≡ None → P) → IfNone result P
none-by None then_is = then_is refl
none-by (Some x) then_is = tt
