-- A READ or a WRITE of a pipe in which nobody waits: where it is replied to at once, nobody waits then.
use Rattle.std.proofs.Common.{◌≡◌, ℕ, ◌==◌, List, [], ◌∷◌, length, Bool, true, refl, sym, subst, arith}
use Rattle.std.specs.Prelude.{Option, Some, None}
use Rattle.std.proofs.lemmas.Bool.{and_parts, cond_both, eqb-true}
use Rattle.qx_devices.specs.declared.Device.{Device}
use Rattle.qx_types.specs.declared.outcome.Answer.{Answer}
use Rattle.qx_machine.specs.declared.rows.Effect.TheVariants.{Keeps}
use Rattle.qx_machine.specs.declared.rows.Manner.{Manner}
use Rattle.qx_machine.specs.declared.rows.WaitingCall.{WaitingCall}
use Rattle.qx_machine.specs.Functions.{Deed, reply_alone}
use Rattle.qx_machine.specs.PipeManager.{deed_of_call, deed_of_pipe, replied_at_once}
use Rattle.qx_machine.specs.Pipes.{PipeAfter, Pipe, and_then, clean, clean_read, clean_write, first_answered, is_idle, nobody_answered, only_reply, pipe_of, read, settle, told_or_waiting, waiting_unless, write}
use Rattle.qx_machine.specs.Resources.{Resources}

module _ {W : Type 0} where
  -- nobody waits in a pipe
  abbrev pub IsIdle : Pipe W → Type 0
  IsIdle p = (p.readers ≡ []) × (p.writers ≡ [])

  nobody-there : (all : List W) → (length all == 0) ≡ true → all ≡ []
  nobody-there [] is = refl
  nobody-there (who ∷ all) is = let long = eqb-true (length (who ∷ all)) 0 is in absurd (omega (arith, long))

  pub idle-is : (p : Pipe W) → is_idle p ≡ true → IsIdle p
  idle-is p is = let both = and_parts (length p.readers == 0) (length p.writers == 0) is in (nobody-there p.readers both.0, nobody-there p.writers both.1)

  -- where a reply is the only answer, nobody waits in the pipe
  abbrev pub RepliesIdle : PipeAfter W → Type 0
  RepliesIdle after = (status : ℕ) (bytes : List ℕ) → only_reply after.answers ≡ Some (status, bytes) → IsIdle after.pipe

-- ---- where nobody waits in a pipe

module _ {W : Type 0} (wanted : W → ℕ) (offered : W → List ℕ) where
  abbrev idle : Option Device → List ℕ → Pipe W
  idle device bytes = pipe_of device bytes [] []

  idle-same : (p : Pipe W) → IsIdle p → idle p.device p.bytes ≡ p
  idle-same p nobody = λ i. record { device = p.device; bytes = p.bytes; readers = sym nobody.0 i; writers = sym nobody.1 i }

  -- settling leaves that
  settle-idle : (device : Option Device) (bytes : List ℕ) → settle wanted offered (idle device bytes) ≡ nobody_answered (idle device bytes)
  unfolding settle
  settle-idle device bytes = refl

  -- who waits is not answered
  waiting-idle : (manner : Manner) (who : W) (device : Option Device) (bytes : List ℕ) (with_it : Pipe W) → RepliesIdle (waiting_unless manner who (idle device bytes) with_it)
  waiting-idle manner who device bytes with_it =
      cond_both manner.is_nonblock _ _ RepliesIdle (λ is status given replied. (refl, refl))
      (λ is_not. cond_both manner.is_asked _ _ RepliesIdle (λ is status given replied. (refl, refl)) (λ is_not status given replied. absurd (cc)))

  told-idle : (manner : Manner) (who : W) (ended : Option Answer) (told : Option (Answer × List ℕ)) (device : Option Device) (bytes : List ℕ) (with_it : Pipe W) → RepliesIdle (told_or_waiting wanted offered manner who ended told (idle device bytes) with_it)
  told-idle manner who (Some answer) told device bytes with_it = λ status given replied. (refl, refl)
  told-idle manner who None (Some (answer, left)) device bytes with_it =
      subst (λ (after : PipeAfter W). RepliesIdle (first_answered who answer after)) (sym (settle-idle device left)) (λ status given replied. (refl, refl))
  told-idle manner who None None device bytes with_it = waiting-idle manner who device bytes with_it

  cleaned-idle : (gone : W → Bool) (next : Pipe W → PipeAfter W) (device : Option Device) (bytes : List ℕ) → RepliesIdle (next (idle device bytes)) → RepliesIdle (and_then (clean wanted offered gone (idle device bytes)) next)
  cleaned-idle gone next device bytes h = subst (λ (first : PipeAfter W). RepliesIdle (and_then first next)) (sym (settle-idle device bytes)) h

  pub read-idle : (gone : W → Bool) (manner : Manner) (who : W) (p : Pipe W) → IsIdle p → RepliesIdle (read wanted offered gone manner who p)
  read-idle gone manner who p nobody =
      subst (λ (q : Pipe W). RepliesIdle (read wanted offered gone manner who q)) (idle-same p nobody)
      (cleaned-idle gone (clean_read wanted offered manner who) p.device p.bytes (told-idle manner who _ _ p.device p.bytes _))

  pub write-idle : (gone : W → Bool) (manner : Manner) (who : W) (p : Pipe W) → IsIdle p → RepliesIdle (write wanted offered gone manner who p)
  write-idle gone manner who p nobody =
      subst (λ (q : Pipe W). RepliesIdle (write wanted offered gone manner who q)) (idle-same p nobody)
      (cleaned-idle gone (clean_write wanted offered manner who) p.device p.bytes (told-idle manner who _ _ p.device p.bytes _))

-- ---- what a READ or a WRITE comes to

module _ (Q : Deed Resources → Type 0) (r : Resources) (inode moment : ℕ) (pipe : Pipe WaitingCall) (after : PipeAfter WaitingCall) where
  abbrev answered : Deed Resources
  answered = deed_of_pipe r inode moment after

  -- what holds of it where it stands among the answers, and where it is replied to at once
  pub call-by : Q answered → (IsIdle pipe → (status : ℕ) (bytes : List ℕ) → only_reply after.answers ≡ Some (status, bytes) → Q (reply_alone status bytes Keeps answered.state)) → Q (deed_of_call r inode moment pipe after)
  call-by later at_once = cond_both (is_idle pipe) (replied_at_once answered (only_reply after.answers)) answered Q (λ nobody. by (idle-is pipe nobody) (only_reply after.answers) refl) (λ others. later)
    where
      by : IsIdle pipe → (told : Option (ℕ × List ℕ)) → only_reply after.answers ≡ told → Q (replied_at_once answered told)
      by nobody None is = later
      by nobody (Some (status, bytes)) is = at_once nobody status bytes is
