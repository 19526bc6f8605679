-- The call that a thread waits for, and what its row and the lines then say.
use Rattle.std.proofs.Common.{◌≡◌, ◌⊎◌, inl, inr, eq-eqb, true, false, Option, Some, None, refl, sym, ◌∙◌, ap}
use Rattle.std.specs.Prelude.{Bool, if◌then◌else◌}
use Rattle.qx_types.specs.Managers.{manager_number}
use Rattle.qx_types.specs.declared.outcome.Answer.{Answer}
use Rattle.qx_machine.specs.declared.rows.Sent.{Sent}
use Rattle.qx_machine.specs.declared.rows.State.{State}
use Rattle.qx_machine.specs.declared.rows.State.TheVariants.{Answered, Queued, Ready, Taken, Waiting}
use Rattle.qx_machine.specs.declared.rows.ThreadRow.{ThreadRow}
use Rattle.qx_machine.specs.Performing.{taken_in}
use Rattle.qx_process.specs.Reads.{queued_in, unanswered_in}
use Rattle.qx_chan.specs.Calls.{sent_call, queued_call, unasked_in}
use Rattle.qx_chan.specs.inner.Kept.{stands_at}
use Rattle.qx_chan.specs.declared.call.Call.{Call}
use Rattle.qx_chan.proofs.RowReads.{option_cases}

-- the thread whose call it is, and its message
pub record Waits (message : State → Option Sent) (place : Option ThreadRow) (call : Call) : Type 0 where
  pub row : ThreadRow
  pub there : place ≡ Some row
  pub sent : Sent
  pub is : message row.state ≡ Some sent
  pub target : call.target ≡ sent.target
  pub number : call.number ≡ row.calls
  pub asked : call.is_asked ≡ sent.is_asked

pub waits : (message : State → Option Sent) (place : Option ThreadRow) (call : Call) → Some call ≡ sent_call message place → Waits message place call
waits message None call is = let clash : None ≡ Some call = sym is in absurd (cc)
waits message (Some row) call is = elim (option_cases (message row.state)) [
  | inl none ↦ let clash : Some call ≡ None = rw none at is in absurd (cc)
  | inr sent ↦
      let same : Some call ≡ Some (record { target = sent.0.target; number = row.calls; is_asked = sent.0.is_asked }) = rw sent.1 at is in
      let its : call ≡ record { target = sent.0.target; number = row.calls; is_asked = sent.0.is_asked } = cc in
      record { row = row; there = refl; sent = sent.0; is = sent.1; target = ap (λ c. c.target) its; number = ap (λ c. c.number) its; asked = ap (λ c. c.is_asked) its }
]

pub queued_is : (s : State) (sent : Sent) → queued_in s ≡ Some sent → s ≡ Queued sent
queued_is Ready sent is = cc
queued_is (Queued other) sent is = let same : other ≡ sent = cc in rw same refl
queued_is (Taken other) sent is = cc
queued_is (Waiting other) sent is = cc
queued_is (Answered answer) sent is = cc

pub taken_is : (s : State) (sent : Sent) → taken_in s ≡ Some sent → s ≡ Taken sent
taken_is Ready sent is = cc
taken_is (Queued other) sent is = cc
taken_is (Taken other) sent is = let same : other ≡ sent = cc in rw same refl
taken_is (Waiting other) sent is = cc
taken_is (Answered answer) sent is = cc

pub unanswered_is : (s : State) (sent : Sent) → unanswered_in s ≡ Some sent → (s ≡ Taken sent) ⊎ (s ≡ Waiting sent)
unanswered_is Ready sent is = cc
unanswered_is (Queued other) sent is = cc
unanswered_is (Taken other) sent is = let same : other ≡ sent = cc in inl (ap Taken same)
unanswered_is (Waiting other) sent is = let same : other ≡ sent = cc in inr (ap Waiting same)
unanswered_is (Answered answer) sent is = cc

-- a thread that waits for nothing
pub idle_is : (s : State) → queued_in s ≡ None → unanswered_in s ≡ None → (s ≡ Ready) ⊎ ((answer : Answer) × (s ≡ Answered answer))
idle_is Ready unqueued unheld = inl refl
idle_is (Queued sent) unqueued unheld = cc
idle_is (Taken sent) unqueued unheld = cc
idle_is (Waiting sent) unqueued unheld = cc
idle_is (Answered answer) unqueued unheld = inr (answer, refl)

unless_asked : (asked : Bool) (other sent : Sent) → other.is_asked ≡ asked → (if asked then None else Some other) ≡ Some sent → (other ≡ sent) × (sent.is_asked ≡ false)
unless_asked true other sent asked given = cc
unless_asked false other sent unasked given = let same : other ≡ sent = cc in (same, ap (λ s. s.is_asked) (sym same) ∙ unasked)

pub unasked_is : (s : State) (sent : Sent) → unasked_in s ≡ Some sent → ((s ≡ Taken sent) ⊎ (s ≡ Waiting sent)) × (sent.is_asked ≡ false)
unasked_is Ready sent is = cc
unasked_is (Queued other) sent is = cc
unasked_is (Answered answer) sent is = cc
unasked_is (Taken other) sent is = let its = unless_asked other.is_asked other sent refl is in (inl (ap Taken its.0), its.1)
unasked_is (Waiting other) sent is = let its = unless_asked other.is_asked other sent refl is in (inr (ap Waiting its.0), its.1)

-- its message stands in the line that it went to
at_target : (place : Option ThreadRow) (row : ThreadRow) (sent : Sent) → place ≡ Some row → row.state ≡ Queued sent → stands_at (manager_number sent.target.manager) place ≡ true
at_target place row sent there is = rw (there, is) (eq-eqb (manager_number sent.target.manager) (manager_number sent.target.manager) refl)

pub queued-at_target : (place : Option ThreadRow) (call : Call) → Some call ≡ queued_call place → stands_at (manager_number call.target.manager) place ≡ true
queued-at_target place call is =
    let it = waits queued_in place call is in
    ap (λ target. stands_at (manager_number target.manager) place) it.target ∙ at_target place it.row it.sent it.there (queued_is it.row.state it.sent it.is)
