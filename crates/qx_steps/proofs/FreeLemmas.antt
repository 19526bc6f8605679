-- Processes that have ended are freed, one after the other, as the end of a step settles.
use Rattle.std.proofs.Common.{◌≡◌, inl, inr, ℕ, List, [], ◌∷◌, Bool, true, false, refl, ap, ◌∙◌}
use Rattle.std.specs.Prelude.{Option, Some, None, ◌||◌, not, ◌==◌, slice_set}
use Rattle.std.specs.List.{list_any}
use Rattle.std.proofs.lemmas.Bool.{cases_Bool}
use Rattle.qx_types.specs.declared.names.Proc.{Proc}
use Rattle.qx_isolation.specs.declared.rows.Held.{Held}
use Rattle.qx_isolation.specs.declared.rows.OwnItem.{OwnItem}
use Rattle.qx_machine.specs.Machine.{own_held}
use Rattle.qx_machine.specs.Processes.{Process, has_ended, has_server}
use Rattle.qx_isolation.specs.Rows.{row_at, with_row}
use Rattle.qx_machine.specs.Settling.{has_waiting, is_held, processes_left, row_left}
use Rattle.qx_isolation.proofs.Places.{set-row_at}
use Rattle.qx_rows.proofs.RowLemmas.{set-row, with_row-none}
use Rattle.qx_chan.specs.Channel.{Channel, after_freeing, channel_pipes}
use Rattle.qx_clients.specs.Calls.{has_ended_in}
use Rattle.qx_chan.specs.Users.{process_of}
use Rattle.qx_chan.proofs.RowReads.{option_cases}
use Rattle.qx_steps.specs.inner.Performing.{holds_of, with_left, with_one_left}

-- ---- whose items are held

pub any_held : (user number : ℕ) (hands : List (Option Held)) → list_any (holds_of user number) hands ≡ is_held (own_held user hands) number
any_held user number [] = refl
any_held user number (None ∷ hands) = any_held user number hands
any_held user number (Some held ∷ hands) = elim (cases_Bool (held.user.0 == user)) [
  | inl own ↦ rw (own, any_held user number hands) refl
  | inr other ↦ rw (other, any_held user number hands) refl
]

held-stays : (ended server waiting : Bool) → (not ended || (server || true || waiting)) ≡ true
held-stays false server waiting = refl
held-stays true true waiting = refl
held-stays true false waiting = refl

module _ (c : Channel) (held : List OwnItem) (proc : Proc) where
  abbrev left : List (Option Process) → Option Process
  left processes = row_left held (channel_pipes c proc.user.0) proc.num (row_at processes proc.num)

  -- a process that has not ended stays, and so does one of which a worker holds an item
  unended : (processes : List (Option Process)) → has_ended_in (row_at processes proc.num) ≡ false → left processes ≡ row_at processes proc.num
  unended processes lives = elim (option_cases (row_at processes proc.num)) [
    | inl none ↦ rw none refl
    | inr process ↦ let its : has_ended process.0 ≡ false = rw process.1 at lives in rw (process.1, its) refl
  ]

  still-held : (processes : List (Option Process)) → is_held held proc.num ≡ true → left processes ≡ row_at processes proc.num
  still-held processes is = elim (option_cases (row_at processes proc.num)) [
    | inl none ↦ rw none refl
    | inr process ↦ rw (process.1, is, held-stays (has_ended process.0) (has_server process.0) (has_waiting (channel_pipes c proc.user.0) proc.num)) refl
  ]

  put-back : (processes : List (Option Process)) → row_at c.users proc.user.0 ≡ Some processes → left processes ≡ row_at processes proc.num → with_one_left c held proc ≡ c
  put-back processes user same =
      ap (λ users. record c { users = users })
      (rw user (ap (λ rows. slice_set c.users proc.user.0 (Some rows)) (ap (slice_set processes proc.num) same ∙ set-row_at processes proc.num) ∙ set-row c.users proc.user.0 processes user))

  pub nobody-left : row_at c.users proc.user.0 ≡ None → with_one_left c held proc ≡ c
  nobody-left none = ap (λ users. record c { users = users }) (with_row-none c.users proc.user.0 (λ processes. slice_set processes proc.num (left processes)) none)

  pub one-unended : has_ended_in (process_of c.users proc) ≡ false → with_one_left c held proc ≡ c
  one-unended lives = elim (option_cases (row_at c.users proc.user.0)) [
    | inl none ↦ nobody-left none
    | inr processes ↦ let its : has_ended_in (row_at processes.0 proc.num) ≡ false = rw processes.1 at lives in put-back processes.0 processes.1 (unended processes.0 its)
  ]

  pub one-held : is_held held proc.num ≡ true → with_one_left c held proc ≡ c
  one-held is = elim (option_cases (row_at c.users proc.user.0)) [
    | inl none ↦ nobody-left none
    | inr processes ↦ put-back processes.0 processes.1 (still-held processes.0 is)
  ]

  -- one of which no worker holds an item is freed as if workers held nothing
  row-freed : is_held held proc.num ≡ false → (row : Option Process) → row_left held (channel_pipes c proc.user.0) proc.num row ≡ row_left [] (channel_pipes c proc.user.0) proc.num row
  row-freed is None = refl
  row-freed is (Some process) = rw is refl

  pub one-freed : is_held held proc.num ≡ false → with_one_left c held proc ≡ after_freeing c proc
  one-freed is = λ i. record c { users = with_row c.users proc.user.0 (λ processes. slice_set processes proc.num (row-freed is (row_at processes proc.num) i)) }

-- ---- all processes of a user

-- by the user's processes
pub those_left : (c : Channel) (held : List OwnItem) (user : ℕ) (processes : List (Option Process)) → row_at c.users user ≡ Some processes
    → with_left c held user ≡ record c { users = slice_set c.users user (Some (processes_left held (channel_pipes c user) 0 processes)) }
those_left c held user processes there = rw there refl

-- and where the user is not there, there is none
pub nobody_left : (c : Channel) (held : List OwnItem) (user : ℕ) → row_at c.users user ≡ None → with_left c held user ≡ c
nobody_left c held user none = ap (λ users. record c { users = users }) (with_row-none c.users user (processes_left held (channel_pipes c user) 0) none)
