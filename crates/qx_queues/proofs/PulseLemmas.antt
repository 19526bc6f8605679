-- In which line a thread's unblock pulse stands, as items come and go.
use Rattle.std.proofs.Common.{◌≡◌, ◌≢◌, inl, inr, ℕ, ◌<◌, true, false, List, [], ◌∷◌, Option, Some, None, is_some, length, drop, slice_get, replicate, refl, sym, ◌∙◌, ap, arith}
use Rattle.std.proofs.lemmas.Bool.Decides.{eqb_tells, nat_tests}
use Rattle.std.proofs.lemmas.Option.{same_Some, unwrap_or-slice_get}
use Rattle.qx_types.specs.declared.names.Proc.{Proc}
use Rattle.qx_types.specs.declared.names.Thread.{Thread}
use Rattle.qx_isolation.specs.declared.rows.OwnItem.TheVariants as item
use Rattle.qx_isolation.specs.declared.rows.Queued.{Queued}
use Rattle.qx_isolation.specs.declared.rows.ServerName.{ServerName}
use Rattle.qx_isolation.specs.Lines.{into, line_at, with_line}
use Rattle.qx_machine.specs.Machine.{line_without}
use Rattle.qx_queues.specs.Queues.{disconnect_of, pulse_call, message_of, sender, unblock_call, unblock_of}
use Rattle.qx_queues.specs.inner.Kept.{KnowsPulses, is_line_at}
use Rattle.qx_queues.proofs.EntryLemmas.{is_same_thread-differs, is_same_thread-self, line_at-other, line_at-same, with_line-same}
use Rattle.qx_queues.proofs.LineLemmas.{call-asked, call-disconnected, call-received, call-received_other, call-replied_other, replied-none, call-sent, call-withdrawn}
use Rattle.qx_queues.proofs.NodesLemmas.{default_of, none_of, same_or_not}

pub is_at-self : (number : ℕ) → is_line_at number (Some number) ≡ true
is_at-self number = grind (arith, nat_tests)

pub is_at-other : (number other : ℕ) → other ≢ number → is_line_at other (Some number) ≡ false
is_at-other number other differs = elim (eqb_tells other number) [
  | inl same ↦ absurd (differs same.1)
  | inr apart ↦ apart.0
]

-- a place is one alone
pub at-one : (number : ℕ) (o : Option ℕ) → is_line_at number o ≡ true → o ≡ Some number
at-one number None is = cc
at-one number (Some at) is = elim (eqb_tells number at) [
  | inl same ↦ ap Some (sym same.1)
  | inr differs ↦ let clash : false ≡ true = rw differs.0 at is in cc
]

pub KnowsPulses-same : (lines after_lines : List (List Queued)) (asked after : Thread → Option ℕ) → after_lines ≡ lines → ((thread : Thread) → after thread ≡ asked thread) → KnowsPulses lines asked → KnowsPulses after_lines after
KnowsPulses-same lines after_lines asked after same_lines same was thread number = rw (same_lines, same thread) (was thread number)

pub KnowsPulses-none : (lines : List (List Queued)) (count : ℕ) (asked : Thread → Option ℕ) → lines ≡ replicate count [] → ((thread : Thread) → asked thread ≡ None) → KnowsPulses lines asked
KnowsPulses-none lines count asked empty none thread number =
    let no_line : line_at {A = Queued} (replicate count []) number ≡ [] = unwrap_or-slice_get (replicate count []) number [] ∙ default_of count number [] in
    rw (empty, no_line, none thread) refl

module _ (lines : List (List Queued)) (number : ℕ) (asked : Thread → Option ℕ) (within : number < length lines) (was : KnowsPulses lines asked) where
  module _ (change : List Queued → List Queued) where
    abbrev line : List Queued
    line = line_at lines number

    changed : (after : Thread → Option ℕ) → ((thread : Thread) → is_some (unblock_call (change line) thread) ≡ is_line_at number (after thread)) → ((thread : Thread) (other : ℕ) → other ≢ number → is_line_at other (after thread) ≡ is_line_at other (asked thread)) → KnowsPulses (with_line lines number change) after
    changed after here others thread other = elim (eqb_tells other number) [
      | inl same ↦ rw (same.1, line_at-same lines number change within) (here thread)
      | inr differs ↦ rw (line_at-other lines number change other differs.1) (was thread other ∙ sym (others thread other differs.1))
    ]

    kept : ((thread : Thread) → unblock_call (change line) thread ≡ unblock_call line thread) → KnowsPulses (with_line lines number change) asked
    kept same = changed asked (λ thread. ap is_some (same thread) ∙ was thread number) (λ thread other differs. refl)

    -- the pulse of one thread comes or goes
    module _ (thread : Thread) (after : Thread → Option ℕ) (same : (other : Thread) → other ≢ thread → unblock_call (change line) other ≡ unblock_call line other) (same_place : (other : Thread) → other ≢ thread → after other ≡ asked other) where
      one : is_some (unblock_call (change line) thread) ≡ is_line_at number (after thread) → ((other : ℕ) → other ≢ number → is_line_at other (after thread) ≡ is_line_at other (asked thread)) → KnowsPulses (with_line lines number change) after
      one here others = changed after
          (λ other. elim (same_or_not other thread) [
            | inl is ↦ rw is here
            | inr differs ↦ ap is_some (same other differs) ∙ was other number ∙ ap (is_line_at number) (sym (same_place other differs))
          ])
          (λ other at differs. elim (same_or_not other thread) [
            | inl is ↦ rw is (others at differs)
            | inr apart ↦ ap (is_line_at at) (same_place other apart)
          ])

      pub pulses-comes : after thread ≡ Some number → is_some (unblock_call (change line) thread) ≡ true → ((other : ℕ) → unblock_call (line_at lines other) thread ≡ None) → KnowsPulses (with_line lines number change) after
      pulses-comes now stands idle = one
          (stands ∙ sym (ap (is_line_at number) now ∙ is_at-self number))
          (λ other differs. ap (is_line_at other) now ∙ is_at-other number other differs ∙ sym (ap is_some (idle other)) ∙ was thread other)

      pub pulses-goes : after thread ≡ None → asked thread ≡ Some number → unblock_call (change line) thread ≡ None → KnowsPulses (with_line lines number change) after
      pulses-goes now before gone = one
          (ap is_some gone ∙ sym (ap (is_line_at number) now))
          (λ other differs. ap (is_line_at other) now ∙ sym (ap (is_line_at other) before ∙ is_at-other number other differs))

  pub pulses-sent : (rank : Queued → ℕ) (thread : Thread) (prio : ℕ) → KnowsPulses (with_line lines number (λ line. into rank line (message_of thread prio))) asked
  pulses-sent rank thread prio = kept (λ line. into rank line (message_of thread prio)) (λ other. call-sent rank (line_at lines number) thread prio other)

  pub pulses-disconnected : (rank : Queued → ℕ) (proc : Proc) (server : ServerName) (prio : ℕ) → KnowsPulses (with_line lines number (λ line. into rank line (disconnect_of proc server prio))) asked
  pulses-disconnected rank proc server prio = kept (λ line. into rank line (disconnect_of proc server prio)) (λ other. call-disconnected rank (line_at lines number) proc server prio other)

  pub pulses-withdrawn : (thread : Thread) → KnowsPulses (with_line lines number (line_without thread.proc.user.0 (item.Message thread.proc.num thread.tid))) asked
  pulses-withdrawn thread = kept (line_without thread.proc.user.0 (item.Message thread.proc.num thread.tid)) (λ other. call-withdrawn (line_at lines number) thread other)

  pub pulses-asked : (rank : Queued → ℕ) (thread : Thread) (call prio : ℕ) (after : Thread → Option ℕ) → ((other : Thread) → other ≢ thread → after other ≡ asked other) → after thread ≡ Some number → ((other : ℕ) → unblock_call (line_at lines other) thread ≡ None) → KnowsPulses (with_line lines number (λ line. into rank line (unblock_of thread call prio))) after
  pulses-asked rank thread call prio after same now idle = pulses-comes (λ line. into rank line (unblock_of thread call prio)) thread after
      (λ other differs. others other (λ is. differs (sym is)))
      same now (ap is_some own) idle
    where
      others : (other : Thread) → thread ≢ other → unblock_call (into rank (line_at lines number) (unblock_of thread call prio)) other ≡ unblock_call (line_at lines number) other
      others other differs = call-asked rank (line_at lines number) thread call prio other (idle number) ∙ rw (is_same_thread-differs thread other differs) refl

      own : unblock_call (into rank (line_at lines number) (unblock_of thread call prio)) thread ≡ Some call
      own = call-asked rank (line_at lines number) thread call prio thread (idle number) ∙ rw (is_same_thread-self thread) refl

  pub pulses-received : ((first : Queued) → slice_get (line_at lines number) 0 ≡ Some first → pulse_call first.item ≡ None) → KnowsPulses (with_line lines number (drop 1)) asked
  pulses-received none = kept (drop 1) (λ thread. by_first (line_at lines number) thread none)
    where
      by_first : (line : List Queued) (thread : Thread) → ((first : Queued) → slice_get line 0 ≡ Some first → pulse_call first.item ≡ None) → unblock_call (drop 1 line) thread ≡ unblock_call line thread
      by_first [] thread none = refl
      by_first (first ∷ rest) thread none = sym (call-received first rest thread (none first refl))

  pub pulses-taken : (first : Queued) (call : ℕ) (after : Thread → Option ℕ) → slice_get (line_at lines number) 0 ≡ Some first → pulse_call first.item ≡ Some call → ((other : Thread) → other ≢ sender first → after other ≡ asked other) → after (sender first) ≡ None → unblock_call (drop 1 (line_at lines number)) (sender first) ≡ None → KnowsPulses (with_line lines number (drop 1)) after
  pulses-taken first call after is names same now gone = pulses-goes (drop 1) (sender first) after (λ other differs. others (line_at lines number) is other differs) same now (at-one number (asked (sender first)) (sym (was (sender first) number) ∙ stood (line_at lines number) is)) gone
    where
      others : (line : List Queued) → slice_get line 0 ≡ Some first → (other : Thread) → other ≢ sender first → unblock_call (drop 1 line) other ≡ unblock_call line other
      others [] is other differs = refl
      others (x ∷ rest) is other differs = sym (call-received_other x rest other (λ same. differs (sym same ∙ ap sender (same_Some x first is))))

      stood : (line : List Queued) → slice_get line 0 ≡ Some first → is_some (unblock_call line (sender first)) ≡ true
      stood [] is = absurd (cc)
      stood (x ∷ rest) is = rw (same_Some x first is, is_same_thread-self (sender first), names) refl

  pub pulses-replied : (thread : Thread) (call : ℕ) (after : Thread → Option ℕ) → ((other : Thread) → other ≢ thread → after other ≡ asked other) → after thread ≡ None → asked thread ≡ Some number → unblock_call (line_without thread.proc.user.0 (item.Unblock thread.proc.num thread.tid call) (line_at lines number)) thread ≡ None → KnowsPulses (with_line lines number (line_without thread.proc.user.0 (item.Unblock thread.proc.num thread.tid call))) after
  pulses-replied thread call after same now before gone = pulses-goes (line_without thread.proc.user.0 (item.Unblock thread.proc.num thread.tid call)) thread after (λ other differs. call-replied_other (line_at lines number) thread call other differs) same now before gone

-- where no pulse of a thread stands, it is asked nowhere
pub nowhere-asked : (lines : List (List Queued)) (asked : Thread → Option ℕ) (thread : Thread) → KnowsPulses lines asked → ((number : ℕ) → unblock_call (line_at lines number) thread ≡ None) → asked thread ≡ None
nowhere-asked lines asked thread was none = of (asked thread) refl
  where
    of : (o : Option ℕ) → asked thread ≡ o → asked thread ≡ None
    of None is = is
    of (Some number) is = let clash : false ≡ true = ap is_some (sym (none number)) ∙ was thread number ∙ ap (is_line_at number) is ∙ is_at-self number in absurd (cc)

-- a thread whose pulse stands elsewhere, or nowhere
pub no_field : (lines : List (List Queued)) (number : ℕ) (asked : Thread → Option ℕ) (thread : Thread) → KnowsPulses lines asked → is_line_at number (asked thread) ≡ false → unblock_call (line_at lines number) thread ≡ None
no_field lines number asked thread was apart = none_of _ (was thread number ∙ apart)

-- and its answer takes nothing out of the line
pub reply-none : (lines : List (List Queued)) (number : ℕ) (asked : Thread → Option ℕ) (thread : Thread) (call : ℕ) → KnowsPulses lines asked → is_line_at number (asked thread) ≡ false → lines ≡ with_line lines number (line_without thread.proc.user.0 (item.Unblock thread.proc.num thread.tid call))
reply-none lines number asked thread call was apart = with_line-same lines number (line_without thread.proc.user.0 (item.Unblock thread.proc.num thread.tid call)) (replied-none (line_at lines number) thread call (no_field lines number asked thread was apart))
