-- What the performing of an item puts into lines, by any measure of changes by which a removal is nothing and a disconnect pulse 1 at most.
use Rattle.std.proofs.Common.{◌≡◌, ◌∙◌, ℕ, ◌+◌, ◌≤◌, List, [], ◌∷◌, ◌++◌, map, refl, arith}
use Rattle.std.specs.Prelude.{Option, Some, None, Result, Ok, Err, if◌then◌else◌, is_some, sum_by, take}
use Rattle.std.proofs.lemmas.Bool.{cond_both}
use Rattle.std.proofs.lemmas.List.Sums.{sum_by-append, sum_by-cons}
use Rattle.qx_types.specs.Configuration.{Configuration, limits_of}
use Rattle.qx_base.specs.declared.errno.Errno.{Errno}
use Rattle.qx_types.specs.declared.names.Manager.{Manager}
use Rattle.qx_types.specs.declared.outcome.Answer.{Answer}
use Rattle.qx_types.specs.declared.outcome.Outcome.{Outcome}
use Rattle.qx_types.specs.declared.outcome.Outcome.TheVariants.{WrongState}
use Rattle.qx_wire.specs.Reading.{meaning}
use Rattle.qx_machine.specs.declared.rows.Caller.{Caller}
use Rattle.qx_isolation.specs.declared.rows.OwnItem.{OwnItem}
use Rattle.qx_isolation.specs.declared.rows.OwnItem.TheVariants as item
use Rattle.qx_machine.specs.declared.rows.Sent.{Sent}
use Rattle.qx_isolation.specs.declared.rows.ServerName.{ServerName}
use Rattle.qx_machine.specs.declared.rows.WaitingCall.{WaitingCall}
use Rattle.qx_machine.specs.Functions.{Deed}
use Rattle.qx_isolation.specs.Judgements.{◌>>=◌, found}
use Rattle.qx_machine.specs.Laws.{is_put, most_put, put_count}
use Rattle.qx_machine.specs.Parts.{Change, Part, Remove, disconnect, disconnects, thread_at, with_process}
use Rattle.qx_machine.specs.Performing.{Served, after_message, answered_changes, called_by, caller_of, context_of, deed_of, or_kept, own_change, served_by, served_changes, taken_in, with_answer}
use Rattle.qx_machine.specs.Managers.{close_client}
use Rattle.qx_machine.specs.PipeManager.{cancel_call}
use Rattle.qx_machine.specs.Processes.{Process, lost_servers, without_server}
use Rattle.qx_machine.specs.Resources.{Resources}
use Rattle.qx_isolation.specs.Rows.{row_at}
use Rattle.qx_machine.specs.Users.{serve}

module _ (measure : Change → ℕ) (removal-is : (manager : Manager) (removed : OwnItem) → measure (Remove manager removed) ≡ 0)
    (disconnect-is : (prio process : ℕ) (server : ServerName) → measure (disconnect prio process server) ≤ 1) where
  abbrev put_by : List Change → ℕ
  put_by changes = sum_by measure changes

  removal-put : (manager : Manager) (removed : OwnItem) (changes : List Change) → put_by (Remove manager removed ∷ changes) ≡ put_by changes
  removal-put manager removed changes = omega (arith, removal-is manager removed, sum_by-cons measure (Remove manager removed) changes)

  answers-put : (answers : List (WaitingCall × Answer)) (part : Part) → put_by (answered_changes answers part) ≡ 0
  answers-put [] part = refl
  answers-put (first ∷ rest) part =
      removal-put (called_by (thread_at part first.0.process first.0.thread)) (item.Unblock first.0.process first.0.thread first.0.call) (answered_changes rest (with_answer first part))
      ∙ answers-put rest (with_answer first part)

  own-put : (manager : Manager) (caller : Caller) (deed : Deed Resources) → put_by (if is_some deed.reply then own_change manager caller ∷ [] else []) ≡ 0
  own-put manager caller deed =
      cond_both (is_some deed.reply) _ _ (λ changes. put_by changes ≡ 0) (λ replied. removal-put manager (item.Unblock caller.process caller.thread caller.call) []) (λ waits. refl)

  served-put : (part : Part) (manager : Manager) (caller : Caller) (lost : List Change) (given : Result (Deed Resources) Errno) → put_by (served_changes part manager caller lost given) ≡ put_by lost
  served-put part manager caller lost (Ok deed) =
      let own = if is_some deed.reply then own_change manager caller ∷ [] else [] in
      let answers = answered_changes deed.answers part in
      let all : put_by (served_changes part manager caller lost (Ok deed)) ≡ put_by (own ++ lost) + put_by answers = sum_by-append measure (own ++ lost) answers in
      omega (arith, all, own-put manager caller deed, answers-put deed.answers part, sum_by-append measure own lost)
  served-put part manager caller lost (Err error) = removal-put manager (item.Unblock caller.process caller.thread caller.call) lost

  disconnects-put : (prio number : ℕ) (change : Process → Process) (process : Option Process) → put_by (disconnects prio number change process) ≤ 1
  disconnects-put prio number change None = omega arith
  disconnects-put prio number change (Some process) = first-put (lost_servers process (change process))
    where
      first-put : (lost : List ServerName) → put_by (map (disconnect prio number) (take 1 lost)) ≤ 1
      first-put [] = omega arith
      first-put (first ∷ rest) = omega (arith, disconnect-is prio number first, sum_by-cons measure (disconnect prio number first) [])

  by-put : (prio : ℕ) (part : Part) (caller : Caller) (sent : Sent) (given : Result (Deed Resources) Errno) → put_by (served_by prio part caller sent given).changes ≤ 1
  by-put prio part caller sent given =
      let change = after_message caller.thread sent.target.over given in
      let lost = disconnects prio caller.process change (row_at part.processes caller.process) in
      omega (arith, disconnects-put prio caller.process change (row_at part.processes caller.process), served-put (with_process caller.process change part) sent.target.manager caller lost given)

  abbrev PutsAtMost : ℕ → Part → Result Served Outcome → Type 0
  PutsAtMost most part given = put_by (or_kept part given).changes ≤ most

  put_on : {A : Type 0} (most : ℕ) (part : Part) (first : Result A Outcome) (next : A → Result Served Outcome) → ((value : A) → PutsAtMost most part (next value)) → PutsAtMost most part (first >>= next)
  put_on most part (Ok value) next h = h value
  put_on most part (Err outcome) next h = omega arith

  answered-put : (answers : List (WaitingCall × Answer)) (part : Part) → put_by (answered_changes answers part) ≤ 0
  answered-put answers part = omega (arith, answers-put answers part)

  pub serve_puts_by : (config : Configuration) (user : ℕ) (held : List OwnItem) (part : Part) (done : OwnItem) (moment : ℕ) → put_by (serve config user held part done moment).changes ≤ most_put done
  unfolding serve
  serve_puts_by config user held part (item.Message process thread) moment =
      put_on 1 part (found (row_at part.processes process) WrongState) _ (λ its. put_on 1 part (found (row_at its.threads thread) WrongState) _ (λ row. put_on 1 part (found (taken_in row.state) WrongState) _ (λ sent.
      by-put (limits_of config user).disconnect part (caller_of process thread row sent) sent (deed_of part.resources (context_of its (caller_of process thread row sent) sent.target moment (meaning sent.bytes)) (meaning sent.bytes)))))
  serve_puts_by config user held part (item.Unblock process thread call) moment =
      put_on 0 part (cancel_call part.resources process thread call moment) _ (λ deed. answered-put deed.answers part)
  serve_puts_by config user held part (item.Disconnect process server) moment =
      put_on 0 part (found (row_at part.processes process) WrongState) _ (λ its. answered-put (close_client part.resources (record { process = process; server = server }) moment).answers (with_process process (without_server server) part))

-- each item counts 1
pub serve_puts : (config : Configuration) (user : ℕ) (held : List OwnItem) (part : Part) (done : OwnItem) (moment : ℕ) → put_count (serve config user held part done moment).changes ≤ most_put done
serve_puts = serve_puts_by (λ change. if is_put change then 1 else 0) (λ manager removed. refl) (λ prio process server. omega arith)
