-- Disconnect pulses in lines and hands: what holds of a user's part and of how many name each client, whatever steps are taken.
use Rattle.std.proofs.Common.{◌≡◌, ◌≢◌, inl, inr, ℕ, zero, suc, ◌+◌, ◌≤◌, ◌==◌, Bool, false, List, [], ◌∷◌, drop, refl, sym, ap, ◌∙◌, subst, arith}
use Rattle.std.specs.Prelude.{◌&&◌, Option, Some, None, Ok, nat_lt, replicate, slice_set}
use Rattle.std.specs.List.{count_by, sum_by}
use Rattle.std.proofs.lemmas.Bool.{cases_eq, cond_both, eq-eqb, ne_eqb}
use Rattle.std.proofs.lemmas.List.Folds.{sum_by-replicate}
use Rattle.std.proofs.lemmas.List.Sums.{sum_by-cons}
use Rattle.std.proofs.lemmas.Option.{same_Some}
use Rattle.qx_types.specs.Configuration.{Configuration}
use Rattle.qx_types.specs.Managers.{manager_count, manager_number}
use Rattle.qx_types.specs.Step.{actor_of, user_of}
use Rattle.qx_types.specs.declared.names.Actor.{Actor}
use Rattle.qx_types.specs.declared.names.Manager.{Manager}
use Rattle.qx_types.specs.declared.step.Step.{Step}
use Rattle.qx_machine.specs.declared.rows.Client.{Client}
use Rattle.qx_isolation.specs.declared.rows.Held.{Held}
use Rattle.qx_isolation.specs.declared.rows.OwnItem.{OwnItem}
use Rattle.qx_isolation.specs.declared.rows.OwnItem.TheVariants as item
use Rattle.qx_isolation.specs.declared.rows.Queued.{Queued}
use Rattle.qx_machine.specs.Inodes.{is_same_client}
use Rattle.qx_isolation.specs.Lines.{into, line_at, with_line}
use Rattle.qx_machine.specs.Machine.{World, boot, boot_parts, changed_manager, client_step, is_same_item, item_to_do, item_to_take, line_after, line_without, lines_after, own_held, performed_part, queued_item, rank, received_part, server_step, step, step_end, step_of, with_empty_hand, with_taken}
use Rattle.qx_isolation.specs.System as system
use Rattle.qx_machine.specs.Parts.{Change, Part, Put, Remove}
use Rattle.qx_isolation.specs.Rows.{row_at}
use Rattle.qx_machine.specs.Runs.{run, world_after}
use Rattle.qx_machine.specs.Users.{boot_part, client, serve, settle_part, take}
use Rattle.qx_isolation.proofs.Places.{row_at-set_other}
use Rattle.qx_isolation.proofs.Workers.{holds, server_leaves, takes}
use Rattle.qx_attr.specs.inner.Counts.{one}
use Rattle.qx_attr.proofs.CountLemmas.{count-free, within_table}
use Rattle.qx_iofunc.proofs.PlaceLemmas.{set_at}
use Rattle.qx_invariants.proofs.Counts.{count-cons}

-- the disconnect pulse of that client
abbrev pub is_pulse : Client → OwnItem → Bool
is_pulse client (item.Disconnect process server) = is_same_client (record { process = process; server = server }) client
is_pulse client _ = false

abbrev pub is_put_pulse : Client → Change → Bool
is_put_pulse client (Put manager own prio) = is_pulse client own
is_put_pulse client (Remove manager own) = false

-- how many are put
abbrev pub puts : Client → List Change → ℕ
puts client changes = count_by (is_put_pulse client) changes

-- of a user's client in a line, and in a hand
abbrev pub is_queued_pulse : ℕ → Client → Queued → Bool
is_queued_pulse user client queued = (queued.user.0 == user) && is_pulse client queued.item

abbrev pub is_held_pulse : ℕ → Client → Option Held → Bool
is_held_pulse user client None = false
is_held_pulse user client (Some held) = (held.user.0 == user) && is_pulse client held.item

-- how many name a client, in all lines and hands
abbrev pub pulses : ℕ → World → Client → ℕ
pulses user w client = sum_by (λ line. count_by (is_queued_pulse user client) line) w.lines + count_by (is_held_pulse user client) w.hands

-- ---- in a line

module _ (which : Queued → Bool) where
  abbrev count : List Queued → ℕ
  count line = count_by which line

  into-count : (line : List Queued) (new : Queued) → count (into rank line new) ≡ one (which new) + count line
  into-count [] new = count-cons which new []
  into-count (first ∷ line) new = cond_both (nat_lt (rank first) (rank new)) (new ∷ first ∷ line) (first ∷ into rank line new) (λ now. count now ≡ one (which new) + count (first ∷ line))
      (λ before. count-cons which new (first ∷ line))
      (λ after. let now = count-cons which first (into rank line new) in let was = count-cons which first line in let rest = into-count line new in omega (arith, now, was, rest))

  without-count : (user : ℕ) (own : OwnItem) (line : List Queued) → count (line_without user own line) ≤ count line
  without-count user own [] = omega arith
  without-count user own (first ∷ line) = cond_both ((first.user.0 == user) && is_same_item first.item own) line (first ∷ line_without user own line) (λ now. count now ≤ count (first ∷ line))
      (λ same. let was = count-cons which first line in omega (arith, was))
      (λ differs. let now = count-cons which first (line_without user own line) in let was = count-cons which first line in let rest = without-count user own line in omega (arith, now, was, rest))

  -- ---- in all lines

  line-sum : (lines : List (List Queued)) (number : ℕ) (change : List Queued → List Queued) (more : ℕ) → ((line : List Queued) → count (change line) ≤ count line + more) → sum_by count (with_line lines number change) ≤ sum_by count lines + more
  line-sum [] number change more few = omega arith
  line-sum (line ∷ lines) zero change more few =
      let now = sum_by-cons count (change line) lines in
      let was = sum_by-cons count line lines in
      let its = few line in
      omega (arith, now, was, its)
  line-sum (line ∷ lines) (suc number) change more few =
      let now = sum_by-cons count line (with_line lines number change) in
      let was = sum_by-cons count line lines in
      let rest = line-sum lines number change more few in
      omega (arith, now, was, rest)

  -- without the first of a line
  rest-sum : (lines : List (List Queued)) (number : ℕ) (first : Queued) (rest : List Queued) → line_at lines number ≡ first ∷ rest → sum_by count (with_line lines number (drop 1)) + one (which first) ≡ sum_by count lines
  rest-sum [] number first rest is = absurd (cc)
  rest-sum (line ∷ lines) zero first rest is =
      let now = sum_by-cons count (drop 1 line) lines in
      let was = sum_by-cons count line lines in
      let both = count-cons which first rest in
      let left : count (drop 1 line) ≡ count rest = ap (λ l. count (drop 1 l)) is in
      let all : count line ≡ count (first ∷ rest) = ap count is in
      omega (arith, now, was, both, left, all)
  rest-sum (line ∷ lines) (suc number) first rest is =
      let now = sum_by-cons count line (with_line lines number (drop 1)) in
      let was = sum_by-cons count line lines in
      let less = rest-sum lines number first rest is in
      omega (arith, now, was, less)

-- a user's changes put so many of its own
changed-own : (user : ℕ) (client : Client) (change : Change) (line : List Queued) → count_by (is_queued_pulse user client) (line_after user change line) ≤ count_by (is_queued_pulse user client) line + one (is_put_pulse client change)
changed-own user client (Put manager own prio) line =
    let now = into-count (is_queued_pulse user client) line (queued_item user own prio) in
    let its : one (is_queued_pulse user client (queued_item user own prio)) ≡ one (is_pulse client own) = ap (λ b. one (b && is_pulse client own)) (eq-eqb user user refl) in
    omega (arith, now, its)
changed-own user client (Remove manager own) line = let now = without-count (is_queued_pulse user client) user own line in omega (arith, now)

-- and none of another's
changed-other : (user other : ℕ) → user ≢ other → (client : Client) (change : Change) (line : List Queued) → count_by (is_queued_pulse other client) (line_after user change line) ≤ count_by (is_queued_pulse other client) line + 0
changed-other user other apart client (Put manager own prio) line =
    let now = into-count (is_queued_pulse other client) line (queued_item user own prio) in
    let none : one (is_queued_pulse other client (queued_item user own prio)) ≡ 0 = ap (λ b. one (b && is_pulse client own)) (ne_eqb user other apart) in
    omega (arith, now, none)
changed-other user other apart client (Remove manager own) line = let now = without-count (is_queued_pulse other client) user own line in omega (arith, now)

lines-own : (user : ℕ) (client : Client) (changes : List Change) (lines : List (List Queued))
    → sum_by (λ line. count_by (is_queued_pulse user client) line) (lines_after user lines changes) ≤ sum_by (λ line. count_by (is_queued_pulse user client) line) lines + puts client changes
lines-own user client [] lines = omega arith
lines-own user client (change ∷ changes) lines =
    let number = manager_number (changed_manager change) in
    let first = line-sum (is_queued_pulse user client) lines number (line_after user change) (one (is_put_pulse client change)) (changed-own user client change) in
    let rest = lines-own user client changes (with_line lines number (line_after user change)) in
    let all = count-cons (is_put_pulse client) change changes in
    omega (arith, first, rest, all)

lines-other : (user other : ℕ) → user ≢ other → (client : Client) (changes : List Change) (lines : List (List Queued))
    → sum_by (λ line. count_by (is_queued_pulse other client) line) (lines_after user lines changes) ≤ sum_by (λ line. count_by (is_queued_pulse other client) line) lines
lines-other user other apart client [] lines = omega arith
lines-other user other apart client (change ∷ changes) lines =
    let number = manager_number (changed_manager change) in
    let first = line-sum (is_queued_pulse other client) lines number (line_after user change) 0 (changed-other user other apart client change) in
    let rest = lines-other user other apart client changes (with_line lines number (line_after user change)) in
    omega (arith, first, rest)

-- ---- in hands

pub set-few : {A : Type 0} (which : A → Bool) (rows : List A) (n : ℕ) (row : A) → count_by which (slice_set rows n row) ≤ count_by which rows + one (which row)
set-few which [] n row = omega arith
set-few which (first ∷ rows) zero row = let now = count-cons which row rows in let was = count-cons which first rows in omega (arith, now, was)
set-few which (first ∷ rows) (suc n) row = let now = count-cons which first (slice_set rows n row) in let was = count-cons which first rows in let rest = set-few which rows n row in omega (arith, now, was, rest)

-- a worker takes an item, and does it
taken-few : (w : World) (worker : ℕ) (manager : Manager) (taken : Held) → item_to_take w worker manager ≡ Ok taken → (user : ℕ) (client : Client) → pulses user (with_taken w worker manager taken) client ≤ pulses user w client
taken-few w worker manager taken is user client =
    let t = takes w worker manager taken is in
    let line = rest-sum (is_queued_pulse user client) w.lines (manager_number manager) t.first t.rest t.line_is in
    let hand = set-few (is_held_pulse user client) w.hands worker (Some taken) in
    let same : one (is_held_pulse user client (Some taken)) ≡ one (is_queued_pulse user client t.first) = ap (λ held. one (is_held_pulse user client (Some held))) (sym t.taken_is) in
    omega (arith, line, hand, same)

emptied-same : (w : World) (worker : ℕ) (held : Held) → item_to_do w worker ≡ Ok held → (user : ℕ) (client : Client) → one (is_held_pulse user client (Some held)) + pulses user (with_empty_hand w worker) client ≡ pulses user w client
emptied-same w worker held is user client = let freed = count-free (is_held_pulse user client) refl w.hands worker held (holds w worker held is) in omega (arith, freed)

-- ---- every user's part

-- each way to change a user's part, and the pulses that name its clients, keeps the property, and fewer pulses do
pub record IsKeptWith (P : ℕ → Part → (Client → ℕ) → Type 0) : Type 0 where
  pub fewer : (user : ℕ) (part : Part) (named less : Client → ℕ) → ((own : Client) → less own ≤ named own) → P user part named → P user part less
  pub client_step : (config : Configuration) (user : ℕ) (held : List OwnItem) (part : Part) (e : Step) (named : Client → ℕ) → P user part named → P user (client config user held part e).part (λ own. named own + puts own (client config user held part e).changes)
  pub taking : (user : ℕ) (part : Part) (done : OwnItem) (named : Client → ℕ) → P user part named → P user (take part done) named
  pub serving : (config : Configuration) (user : ℕ) (held : List OwnItem) (part : Part) (done : OwnItem) (moment : ℕ) (named : Client → ℕ) → P user part (λ own. one (is_pulse own done) + named own) → P user (serve config user held part done moment).part (λ own. named own + puts own (serve config user held part done moment).changes)
  pub settling : (user : ℕ) (before : Part) (held : List OwnItem) (after : Part) (named : Client → ℕ) → P user after named → P user (settle_part before held after) named

module _ (P : ℕ → Part → (Client → ℕ) → Type 0) (keeps : IsKeptWith P) where
  abbrev pub HoldsWith : World → Type 0
  HoldsWith w = (user : ℕ) (part : Part) → row_at w.parts user ≡ Some part → P user part (pulses user w)

  fewer-hold : (w now : World) → now.parts ≡ w.parts → ((user : ℕ) (own : Client) → pulses user now own ≤ pulses user w own) → HoldsWith w → HoldsWith now
  fewer-hold w now same few h user part there = keeps.fewer user part (pulses user w) (pulses user now) (few user) (h user part (ap (λ parts. row_at parts user) (sym same) ∙ there))

  end-holds : (user : ℕ) (before after : Part) (changes : List Change) (w : World) → row_at w.parts user ≡ Some before → HoldsWith w → P user after (λ own. pulses user w own + puts own changes) → HoldsWith (step_end user before after changes w)
  end-holds user before after changes w is h own other part there =
      let settled = settle_part before (own_held user w.hands) after in
      let now : World = step_end user before after changes w in
      elim (cases_eq other user) [
        | inl same ↦
            let put : settled ≡ part = same_Some _ _ (sym (set_at w.parts user settled (within_table w.parts user before is)) ∙ (ap (row_at now.parts) (sym same) ∙ there)) in
            subst (λ n. P n part (pulses n now)) (sym same) (subst (λ p. P user p (pulses user now)) put
            (keeps.fewer user settled (λ client. pulses user w client + puts client changes) (pulses user now) (λ client. let few = lines-own user client changes w.lines in omega (arith, few)) (keeps.settling user before (own_held user w.hands) after _ own)))
        | inr apart ↦
            keeps.fewer other part (pulses other w) (pulses other now) (λ client. let few = lines-other user other (λ e. apart (sym e)) client changes w.lines in omega (arith, few)) (h other part (sym (row_at-set_other w.parts user other (Some settled) apart) ∙ there))
      ]

  client-holds : (w : World) (user : ℕ) (e : Step) (row : Option Part) → row_at w.parts user ≡ row → HoldsWith w → HoldsWith (client_step w user e row).world
  client-holds w user e None is h = h
  client-holds w user e (Some part) is h =
      let given = client w.config user (own_held user w.hands) part e in
      end-holds user part given.part given.changes w is h (keeps.client_step w.config user (own_held user w.hands) part e (pulses user w) (h user part is))

  received-holds : (w : World) (taken : Held) (row : Option Part) → row_at w.parts taken.user.0 ≡ row → HoldsWith w → HoldsWith (received_part w taken row)
  received-holds w taken None is h = h
  received-holds w taken (Some part) is h =
      let user = taken.user.0 in
      end-holds user part (take part taken.item) [] w is h (keeps.fewer user (take part taken.item) (pulses user w) (λ own. pulses user w own + 0) (λ own. omega arith) (keeps.taking user part taken.item (pulses user w) (h user part is)))

  -- the item has left the hand
  performed-holds : (w emptied : World) (held : Held) (moment : ℕ) (row : Option Part) → row_at emptied.parts held.user.0 ≡ row → emptied.parts ≡ w.parts → ((user : ℕ) (own : Client) → one (is_held_pulse user own (Some held)) + pulses user emptied own ≡ pulses user w own) → HoldsWith w → HoldsWith (performed_part emptied held moment row)
  performed-holds w emptied held moment None is same count h = fewer-hold w emptied same (λ user own. let all = count user own in omega (arith, all)) h
  performed-holds w emptied held moment (Some part) is same count h =
      let user = held.user.0 in
      let given = serve emptied.config user (own_held user emptied.hands) part held.item moment in
      let its : (own : Client) → one (is_pulse own held.item) + pulses user emptied own ≤ pulses user w own = λ own.
      let all = count user own in
      let one_is : one (is_held_pulse user own (Some held)) ≡ one (is_pulse own held.item) = ap (λ b. one (b && is_pulse own held.item)) (eq-eqb user user refl) in
      omega (arith, all, one_is) in
      end-holds user part given.part given.changes emptied is (fewer-hold w emptied same (λ other own. let all = count other own in omega (arith, all)) h)
      (keeps.serving emptied.config user (own_held user emptied.hands) part held.item moment (pulses user emptied) (keeps.fewer user part (pulses user w) (λ own. one (is_pulse own held.item) + pulses user emptied own) its (h user part (ap (λ parts. row_at parts user) (sym same) ∙ is))))

  server-holds : (w : World) (e : Step) → HoldsWith w → HoldsWith (server_step w e).world
  server-holds w e h = server_leaves w e HoldsWith h
      (λ worker manager taken is. received-holds (with_taken w worker manager taken) taken (row_at w.parts taken.user.0) refl (fewer-hold w (with_taken w worker manager taken) refl (taken-few w worker manager taken is) h))
      (λ worker moment held is. performed-holds w (with_empty_hand w worker) held moment (row_at w.parts held.user.0) refl refl (emptied-same w worker held is) h)

  step_of-holds : (w : World) (e : Step) (actor : Option Actor) → HoldsWith w → HoldsWith (step_of w e actor).world
  step_of-holds w e None h = server-holds w e h
  step_of-holds w e (Some actor) h = client-holds w (user_of actor) e (row_at w.parts (user_of actor)) refl h

  step-holds : (w : World) (e : Step) → HoldsWith w → HoldsWith (step w e).world
  unfolding step
  step-holds w e h = step_of-holds w e (actor_of e) h

  after-holds : (w : World) (steps : List Step) → HoldsWith w → HoldsWith (world_after w steps)
  after-holds w [] h = h
  after-holds w (e ∷ steps) h = after-holds (step w e).world steps (step-holds w e h)

  -- ---- from boot

  module _ (config : Configuration) (starts : (user : ℕ) → P user (boot_part config user) (λ own. 0)) where
    boot-parts-hold : (first : ℕ) (names : List (List ℕ)) (place : ℕ) (part : Part) → row_at (boot_parts config first names) place ≡ Some part → P (first + place) part (λ own. 0)
    boot-parts-hold first [] place part there = absurd (cc)
    boot-parts-hold first (name ∷ names) zero part there = subst (λ user. P user part (λ own. 0)) (omega arith) (subst (λ p. P first p (λ own. 0)) (same_Some _ _ there) (starts first))
    boot-parts-hold first (name ∷ names) (suc place) part there = subst (λ user. P user part (λ own. 0)) (omega arith) (boot-parts-hold (first + 1) names place part there)

    -- nothing stands in lines, and nothing is in a hand
    boot-none : (user : ℕ) (own : Client) → pulses user (boot config) own ≡ 0
    unfolding system.boot
    boot-none user own =
        let lines = sum_by-replicate (λ line. count_by (is_queued_pulse user own) line) manager_count [] in
        let hands = none_held config.workers in
        let first = count-cons (is_held_pulse user own) None (replicate config.workers None) in
        omega (arith, lines, hands, first)
      where
        none_held : (count : ℕ) → count_by (is_held_pulse user own) (replicate count None) ≡ 0
        none_held zero = refl
        none_held (suc count) = let first = count-cons (is_held_pulse user own) None (replicate count None) in let rest = none_held count in omega (arith, first, rest)

    boot-place : (user : ℕ) (part : Part) → row_at (boot config).parts user ≡ Some part → P user part (λ own. 0)
    unfolding system.boot
    boot-place zero part there = absurd (cc)
    boot-place (suc place) part there = subst (λ user. P user part (λ own. 0)) (omega arith) (boot-parts-hold 1 config.users place part there)

    boot-holds : HoldsWith (boot config)
    boot-holds user part there = keeps.fewer user part (λ own. 0) (pulses user (boot config)) (λ own. let none = boot-none user own in omega (arith, none)) (boot-place user part there)

    -- in each world that a run reaches
    pub run-holds-with : (steps : List Step) → HoldsWith (run config steps).world
    run-holds-with steps = after-holds (boot config) steps boot-holds
