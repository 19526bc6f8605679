-- Server connections that were left, and the disconnect pulses of those that a process loses.
use Rattle.std.proofs.Common.{◌≡◌, ◌≢◌, ◌⊎◌, inl, inr, ℕ, ◌+◌, ◌≤◌, ◌==◌, Bool, true, false, List, [], ◌∷◌, map, refl, sym, ap, ◌∙◌, arith}
use Rattle.std.specs.Prelude.{◌&&◌, not, Option, Some, None, is_some, option_map, take}
use Rattle.std.specs.List.{count_by, flat_map}
use Rattle.std.proofs.lemmas.Bool.{cond_both, ne_eqb}
use Rattle.std.proofs.lemmas.List.Sums.{sum_by-append, sum_by-take-le}
use Rattle.qx_types.specs.Managers.{manager_number}
use Rattle.qx_types.specs.declared.names.Manager.{Manager}
use Rattle.qx_types.proofs.Managers.{at_one}
use Rattle.qx_machine.specs.declared.rows.Client.{Client}
use Rattle.qx_machine.specs.declared.rows.ServerConnection.{ServerConnection}
use Rattle.qx_isolation.specs.declared.rows.ServerName.{ServerName}
use Rattle.qx_machine.specs.Inodes.{is_same_client}
use Rattle.qx_machine.specs.Parts.{disconnect}
use Rattle.qx_machine.specs.Processes.{Process, lost_servers, servers_at}
use Rattle.qx_isolation.specs.Rows.{lowest_from, put_row, row_at}
use Rattle.qx_machine.specs.Servers.{Servers, in_use, is_in_use, is_left, leaving, lost_by, new_server, servers_while}
use Rattle.qx_isolation.proofs.Places.{at-map, lowest_from_free}
use Rattle.qx_attr.specs.inner.Counts.{one}
use Rattle.qx_attr.proofs.TableLemmas.{row-put}
use Rattle.qx_process.proofs.ServerLemmas.{some-while}
use Rattle.qx_invariants.proofs.Clients.{same_client}
use Rattle.qx_invariants.proofs.Counts.{count-cons, count-map}
use Rattle.qx_invariants.proofs.Items.{is_put_pulse, puts}
use Rattle.qx_invariants.proofs.Served.{IsResettled, IsServed, attached, in_use_there, resettled_at}

-- a server connection of a process was left
abbrev pub left_of : ServerName → Option Process → Bool
left_of server None = false
left_of server (Some process) = is_left (row_at (servers_at server.manager process) server.number)

abbrev pub is_left_at : List (Option Process) → Client → Bool
is_left_at processes client = left_of client.server (row_at processes client.process)

-- ---- one manager's

left_leaving : (row : Option ServerConnection) → is_some row ≡ true → is_left (option_map leaving row) ≡ true
left_leaving None there = absurd (cc)
left_leaving (Some server) there = refl

pub left_there : (row : Option ServerConnection) → is_left row ≡ true → is_some row ≡ true
left_there None left = absurd (cc)
left_there (Some server) left = refl

pub used_not_left : (row : Option ServerConnection) → is_in_use row ≡ true → is_left row ≡ false
used_not_left None used = absurd (cc)
used_not_left (Some server) used = by server.is_leaving used
  where
    by : (b : Bool) → not b ≡ true → b ≡ false
    by true is = absurd (cc)
    by false is = refl

-- one that was left stays so
while_left : (attaches : Bool) (servers : Servers) (number : ℕ) → is_left (row_at servers number) ≡ true → is_left (row_at (servers_while attaches servers) number) ≡ true
while_left false servers number left = ap is_left (at-map (option_map leaving) servers number None None refl) ∙ left_leaving (row_at servers number) (left_there (row_at servers number) left)
while_left true servers number left = cond_both (is_some (in_use servers)) servers (put_row servers (lowest_from 1 servers) new_server) (λ now. is_left (row_at now number) ≡ true) (λ used. left)
    (λ unused. elim (row-put servers (lowest_from 1 servers) new_server (lowest_from_free 1 servers) number) [
      | inl same ↦ ap is_left same ∙ left
      | inr new ↦ let clash : false ≡ true = ap is_left (sym new.1) ∙ left in absurd (cc)
    ])

-- one that was in use is left where none is any more
while_lost : (attaches : Bool) (servers : Servers) (number : ℕ) → in_use servers ≡ Some number → in_use (servers_while attaches servers) ≡ None → is_left (row_at (servers_while attaches servers) number) ≡ true
while_lost false servers number used none = ap is_left (at-map (option_map leaving) servers number None None refl) ∙ left_leaving (row_at servers number) (in_use_there servers number used).1
while_lost true servers number used none = let clash : false ≡ true = ap is_some (sym none) ∙ some-while true servers in absurd (cc)

-- ---- the pulses

module _ (number : ℕ) (client : Client) where
  abbrev is_its : ServerName → Bool
  is_its server = is_same_client (record { process = number; server = server }) client

  puts-map : (prio : ℕ) (lost : List ServerName) → puts client (map (disconnect prio number) lost) ≡ count_by is_its lost
  puts-map prio lost = count-map (is_put_pulse client) is_its (disconnect prio number) (λ server. refl) lost

  -- of another process none is named
  others_none : (lost : List ServerName) → number ≢ client.process → count_by is_its lost ≡ 0
  others_none [] apart = refl
  others_none (server ∷ lost) apart =
      let all = count-cons is_its server lost in
      let none : one (is_its server) ≡ 0 = ap (λ b. one ((b && (manager_number server.manager == manager_number client.server.manager)) && (server.number == client.server.number))) (ne_eqb number client.process apart) in
      let rest = others_none lost apart in
      omega (arith, all, none, rest)

  pub puts_others : (prio : ℕ) (lost : List ServerName) → number ≢ client.process → puts client (map (disconnect prio number) lost) ≡ 0
  puts_others prio lost apart = puts-map prio lost ∙ others_none lost apart

  -- at one manager the client's is not named, or once, and then it was in use and is not
  abbrev IsLostOnce : Manager → Option ℕ → Option ℕ → Type 0
  IsLostOnce manager used now = (count_by is_its (lost_by manager used now) ≡ 0) ⊎ ((count_by is_its (lost_by manager used now) ≡ 1) × (manager ≡ client.server.manager) × (used ≡ Some client.server.number) × (now ≡ None))

  lost_one : (manager : Manager) (used now : Option ℕ) → IsLostOnce manager used now
  lost_one manager (Some n) None = by (is_its (record { manager = manager; number = n })) refl
    where
      by : (b : Bool) → is_its (record { manager = manager; number = n }) ≡ b → IsLostOnce manager (Some n) None
      by false is = inl (count-cons is_its (record { manager = manager; number = n }) [] ∙ ap (λ b. one b + 0) is)
      by true is =
          let same = same_client (record { process = number; server = record { manager = manager; number = n } }) client is in
          inr (count-cons is_its (record { manager = manager; number = n }) [] ∙ ap (λ b. one b + 0) is, same.manager, ap Some same.number, refl)
  lost_one manager (Some n) (Some m) = inl refl
  lost_one manager None now = inl refl

  module _ (process now : Process) where
    abbrev used_before : Manager → Option ℕ
    used_before manager = in_use (servers_at manager process)

    abbrev used_now : Manager → Option ℕ
    used_now manager = in_use (servers_at manager now)

    abbrev lost_at : Manager → List ServerName
    lost_at manager = lost_by manager (used_before manager) (used_now manager)

    -- of all that it loses only what it loses at the client's manager is the client's
    lost_own : count_by is_its (lost_servers process now) ≡ count_by is_its (lost_at client.server.manager)
    lost_own = at_one (λ some. count_by is_its (flat_map lost_at some)) (λ manager told. count_by is_its (lost_at manager) + told)
        (λ manager rest. sum_by-append (λ server. one (is_its server)) (lost_at manager) (flat_map lost_at rest)) client.server.manager
        (λ other told apart. elim (lost_one other (used_before other) (used_now other)) [ inl none ↦ omega (arith, none) | inr its ↦ absurd (apart (ap manager_number its.1)) ])
        ∙ omega arith

    -- each that is lost is left, and was in use
    module _ (again : IsResettled process now) (h : IsServed process) where
      abbrev attaches : Bool
      attaches = attached now (manager_number client.server.manager)

      at_now : servers_at client.server.manager now ≡ servers_while attaches (servers_at client.server.manager process)
      at_now = resettled_at process now again h client.server.manager

      still_left : left_of client.server (Some process) ≡ true → left_of client.server (Some now) ≡ true
      still_left left = ap (λ servers. is_left (row_at servers client.server.number)) at_now ∙ while_left attaches (servers_at client.server.manager process) client.server.number left

      more_left : one (left_of client.server (Some process)) ≤ one (left_of client.server (Some now))
      more_left = by (left_of client.server (Some process)) refl
        where
          by : (b : Bool) → left_of client.server (Some process) ≡ b → one b ≤ one (left_of client.server (Some now))
          by true is = let now_is : one (left_of client.server (Some now)) ≡ 1 = ap one (still_left is) in omega (arith, now_is)
          by false is = omega arith

      lost_all : count_by is_its (lost_servers process now) + one (left_of client.server (Some process)) ≤ one (left_of client.server (Some now))
      lost_all = by (lost_one client.server.manager (used_before client.server.manager) (used_now client.server.manager))
        where
          by : IsLostOnce client.server.manager (used_before client.server.manager) (used_now client.server.manager) → count_by is_its (lost_servers process now) + one (left_of client.server (Some process)) ≤ one (left_of client.server (Some now))
          by (inl none) = omega (arith, lost_own, none, more_left)
          by (inr lost) =
              let before : one (left_of client.server (Some process)) ≡ 0 = ap one (used_not_left (row_at (servers_at client.server.manager process) client.server.number) (in_use_there (servers_at client.server.manager process) client.server.number lost.2).0) in
              let left = while_lost attaches (servers_at client.server.manager process) client.server.number lost.2 (ap in_use (sym at_now) ∙ lost.3) in
              let now_is : one (left_of client.server (Some now)) ≡ 1 = ap one (ap (λ servers. is_left (row_at servers client.server.number)) at_now ∙ left) in
              omega (arith, lost_own, lost.0, before, now_is)

      pub lost_left : (prio : ℕ) → puts client (map (disconnect prio number) (lost_servers process now)) + one (left_of client.server (Some process)) ≤ one (left_of client.server (Some now))
      lost_left prio = let named = puts-map prio (lost_servers process now) in let all = lost_all in omega (arith, named, all)

      pub lost_left_once : (prio : ℕ) → puts client (map (disconnect prio number) (take 1 (lost_servers process now))) + one (left_of client.server (Some process)) ≤ one (left_of client.server (Some now))
      lost_left_once prio =
          let named = puts-map prio (take 1 (lost_servers process now)) in
          let few = sum_by-take-le (λ server. one (is_its server)) (lost_servers process now) 1 in
          let all = lost_all in
          omega (arith, named, few, all)

      pub none_lost : one (left_of client.server (Some process)) ≤ one (left_of client.server (Some now))
      none_lost = more_left
