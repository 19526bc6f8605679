-- What a process uses and loses as something is attached to a manager, or goes from there.
use Rattle.std.proofs.Common.{inl, inr, ◌≡◌, ◌≢◌, ◌<◌, ◌+◌, ℕ, zero, suc, List, [], ◌∷◌, ◌++◌, length, get_or, replicate, set, refl, sym, ap, ◌∙◌, arith, Bool, true, false, Option, Some, None, IfSome, subst}
use Rattle.std.specs.Prelude.{◌||◌, ◌&&◌, ◌==◌, is_some, not}
use Rattle.std.specs.List.{flat_map, list_any}
use Rattle.std.specs.Option.{option_to_list}
use Rattle.std.proofs.Math.Bool.{and-true, or-true}
use Rattle.std.proofs.lemmas.Bool.{false≢true}
use Rattle.std.proofs.lemmas.Bool.Decides.{eqb_tells}
use Rattle.std.proofs.lemmas.List.{append-nil, length-set, set-get_or}
use Rattle.std.proofs.lemmas.Grind.{common_steps}
use Rattle.qx_types.specs.Managers.{manager_count, manager_number, managers}
use Rattle.qx_types.specs.declared.names.Manager.{Manager}
use Rattle.qx_machine.specs.declared.rows.Connection.{Connection}
use Rattle.qx_isolation.specs.declared.rows.ServerName.{ServerName}
use Rattle.qx_isolation.specs.Lines.{line_at, with_line}
use Rattle.qx_machine.specs.Processes.{Process, no_sides, servers_at}
use Rattle.qx_isolation.specs.Rows.{put_row, row_at}
use Rattle.qx_machine.specs.Servers.{Servers, connects, no_servers, in_use, is_attached, lost_by, servers_from, servers_while, sides_with}
use Rattle.qx_process.specs.Reads.{Loses, Uses, is_at, is_served}
use Rattle.qx_types.proofs.Managers.{at_one, number_below}
use Rattle.qx_rows.proofs.RowLemmas.{row_at-get_or}
use Rattle.qx_process.proofs.ServerLemmas.{any_put, any_put_same, any_set_fewer, any_set_more, any_set_same, differs_by, line_at-here, line_at-other, servers_from_again, servers_from_at, served_while, some-while}

connects_other : (number : ℕ) (connection : Connection) → number ≢ manager_number connection.manager → connects number (Some connection) ≡ false
connects_other number connection differs = differs_by number (manager_number connection.manager) differs

sides_other : (number : ℕ) (manager : Manager) → number ≢ manager_number manager → sides_with number (Some manager) ≡ false
sides_other number manager differs = differs_by number (manager_number manager) differs

same_number : (number : ℕ) → (number == number) ≡ true
same_number number = grind (arith, common_steps)

-- ---- what is attached elsewhere stays

pub put_elsewhere : (connections : List (Option Connection)) (sides : List (Option Manager)) (coid : ℕ) (connection : Connection) → row_at connections coid ≡ None
    → (number : ℕ) → number ≢ manager_number connection.manager → is_attached number (put_row connections coid connection) sides ≡ is_attached number connections sides
put_elsewhere connections sides coid connection free number differs =
    ap (λ b. b || list_any (sides_with number) sides) (any_put_same (connects number) connections coid connection free refl (connects_other number connection differs))

pub freed_elsewhere : (connections : List (Option Connection)) (sides : List (Option Manager)) (coid : ℕ) (connection : Connection) → row_at connections coid ≡ Some connection
    → (number : ℕ) → number ≢ manager_number connection.manager → is_attached number (set connections coid None) sides ≡ is_attached number connections sides
freed_elsewhere connections sides coid connection here number differs =
    ap (λ b. b || list_any (sides_with number) sides)
    (any_set_same (connects number) connections coid None None (sym (connects_other number connection differs) ∙ ap (connects number) (sym here ∙ row_at-get_or connections coid)))

pub side_elsewhere : (connections : List (Option Connection)) (sides : List (Option Manager)) (thread : ℕ) (manager : Manager) → row_at sides thread ≡ None
    → (number : ℕ) → number ≢ manager_number manager → is_attached number connections (set sides thread (Some manager)) ≡ is_attached number connections sides
side_elsewhere connections sides thread manager free number differs =
    ap (λ b. list_any (connects number) connections || b)
    (any_set_same (sides_with number) sides thread (Some manager) None (sides_other number manager differs ∙ ap (sides_with number) (sym free ∙ row_at-get_or sides thread)))

pub side_freed_elsewhere : (connections : List (Option Connection)) (sides : List (Option Manager)) (thread : ℕ) (manager : Manager) → row_at sides thread ≡ Some manager
    → (number : ℕ) → number ≢ manager_number manager → is_attached number connections (set sides thread None) ≡ is_attached number connections sides
side_freed_elsewhere connections sides thread manager here number differs =
    ap (λ b. list_any (connects number) connections || b)
    (any_set_same (sides_with number) sides thread None None (sym (sides_other number manager differs) ∙ ap (sides_with number) (sym here ∙ row_at-get_or sides thread)))

-- what is not there doesn't go
pub nothing_freed : {A : Type 0} (rows : List (Option A)) (number : ℕ) → row_at rows number ≡ None → set rows number None ≡ rows
nothing_freed rows number none = ap (set rows number) (sym none ∙ row_at-get_or rows number) ∙ set-get_or rows number None

-- ---- more is attached, or less

either_more : (a b c d : Bool) → (a ≡ true → c ≡ true) → (b ≡ true → d ≡ true) → (a || b) ≡ true → (c || d) ≡ true
either_more true b c d one two is = grind (arith, common_steps, one refl)
either_more false b c d one two is = grind (arith, common_steps, two is)

pub side_more : (connections : List (Option Connection)) (sides : List (Option Manager)) (thread number : ℕ) (side : Option Manager) → row_at sides thread ≡ None
    → is_attached number connections sides ≡ true → is_attached number connections (set sides thread side) ≡ true
side_more connections sides thread number side free =
    either_more (list_any (connects number) connections) _ _ _ (λ is. is)
    (any_set_more (sides_with number) sides thread side None (ap (sides_with number) (sym (row_at-get_or sides thread) ∙ free)))

pub freed_fewer : (connections : List (Option Connection)) (sides : List (Option Manager)) (coid number : ℕ) → is_attached number (set connections coid None) sides ≡ true → is_attached number connections sides ≡ true
freed_fewer connections sides coid number =
    either_more _ (list_any (sides_with number) sides) _ _ (any_set_fewer (connects number) connections coid None refl) (λ is. is)

pub side_fewer : (connections : List (Option Connection)) (sides : List (Option Manager)) (thread number : ℕ) → is_attached number connections (set sides thread None) ≡ true → is_attached number connections sides ≡ true
side_fewer connections sides thread number =
    either_more (list_any (connects number) connections) _ _ _ (λ is. is) (any_set_fewer (sides_with number) sides thread None refl)

-- a new connection is attached to its manager
pub put_here : (connections : List (Option Connection)) (sides : List (Option Manager)) (coid : ℕ) (connection : Connection) → is_attached (manager_number connection.manager) (put_row connections coid connection) sides ≡ true
put_here connections sides coid connection =
    ap (λ b. b || list_any (sides_with (manager_number connection.manager)) sides) (any_put (connects (manager_number connection.manager)) connections coid connection (same_number (manager_number connection.manager)))

-- nothing is attached in a new process
pub new-settled : (count number : ℕ) → replicate count no_servers ≡ servers_from (λ number. is_attached number (None ∷ None ∷ None ∷ []) no_sides) number (replicate count no_servers)
new-settled zero number = refl
new-settled (suc count) number = ap (λ rest. no_servers ∷ rest) (new-settled count (number + 1))

-- ---- the one that is lost

pub same_lost : (manager : Manager) (number : Option ℕ) → lost_by manager number number ≡ []
same_lost manager None = refl
same_lost manager (Some number) = refl

none_lost : (some : List Manager) (used : Manager → Option ℕ) → flat_map (λ one. lost_by one (used one) (used one)) some ≡ []
none_lost [] used = refl
none_lost (one ∷ some) used = rw (same_lost one (used one)) (none_lost some used)

-- none is lost where the server connections stay
pub loses-none : (old new : Process) → new.servers ≡ old.servers → Loses None old new
loses-none old new same = record {
  lost_is = (λ i. flat_map (λ one. lost_by one (in_use (line_at old.servers (manager_number one))) (in_use (line_at (same i) (manager_number one)))) managers) ∙ none_lost managers (λ one. in_use (servers_at one old));
  was_used = tt;
  uses = λ one. ap (λ servers. is_some (in_use (line_at servers (manager_number one)))) same ∙ sym (and-true _);
}

only_lost : (manager : Manager) (before after : Manager → Option ℕ) → ((other : Manager) → manager_number other ≢ manager_number manager → after other ≡ before other)
    → flat_map (λ one. lost_by one (before one) (after one)) managers ≡ lost_by manager (before manager) (after manager)
only_lost manager before after others =
    let each : Manager → List ServerName = λ one. lost_by one (before one) (after one) in
    at_one (flat_map each) (λ one rest. each one ++ rest) (λ one rest. refl) manager (λ other rest differs. rw (others other differs, same_lost other (before other)) refl) ∙ append-nil (each manager)

at_other : (manager other : Manager) (before after : Option ℕ) (lost : Option ServerName) → manager_number other ≢ manager_number manager → option_to_list lost ≡ lost_by manager before after → is_at other lost ≡ false
at_other manager other before after None differs is = refl
at_other manager other (Some number) None (Some server) differs is =
    let same : server ≡ record { manager = manager; number = number } = cc in
    ap (λ name. is_at other (Some name)) same ∙ differs_by (manager_number other) (manager_number manager) differs
at_other manager other (Some number) (Some next) (Some server) differs is = absurd (cc)
at_other manager other None after (Some server) differs is = absurd (cc)

at_here : (manager one : Manager) (before after : Option ℕ) (lost : Option ServerName) → manager_number one ≡ manager_number manager → option_to_list lost ≡ lost_by manager before after
    → (is_some after ≡ true → is_some before ≡ true) → is_some after ≡ (is_some before && not (is_at one lost))
at_here manager one (Some number) None (Some server) same is fewer =
    let name : server ≡ record { manager = manager; number = number } = cc in
    let at : is_at one (Some server) ≡ true = ap (λ name. is_at one (Some name)) name ∙ ap (λ n. manager_number manager == n) same ∙ same_number (manager_number manager) in
    rw at refl
at_here manager one (Some number) None None same is fewer = absurd (cc)
at_here manager one (Some number) (Some next) None same is fewer = refl
at_here manager one (Some number) (Some next) (Some server) same is fewer = absurd (cc)
at_here manager one None None lost same is fewer = refl
at_here manager one None (Some next) lost same is fewer = absurd (false≢true (fewer refl))

-- the one that is lost was in use
lost_used : (manager : Manager) (before after : Option ℕ) (lost : Option ServerName) (Holds : Manager → Type 0) → (is_some before ≡ true → Holds manager) → option_to_list lost ≡ lost_by manager before after → IfSome lost (λ server. Holds server.manager)
lost_used manager before after None Holds used is = tt
lost_used manager (Some number) None (Some server) Holds used is =
    let same : server ≡ record { manager = manager; number = number } = cc in
    subst (λ name. Holds name.manager) (sym same) (used refl)
lost_used manager (Some number) (Some next) (Some server) Holds used is = absurd (cc)
lost_used manager None after (Some server) Holds used is = absurd (cc)

-- ---- what becomes of the server connections

module _ (manager : Manager) (all : List Servers) (before after : ℕ → Bool) (count : length all ≡ manager_count) (settled : all ≡ servers_from before 0 all) (elsewhere : (number : ℕ) → number ≢ manager_number manager → after number ≡ before number) where
  here : manager_number manager < length all
  here = let within = number_below manager in omega (arith, within, count)

  pub one_changes : servers_from after 0 all ≡ with_line all (manager_number manager) (servers_while (after (manager_number manager)))
  one_changes =
      let same : 0 + manager_number manager ≡ manager_number manager = omega arith in
      servers_from_at after before 0 (manager_number manager) all here (λ other differs. elsewhere other (λ is. differs (is ∙ sym same))) settled
      ∙ ap (λ number. with_line all (manager_number manager) (servers_while (after number))) same

  pub settled_again : with_line all (manager_number manager) (servers_while (after (manager_number manager))) ≡ servers_from after 0 (with_line all (manager_number manager) (servers_while (after (manager_number manager))))
  settled_again = rw (← one_changes) (sym (servers_from_again after 0 all))

  now_served : is_some (in_use (line_at (with_line all (manager_number manager) (servers_while (after (manager_number manager)))) (manager_number manager))) ≡ after (manager_number manager)
  now_served = ap (λ servers. is_some (in_use servers)) (line_at-here all (manager_number manager) (servers_while (after (manager_number manager))) here) ∙ some-while (after (manager_number manager)) (line_at all (manager_number manager))

  pub uses : (old new : Process) → old.servers ≡ all → new.servers ≡ with_line all (manager_number manager) (servers_while (after (manager_number manager))) → (before (manager_number manager) ≡ true → after (manager_number manager) ≡ true) → Uses manager old new
  uses old new was is more = record {
    here = λ served.
        ap (λ servers. is_some (in_use (line_at servers (manager_number manager)))) is ∙ now_served
        ∙ more (sym (served_while before (manager_number manager) all here settled) ∙ ap (λ servers. is_some (in_use (line_at servers (manager_number manager)))) (sym was) ∙ served);
    others = λ other differs.
        ap (λ servers. is_some (in_use (line_at servers (manager_number other)))) is
        ∙ ap (λ servers. is_some (in_use servers)) (line_at-other all (manager_number manager) (manager_number other) (servers_while (after (manager_number manager))) differs)
        ∙ ap (λ servers. is_some (in_use (line_at servers (manager_number other)))) (sym was);
  }

  pub loses : (old new : Process) (lost : Option ServerName) → old.servers ≡ all → new.servers ≡ with_line all (manager_number manager) (servers_while (after (manager_number manager)))
      → option_to_list lost ≡ lost_by manager (in_use (servers_at manager old)) (in_use (servers_at manager new)) → (after (manager_number manager) ≡ true → before (manager_number manager) ≡ true) → Loses lost old new
  loses old new lost was is gives fewer =
      let elsewhere_same : (other : Manager) → manager_number other ≢ manager_number manager → in_use (servers_at other new) ≡ in_use (servers_at other old) = λ other differs.
      ap (λ servers. in_use (line_at servers (manager_number other))) is
      ∙ ap in_use (line_at-other all (manager_number manager) (manager_number other) (servers_while (after (manager_number manager))) differs)
      ∙ ap (λ servers. in_use (line_at servers (manager_number other))) (sym was) in
      let served : is_served manager new ≡ after (manager_number manager) = ap (λ servers. is_some (in_use (line_at servers (manager_number manager)))) is ∙ now_served in
      let served_before : is_served manager old ≡ before (manager_number manager) =
      ap (λ servers. is_some (in_use (line_at servers (manager_number manager)))) was ∙ served_while before (manager_number manager) all here settled in
      record {
        lost_is = only_lost manager (λ one. in_use (servers_at one old)) (λ one. in_use (servers_at one new)) elsewhere_same ∙ sym gives;
        was_used = lost_used manager (in_use (servers_at manager old)) (in_use (servers_at manager new)) lost (λ one. is_served one old ≡ true) (λ used. used) gives;
        uses = λ one. elim (eqb_tells (manager_number one) (manager_number manager)) [
          | inl (is_one, same) ↦
              rw (ap (line_at new.servers) same, ap (line_at old.servers) same)
              (at_here manager one _ _ lost same gives (λ still. served_before ∙ fewer (sym served ∙ still)))
          | inr (is_not, differs) ↦
              let off = at_other manager one _ _ lost differs gives in
              rw (elsewhere_same one differs, off) (sym (and-true _))
        ];
      }

  pub stays_settled : (new : List Servers) → new ≡ with_line all (manager_number manager) (servers_while (after (manager_number manager))) → (new ≡ servers_from after 0 new) × (length new ≡ manager_count)
  stays_settled new is = rw is (settled_again, length-set all (manager_number manager) _ ∙ count)

-- ---- a connection that is there

any_there : {A : Type 0} (p : Option A → Bool) (connections : List (Option A)) (coid : ℕ) → p None ≡ false → p (get_or connections coid None) ≡ true → list_any p connections ≡ true
any_there p [] coid none is = absurd (false≢true (sym none ∙ is))
any_there p (place ∷ connections) zero none is = ap (λ b. b || list_any p connections) is
any_there p (place ∷ connections) (suc coid) none is = ap (λ b. p place || b) (any_there p connections coid none is) ∙ or-true (p place)

-- its manager is served
pub connection_served : (process : Process) (coid : ℕ) (connection : Connection) → process.servers ≡ servers_from (λ number. is_attached number process.connections process.sides) 0 process.servers → length process.servers ≡ manager_count
    → row_at process.connections coid ≡ Some connection → is_served connection.manager process ≡ true
connection_served process coid connection settled count is =
    let number = manager_number connection.manager in
    let within = number_below connection.manager in
    let place : length process.servers ≡ manager_count = count in
    let there : connects number (get_or process.connections coid None) ≡ true = ap (connects number) (sym (row_at-get_or process.connections coid) ∙ is) ∙ same_number number in
    served_while (λ number. is_attached number process.connections process.sides) number process.servers (omega (arith, within, place)) settled
    ∙ ap (λ b. b || list_any (sides_with number) process.sides) (any_there (connects number) process.connections coid refl there)

pub side_served : (process : Process) (thread : ℕ) (manager : Manager) → process.servers ≡ servers_from (λ number. is_attached number process.connections process.sides) 0 process.servers → length process.servers ≡ manager_count
    → row_at process.sides thread ≡ Some manager → is_served manager process ≡ true
side_served process thread manager settled count is =
    let number = manager_number manager in
    let within = number_below manager in
    let place : length process.servers ≡ manager_count = count in
    let there : sides_with number (get_or process.sides thread None) ≡ true = ap (sides_with number) (sym (row_at-get_or process.sides thread) ∙ is) ∙ same_number number in
    served_while (λ number. is_attached number process.connections process.sides) number process.servers (omega (arith, within, place)) settled
    ∙ ap (λ b. list_any (connects number) process.connections || b) (any_there (sides_with number) process.sides thread refl there) ∙ or-true _
