-- Server connections stand and fall with what is attached.
use Rattle.std.proofs.Common.{◌≡◌, ◌≢◌, ◌<◌, ◌+◌, ◌≤◌, ℕ, zero, suc, List, [], ◌∷◌, length, get_or, map, refl, sym, ap, ◌∙◌, arith, Bool, true, false, Option, Some, None, cond}
use Rattle.std.specs.Prelude.{◌||◌, ◌==◌, if◌then◌else◌, is_some, nat_lt, not, option_map, position, set}
use Rattle.std.specs.List.{list_any, position_or_len}
use Rattle.std.proofs.Math.Bool.{or-true}
use Rattle.std.proofs.lemmas.Bool.{cond_both, eqb-true, false≢true}
use Rattle.std.proofs.lemmas.Grind.{common_steps}
use Rattle.std.proofs.lemmas.List.{get_or-set_other, get_or-set_same, length-set}
use Rattle.std.proofs.lemmas.Option.{unwrap_or-slice_get}
use Rattle.std.proofs.lemmas.List.Folds.{list_any-append, position_or_len-set}
use Rattle.std.proofs.lemmas.List.Sums.{position_or_len_is}
use Rattle.qx_types.specs.declared.names.Manager.{Manager}
use Rattle.qx_machine.specs.declared.rows.Connection.{Connection}
use Rattle.qx_machine.specs.declared.rows.ServerConnection.{ServerConnection}
use Rattle.qx_isolation.specs.Lines.{line_at, with_line}
use Rattle.qx_isolation.specs.Rows.{lowest_from, put_row, row_at, with_row}
use Rattle.qx_machine.specs.Servers.{Servers, connects, in_use, is_attached, is_in_use, is_left, leaving, new_server, servers_from, servers_while, sides_with, without_left}
use Rattle.qx_rows.proofs.RowLemmas.{row_at-get_or}

-- ---- the one in use

position_lt : {A : Type 0} (p : A → Bool) (xs : List A) → nat_lt (position_or_len p xs) (length xs) ≡ list_any p xs
position_lt p [] = refl
position_lt p (x ∷ xs) = at_first (p x) (position_lt p xs)
  where
    at_first : (b : Bool) → nat_lt (position_or_len p xs) (length xs) ≡ list_any p xs → nat_lt (cond (not b) (1 + position_or_len p xs) 0) (length (x ∷ xs)) ≡ (b || list_any p xs)
    at_first true later = grind (arith, common_steps)
    at_first false later = grind (arith, common_steps, later)

position_there : {A : Type 0} (p : A → Bool) (xs : List A) → is_some (position p xs) ≡ list_any p xs
position_there p xs = grind (arith, common_steps, position_lt p xs)

position_none : {A : Type 0} (p : A → Bool) (xs : List A) → list_any p xs ≡ false → position p xs ≡ None
position_none p xs none = grind (arith, common_steps, position_lt p xs, none)

position-set : {A : Type 0} (p : A → Bool) (xs : List A) (n : ℕ) (y d : A) → p y ≡ p (get_or xs n d) → position p (set xs n y) ≡ position p xs
position-set p xs n y d same = rw (position_or_len-set p xs n y d same, length-set xs n y) refl

any_left : (servers : Servers) → list_any is_in_use (map (option_map leaving) servers) ≡ false
any_left [] = refl
any_left (None ∷ servers) = any_left servers
any_left (Some server ∷ servers) = any_left servers

pub none-left : (servers : Servers) → in_use (map (option_map leaving) servers) ≡ None
none-left servers = position_none is_in_use _ (any_left servers)

any_set : {A : Type 0} (p : A → Bool) (xs : List A) (n : ℕ) (y : A) → n < length xs → p y ≡ true → list_any p (set xs n y) ≡ true
any_set p [] n y here is = absurd (omega arith)
any_set p (x ∷ xs) zero y here is = ap (λ b. b || list_any p xs) is
any_set p (x ∷ xs) (suc n) y here is = grind (arith, common_steps, any_set p xs n y (omega arith) is)

pub any_put : {A : Type 0} (p : Option A → Bool) (xs : List (Option A)) (n : ℕ) (y : A) → p (Some y) ≡ true → list_any p (put_row xs n y) ≡ true
any_put p xs n y is =
    cond_both (nat_lt n (length xs)) _ _ (λ all. list_any p all ≡ true)
    (λ here. any_set p xs n (Some y) (grind (arith, common_steps, here)) is)
    (λ last. list_any-append p xs (Some y ∷ []) ∙ ap (λ b. list_any p xs || (b || false)) is ∙ or-true _)

pub some-while : (attached : Bool) (servers : Servers) → is_some (in_use (servers_while attached servers)) ≡ attached
some-while false servers = ap is_some (none-left servers)
some-while true servers = by_use (is_some (in_use servers)) refl
  where
    by_use : (b : Bool) → is_some (in_use servers) ≡ b → is_some (in_use (if b then servers else put_row servers (lowest_from 1 servers) new_server)) ≡ true
    by_use true is = is
    by_use false is = position_there is_in_use _ ∙ any_put is_in_use servers (lowest_from 1 servers) new_server refl

left_twice : (servers : Servers) → map (option_map leaving) (map (option_map leaving) servers) ≡ map (option_map leaving) servers
left_twice [] = refl
left_twice (None ∷ servers) = ap (λ rest. None ∷ rest) (left_twice servers)
left_twice (Some server ∷ servers) = ap (λ rest. Some (leaving server) ∷ rest) (left_twice servers)

while_again : (attached : Bool) (servers : Servers) → servers_while attached (servers_while attached servers) ≡ servers_while attached servers
while_again false servers = left_twice servers
while_again true servers = ap (λ b. if b then servers_while true servers else put_row (servers_while true servers) (lowest_from 1 (servers_while true servers)) new_server) (some-while true servers)

-- ---- those at all managers

pub servers_from_again : (attached : ℕ → Bool) (number : ℕ) (all : List Servers) → servers_from attached number (servers_from attached number all) ≡ servers_from attached number all
servers_from_again attached number [] = refl
servers_from_again attached number (servers ∷ all) = rw (while_again (attached number) servers, servers_from_again attached (number + 1) all) refl

-- settled server connections stay where as much is attached as before
pub servers_from_same : (attached before : ℕ → Bool) (number : ℕ) (all : List Servers) → ((other : ℕ) → number ≤ other → attached other ≡ before other) → all ≡ servers_from before number all → servers_from attached number all ≡ all
servers_from_same attached before number [] same settled = refl
servers_from_same attached before number (servers ∷ all) same settled =
    let first : servers ≡ servers_while (before number) servers = cc in
    let rest : all ≡ servers_from before (number + 1) all = cc in
    rw (same number (omega arith), ← first) (ap (λ more. servers ∷ more) (servers_from_same attached before (number + 1) all (λ other from. same other (omega (arith, from))) rest))

-- those at one manager alone change where something is attached to that alone, or goes from there
pub servers_from_at : (attached before : ℕ → Bool) (first number : ℕ) (all : List Servers) → number < length all → ((other : ℕ) → other ≢ first + number → attached other ≡ before other) → all ≡ servers_from before first all
    → servers_from attached first all ≡ with_line all number (servers_while (attached (first + number)))
servers_from_at attached before first number [] here same settled = absurd (omega arith)
servers_from_at attached before first zero (servers ∷ all) here same settled =
    let rest : all ≡ servers_from before (first + 1) all = cc in
    let here : first + zero ≡ first = omega arith in
    rw (here, servers_from_same attached before (first + 1) all (λ other from. same other (omega (arith, from))) rest) refl
servers_from_at attached before first (suc number) (servers ∷ all) here same settled =
    let one : servers ≡ servers_while (before first) servers = cc in
    let rest : all ≡ servers_from before (first + 1) all = cc in
    let next : first + suc number ≡ (first + 1) + number = omega arith in
    rw (same first (omega arith), ← one, servers_from_at attached before (first + 1) number all (omega (arith, here)) (λ other differs. same other (λ is. differs (is ∙ next))) rest, next) refl

-- ---- reading and freeing

pub in_use_at : (servers : Servers) (number : ℕ) → number < length servers → ((before : ℕ) → before < number → is_in_use (get_or servers before None) ≡ false) → is_in_use (get_or servers number None) ≡ true → in_use servers ≡ Some number
in_use_at servers number here before is = rw (position_or_len_is is_in_use servers number None (omega (arith, here)) before (λ within. is)) (grind (arith, common_steps, here))

pub in_use_nowhere : (servers : Servers) (number : ℕ) → length servers ≤ number → ((before : ℕ) → before < number → is_in_use (get_or servers before None) ≡ false) → in_use servers ≡ None
in_use_nowhere servers number all before =
    rw (position_or_len_is is_in_use servers (length servers) None (omega arith) (λ place within. before place (omega (arith, within, all))) (λ beyond. absurd (omega (arith, beyond)))) (grind (arith, common_steps))

pub left_freed : (servers : Servers) (number : ℕ) → is_left (get_or servers number None) ≡ true → set servers number None ≡ without_left number servers
left_freed servers number left = rw (row_at-get_or servers number, left) refl

pub used_kept : (servers : Servers) (number : ℕ) → is_left (get_or servers number None) ≡ false → servers ≡ without_left number servers
used_kept servers number used = rw (row_at-get_or servers number, used) refl

-- ---- what is attached

pub differs_by : (number other : ℕ) → number ≢ other → (other == number) ≡ false
differs_by number other differs = by_equal (other == number) refl
  where
    by_equal : (b : Bool) → (other == number) ≡ b → b ≡ false
    by_equal true same = absurd (differs (sym (eqb-true other number same)))
    by_equal false same = refl

pub any_set_same : {A : Type 0} (p : A → Bool) (xs : List A) (n : ℕ) (y d : A) → p y ≡ p (get_or xs n d) → list_any p (set xs n y) ≡ list_any p xs
any_set_same p [] n y d same = refl
any_set_same p (x ∷ xs) zero y d same = ap (λ b. b || list_any p xs) same
any_set_same p (x ∷ xs) (suc n) y d same = ap (λ b. p x || b) (any_set_same p xs n y d same)

-- a row that does not pass is put into a free place
pub any_put_same : {A : Type 0} (p : Option A → Bool) (xs : List (Option A)) (n : ℕ) (y : A) → row_at xs n ≡ None → p None ≡ false → p (Some y) ≡ false → list_any p (put_row xs n y) ≡ list_any p xs
any_put_same p xs n y free none fails =
    cond_both (nat_lt n (length xs)) _ _ (λ all. list_any p all ≡ list_any p xs)
    (λ here. any_set_same p xs n (Some y) None (fails ∙ sym none ∙ ap p (sym free ∙ row_at-get_or xs n)))
    (λ last. list_any-append p xs (Some y ∷ []) ∙ ap (λ b. list_any p xs || (b || false)) fails ∙ grind (arith, common_steps))

-- what passes in a table does so with more in a free place
pub any_set_more : {A : Type 0} (p : A → Bool) (xs : List A) (n : ℕ) (y d : A) → p (get_or xs n d) ≡ false → list_any p xs ≡ true → list_any p (set xs n y) ≡ true
any_set_more p [] n y d free is = is
any_set_more p (x ∷ xs) zero y d free is = grind (arith, common_steps, free, is)
any_set_more p (x ∷ xs) (suc n) y d free is = by_first (p x) (any_set_more p xs n y d free) is
  where
    by_first : (b : Bool) → (list_any p xs ≡ true → list_any p (set xs n y) ≡ true) → (b || list_any p xs) ≡ true → (b || list_any p (set xs n y)) ≡ true
    by_first true more is = refl
    by_first false more is = more is

-- and what passes with less did so before
pub any_set_fewer : {A : Type 0} (p : A → Bool) (xs : List A) (n : ℕ) (y : A) → p y ≡ false → list_any p (set xs n y) ≡ true → list_any p xs ≡ true
any_set_fewer p [] n y fails is = is
any_set_fewer p (x ∷ xs) zero y fails is = grind (arith, common_steps, fails, is)
any_set_fewer p (x ∷ xs) (suc n) y fails is = by_first (p x) (any_set_fewer p xs n y fails) is
  where
    by_first : (b : Bool) → (list_any p (set xs n y) ≡ true → list_any p xs ≡ true) → (b || list_any p (set xs n y)) ≡ true → (b || list_any p xs) ≡ true
    by_first true more is = refl
    by_first false more is = more is

-- ---- one manager's

pub line_at-get_or : {A : Type 0} (xs : List (List A)) (n : ℕ) → line_at xs n ≡ get_or xs n []
line_at-get_or xs n = unwrap_or-slice_get xs n []

pub line_at-other : {A : Type 0} (xs : List (List A)) (n other : ℕ) (f : List A → List A) → other ≢ n → line_at (with_line xs n f) other ≡ line_at xs other
line_at-other xs n other f differs = line_at-get_or _ other ∙ get_or-set_other xs n other _ [] differs ∙ sym (line_at-get_or xs other)

pub line_at-here : {A : Type 0} (xs : List (List A)) (n : ℕ) (f : List A → List A) → n < length xs → line_at (with_line xs n f) n ≡ f (line_at xs n)
line_at-here xs n f here = line_at-get_or _ n ∙ get_or-set_same xs n _ [] here

served_at : (attached : ℕ → Bool) (first number : ℕ) (all : List Servers) → number < length all → is_some (in_use (get_or (servers_from attached first all) number [])) ≡ attached (first + number)
served_at attached first number [] here = absurd (omega arith)
served_at attached first zero (servers ∷ all) here = let same : first + zero ≡ first = omega arith in rw same (some-while (attached first) servers)
served_at attached first (suc number) (servers ∷ all) here =
    let next : first + suc number ≡ (first + 1) + number = omega arith in
    rw next (served_at attached (first + 1) number all (omega (arith, here)))

-- a server connection is in use exactly while something is attached
pub served_while : (attached : ℕ → Bool) (number : ℕ) (all : List Servers) → number < length all → all ≡ servers_from attached 0 all → is_some (in_use (line_at all number)) ≡ attached number
served_while attached number all here settled =
    let same : 0 + number ≡ number = omega arith in
    ap (λ servers. is_some (in_use servers)) (line_at-get_or all number) ∙ ap (λ servers. is_some (in_use (get_or servers number []))) settled ∙ served_at attached 0 number all here ∙ ap attached same

-- ---- a block, and a server connection that was left

connects-with_block : (number block : ℕ) (place : Option Connection) → connects number (option_map {T = Connection} (λ connection. record connection { block = Some block }) place) ≡ connects number place
connects-with_block number block None = refl
connects-with_block number block (Some connection) = refl

-- a connection that gets its block stays at its manager
pub attached-with_block : (number coid block : ℕ) (connections : List (Option Connection)) (sides : List (Option Manager)) → is_attached number (with_row connections coid (λ connection. record connection { block = Some block })) sides ≡ is_attached number connections sides
attached-with_block number coid block connections sides =
    ap (λ b. b || list_any (sides_with number) sides)
    (any_set_same (connects number) connections coid _ None (connects-with_block number block (row_at connections coid) ∙ ap (connects number) (row_at-get_or connections coid)))

left_fails : (place : Option ServerConnection) → is_left place ≡ true → is_in_use place ≡ false
left_fails None left = absurd (false≢true left)
left_fails (Some server) left = grind (arith, common_steps, left)

map-freed : (servers : Servers) (number : ℕ) → map (option_map leaving) (set servers number None) ≡ set (map (option_map leaving) servers) number None
map-freed [] number = refl
map-freed (server ∷ servers) zero = refl
map-freed (server ∷ servers) (suc number) = ap (λ rest. option_map leaving server ∷ rest) (map-freed servers number)

-- those that are settled are so without one that was left
while-freed : (attached : Bool) (servers : Servers) (number : ℕ) → servers_while attached servers ≡ servers → servers_while attached (without_left number servers) ≡ without_left number servers
while-freed attached servers number settled =
    by_left (is_left (row_at servers number)) refl
  where
    freed : (attached : Bool) → servers_while attached servers ≡ servers → is_left (row_at servers number) ≡ true → servers_while attached (set servers number None) ≡ set servers number None
    freed false settled left = map-freed servers number ∙ ap (λ all. set all number None) settled
    freed true settled left =
        let used : is_some (in_use servers) ≡ true = ap (λ all. is_some (in_use all)) (sym settled) ∙ some-while true servers in
        let fails : is_in_use (get_or servers number None) ≡ false = ap is_in_use (sym (row_at-get_or servers number)) ∙ left_fails (row_at servers number) left in
        ap (λ b. if b then set servers number None else put_row (set servers number None) (lowest_from 1 (set servers number None)) new_server) (ap is_some (position-set is_in_use servers number None None (sym fails)) ∙ used)

    by_left : (b : Bool) → is_left (row_at servers number) ≡ b → servers_while attached (if b then set servers number None else servers) ≡ (if b then set servers number None else servers)
    by_left true left = freed attached settled left
    by_left false left = settled

pub from-freed : (attached : ℕ → Bool) (first at number : ℕ) (all : List Servers) → all ≡ servers_from attached first all → with_line all at (without_left number) ≡ servers_from attached first (with_line all at (without_left number))
from-freed attached first at number [] settled = refl
from-freed attached first zero number (servers ∷ all) settled =
    let one : servers ≡ servers_while (attached first) servers = cc in
    let rest : all ≡ servers_from attached (first + 1) all = cc in
    rw (while-freed (attached first) servers number (sym one), ← rest) refl
from-freed attached first (suc at) number (servers ∷ all) settled =
    let one : servers ≡ servers_while (attached first) servers = cc in
    let rest : all ≡ servers_from attached (first + 1) all = cc in
    rw (← one, ← from-freed attached (first + 1) at number all rest) refl
