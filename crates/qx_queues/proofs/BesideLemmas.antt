-- The lists that are no line's: who waits in them, and who was answered what.
use Rattle.std.proofs.Common.{◌≡◌, ◌≢◌, inl, inr, ℕ, zero, suc, ◌&&◌, ◌||◌, ◌==◌, not, cond, Bool, true, false, List, [], ◌∷◌, ◌++◌, Contains, Option, Some, None, option_map, map, slice_get, slice_set, unwrap_or, is_some, refl, sym, ◌∙◌, ap, ap₂}
use Rattle.std.specs.FinMap as maps
use Rattle.std.specs.FinMap.{find}
use Rattle.std.specs.List.{list_any}
use Rattle.std.specs.Ordering.{eq_by_cmp, nat_cmp}
use Rattle.std.proofs.lemmas.Bool.{cases_Bool}
use Rattle.std.proofs.lemmas.Bool.Decides.{eqb_tells}
use Rattle.std.proofs.lemmas.Cmp.{nat_cmp_total}
use Rattle.std.proofs.lemmas.List.Folds.{list_any-append}
use Rattle.std.proofs.lemmas.Option.{same_Some}
use Rattle.qx_lists.specs.Table.{Table, ContainsList, IsIn, nodes_of}
use Rattle.qx_lists.proofs.MapLemmas.{get-insert_other, get-insert_same, same_map}
use Rattle.qx_lines.specs.declared.Line.{Line}
use Rattle.qx_lines.specs.Line.{IsOwn, nodes_in}
use Rattle.qx_queues.specs.inner.Kept.{IsListOf, answered_calls, call_at, given_at, is_line, is_own, is_pipes, users_call_carried, waiting_of_node, waiting_lists}
use Rattle.qx_queues.specs.Queues.{UsersCall, each_changed}
use Rattle.qx_queues.specs.Waiting.{Waiting}
use Rattle.qx_queues.specs.inner.Waiting.{given_of}
use Rattle.qx_queues.proofs.EntryLemmas.{map-agree, or_false, or_true}
use Rattle.qx_queues.proofs.OwnLemmas.{is_own-list, not_own, own-none, own_list}
use Rattle.qx_queues.proofs.TableLemmas.{none_some}

there_if : {A B : Type 0} (f : A → B) (b : Bool) (o : Option A) → is_some (option_map f (cond b o None)) ≡ true → (b ≡ true) × (is_some o ≡ true)
there_if f true None is = cc
there_if f true (Some x) is = (refl, refl)
there_if f false o is = cc

-- what it is that a list is a line's
pub line_of : (lines : List Line) (list : ℕ) → is_line lines list ≡ true → (number : ℕ) × IsListOf lines number list
line_of [] list is = cc
line_of (line ∷ lines) list is = elim (cases_Bool (is_own list line)) [
  | inl own ↦ (0, (line, refl, own_list line list own))
  | inr off ↦ let rest = line_of lines list (rw off at is) in (suc rest.0, rest.1)
]

pub is_line-numbered : (lines : List Line) (number list : ℕ) → IsListOf lines number list → is_line lines list ≡ true
is_line-numbered [] number list of = absurd (none_some of.0 None refl of.1)
is_line-numbered (line ∷ lines) zero list of = rw (is_own-list line list (rw (same_Some line of.0 of.1) of.2)) refl
is_line-numbered (line ∷ lines) (suc number) list of = rw (is_line-numbered lines number list of) (or_true (is_own list line))

-- a line that changes keeps its lists
pub is_line-set : (before after : Line) → after.lists ≡ before.lists → (lines : List Line) (number list : ℕ) → slice_get lines number ≡ Some before → is_line (slice_set lines number after) list ≡ is_line lines list
is_line-set before after own [] number list is = refl
is_line-set before after own (line ∷ lines) zero list is = ap (λ all. list_any (λ it. list == it) all || is_line lines list) (own ∙ ap (λ l. l.lists) (sym (same_Some line before is)))
is_line-set before after own (line ∷ lines) (suc number) list is = ap (λ b. is_own list line || b) (is_line-set before after own lines number list is)

find-mapped : {A B : Type 0} (f : A → B) (q : ℕ) (es : List (ℕ × A)) → find nat_cmp q (map (λ e. (e.0, f e.1)) es) ≡ option_map f (find nat_cmp q es)
find-mapped f q [] = refl
find-mapped f q (e ∷ es) = elim (cases_Bool (eq_by_cmp nat_cmp q e.0)) [
  | inl here ↦ rw here refl
  | inr apart ↦ rw apart (find-mapped f q es)
]

-- each call that waits, changed
pub get-each_changed : (change : UsersCall → UsersCall) (pipes : maps.FinMap nat_cmp (List UsersCall)) (list : ℕ) → maps.get (each_changed change pipes) list ≡ option_map (map change) (maps.get pipes list)
unfolding each_changed
get-each_changed change pipes list = maps.get-from_entries nat_cmp_total _ list ∙ find-mapped (map change) list (maps.entries pipes) ∙ ap (option_map (map change)) (sym (maps.get-entries pipes list))

-- who waits in the list of a number
pub get-waiting_lists : (t : Table Waiting) (lines : List Line) (answered list : ℕ) → maps.get (waiting_lists t lines answered) list ≡ option_map (map (call_at t)) (cond (is_pipes lines answered list) (maps.get t.lists list) None)
unfolding waiting_lists
get-waiting_lists t lines answered list =
    maps.get-from_entries nat_cmp_total _ list
    ∙ find-mapped (map (call_at t)) list (maps.entries (maps.retain_keys t.lists (is_pipes lines answered)))
    ∙ ap (option_map (map (call_at t))) (sym (maps.get-entries (maps.retain_keys t.lists (is_pipes lines answered)) list) ∙ maps.get-retain_keys t.lists (is_pipes lines answered) list (λ other same. ap (is_pipes lines answered) (sym (maps.nat_cmp-IsAntisymmetric list other same))))

-- a list that is not there, and one in which nobody waits
module _ (t : Table Waiting) (lines : List Line) (answered list : ℕ) where
  pub waiting-absent : maps.get t.lists list ≡ None → maps.get (waiting_lists t lines answered) list ≡ None
  waiting-absent absent = get-waiting_lists t lines answered list ∙ elim (cases_Bool (is_pipes lines answered list)) [ inl pipes ↦ rw (pipes, absent) refl | inr off ↦ rw off refl ]

  pub waiting-empty : maps.get (waiting_lists t lines answered) list ≡ Some [] → maps.get t.lists list ≡ Some []
  waiting-empty none = of (is_pipes lines answered list) (maps.get t.lists list) (sym (get-waiting_lists t lines answered list) ∙ none)
    where
      of : (b : Bool) (o : Option (List ℕ)) → option_map (map (call_at t)) (cond b o None) ≡ Some [] → o ≡ Some []
      of true None is = absurd (cc)
      of true (Some []) is = refl
      of true (Some (node ∷ nodes)) is = absurd (cc)
      of false o is = absurd (cc)

-- a list that is shown is a pipe's, and is there
pub list_shown : (t : Table Waiting) (lines : List Line) (answered list : ℕ) → is_some (maps.get (waiting_lists t lines answered) list) ≡ true → (is_pipes lines answered list ≡ true) × ContainsList t list
list_shown t lines answered list is = there_if (map (call_at t)) (is_pipes lines answered list) (maps.get t.lists list) (ap is_some (sym (get-waiting_lists t lines answered list)) ∙ is)

pub nodes_waiting : (t : Table Waiting) (lines : List Line) (answered list : ℕ) → (list == answered) ≡ false → is_line lines list ≡ false → unwrap_or (maps.get (waiting_lists t lines answered) list) [] ≡ map (call_at t) (nodes_of t list)
nodes_waiting t lines answered list differs apart =
    ap (λ o. unwrap_or o []) (get-waiting_lists t lines answered list ∙ ap₂ (λ a b. option_map (map (call_at t)) (cond (not a && not b) (maps.get t.lists list) None)) differs apart)
    ∙ mapped_or (maps.get t.lists list)
  where
    mapped_or : (o : Option (List ℕ)) → unwrap_or (option_map (map (call_at t)) o) [] ≡ map (call_at t) (unwrap_or o [])
    mapped_or None = refl
    mapped_or (Some nodes) = refl

pub same_mapped : {B : Type 0} (f g : ℕ → B) (o : Option (List ℕ)) → ((x : ℕ) → Contains (unwrap_or o []) x → f x ≡ g x) → option_map (map f) o ≡ option_map (map g) o
same_mapped f g None same = refl
same_mapped f g (Some nodes) same = ap Some (map-agree f g nodes same)

-- one more line
pub is_line-more : (lines : List Line) (line : Line) (list : ℕ) → is_line (lines ++ line ∷ []) list ≡ (is_line lines list || is_own list line)
is_line-more lines line list = list_any-append (is_own list) lines (line ∷ []) ∙ ap (λ b. is_line lines list || b) (or_false (is_own list line))

-- nothing but lines and nodes that stand in no list changed
pub record SameBeside (old new : Table Waiting) (lines : List Line) : Type 0 where
  pub lists : (list : ℕ) → is_line lines list ≡ false → maps.get new.lists list ≡ maps.get old.lists list
  pub nodes : (list node : ℕ) → IsIn old list node → waiting_of_node new node ≡ waiting_of_node old node

-- the same calls wait and were answered
pub record SameCalls (old new : Table Waiting) (lines after : List Line) (answered : ℕ) : Type 0 where
  pub waiting : waiting_lists new after answered ≡ waiting_lists old lines answered
  pub given : answered_calls new answered ≡ answered_calls old answered

-- who waits, where the lists of pipes stay, with what their nodes carry
pub same_waiting : (old new : Table Waiting) (lines after : List Line) (answered : ℕ) → ((list : ℕ) → is_line after list ≡ is_line lines list) → ((list : ℕ) → is_pipes lines answered list ≡ true → maps.get new.lists list ≡ maps.get old.lists list) → ((list node : ℕ) → is_pipes lines answered list ≡ true → IsIn old list node → waiting_of_node new node ≡ waiting_of_node old node) → waiting_lists new after answered ≡ waiting_lists old lines answered
same_waiting old new lines after answered same_lines lists nodes = same_map _ _ (λ list.
    get-waiting_lists new after answered list
    ∙ ap (λ b. option_map (map (call_at new)) (cond (not (list == answered) && not b) (maps.get new.lists list) None)) (same_lines list)
    ∙ same_at list
    ∙ sym (get-waiting_lists old lines answered list))
  where
    same_at : (list : ℕ) → option_map (map (call_at new)) (cond (is_pipes lines answered list) (maps.get new.lists list) None) ≡ option_map (map (call_at old)) (cond (is_pipes lines answered list) (maps.get old.lists list) None)
    same_at list = elim (cases_Bool (is_pipes lines answered list)) [
      | inr other ↦ rw other refl
      | inl pipes ↦ rw (pipes, lists list pipes) (same_mapped (call_at new) (call_at old) (maps.get old.lists list) (λ node at. ap users_call_carried (nodes list node pipes at)))
    ]

-- a pipe's list is no line's, and not that of the answered nodes
pub pipes_apart : (lines : List Line) (answered list : ℕ) → is_pipes lines answered list ≡ true → (is_line lines list ≡ false) × (list ≢ answered)
pipes_apart lines answered list pipes = elim (eqb_tells list answered) [
  | inl same ↦ let clash : false ≡ true = rw same.0 at pipes in absurd (cc)
  | inr differs ↦ (no_line (list == answered) (is_line lines list) pipes, differs.1)
]
  where
    no_line : (a b : Bool) → (not a && not b) ≡ true → b ≡ false
    no_line a false is = refl
    no_line true true is = cc
    no_line false true is = cc

module _ (old new : Table Waiting) (lines after : List Line) (answered : ℕ) (same_lines : (list : ℕ) → is_line after list ≡ is_line lines list) (off : is_line lines answered ≡ false) (beside : SameBeside old new lines) where
  pub same_calls : SameCalls old new lines after answered
  same_calls = record {
    waiting = same_waiting old new lines after answered same_lines (λ list pipes. beside.lists list (pipes_apart lines answered list pipes).0) (λ list node pipes at. beside.nodes list node at);
    given =
        ap (λ o. map (given_at new) (unwrap_or o [])) (beside.lists answered off)
        ∙ map-agree (given_at new) (given_at old) (nodes_of old answered) (λ node at. ap given_of (beside.nodes answered node at));
  }

-- as nothing changes but the room
pub same_calls-room : (old new : Table Waiting) (lines : List Line) (answered : ℕ) → new.lists ≡ old.lists → new.values ≡ old.values → SameCalls old new lines lines answered
unfolding waiting_lists
same_calls-room old new lines answered same_lists same_values =
    let whole : (lists : maps.FinMap nat_cmp (List ℕ)) (values : maps.FinMap nat_cmp Waiting) (room : ℕ) → Table Waiting = λ lists values room. record { lists = lists; values = values; room = room } in
    record {
      waiting = λ i. waiting_lists (whole (same_lists i) (same_values i) new.room) lines answered;
      given = λ i. answered_calls (whole (same_lists i) (same_values i) new.room) answered;
    }

-- no list of the table is a pipe's
abbrev pub NoPipes : Table Waiting → List Line → ℕ → Type 0
NoPipes t lines answered = (list : ℕ) → is_pipes lines answered list ≡ true → maps.get t.lists list ≡ None

-- the list of answered nodes stands alone, and nothing in it
pub record Alone (t : Table Waiting) (answered : ℕ) : Type 0 where
  pub empty : (list : ℕ) → nodes_of t list ≡ []
  pub there : ContainsList t answered
  pub no_pipes : NoPipes t [] answered

pub first_list : (t : Table Waiting) (answered : ℕ) → t.lists ≡ maps.insert maps.empty answered [] → Alone t answered
first_list t answered lists = record {
  empty = λ list. elim (eqb_tells list answered) [
    | inl same ↦ ap (λ o. unwrap_or o []) (ap (maps.get t.lists) same.1 ∙ here)
    | inr differs ↦ ap (λ o. unwrap_or o []) (other list differs.1)
  ];
  there = ap is_some here;
  no_pipes = λ list pipes. elim (eqb_tells list answered) [
    | inl same ↦ let clash : false ≡ true = rw same.0 at pipes in absurd (cc)
    | inr differs ↦ other list differs.1
  ];
}
  where
    here : maps.get t.lists answered ≡ Some []
    here = rw lists (get-insert_same maps.empty answered [])

    other : (list : ℕ) → list ≢ answered → maps.get t.lists list ≡ None
    other list differs = rw lists (get-insert_other maps.empty answered [] list differs ∙ maps.get-empty nat_cmp list)

-- one more line
pub no_pipes-line : (old new : Table Waiting) (lines : List Line) (line : Line) (answered : ℕ) → ((list : ℕ) → (IsOwn line list → ⊥) → maps.get new.lists list ≡ maps.get old.lists list) → NoPipes old lines answered → NoPipes new (lines ++ line ∷ []) answered
no_pipes-line old new lines line answered elsewhere before list pipes =
    let told = both (list == answered) (is_line lines list) (is_own list line) (ap (λ b. not (list == answered) && not b) (sym (is_line-more lines line list)) ∙ pipes) in
    elsewhere list (not_own line list told.1) ∙ before list told.0
  where
    both : (a b c : Bool) → (not a && not (b || c)) ≡ true → ((not a && not b) ≡ true) × (c ≡ false)
    both false false false is = (refl, refl)
    both false false true is = absurd (cc)
    both false true c is = absurd (cc)
    both true b c is = absurd (cc)

-- and no list has a node
pub empty-line : (old new : Table Waiting) (line : Line) → nodes_in new line ≡ [] → ((list : ℕ) → (IsOwn line list → ⊥) → maps.get new.lists list ≡ maps.get old.lists list) → ((list : ℕ) → nodes_of old list ≡ []) → (list : ℕ) → nodes_of new list ≡ []
empty-line old new line none elsewhere before list = elim (cases_Bool (is_own list line)) [
  | inl own ↦ own-none new line none list (own_list line list own)
  | inr off ↦ ap (λ o. unwrap_or o []) (elsewhere list (not_own line list off)) ∙ before list
]

-- so nobody waits
pub waiting-none : (t : Table Waiting) (lines : List Line) (answered : ℕ) → NoPipes t lines answered → waiting_lists t lines answered ≡ maps.empty
waiting-none t lines answered none = same_map _ _ (λ list. get-waiting_lists t lines answered list ∙ nothing list ∙ sym (maps.get-empty nat_cmp list))
  where
    nothing : (list : ℕ) → option_map (map (call_at t)) (cond (is_pipes lines answered list) (maps.get t.lists list) None) ≡ None
    nothing list = elim (cases_Bool (is_pipes lines answered list)) [
      | inl pipes ↦ rw (pipes, none list pipes) refl
      | inr other ↦ rw other refl
    ]
