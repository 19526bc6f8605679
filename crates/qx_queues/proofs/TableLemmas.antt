-- What nodes stand for and which lines there are, as one node of the table changes.
use Rattle.std.proofs.Common.{◌≡◌, ◌≢◌, inl, inr, ℕ, true, false, Contains, Option, Some, None, option_map, map, unwrap_or, is_some, refl, sym, ◌∙◌, ap}
use Rattle.std.specs.FinMap as maps
use Rattle.std.proofs.lemmas.Bool.Decides.{eqb_tells}
use Rattle.qx_lists.specs.Table.{Table, ContainsNode, IsFree, IsIn, with_value}
use Rattle.qx_lists.proofs.ListLemmas.{stands_nowhere}
use Rattle.qx_lists.proofs.MapLemmas.{get-insert_same, get-insert_other, get-remove_other}
use Rattle.qx_lines.specs.declared.Line.{Line}
use Rattle.qx_lines.specs.Line.{IsInLine, IsLineOf, IsOwn, SameElsewhere, nodes_in, rank_at}
use Rattle.qx_lines.proofs.LineFacts.{IsLineOf-same, nodes_in-same}
use Rattle.qx_machine.specs.Machine.{rank}
use Rattle.qx_isolation.specs.Lines.{into}
use Rattle.qx_queues.specs.inner.Kept.{PutIn, entries, entry_of_node, nobodys, waiting_of_node}
use Rattle.qx_queues.specs.Waiting.{Waiting, rank_of}
use Rattle.qx_queues.proofs.EntryLemmas.{contains_into, waiting-insert_same, into-map, map-agree}
use Rattle.qx_queues.proofs.OwnLemmas.{in_no_line}

-- a free node stands in no list
pub nowhere : {node : ℕ} (t : Table Waiting) → IsFree t node → (list : ℕ) → IsIn t list node → ⊥
nowhere {node = node} t free = stands_nowhere t.lists node free.in_no_list

pub absent_is : {A : Type 0} (o : Option A) → is_some o ≡ true → o ≡ None → ⊥
absent_is o there none = let clash : false ≡ true = ap is_some (sym none) ∙ there in cc

pub none_some : {A : Type 0} (x : A) (o : Option A) → o ≡ None → o ≡ Some x → ⊥
none_some x o none some = let clash : None ≡ Some x = sym none ∙ some in cc

pub some_same : {A : Type 0} (x y : A) (o : Option A) → o ≡ Some x → o ≡ Some y → x ≡ y
some_same x y o one other = let same : Some x ≡ Some y = sym one ∙ other in cc

pub rank_at-entry : (t : Table Waiting) (node : ℕ) → rank_at rank_of t node ≡ rank (entry_of_node t node)
rank_at-entry t node = by_value (maps.get t.values node)
  where
    by_value : (o : Option Waiting) → unwrap_or (option_map rank_of o) 0 ≡ rank (unwrap_or o nobodys).queued
    by_value None = refl
    by_value (Some waiting) = refl

-- a line's own lists stay
abbrev pub SameLists : Table Waiting → Table Waiting → Line → Type 0
SameLists old new line = (list : ℕ) → IsOwn line list → maps.get new.lists list ≡ maps.get old.lists list

-- the values of all other nodes stay
abbrev pub SameBut : Table Waiting → Table Waiting → ℕ → Type 0
SameBut old new node = (other : ℕ) → other ≢ node → maps.get new.values other ≡ maps.get old.values other

pub inserted : (old new : Table Waiting) (node : ℕ) (waiting : Waiting) → new.values ≡ maps.insert old.values node waiting → SameBut old new node
inserted old new node waiting values other differs = rw values (get-insert_other old.values node waiting other differs)

pub removed : (old new : Table Waiting) (node : ℕ) → new.values ≡ maps.remove old.values node → SameBut old new node
removed old new node values other differs = rw values (get-remove_other old.values node other differs)

module _ (old new : Table Waiting) (node : ℕ) (same : SameBut old new node) where
  -- what another node stands for and carries stays
  pub waiting-other : (other : ℕ) → other ≢ node → waiting_of_node new other ≡ waiting_of_node old other
  waiting-other other differs = ap (λ o. unwrap_or o nobodys) (same other differs)

  pub entry-other : (other : ℕ) → other ≢ node → entry_of_node new other ≡ entry_of_node old other
  entry-other other differs = ap (λ w. w.queued) (waiting-other other differs)

  pub contains-other : (other : ℕ) → other ≢ node → ContainsNode old other → ContainsNode new other
  contains-other other differs there = ap is_some (same other differs) ∙ there

  -- a line keeps its items as a node that isn't in it changes
  pub entries-kept : (line : Line) → SameLists old new line → (IsInLine old line node → ⊥) → entries new line ≡ entries old line
  entries-kept line lists absent =
      rw (nodes_in-same old new line lists) (map-agree (entry_of_node new) (entry_of_node old) (nodes_in old line) (λ other at. entry-other other (λ same. absent (rw same at at))))

  pub line-kept : (line : Line) → IsLineOf rank_of old line → SameLists old new line → (IsInLine old line node → ⊥) → IsLineOf rank_of new line
  line-kept line stands lists absent =
      IsLineOf-same rank_of old new line stands lists (λ other at. rank_at-entry new other ∙ ap rank (entry-other other (λ same. absent (rw same at at))) ∙ sym (rank_at-entry old other))

module _ (old new : Table Waiting) (node : ℕ) (waiting : Waiting) (values : new.values ≡ maps.insert old.values node waiting) where
  pub waiting-same : waiting_of_node new node ≡ waiting
  waiting-same = rw values (waiting-insert_same old.values node waiting)

  pub entry-same : entry_of_node new node ≡ waiting.queued
  entry-same = ap (λ w. w.queued) waiting-same

  pub contains-self : ContainsNode new node
  contains-self = rw values (ap is_some (get-insert_same old.values node waiting))

  pub contains-insert : (other : ℕ) → ContainsNode old other → ContainsNode new other
  contains-insert other there = elim (eqb_tells other node) [
    | inl same ↦ rw same.1 contains-self
    | inr differs ↦ contains-other old new node (inserted old new _ _ values) other differs.1 there
  ]

-- a node that got a value and was then put into a line
pub PutIn-of : (old mid new : Table Waiting) (before after : Line) (node : ℕ) (waiting : Waiting) → mid ≡ with_value old node waiting → IsFree old node → IsLineOf rank_of new after → nodes_in new after ≡ into (rank_at rank_of mid) (nodes_in mid before) node → SameElsewhere mid new before → after.lists ≡ before.lists → PutIn old new before after node waiting
PutIn-of old mid new before after node waiting is free line nodes elsewhere own =
    let mid_values : mid.values ≡ maps.insert old.values node waiting = ap (λ t. t.values) is in
    let mid_lists : (list : ℕ) → maps.get mid.lists list ≡ maps.get old.lists list = λ list. ap (λ t. maps.get t.lists list) is in
    let mid_nodes : nodes_in mid before ≡ nodes_in old before = nodes_in-same old mid before (λ list own. mid_lists list) in
    let kept : map (entry_of_node mid) (nodes_in old before) ≡ entries old before = map-agree (entry_of_node mid) (entry_of_node old) (nodes_in old before) (λ other at. entry-other old mid node (inserted old mid _ _ mid_values) other (λ same. in_no_line old before (nowhere old free) (rw same at at))) in
    let placed : entries new after ≡ map (entry_of_node mid) (into (rank_at rank_of mid) (nodes_in old before) node) = rw (nodes, elsewhere.values, mid_nodes) refl in
    let read : into rank (map (entry_of_node mid) (nodes_in old before)) (entry_of_node mid node) ≡ into rank (entries old before) waiting.queued = rw (kept, entry-same old mid node waiting mid_values) refl in
    record {
      line = line;
      entries = placed ∙ into-map (rank_at rank_of mid) rank (entry_of_node mid) (rank_at-entry mid) (nodes_in old before) node ∙ read;
      values = elsewhere.values ∙ mid_values;
      room = elsewhere.room ∙ ap (λ t. t.room) is;
      among = λ other at.
          let here : Contains (into (rank_at rank_of mid) (nodes_in old before) node) other = rw (nodes, mid_nodes) at at in
          contains_into (rank_at rank_of mid) (nodes_in old before) node other here;
      lists = λ list off. elsewhere.lists list off ∙ mid_lists list;
      own = own;
    }

-- a free node that got a value
module _ (old new : Table Waiting) (node : ℕ) (waiting : Waiting) (is : new ≡ with_value old node waiting) (free : IsFree old node) where
  pub IsLineOf-value : (line : Line) → IsLineOf rank_of old line → IsLineOf rank_of new line
  IsLineOf-value line stands = line-kept old new node (inserted old new _ _ (ap (λ t. t.values) is)) line stands (λ list own. ap (λ t. maps.get t.lists list) is) (in_no_line old line (nowhere old free))

  pub IsFree-value : IsFree new node
  IsFree-value = record {
    there = contains-self old new node waiting (ap (λ t. t.values) is);
    in_no_list = rw is free.in_no_list;
  }
