-- A node stands last in a list.
use Rattle.std.proofs.Common.{◌≡◌, ◌++◌, ℕ, [], ◌∷◌, Contains, is_some, map, unwrap_or, ◌∙◌, ap, ap₂}
use Rattle.std.specs.FinMap as maps
use Rattle.std.proofs.lemmas.List.{map-append}
use Rattle.qx_lists.specs.Table.{IsFree, Table, nodes_of, with_nodes, with_value}
use Rattle.qx_lists.proofs.ListLemmas.{stands_nowhere}
use Rattle.qx_lists.proofs.MapLemmas.{get-insert_same, get-insert_other}
use Rattle.qx_lists.proofs.TableFacts.{kept_there}
use Rattle.qx_machine.specs.declared.rows.Event.{Event}
use Rattle.qx_notify.specs.inner.Kept.{Put, event_at, no_event}
use Rattle.qx_notify.proofs.NodeLemmas.{map-agree}

-- a node that stands in no list, by what it is to be free
pub nowhere-free : (t : Table Event) (node : ℕ) → IsFree t node → (list : ℕ) → Contains (nodes_of t list) node → ⊥
nowhere-free t node free list at = stands_nowhere t.lists node free.in_no_list list at

pub free-still : (t : Table Event) (node : ℕ) (event : Event) → IsFree t node → IsFree (with_value t node event) node
free-still t node event free = record { there = ap is_some (get-insert_same t.values node event); in_no_list = free.in_no_list }

module _ (t : Table Event) (list node : ℕ) (event : Event) (room : ℕ) (nowhere : (other : ℕ) → Contains (nodes_of t other) node → ⊥) where
  abbrev valued : Table Event
  valued = record t { values = maps.insert t.values node event; room = room }

  pub put-last : Put t (with_nodes valued list (nodes_of valued list ++ node ∷ [])) list node event
  put-last = record {
    touched = record {
      there = λ other there. (kept_there t.lists list (nodes_of t list ++ node ∷ []) other there).1;
      nodes = λ other differs. ap (λ o. unwrap_or o []) (get-insert_other t.lists list (nodes_of t list ++ node ∷ []) other differs);
      values = λ other differs. get-insert_other t.values node event other differs;
      alone = λ other differs at. nowhere other at;
    };
    nowhere = nowhere list;
    last = ap (λ o. unwrap_or o []) (get-insert_same t.lists list (nodes_of t list ++ node ∷ []));
    value = get-insert_same t.values node event;
  }

-- what stands in the list then
pub put-events : {B : Type 0} (f : Event → B) (t new : Table Event) (list node : ℕ) (event : Event) → Put t new list node event → map (λ n. f (event_at new n)) (nodes_of new list) ≡ map (λ n. f (event_at t n)) (nodes_of t list) ++ f event ∷ []
put-events f t new list node event put =
    ap (map (λ n. f (event_at new n))) put.last
    ∙ map-append (λ n. f (event_at new n)) (nodes_of t list) (node ∷ [])
    ∙ ap₂ (λ xs x. xs ++ x ∷ []) (map-agree (λ n. f (event_at new n)) (λ n. f (event_at t n)) (nodes_of t list) (λ n at. ap (λ o. f (unwrap_or o no_event)) (put.touched.values n (λ same. put.nowhere (rw same at at))))) (ap (λ o. f (unwrap_or o no_event)) put.value)
