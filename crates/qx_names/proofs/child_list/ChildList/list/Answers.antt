use Rattle.std.proofs.Common.{◌≡◌, ◌+◌, ◌-◌, ◌++◌, ℕ, suc, List, [], ◌∷◌, Some, length, length-append, slice_get, ap, arith, refl, sym, ◌∙◌}
use Rattle.std.specs.Prelude.{map as mapped}
use Rattle.std.proofs.lemmas.Bool.{eq-eqb}
use Rattle.qx_lists.proofs.WalkLemmas.{nodes_from-smaller}
use Rattle.qx_machine.specs.Names.{names_behind, fitting, listing}
use Rattle.qx_types.specs.declared.limits.TheConstants.Limits.{TRANSFER}
use Rattle.qx_names.specs.inner.Children.{Children, count_to, entries_of, entry_of}
use Rattle.qx_names.specs.inner.Folders.{names_of}
use Rattle.qx_names.proofs.ChildLemmas.{next-listed, node-listed, nodes-distinct, nodes_there}
use Rattle.qx_names.proofs.ListingLemmas.{left, left_none, left_on, left_other, left_stop, listing_on}
use Rattle.qx_names.proofs.RisingLemmas.{names_behind-count}
use Rattle.qx_names.proofs.child_list.ChildList.list.Goals as goal

pub place_behind-place-requires-clause-there : goal.place_behind-place-requires-clause-there
place_behind-place-requires-clause-there c =
    nodes_there c.args.table.now c.args.self.now c.requires.keeps c.know.ensures.there c.deref.result.now (c.deref.ensures.value ∙ ap (λ (children : Children). children.nodes) c.self.view_is)

zero_plus : (n : ℕ) → 0 + n ≡ n
zero_plus n = omega arith

pub nodes-init : goal.nodes-init
nodes-init c =
    let entries = entries_of c.args.table.now c.args.self.now in
    let counted : c.place_behind-place.result ≡ count_to (c.args.directory, c.args.after.now) entries =
    c.place_behind-place.ensures ∙ ap (λ xs. count_to (c.args.directory, c.args.after.now) (mapped (entry_of c.args.table.now) xs)) (c.deref.ensures.value ∙ ap (λ (children : Children). children.nodes) c.self.view_is)
    in
    let all : left c.args.table.now c.args.self.now c.args.directory c.place_behind-place.result 4096 ≡ fitting TRANSFER (names_behind c.args.after.now (names_of c.args.directory entries)) =
    ap (λ place. left c.args.table.now c.args.self.now c.args.directory place 4096) counted ∙ ap (fitting 4096) (sym (names_behind-count c.args.directory c.args.after.now entries c.requires.keeps.rising))
    in
    record {
      index = c.place_behind-place.result;
      next = sym (c.node_at-next.ensures ∙ ap (λ xs. slice_get xs c.place_behind-place.result) (c.deref-2.ensures.value ∙ ap (λ (children : Children). children.nodes) c.self.view_is));
      names = ap (◌++ listing (left c.args.table.now c.args.self.now c.args.directory c.place_behind-place.result 4096)) c.requires.empty ∙ ap listing all;
      count = zero_plus _ ∙ ap length all;
      from = omega (arith, counted);
      room = (let none : length c.args.reply.now ≡ 0 = ap length c.requires.empty in omega (arith, none));
      few = omega arith;
    }

pub value-entry-requires : goal.value-entry-requires
value-entry-requires c = nodes_there c.args.table.now c.args.self.now c.requires.keeps c.know.ensures.there c.args.self.now.nodes refl c.nodes.invariant.index c.in-Some-next.node (c.nodes.invariant.next ∙ c.in-Some-next.is)

append_none : (bytes : List ℕ) → bytes ++ [] ≡ bytes
append_none [] = refl
append_none (byte ∷ bytes) = ap (byte ∷◌) (append_none bytes)

plus_zero : (n : ℕ) → n + 0 ≡ n
plus_zero n = omega arith

-- the entry is of another directory
ended : (c : goal.Then-directory) → left c.args.table.now c.args.self.now c.args.directory c.nodes.invariant.index c.nodes.room ≡ []
ended c =
    left_other c.args.table.now c.args.self.now c.args.directory c.nodes.invariant.index c.in-Some-next.node c.value-entry.result.now (c.nodes.invariant.next ∙ c.in-Some-next.is) c.value-entry.ensures c.nodes.room c.args.after.now c.requires.keeps.rising c.nodes.invariant.from
    (λ same. c.if-directory.true (c.directory.ensures ∙ same))

pub returns-then-directory-clause-names : goal.returns-then-directory-clause-names
returns-then-directory-clause-names c = sym (ap (λ names. c.nodes.reply ++ listing names) (ended c) ∙ append_none c.nodes.reply) ∙ c.nodes.invariant.names

pub returns-then-directory-clause-count : goal.returns-then-directory-clause-count
returns-then-directory-clause-count c = sym (ap (λ (names : List (List ℕ)). c.nodes.count + length names) (ended c) ∙ plus_zero c.nodes.count) ∙ c.nodes.invariant.count

-- the name does not fit
stopped : (c : goal.Then-name-room) → left c.args.table.now c.args.self.now c.args.directory c.nodes.invariant.index c.nodes.room ≡ []
stopped c =
    left_stop c.args.table.now c.args.self.now c.args.directory c.nodes.invariant.index c.in-Some-next.node c.value-entry.result.now (c.nodes.invariant.next ∙ c.in-Some-next.is) c.value-entry.ensures c.nodes.room (eq-eqb c.value-entry.result.now.0.0 c.args.directory (sym c.directory.ensures ∙ c.if-directory.false))
    (let lengths : length c.name-name.result.now ≡ length c.value-entry.result.now.0.1 = ap length c.name-name.ensures in omega (arith, lengths, c.if-name-room.true))

pub returns-then-name-room-clause-names : goal.returns-then-name-room-clause-names
returns-then-name-room-clause-names c = sym (ap (λ names. c.nodes.reply ++ listing names) (stopped c) ∙ append_none c.nodes.reply) ∙ c.nodes.invariant.names

pub returns-then-name-room-clause-count : goal.returns-then-name-room-clause-count
returns-then-name-room-clause-count c = sym (ap (λ (names : List (List ℕ)). c.nodes.count + length names) (stopped c) ∙ plus_zero c.nodes.count) ∙ c.nodes.invariant.count

pub next-next-requires : goal.next-next-requires
next-next-requires c =
    node-listed c.args.table.now c.args.self.now c.requires.keeps c.in-Some.list (ap (λ (children : Children). children.list) (sym c.self.view_is) ∙ c.in-Some.is) c.know.ensures.distinct c.nodes.invariant.index c.in-Some-next.node
    (c.nodes.invariant.next ∙ c.in-Some-next.is)

pub nodes-smaller : goal.nodes-smaller
nodes-smaller c =
    let was = ap (λ (children : Children). children.list) (sym c.self.view_is) ∙ c.in-Some.is in
    let here : slice_get c.args.self.now.nodes c.nodes.invariant.index ≡ Some c.in-Some-next.node = c.nodes.invariant.next ∙ c.in-Some-next.is in
    rw c.in-Some-next.is
    (nodes_from-smaller c.args.self.now.nodes c.nodes.invariant.index c.in-Some-next.node c.next-next.result (nodes-distinct c.args.table.now c.args.self.now c.requires.keeps c.in-Some.list was c.know.ensures.distinct) here
    (sym (c.next-next.ensures ∙ next-listed c.args.table.now c.args.self.now c.requires.keeps c.in-Some.list was c.know.ensures.distinct c.nodes.invariant.index c.in-Some-next.node here)))

plus_one : (n m : ℕ) → n + 1 + m ≡ n + suc m
plus_one n m = omega arith

pub nodes-preserved : goal.nodes-preserved
nodes-preserved c =
    let was = ap (λ (children : Children). children.list) (sym c.self.view_is) ∙ c.in-Some.is in
    let here : slice_get c.args.self.now.nodes c.nodes.invariant.index ≡ Some c.in-Some-next.node = c.nodes.invariant.next ∙ c.in-Some-next.is in
    let named : c.name-name.result.now ≡ c.value-entry.result.now.0.1 = c.name-name.ensures in
    let lengths : length c.name-name.result.now ≡ length c.value-entry.result.now.0.1 = ap length named in
    let rest = left c.args.table.now c.args.self.now c.args.directory (suc c.nodes.invariant.index) (c.nodes.room - (length c.name-name.result.now + 1)) in
    let on : left c.args.table.now c.args.self.now c.args.directory c.nodes.invariant.index c.nodes.room ≡ c.name-name.result.now ∷ rest =
    left_on c.args.table.now c.args.self.now c.args.directory c.nodes.invariant.index c.in-Some-next.node c.value-entry.result.now here c.value-entry.ensures c.nodes.room (eq-eqb c.value-entry.result.now.0.0 c.args.directory (sym c.directory.ensures ∙ c.if-directory.false)) (omega (arith, lengths, c.if-name-room.false))
    ∙ sym (ap (λ (bytes : List ℕ). bytes ∷ left c.args.table.now c.args.self.now c.args.directory (suc c.nodes.invariant.index) (c.nodes.room - (length bytes + 1))) named)
    in
    let bytes : c.push-in-Some-next.new.self ≡ (c.nodes.reply ++ c.name-name.result.now) ++ 0 ∷ [] = c.push-in-Some-next.ensures.behind ∙ ap (◌++ 0 ∷ []) c.push.ensures.behind in
    let size : length c.push-in-Some-next.new.self ≡ length c.nodes.reply + length c.name-name.result.now + 1 =
    ap length bytes ∙ length-append (c.nodes.reply ++ c.name-name.result.now) (0 ∷ []) ∙ ap (◌+ 1) (length-append c.nodes.reply c.name-name.result.now)
    in
    record {
      index = suc c.nodes.invariant.index;
      next = sym (c.next-next.ensures ∙ next-listed c.args.table.now c.args.self.now c.requires.keeps c.in-Some.list was c.know.ensures.distinct c.nodes.invariant.index c.in-Some-next.node here);
      names = ap (◌++ listing rest) bytes ∙ sym (ap (λ names. c.nodes.reply ++ listing names) on ∙ listing_on c.nodes.reply c.name-name.result.now rest) ∙ c.nodes.invariant.names;
      count = plus_one c.nodes.count (length rest) ∙ sym (ap (λ (names : List (List ℕ)). c.nodes.count + length names) on) ∙ c.nodes.invariant.count;
      from = omega (arith, c.nodes.invariant.from);
      room = omega (arith, size, c.nodes.invariant.room, c.if-name-room.false);
      few = omega (arith, size, c.nodes.invariant.few);
    }

pub returns-clause-names : goal.returns-clause-names
returns-clause-names c =
    sym (ap (λ names. c.nodes.reply ++ listing names) (left_none c.args.table.now c.args.self.now c.args.directory c.nodes.invariant.index c.nodes.room (c.nodes.invariant.next ∙ c.in_default-next.is)) ∙ append_none c.nodes.reply) ∙ c.nodes.invariant.names

pub returns-clause-count : goal.returns-clause-count
returns-clause-count c =
    sym (ap (λ (names : List (List ℕ)). c.nodes.count + length names) (left_none c.args.table.now c.args.self.now c.args.directory c.nodes.invariant.index c.nodes.room (c.nodes.invariant.next ∙ c.in_default-next.is)) ∙ plus_zero c.nodes.count)
    ∙ c.nodes.invariant.count
