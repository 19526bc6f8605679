-- Lists of entries, the nodes that stand for them, and whose they are.
use Rattle.std.proofs.Common.{zero, suc, slice_set, ◌<◌, ◌∙◌, length, sym, ◌≡◌, ◌≢◌, ◌⊎◌, inl, inr, ℕ, ◌||◌, if◌then◌else◌, Bool, true, false, nat_lt, List, [], ◌∷◌, Contains, nat_eq, Option, Some, None, is_some, map, drop, unwrap_or, refl, ap, arith}
use Rattle.std.specs.FinMap as maps
use Rattle.std.specs.List.{AllByRecursion, list_any}
use Rattle.std.specs.Option.{option_or}
use Rattle.std.specs.Ordering.{nat_cmp}
use Rattle.std.proofs.lemmas.Bool.{cases_Bool}
use Rattle.std.proofs.lemmas.List.{get_or-set_other, get_or-set_same}
use Rattle.std.proofs.lemmas.Option.{unwrap_or-slice_get}
use Rattle.std.proofs.lemmas.Bool.Decides.{eqb_tells, nat_tests}
use Rattle.qx_types.specs.declared.names.Prio.{Prio}
use Rattle.qx_types.specs.declared.names.Thread.{Thread}
use Rattle.qx_lists.proofs.ListLemmas.{contains_cases, contains_first, contains_later}
use Rattle.qx_lists.proofs.MapLemmas.{get-insert_same}
use Rattle.qx_isolation.specs.declared.rows.OwnItem.{OwnItem}
use Rattle.qx_isolation.specs.declared.rows.OwnItem.TheVariants as item
use Rattle.qx_isolation.specs.declared.rows.Queued.{Queued}
use Rattle.qx_isolation.specs.Lines.{into, line_at, with_line}
use Rattle.qx_machine.specs.Machine.{queued_item}
use Rattle.qx_queues.specs.Queues.{pulse_call, first_field, is_same_thread, as_message, message_of, sender_of, own_field}
use Rattle.qx_queues.specs.inner.Kept.{named, nobodys, owner_in, node_owner}
use Rattle.qx_queues.specs.Waiting.{Waiting}
use Rattle.qx_queues.specs.Nodes.{Disconnect, Message, Owner, Unblock}

pub or_false : (b : Bool) → (b || false) ≡ b
or_false true = refl
or_false false = refl

pub or_true : (b : Bool) → (b || true) ≡ true
or_true true = refl
or_true false = refl

-- priority insertion, by what the items stand for
pub into-map : {A B : Type 0} (by : A → ℕ) (rank : B → ℕ) (f : A → B) → ((x : A) → by x ≡ rank (f x)) → (xs : List A) (x : A) → map f (into by xs x) ≡ into rank (map f xs) (f x)
into-map by rank f same [] x = refl
into-map by rank f same (y ∷ ys) x =
    let rest = into-map by rank f same ys x in
    rw (same y, same x) (elim (cases_Bool (nat_lt (rank (f y)) (rank (f x)))) [
      | inl above ↦ rw above refl
      | inr below ↦ rw below (ap (λ l. f y ∷ l) rest)
    ])

pub contains_into : (by : ℕ → ℕ) (xs : List ℕ) (x y : ℕ) → Contains (into by xs x) y → Contains xs y ⊎ (y ≡ x)
contains_into by [] x y at = elim (contains_cases x y [] at) [ inl same ↦ inr same | inr later ↦ inl later ]
contains_into by (z ∷ zs) x y at = elim (cases_Bool (nat_lt (by z) (by x))) [
  | inl above ↦
      let here : Contains (x ∷ z ∷ zs) y = rw above at at in
      elim (contains_cases x y (z ∷ zs) here) [ inl same ↦ inr same | inr later ↦ inl later ]
  | inr below ↦
      let here : Contains (z ∷ into by zs x) y = rw below at at in
      elim (contains_cases z y (into by zs x) here) [
        | inl same ↦ rw same (inl (contains_first z zs))
        | inr later ↦ elim (contains_into by zs x y later) [ inl before ↦ inl (contains_later z y zs before) | inr same ↦ inr same ]
      ]
]

-- a list of what nodes stand for, where two readings agree on the nodes
pub map-agree : {B : Type 0} (f g : ℕ → B) (xs : List ℕ) → ((x : ℕ) → Contains xs x → f x ≡ g x) → map f xs ≡ map g xs
map-agree f g [] same = refl
map-agree f g (x ∷ xs) same = rw (same x (contains_first x xs)) (ap (λ l. g x ∷ l) (map-agree f g xs (λ y at. same y (contains_later x y xs at))))

-- one of what nodes stand for passes a test
pub any-there : {B : Type 0} (test : B → Bool) (f : ℕ → B) (nodes : List ℕ) (node : ℕ) → Contains nodes node → test (f node) ≡ true → list_any test (map f nodes) ≡ true
any-there test f [] node at is = absurd (omega (arith, at.1))
any-there test f (x ∷ xs) node at is = elim (contains_cases x node xs at) [
  | inl first ↦ rw (sym first, is) refl
  | inr later ↦ rw (any-there test f xs node later is) (or_true (test (f x)))
]

pub map-drop : {A B : Type 0} (f : A → B) (xs : List A) → map f (drop 1 xs) ≡ drop 1 (map f xs)
map-drop f [] = refl
map-drop f (x ∷ xs) = refl

pub waiting-insert_same : (values : maps.FinMap nat_cmp Waiting) (node : ℕ) (waiting : Waiting) → unwrap_or (maps.get (maps.insert values node waiting) node) nobodys ≡ waiting
waiting-insert_same values node waiting = ap (λ o. unwrap_or o nobodys) (get-insert_same values node waiting)

abbrev thread_of : ℕ → ℕ → ℕ → Thread
thread_of user process thread = record { proc = record { user = record { 0 = user }; num = process }; tid = thread }

same_thread_of : (u v p q s t : ℕ) → u ≡ v → p ≡ q → s ≡ t → thread_of u p s ≡ thread_of v q t
same_thread_of u v p q s t a b c = rw (a, b, c) refl

pub same_names : (one two : Thread) → one.proc.user.0 ≡ two.proc.user.0 → one.proc.num ≡ two.proc.num → one.tid ≡ two.tid → one ≡ two
same_names one two user process thread = same_thread_of _ _ _ _ _ _ user process thread

pub is_same_thread-self : (thread : Thread) → is_same_thread thread thread ≡ true
is_same_thread-self thread = grind (arith, nat_tests)

pub is_same_thread-same : (one other : Thread) → is_same_thread one other ≡ true → one ≡ other
is_same_thread-same one other same = elim (eqb_tells one.proc.user.0 other.proc.user.0) [
  | inr differs ↦ let clash : false ≡ true = rw differs.0 at same in cc
  | inl user ↦ elim (eqb_tells one.proc.num other.proc.num) [
    | inr differs ↦ let clash : false ≡ true = rw (user.0, differs.0) at same in cc
    | inl process ↦ elim (eqb_tells one.tid other.tid) [
      | inr differs ↦ let clash : false ≡ true = rw (user.0, process.0, differs.0) at same in cc
      | inl thread ↦ same_names one other user.1 process.1 thread.1
    ]
  ]
]

pub is_same_thread-differs : (one other : Thread) → one ≢ other → is_same_thread one other ≡ false
is_same_thread-differs one other differs = elim (cases_Bool (is_same_thread one other)) [
  | inl same ↦ absurd (differs (is_same_thread-same one other same))
  | inr other_one ↦ other_one
]

pub or_none : {A : Type 0} (o : Option A) → option_or o None ≡ o
or_none None = refl
or_none (Some x) = refl

-- a thread's messages, or its unblock pulses, are told by an owner
pub record Reads {A : Type 0} (part : OwnItem → Option A) (thread : Thread) (owner : Owner) : Type 0 where
  pub own_name : named owner ≡ owner
  pub of : (entry : Queued) → is_some (own_field part thread entry) ≡ true → node_owner entry ≡ owner
  pub from : (entry : Queued) → node_owner entry ≡ owner → is_some (own_field part thread entry) ≡ true

abbrev pub owned_thread : Owner → Thread → Thread
owned_thread (Message thread) other = thread
owned_thread (Unblock thread) other = thread
owned_thread (Disconnect proc number) other = other

-- what the node of a thread's messages stands for is the thread's message, whatever its priority
pub entry-message : (thread : Thread) (prio : Prio) (entry : Queued) → node_owner entry ≡ Message thread → record entry { prio = prio } ≡ message_of thread prio.0
entry-message thread prio entry is = by_item entry.user.0 entry.item is
  where
    by_item : (user : ℕ) (it : OwnItem) → owner_in (sender_of user it) it ≡ Message thread → queued_item user it prio.0 ≡ message_of thread prio.0
    by_item user (item.Message p n) is = ap (λ owner. message_of (owned_thread owner thread) prio.0) is
    by_item user (item.Unblock p n call) is = absurd (cc)
    by_item user (item.Disconnect p server) is = absurd (cc)

module _ {A : Type 0} (one other : Thread) where
  -- what is told of another thread is nothing
  field_if : (x : Option A) → is_some (if is_same_thread one other then x else None) ≡ true → (one ≡ other) × (is_some x ≡ true)
  field_if x is = elim (cases_Bool (is_same_thread one other)) [
    | inl same ↦ (is_same_thread-same one other same, rw same at is)
    | inr differs ↦ let clash : false ≡ true = rw differs at is in cc
  ]

  field_same : (x : Option A) → one ≡ other → is_some x ≡ true → is_some (if is_same_thread one other then x else None) ≡ true
  field_same x same some = rw (same, is_same_thread-self other) some

pub reads-message : (thread : Thread) → Reads as_message thread (Message thread)
reads-message thread = record { own_name = refl; of = λ entry. of entry.user.0 entry.item; from = λ entry. from entry.user.0 entry.item }
  where
    of : (user : ℕ) (it : OwnItem) → is_some (if is_same_thread (sender_of user it) thread then as_message it else None) ≡ true → owner_in (sender_of user it) it ≡ Message thread
    of user (item.Message p n) is = ap Message (field_if (sender_of user (item.Message p n)) thread (Some tt) is).0
    of user (item.Unblock p n call) is = let clash : false ≡ true = (field_if (sender_of user (item.Unblock p n call)) thread None is).1 in cc
    of user (item.Disconnect p server) is = let clash : false ≡ true = (field_if (sender_of user (item.Disconnect p server)) thread None is).1 in cc

    from : (user : ℕ) (it : OwnItem) → owner_in (sender_of user it) it ≡ Message thread → is_some (if is_same_thread (sender_of user it) thread then as_message it else None) ≡ true
    from user (item.Message p n) is = field_same (sender_of user (item.Message p n)) thread (Some tt) (ap (λ owner. owned_thread owner thread) is) refl
    from user (item.Unblock p n call) is = absurd (cc)
    from user (item.Disconnect p server) is = absurd (cc)

pub reads-call : (thread : Thread) → Reads pulse_call thread (Unblock thread)
reads-call thread = record { own_name = refl; of = λ entry. of entry.user.0 entry.item; from = λ entry. from entry.user.0 entry.item }
  where
    of : (user : ℕ) (it : OwnItem) → is_some (if is_same_thread (sender_of user it) thread then pulse_call it else None) ≡ true → owner_in (sender_of user it) it ≡ Unblock thread
    of user (item.Message p n) is = let clash : false ≡ true = (field_if (sender_of user (item.Message p n)) thread None is).1 in cc
    of user (item.Unblock p n call) is = ap Unblock (field_if (sender_of user (item.Unblock p n call)) thread (Some call) is).0
    of user (item.Disconnect p server) is = let clash : false ≡ true = (field_if (sender_of user (item.Disconnect p server)) thread None is).1 in cc

    from : (user : ℕ) (it : OwnItem) → owner_in (sender_of user it) it ≡ Unblock thread → is_some (if is_same_thread (sender_of user it) thread then pulse_call it else None) ≡ true
    from user (item.Message p n) is = absurd (cc)
    from user (item.Disconnect p server) is = absurd (cc)
    from user (item.Unblock p n call) is = field_same (sender_of user (item.Unblock p n call)) thread (Some call) (ap (λ owner. owned_thread owner thread) is) refl

module _ {A : Type 0} (f : ℕ → Queued) (part : OwnItem → Option A) (thread : Thread) where
  -- a node of the list that stands for such an item of the thread
  pub field-entry : (nodes : List ℕ) (node : ℕ) → Contains nodes node → is_some (own_field part thread (f node)) ≡ true → is_some (first_field part thread (map f nodes)) ≡ true
  field-entry [] node at is = absurd (omega (arith, at.1))
  field-entry (x ∷ xs) node at is = elim (contains_cases x node xs at) [
    | inl first ↦ either (own_field part thread (f x)) (first_field part thread (map f xs)) (inl (rw first at is))
    | inr later ↦ either (own_field part thread (f x)) (first_field part thread (map f xs)) (inr (field-entry xs node later is))
  ]
    where
      either : (o p : Option A) → (is_some o ≡ true) ⊎ (is_some p ≡ true) → is_some (option_or o p) ≡ true
      either None p (inl is) = let clash : false ≡ true = is in cc
      either None p (inr is) = is
      either (Some x) p is = refl

  pub field-find : (a : A) (nodes : List ℕ) → first_field part thread (map f nodes) ≡ Some a → (node : ℕ) × (Contains nodes node × (own_field part thread (f node) ≡ Some a))
  field-find a [] is = cc
  field-find a (x ∷ xs) is = by_first (own_field part thread (f x)) refl (field-find a xs)
    where
      by_first : (o : Option A) → own_field part thread (f x) ≡ o → (first_field part thread (map f xs) ≡ Some a → (node : ℕ) × (Contains xs node × (own_field part thread (f node) ≡ Some a))) → (node : ℕ) × (Contains (x ∷ xs) node × (own_field part thread (f node) ≡ Some a))
      by_first None none later =
          let rest : first_field part thread (map f xs) ≡ Some a = sym (ap (λ o. option_or o (first_field part thread (map f xs))) none) ∙ is in
          let found = later rest in
          (found.0, (contains_later x found.0 xs found.1.0, found.1.1))
      by_first (Some b) some later = (x, (contains_first x xs, some ∙ sym (ap (λ o. option_or o (first_field part thread (map f xs))) some) ∙ is))

pub some_of : {A : Type 0} (o : Option A) → is_some o ≡ true → (a : A) × (o ≡ Some a)
some_of None is = cc
some_of (Some a) is = (a, refl)

pub field-part : {A : Type 0} (b : Bool) (x : Option A) (a : A) → (if b then x else None) ≡ Some a → x ≡ Some a
field-part true x a is = is
field-part false x a is = cc

all_at : (x : ℕ) (xs : List ℕ) (y : ℕ) → AllByRecursion (λ z. nat_eq x z ≡ false) xs → Contains xs y → nat_eq x y ≡ false
all_at x [] y all at = absurd (omega (arith, at.1))
all_at x (z ∷ zs) y all at = elim (contains_cases z y zs at) [
  | inl same ↦ rw same all.0
  | inr later ↦ all_at x zs y all.1 later
]

-- a node stands in a line once
pub differs_from : (x y : ℕ) (xs : List ℕ) → AllByRecursion (λ z. nat_eq x z ≡ false) xs → Contains xs y → x ≡ y → ⊥
differs_from x y xs all at same = clash x (ap (nat_eq x) same ∙ all_at x xs y all at)
  where
    clash : (x : ℕ) → nat_eq x x ≡ false → ⊥
    clash x differs = grind (arith, nat_tests, differs)

-- the lines under their numbers, once one of them was changed
module _ {A : Type 0} (lines : List (List A)) (number : ℕ) (change : List A → List A) where
  pub line_at-same : number < length lines → line_at (with_line lines number change) number ≡ change (line_at lines number)
  line_at-same within = unwrap_or-slice_get (with_line lines number change) number [] ∙ get_or-set_same lines number (change (line_at lines number)) [] within

  pub line_at-other : (other : ℕ) → other ≢ number → line_at (with_line lines number change) other ≡ line_at lines other
  line_at-other other differs = unwrap_or-slice_get (with_line lines number change) other [] ∙ get_or-set_other lines number other (change (line_at lines number)) [] differs ∙ sym (unwrap_or-slice_get lines other [])

-- a line that stays as it is
pub with_line-same : (lines : List (List Queued)) (number : ℕ) (change : List Queued → List Queued) → change (line_at lines number) ≡ line_at lines number → lines ≡ with_line lines number change
with_line-same lines number change same = sym (ap (slice_set lines number) same ∙ set_same lines number)
  where
    set_same : (lines : List (List Queued)) (number : ℕ) → slice_set lines number (line_at lines number) ≡ lines
    set_same [] number = refl
    set_same (line ∷ lines) zero = refl
    set_same (line ∷ lines) (suc number) = ap (λ l. line ∷ l) (set_same lines number)
