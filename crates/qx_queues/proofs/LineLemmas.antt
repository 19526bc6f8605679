-- What a line tells of threads, as items come and go: whether a thread's message stands there, and which call its unblock pulse names.
use Rattle.std.proofs.Common.{◌≡◌, ◌≢◌, inl, inr, ℕ, ◌&&◌, ◌||◌, ◌==◌, if◌then◌else◌, Bool, true, false, nat_lt, List, [], ◌∷◌, Option, Some, None, is_some, map, Contains, nat_eq, refl, sym, ◌∙◌, ap, ap₂, arith}
use Rattle.std.specs.List.{IsDistinct}
use Rattle.std.specs.Option.{option_or}
use Rattle.std.proofs.lemmas.Bool.{cases_Bool}
use Rattle.std.proofs.lemmas.Bool.Decides.{eqb_tells, nat_tests}
use Rattle.std.proofs.lemmas.Option.{same_Some}
use Rattle.qx_types.specs.Managers.{manager_number}
use Rattle.qx_types.proofs.Managers.{same_manager}
use Rattle.qx_types.specs.declared.names.Proc.{Proc}
use Rattle.qx_types.specs.declared.names.Thread.{Thread}
use Rattle.qx_lists.specs.Table.{without}
use Rattle.qx_lists.proofs.ListLemmas.{contains_first, contains_later}
use Rattle.qx_isolation.specs.declared.rows.OwnItem.{OwnItem}
use Rattle.qx_isolation.specs.declared.rows.OwnItem.TheVariants as item
use Rattle.qx_isolation.specs.declared.rows.Queued.{Queued}
use Rattle.qx_isolation.specs.declared.rows.ServerName.{ServerName}
use Rattle.qx_isolation.specs.Lines.{into}
use Rattle.qx_machine.specs.Machine.{is_same_item, line_without}
use Rattle.qx_queues.specs.Queues.{disconnect_of, pulse_call, first_field, is_same_thread, as_message, message_of, no_other, sender, sender_of, stands, own_field, unblock_call, unblock_of}
use Rattle.qx_queues.specs.inner.Kept.{owner_in, node_owner}
use Rattle.qx_queues.specs.Nodes.{Message, Owner, Unblock}
use Rattle.qx_queues.proofs.EntryLemmas.{owned_thread, differs_from, is_same_thread-differs, is_same_thread-same, is_same_thread-self, or_none}

-- the item is this one of the user
abbrev pub is_this : ℕ → OwnItem → Queued → Bool
is_this user it entry = (entry.user.0 == user) && is_same_item entry.item it

same_message : (p q n m : ℕ) → ((p == q) && (n == m)) ≡ true → ◌≡◌ {A = OwnItem} (item.Message p n) (item.Message q m)
same_message p q n m is = elim (eqb_tells p q) [
  | inr differs ↦ let clash : false ≡ true = rw differs.0 at is in cc
  | inl one ↦ elim (eqb_tells n m) [
    | inr differs ↦ let clash : false ≡ true = rw (one.0, differs.0) at is in cc
    | inl two ↦ rw (one.1, two.1) refl
  ]
]

same_unblock : (p q n m c d : ℕ) → ((p == q) && (n == m) && (c == d)) ≡ true → ◌≡◌ {A = OwnItem} (item.Unblock p n c) (item.Unblock q m d)
same_unblock p q n m c d is = elim (eqb_tells p q) [
  | inr differs ↦ let clash : false ≡ true = rw differs.0 at is in cc
  | inl one ↦ elim (eqb_tells n m) [
    | inr differs ↦ let clash : false ≡ true = rw (one.0, differs.0) at is in cc
    | inl two ↦ elim (eqb_tells c d) [
      | inr differs ↦ let clash : false ≡ true = rw (one.0, two.0, differs.0) at is in cc
      | inl three ↦ rw (one.1, two.1, three.1) refl
    ]
  ]
]

same_disconnect : (p q : ℕ) (s r : ServerName) → ((p == q) && (manager_number s.manager == manager_number r.manager) && (s.number == r.number)) ≡ true → ◌≡◌ {A = OwnItem} (item.Disconnect p s) (item.Disconnect q r)
same_disconnect p q s r is = elim (eqb_tells p q) [
  | inr differs ↦ let clash : false ≡ true = rw differs.0 at is in cc
  | inl one ↦ elim (eqb_tells (manager_number s.manager) (manager_number r.manager)) [
    | inr differs ↦ let clash : false ≡ true = rw (one.0, differs.0) at is in cc
    | inl two ↦ elim (eqb_tells s.number r.number) [
      | inr differs ↦ let clash : false ≡ true = rw (one.0, two.0, differs.0) at is in cc
      | inl three ↦ λ i. item.Disconnect (one.1 i) (record { manager = same_manager s.manager r.manager two.1 i; number = three.1 i })
    ]
  ]
]

same_item : (one other : OwnItem) → is_same_item one other ≡ true → one ≡ other
same_item (item.Message p n) (item.Message q m) is = same_message p q n m is
same_item (item.Message p n) (item.Unblock q m d) is = cc
same_item (item.Message p n) (item.Disconnect q r) is = cc
same_item (item.Unblock p n c) (item.Message q m) is = cc
same_item (item.Unblock p n c) (item.Unblock q m d) is = same_unblock p q n m c d is
same_item (item.Unblock p n c) (item.Disconnect q r) is = cc
same_item (item.Disconnect p s) (item.Message q m) is = cc
same_item (item.Disconnect p s) (item.Unblock q m d) is = cc
same_item (item.Disconnect p s) (item.Disconnect q r) is = same_disconnect p q s r is

pub this_is : (user : ℕ) (it : OwnItem) (entry : Queued) → is_this user it entry ≡ true → (entry.user.0 ≡ user) × (entry.item ≡ it)
this_is user it entry is = elim (eqb_tells entry.user.0 user) [
  | inr differs ↦ let clash : false ≡ true = rw differs.0 at is in cc
  | inl same ↦ (same.1, same_item entry.item it (rw same.0 at is))
]

-- the item of a thread is that of its owner
abbrev item_owner : ℕ → OwnItem → Owner
item_owner user it = owner_in (sender_of user it) it

pub owner-this : (user : ℕ) (it : OwnItem) (entry : Queued) → is_this user it entry ≡ true → node_owner entry ≡ owner_in (sender_of user it) it
owner-this user it entry is = let same = this_is user it entry is in ap₂ item_owner same.0 same.1

pub this-message : (thread : Thread) (entry : Queued) → node_owner entry ≡ Message thread → is_this thread.proc.user.0 (item.Message thread.proc.num thread.tid) entry ≡ true
this-message thread entry = by_item entry.user.0 entry.item
  where
    by_item : (user : ℕ) (it : OwnItem) → item_owner user it ≡ Message thread → ((user == thread.proc.user.0) && is_same_item it (item.Message thread.proc.num thread.tid)) ≡ true
    by_item user (item.Message p n) is = let same : sender_of user (item.Message p n) ≡ thread = ap (λ owner. owned_thread owner thread) is in rw (← same) (grind (arith, nat_tests))
    by_item user (item.Unblock p n c) is = absurd (cc)
    by_item user (item.Disconnect p server) is = absurd (cc)

pub this-unblock : (thread : Thread) (call : ℕ) (entry : Queued) → node_owner entry ≡ Unblock thread → pulse_call entry.item ≡ Some call → is_this thread.proc.user.0 (item.Unblock thread.proc.num thread.tid call) entry ≡ true
this-unblock thread call entry = by_item entry.user.0 entry.item
  where
    by_item : (user : ℕ) (it : OwnItem) → item_owner user it ≡ Unblock thread → pulse_call it ≡ Some call → ((user == thread.proc.user.0) && is_same_item it (item.Unblock thread.proc.num thread.tid call)) ≡ true
    by_item user (item.Message p n) is names = absurd (cc)
    by_item user (item.Disconnect p server) is names = absurd (cc)
    by_item user (item.Unblock p n c) is names =
        let same : sender_of user (item.Unblock p n c) ≡ thread = ap (λ owner. owned_thread owner thread) is in
        let here : c ≡ call = same_Some c call names in
        rw (← same, ← here) (grind (arith, nat_tests))

-- a pulse that names another call
pub other-unblock : (thread : Thread) (call other : ℕ) (entry : Queued) → pulse_call entry.item ≡ Some other → other ≢ call → is_this thread.proc.user.0 (item.Unblock thread.proc.num thread.tid call) entry ≡ false
other-unblock thread call other entry names differs = elim (cases_Bool (is_this thread.proc.user.0 (item.Unblock thread.proc.num thread.tid call) entry)) [
  | inr apart ↦ apart
  | inl is ↦ absurd (differs (same_Some other call (sym names ∙ ap pulse_call (this_is thread.proc.user.0 (item.Unblock thread.proc.num thread.tid call) entry is).1)))
]

some_of_none : {A : Type 0} (a : A) (o : Option A) → o ≡ None → o ≡ Some a → ⊥
some_of_none a o none some = let clash : None ≡ Some a = sym none ∙ some in cc

both_none : {A : Type 0} (o p : Option A) → option_or o p ≡ None → (o ≡ None) × (p ≡ None)
both_none None p none = (refl, none)
both_none (Some x) p none = cc

module _ {A : Type 0} (part : OwnItem → Option A) (thread : Thread) where
  -- what a user's item tells
  abbrev pub field_of : ℕ → OwnItem → Option A
  field_of user it = if is_same_thread (sender_of user it) thread then part it else None

  field-this : (user : ℕ) (it : OwnItem) (entry : Queued) → is_this user it entry ≡ true → own_field part thread entry ≡ field_of user it
  field-this user it entry is = let same = this_is user it entry is in ap₂ field_of same.0 same.1

  -- an item comes that tells nothing of the thread
  pub field-into_none : (rank : Queued → ℕ) (line : List Queued) (entry : Queued) → own_field part thread entry ≡ None → first_field part thread (into rank line entry) ≡ first_field part thread line
  field-into_none rank [] entry none = rw none refl
  field-into_none rank (first ∷ line) entry none =
      let rest = field-into_none rank line entry none in
      elim (cases_Bool (nat_lt (rank first) (rank entry))) [
        | inl above ↦ rw (above, none) refl
        | inr below ↦ rw (below, rest) refl
      ]

  -- an item comes where none tells anything of the thread
  pub field-into : (rank : Queued → ℕ) (line : List Queued) (entry : Queued) → first_field part thread line ≡ None → first_field part thread (into rank line entry) ≡ own_field part thread entry
  field-into rank [] entry none = or_none (own_field part thread entry)
  field-into rank (first ∷ line) entry none =
      let both = both_none (own_field part thread first) (first_field part thread line) none in
      let rest = field-into rank line entry both.1 in
      elim (cases_Bool (nat_lt (rank first) (rank entry))) [
        | inl above ↦ rw (above, none) (or_none (own_field part thread entry))
        | inr below ↦ rw (below, both.0, rest) refl
      ]

  -- an item goes that is not the thread's
  pub field-without : (user : ℕ) (it : OwnItem) (line : List Queued) → ((a : A) → field_of user it ≡ Some a → first_field part thread line ≢ Some a) → first_field part thread (line_without user it line) ≡ first_field part thread line
  field-without user it [] other = refl
  field-without user it (first ∷ line) other = elim (cases_Bool (is_this user it first)) [
    | inl this ↦ rw this (gone (own_field part thread first) (first_field part thread line) (λ a some. other a (sym (field-this user it first this) ∙ some)))
    | inr differs ↦ rw differs (stays (own_field part thread first) _ (first_field part thread line) other (field-without user it line))
  ]
    where
      gone : (o p : Option A) → ((a : A) → o ≡ Some a → option_or o p ≢ Some a) → p ≡ option_or o p
      gone None p differs = refl
      gone (Some a) p differs = absurd (differs a refl refl)

      stays : (o new p : Option A) → ((a : A) → field_of user it ≡ Some a → option_or o p ≢ Some a) → (((a : A) → field_of user it ≡ Some a → p ≢ Some a) → new ≡ p) → option_or o new ≡ option_or o p
      stays None new p differs rest = rest differs
      stays (Some x) new p differs rest = refl

  -- where nothing is told of the thread, no such item stands
  pub without-none : (user : ℕ) (it : OwnItem) (line : List Queued) → is_some (field_of user it) ≡ true → first_field part thread line ≡ None → line_without user it line ≡ line
  without-none user it [] some none = refl
  without-none user it (first ∷ line) some none =
      let both = both_none (own_field part thread first) (first_field part thread line) none in
      elim (cases_Bool (is_this user it first)) [
        | inl this ↦ let clash : true ≡ false = sym some ∙ ap is_some (sym (field-this user it first this) ∙ both.0) in absurd (cc)
        | inr differs ↦ rw differs (ap (λ l. first ∷ l) (without-none user it line some both.1))
      ]

some-or : {A : Type 0} (o p : Option A) → is_some (option_or o p) ≡ (is_some o || is_some p)
some-or None p = refl
some-or (Some x) p = refl

or-later : (a b c : Bool) → (c || (a || b)) ≡ ((a || b) || c)
or-later true b true = refl
or-later true b false = refl
or-later false true true = refl
or-later false true false = refl
or-later false false true = refl
or-later false false false = refl

or-assoc : (a b c : Bool) → (a || (b || c)) ≡ ((a || b) || c)
or-assoc true b c = refl
or-assoc false b c = refl

-- whether anything is told of the thread, once an item comes
pub some-into : {A : Type 0} (part : OwnItem → Option A) (thread : Thread) (rank : Queued → ℕ) (line : List Queued) (entry : Queued) → is_some (first_field part thread (into rank line entry)) ≡ (is_some (first_field part thread line) || is_some (own_field part thread entry))
some-into part thread rank [] entry = ap is_some (or_none (own_field part thread entry))
some-into part thread rank (first ∷ line) entry =
    let rest = some-into part thread rank line entry in
    elim (cases_Bool (nat_lt (rank first) (rank entry))) [
      | inl above ↦ rw above (some-or (own_field part thread entry) (first_field part thread (first ∷ line)) ∙ ap (λ b. is_some (own_field part thread entry) || b) (some-or (own_field part thread first) (first_field part thread line)) ∙ or-later (is_some (own_field part thread first)) (is_some (first_field part thread line)) (is_some (own_field part thread entry)) ∙ ap (λ b. b || is_some (own_field part thread entry)) (sym (some-or (own_field part thread first) (first_field part thread line))))
      | inr below ↦ rw below (some-or (own_field part thread first) (first_field part thread (into rank line entry)) ∙ ap (λ b. is_some (own_field part thread first) || b) rest ∙ or-assoc (is_some (own_field part thread first)) (is_some (first_field part thread line)) (is_some (own_field part thread entry)) ∙ ap (λ b. b || is_some (own_field part thread entry)) (sym (some-or (own_field part thread first) (first_field part thread line))))
    ]

-- a user's item leaves where its node does
module _ (f : ℕ → Queued) (user : ℕ) (it : OwnItem) where
  pub without-absent : (xs : List ℕ) → ((x : ℕ) → Contains xs x → is_this user it (f x) ≡ false) → line_without user it (map f xs) ≡ map f xs
  without-absent [] none = refl
  without-absent (x ∷ xs) none = rw (none x (contains_first x xs)) (ap (λ l. f x ∷ l) (without-absent xs (λ y at. none y (contains_later x y xs at))))

  pub without-map : (node : ℕ) (xs : List ℕ) → IsDistinct nat_eq xs → ((x : ℕ) → Contains xs x → is_this user it (f x) ≡ (x == node)) → map f (without node xs) ≡ line_without user it (map f xs)
  unfolding IsDistinct
  without-map node [] distinct same = refl
  without-map node (x ∷ xs) distinct same = elim (eqb_tells x node) [
    | inl this ↦ rw (this.0, same x (contains_first x xs)) (rw this.0 (ap (map f) (without-other node xs (λ y at is. differs_from x y xs distinct.0 at (this.1 ∙ sym is)))))
    | inr other ↦ rw (other.0, same x (contains_first x xs)) (rw other.0 (ap (λ l. f x ∷ l) (without-map node xs distinct.1 (λ y at. same y (contains_later x y xs at)))))
  ]
    where
      without-other : (node : ℕ) (xs : List ℕ) → ((y : ℕ) → Contains xs y → y ≢ node) → without node xs ≡ xs
      without-other node [] differs = refl
      without-other node (y ∷ ys) differs = elim (eqb_tells y node) [
        | inl same ↦ absurd (differs y (contains_first y ys) same.1)
        | inr other ↦ rw other.0 (ap (λ l. y ∷ l) (without-other node ys (λ z at. differs z (contains_later y z ys at))))
      ]

field-nothing : {A : Type 0} (b : Bool) → ◌≡◌ {A = Option A} (if b then None else None) None
field-nothing true = refl
field-nothing false = refl

some-if : {A : Type 0} (b : Bool) (x : A) → is_some (if b then Some x else None) ≡ b
some-if true x = refl
some-if false x = refl

if_not : {A : Type 0} (thread other : Thread) (x : Option A) → other ≢ thread → (if is_same_thread thread other then x else None) ≡ None
if_not thread other x differs = rw (is_same_thread-differs thread other (λ same. differs (sym same))) refl

-- a message goes into a line
module _ (rank : Queued → ℕ) (line : List Queued) (thread : Thread) (prio : ℕ) (other : Thread) where
  pub call-sent : unblock_call (into rank line (message_of thread prio)) other ≡ unblock_call line other
  call-sent = field-into_none pulse_call other rank line (message_of thread prio) (field-nothing (is_same_thread thread other))

  pub stands-sent : stands (into rank line (message_of thread prio)) other ≡ (stands line other || is_same_thread thread other)
  stands-sent = some-into as_message other rank line (message_of thread prio) ∙ ap (λ b. stands line other || b) (some-if (is_same_thread thread other) tt)

-- an unblock pulse goes into a line
module _ (rank : Queued → ℕ) (line : List Queued) (thread : Thread) (call prio : ℕ) (other : Thread) where
  pub stands-asked : stands (into rank line (unblock_of thread call prio)) other ≡ stands line other
  stands-asked = ap is_some (field-into_none as_message other rank line (unblock_of thread call prio) (field-nothing (is_same_thread thread other)))

  pub call-asked : unblock_call line thread ≡ None → unblock_call (into rank line (unblock_of thread call prio)) other ≡ (if is_same_thread thread other then Some call else unblock_call line other)
  call-asked none = elim (cases_Bool (is_same_thread thread other)) [
    | inl same ↦ rw (← is_same_thread-same thread other same, is_same_thread-self thread) (field-into pulse_call thread rank line (unblock_of thread call prio) none ∙ field_here)
    | inr differs ↦ rw differs (field-into_none pulse_call other rank line (unblock_of thread call prio) (rw differs refl))
  ]
    where
      field_here : own_field pulse_call thread (unblock_of thread call prio) ≡ Some call
      field_here = rw (is_same_thread-self thread) refl

-- a disconnect pulse goes into a line
module _ (rank : Queued → ℕ) (line : List Queued) (proc : Proc) (server : ServerName) (prio : ℕ) (other : Thread) where
  pub stands-disconnected : stands (into rank line (disconnect_of proc server prio)) other ≡ stands line other
  stands-disconnected = ap is_some (field-into_none as_message other rank line (disconnect_of proc server prio) (field-nothing (is_same_thread (sender (disconnect_of proc server prio)) other)))

  pub call-disconnected : unblock_call (into rank line (disconnect_of proc server prio)) other ≡ unblock_call line other
  call-disconnected = field-into_none pulse_call other rank line (disconnect_of proc server prio) (field-nothing (is_same_thread (sender (disconnect_of proc server prio)) other))

-- a thread's message goes out of a line
module _ (line : List Queued) (thread other : Thread) where
  abbrev withdrawn : List Queued
  withdrawn = line_without thread.proc.user.0 (item.Message thread.proc.num thread.tid) line

  pub call-withdrawn : unblock_call withdrawn other ≡ unblock_call line other
  call-withdrawn = field-without pulse_call other thread.proc.user.0 (item.Message thread.proc.num thread.tid) line (λ a is. absurd (some_of_none a _ (field-nothing (is_same_thread thread other)) is))

  pub stands-withdrawn_other : other ≢ thread → stands withdrawn other ≡ stands line other
  stands-withdrawn_other differs = ap is_some (field-without as_message other thread.proc.user.0 (item.Message thread.proc.num thread.tid) line (λ a is. absurd (some_of_none a _ (if_not thread other (Some tt) differs) is)))

-- an unblock pulse goes out of a line, if it stands there
module _ (line : List Queued) (thread : Thread) (call : ℕ) where
  abbrev replied : List Queued
  replied = line_without thread.proc.user.0 (item.Unblock thread.proc.num thread.tid call) line

  pub stands-replied : (other : Thread) → stands replied other ≡ stands line other
  stands-replied other = ap is_some (field-without as_message other thread.proc.user.0 (item.Unblock thread.proc.num thread.tid call) line (λ a is. absurd (some_of_none a _ (field-nothing (is_same_thread thread other)) is)))

  pub call-replied_other : (other : Thread) → other ≢ thread → unblock_call replied other ≡ unblock_call line other
  call-replied_other other differs = field-without pulse_call other thread.proc.user.0 (item.Unblock thread.proc.num thread.tid call) line (λ a is. absurd (some_of_none a _ (if_not thread other (Some call) differs) is))

  pub replied-none : unblock_call line thread ≡ None → replied ≡ line
  replied-none none = without-none pulse_call thread thread.proc.user.0 (item.Unblock thread.proc.num thread.tid call) line (rw (is_same_thread-self thread) refl) none

-- the first item goes out of a line
module _ (first : Queued) (line : List Queued) (other : Thread) where
  pub stands-received_other : sender first ≢ other → stands (first ∷ line) other ≡ stands line other
  stands-received_other differs = rw (is_same_thread-differs (sender first) other differs) refl

  pub call-received_other : sender first ≢ other → unblock_call (first ∷ line) other ≡ unblock_call line other
  call-received_other differs = rw (is_same_thread-differs (sender first) other differs) refl

  -- of what is no unblock pulse, and of what is no message
  pub call-received : pulse_call first.item ≡ None → unblock_call (first ∷ line) other ≡ unblock_call line other
  call-received none = ap (λ o. option_or o (unblock_call line other)) (ap (λ o. if is_same_thread (sender first) other then o else None) none ∙ field-nothing (is_same_thread (sender first) other))

  pub stands-received : as_message first.item ≡ None → stands (first ∷ line) other ≡ stands line other
  stands-received none = ap (λ o. is_some (option_or o (first_field as_message other line))) (ap (λ o. if is_same_thread (sender first) other then o else None) none ∙ field-nothing (is_same_thread (sender first) other))

pub gone-pulse : (it : OwnItem) (thread : Thread) (line : List Queued) (call : ℕ) → pulse_call it ≡ Some call → no_other it thread line → unblock_call line thread ≡ None
gone-pulse (item.Message process number) thread line call names gone = cc
gone-pulse (item.Unblock process number other) thread line call names gone = gone
gone-pulse (item.Disconnect process server) thread line call names gone = cc
