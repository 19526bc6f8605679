-- Lists, as they are made.
use Rattle.std.proofs.Common.{◌≡◌, ◌⊎◌, ◌+◌, ◌<◌, inl, inr, ℕ, zero, suc, List, [], ◌∷◌, ◌++◌, Option, Some, None, is_some, length, length-append, map, get_or, replicate, slice_get, unwrap_or, refl, sym, ◌∙◌, ap, ap₂, arith}
use Rattle.std.specs.FinMap as maps
use Rattle.std.proofs.Math.Seq.{get_or-append_seam}
use Rattle.std.proofs.lemmas.List.{get_or_append_left}
use Rattle.std.proofs.lemmas.Bool.{cases_lt}
use Rattle.std.proofs.lemmas.Option.{slice_get-get_or}
use Rattle.qx_types.specs.declared.limits.TheConstants.Limits.{PROCESSES}
use Rattle.qx_lists.specs.Table.{Table, nodes_of}
use Rattle.qx_lists.proofs.MapLemmas.{get-insert_same, get-insert_other}
use Rattle.qx_machine.specs.declared.rows.Event.{Event}
use Rattle.qx_machine.specs.Events.{event_count, no_events}
use Rattle.qx_notify.specs.Events.{AreLimited, nothing_armed}
use Rattle.qx_notify.specs.inner.Kept.{AreNew, IsList, KeepsLists, EventLists, event_at, events_in, given, lists_at, lists_of, no_lists, pulses_in, shown_events}

pub slice_get-push : {A : Type 0} (xs : List A) (y : A) (k : ℕ) (x : A) → slice_get (xs ++ y ∷ []) k ≡ Some x → (slice_get xs k ≡ Some x) ⊎ ((k ≡ length xs) × (x ≡ y))
slice_get-push [] y zero x is = let same : y ≡ x = cc in inr (refl, sym same)
slice_get-push {A} [] y (suc k) x is = let clash : None ≡ Some x = is in absurd (cc)
slice_get-push (z ∷ zs) y zero x is = inl is
slice_get-push (z ∷ zs) y (suc k) x is = elim (slice_get-push zs y k x is) [ inl before ↦ inl before | inr last ↦ inr (ap suc last.0, last.1) ]

none_some : {A : Type 0} (x : A) (o : Option A) → o ≡ None → o ≡ Some x → ⊥
none_some x o none some = absurd (cc)

absent-before : {A : Type 0} (o p : Option A) → p ≡ None → ((x : A) → o ≡ Some x → p ≡ Some x) → o ≡ None
absent-before None p none kept = refl
absent-before (Some x) p none kept = absurd (none_some x p none (kept x refl))

pub new-none : (t : Table Event) → AreNew t t []
new-none t = record {
  empty = λ k list is. absurd (none_some list None refl is);
  was_new = λ k list is. absurd (none_some list None refl is);
  apart = λ k other list is also. absurd (none_some list None refl is);
  others = λ list nodes is. is;
  values = refl;
  room = refl;
}

-- one more list is made
pub new-more : (t mid new : Table Event) (lists : List ℕ) (list : ℕ) → AreNew t mid lists → maps.get mid.lists list ≡ None → new ≡ record mid { lists = maps.insert mid.lists list [] } → AreNew t new (lists ++ list ∷ [])
new-more t mid new lists list are none made = rw made (record {
  empty = λ k one is. elim (slice_get-push lists list k one is) [
    | inl before ↦ get-insert_other mid.lists list [] one (λ same. none_some [] (maps.get mid.lists one) (ap (maps.get mid.lists) same ∙ none) (are.empty k one before)) ∙ are.empty k one before
    | inr last ↦ rw last.1 (get-insert_same mid.lists list [])
  ];
  was_new = λ k one is. elim (slice_get-push lists list k one is) [
    | inl before ↦ are.was_new k one before
    | inr last ↦ rw last.1 (absent-before (maps.get t.lists list) (maps.get mid.lists list) none (are.others list))
  ];
  apart = λ k other one is also. elim (slice_get-push lists list k one is) [
    | inl before ↦ elim (slice_get-push lists list other one also) [
      | inl too ↦ are.apart k other one before too
      | inr last ↦ absurd (none_some [] (maps.get mid.lists one) (ap (maps.get mid.lists) last.1 ∙ none) (are.empty k one before))
    ]
    | inr last ↦ elim (slice_get-push lists list other one also) [
      | inl too ↦ absurd (none_some [] (maps.get mid.lists one) (ap (maps.get mid.lists) last.1 ∙ none) (are.empty other one too))
      | inr both ↦ last.0 ∙ sym both.0
    ]
  ];
  others = λ one nodes is. get-insert_other mid.lists list [] one (λ same. none_some nodes (maps.get mid.lists one) (ap (maps.get mid.lists) same ∙ none) (are.others one nodes is)) ∙ are.others one nodes is;
  values = are.values;
  room = are.room;
})

-- ---- the lists of all users, as they are made

-- each list is there, is empty and is of one user
pub record AreEmpty (t : Table Event) (all : List EventLists) : Type 0 where
  pub empty : (user number list : ℕ) → IsList all user number list → maps.get t.lists list ≡ Some []
  pub apart : (user number other also list : ℕ) → IsList all user number list → IsList all other also list → (user ≡ other) × (number ≡ also)
  pub places : (user : ℕ) → user < length all → length (lists_at all user).pulses ≡ PROCESSES + 1

no_list : (user number list : ℕ) → IsList [] user number list → ⊥
no_list user number list is = omega (arith, is.within)

pub empty-none : (t : Table Event) → AreEmpty t []
empty-none t = record {
  empty = λ user number list is. absurd (no_list user number list is);
  apart = λ user number other also list is too. absurd (no_list user number list is);
  places = λ user within. absurd (omega arith);
}

module _ (all : List EventLists) (lists : EventLists) where
  -- a list of theirs is of one that was there or of the new one
  list-cases : (user number list : ℕ) → IsList (all ++ lists ∷ []) user number list → IsList all user number list ⊎ ((user ≡ length all) × (slice_get (lists_of lists) number ≡ Some list))
  list-cases user number list is = elim (cases_lt user (length all)) [
    | inl before ↦ inl (record { within = before; is = ap (λ l. slice_get (lists_of l) number) (sym (get_or_append_left all (lists ∷ []) no_lists user before)) ∙ is.is })
    | inr not_before ↦
        let last : user ≡ length all = omega (arith, is.within, length-append all (lists ∷ [])) in
        inr (last, ap (λ l. slice_get (lists_of l) number) (sym (ap (λ u. get_or (all ++ lists ∷ []) u no_lists) last ∙ get_or-append_seam all lists [] no_lists)) ∙ is.is)
  ]

pub empty-more : (t new : Table Event) (all : List EventLists) (lists : EventLists) → AreEmpty t all → AreNew t new (lists_of lists) → length lists.pulses ≡ PROCESSES + 1 → AreEmpty new (all ++ lists ∷ [])
empty-more t new all lists are made places = record {
  empty = λ user number list is. elim (list-cases all lists user number list is) [
    | inl before ↦ made.others list [] (are.empty user number list before)
    | inr last ↦ made.empty number list last.1
  ];
  apart = λ user number other also list is too. elim (list-cases all lists user number list is) [
    | inl before ↦ elim (list-cases all lists other also list too) [
      | inl other_before ↦ are.apart user number other also list before other_before
      | inr last ↦ absurd (none_some [] (maps.get t.lists list) (made.was_new also list last.1) (are.empty user number list before))
    ]
    | inr last ↦ elim (list-cases all lists other also list too) [
      | inl other_before ↦ absurd (none_some [] (maps.get t.lists list) (made.was_new number list last.1) (are.empty other also list other_before))
      | inr both ↦ (last.0 ∙ sym both.0, made.apart number also list last.1 both.1)
    ]
  ];
  places = λ user within. elim (cases_lt user (length all)) [
    | inl before ↦ rw (get_or_append_left all (lists ∷ []) no_lists user before) (are.places user before)
    | inr not_before ↦ let last : user ≡ length all = omega (arith, within, length-append all (lists ∷ [])) in rw (last, get_or-append_seam all lists [] no_lists) places
  ];
}

-- what stands under every number is one thing
constant : {A B : Type 0} (f : A → B) (b : B) (d : A) (xs : List A) → ((k : ℕ) → k < length xs → f (get_or xs k d) ≡ b) → map f xs ≡ replicate (length xs) b
constant f b d [] is = refl
constant f b d (x ∷ xs) is = ap₂ (λ y ys. y ∷ ys) (is 0 (omega arith)) (constant f b d xs (λ k within. is (suc k) (omega arith)))

module _ (t : Table Event) (all : List EventLists) (are : AreEmpty t all) where
  nothing-in : (user number list : ℕ) → IsList all user number list → nodes_of t list ≡ []
  nothing-in user number list is = ap (λ o. unwrap_or o []) (are.empty user number list is)

  events-none : (user : ℕ) → user < length all → events_in t (lists_at all user) ≡ no_events
  events-none user within =
      let lists = lists_at all user in
      let armed = ap (map (event_at t)) (nothing-in user 0 lists.armed (record { within = within; is = refl })) in
      let pulses =
      constant (pulses_in t) [] 0 lists.pulses (λ k at. ap (map (λ node. given (event_at t node))) (nothing-in user (suc k) (get_or lists.pulses k 0) (record { within = within; is = slice_get-get_or lists.pulses k 0 at })))
      ∙ ap (λ n. replicate n []) (are.places user within) in
      λ i. record { armed = armed i; pulses = pulses i }

  pub empty-told : (users : ℕ) → length all ≡ users + 1 → t.room ≡ 0 → shown_events t all ≡ nothing_armed users
  empty-told users count room =
      let events = constant (events_in t) no_events no_lists all events-none ∙ ap (λ n. replicate n no_events) count in
      λ i. record { events = events i; room = room i }

  none-limited : AreLimited no_events
  none-limited = record { few = omega arith; places = refl; processes = tt; once = λ block. omega arith }

  pub empty-kept : (counts : List ℕ) → counts ≡ replicate (length all) 0 → KeepsLists t all counts
  empty-kept counts none = record {
    there = λ user number list is. ap is_some (are.empty user number list is);
    apart = are.apart;
    limited = λ user within. rw (events-none user within) none-limited;
    counted = none ∙ sym (constant (λ lists. event_count (events_in t lists)) 0 no_lists all (λ k within. ap event_count (events-none k within)));
  }
