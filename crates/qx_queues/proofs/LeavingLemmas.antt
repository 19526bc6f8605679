-- The value, as calls leave a list and are answered.
use Rattle.std.proofs.Common.{◌≡◌, inl, inr, ℕ, ◌<◌, Bool, true, false, List, [], ◌∷◌, drop, take, map, length, Option, Some, None, is_some, slice_get, unwrap_or, refl, sym, ◌∙◌, ap, ap₂, append-nil, append_assoc, arith}
use Rattle.std.specs.Prelude.{filter}
use Rattle.std.specs.FinMap as maps
use Rattle.std.specs.List.{list_any}
use Rattle.std.specs.Ordering.{nat_cmp}
use Rattle.std.proofs.lemmas.Bool.Decides.{eqb_tells}
use Rattle.qx_lists.proofs.MapLemmas.{get-insert_other, get-insert_same, get-remove_other, get-remove_same, insert-there, same_map}
use Rattle.qx_types.specs.declared.outcome.Answer.{Answer}
use Rattle.qx_machine.specs.Waiting.{is_written}
use Rattle.qx_machine.specs.Pipes.{staying}
use Rattle.qx_queues.specs.Queues.{HasList, Queues, UsersCall, answer_to, waiting_in_list, with_more_answers, with_waiting}
use Rattle.qx_queues.specs.inner.Waits.{without_first}
use Rattle.qx_queues.proofs.EntryLemmas.{or_false}
use Rattle.qx_queues.proofs.WalkLemmas.{all-stay, leaves-first}

-- an entry that is written twice, and one that is removed then
insert-twice : {X : Type 0} (m : maps.FinMap nat_cmp X) (k : ℕ) (v w : X) → maps.insert (maps.insert m k v) k w ≡ maps.insert m k w
insert-twice m k v w = same_map _ _ (λ q. elim (eqb_tells q k) [
  | inl same ↦ rw same.1 (get-insert_same (maps.insert m k v) k w ∙ sym (get-insert_same m k w))
  | inr differs ↦ get-insert_other (maps.insert m k v) k w q differs.1 ∙ get-insert_other m k v q differs.1 ∙ sym (get-insert_other m k w q differs.1)
])

pub remove-inserted : {X : Type 0} (m : maps.FinMap nat_cmp X) (k : ℕ) (v : X) → maps.remove (maps.insert m k v) k ≡ maps.remove m k
remove-inserted m k v = same_map _ _ (λ q. elim (eqb_tells q k) [
  | inl same ↦ rw same.1 (get-remove_same (maps.insert m k v) k ∙ sym (get-remove_same m k))
  | inr differs ↦ get-remove_other (maps.insert m k v) k q differs.1 ∙ get-insert_other m k v q differs.1 ∙ sym (get-remove_other m k q differs.1)
])

some-of : (o : Option (List UsersCall)) → is_some o ≡ true → o ≡ Some (unwrap_or o [])
some-of None is = let clash : false ≡ true = is in absurd (cc)
some-of (Some xs) is = refl

pub waiting-same : (c : Queues) (list : ℕ) (calls : List UsersCall) → waiting_in_list (with_waiting c list calls) list ≡ calls
waiting-same c list calls = ap (λ o. unwrap_or o []) (get-insert_same c.pipes list calls)

pub has-waiting : (c : Queues) (list : ℕ) (calls : List UsersCall) → HasList (with_waiting c list calls) list
has-waiting c list calls = ap is_some (get-insert_same c.pipes list calls)

module _ (test : UsersCall → Bool) (list : ℕ) where
  -- those calls leave the list
  abbrev pub taken : Queues → Queues
  taken c = with_waiting c list (staying test (waiting_in_list c list))

  -- and are answered
  abbrev pub dismissed : Answer → Queues → Queues
  dismissed answer c = with_more_answers (taken c) (map (λ own. answer_to own answer) (filter test (waiting_in_list c list)))

  module _ (c : Queues) where
    abbrev pub first_gone : Queues
    first_gone = with_waiting c list (without_first test (waiting_in_list c list))

    -- the first leaves, and then the others
    module _ (first : UsersCall) (is : slice_get (filter test (waiting_in_list c list)) 0 ≡ Some first) where
      pub taken-first : taken first_gone ≡ taken c
      taken-first =
          ap (λ calls. with_waiting first_gone list (staying test calls)) (waiting-same c list (without_first test (waiting_in_list c list)))
          ∙ ap (λ pipes. record c { pipes = pipes }) (insert-twice c.pipes list _ (staying test (without_first test (waiting_in_list c list))))
          ∙ ap (with_waiting c list) (leaves-first test (waiting_in_list c list) first is).stays

      pub dismissed-first : (answer : Answer) → dismissed answer (with_more_answers first_gone (answer_to first answer ∷ [])) ≡ dismissed answer c
      dismissed-first answer =
          ap₂ (λ after calls. with_more_answers (with_more_answers after (answer_to first answer ∷ [])) (map (λ own. answer_to own answer) (filter test calls))) taken-first (waiting-same c list (without_first test (waiting_in_list c list)))
          ∙ ap (λ answers. record (taken c) { answered = answers }) (append_assoc c.answered (answer_to first answer ∷ []) _)
          ∙ ap (λ calls. with_more_answers (taken c) (map (λ own. answer_to own answer) calls)) (sym (leaves-first test (waiting_in_list c list) first is).split)

      pub first-fewer : length (waiting_in_list first_gone list) < length (waiting_in_list c list)
      first-fewer = rw (waiting-same c list (without_first test (waiting_in_list c list))) (leaves-first test (waiting_in_list c list) first is).fewer

    -- none is left to leave
    module _ (has : HasList c list) (is : slice_get (filter test (waiting_in_list c list)) 0 ≡ None) where
      pub taken-none : taken c ≡ c
      taken-none = ap (with_waiting c list) (all-stay test (waiting_in_list c list) is).stays ∙ ap (λ pipes. record c { pipes = pipes }) (insert-there c.pipes list (waiting_in_list c list) (some-of (maps.get c.pipes list) has))

      pub dismissed-none : (answer : Answer) → dismissed answer c ≡ c
      dismissed-none answer =
          ap₂ (λ after calls. with_more_answers after (map (λ own. answer_to own answer) calls)) taken-none (all-stay test (waiting_in_list c list) is).none
          ∙ ap (λ answers. record c { answered = answers }) (append-nil c.answered)

-- where all leave, none stays, and the first is the list's
pub none-stays : (calls : List UsersCall) → staying (λ own. true) calls ≡ []
none-stays [] = refl
none-stays (own ∷ rest) = none-stays rest

module _ (answer : Answer) (own : UsersCall) where
  pub first-answered : (c : Queues) (list : ℕ) (calls : List UsersCall) → Some own ≡ slice_get (filter (λ own. true) calls) 0 → with_more_answers (with_waiting c list (without_first (λ own. true) calls)) (answer_to own answer ∷ []) ≡ with_more_answers (with_waiting c list (drop 1 calls)) (map (λ own. answer_to own answer) (take 1 calls))
  first-answered c list [] is = absurd (cc)
  first-answered c list (first ∷ rest) is = let same : own ≡ first = cc in ap (λ one. with_more_answers (with_waiting c list rest) (answer_to one answer ∷ [])) same

  pub first-written : (calls : List UsersCall) → Some own ≡ slice_get (filter (λ own. true) calls) 0 → is_written own.call.bytes answer ≡ list_any (λ own. is_written own.call.bytes answer) (take 1 calls)
  first-written [] is = absurd (cc)
  first-written (first ∷ rest) is = let same : own ≡ first = cc in rw same (sym (or_false (is_written first.call.bytes answer)))

pub first-there : (calls : List UsersCall) → 0 < length calls → None ≡ slice_get (filter (λ own. true) calls) 0 → ⊥
first-there [] some is = omega (arith, some)
first-there (first ∷ rest) some is = cc
