-- A pipe comes and goes, with its lists.
use Rattle.std.proofs.Common.{◌≡◌, ◌≢◌, ◌⊎◌, ◌<◌, ◌≤◌, inl, inr, ℕ, List, [], Option, Some, None, is_some, length, map, get_or, option_map, unwrap_or, slice_set, refl, sym, ◌∙◌, ap, ap₂, arith}
use Rattle.std.specs.FinMap as maps
use Rattle.std.proofs.lemmas.Bool.Decides.{eqb_tells}
use Rattle.std.proofs.lemmas.List.{get_or_default, length-map, length-set}
use Rattle.std.proofs.lemmas.Option.{same_Some}
use Rattle.qx_lists.proofs.MapLemmas.{get-insert_same, get-insert_other, get-remove_same, get-remove_other, same_map}
use Rattle.qx_types.specs.declared.limits.TheConstants.Limits.{INODES}
use Rattle.qx_devices.specs.declared.Device.{Device}
use Rattle.qx_machine.specs.Pipes.{pipe_of}
use Rattle.qx_isolation.specs.Rows.{row_at}
use Rattle.qx_queues.specs.Queues.{HasList, Queues, UsersCall, waiting_in_list, with_waiting, without_list}
use Rattle.qx_queues.specs.Waits.{users_call}
use Rattle.qx_queues.proofs.TableLemmas.{absent_is, none_some}
use Rattle.qx_shared.specs.inner.Own.{AreAllPipes, AreUsers, calls_of, shown_pipe, pipes_in, shown_shared}
use Rattle.qx_shared.specs.inner.Row.{Place, Rows, list_of_place, list_on, place, row_of, with_row_of}
use Rattle.qx_shared.specs.Row.{PipeRow}
use Rattle.qx_shared.specs.Shared.{pipes_of, with_row_at}
use Rattle.qx_shared.specs.declared.side.Side.{Side}
use Rattle.qx_shared.specs.declared.side.Side.TheVariants.{Reading, Writing}
use Rattle.qx_shared.proofs.ChangeLemmas.{SameElsewhere, at-cases, pipes-set, users-agree}
use Rattle.qx_shared.proofs.OwnLemmas.{IsAt, row_of-other, row_of-same, row_of-told, row_of-within, rows-length}

-- another row stands under the number of an inode, or none, and its lists are of no other
module _ (c d : Queues) (all : List Rows) (user inode : ℕ) (row : Option PipeRow) where
  abbrev pub IsOf : Side → ℕ → Type 0
  IsOf side list = option_map (list_on side) row ≡ Some list

  pub record IsPlaced : Type 0 where
    pub within : user < length all
    pub here : inode < length (get_or all user [])
    pub users : d.users ≡ c.users
    pub own : (side : Side) (list : ℕ) → IsOf side list → HasList d list × AreUsers d user list
    pub two : (one other : Side) (list : ℕ) → IsOf one list → IsOf other list → one ≡ other
    pub others : SameElsewhere c d all user inode
    pub fresh : (side : Side) (list : ℕ) (p : Place) → IsOf side list → list_of_place all p ≡ Some list → IsAt user inode p
    pub owned : (list : ℕ) → HasList d list → ((side : Side) × IsOf side list) ⊎ ((p : Place) × (list_of_place all p ≡ Some list) × (IsAt user inode p → ⊥))

  module _ (are : AreAllPipes c all) (placed : IsPlaced) where
    abbrev new : List Rows
    new = with_row_of all user inode row

    at-new : (p : Place) → IsAt user inode p → list_of_place new p ≡ option_map (list_on p.side) row
    at-new p at = rw (at.0, at.1) (ap (option_map (list_on p.side)) (row_of-same all user inode row placed.within placed.here))

    off-new : (p : Place) → (IsAt user inode p → ⊥) → list_of_place new p ≡ list_of_place all p
    off-new p differs = ap (option_map (list_on p.side)) (row_of-other all user inode row p.user p.inode differs)

    pub placed-all : AreAllPipes d new
    placed-all = record {
      count = length-set all user _ ∙ are.count ∙ sym placed.users;
      places = λ other within. rows-length all user inode row other ∙ are.places other (rw length-set at within);
      there = λ p list at. elim (at-cases user inode p) [
        | inl here ↦ (placed.own p.side list (sym (at-new p here) ∙ at)).0
        | inr differs ↦ ap is_some (placed.others p list (sym (off-new p differs) ∙ at) differs) ∙ are.there p list (sym (off-new p differs) ∙ at)
      ];
      users = λ p list at. elim (at-cases user inode p) [
        | inl here ↦ rw here.0 (placed.own p.side list (sym (at-new p here) ∙ at)).1
        | inr differs ↦ users-agree c d p.user list (placed.others p list (sym (off-new p differs) ∙ at) differs) (are.users p list (sym (off-new p differs) ∙ at))
      ];
      apart = λ p q list at also. elim (at-cases user inode p) [
        | inl here ↦ elim (at-cases user inode q) [
          | inl too ↦
              let side = placed.two p.side q.side list (sym (at-new p here) ∙ at) (sym (at-new q too) ∙ also) in
              λ i. record { user = (here.0 ∙ sym too.0) i; inode = (here.1 ∙ sym too.1) i; side = side i }
          | inr differs ↦ absurd (differs (placed.fresh p.side list q (sym (at-new p here) ∙ at) (sym (off-new q differs) ∙ also)))
        ]
        | inr differs ↦ elim (at-cases user inode q) [
          | inl too ↦ absurd (differs (placed.fresh q.side list p (sym (at-new q too) ∙ also) (sym (off-new p differs) ∙ at)))
          | inr also_differs ↦ are.apart p q list (sym (off-new p differs) ∙ at) (sym (off-new q also_differs) ∙ also)
        ]
      ];
      owned = λ list there. elim (placed.owned list there) [
        | inl mine ↦ (place user inode mine.0, at-new (place user inode mine.0) (refl, refl) ∙ mine.1)
        | inr before ↦ (before.0, off-new before.0 before.2 ∙ before.1)
      ];
    }

-- as a change of the user's pipes gives it
put-row : (all : List Rows) (user inode : ℕ) (own changed : Rows) (row : Option PipeRow) → user < length all → own ≡ get_or all user own → changed ≡ slice_set own inode row → slice_set all user changed ≡ with_row_of all user inode row
put-row all user inode own changed row within read put = ap (slice_set all user) (put ∙ ap (λ (p : Rows). slice_set p inode row) (read ∙ get_or_default all user own [] within))

-- ---- a new pipe

module _ (c : Queues) (all : List Rows) (are : AreAllPipes c all) (user inode : ℕ) (within : user < length (shown_shared c all).pipes) (few : inode ≤ INODES) (none : row_at (pipes_of (shown_shared c all) user) inode ≡ None) (device : Option Device) (readers writers : ℕ) (new_readers : maps.get c.pipes readers ≡ None) (new_writers : maps.get (with_waiting c readers []).pipes writers ≡ None) where
  abbrev made : Queues
  made = with_waiting (with_waiting c readers []) writers []

  abbrev made_row : PipeRow
  made_row = record { device = device; bytes = []; readers = readers; writers = writers }

  no_row : row_of all user inode ≡ None
  no_row = of (row_of all user inode) (sym (row_of-told c all user inode) ∙ none)
    where
      of : (o : Option PipeRow) → option_map (shown_pipe c) o ≡ None → o ≡ None
      of None is = refl
      of (Some row) is = absurd (cc)

  nowhere : (p : Place) (list : ℕ) → IsAt user inode p → list_of_place all p ≡ Some list → ⊥
  nowhere p list at is = none_some list (list_of_place all p) (ap₂ (λ u i. option_map (list_on p.side) (row_of all u i)) at.0 at.1 ∙ ap (option_map (list_on p.side)) no_row) is

  two_lists : writers ≢ readers
  two_lists same = none_some [] (maps.get (with_waiting c readers []).pipes writers) new_writers (ap (maps.get (with_waiting c readers []).pipes) same ∙ get-insert_same c.pipes readers [])

  fresh_writers : maps.get c.pipes writers ≡ None
  fresh_writers = sym (get-insert_other c.pipes readers [] writers two_lists) ∙ new_writers

  got : (side : Side) → maps.get made.pipes (list_on side made_row) ≡ Some []
  got Reading = get-insert_other (with_waiting c readers []).pipes writers [] readers (λ same. two_lists (sym same)) ∙ get-insert_same c.pipes readers []
  got Writing = get-insert_same (with_waiting c readers []).pipes writers []

  fresh : (side : Side) → maps.get c.pipes (list_on side made_row) ≡ None
  fresh Reading = new_readers
  fresh Writing = fresh_writers

  side-is : (one other : Side) → list_on one made_row ≡ list_on other made_row → one ≡ other
  side-is Reading Reading same = refl
  side-is Reading Writing same = absurd (two_lists (sym same))
  side-is Writing Reading same = absurd (two_lists same)
  side-is Writing Writing same = refl

  -- a list of another pipe
  off : (side : Side) (list : ℕ) → HasList c list → list ≢ list_on side made_row
  off side list there same = absent_is (maps.get c.pipes list) there (ap (maps.get c.pipes) same ∙ fresh side)

  made-other : (list : ℕ) → list ≢ readers → list ≢ writers → maps.get made.pipes list ≡ maps.get c.pipes list
  made-other list reads writes = get-insert_other (with_waiting c readers []).pipes writers [] list writes ∙ get-insert_other c.pipes readers [] list reads

  placed : IsPlaced c made all user inode (Some made_row)
  placed = record {
    within = rw (length-map all (pipes_in c)) at within;
    here = let places = are.places user (rw (length-map all (pipes_in c)) at within) in omega (arith, places, few);
    users = refl;
    own = λ side list is.
        let empty : maps.get made.pipes list ≡ Some [] = ap (maps.get made.pipes) (sym (same_Some _ _ is)) ∙ got side in
        let nobody : waiting_in_list made list ≡ [] = ap (λ o. unwrap_or o []) empty in
        (ap is_some empty, nobody ∙ ap (λ (own : List UsersCall). map (users_call user) (map (λ own. own.call) own)) (sym nobody));
    two = λ one other list is also. side-is one other (same_Some _ _ is ∙ sym (same_Some _ _ also));
    others = λ p list is differs. made-other list (off Reading list (are.there p list is)) (off Writing list (are.there p list is));
    fresh = λ side list p is at. absurd (off side list (are.there p list at) (sym (same_Some _ _ is)));
    owned = λ list there. elim (eqb_tells list readers) [
      | inl same ↦ inl (Reading, ap Some (sym same.1))
      | inr reads ↦ elim (eqb_tells list writers) [
        | inl same ↦ inl (Writing, ap Some (sym same.1))
        | inr writes ↦
            let before = are.owned list (ap is_some (sym (made-other list reads.1 writes.1)) ∙ there) in
            inr (before.0, before.1, λ at. nowhere before.0 list at before.1)
      ]
    ];
  }

  added-told : shown_shared made (with_row_of all user inode (Some made_row)) ≡ with_row_at (shown_shared c all) user inode (Some (pipe_of device [] [] []))
  added-told =
      let calls : (side : Side) → calls_of made (list_on side made_row) ≡ [] = λ side. ap (λ o. map (λ own. own.call) (unwrap_or o [])) (got side) in
      let pipes =
      pipes-set c made all user inode (Some made_row) placed.within placed.others
      ∙ (λ i. slice_set (map (pipes_in c) all) user (slice_set (pipes_of (shown_shared c all) user) inode (Some (pipe_of device [] (calls Reading i) (calls Writing i))))) in
      λ i. record (shown_shared c all) { pipes = pipes i }

  pub added : (d : Queues) (own changed : Rows) → d ≡ made → own ≡ get_or all user own → changed ≡ slice_set own inode (Some made_row) → (shown_shared d (slice_set all user changed) ≡ with_row_at (shown_shared c all) user inode (Some (pipe_of device [] [] []))) × AreAllPipes d (slice_set all user changed)
  added d own changed queues read put =
      let rows = put-row all user inode own changed (Some made_row) placed.within read put in
      (ap₂ shown_shared queues rows ∙ added-told, rw (queues, rows) (placed-all c made all user inode (Some made_row) are placed))

-- a list that was made goes again
pub list-unmade : (c : Queues) (list : ℕ) → maps.get c.pipes list ≡ None → without_list (with_waiting c list []) list ≡ c
list-unmade c list none = ap (λ pipes. record c { pipes = pipes }) (same_map (maps.remove (maps.insert c.pipes list []) list) c.pipes (λ other. elim (eqb_tells other list) [
  | inl same ↦ rw same.1 (get-remove_same (maps.insert c.pipes list []) list ∙ sym none)
  | inr differs ↦ get-remove_other (maps.insert c.pipes list []) list other differs.1 ∙ get-insert_other c.pipes list [] other differs.1
]))

-- ---- a pipe goes

module _ (c : Queues) (all : List Rows) (are : AreAllPipes c all) (user inode : ℕ) (row : PipeRow) (is : row_of all user inode ≡ Some row) where
  abbrev pub freed : Queues
  freed = without_list (without_list c row.readers) row.writers

  own-list : (side : Side) → list_of_place all (place user inode side) ≡ Some (list_on side row)
  own-list side = ap (option_map (list_on side)) is

  freed-other : (list : ℕ) → list ≢ row.readers → list ≢ row.writers → maps.get freed.pipes list ≡ maps.get c.pipes list
  freed-other list reads writes = get-remove_other (without_list c row.readers).pipes row.writers list writes ∙ get-remove_other c.pipes row.readers list reads

  lists-apart : row.writers ≢ row.readers
  lists-apart same = let side : Writing ≡ Reading = ap (λ p. p.side) (are.apart (place user inode Writing) (place user inode Reading) row.readers (own-list Writing ∙ ap Some same) (own-list Reading)) in absurd (cc)

  none-left : (side : Side) → maps.get freed.pipes (list_on side row) ≡ None
  none-left Reading = get-remove_other (without_list c row.readers).pipes row.writers row.readers (λ same. lists-apart (sym same)) ∙ get-remove_same c.pipes row.readers
  none-left Writing = get-remove_same (without_list c row.readers).pipes row.writers

  -- a list that is there still
  left-list : (side : Side) (list : ℕ) → HasList freed list → list ≢ list_on side row
  left-list side list there same = absent_is (maps.get freed.pipes list) there (ap (maps.get freed.pipes) same ∙ none-left side)

  -- a list of another pipe
  others-list : (p : Place) (list : ℕ) → list_of_place all p ≡ Some list → (IsAt user inode p → ⊥) → (side : Side) → list ≢ list_on side row
  others-list p list at differs side same = let q = are.apart p (place user inode side) list at (own-list side ∙ ap Some (sym same)) in differs (ap (λ p. p.user) q, ap (λ p. p.inode) q)

  gone : IsPlaced c freed all user inode None
  gone = record {
    within = (row_of-within all user inode row is).0;
    here = (row_of-within all user inode row is).1;
    users = refl;
    own = λ side list none. absurd (none_some list None refl none);
    two = λ one other list none also. absurd (none_some list None refl none);
    others = λ p list at differs. freed-other list (others-list p list at differs Reading) (others-list p list at differs Writing);
    fresh = λ side list p none at. absurd (none_some list None refl none);
    owned = λ list there.
        let before = are.owned list (ap is_some (sym (freed-other list (left-list Reading list there) (left-list Writing list there))) ∙ there) in
        inr (before.0, before.1, λ at. left-list before.0.side list there (same_Some _ _ (sym before.1 ∙ ap₂ (λ u i. option_map (list_on before.0.side) (row_of all u i)) at.0 at.1 ∙ own-list before.0.side)));
  }

  removed-told : shown_shared freed (with_row_of all user inode None) ≡ with_row_at (shown_shared c all) user inode None
  removed-told =
      let pipes = pipes-set c freed all user inode None gone.within gone.others in
      λ i. record (shown_shared c all) { pipes = pipes i }

  module _ (readers writers : ℕ) (reading : list_of_place all (place user inode Reading) ≡ Some readers) (writing : list_of_place all (place user inode Writing) ≡ Some writers) where
    reading-is : row.readers ≡ readers
    reading-is = same_Some _ _ (sym (own-list Reading) ∙ reading)

    writing-is : row.writers ≡ writers
    writing-is = same_Some _ _ (sym (own-list Writing) ∙ writing)

    pub other-there : HasList (without_list c readers) writers
    other-there = ap is_some (get-remove_other c.pipes readers writers (λ same. lists-apart (writing-is ∙ same ∙ sym reading-is))) ∙ are.there (place user inode Writing) writers writing

    pub removed : (d e : Queues) (own changed : Rows) → d ≡ without_list c readers → e ≡ without_list d writers → own ≡ get_or all user own → changed ≡ slice_set own inode None → (shown_shared e (slice_set all user changed) ≡ with_row_at (shown_shared c all) user inode None) × AreAllPipes e (slice_set all user changed)
    removed d e own changed first second read put =
        let rows = put-row all user inode own changed None gone.within read put in
        let queues : e ≡ freed = second ∙ ap₂ without_list (first ∙ ap (without_list c) (sym reading-is)) (sym writing-is) in
        (ap₂ shown_shared queues rows ∙ removed-told, rw (queues, rows) (placed-all c freed all user inode None are gone))
