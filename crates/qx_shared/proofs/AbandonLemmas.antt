-- What all users share once the calls of a process wait as those of a process that has ended.
use Rattle.std.proofs.Common.{◌≡◌, inl, inr, ℕ, zero, suc, ◌==◌, if◌then◌else◌, Bool, true, false, List, [], ◌∷◌, Option, Some, None, is_some, get_or, map, option_map, slice_get, slice_set, unwrap_or, refl, sym, ◌∙◌, ap, ap₂, arith}
use Rattle.std.specs.FinMap as maps
use Rattle.std.proofs.lemmas.Bool.Decides.{eqb_tells}
use Rattle.std.proofs.lemmas.List.{map-id}
use Rattle.std.proofs.lemmas.Option.{get_or_from_slice_get}
use Rattle.std.proofs.lemmas.Simd.{map-map}
use Rattle.qx_types.specs.declared.names.Proc.{Proc}
use Rattle.qx_lists.proofs.RingLemmas.{is_some-option_map}
use Rattle.qx_machine.specs.declared.rows.WaitingCall.{WaitingCall}
use Rattle.qx_machine.specs.Clients.{abandoned, with_abandoned as pipe_abandoned}
use Rattle.qx_machine.specs.Waiting.{Pipes, no_pipes}
use Rattle.qx_isolation.specs.Rows.{row_at}
use Rattle.qx_queues.specs.Queues.{Queues, UsersCall, abandoned_by, waiting_in_list, with_abandoned}
use Rattle.qx_queues.specs.Waits.{users_call}
use Rattle.qx_queues.proofs.BesideLemmas.{get-each_changed}
use Rattle.qx_shared.specs.inner.Own.{AreAllPipes, calls_of, pipes_in, shown_pipe, shown_shared}
use Rattle.qx_shared.specs.inner.Row.{Place, Rows, list_of_place, list_on, place, row_of}
use Rattle.qx_shared.specs.Row.{PipeRow}
use Rattle.qx_shared.specs.Shared.{with_abandoned_calls}
use Rattle.qx_shared.specs.declared.side.Side.TheVariants.{Reading, Writing}
use Rattle.qx_shared.proofs.OwnLemmas.{read-all}
use Rattle.qx_shared.proofs.RowLemmas.{rows-agree}

-- one place is read in another way
read-one : {A B : Type 0} (f g : A → B) (change : B → B) (d : B) (xs : List A) (i : ℕ) → ((x : A) → slice_get xs i ≡ Some x → f x ≡ change (g x)) → ((j : ℕ) (x : A) → (j ≡ i → ⊥) → slice_get xs j ≡ Some x → f x ≡ g x) → map f xs ≡ slice_set (map g xs) i (change (get_or (map g xs) i d))
read-one f g change d [] i here same = refl
read-one f g change d (x ∷ xs) zero here same = ap₂ (λ a b. a ∷ b) (here x refl) (read-all f g xs (λ j y at. same (suc j) y (λ e. omega (arith, e)) at))
read-one f g change d (x ∷ xs) (suc i) here same = ap₂ (λ a b. a ∷ b) (same zero x (λ e. omega (arith, e)) refl) (read-one f g change d xs i here (λ j y differs at. same (suc j) y (λ e. differs (omega (arith, e))) at))

module _ (c : Queues) (all : List Rows) (are : AreAllPipes c all) (proc : Proc) where
  abbrev after : Queues
  after = with_abandoned c proc

  -- a call of a user
  abbrev changed : ℕ → WaitingCall → WaitingCall
  changed user call = if user == proc.user.0 then abandoned proc.num call else call

  users_changed : (user : ℕ) (calls : List WaitingCall) → map (abandoned_by proc) (map (users_call user) calls) ≡ map (users_call user) (map (changed user) calls)
  users_changed user [] = refl
  users_changed user (call ∷ calls) = ap₂ (λ a b. a ∷ b) (of (user == proc.user.0)) (users_changed user calls)
    where
      of : (b : Bool) → ◌≡◌ {A = UsersCall} (if b then users_call user (abandoned proc.num call) else users_call user call) (users_call user (if b then abandoned proc.num call else call))
      of true = refl
      of false = refl

  -- the calls of one list
  module _ (p : Place) (list : ℕ) (is : list_of_place all p ≡ Some list) where
    waiting-after : waiting_in_list after list ≡ map (users_call p.user) (map (changed p.user) (calls_of c list))
    waiting-after =
        ap (λ o. unwrap_or o []) (get-each_changed (abandoned_by proc) c.pipes list)
        ∙ of (maps.get c.pipes list)
        ∙ ap (map (abandoned_by proc)) (are.users p list is)
        ∙ users_changed p.user (calls_of c list)
      where
        of : (o : Option (List UsersCall)) → unwrap_or (option_map (map (abandoned_by proc)) o) [] ≡ map (abandoned_by proc) (unwrap_or o [])
        of None = refl
        of (Some calls) = refl

    calls-after : calls_of after list ≡ map (changed p.user) (calls_of c list)
    calls-after = ap (map (λ own. own.call)) waiting-after ∙ map-map (λ own. own.call) (users_call p.user) (map (changed p.user) (calls_of c list)) ∙ map-id (map (changed p.user) (calls_of c list))

  has-after : (list : ℕ) → is_some (maps.get after.pipes list) ≡ is_some (maps.get c.pipes list)
  has-after list = ap is_some (get-each_changed (abandoned_by proc) c.pipes list) ∙ is_some-option_map (map (abandoned_by proc)) (maps.get c.pipes list)

  pub abandoned-all : AreAllPipes after all
  abandoned-all = record {
    count = are.count;
    places = are.places;
    there = λ p list is. has-after list ∙ are.there p list is;
    users = λ p list is. waiting-after p list is ∙ ap (map (users_call p.user)) (sym (calls-after p list is));
    apart = are.apart;
    owned = λ list there. are.owned list (sym (has-after list) ∙ there);
  }

  -- the calls of the user, and those of another
  own-calls : (calls : List WaitingCall) → map (changed proc.user.0) calls ≡ map (abandoned proc.num) calls
  own-calls calls = elim (eqb_tells proc.user.0 proc.user.0) [
    | inl same ↦ ap (λ b. map (λ call. if b then abandoned proc.num call else call) calls) same.0
    | inr differs ↦ absurd (differs.1 refl)
  ]

  other-calls : (user : ℕ) → (user ≡ proc.user.0 → ⊥) → (calls : List WaitingCall) → map (changed user) calls ≡ calls
  other-calls user apart calls = elim (eqb_tells user proc.user.0) [
    | inl same ↦ absurd (apart same.1)
    | inr differs ↦ ap (λ b. map (λ call. if b then abandoned proc.num call else call) calls) differs.0 ∙ map-id calls
  ]

  -- a pipe of a user
  module _ (user inode : ℕ) (row : PipeRow) (is : row_of all user inode ≡ Some row) where
    row-after : shown_pipe after row ≡ record (shown_pipe c row) { readers = map (changed user) (calls_of c row.readers); writers = map (changed user) (calls_of c row.writers) }
    row-after =
        let readers = calls-after (place user inode Reading) row.readers (ap (option_map (list_on Reading)) is) in
        let writers = calls-after (place user inode Writing) row.writers (ap (option_map (list_on Writing)) is) in
        λ i. record { device = row.device; bytes = row.bytes; readers = readers i; writers = writers i }

  row-there : (user : ℕ) (rows : Rows) → slice_get all user ≡ Some rows → (inode : ℕ) (row : PipeRow) → row_at rows inode ≡ Some row → row_of all user inode ≡ Some row
  row-there user rows at inode row is = ap (λ (p : Rows). row_at p inode) (get_or_from_slice_get all user rows [] at) ∙ is

  own-pipes : (rows : Rows) → slice_get all proc.user.0 ≡ Some rows → pipes_in after rows ≡ map (option_map (pipe_abandoned proc.num)) (pipes_in c rows)
  own-pipes rows at =
      rows-agree (shown_pipe after) (λ row. pipe_abandoned proc.num (shown_pipe c row)) rows (λ inode row is.
      row-after proc.user.0 inode row (row-there proc.user.0 rows at inode row is)
      ∙ (λ i. record { device = row.device; bytes = row.bytes; readers = own-calls (calls_of c row.readers) i; writers = own-calls (calls_of c row.writers) i }))
      ∙ twice rows
    where
      twice : (rows : Rows) → map (option_map (λ row. pipe_abandoned proc.num (shown_pipe c row))) rows ≡ map (option_map (pipe_abandoned proc.num)) (map (option_map (shown_pipe c)) rows)
      twice [] = refl
      twice (None ∷ rows) = ap (λ l. None ∷ l) (twice rows)
      twice (Some row ∷ rows) = ap (λ l. Some (pipe_abandoned proc.num (shown_pipe c row)) ∷ l) (twice rows)

  other-pipes : (user : ℕ) (rows : Rows) → (user ≡ proc.user.0 → ⊥) → slice_get all user ≡ Some rows → pipes_in after rows ≡ pipes_in c rows
  other-pipes user rows apart at = rows-agree (shown_pipe after) (shown_pipe c) rows (λ inode row is.
      row-after user inode row (row-there user rows at inode row is)
      ∙ (λ i. record { device = row.device; bytes = row.bytes; readers = other-calls user apart (calls_of c row.readers) i; writers = other-calls user apart (calls_of c row.writers) i }))

  pub abandoned-told : shown_shared after all ≡ with_abandoned_calls (shown_shared c all) proc
  abandoned-told =
      let pipes = read-one (pipes_in after) (pipes_in c) (λ (p : Pipes). map (option_map (pipe_abandoned proc.num)) p) no_pipes all proc.user.0 own-pipes other-pipes in
      λ i. record (shown_shared c all) { pipes = pipes i }
