-- Each call that waits in a pipe is over an open control block of that pipe, whatever happens.
use Rattle.std.proofs.Common.{◌≡◌, ◌≢◌, ◌⊎◌, inl, inr, ℕ, ◌+◌, ◌≤◌, ◌==◌, length, ◌&&◌, not, Bool, true, false, List, [], ◌∷◌, cond, refl, sym, ap, ◌∙◌, subst, arith, zero, suc}
use Rattle.std.specs.Prelude.{Option, Some, None, slice_set}
use Rattle.std.specs.List.{count_by}
use Rattle.std.proofs.lemmas.Bool.{cases_eq, eq-eqb, eqb-true, ne_eqb}
use Rattle.std.proofs.lemmas.List.Sums.{sum_by-cons}
use Rattle.qx_machine.specs.declared.rows.Kind.{Kind}
use Rattle.qx_machine.specs.declared.rows.Kind.TheVariants as kind
use Rattle.qx_machine.specs.declared.rows.Ocb.{Ocb}
use Rattle.qx_machine.specs.declared.rows.WaitingCall.{WaitingCall}
use Rattle.qx_machine.specs.Defaults.{pipe_in, without_block, without_unused}
use Rattle.qx_machine.specs.Inodes.{blocks_of, is_open, is_unused, new_attribute}
use Rattle.qx_machine.specs.Names.{under}
use Rattle.qx_machine.specs.Pipes.{Pipe, pipe_of}
use Rattle.qx_machine.specs.Resources.{Resources}
use Rattle.qx_isolation.specs.Rows.{put_row, row_at, with_row}
use Rattle.qx_machine.specs.Waiting.{is_gone, is_over}
use Rattle.qx_isolation.proofs.Places.{row_at-set_other}
use Rattle.qx_invariants.specs.Changes.{Abandons, ResourceChange, Closes, Comes, Fills, IsMoved, IsOwnInode, MayHappen, Moves, Opens, Unlinks, moved, with_change, with_moved, with_named, with_opened, with_unlinked}
use Rattle.qx_invariants.specs.Holds.{HasContents, HasOpenWaiters, HasRoom}
use Rattle.qx_invariants.specs.Waits.{is_astray, count_waiting_in}
use Rattle.qx_invariants.proofs.Calls.{abandoned_part, removed_fewer}
use Rattle.qx_invariants.proofs.Counts.{abandoned_waiting}
use Rattle.qx_invariants.proofs.Rows.{abandoned-at, content_cases, empty_cases, freed, block_is_new, not_open, put_other, same_open, unused_cases, with_row-at, with_row-other}
use Rattle.qx_invariants.proofs.Contents.{no_pipe}
use Rattle.qx_invariants.proofs.Named.{unused_there}

-- ---- none is such

one_less : (a b c : Bool) → (a ≡ true → (b ≡ true) ⊎ (c ≡ true)) → cond a 1 0 ≤ cond b 1 0 + cond c 1 0
one_less false b c less = omega arith
one_less true true c less = omega arith
one_less true false true less = omega arith
one_less true false false less = elim (less refl) [ inl is ↦ absurd (cc) | inr is ↦ absurd (cc) ]

module _ {W : Type 0} (p q s : W → Bool) (less : (w : W) → p w ≡ true → (q w ≡ true) ⊎ (s w ≡ true)) where
  none_such : (xs : List W) → count_by q xs ≡ 0 → count_by s xs ≡ 0 → count_by p xs ≡ 0
  none_such [] no_q no_s = refl
  none_such (x ∷ xs) no_q no_s =
      let of_p = sum_by-cons (λ w. cond (p w) 1 0) x xs in
      let of_q = sum_by-cons (λ w. cond (q w) 1 0) x xs in
      let of_s = sum_by-cons (λ w. cond (s w) 1 0) x xs in
      let first = one_less (p x) (q x) (s x) (less x) in
      let rest = none_such xs (omega (arith, of_q, no_q)) (omega (arith, of_s, no_s)) in
      omega (arith, of_p, first, rest, of_q, of_s, no_q, no_s)

-- who is of the first kind is of the second or of the third, of which none waits
pub none_waits : (p q s : WaitingCall → Bool) → ((call : WaitingCall) → p call ≡ true → (q call ≡ true) ⊎ (s call ≡ true)) → (row : Option (Pipe WaitingCall)) → count_waiting_in q row ≡ 0 → count_waiting_in s row ≡ 0 → count_waiting_in p row ≡ 0
none_waits p q s less None no_q no_s = refl
none_waits p q s less (Some pipe) no_q no_s =
    let readers = none_such p q s less pipe.readers (omega (arith, no_q)) (omega (arith, no_s)) in
    let writers = none_such p q s less pipe.writers (omega (arith, no_q)) (omega (arith, no_s)) in
    omega (arith, readers, writers)

set_or_none : {A : Type 0} (rows : List (Option A)) (n : ℕ) (row : Option A) → (row_at (slice_set rows n row) n ≡ row) ⊎ (row_at (slice_set rows n row) n ≡ None)
set_or_none [] n row = inr refl
set_or_none (x ∷ rows) zero row = inl refl
set_or_none (x ∷ rows) (suc n) row = set_or_none rows n row

open_some : (inode : ℕ) (row : Option Ocb) → is_open (λ flags. true) inode row ≡ true → (block : Ocb) × (row ≡ Some block) × (inode ≡ block.inode)
open_some inode None is = absurd (cc)
open_some inode (Some block) is = (block, refl, sym (by (block.inode == inode) refl is))
  where
    by : (b : Bool) → (block.inode == inode) ≡ b → (b && true) ≡ true → block.inode ≡ inode
    by true same is = eqb-true block.inode inode same
    by false same is = absurd (cc)

-- ---- what changes

module _ (r : Resources) (h : HasOpenWaiters r) where
  set_astray : (inode : ℕ) (row : Option (Pipe WaitingCall)) → count_waiting_in (is_astray r.inodes.blocks inode) row ≡ 0 → HasOpenWaiters (record r { pipes = slice_set r.pipes inode row })
  set_astray inode row none = record {
    none_astray = λ m. elim (cases_eq m inode) [
      | inl same ↦ subst (λ k. count_waiting_in (is_astray r.inodes.blocks k) (row_at (slice_set r.pipes inode row) k) ≡ 0) (sym same)
          (elim (set_or_none r.pipes inode row) [ inl is ↦ ap (count_waiting_in (is_astray r.inodes.blocks inode)) is ∙ none | inr is ↦ ap (count_waiting_in (is_astray r.inodes.blocks inode)) is ])
      | inr apart ↦ ap (count_waiting_in (is_astray r.inodes.blocks m)) (row_at-set_other r.pipes inode m row apart) ∙ h.none_astray m
    ];
  }

  -- nobody waits in what is unused
  pub nobody_unused : (inode : ℕ) → is_unused r.inodes inode (row_at r.inodes.attributes inode) ≡ true → (which : WaitingCall → Bool) → count_waiting_in which (row_at r.pipes inode) ≡ 0
  nobody_unused inode unused which =
      none_waits which (is_astray r.inodes.blocks inode) (is_astray r.inodes.blocks inode) (λ call is. inl (astray call)) (row_at r.pipes inode) (h.none_astray inode) (h.none_astray inode)
    where
      not_its : (call : WaitingCall) (b : Bool) → is_open (λ flags. true) inode (row_at r.inodes.blocks call.block) ≡ b → not b ≡ true
      not_its call false is = refl
      not_its call true is =
          let its = open_some inode (row_at r.inodes.blocks call.block) is in
          absurd (not_open r.inodes call.block its.0 its.1 (ap (blocks_of r.inodes) (sym its.2) ∙ (unused_there r.inodes inode (row_at r.inodes.attributes inode) unused).3))

      astray : (call : WaitingCall) → is_astray r.inodes.blocks inode call ≡ true
      astray call = not_its call (is_open (λ flags. true) inode (row_at r.inodes.blocks call.block)) refl

  -- an open control block goes over which nobody waits
  pub closed_astray : (number : ℕ) (block : Ocb) → row_at r.inodes.blocks number ≡ Some block → count_waiting_in (is_over number) (row_at r.pipes block.inode) ≡ 0 → HasOpenWaiters (without_block number r)
  closed_astray number block there nobody = record {
    none_astray = λ m. elim (cases_eq m block.inode) [
      | inl same ↦ subst (λ k. count_waiting_in (is_astray (slice_set r.inodes.blocks number None) k) (row_at r.pipes k) ≡ 0) (sym same)
          (none_waits _ (is_astray r.inodes.blocks block.inode) (is_over number) (λ call is. own call is) (row_at r.pipes block.inode) (h.none_astray block.inode) nobody)
      | inr apart ↦ none_waits _ (is_astray r.inodes.blocks m) (is_astray r.inodes.blocks m) (λ call is. inl (other m apart call is)) (row_at r.pipes m) (h.none_astray m) (h.none_astray m)
    ];
  }
    where
      same_row : (m : ℕ) (call : WaitingCall) → call.block ≢ number → is_astray (slice_set r.inodes.blocks number None) m call ≡ is_astray r.inodes.blocks m call
      same_row m call apart = ap (λ row. not (is_open (λ flags. true) m row)) (row_at-set_other r.inodes.blocks number call.block None apart)

      own : (call : WaitingCall) → is_astray (slice_set r.inodes.blocks number None) block.inode call ≡ true → (is_astray r.inodes.blocks block.inode call ≡ true) ⊎ (is_over number call ≡ true)
      own call is = elim (cases_eq call.block number) [ inl same ↦ inr (eq-eqb call.block number same) | inr apart ↦ inl (sym (same_row block.inode call apart) ∙ is) ]

      other : (m : ℕ) → m ≢ block.inode → (call : WaitingCall) → is_astray (slice_set r.inodes.blocks number None) m call ≡ true → is_astray r.inodes.blocks m call ≡ true
      other m apart call is = elim (cases_eq call.block number) [
        | inl same ↦ ap (λ n. not (is_open (λ flags. true) m (row_at r.inodes.blocks n))) same ∙ (ap (λ row. not (is_open (λ flags. true) m row)) there ∙ ap (λ b. not (b && true)) (ne_eqb block.inode m (λ e. apart (sym e))))
        | inr differ ↦ sym (same_row m call differ) ∙ is
      ]

  opened_astray : (number : ℕ) (block : Ocb) → row_at r.inodes.blocks number ≡ None → number ≤ length r.inodes.blocks → HasOpenWaiters (with_opened number block r)
  opened_astray number block free within = record {
    none_astray = λ m. none_waits _ (is_astray r.inodes.blocks m) (is_astray r.inodes.blocks m) (λ call is. inl (before m call is)) (row_at r.pipes m) (h.none_astray m) (h.none_astray m);
  }
    where
      before : (m : ℕ) (call : WaitingCall) → is_astray (put_row r.inodes.blocks number block) m call ≡ true → is_astray r.inodes.blocks m call ≡ true
      before m call is = elim (cases_eq call.block number) [
        | inl same ↦ ap (λ row. not (is_open (λ flags. true) m row)) (ap (row_at r.inodes.blocks) same ∙ free)
        | inr apart ↦ ap (λ row. not (is_open (λ flags. true) m row)) (sym (put_other r.inodes.blocks number block within call.block apart)) ∙ is
      ]

  moved_astray : (number : ℕ) (change : Ocb → Ocb) → ((block : Ocb) → row_at r.inodes.blocks number ≡ Some block → IsMoved block (change block)) → HasOpenWaiters (with_moved number change r)
  moved_astray number change may = record {
    none_astray = λ m. none_waits _ (is_astray r.inodes.blocks m) (is_astray r.inodes.blocks m) (λ call is. inl (sym (same m call) ∙ is)) (row_at r.pipes m) (h.none_astray m) (h.none_astray m);
  }
    where
      same : (m : ℕ) (call : WaitingCall) → is_astray (with_row r.inodes.blocks number change) m call ≡ is_astray r.inodes.blocks m call
      same m call = elim (cases_eq call.block number) [
        | inl is ↦ ap (λ n. not (is_open (λ flags. true) m (row_at (with_row r.inodes.blocks number change) n))) is
            ∙ (ap (λ row. not (is_open (λ flags. true) m row)) (with_row-at r.inodes.blocks number change)
            ∙ (ap not (same_open r.inodes number change may m (row_at r.inodes.blocks number) refl) ∙ ap (λ n. not (is_open (λ flags. true) m (row_at r.inodes.blocks n))) (sym is)))
        | inr apart ↦ ap (λ row. not (is_open (λ flags. true) m row)) (with_row-other r.inodes.blocks number change call.block apart)
      ]

  unused_astray : (own : Kind) (inode : ℕ) → HasOpenWaiters (without_unused own inode r)
  unused_astray own inode =
      unused_cases HasOpenWaiters own inode r
      (λ gone. content_cases HasOpenWaiters own inode (freed inode r) (λ is. record { none_astray = h.none_astray }) (λ is. record { none_astray = (set_astray inode None refl).none_astray }) (λ is. record { none_astray = h.none_astray }))
      (λ stays. h)

-- nobody waits over a block in an inode that is no pipe and no device
pub nobody_over : (own : Kind) (r : Resources) (number inode : ℕ) → HasContents r → IsOwnInode own r inode → count_waiting_in (is_over number) (pipe_in own r inode) ≡ 0 → count_waiting_in (is_over number) (row_at r.pipes inode) ≡ 0
nobody_over kind.Pipe r number inode h owned nobody = nobody
nobody_over (kind.Device device) r number inode h owned nobody = nobody
nobody_over kind.File r number inode h owned nobody = ap (count_waiting_in (is_over number)) (no_pipe r h kind.File inode owned refl)
nobody_over kind.Directory r number inode h owned nobody = ap (count_waiting_in (is_over number)) (no_pipe r h kind.Directory inode owned refl)

pub astray-keeps : (change : ResourceChange) (r : Resources) → MayHappen change r → HasRoom r → HasContents r → HasOpenWaiters r → HasOpenWaiters (with_change change r)
astray-keeps (Comes inode directory name kind mode moment) r may room contents h =
    empty_cases HasOpenWaiters kind inode (with_named inode (under directory name) (new_attribute kind mode r.user moment) r) (λ is. record { none_astray = h.none_astray })
    (λ device. record { none_astray = (set_astray r h inode (Some (pipe_of device [] [] [])) refl).none_astray }) (λ is. record { none_astray = h.none_astray })
astray-keeps (Opens number block at) r may room contents h = let new = block_is_new r.inodes number room.some_blocks may.0 in opened_astray r h number block new.free new.within
astray-keeps (Moves number move) r may room contents h = moved_astray r h number (moved move) may
astray-keeps (Fills inode moment after came) r may room contents h =
    let before : count_waiting_in (is_astray r.inodes.blocks inode) (Some may.pipe) ≡ 0 = ap (count_waiting_in (is_astray r.inodes.blocks inode)) (sym may.there) ∙ h.none_astray inode in
    let once = may.once (is_astray r.inodes.blocks inode) in
    let left = removed_fewer is_gone (is_astray r.inodes.blocks inode) may.pipe in
    let over = may.over in
    record { none_astray = (set_astray r h inode (Some after.pipe) (omega (arith, before, once, left, over))).none_astray }
astray-keeps (Unlinks own directory name inode mtime ctime) r may room contents h = unused_astray (with_unlinked inode (under directory name) mtime ctime r) (record { none_astray = h.none_astray }) own inode
astray-keeps (Closes own number block parting) r may room contents h = unused_astray (without_block number r) (closed_astray r h number block may.0 (nobody_over own r number block.inode contents may.1 may.2)) own block.inode
astray-keeps (Abandons process) r may room contents h = record {
  none_astray = λ inode.
      ap (count_waiting_in (is_astray r.inodes.blocks inode)) (abandoned-at process r.pipes inode)
      ∙ (abandoned_waiting process (is_astray r.inodes.blocks inode) (is_astray r.inodes.blocks inode) (λ call. abandoned_part process call (is_astray r.inodes.blocks inode) refl) (row_at r.pipes inode) ∙ h.none_astray inode);
}
astray-keeps _ r may room contents h = record { none_astray = h.none_astray }
