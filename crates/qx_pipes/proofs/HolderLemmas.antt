-- The pipe in which a call waits.
use Rattle.std.proofs.Common.{◌≡◌, ℕ, ◌<◌, ◌≤◌, Bool, true, false, length, None, Some, IsSome, sym, ap, ◌∙◌, arith}
use Rattle.std.specs.Prelude.{position}
use Rattle.std.specs.List.{position_or_len}
use Rattle.std.proofs.lemmas.Bool.Decides.{nat_tests}
use Rattle.std.proofs.lemmas.Grind.{common_steps}
use Rattle.std.proofs.lemmas.List.Quantifiers.{position-Some}
use Rattle.std.proofs.lemmas.List.Sums.{position_or_len_is}
use Rattle.qx_attr.proofs.CountLemmas.{within_table}
use Rattle.qx_rows.proofs.RowLemmas.{row_at-get_or}
use Rattle.qx_machine.specs.declared.rows.WaitingCall.{WaitingCall}
use Rattle.qx_machine.specs.Waiting.{Pipes, holds}
use Rattle.qx_isolation.specs.Rows.{row_at}

module _ (which : WaitingCall → Bool) (pipes : Pipes) where
  first-at : (inode : ℕ) → inode ≤ length pipes → ((other : ℕ) → other < inode → holds which (row_at pipes other) ≡ false) → (inode < length pipes → holds which (row_at pipes inode) ≡ true) → position_or_len (holds which) pipes ≡ inode
  first-at inode within before is =
      position_or_len_is (holds which) pipes inode None within
      (λ other below. ap (holds which) (sym (row_at-get_or pipes other)) ∙ before other below)
      (λ below. ap (holds which) (sym (row_at-get_or pipes inode)) ∙ is below)

  pub holds-nowhere : ((inode : ℕ) → inode < length pipes → holds which (row_at pipes inode) ≡ false) → position (holds which) pipes ≡ None
  holds-nowhere none = rw (first-at (length pipes) (omega arith) none (λ past. absurd (omega arith))) (grind (arith, nat_tests))

  within : (inode : ℕ) → holds which (row_at pipes inode) ≡ true → inode < length pipes
  within inode is = grind (arith, common_steps, within_table, is)

  -- no other pipe holds it
  pub holds-only : (inode : ℕ) → holds which (row_at pipes inode) ≡ true → ((other : ℕ) → holds which (row_at pipes other) ≡ true → other ≡ inode) → position (holds which) pipes ≡ Some inode
  holds-only inode is only =
      let inside = within inode is in
      rw (first-at inode (omega arith) (λ other below. grind (arith, common_steps, only other)) (λ _. is)) (grind (arith, nat_tests))

  pub holder-there : (inode : ℕ) → position (holds which) pipes ≡ Some inode → IsSome (row_at pipes inode)
  holder-there inode is =
      let at = position-Some (holds which) pipes inode None is in
      grind (arith, common_steps, at, row_at-get_or pipes inode)
