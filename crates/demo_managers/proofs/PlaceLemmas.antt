-- A place for a pipe that was put under the number of an inode.
use Rattle.std.proofs.Common.{◌≡◌, ◌≤◌, ◌<◌, ◌+◌, ℕ, Some, None, IsSome, length, slice_set, refl, sym, ap, subst, ◌∙◌, arith}
use Rattle.std.proofs.lemmas.List.{get_or-set_same, length-set}
use Rattle.qx_types.specs.declared.limits.TheConstants.Limits.{INODES}
use Rattle.qx_machine.specs.declared.rows.WaitingCall.{WaitingCall}
use Rattle.qx_machine.specs.Waiting.{no_pipes}
use Rattle.qx_machine.specs.Pipes.{Pipe}
use Rattle.qx_isolation.specs.Rows.{row_at}
use Rattle.qx_rows.proofs.RowLemmas.{row_at-get_or}
use Rattle.qx_shared.specs.Shared.{HasPipe, Shared, pipes_of, with_row_at}

pub put-there : (old new : Shared) (user inode : ℕ) (pipe : Pipe WaitingCall) → user < length old.pipes → inode ≤ INODES → new ≡ with_row_at old user inode (Some pipe) → length (pipes_of new user) ≡ INODES + 1 → HasPipe new user inode
put-there old new user inode pipe within small is places =
    let rows = slice_set (pipes_of old user) inode (Some pipe) in
    let put : pipes_of new user ≡ rows = ap (λ c. pipes_of c user) is ∙ get_or-set_same old.pipes user rows no_pipes within in
    let long : length (pipes_of old user) ≡ INODES + 1 = sym (length-set (pipes_of old user) inode (Some pipe)) ∙ ap length (sym put) ∙ places in
    let there : row_at (pipes_of new user) inode ≡ Some pipe = ap (λ p. row_at p inode) put ∙ row_at-get_or rows inode ∙ get_or-set_same (pipes_of old user) inode (Some pipe) None (omega (arith, long, small)) in
    subst IsSome (sym there) refl
