use Rattle.std.proofs.Common.{◌≡◌, ◌∙◌, Some, refl, sym, ap}
use Rattle.std.specs.Prelude.{position}
use Rattle.qx_iofunc.specs.Store.{Store}
use Rattle.qx_machine.specs.Waiting.{holds, is_call, is_gone, offered, wanted}
use Rattle.qx_machine.specs.Pipes.{cancel}
use Rattle.qx_pipes.proofs.HolderLemmas.{holder-there}
use Rattle.qx_pipes.proofs.PipesLemmas.{after-follows, there}
use Rattle.qx_pipes.proofs.blocks.cancel.Goals as goal
use Rattle.qx_shared.specs.Shared.{pipe_at, pipes_of}

pub cancel-filled-requires : goal.cancel-filled-requires
cancel-filled-requires c = record { pipe = holder-there _ _ c.in-Some.inode (sym c.in-Some.ensures) }

pub returns : goal.returns
returns c =
    let store = c.args.store.now.stored in
    let shared = c.args.shared.now in
    let which = is_call c.args.thread.proc.num c.args.thread.tid c.args.call in
    let first : position (holds which) (pipes_of shared store.user) ≡ Some c.in-Some.inode = ap (λ user. position (holds which) (pipes_of shared user)) c.requires.own ∙ sym c.in-Some.ensures in
    let some = holder-there which (pipes_of shared store.user) c.in-Some.inode first in
    let did = rw (← c.requires.own) at c.cancel-filled.ensures in
    rw (first, there shared store.user c.in-Some.inode some)
    (record { user = ap (λ (s : Store). s.stored.user) c.set_size.ensures; waited = λ r. refl; left = λ r. after-follows store _ shared _ r c.requires.user c.in-Some.inode _ (cancel wanted offered is_gone which (pipe_at shared store.user c.in-Some.inode)) _ some did.after did.filled (ap (λ (s : Store). s.stored) c.set_size.ensures) })
