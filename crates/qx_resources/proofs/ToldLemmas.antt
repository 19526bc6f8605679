-- A READ or a WRITE of a pipe that is told a status at once is replied that, and its connection stays.
use Rattle.std.proofs.Common.{◌≡◌, ℕ, List, Option, Some, None, Result, IfOk, refl, sym, ap}
use Rattle.std.specs.Prelude.{IfSome, option_map}
use Rattle.qx_base.specs.declared.errno.Errno.{Errno}
use Rattle.qx_base.specs.declared.errno.Errno.TheVariants.{EBADF, EISDIR}
use Rattle.qx_machine.specs.declared.rows.Effect.TheVariants.{Keeps}
use Rattle.qx_machine.specs.declared.rows.Opened.{Opened}
use Rattle.qx_machine.specs.Functions as functions
use Rattle.qx_machine.specs.Functions.{Deed}
use Rattle.qx_machine.specs.Inodes.{reads, writes}
use Rattle.qx_isolation.specs.Judgements.{found, need}
use Rattle.qx_machine.specs.PipeManager.{read_pipe, write_pipe}
use Rattle.qx_machine.specs.Resources.{Resources}
use Rattle.qx_isolation.specs.Rows.{row_at}
use Rattle.qx_machine.proofs.AtOnce.{call-by}
use Rattle.qx_machine.proofs.Gives.{Gives, gives_done, gives_on}
use Rattle.qx_pipes.specs.Told.{reply_bytes}
use Rattle.qx_resmgr.specs.Deeds.{reply_with}
use Rattle.qx_resources.specs.Told.{done_at_once}

-- a reply, if there is one, leaves the connection as it is
abbrev pub KeepsConnection : Deed Resources → Type 0
KeepsConnection deed = IfSome deed.reply (λ reply. reply.effect ≡ Keeps)

abbrev pub KeepsAll : Result (Deed Resources) Errno → Type 0
KeepsAll given = IfOk given KeepsConnection

pub read-keeps : (r : Resources) (opened : Opened) (count : ℕ) → KeepsAll (read_pipe r opened count)
read-keeps r opened count =
    let given : Gives KeepsConnection (read_pipe r opened count) =
    gives_on KeepsConnection (found (row_at r.inodes.blocks opened.number) EBADF) _ (λ block there.
    gives_on KeepsConnection (need (reads block.flags) EBADF) _ (λ reading may.
    gives_on KeepsConnection (found (row_at r.pipes block.inode) EISDIR) _ (λ pipe here.
    gives_done KeepsConnection _ (call-by KeepsConnection r block.inode opened.moment pipe _ tt (λ nobody status bytes is. refl))))) in
    given.gives

pub write-keeps : (r : Resources) (opened : Opened) (bytes : List ℕ) → KeepsAll (write_pipe r opened bytes)
write-keeps r opened bytes =
    let given : Gives KeepsConnection (write_pipe r opened bytes) =
    gives_on KeepsConnection (found (row_at r.inodes.blocks opened.number) EBADF) _ (λ block there.
    gives_on KeepsConnection (need (writes block.flags) EBADF) _ (λ writing may.
    gives_on KeepsConnection (found (row_at r.pipes block.inode) EBADF) _ (λ pipe here.
    gives_done KeepsConnection _ (call-by KeepsConnection r block.inode opened.moment pipe _ tt (λ nobody status given is. refl))))) in
    given.gives

-- what is told so is the reply that is meant
pub reply-told : (status : Option ℕ) (bytes : List ℕ) (deed : Deed Resources) → status ≡ option_map (λ reply. reply.status) deed.reply → bytes ≡ reply_bytes deed.reply → KeepsConnection deed → reply_with bytes (done_at_once status) ≡ deed.reply
reply-told status bytes deed is told keeps = rw (is, told) (by_reply deed.reply keeps)
  where
    by_reply : (reply : Option functions.Reply) → IfSome reply (λ reply. reply.effect ≡ Keeps) → reply_with (reply_bytes reply) (done_at_once (option_map (λ reply. reply.status) reply)) ≡ reply
    by_reply None keeps = refl
    by_reply (Some reply) keeps = ap (λ effect. Some (record reply { effect = effect })) (sym keeps)
