-- What the bell's functions did.
use Rattle.std.proofs.Common.{◌≡◌, ℕ, true, List, [], length, Option, None, Result, Ok, refl, sym, ap, ◌∙◌, slice_set}
use Rattle.std.specs.Prelude.{◌==◌}
use Rattle.qx_base.specs.declared.errno.Errno.{Errno}
use Rattle.qx_base.specs.declared.errno.Errno.TheVariants.{EBADF}
use Rattle.qx_types.specs.declared.outcome.Answer.TheVariants as answer
use Rattle.qx_machine.specs.declared.rows.Effect.TheVariants.{Closes, Keeps, Opens}
use Rattle.qx_machine.specs.declared.rows.NewOpen.{NewOpen}
use Rattle.qx_machine.specs.declared.rows.Opened.{Opened}
use Rattle.qx_machine.specs.declared.rows.WaitingCall.{WaitingCall}
use Rattle.qx_machine.specs.declared.rows.Wish.{Wish}
use Rattle.qx_machine.specs.Functions as functions
use Rattle.qx_machine.specs.Functions.{function_deed}
use Rattle.qx_machine.specs.Inodes.{new_block}
use Rattle.qx_machine.specs.Pipes.{PipeAfter, nobody_answered, readers_dismissed, with_reader}
use Rattle.qx_isolation.specs.Rows.{put_row}
use Rattle.qx_shared.specs.Shared.{Shared, pipe_at, with_pipe_after}
use Rattle.qx_pipe.proofs.AfterLemmas.{with_after-nobody}
use Rattle.qx_shared.proofs.AfterLemmas.{pipe_at-after}
use Rattle.qx_resmgr.specs.Deeds.{Did, reply_with}
use Rattle.qx_resmgr.specs.declared.functions.Done.{Done}
use Rattle.qx_resmgr.specs.declared.functions.Done.TheVariants.{NoReply, Reply}
use Rattle.demo_managers.specs.Null.{Blocks, free_number}
use Rattle.demo_managers.specs.Bell.{HasOwnPlace, KeptBells, bell_connect, bells_told, close_deed, comes_to, write_deed}
use Rattle.demo_managers.specs.inner.Bell.{bells_state}

module _ (k : KeptBells) (c : Shared) (fits : HasOwnPlace k c) where
  came_to : (blocks meant : Blocks) (now : Shared) (after : PipeAfter WaitingCall) (reply : Option functions.Reply) (bytes : List ℕ) (done : Done) → now ≡ with_pipe_after c k.user k.inode after → reply_with bytes done ≡ reply → blocks ≡ meant → Did bells_state k c (record k { blocks = blocks }) now bytes (Ok done) (comes_to reply meant after)
  came_to blocks meant now after reply bytes done is said are =
      let place = ap (λ c. pipe_at c k.user k.inode) is ∙ pipe_at-after c k.user k.inode fits after in
      (said, λ i. record { blocks = are i; place = place i }, is, (refl, refl))

  pub read : (now : Shared) (call : WaitingCall) → now ≡ with_pipe_after c k.user k.inode (nobody_answered (with_reader (bells_told k c).place call)) → Did bells_state k c k now [] (Ok NoReply) (comes_to None k.blocks (nobody_answered (with_reader (bells_told k c).place call)))
  read now call is = came_to k.blocks k.blocks now (nobody_answered (with_reader (bells_told k c).place call)) None [] NoReply is refl refl

  pub write : (now : Shared) (bytes : List ℕ) (done : Done) → done ≡ Reply (length bytes) Keeps → now ≡ with_pipe_after c k.user k.inode (readers_dismissed (λ call. true) (answer.Reply 0 []) (bells_told k c).place) → Did bells_state k c k now [] (Ok done) (write_deed (bells_told k c) bytes)
  write now bytes done said is = came_to k.blocks k.blocks now _ _ [] done is (ap (reply_with []) said) refl

  pub opened : (after : KeptBells) (given : Result NewOpen Errno) (over : NewOpen) (number : ℕ) (rest : List (List ℕ)) (wish : Wish) → given ≡ Ok over → (length rest == 0) ≡ true → free_number k.blocks ≡ Ok number → after ≡ record k { blocks = put_row k.blocks number (new_block over.root wish.flags over.client) } →
      Did bells_state k c after c [] (Ok (Reply over.coid.0 (Opens over.coid number))) (function_deed bell_connect.«open» given (λ f over. f (bells_told k c) over rest wish))
  opened after given over number rest wish is there free put =
      let same = sym (with_after-nobody c k.user k.inode fits) in
      rw (is, there, free, put) (came_to _ _ c (nobody_answered (bells_told k c).place) _ [] (Reply over.coid.0 (Opens over.coid number)) same refl refl)

  pub closed : (blocks : Blocks) (now : Shared) (opened : Opened) → blocks ≡ slice_set k.blocks opened.number None → now ≡ with_pipe_after c k.user k.inode (readers_dismissed (λ call. call.block == opened.number) (answer.Failed EBADF) (bells_told k c).place) → Did bells_state k c (record k { blocks = blocks }) now [] (Ok (Reply 0 (Closes opened.coid))) (close_deed (bells_told k c) opened)
  closed blocks now opened are is = came_to blocks _ now _ _ [] (Reply 0 (Closes opened.coid)) is refl are
