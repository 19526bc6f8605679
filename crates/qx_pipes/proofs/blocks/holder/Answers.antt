use Rattle.std.proofs.Common.{◌∙◌, arith, refl, sym}
use Rattle.qx_pipes.proofs.HolderLemmas.{holds-nowhere, holds-only}
use Rattle.qx_pipes.proofs.blocks.holder.Goals as goal

pub returns-in_err-number : goal.returns-in_err-number
returns-in_err-number c = c.from_residual.ensures ∙ sym (holds-nowhere _ _ (λ inode below. c.in_err-number.ensures.nowhere inode))

pub returns-then-is_waiting : goal.returns-then-is_waiting
returns-then-is_waiting c = sym (holds-only _ _ c.in-Some.block.now.inode (sym c.if-is_waiting.ensures.holds) (c.if-is_waiting.ensures.only refl))

pub returns-then-is_waiting-2 : goal.returns-then-is_waiting-2
returns-then-is_waiting-2 c = sym (holds-only _ _ c.pipes.inode (sym c.if-is_waiting-2.ensures.holds) (c.if-is_waiting-2.ensures.only refl))

pub returns : goal.returns
returns c = sym (holds-nowhere _ _ (λ inode below. c.pipes.invariant inode (omega (arith, c.waits.ensures.places, below))))
