use Rattle.std.proofs.Common.{◌≡◌, ◌∙◌, ◌≤◌, inl, inr, ℕ, None, Option, length, ap, sym, arith}
use Rattle.std.proofs.lemmas.Bool.{cases_lt}
use Rattle.std.proofs.lemmas.List.{get_or_past}
use Rattle.std.proofs.lemmas.Option.{slice_get_past}
use Rattle.std.specs.Prelude.{unwrap_or}
use Rattle.qx_machine.specs.declared.rows.Ocb.{Ocb}
use Rattle.qx_machine.specs.Inodes.{Inodes}
use Rattle.qx_machine.specs.Notification.{block_conditions, conditions_at}
use Rattle.qx_machine.specs.Resources.{Resources}
use Rattle.qx_resources.specs.State.{told}
use Rattle.qx_resources.specs.Watching.{unwatched}
use Rattle.qx_resources.specs.declared.conditions.TheConstants.{PLACES}
use Rattle.qx_resources.specs.contracts.resources.Resources.{the_view}
use Rattle.qx_resources.proofs.resources.Resources.all_conditions.Goals as goal

-- a number past all has no block
past-all : (r : Resources) (number : ℕ) → length r.inodes.blocks ≤ number → block_conditions r number ≡ unwatched
past-all r number past = ap (λ (row : Option (Option Ocb)). conditions_at r (unwrap_or row None)) (slice_get_past r.inodes.blocks number past)

pub returns : goal.returns
returns c = λ number. elim (cases_lt number PLACES) [
  | inl within ↦ c.loop-number.invariant.noted number (omega (arith, within))
  | inr past ↦
      let few = c.numbered.ensures.blocks in
      let same = ap length (ap (λ (i : Inodes). i.blocks) c.inodes.ensures) in
      get_or_past c.loop-number.all number unwatched (omega (arith, past, c.loop-number.invariant.places))
      ∙ sym (rw (← c.self.view_is) (past-all (told (the_view c.self.inside) c.args.tables.now) number (omega (arith, past, few, same))))
]
