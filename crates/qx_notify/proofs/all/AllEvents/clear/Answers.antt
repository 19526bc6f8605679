use Rattle.std.proofs.Common.{refl, sym, ◌∙◌, arith}
use Rattle.std.proofs.lemmas.List.{length-set}
use Rattle.qx_notify.proofs.ClearLemmas.{clear-fewer, clear-last, clear-one, clear-places}
use Rattle.qx_notify.proofs.all.AllEvents.clear.Goals as goal

pub pulses-init : goal.pulses-init
pulses-init c = let limits = c.know.ensures.limited c.args.proc.user.0 c.requires.user in record { users = c.requires.user; places = omega (arith, limits.places, c.requires.process); left = refl }

pub pulses-smaller : goal.pulses-smaller
pulses-smaller c = rw c.take_pulse.ensures.rest (clear-fewer c.pulses.self c.args.proc.user.0 c.args.proc.num c.pulses.invariant.users c.pulses.invariant.places c.in-Some._pulse (sym c.take_pulse.ensures.first ∙ c.in-Some.is))

pub pulses-preserved : goal.pulses-preserved
pulses-preserved c = rw c.take_pulse.ensures.rest (record {
  users = rw length-set c.pulses.invariant.users;
  places = clear-places c.pulses.self c.args.proc.user.0 c.args.proc.num c.pulses.invariant.users c.pulses.invariant.places;
  left = clear-one c.pulses.self c.args.proc.user.0 c.args.proc.num c.pulses.invariant.users c.pulses.invariant.places ∙ c.pulses.invariant.left;
})

pub returns : goal.returns
returns c = c.take_pulse.ensures.rest ∙ clear-last c.pulses.self c.args.proc.user.0 c.args.proc.num c.pulses.invariant.users c.pulses.invariant.places (sym c.take_pulse.ensures.first ∙ c.in_default.is) ∙ c.pulses.invariant.left
