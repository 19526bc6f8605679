use Rattle.std.proofs.Common.{◌≡◌, ◌∙◌, ◌<◌, ◌≤◌, ap, arith, length, sym, take, None, Some}
use Rattle.std.specs.List.{flat_map}
use Rattle.std.specs.Option.{option_to_list}
use Rattle.qx_types.specs.Configuration.{limits_of}
use Rattle.std.proofs.lemmas.List.{length-map, take_all}
use Rattle.qx_types.specs.Managers.{manager_count, managers}
use Rattle.qx_types.proofs.Managers.{count_managers, manager_of}
use Rattle.qx_rows.proofs.RowLemmas.{row_at-get_or}
use Rattle.qx_process.specs.Reads.{used_at, used_servers}
use Rattle.qx_process.proofs.EndLemmas.{used-here}
use Rattle.qx_chan.specs.inner.Kept.{with_lost}
use Rattle.qx_chan.proofs.EndLemmas.{next-there, with_lost-next}
use Rattle.qx_chan.proofs.servers.disconnect_all.Goals as goal
use Rattle.qx_chan.proofs.servers.disconnect_all.Goals.{in-Some, in_default}

pub disconnect-requires : goal.disconnect-requires
disconnect-requires c =
    let all = used_servers c.args.process.now in
    let number = c.loop-number.number in
    let read = used-here c.args.process.now number c.in-Some.manager (sym c.of_number.ensures ∙ c.in-Some.is) ∙ sym c.used_server.ensures.used in
    record { there = rw c.loop-number.invariant (next-there c.args.queues.now (limits_of c.args.config.now c.args.proc.user.0).disconnect c.args.proc all c.requires.there number _ read) }

pub loop-number-preserved : goal.loop-number-preserved
loop-number-preserved c = elim c.match-of_number.branch [
  | in-Some w ↦
      let all = used_servers c.args.process.now in
      let number = c.loop-number.number in
      let count : length all ≡ manager_count = length-map managers (used_at c.args.process.now) ∙ count_managers in
      let within : number < length all = omega (arith, count) in
      let read = w.used_server.ensures.used ∙ sym (used-here c.args.process.now number w.in-Some.manager (sym c.of_number.ensures ∙ w.in-Some.is)) ∙ row_at-get_or all number in
      rw (w.queues-is) (w.disconnect.ensures.disconnected ∙ ap (with_lost (limits_of c.args.config.now c.args.proc.user.0).disconnect c.args.proc (option_to_list _)) c.loop-number.invariant
      ∙ ap (λ one. with_lost (limits_of c.args.config.now c.args.proc.user.0).disconnect c.args.proc (option_to_list one) (with_lost (limits_of c.args.config.now c.args.proc.user.0).disconnect c.args.proc (flat_map option_to_list (take number all)) c.args.queues.now)) read
      ∙ sym (with_lost-next c.args.queues.now (limits_of c.args.config.now c.args.proc.user.0).disconnect c.args.proc all number within))
  | in_default w ↦ let there = manager_of c.loop-number.number (omega arith) in let clash : Some there.0 ≡ None = sym there.1 ∙ sym c.of_number.ensures ∙ w.in_default.is in absurd (cc)
]

pub returns : goal.returns
returns c =
    let all = used_servers c.args.process.now in
    let count : length all ≡ manager_count = length-map managers (used_at c.args.process.now) ∙ count_managers in
    let past : length all ≤ c.loop-number.number = omega (arith, count) in
    record { disconnected = c.loop-number.invariant ∙ ap (λ some. with_lost (limits_of c.args.config.now c.args.proc.user.0).disconnect c.args.proc (flat_map option_to_list some) c.args.queues.now) (take_all c.loop-number.number all past) }
