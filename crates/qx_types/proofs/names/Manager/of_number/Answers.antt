use Rattle.std.proofs.Common.{rules, ◌≡◌, ◌+◌, ◌-◌, ap, sym, ◌∙◌}
use Rattle.std.specs.Prelude.{option_map, slice_get}
use Rattle.qx_types.specs.Managers.{managers}
use Rattle.qx_types.specs.declared.names.Manager.TheVariants.{Device}
use Rattle.qx_types.proofs.Managers.{behind}
use Rattle.qx_types.proofs.names.Manager.of_number.Goals as goal

pub returns-in_ok-of_number-in_default : goal.returns-in_ok-of_number-in_default
returns-in_ok-of_number-in_default c =
    let later : c.args.number ≡ 2 + (c.args.number - 2) = search rules in
    sym (ap (slice_get managers) later ∙ behind (c.args.number - 2) ∙ ap (option_map Device) (sym c.of_number.ensures ∙ c.in_ok-of_number-in_default.was))
