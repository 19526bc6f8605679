use Rattle.std.proofs.Common.{◌≡◌, ◌∙◌}
use Rattle.std.specs.Prelude.{replicate}
use Rattle.std.proofs.lemmas.List.{take-replicate}
use Rattle.qx_types.specs.UserLimits.{default_limits}
use Rattle.qx_types.specs.declared.limits.TheConstants.Limits.{USERS}
use Rattle.qx_types.proofs.config.default_limits.Goals as goal

pub returns : goal.returns
returns c =
    let all : c.from-limits.result.items ≡ replicate USERS c.default.result = c.from-limits.ensures.0 in
    record { limits = c.truncate.ensures.items ∙ rw (all, c.default.ensures) (take-replicate c.args.users USERS default_limits c.requires.few) }
