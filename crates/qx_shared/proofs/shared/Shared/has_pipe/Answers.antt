use Rattle.std.proofs.Common.{◌≡◌, ◌∙◌, Option, Some, None, ap, is_some, refl}
use Rattle.std.specs.Borrow.{Bor}
use Rattle.std.specs.Option.{option_copied}
use Rattle.qx_shared.specs.Row.{PipeRow}
use Rattle.qx_shared.proofs.OwnLemmas.{has-told, places-told}
use Rattle.qx_shared.proofs.shared.Shared.has_pipe.Goals as goal

copied : (o : Option (Bor PipeRow)) → is_some o ≡ is_some (option_copied o)
copied None = refl
copied (Some row) = refl

pub returns-clause-is : goal.returns-clause-is
returns-clause-is c = rw (← c.self.view_is) (c.is_some.ensures ∙ copied c.row.result ∙ ap is_some (rw c.deref.ensures.value at c.row.ensures.row) ∙ has-told c.self.inside.queues c.self.inside.pipes.items c.args.user.0 c.args.inode)

pub returns-clause-places : goal.returns-clause-places
returns-clause-places c = rw (← c.self.view_is) (places-told c.self.inside.queues c.self.inside.pipes.items c.self.invariant c.args.user.0)
