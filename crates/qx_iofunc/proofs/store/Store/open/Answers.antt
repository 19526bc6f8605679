use Rattle.std.proofs.Common.{subst}
use Rattle.qx_iofunc.specs.declared.found.Lookup.{Lookup}
use Rattle.qx_iofunc.specs.Lookups.{IsAllowed}
use Rattle.qx_iofunc.proofs.store.Store.open.Goals as goal

pub open_existing-requires : goal.open_existing-requires
open_existing-requires c =
    let allowed = subst (λ (lookup : Lookup). IsAllowed c.args.self.now.stored c.args.wish.flags lookup) c.in-Found.is c.requires.allowed in
    record { judged = allowed.judged }
