use Rattle.std.proofs.Common.{◌≡◌, ◌∙◌, Ok, ap, subst, sym}
use Rattle.qx_iofunc.proofs.OpenLemmas.{at_spot, missing_allowed}
use Rattle.qx_iofunc.specs.declared.store.Store.TheInside.{Inside}
use Rattle.qx_iofunc.specs.Lookups.{HasFreeName}
use Rattle.qx_iofunc.specs.Makes.{may_make}
use Rattle.qx_iofunc.specs.Store.{Store}
use Rattle.qx_names.specs.Spots.{spot_of}
use Rattle.qx_base.specs.declared.errno.Errno.TheVariants.{ENOENT}
use Rattle.qx_iofunc.specs.declared.found.Lookup.TheVariants.{Missing}
use Rattle.qx_iofunc.proofs.store.Store.lookup.Goals as goal

pub returns-in_ok-new-in-None-clause-allowed : goal.returns-in_ok-new-in-None-clause-allowed
returns-in_ok-new-in-None-clause-allowed c =
    let view = ap (λ (inside : Inside). inside.tables) c.self-inside.view_is ∙ c.self.view_is in
    let inside = c.self-inside.inside.0.0 in
    let stored = c.args.self.now.stored in
    let at = c.in_ok-at.at in
    let new = c.in_ok-new-in-None.new in
    let free = at_spot inside.inodes.inodes inside.names inside.user.0 c.args.root c.args.rest.now ENOENT (spot_of inside.names at) c.in_ok-at.ensures.spot in
    let block = c.in_ok-new-in-None.block in
    let judged = subst (λ (store : Store). Ok (new, block) ≡ may_make store.stored.inodes store.stored.user at.parent c.args.flags) view c.in_ok-new-in-None.ensures.may in
    record {
      free = subst (λ (store : Store). HasFreeName store.stored.names (Missing at new block)) view (c.in_ok-at.ensures.parent, sym free ∙ c.in-None.is);
      judged = sym judged;
      opens = λ r over own mode moment. missing_allowed r stored over (spot_of stored.names at) own (record { flags = c.args.flags; mode = mode; moment = moment }) new block (sym judged);
    }
