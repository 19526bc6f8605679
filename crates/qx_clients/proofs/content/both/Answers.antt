use Rattle.std.proofs.Common.{rules, ◌≡◌, ◌<◌, ◌^◌, ◌++◌, length}
use Rattle.std.specs.Int.{w16, to_le_bytes}
use Rattle.qx_wire.specs.Rests.{components_of, joined}
use Rattle.qx_clients.proofs.ContentLemmas.{few_bytes, names_two}
use Rattle.qx_clients.proofs.content.both.Goals as goal

pub returns-clause-named : goal.returns-clause-named
returns-clause-named c =
    let from = c.args.from.now in
    let to = c.args.to.now in
    let few : length (joined from) < 2 ^ 16 = few_bytes from c.know.ensures.rest in
    let from_is : components_of (joined from) ≡ from = rw (← c.in_ok-from-inside.ensures.joined) c.in_ok-from-inside.ensures.read_back in
    let to_is : components_of (joined to) ≡ to = rw (← c.in_ok-to.ensures.joined) c.in_ok-to.ensures.read_back in
    let whole : c.with_piece.result.items ≡ to_le_bytes w16 (length (joined from)) ++ (joined from ++ joined to) = search rules in
    rw whole (names_two from to c.know.ensures.rest from_is to_is)
