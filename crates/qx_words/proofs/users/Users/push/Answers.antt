use Rattle.std.proofs.Common.{length, ◌≡◌, ◌<◌, false}
use Rattle.std.specs.List.{list_any}
use Rattle.std.specs.Str.{bytes_eq}
use Rattle.qx_types.specs.declared.limits.TheConstants.Limits.{USERS}
use Rattle.qx_words.proofs.UserNames.{user_added}
use Rattle.qx_words.proofs.users.Users.push.Goals as goal

pub invariant_of-self-2 : goal.invariant_of-self-2
invariant_of-self-2 c =
    let names = c.self.inside.names.items in
    let other : list_any (λ other. bytes_eq other c.args.name.now) names ≡ false = rw (← c.self.view_is) at c.requires.other in
    let room : length names < USERS = rw (← c.self.view_is) at c.requires.room in
    rw (c.in_ok-push.ensures.items, c.in_ok-name.ensures)
    (user_added names c.args.name.now c.self.invariant c.requires.name other room)
