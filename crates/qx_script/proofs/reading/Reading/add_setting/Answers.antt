use Rattle.std.proofs.Common.{rules, true, ◌≡◌, [], ◌∷◌, length}
use Rattle.std.proofs.lemmas.List.Elements.{All-append, All-cons, All-nil}
use Rattle.qx_script.specs.Settings.{CanBeSet, is_allowed}
use Rattle.qx_script.proofs.reading.Reading.add_setting.Goals as goal

pub invariant_of-self-2 : goal.invariant_of-self-2
invariant_of-self-2 c =
    let setting = c.in-Some.setting in
    let P = CanBeSet (length c.self.inside.users) in
    let range = rw (c.in-Some.is, ← c.self.view_is) at c.requires.within in
    let allowed : is_allowed setting ≡ true = search rules in
    let can : P setting = record { some = range.0; within = range.1; allowed = allowed } in
    (c.self.invariant.0, rw c.in_ok-push.ensures.items (All-append P c.self.inside.settings.items (setting ∷ []) c.self.invariant.1 (All-cons P setting [] can (All-nil P))))
