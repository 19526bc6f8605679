use Rattle.std.proofs.Common.{◌≡◌, ◌∙◌, ◌∷◌, ◌++◌, [], All, subst, sym}
use Rattle.std.proofs.lemmas.List.Elements.{All-push}
use Rattle.qx_tied.specs.Tied.{Known}
use Rattle.qx_tied.proofs.RunLemmas.{seat_more}
use Rattle.qx_tied.proofs.tied.seats_of.Goals as goal

pub making-preserved : goal.making-preserved
making-preserved g c =
    let items = c.in_ok-push.ensures.items in
    record {
      numbers = seat_more c.making.made.items _ c.making.number c.again.result items c.making.invariant.numbers;
      none = subst (All (λ (s : Known). s.events ≡ [])) (sym items) (All-push (λ (s : Known). s.events ≡ []) c.making.made.items _ c.making.invariant.none (c.again.ensures ∙ c.requires));
    }
