use Rattle.std.proofs.Common.{rules, ◌≡◌, ◌∙◌, ◌+◌, ◌<◌, ◌++◌, ◌∷◌, ap, drop, length, sym}
use Rattle.std.proofs.lemmas.List.{drop_more}
use Rattle.qx_live.specs.Live.{live_steps}
use Rattle.qx_play.specs.Play.{world_played}
use Rattle.qx_play.proofs.Replayed.{lines_taken}
use Rattle.qx_play.proofs.live.play_session.Goals as goal

pub lines-preserved : goal.lines-preserved
lines-preserved c =
    let before = c.lines.traced in
    let after = c.take_line.new.traced in
    let line = c.line-item.result in
    let rest = drop (c.lines.line-index + 1) c.args.lines.now in
    let within : c.lines.line-index < length c.args.lines.now = search rules in
    let split : drop c.lines.line-index c.args.lines.now ≡ line ∷ rest = drop_more c.args.lines.now c.lines.line-index line within ∙ ap (λ l. l ∷ rest) (sym c.line-item.is) in
    let config : after.config ≡ before.config = c.take_line.ensures.config in
    record {
      config = config ∙ c.lines.invariant.config;
      none_due = c.in_ok-take_line.ensures.none_due;
      same = c.in_ok-take_line.ensures.same;
      steps =
          ap (λ k. after.steps ++ live_steps (world_played k after.steps) rest) config
          ∙ (lines_taken before.config before.steps after.steps line rest c.in_ok-take_line.ensures.steps
          ∙ (ap (λ l. before.steps ++ live_steps (world_played before.config before.steps) l) (sym split) ∙ c.lines.invariant.steps));
    }
