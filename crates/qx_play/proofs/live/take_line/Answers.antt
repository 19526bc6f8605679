use Rattle.std.proofs.Common.{rules, ◌≡◌, ◌∙◌, ◌++◌, [], None, Some, append-nil, ap, sym}
use Rattle.qx_types.specs.Step.{actor_of}
use Rattle.qx_live.specs.Live.{Session, after_line, line_steps}
use Rattle.qx_live.specs.Sessions.{session_of}
use Rattle.qx_play.specs.Play.{world_played}
use Rattle.qx_play.proofs.Replayed.{line_of, line_same, line_taken, no_line}
use Rattle.qx_play.proofs.live.take_line.Goals as goal

pub returns-in_default-clause-steps : goal.returns-in_default-clause-steps
returns-in_default-clause-steps c =
    let old = c.args.traced.now in
    let w = world_played old.config old.steps in
    let none : actor_of c.args.line.now.step ≡ None = search rules in
    sym (ap (λ l. old.steps ++ l) (no_line w c.args.line.now none) ∙ append-nil old.steps)

pub returns-clause-steps : goal.returns-clause-steps
returns-clause-steps c =
    let old = c.args.traced.now in
    let line = c.args.line.now in
    let w = world_played old.config old.steps in
    let by : actor_of line.step ≡ Some c.in-Some._actor = search rules in
    let session_is : session_of c.line.new.self ≡ after_line (record { world = w; written = [] }) line =
    line_of _ _ _ line w _ c.requires.none_due c.clear.ensures.items c.requires.same c.in-Ok.ensures.done in
    line_taken old.config old.steps c.store.new.traced.steps c.serve_waiting.new.traced.steps _ c.in_ok-clone.field-0 c.deref.result.now line c.in-Some._actor by
    (search rules) c.in_ok-store.ensures.steps (search rules) c.in_ok-take_behind_first.ensures.steps (c.deref.ensures.value ∙ ap (λ (s : Session). s.written) session_is)

pub returns-clause-same : goal.returns-clause-same
returns-clause-same c =
    let old = c.args.traced.now in
    let line = c.args.line.now in
    let w = world_played old.config old.steps in
    let by : actor_of line.step ≡ Some c.in-Some._actor = search rules in
    let session_is : session_of c.line.new.self ≡ after_line (record { world = w; written = [] }) line =
    line_of _ _ _ line w _ c.requires.none_due c.clear.ensures.items c.requires.same c.in-Ok.ensures.done in
    let after = c.take_behind_first.new.traced in
    let taken : after.steps ≡ old.steps ++ line_steps w line =
    line_taken old.config old.steps c.store.new.traced.steps c.serve_waiting.new.traced.steps after.steps c.in_ok-clone.field-0 c.deref.result.now line c.in-Some._actor by
    (search rules) c.in_ok-store.ensures.steps (search rules) c.in_ok-take_behind_first.ensures.steps (c.deref.ensures.value ∙ ap (λ (s : Session). s.written) session_is) in
    let config : after.config ≡ old.config = search rules in
    line_same old.config old.steps after.steps line _ (ap (λ (s : Session). s.world) session_is) taken ∙ ap (λ k. world_played k after.steps) (sym config)
