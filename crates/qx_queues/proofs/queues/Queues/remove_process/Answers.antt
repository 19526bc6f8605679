use Rattle.std.proofs.Common.{◌≡◌, ◌+◌, ◌∙◌, [], inl, inr, ap, arith, is_some, unwrap_or}
use Rattle.std.specs.FinMap as maps
use Rattle.std.proofs.lemmas.Bool.{cases_lt}
use Rattle.qx_types.specs.declared.limits.TheConstants.Limits.{THREADS}
use Rattle.qx_isolation.specs.Lines.{line_at}
use Rattle.qx_queues.specs.Queues.{has_answer_among, has_call, has_thread_nodes, stands, unblock_call, without_nodes_below, without_process_nodes}
use Rattle.qx_queues.proofs.PresenceLemmas.{gone-below, same-below, threads-nodes}
use Rattle.qx_queues.proofs.queues.Queues.remove_process.Goals as goal

pub remove-requires-clause-idle : goal.remove-requires-clause-idle
remove-requires-clause-idle c = λ number.
    let lines = ap (λ q. q.lines) c.loop-tid.invariant ∙ ap (λ q. q.lines) (same-below c.args.self.now c.args.proc c.loop-tid.tid) in
    ap (λ l. stands (line_at l number) (record { proc = c.args.proc; tid = c.loop-tid.tid })) lines ∙ c.requires.idle c.loop-tid.tid number

pub remove-requires-clause-unasked : goal.remove-requires-clause-unasked
remove-requires-clause-unasked c = λ number.
    let lines = ap (λ q. q.lines) c.loop-tid.invariant ∙ ap (λ q. q.lines) (same-below c.args.self.now c.args.proc c.loop-tid.tid) in
    ap (λ l. unblock_call (line_at l number) (record { proc = c.args.proc; tid = c.loop-tid.tid })) lines ∙ c.requires.unasked c.loop-tid.tid number

pub remove-requires-clause-no_call : goal.remove-requires-clause-no_call
remove-requires-clause-no_call c =
    let same = same-below c.args.self.now c.args.proc c.loop-tid.tid in
    let pipes = ap (λ q. q.pipes) c.loop-tid.invariant ∙ ap (λ q. q.pipes) same in
    let answered = ap (λ q. q.answered) c.loop-tid.invariant ∙ ap (λ q. q.answered) same in
    record {
      waiting = λ list. ap (λ p. has_call (unwrap_or (maps.get p list) []) (record { proc = c.args.proc; tid = c.loop-tid.tid })) pipes ∙ (c.requires.no_call c.loop-tid.tid).waiting list;
      answered = ap (λ a. has_answer_among a (record { proc = c.args.proc; tid = c.loop-tid.tid })) answered ∙ (c.requires.no_call c.loop-tid.tid).answered;
    }

pub returns-clause-removed : goal.returns-clause-removed
unfolding without_process_nodes
returns-clause-removed c =
    let all : c.loop-tid.tid ≡ THREADS + 1 = omega arith in
    c.loop-tid.invariant ∙ ap (without_nodes_below c.args.self.now c.args.proc) all

pub returns-clause-gone : goal.returns-clause-gone
returns-clause-gone c = λ thread. elim (cases_lt thread c.loop-tid.tid) [
  | inl within ↦ ap (λ q. has_thread_nodes q (record { proc = c.args.proc; tid = thread })) c.loop-tid.invariant ∙ gone-below c.args.self.now c.args.proc c.loop-tid.tid thread within
  | inr past ↦ rw (← c.self.view_is) (threads-nodes c.self.inside.nodes (record { proc = c.args.proc; tid = thread }) ∙ ap is_some (c.know.ensures.few thread (omega arith)))
]
