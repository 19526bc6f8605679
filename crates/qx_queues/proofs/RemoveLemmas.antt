-- The nodes of a thread are given back.
use Rattle.std.proofs.Common.{◌≡◌, ◌≢◌, ℕ, ◌+◌, true, false, List, Some, None, is_some, map, option_map, refl, sym, ◌∙◌, ap, arith}
use Rattle.std.specs.FinMap as maps
use Rattle.std.specs.FinSet as set
use Rattle.qx_types.specs.declared.names.Thread.{Thread}
use Rattle.qx_lists.specs.Table.{Table, IsFree}
use Rattle.qx_lines.specs.declared.Line.{Line}
use Rattle.qx_isolation.specs.Lines.{line_at}
use Rattle.qx_queues.specs.declared.nodes.ThreadNodes.{ThreadNodes}
use Rattle.qx_queues.specs.declared.nodes.UserNodes.{UserNodes}
use Rattle.qx_queues.specs.inner.Kept.{AreListsOfTable, KnowsPulses, entries}
use Rattle.qx_queues.specs.Nodes.{Message, Unblock, node_of, nodes_of_thread, pulse_line_at, threads_of, with_nodes_at}
use Rattle.qx_queues.specs.Queues.{HasNoListedCall, as_message, pulse_call, stands, unblock_call, without_thread_nodes}
use Rattle.qx_queues.specs.Waiting.{Waiting}
use Rattle.qx_queues.proofs.CallLemmas.{value_of}
use Rattle.qx_queues.proofs.EntryLemmas.{reads-call, reads-message}
use Rattle.qx_queues.proofs.KeptLemmas.{IsFree-own, Kept-given, calls-freed, entries-freed, no_call-message, no_call-unblock, shown-kept}
use Rattle.qx_queues.proofs.NodesLemmas.{asked_at-same, half, half-first, half-second, length-with_nodes}
use Rattle.qx_queues.proofs.PresenceLemmas.{same_queues, servers-with_nodes, threads-freed, threads-nodes}
use Rattle.qx_queues.proofs.PulseLemmas.{KnowsPulses-same, nowhere-asked}
use Rattle.qx_queues.proofs.TableLemmas.{contains-other, removed}

module _ {answered : ℕ} (t : Table Waiting) (lines : List Line) (nodes : List UserNodes) (thread : Thread) (own : ThreadNodes) (kept : AreListsOfTable t lines answered (node_of nodes)) (has : nodes_of_thread nodes thread ≡ Some own) (idle : (number : ℕ) → stands (line_at (map (entries t) lines) number) thread ≡ false) (unasked : (number : ℕ) → unblock_call (line_at (map (entries t) lines) number) thread ≡ None) (no_call : HasNoListedCall (value_of t lines answered nodes) thread) where
  message : node_of nodes (Message thread) ≡ Some own.message
  message = ap (option_map (λ own. own.message)) has

  unblock : node_of nodes (Unblock thread) ≡ Some own.unblock
  unblock = ap (option_map (λ own. own.unblock)) has

  pub free-message : IsFree t own.message
  free-message = IsFree-own as_message thread (Message thread) (reads-message thread) t lines (node_of nodes) own.message kept message idle (no_call-message t lines (node_of nodes) thread own.message kept message no_call.waiting no_call.answered)

  free_unblock : IsFree t own.unblock
  free_unblock = IsFree-own pulse_call thread (Unblock thread) (reads-call thread) t lines (node_of nodes) own.unblock kept unblock (λ number. ap is_some (unasked number)) (no_call-unblock t lines (node_of nodes) thread own.unblock kept unblock)

  -- that of its messages first
  module _ (mid : Table Waiting) (first : mid ≡ record t { values = maps.remove t.values own.message; room = t.room + 1 }) where
    apart : own.unblock ≢ own.message
    apart same = let clash : Unblock thread ≡ Message thread = kept.once (Message thread) (Unblock thread) own.message message (unblock ∙ ap Some same) in cc

    pub free-unblock : IsFree mid own.unblock
    free-unblock = record {
      there = contains-other t mid own.message (removed t mid own.message (ap (λ t. t.values) first)) own.unblock apart free_unblock.there;
      in_no_list = rw first free_unblock.in_no_list;
    }

    module _ (new : Table Waiting) (second : new ≡ record mid { values = maps.remove mid.values own.unblock; room = mid.room + 1 }) (gone : nodes_of_thread (with_nodes_at nodes thread None) thread ≡ None) where
      pub Kept-removed : AreListsOfTable new lines answered (node_of (with_nodes_at nodes thread None))
      Kept-removed =
          let halfway = Kept-given t mid own.message _ first free-message lines (node_of nodes) kept (half nodes thread None) (Message thread) message (ap (option_map (λ own. own.message)) gone) (half-first nodes thread None) in
          Kept-given mid new own.unblock _ second free-unblock lines (half nodes thread None) halfway (node_of (with_nodes_at nodes thread None)) (Unblock thread) unblock (ap (option_map (λ own. own.unblock)) gone) (half-second nodes thread None)

      shown : map (entries new) lines ≡ map (entries t) lines
      shown = shown-kept t new lines (λ line. entries-freed mid new own.unblock _ second free-unblock line ∙ entries-freed t mid own.message _ first free-message line)

      pub pulses-removed : KnowsPulses (map (entries t) lines) (pulse_line_at nodes) → KnowsPulses (map (entries new) lines) (pulse_line_at (with_nodes_at nodes thread None))
      pulses-removed was = KnowsPulses-same _ _ _ _ shown (asked_at-same nodes thread None gone (sym (nowhere-asked _ _ thread was unasked))) was

      pub value-removed : value_of new lines answered (with_nodes_at nodes thread None) ≡ without_thread_nodes (value_of t lines answered nodes) thread
      value-removed =
          let there : set.contains (threads_of nodes) thread ≡ true = threads-nodes nodes thread ∙ ap is_some has in
          let one = calls-freed t mid own.message _ first free-message lines answered kept.off_lines in
          let two = calls-freed mid new own.unblock _ second free-unblock lines answered kept.off_lines in
          let less : mid.room ≡ t.room + 1 = ap (λ t. t.room) first in
          let least : new.room ≡ mid.room + 1 = ap (λ t. t.room) second in
          let room : new.room ≡ t.room + 2 = omega (arith, less, least) in
          same_queues shown (threads-freed nodes thread None refl gone) (servers-with_nodes nodes thread None) (length-with_nodes nodes thread None) (room ∙ sym (rw there refl)) (two.waiting ∙ one.waiting) (two.given ∙ one.given)
