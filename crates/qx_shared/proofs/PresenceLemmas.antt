-- The first threads of a process get nodes, and its threads lose them.
use Rattle.std.proofs.Common.{◌≡◌, ◌≢◌, inl, inr, ℕ, zero, suc, ◌+◌, ◌||◌, ◌&&◌, not, Bool, true, false, [], refl, sym, ap, ◌∙◌}
use Rattle.std.specs.FinMap as maps
use Rattle.std.specs.FinSet as set
use Rattle.std.proofs.lemmas.Bool.{cases_Bool}
use Rattle.qx_types.specs.declared.limits.TheConstants.Limits.{THREADS}
use Rattle.qx_types.specs.declared.names.Proc.{Proc}
use Rattle.qx_types.specs.declared.names.Thread.{Thread}
use Rattle.qx_queues.specs.Queues as queues
use Rattle.qx_queues.specs.Queues.{Queues, is_same_proc}
use Rattle.qx_queues.specs.inner.Queues.{is_thread_below, is_thread_of}
use Rattle.qx_queues.proofs.PresenceLemmas as inner
use Rattle.qx_queues.proofs.NodesLemmas.{is_same_proc-same}
use Rattle.qx_shared.specs.Shared.{Shared, has_disconnect_node, has_thread, with_shared_process, without_shared_process, without_threads_below}

module _ (c : Shared) (proc : Proc) where
  abbrev same_nodes : Queues
  same_nodes = record { lines = c.lines; threads = c.threads; servers = c.servers; users = 0; room = c.room; pipes = maps.empty; answered = [] }

  threads-process : (threads : ℕ) → (with_shared_process c proc threads).threads ≡ (queues.with_process_nodes same_nodes proc threads).threads
  threads-process zero = refl
  threads-process (suc threads) = ap (λ s. set.insert s (record { proc = proc; tid = suc threads })) (threads-process threads)

  pub has-process : (threads : ℕ) (other : Thread) → has_thread (with_shared_process c proc threads) other ≡ (has_thread c other || is_thread_of proc threads other)
  has-process threads other = ap (λ s. set.contains s other) (threads-process threads) ∙ inner.has-process same_nodes proc threads other

  pub lines-process : (threads : ℕ) → (with_shared_process c proc threads).lines ≡ c.lines
  lines-process zero = refl
  lines-process (suc threads) = lines-process threads

  pub servers-process : (threads : ℕ) → (with_shared_process c proc threads).servers ≡ c.servers
  servers-process zero = refl
  servers-process (suc threads) = servers-process threads

  -- the threads of a process lose their nodes
  threads-below : (threads : ℕ) → (without_threads_below c proc threads).threads ≡ (queues.without_nodes_below same_nodes proc threads).threads
  threads-below zero = refl
  threads-below (suc threads) = ap (λ s. set.remove s (record { proc = proc; tid = threads })) (threads-below threads)

  has-below : (threads : ℕ) (other : Thread) → has_thread (without_threads_below c proc threads) other ≡ (has_thread c other && not (is_thread_below proc threads other))
  has-below threads other = ap (λ s. set.contains s other) (threads-below threads) ∙ inner.has-below same_nodes proc threads other

  -- and nothing else is different but the room
  same-below : (threads : ℕ) → record (without_threads_below c proc threads) { threads = c.threads; room = c.room } ≡ c
  same-below zero = refl
  same-below (suc threads) = same-below threads

-- what there is once the threads of a process lost their nodes
pub record Removed (c d : Shared) (proc : Proc) : Type 0 where
  pub own : (thread : Thread) → thread.proc ≡ proc → has_thread d thread ≡ false
  pub others : (thread : Thread) → thread.proc ≢ proc → has_thread d thread ≡ has_thread c thread
  pub servers : (other : Proc) (number : ℕ) → has_disconnect_node d other number ≡ has_disconnect_node c other number
  pub lines : d.lines ≡ c.lines
  pub pipes : d.pipes ≡ c.pipes
  pub answered : d.answered ≡ c.answered

module _ (c d : Shared) (proc : Proc) (is : d ≡ without_shared_process c proc) (gone : (thread : ℕ) → has_thread d (record { proc = proc; tid = thread }) ≡ false) where
  removed-is : d ≡ without_threads_below c proc (THREADS + 1)
  unfolding without_shared_process
  removed-is = is

  rest-same : record d { threads = c.threads; room = c.room } ≡ c
  rest-same = let rest : Shared → Shared = λ s. record s { threads = c.threads; room = c.room } in ap rest removed-is ∙ same-below c proc (THREADS + 1)

  pub process-removed : Removed c d proc
  process-removed = record {
    own = λ thread same. ap (λ p. has_thread d (record { proc = p; tid = thread.tid })) same ∙ gone thread.tid;
    others = λ thread apart. ap (λ s. has_thread s thread) removed-is ∙ has-below c proc (THREADS + 1) thread ∙ of thread apart;
    servers = λ other number. ap (λ s. has_disconnect_node s other number) rest-same;
    lines = ap (λ s. s.lines) rest-same;
    pipes = ap (λ s. s.pipes) rest-same;
    answered = ap (λ s. s.answered) rest-same;
  }
    where
      and_true : (b : Bool) → (b && true) ≡ b
      and_true true = refl
      and_true false = refl

      of : (thread : Thread) → thread.proc ≢ proc → (has_thread c thread && not (is_thread_below proc (THREADS + 1) thread)) ≡ has_thread c thread
      of thread apart = elim (cases_Bool (is_same_proc proc thread.proc)) [
        | inl same ↦ absurd (apart (sym (is_same_proc-same proc thread.proc same)))
        | inr differs ↦ rw differs (and_true (has_thread c thread))
      ]
