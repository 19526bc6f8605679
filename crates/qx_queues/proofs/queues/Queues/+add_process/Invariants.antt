use Rattle.qx_queues.proofs.queues.Queues.+add_process.Given as goal

abbrev pub decreases-add_process : goal.decreases-add_process
decreases-add_process l = l.threads
