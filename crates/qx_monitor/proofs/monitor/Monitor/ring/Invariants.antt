use Rattle.qx_monitor.proofs.monitor.Monitor.ring.Given as goal

abbrev pub decreases-waking : goal.decreases-waking
decreases-waking g l = l.threads.bits
