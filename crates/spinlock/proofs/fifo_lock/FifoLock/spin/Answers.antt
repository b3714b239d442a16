use Rattle.layer_traits.proofs.SpinLemmas.{none_missed}
use Rattle.spinlock.proofs.fifo_lock.FifoLock.spin.Goals as goal

pub returns-clause-misses : goal.returns-clause-misses
returns-clause-misses g c = none_missed c.args.cpu (g.Self.FifoLock.acts c.args.self.now)
