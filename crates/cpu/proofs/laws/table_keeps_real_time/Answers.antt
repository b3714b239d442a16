use Rattle.cpu.proofs.TableOrder.RealTime.{table_keeps_real_time}
use Rattle.cpu.proofs.laws.table_keeps_real_time.Goals as goal

pub returns : goal.returns
returns c = table_keeps_real_time
