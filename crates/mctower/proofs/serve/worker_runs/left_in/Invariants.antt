use Rattle.std.proofs.Common.{◌≡◌, map}
use Rattle.{cpu.specs.Claims.{buffer_at, listed}, cpu_workers.specs.Seating.items_of_block}
use Rattle.mctower.proofs.serve.worker_runs.left_in.Given as goal

abbrev pub invariant-loop-buffer : goal.invariant-loop-buffer
invariant-loop-buffer l = map (λ v. v.items) l.left.items ≡ listed (λ b. items_of_block l.report.blocks.items (buffer_at b)) 0 l.buffer
