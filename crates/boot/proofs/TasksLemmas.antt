-- Threads: what has been read after some tables.
use Rattle.std.proofs.Common.{◌≡◌, ℕ, List, map, All}
use Rattle.{toml.specs.Data.Members, event_log.{specs.Reading.read_from, proofs.ReadingLemmas.{after, left_from}}, boot.specs.Plan.{Task, IsTask, task_at}}

-- the first `i` tables are threads, in front
pub record TasksSoFar {X : Type 0} (table : X → Members) (cpus buffers : ℕ) (tables : List X) (i : ℕ) (front : List Task) : Type 0 where
  pub read : after front (left_from table (task_at cpus buffers) tables i) ≡ read_from (task_at cpus buffers) 0 (map table tables)
  pub each : All (IsTask cpus buffers) front
