use Rattle.std.proofs.Common.{◌≡◌, ℕ, ◌<◌, get_or, length}
use Rattle.{event_log.specs.declared.ids.TheConstants.THREADS, layer_traits.specs.declared.calls.Place.Place, cpu.specs.Claims.IsPlaceOf}
use Rattle.mctower.proofs.run.system_states.places_of.Given as goal

abbrev pub invariant-loop-t : goal.invariant-loop-t
invariant-loop-t g l = record {
  many : length l.places ≡ THREADS;
  read : (k : ℕ) (d : Place) → k < l.t → IsPlaceOf l.system (record { 0 = k }) (get_or l.places k d);
}
