-- A poll of the lock by a waiting section, under other names.
use Rattle.std.proofs.Common.{List, ◌∷◌, ◌==◌, map, ap, sym, ◌∙◌}
use Rattle.event_log.{specs.{declared.ids.CpuId.CpuId, Actions.{Action, Try, renamed}}, proofs.Renaming.{phase_renamed, gives_renamed, spot_renamed}}
use Rattle.{event_log.proofs.Renaming.others_renamed, layer_traits.{proofs.PlanRenaming.map-append, specs.Polling.Looks.Tries}}

-- under other names it is the same poll
pub tries_renamed : {M N : Type 0} (name : M → N) (ActsFor : CpuId → Type 0) (cpu : CpuId) (old new : List (Action M)) → Tries ActsFor cpu old new
    → Tries ActsFor cpu (map (renamed name) old) (map (renamed name) new)
tries_renamed name ActsFor cpu old new tries = record {
  others = map (renamed name) tries.others;
  foreign = λ c acts. others_renamed name c tries.others (tries.foreign c acts);
  past = map (renamed name) tries.past;
  joined = ap (map (renamed name)) tries.joined ∙ map-append (renamed name) tries.others old;
  lock = tries.lock;
  waits = phase_renamed name cpu tries.past ∙ tries.waits;
  grows = ap (map (renamed name)) tries.grows
      ∙ (λ i. Try cpu tries.lock (sym (gives_renamed name tries.lock tries.past) i == sym (spot_renamed name cpu tries.past) i) ∷ map (renamed name)
      tries.past);
}
