-- What a system reports is what the step table has: its blocks, from the actions of all CPUs, and
-- each CPU's threads.
use Rattle.std.proofs.Common.{◌≡◌, inl, ℕ, ◌<◌, List, length, map, Option, Some, option_map, slice_index, refl, ap, sym, ◌∙◌, arith, subst, true}
use Rattle.std.specs.Prelude.{slice_get}
use Rattle.event_log.specs.{declared.ids.{BufId.BufId, CpuId.CpuId, LockId.{LockId, TheVariants.{Buffer as AtBuffer, Pending}}, Tid.Tid}, Actions.Action}
use Rattle.event_log.{specs.{Buffers.{items_of, IsAllowedEffect}, Runs.is_closed, Sections.{block_after, sections_in}}, proofs.Renaming.sections_in_renamed}
use Rattle.layer_traits.specs.{Views.Acted.{ItemsAre, MovesAre, guarded, owner_after}, Blocks.BufferEffects.contents_of, Threads.Places.pending_by}
use Rattle.{layer_traits.proofs.PlanRenaming.block_viewed, cpu.specs.Claims.{CpuView, SystemView, waiters_by, buffer_at, no_waiters}}
use Rattle.cpu.specs.{Sound.{IsSetupFor, SoundByTable}, Table.{Blocks.{OfPending, stands_in}, Edits.{edited, table_kernel, on_side}, Setups.SystemConfig}}
use Rattle.cpu.specs.{Table.{Setups.{opening as table_opening, opening_buffer}, Steps.block_at}, Tables.bare, Observed.{BufferIsObserved, HasBuffer}}
use Rattle.cpu.specs.Tower.{Composed.{OpensAs, named}, Views.{TowerBlock, TowerName, answer_view, buffer_view, name_of, tower, view}}
use Rattle.cpu.proofs.{ListFacts.ListReads.listed_there, StepTable.ReachedSystems.{Observed, shown_in}, Tower.{Polls.opens_alike, SectionViews.tables_agree}}

-- the table's block of a lock is the view of the layers'
pub block_read : (setup : SystemConfig) (opening : LockId → Option TowerBlock) (acts : List (Action TowerName)) (lock : LockId)
    → option_map view (opening lock) ≡ table_opening setup lock → block_at setup lock (named acts) ≡ option_map view (guarded opening acts lock)
block_read setup opening acts lock opens =
    ap (λ l. block_after edited (table_opening setup) lock l) (sections_in_renamed name_of acts)
    ∙ sym (opens_alike (λ l. option_map view (opening l)) (table_opening setup) lock opens (map _ (sections_in acts))) ∙ block_viewed tower table_kernel
    (record { name = name_of; view = view; abstract_answer = answer_view; edits = tables_agree.edits; answers = tables_agree.answers })
    opening lock (sections_in acts)

module _ (setup : SystemConfig) (m : Observed) (c : CpuId) (opening : LockId → Option TowerBlock) (opens : OpensAs (bare m.homes m.caps) c opening)
    (caps_are : setup.caps ≡ m.caps) (are : MovesAre opening m.acts m.moves m.wait_lists) where
  pub pending_read : block_at setup (Pending c) (named m.acts) ≡ Some (OfPending (pending_by m.moves c))
  pending_read =
      block_read setup opening m.acts (Pending c) (opens (Pending c) (inl refl)) ∙ ap (option_map view) (are.pending c)
      ∙ (grind (arith, opens (Pending c) (inl refl)))

  buffer_read : (b : BufId) → block_at setup (AtBuffer b) (named m.acts) ≡ option_map view (guarded opening m.acts (AtBuffer b))
  buffer_read b = block_read setup opening m.acts (AtBuffer b) (opens (AtBuffer b) tt ∙ ap (λ (l : List ℕ). opening_buffer (slice_get l b.0)) (sym caps_are))

  -- a system over this machine reports its buffers as the table has them
  module _ (cpus : List CpuView) (room taken : ℕ) (sound : SoundByTable (shown_in m cpus room taken)) (is : IsSetupFor setup (shown_in m cpus room taken))
      (owner_is : (b : BufId) → m.owner b ≡ owner_after opening m.acts b) where
    abbrev s : SystemView
    s = shown_in m cpus room taken

    pub has_buffer : (b : ℕ) → b < length m.caps
        → ItemsAre opening m.acts (buffer_at b) (items_of (contents_of m.caps m.history) b) (slice_index m.caps b) (is_closed m.history b) → HasBuffer setup s b
    has_buffer b within held =
        let there = buffer_read (buffer_at b) ∙ (grind (arith, held.there)) in
        let waiters = listed_there (waiters_by m.wait_lists) (length m.caps) b no_waiters within in
        let observed : BufferIsObserved s b (buffer_view held.lock) = grind (arith, listed_there, waiters) in
        record {
          buffer = buffer_view held.lock;
          there = there;
          observed = observed;
          awake = record {
            on = λ side free t m is_front waits e asks allowed.
                (sound.awake setup is (buffer_at b) (buffer_view held.lock) there).on side (sym observed.owner ∙ free) t m is_front
                (subst (λ (l : List Tid). stands_in t l ≡ true) (λ i. on_side side (observed.receivers i) (observed.senders i)) waits) e asks
                (subst (λ x. x) (λ i. IsAllowedEffect e (observed.closed i) (observed.capacity i) (observed.items i) m) allowed);
          };
        }
