-- What one legal words log of the tower's locks implies: its effects may follow each other, and
-- what its sections leave is the step table's, and in the buffers what its effects leave.
use Rattle.std.proofs.Common.{◌≡◌, ℕ, suc, ◌<◌, ◌≤◌, List, [], ◌∷◌, length, map, slice_get, slice_index, Option, Some, None, option_map, inl, refl, ap, sym}
use Rattle.std.proofs.Common.{◌∙◌, subst, arith}
use Rattle.event_log.specs.{declared.ids.{BufId.BufId, CpuId.CpuId, LockId.{LockId, TheVariants.{Pending, Buffer as AtBuffer}}}, Actions.{Action, AreLegal}}
use Rattle.event_log.specs.{Actions.{acts_of, renamed}, Buffers.items_of, Runs.is_closed, History.IsLawful, Sections.{Section, block_after, renamed_section}}
use Rattle.event_log.{specs.Sections.sections_in, proofs.{Foreign.sections_acts, Renaming.{legal_renamed, sections_in_renamed}, Same.same_lock_true}}
use Rattle.{event_log.proofs.Tickets.legal_acts, layer_traits.specs.declared.{buffer_edits.BufferEdit.BufferEdit, conditions.{CvEdit.CvEdit, CvLeave.CvLeave}}}
use Rattle.layer_traits.specs.{declared.{queue_edits.{QueueBlock.QueueBlock, QueueEdit.QueueEdit}, queues.QueueEvent.QueueEvent}, Views.Acted.ItemsAre}
use Rattle.layer_traits.specs.{Views.{Acted.guarded, Renaming.{renamed_edit, renamed_events, viewed, viewed_block}}, Blocks.BufferEffects.MayTakeEffect}
use Rattle.layer_traits.specs.Blocks.{BufferEffects.{contents_of, effects_in}, BufferProtocol.{BufferLock, buffer_monitor_rules}, QueueBlocks.StartsWell}
use Rattle.layer_traits.specs.{Blocks.{QueueBlocks.above_of, QueueRules.{AreProper, queue_edited}}, Layers.{Conditions.{CvCall, cv_rules}, IpcLaw.OpensSo}}
use Rattle.layer_traits.specs.Layers.{QLockLaw.lock_kernel, QLocking.lock_edited, Queues.{QueueAllowed, buffer_sections, event_of}, Sleeping.sleep_edited}
use Rattle.layer_traits.specs.{Protocols.{OneLock.opened, WordsProtocol.{MayCome, edit_of, sections}}, Laws.Openings.opens_so}
use Rattle.layer_traits.proofs.{KernelRenaming.{homes_viewed, proper_renamed, seen_renamed, starts_viewed, viewed_there}, NestedLemmas.lawful_events}
use Rattle.layer_traits.proofs.{NestedLemmas.lawful_proper, PlanRenaming.{block_viewed, stands_of_parts}, Seen.{sections_allowed, words_legal}}
use Rattle.sleep_wakeup.specs.{Laws.NestedLaws.nested_lawful, Nested.{nested_edited, nested_moves, nested_rules, state_of}}
use Rattle.queuing_lock.specs.{declared.edits.QLockSection.QLockSection, Laws.NestedLaws.locks_lawful, Nested.{busy_rules, nested_lock_of}}
use Rattle.fifo_buffer.{specs.Laws.{OwnedLaws.items_acted, Tallies.effects_lawful}, proofs.Opening.{boots_well, caps_are}}
use Rattle.{table_machine.specs.SeatViews.TableView, cpu.specs.{Table.{Setups.{SystemConfig, opening as table_opening}, Steps.block_at}, Tower.Composed.named}}
use Rattle.cpu.{specs.Tower.Views.{TowerBlock, TowerName, view}, proofs.StepTable.{TableCalls.opens_so as opens_as, PartsOfTable.block_read}}
use Rattle.cpu_workers.specs.{Closing.{LockBlock, LockEdit, StartsSo, WordsOfTower, acts_in, blocks_read, seen_above, tower_rules}, Lawful.messages_in}
use Rattle.cpu_workers.specs.Orders.{effects_of}
use Rattle.sleep_wakeup.specs.Nested as sleep
use Rattle.queuing_lock.specs.Laws.Edits as locked
use Rattle.queuing_lock.specs.Nested as lock

-- Blocks under other names.

module _ {D E A B : Type 0} (low : D → A → A) (high : E → B → B) (name : D → E) (sees : A → B)
    (edits : (d : D) (a : A) → sees (low d a) ≡ high (name d) (sees a)) where
  edits_seen : (e : QueueEdit D) (b : QueueBlock A) → viewed_block sees (queue_edited low e b) ≡ queue_edited high (renamed_edit name e) (viewed_block sees b)
  edits_seen e b = grind (arith, edits)

  -- what the same sections under other names leave is seen so
  block_seen : (opening : LockId → Option (QueueBlock A)) (at : LockId) (past : List (Section (QueueEdit D)))
      → block_after (queue_edited high) (viewed sees opening) at (map (renamed_section (renamed_edit name)) past)
      ≡ option_map (viewed_block sees) (block_after (queue_edited low) opening at past)
  block_seen opening at past =
      block_viewed (record { edited = queue_edited low; answer = λ e b. tt }) (record { edited = queue_edited high; answer = λ e b. tt })
      (record {
        name = renamed_edit name;
        view = viewed_block sees;
        abstract_answer = λ (u : Unit {0}). u;
        edits = edits_seen;
        answers = λ e b. refl;
      }) opening at past

-- The blocks that are given back.

module _ {E B : Type 0} (edited : E → B → B) (opening : LockId → Option B) (at : LockId) where
  after_none : (past : List (Section E)) → opening at ≡ None → block_after edited opening at past ≡ None
  after_none [] none = none
  after_none (s ∷ past) none = grind (arith, after_none past none)

-- a list of blocks that has each lock's in the order of another list has it for the lock
given_back : {B : Type 0} (left : LockId → Option B) (at : LockId) (start blocks : List (LockId × B)) → length blocks ≡ length start
    → ((i : ℕ) (o : LockId × B) → slice_get start i ≡ Some o → (b : B) × (slice_get blocks i ≡ Some (o.0, b)) × (left o.0 ≡ Some b))
    → (opened start at ≡ None → left at ≡ None) → opened blocks at ≡ left at
given_back left at [] [] count each none = sym (none refl)
given_back left at [] (x ∷ blocks) count each none = absurd (omega (arith, count))
given_back left at (o ∷ start) [] count each none = absurd (omega (arith, count))
given_back left at (o ∷ start) (x ∷ blocks) count each none =
    let here = each 0 o refl in
    let is : x ≡ (o.0, here.0) = cc here.1 in
    grind (arith, is, here.2, same_lock_true o.0 at, given_back left at start blocks (omega (arith, count)) (λ i z found. each (suc i) z found))

module _ (setup : SystemConfig) (table_view : TableView (QueueBlock LockBlock)) (so : StartsSo setup table_view) (log : WordsOfTower)
    (legal : IsLawful (MayCome (tower_rules.allowed (opened table_view.start))) log) where
  abbrev opening : LockId → Option (QueueBlock LockBlock)
  opening = opened table_view.start

  abbrev above : LockId → Option TowerBlock
  above = seen_above opening

  abbrev acts : List (Action TowerName)
  acts = acts_in log

  -- the actions of the layers below, under the names of the locks' words and under those of sleep
  -- and wakeup
  abbrev acts_words : List (Action (QueueEdit LockEdit))
  acts_words = acts_of edit_of log

  abbrev acts_slept : List (Action (QueueEdit (QLockSection (CvEdit BufferEdit) CvLeave)))
  acts_slept = map (renamed (renamed_edit sleep.slept_edit)) acts_words

  -- The actions are legal.
  pub acts_legal : AreLegal acts
  acts_legal =
      legal_renamed (renamed_edit lock.lock_call) acts_slept (legal_renamed (renamed_edit sleep.slept_edit) acts_words
      (legal_acts edit_of log (words_legal (tower_rules.allowed opening) log legal)))

  -- The calls of the layers above are allowed.
  lawful_words : IsLawful (tower_rules.allowed opening) (sections_in acts_words)
  lawful_words = rw (sections_acts edit_of log) (sections_allowed (tower_rules.allowed opening) log legal)

  abbrev events : List (QueueEvent (CvCall BufferEdit))
  events = renamed_events lock.lock_call (renamed_events sleep.slept_edit (map event_of (sections_in acts_words)))

  lawful_calls : IsLawful (QueueAllowed (lock_kernel (cv_rules buffer_monitor_rules) above)) events
  lawful_calls =
      locks_lawful (cv_rules buffer_monitor_rules) (viewed state_of opening) (renamed_events sleep.slept_edit (map event_of (sections_in acts_words)))
      (nested_lawful (busy_rules (cv_rules buffer_monitor_rules)) opening (map event_of (sections_in acts_words))
      (lawful_events (nested_rules (busy_rules (cv_rules buffer_monitor_rules))) (nested_moves (busy_rules (cv_rules buffer_monitor_rules))) opening
      (sections_in acts_words) lawful_words))

  events_are : events ≡ map event_of (sections_in acts)
  events_are = ap (renamed_events lock.lock_call) (seen_renamed sleep.slept_edit acts_words) ∙ seen_renamed lock.lock_call acts_slept

  pub sections_proper : AreProper (sections_in acts)
  sections_proper = proper_renamed lock.lock_call acts_slept (proper_renamed sleep.slept_edit acts_words
      (lawful_proper (nested_rules (busy_rules (cv_rules buffer_monitor_rules))) (nested_moves (busy_rules (cv_rules buffer_monitor_rules))) opening
      (sections_in acts_words) lawful_words))

  pub opening_starts : StartsWell above
  opening_starts = starts_viewed nested_lock_of (viewed state_of opening) (starts_viewed state_of opening so.starts)

  -- Each effect may follow those before it.
  pub effects_may : IsLawful (MayTakeEffect setup.caps) (effects_of setup.caps acts)
  effects_may = subst (λ x. x)
      (λ i. IsLawful (MayTakeEffect setup.caps) (effects_in (so.locks i) (buffer_sections (events_are i))))
      (effects_lawful above setup.caps so.locks events lawful_calls)

  -- What the sections leave.

  left_above : (at : LockId) → guarded above acts at ≡ seen_above (λ l. block_after tower_rules.edited opening l (sections log)) at
  left_above at =
      ap (λ l. block_after (queue_edited (lock_edited (cv_rules buffer_monitor_rules))) above at l)
      (sections_in_renamed (renamed_edit lock.lock_call) acts_slept ∙ ap (map (renamed_section (renamed_edit lock.lock_call)))
      (sections_in_renamed (renamed_edit sleep.slept_edit) acts_words ∙ ap (map (renamed_section (renamed_edit sleep.slept_edit))) (sections_acts edit_of log)))
      ∙ block_seen (sleep_edited (busy_rules (cv_rules buffer_monitor_rules))) (lock_edited (cv_rules buffer_monitor_rules)) lock.lock_call nested_lock_of
      (locked.edits (cv_rules buffer_monitor_rules)) (viewed state_of opening) at (map (renamed_section (renamed_edit sleep.slept_edit)) (sections log))
      ∙ ap (option_map (viewed_block nested_lock_of)) (block_seen (nested_edited (busy_rules (cv_rules buffer_monitor_rules)))
      (sleep_edited (busy_rules (cv_rules buffer_monitor_rules))) sleep.slept_edit state_of (λ d a. refl) opening at (sections log))

  opens : (c : CpuId) → c.0 < setup.cpus → OpensSo setup.caps setup.homes c above
  opens c within =
      opens_so setup.caps setup.homes c above opening_starts (homes_viewed nested_lock_of (viewed state_of opening) ∙ homes_viewed state_of opening ∙ so.homes)
      (viewed_there nested_lock_of (viewed state_of opening) (Pending c) (viewed_there state_of opening (Pending c) (so.queues c within))) so.locks

  pub buffer_opens : (b : BufId) → option_map view (above (AtBuffer b)) ≡ table_opening setup (AtBuffer b)
  buffer_opens b = opens_as setup.homes setup.caps (record { 0 = 0 }) above (opens (record { 0 = 0 }) so.some) (AtBuffer b) tt

  queue_opens : (c : CpuId) → c.0 < setup.cpus → option_map view (above (Pending c)) ≡ table_opening setup (Pending c)
  queue_opens c within = opens_as setup.homes setup.caps c above (opens c within) (Pending c) (inl refl)

  module _ (blocks : List (LockId × QueueBlock LockBlock)) (count : length blocks ≡ length table_view.start)
      (given : (i : ℕ) (o : LockId × QueueBlock LockBlock) → slice_get table_view.start i ≡ Some o
      → (b : QueueBlock LockBlock) × (slice_get blocks i ≡ Some (o.0, b))
      × (block_after tower_rules.edited opening o.0 (sections log) ≡ Some b)) where
    -- the blocks that were given back, as the layers above see them
    blocks_above : (at : LockId) → seen_above (opened blocks) at ≡ guarded above acts at
    blocks_above at =
        ap (λ o. option_map (viewed_block nested_lock_of) (option_map (viewed_block state_of) o))
        (given_back (λ l. block_after tower_rules.edited opening l (sections log)) at table_view.start blocks count given
        (λ none. after_none tower_rules.edited opening at (sections log) none)) ∙ sym (left_above at)

    blocks_at : (at : LockId) → option_map view (above at) ≡ table_opening setup at → blocks_read blocks at ≡ block_at setup at (named acts)
    blocks_at at same = ap (option_map view) (blocks_above at) ∙ sym (block_read setup above acts at same)

    pub buffers_left : (b : BufId) → blocks_read blocks (AtBuffer b) ≡ block_at setup (AtBuffer b) (named acts)
    buffers_left b = blocks_at (AtBuffer b) (buffer_opens b)

    pub queues_left : (c : CpuId) → c.0 < setup.cpus → blocks_read blocks (Pending c) ≡ block_at setup (Pending c) (named acts)
    queues_left c within = blocks_at (Pending c) (queue_opens c within)

    -- a buffer holds what the effects leave in it
    few : length setup.caps ≤ 256
    few = let most = so.buffers in omega (arith, most)

    items : (b : BufId) → b.0 < length setup.caps
        → ItemsAre above acts b (items_of (contents_of setup.caps (effects_of setup.caps acts)) b.0) (slice_index setup.caps b.0)
        (is_closed (effects_of setup.caps acts) b.0)
    items b within =
        let caps_same = caps_are above setup.caps so.locks few in
        subst (λ x. x) (λ i. ItemsAre above acts b (items_of (contents_of (caps_same i) (effects_in (so.locks i) (buffer_sections (events_are i)))) b.0)
        (slice_index (caps_same i) b.0) (is_closed (effects_in (so.locks i) (buffer_sections (events_are i))) b.0))
        (items_acted above (boots_well above setup.caps so.locks few) b (subst (λ (l : List ℕ). b.0 < length l) (sym caps_same) within)
        events acts opening_starts sections_proper events_are lawful_calls)

    messages_read : (o : Option TowerBlock) (held : BufferLock) → above_of o ≡ Some held → messages_in (option_map view o) ≡ held.above.items
    messages_read o held is = grind arith

    pub messages_left : (b : BufId) → b.0 < length setup.caps
        → items_of (contents_of setup.caps (effects_of setup.caps acts)) b.0 ≡ messages_in (blocks_read blocks (AtBuffer b))
    messages_left b within =
        let are = items b within in
        are.holds
        ∙ sym (ap (λ o. messages_in (option_map view o)) (blocks_above (AtBuffer b)) ∙ messages_read (guarded above acts (AtBuffer b)) are.lock are.there)
