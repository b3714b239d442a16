-- From the keys returned to a closed table to the one order of their CPUs' calls.
use Rattle.std.proofs.Common.{◌≡◌, ℕ, ◌+◌, ◌*◌, ◌^◌, ◌<◌, ◌≤◌, List, [], length, Some, slice_get, slice_index_or, ap, sym, ◌∙◌, subst, arith, ◌∷◌, ◌++◌, map}
use Rattle.std.proofs.{Common.get_or, lemmas.{Option.{get_or_from_slice_get, slice_get-get_or}, List.{append_cancel_right, length-map, length-set, same_lists}}}
use Rattle.cpu.{proofs.ListFacts.ListReads.{listed_length, listed_there}, specs.{Claims.{buffer_at, listed}, Table.Setups.SystemConfig, Tower.Views.TowerName}}
use Rattle.event_log.specs.{declared.{entries.Entry.Entry, ids.{CpuId.CpuId, LockId.{LockId, TheVariants.Buffer as AtBuffer}}}, Actions.{Action, cpu_of_action}}
use Rattle.event_log.{specs.{Actions.{acts_of, renamed}, History.{AreOthers, own_events}, Messages.Message, WordsLog.cpu_of_event}, proofs.Foreign.own_none}
use Rattle.event_log.proofs.{Foreign.{acts_of-append, others_acts, own_append}, Renaming.others_renamed}
use Rattle.layer_traits.specs.{declared.queue_edits.QueueBlock.QueueBlock, Blocks.BufferEffects.contents_of, Threads.OnePlace.cpu_at}
use Rattle.layer_traits.{specs.{Views.Renaming.renamed_edit, Protocols.WordsProtocol.edit_of}, proofs.PlanRenaming.map-append}
use Rattle.{table_machine.specs.SeatViews.{TableView, ClosesTable}, cpu_workers.specs.Closing.{Key, LockBlock, StartsSo, acts_in, blocks_read, tower_rules}}
use Rattle.cpu_workers.{specs.{Closing.WordsOfTower, Lawful.messages_in, Natives.left_among, Orders.{IsTraceOf, effects_of}}, proofs.ClosedLog.effects_may}
use Rattle.cpu_workers.proofs.{ClosedLog.messages_left, OneOrder.{HasOrder, none_own, linearization, trace_in}}
use Rattle.sleep_wakeup.specs.Nested as sleep
use Rattle.queuing_lock.specs.Nested as lock

-- Lists of actions.

-- the actions of a longer log
acts_append : (more past : WordsOfTower) → acts_in (more ++ past) ≡ acts_in more ++ acts_in past
acts_append more past =
    ap (λ l. map (renamed (renamed_edit lock.lock_call)) (map (renamed (renamed_edit sleep.slept_edit)) l)) (acts_of-append edit_of more past)
    ∙ ap (map (renamed (renamed_edit lock.lock_call))) (map-append (renamed (renamed_edit sleep.slept_edit)) (acts_of edit_of more) (acts_of edit_of past))
    ∙ map-append (renamed (renamed_edit lock.lock_call)) (map (renamed (renamed_edit sleep.slept_edit)) (acts_of edit_of more))
    (map (renamed (renamed_edit sleep.slept_edit)) (acts_of edit_of past))

-- and whose they are
acts_others : (c : CpuId) (more : WordsOfTower) → AreOthers cpu_of_event c more → AreOthers cpu_of_action c (acts_in more)
acts_others c more others =
    others_renamed (renamed_edit lock.lock_call) c (map (renamed (renamed_edit sleep.slept_edit)) (acts_of edit_of more))
    (others_renamed (renamed_edit sleep.slept_edit) c (acts_of edit_of more) (others_acts edit_of c more others))

-- a list that extends another and has no more of this CPU's events
no_more_own : {E : Type 0} (by : E → CpuId) (c : CpuId) (log more past : List E) → log ≡ more ++ past → own_events by c log ≡ own_events by c past
    → AreOthers by c more
no_more_own by c log more past is same =
    none_own by c more (append_cancel_right (own_events by c more) [] (own_events by c past)
    (sym (own_append by c more past) ∙ sym (ap (own_events by c) is) ∙ same))

-- What the buffers hold.

contents_wide : (caps : List ℕ) (es : List Entry) → length (contents_of caps es) ≡ length caps
contents_wide caps [] = length-map caps (λ (k : ℕ). [])
contents_wide caps (e ∷ es) = length-set (contents_of caps es) e.buffer.0 _ ∙ contents_wide caps es

-- a list whose elements are these values is the list of them
listed_so : {X : Type 0} (d : X) (f : ℕ → X) (n : ℕ) (xs : List X) → length xs ≡ n → ((i : ℕ) → i < n → slice_index_or xs i d ≡ f i) → xs ≡ listed f 0 n
listed_so d f n xs count each = same_lists xs (listed f 0 n) (count ∙ sym (listed_length f n 0)) (λ k e below.
    let within : k < n = omega (arith, below, count) in
    get_or_from_slice_get xs k (get_or xs k d) e (slice_get-get_or xs k d below) ∙ each k within ∙ sym (listed_there f n k e within))

-- The table.

-- what a CPU left: its key, and its trace, which is its effects in what the key has seen
pub record HasCome (setup : SystemConfig) (keys : List Key) (traces : List (List Entry)) (c : CpuId) : Type 0 where
  pub key : Key
  pub trace : List Entry
  pub key_at : slice_get keys c.0 ≡ Some key
  pub cpu_is : key.cpu ≡ c
  pub trace_at : slice_get traces c.0 ≡ Some trace
  pub local : IsTraceOf c setup.caps (acts_in key.history) trace
  pub room : length trace ≤ setup.trace_room

-- a list extends what a CPU has seen of it, which has all of the CPU's actions
pub record Goes (acts past : List (Action TowerName)) (c : CpuId) : Type 0 where
  pub more : List (Action TowerName)
  pub is : acts ≡ more ++ past
  pub others : AreOthers cpu_of_action c more

module _ (setup : SystemConfig) (table_view : TableView (QueueBlock LockBlock)) (so : StartsSo setup table_view) (keys : List Key)
    (blocks : List (LockId × QueueBlock LockBlock)) (closes : ClosesTable tower_rules table_view keys blocks) where
  abbrev pub acts : List (Action TowerName)
  acts = acts_in closes.log

  -- a CPU's own actions are all among those that it has seen
  pub goes_on : (c : CpuId) (key : Key) → slice_get keys c.0 ≡ Some key → key.cpu ≡ c → Goes acts (acts_in key.history) c
  goes_on c key at is =
      let whole = closes.keys c.0 key at in
      let theirs : AreOthers cpu_of_event key.cpu whole.ends.more = no_more_own cpu_of_event key.cpu closes.log whole.ends.more key.history whole.ends.is
      whole.whole in
      record {
        more = acts_in whole.ends.more;
        is = ap acts_in whole.ends.is ∙ acts_append whole.ends.more key.history;
        others = subst (λ (d : CpuId). AreOthers cpu_of_action d (acts_in whole.ends.more)) is (acts_others key.cpu whole.ends.more theirs);
      }

  -- and no other CPU acts
  pub other_cpus_rest : (c : CpuId) → setup.cpus ≤ c.0 → AreOthers cpu_of_action c acts
  other_cpus_rest c beyond = let past = so.cpus in acts_others c closes.log (none_own cpu_of_event c closes.log (closes.rest c (omega (arith, beyond, past))))

  contents_are : contents_of setup.caps (effects_of setup.caps acts) ≡ left_among (length setup.caps) blocks
  contents_are =
      listed_so [] (λ b. messages_in (blocks_read blocks (AtBuffer (buffer_at b)))) (length setup.caps) (contents_of setup.caps (effects_of setup.caps acts))
      (contents_wide setup.caps (effects_of setup.caps acts))
      (λ b within. messages_left setup table_view so closes.log closes.legal blocks closes.count closes.blocks_are (buffer_at b) within)

  -- the traces have one order, that of the effects of the list, which is a legal history and ends
  -- in what is left
  pub traces_ordered : (traces : List (List Entry)) → length traces ≡ setup.cpus → ((c : CpuId) → c.0 < setup.cpus → HasCome setup keys traces c)
      → HasOrder setup.caps traces (effects_of setup.caps acts) (left_among (length setup.caps) blocks)
  traces_ordered traces count each =
      subst (λ (l : List (List Message)). HasOrder setup.caps traces (effects_of setup.caps acts) l) contents_are
      (linearization setup.caps acts traces setup.trace_room (effects_may setup table_view so closes.log closes.legal)
      (λ c beyond. own_none cpu_of_action c acts (other_cpus_rest c (omega (arith, beyond, count))))
      (λ k within. let one = each (cpu_at k) (omega (arith, within, count)) in
      let goes = goes_on (cpu_at k) one.key one.key_at one.cpu_is in
      get_or_from_slice_get traces k one.trace [] one.trace_at
      ∙ trace_in setup.caps (cpu_at k) goes.more (acts_in one.key.history) acts one.trace goes.is goes.others one.local)
      (λ k d within. let one = each (cpu_at k) (omega (arith, within, count)) in
      let long = ap (λ (l : List Entry). length l) (get_or_from_slice_get traces k one.trace d one.trace_at) in
      omega (arith, one.room, long))
      (subst (λ (n : ℕ). n * setup.trace_room < 2 ^ 64) (sym count) so.small))
