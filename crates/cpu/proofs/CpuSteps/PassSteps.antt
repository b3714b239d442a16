-- The steps in which no call continues: an instruction that shares nothing, and the passes
-- (scheduling operations).
use Rattle.std.proofs.Common.{◌≡◌, ◌≢◌, ◌⊎◌, inl, inr, ℕ, ◌+◌, ◌<◌, ◌==◌, Bool, true, false, List, [], ◌∷◌, ◌++◌, length, Option, Some, None, option_map}
use Rattle.std.proofs.{Common.{option_to_list, refl, ap, sym, ◌∙◌, subst, arith, reverse, slice_set}, lemmas.{Bool.{cases_eq, ne_eqb}, List.length-set}}
use Rattle.std.specs.List.{AllByRecursion}
use Rattle.{event_log.specs.declared.{entries.Entry.Entry, ids.Tid.Tid}, thread_blocks.specs.Queues.is_in}
use Rattle.guest.{specs.{declared.instructions.Instruction.Instruction, State.State}, proofs.CallsLemmas.{calls-local_is, calls-yield}}
use Rattle.layer_traits.specs.declared.{calls.{Call.Call, Effect.Effect}, passes.Pass.{Pass, TheVariants.{Switch, YieldNow, Drain, MakeReady, End}}}
use Rattle.layer_traits.specs.{Threads.{Passes.{MayPass, pass_after}, Places.{Threads, home_of, one_if}}, Layers.BufferLaw.{Calling, UnderWay, Passing}}
use Rattle.{layer_traits.specs.Layers.BufferLaw.{begun_of, call_state_of}, cpu.specs.declared.{cpus.Choice.TheVariants.{Passes, Computes}, guests.Guest.Guest}}
use Rattle.cpu.specs.declared.guests.{GuestStage.{GuestStage, TheVariants.Idle}, NextAction.{NextAction, TheVariants.{Finish, PassOn, Compute, Calls}}}
use Rattle.cpu.specs.{Guests.{HasCome, HasComeIn, after_pass, computed, is_begun, is_calling, is_ended, passed, todo_at, todo_of}, Cpus.{AllFollow, AreOver}}
use Rattle.cpu.specs.Cpus.{IsCpu, IsOfHome, NamesBelow, begun_count, chosen, chosen_at, chosen_by, chosen_for, chosen_idle, chosen_todo, under_way_of, guest_at}
use Rattle.cpu.{specs.Cpus.{is_begun_guest, of_cpu, of_thread, passed_by, with_guest}, proofs.ListFacts.GuestLists.{with_each, at_other, at_same, count_with}}
use Rattle.cpu.proofs.{ListFacts.GuestLists.guest_within, CpuSteps.CpuStates.ValidCpu}
use Rattle.guest.specs.declared.instructions.Instruction.TheVariants as ins

-- an instruction that requests no call: the guest is in none
pub in_no_call : (g : Guest) (es : List Entry) (begun : Option Call) (effect : Option Effect) (todo : NextAction)
    → HasComeIn g.stage g.program g.thread es begun effect
    → todo_of g ≡ todo → ((c : Call) → todo ≡ Calls c → ⊥) → (is_calling g.stage ≡ false) × (is_begun g.stage ≡ false)
in_no_call g es begun effect todo follows asks none = grind arith

pub finish_exit : (s : State) (i : Instruction) → todo_at s i ≡ Finish → i ≡ ins.Exit
finish_exit s i is = grind arith

-- a thread in a list followed by the thread that ran, and different from that thread, is in the
-- list
in_before : (u : Tid) (t : Tid) (q : List Tid) → u.0 ≢ t.0 → is_in u (q ++ t ∷ []) ≡ true → is_in u q ≡ true
in_before u t [] other is = grind (arith, ne_eqb)
in_before u t (x ∷ q) other is = go (u.0 == x.0) refl (in_before u t q other)
  where
    go : (b : Bool) → (u.0 == x.0) ≡ b → (is_in u (q ++ t ∷ []) ≡ true → is_in u q ≡ true) → is_in u (x ∷ q) ≡ true
    go b same more = grind arith

module _ (cpu : ValidCpu) where
  open cpu use {homes, buffers, history, local, call_states, under_way, number, guests, trace, limit, capacity, is}

  -- the guests stay
  guests_stay : (seen2 : List Entry) (own2 : Threads) (under_way2 : Option UnderWay) → of_cpu number seen2 ≡ of_cpu number history → own2.ended ≡ local.ended
      → ((d : UnderWay) → under_way2 ≡ Some d → under_way_of (chosen own2 guests) ≡ Some d) → ((u : Tid) → under_way2 ≡ Some (Calling u) → ⊥)
      → ((u : Tid) → own2.current ≡ Some u → under_way2 ≡ None → own2.hand ≡ None)
      → IsCpu homes buffers seen2 own2 call_states under_way2 number guests trace limit capacity
  guests_stay seen2 own2 under_way2 same over agrees calls handed = record {
    kept = is.kept ∙ ap (λ (l : List Entry). reverse l) (sym same);
    stays = subst (λ (l : List Entry). AllByRecursion (IsOfHome homes number) l) (sym same) is.stays;
    follow = subst (λ (l : List Entry). AllFollow guests l call_states) (sym same) is.follow;
    over = subst (λ (l : List Tid). AreOver guests l) (sym over) is.over;
    homed = is.homed;
    named = is.named;
    few = is.few;
    agrees = agrees;
    calls = λ (u : Tid) (g : Guest) at there. absurd (calls u at);
    handed = handed;
    room = is.room;
    reserved = is.reserved;
  }

  -- one thread's guest continues, without an entry
  guest_goes : (t : Tid) (g : Guest) (f : Guest → Guest) (seen2 : List Entry) (own2 : Threads) (under_way2 : Option UnderWay)
      → guest_at guests t.0 ≡ Some g → of_cpu number seen2 ≡ of_cpu number history → (f g).program ≡ g.program → is_begun (f g).stage ≡ is_begun g.stage
      → HasComeIn (f g).stage (f g).program (f g).thread (of_thread t.0 (of_cpu number history)) (begun_of (call_state_of call_states t))
      (call_state_of call_states t).effect
      → (is_in t own2.ended ≡ true → is_ended (f g).stage ≡ true) → ((u : Tid) → u.0 ≢ t.0 → is_in u own2.ended ≡ true → is_in u local.ended ≡ true)
      → ((d : UnderWay) → under_way2 ≡ Some d → ⊥) → ((u : Tid) → own2.current ≡ Some u → own2.hand ≡ None)
      → IsCpu homes buffers seen2 own2 call_states under_way2 number (with_guest guests t.0 f) trace limit capacity
  guest_goes t g f seen2 own2 under_way2 at same program begun follows over_t over_other none handed =
      let each = with_each guests (with_guest guests t.0 f) t.0 (f g) (at_same guests t.0 f g at) (λ u other. at_other guests t.0 u f other) in record {
        kept = is.kept ∙ ap (λ (l : List Entry). reverse l) (sym same);
        stays = subst (λ (l : List Entry). AllByRecursion (IsOfHome homes number) l) (sym same) is.stays;
        follow = λ (u : Tid) (x : Guest) there. subst (λ (l : List Entry). HasCome x (of_thread u.0 l) (call_state_of call_states u)) (sym same)
            (each (λ (k : ℕ) (y : Guest). HasCome y (of_thread k (of_cpu number history)) (call_state_of call_states (record { 0 = k })))
            ((is.follow t g at).0, follows) (λ k y other old. is.follow (record { 0 = k }) y old) u.0 x there);
        over = λ (u : Tid) ended (x : Guest) there.
            each (λ (k : ℕ) (y : Guest). is_in (record { 0 = k }) own2.ended ≡ true → is_ended y.stage ≡ true) over_t
            (λ k y other old over. is.over (record { 0 = k }) (over_other (record { 0 = k }) other over) y old) u.0 x there ended;
        homed = λ (u : Tid) home. homed_new u (is.homed u home);
        named = λ (u : Tid) (x : Guest) there.
            each (λ (k : ℕ) (y : Guest). NamesBelow buffers y.program) (subst (λ (p : List Instruction). NamesBelow buffers p) (sym program) (is.named t g at))
            (λ k y other old. is.named (record { 0 = k }) y old) u.0 x there;
        few = let long = length-set guests t.0 (option_map f (guest_at guests t.0)) in let few = is.few in omega (arith, long, few);
        agrees = λ (d : UnderWay) does. absurd (none d does);
        calls = λ (u : Tid) (x : Guest) does there. absurd (none (Calling u) does);
        handed = λ (u : Tid) runs quiet. handed u runs;
        room =
            let counted = ap (λ (o : Option Guest). begun_count (slice_set guests t.0 (option_map f o)) + one_if (is_begun g.stage)) at
            ∙ (ap (λ (o : Option Guest). begun_count (slice_set guests t.0 (Some (f g))) + one_if (is_begun_guest o)) (sym at)
            ∙ count_with guests t.0 (Some (f g)) (guest_within guests t.0 g at)) in
            omega (arith, counted, ap one_if begun, is.room);
        reserved = is.reserved;
      }
    where
      homed_new : (u : Tid) → (x : Guest) × (guest_at guests u.0 ≡ Some x) → (x : Guest) × (guest_at (with_guest guests t.0 f) u.0 ≡ Some x)
      homed_new u there = go (cases_eq u.0 t.0)
        where
          go : (u.0 ≡ t.0) ⊎ (u.0 ≡ t.0 → ⊥) → (x : Guest) × (guest_at (with_guest guests t.0 f) u.0 ≡ Some x)
          go (inl equal) = (f g, subst (λ (k : ℕ). guest_at (with_guest guests t.0 f) k ≡ Some (f g)) (sym equal) (at_same guests t.0 f g at))
          go (inr other) = (there.0, at_other guests t.0 u.0 f other ∙ there.1)

  -- What is chosen, by the running thread.
  pub computes_at : (t : Tid) → chosen local guests ≡ Computes t
      → (local.current ≡ Some t) × ((g : Guest) × (guest_at guests t.0 ≡ Some g) × (todo_of g ≡ Compute))
  computes_at t chose = grind arith

  pub noted_compute : (t : Tid) → chosen local guests ≡ Computes t
      → IsCpu homes buffers history local call_states under_way number (with_guest guests t.0 computed) trace limit capacity
  noted_compute t chose =
      let runs = (computes_at t chose).0 in
      let g = (computes_at t chose).1.0 in
      let at : guest_at guests t.0 ≡ Some g = (computes_at t chose).1.1 in
      let follows = is.follow t g at in
      let quiet : (d : UnderWay) → under_way ≡ Some d → ⊥ = λ (d : UnderWay) does. let no : None ≡ Some d
      = (sym (ap under_way_of chose) ∙ is.agrees d does) in absurd
      (cc no) in
      let at_idle : g.stage ≡ Idle = grind (arith, follows.1, (computes_at t chose).1.2) in
      let before = subst (λ (s : GuestStage). HasComeIn s g.program g.thread (of_thread t.0 (of_cpu number history)) (begun_of (call_state_of call_states t))
      (call_state_of call_states t).effect) at_idle follows.1 in
      let after : HasComeIn Idle g.program (computed g).thread (of_thread t.0 (of_cpu number history)) (begun_of (call_state_of call_states t))
      (call_state_of call_states t).effect =
      (before.0, calls-local_is g.program (of_thread t.0 (of_cpu number history)) g.thread before.1) in
      guest_goes t g computed history local under_way at refl refl refl (rw at_idle after) (λ over. is.over t over g at) (λ u other over. over) quiet
      (λ u runs. is.handed u runs (grind arith))

  -- the cases of a chosen pass, if the home CPU of each running thread is this one
  pub data PassCase : Pass → Type 0 where
    switches : local.current ≡ None → local.hand ≡ None → (local.ready ≡ [] → ⊥) → PassCase Switch
    drains : local.current ≡ None → local.hand ≡ None → local.ready ≡ [] → PassCase Drain
    sends_idle : (s : Tid) → local.current ≡ None → local.hand ≡ Some s → PassCase (MakeReady s)
    sends_on : (s t : Tid) (g : Guest) → local.current ≡ Some t → local.hand ≡ Some s → guest_at guests t.0 ≡ Some g → PassCase (MakeReady s)
    passes_on : (t : Tid) (g : Guest) → local.current ≡ Some t → local.hand ≡ None → guest_at guests t.0 ≡ Some g → todo_of g ≡ PassOn → PassCase YieldNow
    finishes : (t : Tid) (g : Guest) → local.current ≡ Some t → local.hand ≡ None → guest_at guests t.0 ≡ Some g → todo_of g ≡ Finish → PassCase End

  pub pass_case : (pass : Pass) → ((t : Tid) → local.current ≡ Some t → home_of homes t ≡ Some number) → chosen local guests ≡ Passes pass → PassCase pass
  pass_case pass home chose = go local.current refl chose
    where
      idle : (hand : Option Tid) (ready : List Tid) → local.current ≡ None → local.hand ≡ hand → local.ready ≡ ready → chosen_idle hand ready ≡ Passes pass
          → PassCase pass
      idle (Some s) ready runs has queue at = let same : MakeReady s ≡ pass = cc at in subst (λ (p : Pass). PassCase p) same (sends_idle s runs has)
      idle None [] runs has queue at = let same : Drain ≡ pass = cc at in subst (λ (p : Pass). PassCase p) same (drains runs has queue)
      idle None (x ∷ ready) runs has queue at =
          let same : Switch ≡ pass = cc at in
          subst (λ (p : Pass). PassCase p) same (switches runs has (λ empty. let no : x ∷ ready ≡ [] = sym queue ∙ empty in absurd (cc no)))

      by_todo : (u : Tid) (g : Guest) (todo : NextAction) → local.current ≡ Some u → local.hand ≡ None → guest_at guests u.0 ≡ Some g → todo_of g ≡ todo
          → chosen_todo u todo ≡ Passes pass → PassCase pass
      by_todo u g Finish runs has at asks is_pass = let same : End ≡ pass = cc is_pass in subst
          (λ (p : Pass). PassCase p) same (finishes u g runs has at asks)
      by_todo u g PassOn runs has at asks is_pass = let same : YieldNow ≡ pass = cc is_pass in subst
          (λ (p : Pass). PassCase p) same (passes_on u g runs has at asks)
      by_todo u g todo runs has at asks is_pass = absurd (cc is_pass)

      calling_calls : (u : Tid) (g : Guest) (todo : NextAction) → guest_at guests u.0 ≡ Some g → is_calling g.stage ≡ true → todo_of g ≡ todo
          → chosen_todo u todo ≡ Passes pass → ⊥
      calling_calls u g Finish at calling asks is_pass =
          let no = in_no_call g (of_thread u.0 (of_cpu number history)) (begun_of (call_state_of call_states u)) (call_state_of call_states u).effect Finish
          (is.follow u g at).1 asks (λ c e. absurd (cc e)) in
          absurd (cc (calling, no.0))
      calling_calls u g PassOn at calling asks is_pass =
          let no = in_no_call g (of_thread u.0 (of_cpu number history)) (begun_of (call_state_of call_states u)) (call_state_of call_states u).effect PassOn
          (is.follow u g at).1 asks (λ c e. absurd (cc e)) in
          absurd (cc (calling, no.0))
      calling_calls u g todo at calling asks is_pass = absurd (cc is_pass)

      by_hand : (u : Tid) (g : Guest) (calling : Bool) (hand : Option Tid) → local.current ≡ Some u → local.hand ≡ hand → guest_at guests u.0 ≡ Some g
          → is_calling g.stage ≡ calling → chosen_by u calling hand (todo_of g) ≡ Passes pass → PassCase pass
      by_hand u g true hand runs has at calling is_pass = absurd (calling_calls u g (todo_of g) at calling refl is_pass)
      by_hand u g false None runs has at calling is_pass = by_todo u g (todo_of g) runs has at refl is_pass
      by_hand u g false (Some s) runs has at calling is_pass =
          let same : MakeReady s ≡ pass = cc is_pass in subst (λ (p : Pass). PassCase p) same (sends_on s u g runs has at)

      by_guest : (u : Tid) (o : Option Guest) → local.current ≡ Some u → guest_at guests u.0 ≡ o → chosen_for u local.hand o ≡ Passes pass → PassCase pass
      by_guest u None runs at is_pass = let there = is.homed u (home u runs) in absurd (cc (at, there.1))
      by_guest u (Some g) runs at is_pass = by_hand u g (is_calling g.stage) local.hand runs refl at refl is_pass

      go : (current : Option Tid) → local.current ≡ current → chosen_at current local.hand local.ready guests ≡ Passes pass → PassCase pass
      go None runs is_pass = idle local.hand local.ready runs refl refl is_pass
      go (Some u) runs is_pass = by_guest u (guest_at guests u.0) runs refl is_pass

  pub may_pass : (pass : Pass) → ((t : Tid) → local.current ≡ Some t → home_of homes t ≡ Some number) → chosen local guests ≡ Passes pass → MayPass pass local
  may_pass pass home chose = grind (arith, pass_case pass home chose)

  pub current_within : ((t : Tid) → local.current ≡ Some t → home_of homes t ≡ Some number) → (t : Tid) → local.current ≡ Some t → t.0 < length guests
  current_within home t runs = let there = is.homed t (home t runs) in guest_within guests t.0 there.0 there.1

  -- a pass that has not ended
  pub noted_wait : (pass : Pass) (seen2 : List Entry) (own2 : Threads) (under_way2 : Option UnderWay) → chosen local guests ≡ Passes pass
      → of_cpu number seen2 ≡ of_cpu number history → own2 ≡ local → under_way2 ≡ Some (Passing pass)
      → IsCpu homes buffers seen2 own2 call_states under_way2 number guests trace limit capacity
  noted_wait pass seen2 own2 under_way2 chose same stays does =
      guests_stay seen2 own2 under_way2 same (ap (λ (o : Threads). o.ended) stays)
      (λ d at. ap (λ (o : Threads). under_way_of (chosen o guests)) stays ∙ (ap under_way_of chose ∙ (sym does ∙ at)))
      (λ u at. let no : Some (Passing pass) ≡ Some (Calling u) = sym does ∙ at in absurd (cc no))
      (λ u runs none. let no : Some (Passing pass) ≡ None = sym does ∙ none in absurd (cc no))

  -- a pass that is done
  case_done : (pass : Pass) (queue : List Tid) (seen2 : List Entry) → PassCase pass → of_cpu number seen2 ≡ of_cpu number history
      → IsCpu homes buffers seen2 (pass_after pass queue local) call_states None number (passed_by local.current guests pass) trace limit capacity
  case_done Switch queue seen2 (switches runs has some) same =
      rw runs (guests_stay seen2 (pass_after Switch queue local) None same refl (λ d at. absurd (cc at)) (λ u at. absurd (cc at)) (λ u at none. has))
  case_done Drain queue seen2 (drains runs has empty) same =
      subst (λ (o : Option Tid). IsCpu homes buffers seen2 (pass_after Drain queue local) call_states None number
      (passed_by o guests Drain) trace limit capacity) (sym runs)
      (guests_stay seen2 (pass_after Drain queue local) None same refl (λ d at. absurd (cc at)) (λ u at. absurd (cc at)) (λ u at none. absurd (cc at)))
  case_done (MakeReady s) queue seen2 (sends_idle _ runs has) same =
      subst (λ (o : Option Tid). IsCpu homes buffers seen2 (pass_after (MakeReady s) queue local) call_states None number
      (passed_by o guests (MakeReady s)) trace limit capacity) (sym runs)
      (guests_stay seen2 (pass_after (MakeReady s) queue local) None same refl (λ d at. absurd (cc at)) (λ u at. absurd (cc at)) (λ u at none. refl))
  case_done (MakeReady s) queue seen2 (sends_on _ t g runs has at) same =
      subst (λ (o : Option Tid). IsCpu homes buffers seen2 (pass_after (MakeReady s) queue local) call_states None number
      (passed_by o guests (MakeReady s)) trace limit capacity) (sym runs) (guest_goes t g (after_pass (MakeReady s)) seen2
      (pass_after (MakeReady s) queue local)
      None at same refl refl (is.follow t g at).1 (λ over. is.over t over g at) (λ u other over. over) (λ d none. absurd (cc none)) (λ u at. refl))
  case_done YieldNow queue seen2 (passes_on t g runs has at asks) same =
      let follows = is.follow t g at in
      let at_idle : g.stage ≡ Idle = grind (arith, follows.1, asks) in
      let before = subst (λ (s : GuestStage). HasComeIn s g.program g.thread (of_thread t.0 (of_cpu number history)) (begun_of (call_state_of call_states t))
      (call_state_of call_states t).effect) at_idle follows.1 in
      let after : HasComeIn Idle g.program (passed g).thread (of_thread t.0 (of_cpu number history)) (begun_of (call_state_of call_states t))
      (call_state_of call_states t).effect =
      (before.0, calls-yield g.program (of_thread t.0 (of_cpu number history)) g.thread before.1) in
      subst (λ (o : Option Tid). IsCpu homes buffers seen2 (pass_after YieldNow queue local) call_states None number
      (passed_by o guests YieldNow) trace limit capacity) (sym runs) (guest_goes t g (after_pass YieldNow) seen2 (pass_after YieldNow queue local) None at same
      refl refl (rw at_idle after) (λ over. is.over t over g at) (λ u other over. over) (λ d none. absurd (cc none)) (λ u at. absurd (cc at)))
  case_done End queue seen2 (finishes t g runs has at asks) same =
      let follows = is.follow t g at in
      let free = in_no_call g (of_thread t.0 (of_cpu number history)) (begun_of (call_state_of call_states t))
      (call_state_of call_states t).effect Finish follows.1 asks
      (λ c e. absurd (cc e)) in
      subst (λ (o : Option Tid). IsCpu homes buffers seen2 (pass_after End queue local) call_states None number
      (passed_by o guests End) trace limit capacity) (sym runs) (guest_goes t g (after_pass End) seen2 (pass_after End queue local) None at same refl
      (sym free.1)
      (grind (arith, finish_exit, follows.1, asks)) (λ over. refl)
      (λ u other over. in_before u t local.ended other (subst (λ (o : Option Tid). is_in u (local.ended ++ option_to_list o) ≡ true) runs over))
      (λ d none. absurd (cc none)) (λ u at. absurd (cc at)))

  pub noted_done : (pass : Pass) (queue : List Tid) (seen2 : List Entry) (own2 : Threads) (under_way2 : Option UnderWay) (guests2 : List (Option Guest))
      → ((t : Tid) → local.current ≡ Some t → home_of homes t ≡ Some number) → chosen local guests ≡ Passes pass → of_cpu number seen2 ≡ of_cpu number history
      → own2 ≡ pass_after pass queue local → under_way2 ≡ None → guests2 ≡ passed_by local.current guests pass
      → IsCpu homes buffers seen2 own2 call_states under_way2 number guests2 trace limit capacity
  noted_done pass queue seen2 own2 under_way2 guests2 home chose same stays does moved =
      rw (stays, does, moved) (case_done pass queue seen2 (pass_case pass home chose) same)

  -- only effects of other CPUs
  pub seen_stays : (seen2 : List Entry) → of_cpu number seen2 ≡ of_cpu number history
      → IsCpu homes buffers seen2 local call_states under_way number guests trace limit capacity
  seen_stays seen2 same = record {
    kept = is.kept ∙ ap (λ (l : List Entry). reverse l) (sym same);
    stays = subst (λ (l : List Entry). AllByRecursion (IsOfHome homes number) l) (sym same) is.stays;
    follow = subst (λ (l : List Entry). AllFollow guests l call_states) (sym same) is.follow;
    over = is.over;
    homed = is.homed;
    named = is.named;
    few = is.few;
    agrees = is.agrees;
    calls = is.calls;
    handed = is.handed;
    room = is.room;
    reserved = is.reserved;
  }
