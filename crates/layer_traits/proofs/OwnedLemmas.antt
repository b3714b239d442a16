-- What a lower layer reports of its blocks, a layer reports of what it makes of them.
use Rattle.std.proofs.{Common.{◌≡◌, Bool, List, Option, Some, None, option_map, refl, ap, sym, ◌∙◌, subst, arith}, lemmas.Option.same_Some}
use Rattle.{event_log.specs.{declared.ids.{CpuId.CpuId, Tid.Tid}, Messages.Message}, layer_traits.specs.declared.moves.WaitList.WaitList}
use Rattle.layer_traits.specs.{declared.moves.WaitList.TheVariants.{Sleepers, Receivers, Senders}, Views.Owned.{BufferShown, IsHeld, IsObserved, lists_shown}}
use Rattle.layer_traits.specs.Views.{Owned.shows, Observed.IsObservedAs}

-- what is true under one name is true under another
pub same_shown : {P A : Type 0} (Coupled : P → Type 0) (cpu_of : P → CpuId) (IsInside : CpuId → Type 0) (here : P → Option A) (home truth other : Option A)
    → truth ≡ other → IsObserved Coupled cpu_of IsInside here home truth → IsObserved Coupled cpu_of IsInside here home other
same_shown Coupled cpu_of IsInside here home truth other same shown = subst (λ o. IsObserved Coupled cpu_of IsInside here home o) same shown

module _ {P Q A : Type 0} (below : Q → P) (FitsP : P → Type 0) (FitsQ : Q → Type 0) (cpu_below : P → CpuId) (cpu_of : Q → CpuId)
    (InsideP InsideQ : CpuId → Type 0) (here : P → Option A) where
  -- a block that a lower part holds is held by the part over it
  held_under : ((q : Q) → FitsQ q → FitsP (below q)) → ((q : Q) → FitsQ q → cpu_below (below q) ≡ cpu_of q) → ((c : CpuId) → InsideP c → InsideQ c)
      → IsHeld FitsP cpu_below InsideP here → IsHeld FitsQ cpu_of InsideQ (λ q. here (below q))
  held_under coupled cpus inside is = record {
    cpu = is.cpu;
    known = is.known;
    inside = inside is.cpu is.inside;
    has = λ q at fit. is.has (below q) (cpus q fit ∙ at) (coupled q fit);
  }

  -- parts over lower parts report what those report
  pub shown_under : (home truth : Option A) → ((q : Q) → FitsQ q → FitsP (below q)) → ((q : Q) → FitsQ q → cpu_below (below q) ≡ cpu_of q)
      → ((c : CpuId) → InsideP c → InsideQ c)
      → IsObserved FitsP cpu_below InsideP here home truth → IsObserved FitsQ cpu_of InsideQ (λ q. here (below q)) home truth
  shown_under home truth coupled cpus inside shown = record {
    by_machine = shown.by_machine;
    by_part = λ q x fit tells. shown.by_part (below q) x (coupled q fit) tells;
    somewhere = λ none. held_under coupled cpus inside (shown.somewhere none);
  }

  -- and of a block that exists
  pub read_under : (home : Option A) (truth : A) → ((q : Q) → FitsQ q → FitsP (below q)) → ((q : Q) → FitsQ q → cpu_below (below q) ≡ cpu_of q)
      → ((c : CpuId) → InsideP c → InsideQ c)
      → IsObservedAs FitsP cpu_below InsideP here home truth → IsObservedAs FitsQ cpu_of InsideQ (λ q. here (below q)) home truth
  read_under home truth coupled cpus inside abstract_answer = record {
    by_machine = abstract_answer.by_machine;
    by_part = λ q x fit tells. abstract_answer.by_part (below q) x (coupled q fit) tells;
    somewhere = λ none. held_under coupled cpus inside (abstract_answer.somewhere none);
  }

-- parts over lower parts, each of the CPU of its lower part, which fits if the part fits; and which
-- CPU may hold a lock in the lower layer
pub record PartsOn (P Q : Type 0) : Type 1 where
  pub below : Q → P
  pub FitsP : P → Type 0
  pub FitsQ : Q → Type 0
  pub cpu_below : P → CpuId
  pub MayHold : CpuId → Type 0
  pub coupled : (q : Q) → FitsQ q → FitsP (below q)

abbrev pub parts_on : {P Q : Type 0} (below : Q → P) (FitsP : P → Type 0) (FitsQ : Q → Type 0) → (P → CpuId) → (CpuId → Type 0)
    → ((q : Q) → FitsQ q → FitsP (below q)) → PartsOn P Q
parts_on below FitsP FitsQ cpu_below MayHold coupled =
    record { below = below; FitsP = FitsP; FitsQ = FitsQ; cpu_below = cpu_below; MayHold = MayHold; coupled = coupled }

-- they report what the lower ones report
pub shown_on : {P Q A : Type 0} (parts : PartsOn P Q) (tells : P → Option A) (home truth : Option A)
    → IsObserved parts.FitsP parts.cpu_below parts.MayHold tells home truth
    → IsObserved parts.FitsQ (λ q. parts.cpu_below (parts.below q)) parts.MayHold (λ q. tells (parts.below q)) home truth
shown_on parts tells home truth shown =
    shown_under parts.below parts.FitsP parts.FitsQ parts.cpu_below (λ q. parts.cpu_below (parts.below q)) parts.MayHold parts.MayHold
    tells home truth parts.coupled (λ q fit. refl) (λ c held. held) shown

viewed_some : {A B : Type 0} (view : A → B) (truth : Option A) (o : Option A) (y : B) → ((x : A) → o ≡ Some x → truth ≡ Some x) → option_map view o ≡ Some y
    → option_map view truth ≡ Some y
viewed_some view truth o y tells is = grind (arith, tells)

viewed_none : {A B : Type 0} (view : A → B) (o : Option A) → option_map view o ≡ None → o ≡ None
viewed_none view o none = grind (arith, none)

-- what is reported of a block is reported of its view
pub viewed_shown : {P A B : Type 0} (view : A → B) (Coupled : P → Type 0) (cpu_of : P → CpuId) (IsInside : CpuId → Type 0) (here : P → Option A)
    (home truth : Option A) (history : Option B) → history ≡ option_map view truth → IsObserved Coupled cpu_of IsInside here home truth
    → IsObserved Coupled cpu_of IsInside (λ p. option_map view (here p)) (option_map view home) history
viewed_shown view Coupled cpu_of IsInside here home truth history is shown = record {
  by_machine = λ y tells. is ∙ viewed_some view truth home y shown.by_machine tells;
  by_part = λ p y coupled tells. is ∙ viewed_some view truth (here p) y (λ x abstract_answer. shown.by_part p x coupled abstract_answer) tells;
  somewhere = λ none. held (shown.somewhere (viewed_none view home none));
}
  where
    held : IsHeld Coupled cpu_of IsInside here → IsHeld Coupled cpu_of IsInside (λ p. option_map view (here p))
    held at = record {
      cpu = at.cpu;
      known = at.known;
      inside = at.inside;
      has = λ p same coupled none. at.has p same coupled (viewed_none view (here p) none);
    }

-- what is shown of a block that exists is true of it
pub observed_as : {P A : Type 0} (Coupled : P → Type 0) (cpu_of : P → CpuId) (IsInside : CpuId → Type 0) (here : P → Option A) (home truth : Option A) (x : A)
    → truth ≡ Some x → IsObserved Coupled cpu_of IsInside here home truth → IsObservedAs Coupled cpu_of IsInside here home x
observed_as Coupled cpu_of IsInside here home truth x is shown = record {
  by_machine = λ y tells. same_Some y x (sym (shown.by_machine y tells) ∙ is);
  by_part = λ p y coupled tells. same_Some y x (sym (shown.by_part p y coupled tells) ∙ is);
  somewhere = shown.somewhere;
}

-- they report a view of what the lower ones report of a block that exists
pub view_read : {P Q A B : Type 0} (parts : PartsOn P Q) (view : A → B) (truth : Option A) (tells : P → Option A) (home : Option A) (x : B)
    → option_map view truth ≡ Some x → IsObserved parts.FitsP parts.cpu_below parts.MayHold tells home truth
    → IsObservedAs parts.FitsQ (λ q. parts.cpu_below (parts.below q)) parts.MayHold (λ q. option_map view (tells (parts.below q))) (option_map view home) x
view_read parts view truth tells home x is shown =
    observed_as parts.FitsQ _ parts.MayHold (λ q. option_map view (tells (parts.below q))) (option_map view home) (option_map view truth) x is
    (viewed_shown view parts.FitsQ _ parts.MayHold (λ q. tells (parts.below q)) home truth (option_map view truth) refl (shown_on parts tells home truth shown))

-- and what they report of one as it is
pub read_on : {P Q A : Type 0} (parts : PartsOn P Q) (tells : P → Option A) (home : Option A) (x : A)
    → IsObserved parts.FitsP parts.cpu_below parts.MayHold tells home (Some x)
    → IsObservedAs parts.FitsQ (λ q. parts.cpu_below (parts.below q)) parts.MayHold (λ q. tells (parts.below q)) home x
read_on parts tells home x shown =
    observed_as parts.FitsQ _ parts.MayHold (λ q. tells (parts.below q)) home (Some x) x refl (shown_on parts tells home (Some x) shown)

-- what is reported of a view is true of the view
seen_as : {P A B : Type 0} (view : A → B) (Coupled : P → Type 0) (cpu_of : P → CpuId) (IsInside : CpuId → Type 0) (here : P → Option A) (home : Option A)
    (truth : A) → IsObservedAs Coupled cpu_of IsInside here home truth
    → IsObservedAs Coupled cpu_of IsInside (λ p. option_map view (here p)) (option_map view home) (view truth)
seen_as {P} {A} {B} view Coupled cpu_of IsInside here home truth abstract_answer = record {
  by_machine = λ y is. viewed home y abstract_answer.by_machine is;
  by_part = λ p y coupled is. viewed (here p) y (λ x at. abstract_answer.by_part p x coupled at) is;
  somewhere = λ none. held (abstract_answer.somewhere (viewed_none view home none));
}
  where
    viewed : (o : Option A) (y : B) → ((x : A) → o ≡ Some x → x ≡ truth) → option_map view o ≡ Some y → y ≡ view truth
    viewed None y same is = absurd cc
    viewed (Some x) y same is = same_Some y (view x) (sym is) ∙ ap view (same x refl)

    held : IsHeld Coupled cpu_of IsInside here → IsHeld Coupled cpu_of IsInside (λ p. option_map view (here p))
    held at = record {
      cpu = at.cpu;
      known = at.known;
      inside = at.inside;
      has = λ p same coupled none. at.has p same coupled (viewed_none view (here p) none);
    }

-- what buffers show is the same if each part of it is
pub same_buffer : {items others : List Message} {closed shut : Bool} {owner other : Option Tid} {lists queues : WaitList → List Tid}
    → items ≡ others → closed ≡ shut → owner ≡ other → ((line : WaitList) → lists line ≡ queues line)
    → shows items closed owner lists ≡ shows others shut other queues
same_buffer items closed owner lists = λ i. shows (items i) (closed i) (owner i) (λ line. lists line i)

-- the waiting lists that a buffer shows are these
lists_are : (items : List Message) (closed : Bool) (owner : Option Tid) (lists : WaitList → List Tid) → lists_shown (shows items closed owner lists) ≡ lists
lists_are items closed owner lists = λ i line. each line i
  where
    each : (line : WaitList) → lists_shown (shows items closed owner lists) line ≡ lists line
    each Sleepers = refl
    each Receivers = refl
    each Senders = refl

-- what is reported of a buffer's waiting lists is true of them
pub lists_as : {P : Type 0} (Coupled : P → Type 0) (cpu_of : P → CpuId) (IsInside : CpuId → Type 0) (here : P → Option BufferShown)
    (home : Option BufferShown) (items : List Message) (closed : Bool) (owner : Option Tid) (lists : WaitList → List Tid)
    → IsObservedAs Coupled cpu_of IsInside here home (shows items closed owner lists)
    → IsObservedAs Coupled cpu_of IsInside (λ p. option_map lists_shown (here p)) (option_map lists_shown home) lists
lists_as Coupled cpu_of IsInside here home items closed owner lists abstract_answer =
    subst (IsObservedAs Coupled cpu_of IsInside (λ p. option_map lists_shown (here p)) (option_map lists_shown home)) (lists_are items closed owner lists)
    (seen_as lists_shown Coupled cpu_of IsInside here home (shows items closed owner lists) abstract_answer)

-- parts over lower parts report a view of what those report
pub seen_on : {P Q A B : Type 0} (parts : PartsOn P Q) (view : A → B) (tells : P → Option A) (home : Option A) (truth : A)
    → IsObservedAs parts.FitsP parts.cpu_below parts.MayHold tells home truth
    → IsObservedAs parts.FitsQ (λ q. parts.cpu_below (parts.below q)) parts.MayHold (λ q. option_map view (tells (parts.below q))) (option_map view home)
    (view truth)
seen_on parts view tells home truth abstract_answer = seen_as view parts.FitsQ _ parts.MayHold (λ q. tells (parts.below q)) home truth
    (read_under parts.below parts.FitsP parts.FitsQ parts.cpu_below (λ q. parts.cpu_below (parts.below q)) parts.MayHold parts.MayHold
    tells home truth parts.coupled (λ q fit. refl) (λ c held. held) abstract_answer)
