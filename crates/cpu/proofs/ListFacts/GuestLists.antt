-- Tables of guests with one guest changed, and the entries of a CPU and of a thread in a grown
-- history.
use Rattle.std.proofs.Common.{◌≡◌, ◌≢◌, ℕ, zero, suc, ◌+◌, ◌<◌, ◌≤◌, ◌==◌, true, not, List, [], ◌∷◌, ◌++◌, length, slice_index_or, count_by, reverse, get_or}
use Rattle.std.proofs.{Common.{Option, Some, None, option_map, refl, ap, sym, ◌∙◌, subst, arith, slice_set}, lemmas.{Bool.{cases_eq, eq-eqb}, Option.same_Some}}
use Rattle.std.proofs.lemmas.List.{append-nil, reverse-append, get_or-set_same, get_or-set_other, set-get_or, map-set, Elements.filter-append, Sums.sum_by-set}
use Rattle.event_log.specs.{declared.{entries.Entry.Entry, ids.{BufId.BufId, CpuId.CpuId, Tid.Tid}}, History.{AreOthers, AreForeign}}
use Rattle.layer_traits.specs.{declared.calls.{Effect.Effect, Reply.Reply}, Layers.BufferLaw.{cpu_of_entry, entry_of}, Threads.Places.one_if}
use Rattle.cpu.specs.{declared.guests.{Guest.Guest, GuestStage.{GuestStage, TheVariants.Done}}, Guests.{entries_of, fresh_effect, is_begun, is_calling}}
use Rattle.cpu.specs.{Guests.stage_after, Cpus.{begun_count, guest_at, is_begun_guest, is_over, of_cpu, programs_of, with_guest}}
use Rattle.guest.specs.declared.instructions.Instruction.{Instruction}

-- a guest's number is within its table
pub guest_within : (guests : List (Option Guest)) (t : ℕ) (g : Guest) → guest_at guests t ≡ Some g → t < length guests
guest_within (x ∷ guests) (suc t) g is = let below = guest_within guests t g is in omega (arith, below)
guest_within guests t g is = grind arith

-- a thread with a program has a guest
pub guest_with : (guests : List (Option Guest)) (t : ℕ) (program : List Instruction) → slice_index_or (programs_of guests) t None ≡ Some program
    → (g : Guest) × (guest_at guests t ≡ Some g) × (g.program ≡ program)
guest_with (Some g ∷ guests) zero program at = (g, refl, same_Some g.program program at)
guest_with (o ∷ guests) (suc t) program at = guest_with guests t program at
guest_with guests t program at = absurd (cc at)

-- the changed guest
pub at_same : (guests : List (Option Guest)) (t : ℕ) (f : Guest → Guest) (g : Guest) → guest_at guests t ≡ Some g
    → guest_at (with_guest guests t f) t ≡ Some (f g)
at_same guests t f g is = grind (arith, get_or-set_same, guest_within)

-- another guest
pub at_other : (guests : List (Option Guest)) (t u : ℕ) (f : Guest → Guest) → u ≢ t → guest_at (with_guest guests t f) u ≡ guest_at guests u
at_other guests t u f other = get_or-set_other guests t u (option_map f (guest_at guests t)) None other

-- what holds of each guest of a table in which one changed
pub with_each : (guests guests2 : List (Option Guest)) (t : ℕ) (next : Guest) → guest_at guests2 t ≡ Some next
    → ((u : ℕ) → u ≢ t → guest_at guests2 u ≡ guest_at guests u) → (P : ℕ → Guest → Type 0) → P t next
    → ((u : ℕ) (x : Guest) → u ≢ t → guest_at guests u ≡ Some x → P u x) → (u : ℕ) (x : Guest) → guest_at guests2 u ≡ Some x → P u x
with_each guests guests2 t next new others P here there u x found = grind (arith, cases_eq)

pub at_programs : (guests : List (Option Guest)) (t : ℕ) → get_or (programs_of guests) t None ≡ option_map (λ x. x.program) (guest_at guests t)
at_programs (x ∷ guests) (suc t) = at_programs guests t
at_programs guests t = refl

-- if the change keeps the guest's program, the programs stay
pub programs_with : (guests : List (Option Guest)) (t : ℕ) (f : Guest → Guest) → ((g : Guest) → (f g).program ≡ g.program)
    → programs_of (with_guest guests t f) ≡ programs_of guests
programs_with guests t f keeps =
    map-set (λ (g : Option Guest). option_map (λ x. x.program) g) guests t (option_map f (guest_at guests t))
    ∙ (subst (λ y. slice_set (programs_of guests) t y ≡ (programs_of guests)) (at_programs guests t ∙ sym (same (guest_at guests t)))
    (set-get_or (programs_of guests) t None))
  where
    same : (o : Option Guest) → option_map (λ x. x.program) (option_map f o) ≡ option_map (λ x. x.program) o
    same o = grind arith

-- how many calls have begun after the change
pub count_with : (guests : List (Option Guest)) (t : ℕ) (x : Option Guest) → t < length guests
    → begun_count (slice_set guests t x) + one_if (is_begun_guest (guest_at guests t)) ≡ begun_count guests + one_if (is_begun_guest x)
count_with guests t x within = grind (arith, sum_by-set)

-- and how many have not ended
pub live_with : (guests : List (Option Guest)) (t : ℕ) (x : Option Guest) → t < length guests
    → count_by (λ g. not (is_over g)) (slice_set guests t x) + one_if (not (is_over (guest_at guests t)))
    ≡ count_by (λ g. not (is_over g)) guests + one_if (not (is_over x))
live_with guests t x within = grind (arith, sum_by-set)

-- entries of others are none of this CPU's
pub none_of : (number : CpuId) (others : List Entry) → AreOthers cpu_of_entry number others → of_cpu number others ≡ []
none_of number [] theirs = refl
none_of number (e ∷ others) theirs = rw theirs.0 (none_of number others theirs.1)

-- this CPU's entries after those of the environment
pub cpu_same : (ActsFor : CpuId → Type 0) (number : CpuId) (others old : List Entry) → AreForeign ActsFor cpu_of_entry others → ActsFor number
    → of_cpu number (others ++ old) ≡ of_cpu number old
cpu_same ActsFor number others old foreign acts = grind (arith, filter-append, none_of)

-- and after another entry of this CPU
pub cpu_grown : (ActsFor : CpuId → Type 0) (number : CpuId) (t : Tid) (b : BufId) (mine : Option Effect) (others old : List Entry)
    → AreForeign ActsFor cpu_of_entry others → ActsFor number
    → of_cpu number (entries_of number t b mine ++ (others ++ old)) ≡ entries_of number t b mine ++ of_cpu number old
cpu_grown ActsFor number t b None others old foreign acts = cpu_same ActsFor number others old foreign acts
cpu_grown ActsFor number t b (Some f) others old foreign acts =
    let same : (number.0 == number.0) ≡ true = eq-eqb number.0 number.0 refl in
    rw same (ap (λ l. entry_of number t b f ∷ l) (cpu_same ActsFor number others old foreign acts))

-- a trace that grows at its end, as the history does at its front
pub trace_reversed : (number : CpuId) (t : Tid) (b : BufId) (mine : Option Effect) (es trace : List Entry) → trace ≡ reverse es
    → trace ++ entries_of number t b mine ≡ reverse (entries_of number t b mine ++ es)
trace_reversed number t b mine es trace is = grind (arith, append-nil, reverse-append)

-- a poll of a call keeps room for the entries of all calls that have begun
pub room_kept : (stage : GuestStage) (effect : Option Effect) (answer : Option Reply) (number : CpuId) (t : Tid) (b : BufId) (n begun begun2 limit : ℕ)
    → begun2 + one_if (is_begun stage) ≡ begun + one_if (is_begun (stage_after effect answer)) → n + begun ≤ limit
    → (not (is_calling stage) ≡ true → n + begun < limit) → (stage ≡ Done → effect ≢ None)
    → n + length (entries_of number t b (fresh_effect stage effect)) + begun2 ≤ limit
room_kept stage effect answer number t b n begun begun2 limit counts room strict done = grind arith
