use Rattle.std.proofs.{Common.{◌≡◌, ◌<◌, ℕ, [], List, Option, length, map, refl, ap, sym, ◌∙◌, subst, arith}, lemmas.{List.length-map, Option.slice_get-get_or}}
use Rattle.std.{proofs.lemmas.Option.slice_get_within, specs.Prelude.slice_index_or}
use Rattle.layer_traits.specs.{Blocks.{Capacities.caps_in, QueueBlocks.homes_in}, Views.OwnParts.threads_in, Threads.OnePlace.cpu_at}
use Rattle.cpu.specs.{declared.{cpus.Cpu.Cpu, guests.Guest.Guest}, Boots.AreGuests, Claims.{cpu_shown, shown_of}, Sound.BootsByTable, Tables.IsTabled}
use Rattle.cpu.{specs.{Tables.cpu_local, Tower.Composed.named}, proofs.{ListFacts.ListReads.shown_at, WholeSystems.SystemsAtBoot.{IsNew, starts_by_table}}}
use Rattle.cpu.proofs.{WholeSystems.InvariantAtBoot.{all_one, boots_as, opens, shows_all}, StepTable.TableCalls.boots_tabled}
use Rattle.event_log.specs.{declared.ids.CpuId.CpuId, Actions.Action}
use Rattle.cpu.proofs.systems.System.with_tables.Goals as goal

pub assembled-requires : goal.assembled-requires
assembled-requires g c =
    let I = g.I.CallLayer in
    let m = c.in_ok-machine.machine in
    let cpus = c.in_ok-cpus.cpus.items in
    let homes = c.args.homes.now in
    let e = c.in_ok-machine.ensures in
    let openable = c.requires.openable in
    let tables : List (List (Option Guest)) = map (λ t. t.items) c.args.tables.items in
    let so_many : length tables ≡ length c.args.tables.items = length-map c.args.tables.items (λ t. t.items) in
    let shown =
    λ (x : Cpu g.row.I.Denot g.row.I-Machine.Denot). cpu_shown (threads_in (I.local x.part)) x.guests.items x.trace.items x.limit (I.is_inside x.part)
    (I.local x.part) in
    let threads = ap (λ (l : List CpuId). length l) (sym c.in_ok-machine.ensures.opened.homes_are) in
    let below : (k : ℕ) → k < length cpus → k < length tables = grind arith in
    let start = shown_of (caps_in (I.opening m)) (homes_in (I.opening m)) (I.history m) (I.wait_lists m) (g.I.Owned.owner m) (I.moves m) (I.acts m)
    (map shown cpus) c.args.room 0 in
    let boots : I.IsStepwise → BootsByTable start = λ step. starts_by_table start (ap (λ (l : List (Action _)). named l) e.none) refl
    (shown_at shown (λ k p. IsNew (homes_in (I.opening m)) k p) cpus (λ k x at.
    let b = c.in_ok-cpus.ensures.booted k x at in
    let are = c.requires.tables k (slice_index_or tables k []) (slice_get-get_or tables k [] (below k (slice_get_within cpus k x at))) in
    subst (λ (h : List CpuId). IsNew h k (shown x)) (sym e.opened.homes_are) (record {
      buffers = length c.args.caps.now;
      guests = subst (λ (l : List (Option Guest)). AreGuests homes (length c.args.caps.now) (cpu_at k) l) (sym b.booted.guests_are) are;
      cpu_local_is = (λ i. cpu_local (b.own_is i) x.guests.items (b.booted.nothing i));
    }))) in
    opens _ (λ x. x.number) (λ d. I.ActsFor m d) (λ d. I.MayHold m d) I.IsStepwise (I.acts m) cpus homes (homes_in (I.opening m)) (I.history m) c.args.caps.now
    c.args.room (I.room m) (length c.args.tables.items) _ (threads, boots) openable c.in_ok-cpus.ensures.count (λ k x at.
    let b = c.in_ok-cpus.ensures.booted k x at in
    let within : k < length c.args.tables.items =
    let inside = slice_get_within cpus k x at in let count = c.in_ok-cpus.ensures.count in omega (arith, inside, count) in
    let below : k < c.len.result = let len = c.len.ensures in let ok = c.args.tables.ok.0 in omega (arith, within, len, ok) in
    record {
      number_is = b.booted.number_is;
      holds =
          let one = boots_as I m x homes (length c.args.caps.now) k (slice_index_or tables k []) c.args.limit b (e.fresh (cpu_at k) below)
          (ap (λ (l : List ℕ). length l) e.opened.caps_are)
          e.opened.homes_are e.opened.none_seen (c.requires.tables k (slice_index_or tables k [])
          (slice_get-get_or tables k [] (omega (arith, so_many, within))))
          openable.threads in
          let are = c.requires.tables k (slice_index_or tables k []) (slice_get-get_or tables k [] (omega (arith, so_many, within))) in
          let number : CpuId = cpu_at k in (
            one.0,
            one.1,
            one.2,
            λ step.
                let opened = g.met.I.CallLayer.opens step m homes number (e.fresh number below) in
                subst (λ z. z) (λ i. IsTabled (sym e.opened.homes_are i) (caps_in (I.opening m)) (sym b.booted.number_is i) (sym b.own_is i)
                (sym b.nothing_done i) (sym b.booted.guests_are i) (I.opening m)) (boots_tabled homes (caps_in (I.opening m)) number
                (slice_index_or tables k []) (length c.args.caps.now) (I.opening m) are opened),
          );
    })
    e.acts e.holders e.none e.opened.homes_are e.opened.none_seen (omega arith) e.opened.room_is

pub returns-clause-guests : goal.returns-clause-guests
returns-clause-guests g c =
    let tables : List (List (Option Guest)) = map (λ t. t.items) c.args.tables.items in
    let so_many : length tables ≡ length c.args.tables.items = length-map c.args.tables.items (λ t. t.items) in
    c.assembled.ensures.guests
    ∙ shows_all (λ (x : Cpu g.row.I.Denot g.row.I-Machine.Denot). x.guests.items) c.in_ok-cpus.cpus.items tables [] (c.in_ok-cpus.ensures.count ∙ sym so_many)
    (λ k x at. (c.in_ok-cpus.ensures.booted k x at).booted.guests_are)

pub returns-clause-limits : goal.returns-clause-limits
returns-clause-limits g c =
    let so_many : length (map (λ t. c.args.limit) c.args.tables.items) ≡ length c.args.tables.items = length-map c.args.tables.items (λ t. c.args.limit) in
    c.assembled.ensures.limits
    ∙ shows_all (λ (x : Cpu g.row.I.Denot g.row.I-Machine.Denot). x.limit) c.in_ok-cpus.cpus.items (map (λ t. c.args.limit) c.args.tables.items) c.args.limit
    (c.in_ok-cpus.ensures.count ∙ sym so_many)
    (λ k x at. (c.in_ok-cpus.ensures.booted k x at).booted.limit_is ∙ sym (all_one c.args.limit c.args.tables.items k))
