use Rattle.std.proofs.{Common.{◌≡◌, ◌∷◌, ◌<◌, [], Some, drop, length, map, ap, ◌∙◌, subst, arith, vec_capacity}, lemmas.List.length-append}
use Rattle.std.specs.Prelude.{slice_get, slice_index_or}
use Rattle.cpu.{specs.{declared.cpus.Cpu.Cpu, Boots.IsBootedAs}, proofs.WholeSystems.InvariantAtBoot.{at_end, drop_more, first_left}}
use Rattle.layer_traits.specs.Blocks.Capacities.{caps_in}
use Rattle.cpu.proofs.systems.opening.cpus_at_boot.Goals as goal

pub loop-number-preserved : goal.loop-number-preserved
loop-number-preserved g c =
    let I = g.I.CallLayer in
    let inv = c.loop-number.invariant in
    let tables = c.args.tables.items in
    let n = c.loop-number.number in
    let x = c.in-Ok.cpu in
    let e = c.in-Ok.ensures in
    let within : n < length tables =
    let test = c.loop-number-test.true in let count = c.len-count.ensures in let ok = c.args.tables.ok.0 in omega (arith, test, count, ok) in
    let grown = c.put_cpu.ensures.items in
    let guests = first_left (λ t. t.items) c.loop-number.tables.items tables n c.remove-guests.result [] inv.tables_left within c.remove-guests.ensures.value in
    record {
      tables_left = c.remove-guests.ensures.items ∙ ap (λ l. drop 1 l) inv.tables_left ∙ drop_more tables n within;
      so_many = omega (arith, ap (λ l. length l) grown ∙ length-append c.loop-number.cpus.items (x ∷ []), inv.so_many);
      has_room = let room = inv.has_room in let more = c.put_cpu.ensures.capacity in omega (arith, room, more);
      booted = λ k z at. at_end (λ j (y : Cpu g.row.I.Denot g.row.I-Machine.Denot). IsBootedAs (λ p m. I.Coupled p m) (λ m d. I.IsFresh m c.args.homes.now d)
          (λ m. length (caps_in (I.opening m))) c.args.buffers c.args.homes.now j (slice_index_or (map (λ t. t.items) tables) j []) c.args.limit y.part
          (I.cpu_of y.part) (I.local y.part) (I.under_way y.part) y.number y.guests.items y.trace.items y.limit (vec_capacity y.trace)) c.loop-number.cpus.items
          x
          inv.booted
          (rw inv.so_many (record {
            booted = grind (arith, n, x, e);
            cpu_is = e.cpu;
            nothing_done = e.under_way;
            own_is = e.local;
            coupled = e.coupled;
          }))
          k z (subst (λ l. slice_get l k ≡ Some z) grown at);
    }
