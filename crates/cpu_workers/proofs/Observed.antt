-- What the workers of a plan left is a lawful report of one words log.
use Rattle.std.{proofs.{Common.{ℕ, ◌*◌, ◌^◌, ◌<◌, ◌≤◌, List, refl, sym, subst, arith}, lemmas.Nat.mul-le}, specs.Prelude.{◌≡◌}}
use Rattle.{boot.specs.Plan.{BootPlan, IsPlan}, event_log.specs.declared.{entries.Entry.Entry, ids.{CpuId.CpuId, LockId.LockId, TheConstants.{CPUS, ENTRIES}}}}
use Rattle.{event_log.specs.declared.ids.TheConstants.TRACE, layer_traits.specs.Protocols.OneLock.opened, cpu.specs.Sound.setup_for}
use Rattle.cpu_workers.specs.{declared.workers.{gates.Go.Go, stops.Stop.Stop}, Closing.{shown, Key, tower_rules}, Lawful.CpuReport, Logs.HasWords}
use Rattle.{cpu_workers.{specs.Seating.{AnyBlock, OpensPlan, HaveLeft}, proofs.Reporting.{has_seen, of_words}}, table_machine.specs.SeatViews.TableView}
use Rattle.table_machine.specs.SeatViews.{ClosesTable}

few_entries : (plan : BootPlan) → IsPlan plan → plan.cpus * plan.trace < 2 ^ 64
few_entries plan is = let most : plan.cpus * plan.trace ≤ ENTRIES = mul-le plan.cpus plan.trace CPUS TRACE is.most_cpus is.most_trace in omega (arith, most)

-- the workers of a plan ran at its table, which was closed
pub words_so : {plan : BootPlan} {May : CpuId → Go → ℕ → Type 0} {turns : ℕ} {table_view : TableView AnyBlock} {keys : List Key}
    {traces shown_traces : List (List Entry)} {taken shown_taken : List ℕ} {stops shown_stops : List Stop} {blocks : List (LockId × AnyBlock)}
    → IsPlan plan → table_view.cpus ≡ plan.cpus → OpensPlan plan (opened table_view.start)
    → HaveLeft plan May turns table_view keys traces taken stops → ClosesTable tower_rules table_view keys blocks
    → shown_traces ≡ traces → shown_taken ≡ taken → shown_stops ≡ stops → HasWords plan May turns (shown shown_traces shown_taken shown_stops blocks)
words_so {plan} {May} {turns} {table_view} {keys} {traces} {taken = taken} {stops = stops} {blocks = blocks} is cpus opens left closes traces_are taken_are
    stops_are =
    subst (λ x. x) (λ i. HasWords plan May turns (shown (sym traces_are i) (sym taken_are i) (sym stops_are i) blocks)) (record {
      opening = opened table_view.start;
      opens = opens;
      words = closes.log;
      legal = closes.legal;
      tells = of_words (setup_for plan) May turns table_view keys blocks (shown traces taken stops blocks) (record {
        starts = record {
          some = is.some_cpus;
          cpus = cpus;
          starts = opens.starts;
          homes = opens.homes;
          queues = opens.queues;
          locks = opens.locks;
          buffers = is.caps.most;
          small = few_entries plan is;
        };
        come = record {
          traces = left.traces_count;
          taken = left.taken_count;
          stops = left.stops_count;
          each = λ c below.
              let one = left.each c below in
              let line : CpuReport = record { trace = one.1; taken = one.2; stop = one.3 } in
              (one.0, line, one.4, one.8.cpu_is, record { trace = one.5; taken = one.6; stop = one.7 }, has_seen line one.8.left);
        };
        closes = closes;
        told = refl;
      });
    })
