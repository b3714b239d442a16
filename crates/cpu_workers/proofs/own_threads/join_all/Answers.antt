use Rattle.{std.proofs.Common.{All, IsOk, sym, subst}, cpu_workers.{specs.Tasks.task_of, proofs.Filling.{both_mapped, filled_all, filled_none, filled_one}}}
use Rattle.cpu_workers.proofs.{Filling.has_room, Joining.{all_head, all_tail}}
use Rattle.cpu_workers.proofs.own_threads.join_all.Goals as goal

pub loop-start-init : goal.loop-start-init
loop-start-init g c =
    let gives = c.into_iter-start-iterator.ensures.into_iter_gives.0 in
    record {
      started = subst (λ l. All IsOk l) (sym gives) c.requires.started;
      done = filled_none gives c.requires.empty c.requires.room;
    }

pub done_by-one-requires : goal.done_by-one-requires
done_by-one-requires g c = all_head IsOk _ c.next.new.self.rest.items c.in-Some.start c.in-Some.ensures.steps.0 c.loop-start.invariant.started

pub push_reserved-requires : goal.push_reserved-requires
push_reserved-requires g c = has_room c.loop-start.invariant.done c.in-Some.ensures.steps.0 c.loop-start.done.ok.0

pub loop-start-preserved : goal.loop-start-preserved
loop-start-preserved g c =
    let known = c.loop-start.invariant in
    record {
      started = all_tail IsOk _ c.next.new.self.rest.items c.in-Some.start c.in-Some.ensures.steps.0 known.started;
      done = filled_one known.done c.in-Some.ensures.steps.0 c.push_reserved.ensures.items c.push_reserved.ensures.capacity c.done_by-one.ensures;
    }

pub returns : goal.returns
returns g c =
    both_mapped g.T.Task.HasDone (task_of (λ s. s.child.promise.task.value)) c.args.starts.items c.loop-start.done.items
    (filled_all c.loop-start.invariant.done c.loop-start.start-iterator.rest.ok.0 c.in-None.ensures.steps.0)
