use Rattle.std.proofs.Common.{ap, length, reverse, rules, subst, sym, ◌∙◌}
use Rattle.plain_layers.{specs.{declared.kernel.{Lists.Lists, Opening.Opening}, Kernels.IsKernel}, proofs.KernelLemmas.{OpensWith, kernel_fresh, homes_read}}
use Rattle.plain_layers.proofs.KernelLemmas.{queue_is_there, buffer_opens}
use Rattle.plain_layers.proofs.kernel.PlainKernel.open.Goals as goal

pub returns : goal.returns
returns g c =
    let start : Opening g.row.E-Block.Denot = record { lists = c.of-opened.result; homes = c.of-homes.result } in
    let lists : Lists g.row.E-Block.Denot = record { pending = c.in_ok-pending.pending; buffers = c.args.buffers } in
    let opens : OpensWith start lists c.args.cpus c.args.homes.now = record {
      buffers = length c.args.buffers.items;
      are = c.requires;
      opened = c.of-opened.ensures;
      abstract_answer = ap (λ v. v.items) c.of-homes.ensures ∙ c.kept_homes-abstract_answer.ensures;
      empty = c.in_ok-pending.ensures;
    } in
    record {
      sound = subst (λ past. IsKernel g.E.SplitEdit.protocol g.E.Moves.moves start past lists) (sym (ap reverse c.in_ok-log.ensures.empty))
          (kernel_fresh start lists c.args.cpus c.args.homes.now opens g.E.SplitEdit.protocol g.E.Moves.moves);
      history = ap reverse c.in_ok-log.ensures.empty;
      room = search rules;
      homes = homes_read start lists c.args.cpus c.args.homes.now opens;
      queues = queue_is_there start lists c.args.cpus c.args.homes.now opens;
      blocks = buffer_opens start lists c.args.cpus c.args.homes.now opens;
    }
