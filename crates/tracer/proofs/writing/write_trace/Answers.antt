use Rattle.{std.proofs.Common.sym, tracer.proofs.{SinkLemmas.{outs_before, outs_on}, LineLemmas.spelling_parts}}
use Rattle.tracer.proofs.writing.write_trace.Goals as goal

pub returns-in_err-put_head-clause-out : goal.returns-in_err-put_head-clause-out
returns-in_err-put_head-clause-out g c =
    rw (spelling_parts (λ v. v.items) c.args.caps.now c.args.entries.now c.args.left.now, ← c.version_of.ensures)
    (outs_before _ _ _ _ _ (sym c.in_err-put_head.ensures.failed) c.in_err-put_head.ensures.out)

pub returns-in_err-put_line-clause-out : goal.returns-in_err-put_line-clause-out
returns-in_err-put_line-clause-out g c =
    rw (spelling_parts (λ v. v.items) c.args.caps.now c.args.entries.now c.args.left.now, ← c.version_of.ensures)
    (outs_on _ _ _ _ _ _ _ c.in_ok-put_head.ensures.failed c.in_ok-put_head.ensures.out
    (outs_before _ _ _ _ _ (sym c.in_err-put_line.ensures.failed) c.in_err-put_line.ensures.out))

pub returns-in_err-put_caps-clause-out : goal.returns-in_err-put_caps-clause-out
returns-in_err-put_caps-clause-out g c =
    rw (spelling_parts (λ v. v.items) c.args.caps.now c.args.entries.now c.args.left.now, ← c.version_of.ensures)
    (outs_on _ _ _ _ _ _ _ c.in_ok-put_head.ensures.failed c.in_ok-put_head.ensures.out
    (outs_on _ _ _ _ _ _ _ c.in_ok-put_line.ensures.failed c.in_ok-put_line.ensures.out
    (outs_before _ _ _ _ _ (sym c.in_err-put_caps.ensures.failed) c.in_err-put_caps.ensures.out)))

pub returns-in_err-put_entries-clause-out : goal.returns-in_err-put_entries-clause-out
returns-in_err-put_entries-clause-out g c =
    rw (spelling_parts (λ v. v.items) c.args.caps.now c.args.entries.now c.args.left.now, ← c.version_of.ensures)
    (outs_on _ _ _ _ _ _ _ c.in_ok-put_head.ensures.failed c.in_ok-put_head.ensures.out
    (outs_on _ _ _ _ _ _ _ c.in_ok-put_line.ensures.failed c.in_ok-put_line.ensures.out
    (outs_on _ _ _ _ _ _ _ c.in_ok-put_caps.ensures.failed c.in_ok-put_caps.ensures.out
    (outs_before _ _ _ _ _ (sym c.in_err-put_entries.ensures.failed) c.in_err-put_entries.ensures.out))))

pub returns-in_err-put_left-clause-out : goal.returns-in_err-put_left-clause-out
returns-in_err-put_left-clause-out g c =
    rw (spelling_parts (λ v. v.items) c.args.caps.now c.args.entries.now c.args.left.now, ← c.version_of.ensures)
    (outs_on _ _ _ _ _ _ _ c.in_ok-put_head.ensures.failed c.in_ok-put_head.ensures.out
    (outs_on _ _ _ _ _ _ _ c.in_ok-put_line.ensures.failed c.in_ok-put_line.ensures.out
    (outs_on _ _ _ _ _ _ _ c.in_ok-put_caps.ensures.failed c.in_ok-put_caps.ensures.out
    (outs_on _ _ _ _ _ _ _ c.in_ok-put_entries.ensures.failed c.in_ok-put_entries.ensures.out
    (outs_before _ _ _ _ _ (sym c.in_err-put_left.ensures.failed) c.in_err-put_left.ensures.out)))))

pub returns-clause-out : goal.returns-clause-out
returns-clause-out g c =
    rw (spelling_parts (λ v. v.items) c.args.caps.now c.args.entries.now c.args.left.now, ← c.version_of.ensures)
    (outs_on _ _ _ _ _ _ _ c.in_ok-put_head.ensures.failed c.in_ok-put_head.ensures.out
    (outs_on _ _ _ _ _ _ _ c.in_ok-put_line.ensures.failed c.in_ok-put_line.ensures.out
    (outs_on _ _ _ _ _ _ _ c.in_ok-put_caps.ensures.failed c.in_ok-put_caps.ensures.out
    (outs_on _ _ _ _ _ _ _ c.in_ok-put_entries.ensures.failed c.in_ok-put_entries.ensures.out
    (outs_on _ _ _ _ _ _ _ c.in_ok-put_left.ensures.failed c.in_ok-put_left.ensures.out c.put_line-2.ensures.out)))))
