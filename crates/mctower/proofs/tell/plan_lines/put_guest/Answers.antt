use Rattle.mctower.proofs.tell.plan_lines.put_guest.Goals as goal

pub returns : goal.returns
returns g c =
    rw (c.as_slice.ensures, c.as_slice-2.ensures, c.as_slice-3.ensures, c.as_slice-4.ensures) at
    (rw (c.as_bytes-thread.ensures.value, c.format.ensures.text, c.as_bytes-line.ensures.value, c.format-2.ensures.text) at
    (rw (c.as_bytes-fault.ensures.value, c.fault_name.ensures) at c.tell.ensures))
