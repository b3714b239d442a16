use Rattle.std.proofs.{Common.{inl, inr}, lemmas.List.append-nil}
use Rattle.mctower.proofs.serve.serve_no_order.Goals as goal

pub returns-in-Ok-AsksHelp-clause-answers : goal.returns-in-Ok-AsksHelp-clause-answers
returns-in-Ok-AsksHelp-clause-answers g c =
    inr (inl (
      rw c.in-Ok-AsksHelp.field-0-is at c.in-Ok-AsksHelp.ensures,
      rw (c.as_slice-name.ensures, c.as_bytes-version.ensures.value, c.as_slice.ensures, c.as_bytes-help.ensures.value, c.help_on.ensures, append-nil) at
          c.write_output.ensures.put,
    ))
