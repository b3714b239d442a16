-- What became of a sink from one point to a later one.
use Rattle.std.specs.Prelude.{◌≡◌, ℕ, Bool, false, true, List, Option}
use Rattle.tracer.specs.{declared.sinks.Sink.Sink, Sinks.{Outs, has_failed, is_flushed, writer_of}}

-- whether a sink has failed and whether it is flushed, and the bytes that its writer holds before
-- and after, if they are known
pub record Output : Type 0 where
  pub failed : Bool
  pub flushed : Bool
  pub old : Option (List ℕ)
  pub new : Option (List ℕ)

-- what became of a sink from its one value to a later one; `contents` gives what a writer holds
abbrev pub between : {W : Type 0} → (W → Option (List ℕ)) → Sink W → Sink W → Output
between contents old new =
    record {
      failed = has_failed new;
      flushed = is_flushed new;
      old = contents (writer_of old);
      new = contents (writer_of new);
    }

-- this text was written: all of it, or a prefix if the sink failed
abbrev pub IsPut : Output → List ℕ → Type 0
IsPut out text = Outs out.failed out.old out.new text

-- this text was written, and the writer was asked to flush it; if the sink failed, a prefix was
-- written
abbrev pub IsTold : Output → List ℕ → Type 0
IsTold out text = IsPut out text × (out.failed ≡ false → out.flushed ≡ true)

-- the sink has not failed, and nothing was written
abbrev pub IsUntouched : Output → Type 0
IsUntouched out = (out.failed ≡ false) × (out.new ≡ out.old)
