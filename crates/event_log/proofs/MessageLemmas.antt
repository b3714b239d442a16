-- Messages that are compared with trailing zeroes.
use Rattle.std.proofs.{Common.{arith, ◌-◌, ◌≡◌, ◌==◌, ◌&&◌, length, replicate}, lemmas.{Bool.Decides.nat_tests, Slice.Eq.bytes_eq-Decides}}
use Rattle.{std.{proofs.Math.Seq.take-append_seam, specs.Str.bytes_eq}, event_log.specs.{declared.messages.TheConstants.WORDS, Messages.{Message, padded}}}

-- messages are equal if they have equally many words, and are equal with trailing zeroes
pub padded_eq : (x m : Message) → (bytes_eq (padded x) (padded m) && (length x == length m)) ≡ bytes_eq x m
padded_eq x m =
    let front = take-append_seam x (replicate (WORDS - length x) 0) in
    let front' = take-append_seam m (replicate (WORDS - length m) 0) in
    let whole = bytes_eq-Decides (padded x) (padded m) in
    let parts = bytes_eq-Decides x m in
    grind (arith, nat_tests)
