use Rattle.std.proofs.Common.{◌≡◌, length, map, take}
use Rattle.mctower.proofs.run.contents.Given as goal

abbrev pub invariant-loop-buffer : goal.invariant-loop-buffer
invariant-loop-buffer g l = record {
  many : length l.left.items ≡ l.buffer;
  left : map (λ items. items.items) l.left.items ≡ take l.buffer l.system.contents;
}
