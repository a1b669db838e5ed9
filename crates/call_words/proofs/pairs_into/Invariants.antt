-- `call_words::pairs_into`: the bytes of the numbers so far.
use Rattle.std.proofs.Common.{◌≡◌, ◌*◌, flat_map, length, take}
use Rattle.std.specs.Int.{to_be_bytes, w16}
use Rattle.call_words.proofs.pairs_into.Given as goal

abbrev pub invariant-loop-i : goal.invariant-loop-i
invariant-loop-i l = record {
  long : length l.bytes ≡ 2 * length l.list;
  written : take (2 * l.i) l.bytes ≡ flat_map (λ x. to_be_bytes w16 x) (take l.i l.list);
}
