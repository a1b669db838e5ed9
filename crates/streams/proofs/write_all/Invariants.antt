-- `streams::write_all` stays in the text, and has written what is before the place.
use Rattle.std.proofs.Common.{◌≤◌, length, take}
use Rattle.std.specs.Io.KnownBytes.{Appends}
use Rattle.streams.proofs.write_all.Given as goal

abbrev pub invariant-loop : goal.invariant-loop
invariant-loop g l = record {
  within : l.at ≤ length l.text;
  written : Appends (g.W.Write.contents l.initial.output) (g.W.Write.contents l.output) (take l.at l.text);
}
