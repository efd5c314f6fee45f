-- `streams::read_input` meets its contract: what was read is the first of what the source had and stands within the buffer, and each read that
-- moves a byte leaves less of it. Assumes nothing.
use Rattle.std.proofs.Common.{◌≡◌, ◌-◌, ◌≤◌, length, take}
use Rattle.std.specs.Io.KnownBytes.{Consumes}
use Rattle.streams.proofs.read_input.Given as goal

abbrev pub invariant-loop-n : goal.invariant-loop-n
invariant-loop-n g l =
    record {
      within : l.n ≤ length l.input;
      same : length l.input ≡ length l.initial.input;
      taken : Consumes (g.R.Read.remaining l.initial.source) (g.R.Read.remaining l.source) (take l.n l.input);
    }

abbrev pub decreases-loop-n : goal.decreases-loop-n
decreases-loop-n g l = length l.initial.input - l.n
