use Rattle.std.proofs.Common.{◌-◌, length}
use Rattle.notes.proofs.read.Given as goal

-- each record takes bytes of the input
abbrev pub decreases-loop-record : goal.decreases-loop-record
decreases-loop-record g l = length l.reader.input.now - l.reader.place
