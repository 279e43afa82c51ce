-- Reading ends: each record takes bytes of the input.
use Rattle.std.proofs.Common.{◌-◌, length}
use Rattle.book_notes.proofs.read.Given as goal

abbrev pub decreases-loop-record : goal.decreases-loop-record
decreases-loop-record g l = length l.reader.input.now - l.reader.place
