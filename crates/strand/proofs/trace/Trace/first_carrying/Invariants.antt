use Rattle.message.specs.Meaning.{at}
use Rattle.strand.specs.Lent.{table_of, trace_of}
use Rattle.strand.proofs.Traces.{NoneBefore}
use Rattle.strand.proofs.trace.Trace.first_carrying.Given as goal

-- no event that was passed carries the value
abbrev pub invariant-loop-index : goal.invariant-loop-index
invariant-loop-index l = NoneBefore (trace_of l.self) l.index (at (table_of l.self) l.value)
