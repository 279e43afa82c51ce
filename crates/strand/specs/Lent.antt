-- A trace as it is lent.
use Rattle.std.specs.Prelude.{List}
use Rattle.message.specs.Message.{Message}
use Rattle.message.specs.Table.{messages_of}
use Rattle.strand.specs.declared.trace.Trace.{Trace as Lent}
use Rattle.strand.specs.Trace.{Trace, trace}

-- the messages of its table
abbrev pub table_of : Lent → List Message
table_of t = messages_of t.messages.now

-- its events with messages
abbrev pub trace_of : Lent → Trace
trace_of t = trace (table_of t) t.events.now
