-- The numbers in a book's strands are those of its messages.
use Rattle.std.specs.Prelude.{ℕ, List, All}
use Rattle.message.specs.Message.{Message}
use Rattle.strand.specs.declared.event.Event.{Event}
use Rattle.strand.specs.Trace.{Within}

-- each event of each strand has the number of a message
abbrev pub EventsWithin : List Message → List (List (Event ℕ)) → Type 0
EventsWithin ms ss = All (Within ms) ss
