-- What stands in a book: messages and strands by number, arrows and assumptions by position, all from 0.
use Rattle.std.specs.Prelude.{List, []}
use Rattle.message.specs.Message.{Message}
use Rattle.strand.specs.Trace.{Trace}
use Rattle.bundle.specs.declared.arrow.Arrow.{Arrow}
use Rattle.assumption.specs.declared.assumption.Assumption.{Assumption}

pub record Entries : Type 0 where
  pub messages : List Message
  pub strands : List Trace
  pub arrows : List Arrow
  pub assumptions : List (Assumption Message)

-- what stands in a new book
abbrev pub none : Entries
none = record { messages = []; strands = []; arrows = []; assumptions = [] }

-- The entries with one of their parts exchanged.
abbrev pub with_messages : Entries → List Message → Entries
with_messages e ms = record { messages = ms; strands = e.strands; arrows = e.arrows; assumptions = e.assumptions }

abbrev pub with_strands : Entries → List Trace → Entries
with_strands e ss = record { messages = e.messages; strands = ss; arrows = e.arrows; assumptions = e.assumptions }

abbrev pub with_arrows : Entries → List Arrow → Entries
with_arrows e xs = record { messages = e.messages; strands = e.strands; arrows = xs; assumptions = e.assumptions }

abbrev pub with_assumptions : Entries → List (Assumption Message) → Entries
with_assumptions e xs = record { messages = e.messages; strands = e.strands; arrows = e.arrows; assumptions = xs }
