-- What is read from a book.
use Rattle.std.specs.Prelude.{◌≡◌, ℕ, ◌<◌, List, map, length, nat_eq}
use Rattle.listing.specs.Place.{Once}
use Rattle.strand.specs.declared.trace.Trace.{Trace as Lent}
use Rattle.strand.specs.Node.{strand_at}
use Rattle.strand.specs.Lent.{table_of, trace_of}
use Rattle.bundle.specs.declared.arrow.Arrow.{Arrow}
use Rattle.bundle.specs.Arrow.{same_arrow}
use Rattle.assumption.specs.declared.assumption.Assumption.{Assumption}
use Rattle.assumption.specs.Assumption.{ValuesWithin, same_by, supposed}
use Rattle.book.specs.Entries.{Entries}

-- what is lent is the trace of the strand with a number, over the messages that stand
pub record Lends (e : Entries) (strand : ℕ) (t : Lent) : Type 0 where
  pub there : strand < length e.strands
  pub table : table_of t ≡ e.messages
  pub is : trace_of t ≡ strand_at e.strands strand

-- the arrows, none of them twice
pub record Joins (e : Entries) (xs : List Arrow) : Type 0 where
  pub is : xs ≡ e.arrows
  pub once : Once same_arrow xs

-- the assumptions by the numbers of their values, which are those of messages; none of them twice
pub record Supposes (e : Entries) (xs : List (Assumption ℕ)) : Type 0 where
  pub is : map (supposed e.messages) xs ≡ e.assumptions
  pub within : ValuesWithin e.messages xs
  pub once : Once (same_by nat_eq) xs
