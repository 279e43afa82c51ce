-- A book by what it holds, and what its calls ensure of every history.
use Rattle.std.specs.Prelude.{◌≡◌, ℕ, List, [], ◌∷◌, ◌++◌, map}
use Rattle.message.specs.Carrying.{Carrying}
use Rattle.message.specs.Table.{memory_of as message_memory, messages_of}
use Rattle.message.specs.Terms.{Algebra}
use Rattle.strand.specs.Strands.{memory_of as strand_memory, strands_of}
use Rattle.strand.specs.Trace.{trace}
use Rattle.listing.specs.Held.{entries_of, memory_of as list_memory}
use Rattle.bundle.specs.Arrow.{EqualArrows}
use Rattle.assumption.specs.Assumption.{EqualAssumptions, supposed}
use Rattle.book.specs.declared.book.Book.{Book}
use Rattle.book.specs.Entries.{Entries}
use Rattle.book.specs.Calls.{Call, Defined, Reply, after}
use Rattle.book.specs.Notes.{Note, calls, note, standing}
use Rattle.book.specs.Sound.{Sound}
use Rattle.book.specs.Orderly.{Orderly}

-- what a book holds: its events and assumptions with the messages that their numbers mean
abbrev pub entries : Book → Entries
entries b =
    record {
      messages = messages_of b.messages;
      strands = map (trace (messages_of b.messages)) (strands_of b.strands);
      arrows = entries_of b.arrows;
      assumptions = map (supposed (messages_of b.messages)) (entries_of b.assumptions);
    }

-- for how many messages, strands, arrows and assumptions there is memory
abbrev pub memory : Book → List ℕ
memory b = message_memory b.messages ∷ strand_memory b.strands ∷ list_memory b.arrows ∷ list_memory b.assumptions ∷ []

-- one call: the defined reply; the book then holds what stands after the call; and it has the memory that it had
pub record Step (b : Book) (c : Call) (r : Reply c) (b' : Book) : Type 0 where
  pub reply : Defined (entries b) c r
  pub holds : entries b' ≡ after (entries b) c
  pub memory : memory b' ≡ memory b

-- what stands by the notes is what the book holds, and the notes are sound
pub record Recorded (ns : List Note) (b : Book) : Type 0 where
  pub stands : standing (calls ns) ≡ entries b
  pub sound : Sound ns

-- any calls in any order and number lead from one book to another
pub data Calls : Book → List Note → Book → Type 0 where
  no_call : {b : Book} → Calls b [] b
  then_call : {a b b' : Book} {ns : List Note} {c : Call} {r : Reply c} → Calls a ns b → Step b c r b' → Calls a (ns ++ note c r ∷ []) b'

-- what a call ensures: its step, and that every history that it ends is recorded (data and no record, so that the check takes
-- a lemma for the whole, and does not prove it part by part)
pub data Answered : (b : Book) (c : Call) (r : Reply c) (b' : Book) → Type 0 where
  answered_by : {b b' : Book} {c : Call} {r : Reply c} → Step b c r b' →
      ((ns : List Note) → Recorded ns b → Recorded (ns ++ note c r ∷ []) b') → Answered b c r b'

-- its two parts
pub step_of : {b b' : Book} {c : Call} {r : Reply c} → Answered b c r b' → Step b c r b'
step_of (answered_by step recorded) = step

pub recorded_of : {b b' : Book} {c : Call} {r : Reply c} → Answered b c r b' → (ns : List Note) → Recorded ns b → Recorded (ns ++ note c r ∷ []) b'
recorded_of (answered_by step recorded) = recorded

-- what holds of a new book: every history that it begins is recorded
pub record Begins (b : Book) : Type 0 where
  pub empty : Recorded [] b
  pub histories : (ns : List Note) (b' : Book) → Calls b ns b' → Recorded ns b'
  -- whatever calls were made, what stands is orderly
  pub orderly : (cs : List Call) → Orderly (standing cs)
  -- messages are the terms of the algebra up to its equation, and carried is the least relation with its laws
  pub algebra : Algebra
  pub carrying : Carrying
  -- the entries that a call looks for are equal ones
  pub arrows : EqualArrows
  pub assumptions : EqualAssumptions
