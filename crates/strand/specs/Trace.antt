-- The trace of a strand: its events with messages, not numbers. What its nodes carry, and where a value originates on it.
use Rattle.std.specs.Prelude.{◌≡◌, ℕ, ◌<◌, List, map, length, Some, All}
use Rattle.std.specs.List.{slice_get}
use Rattle.message.specs.Message.{Message}
use Rattle.message.specs.Carried.{Carried}
use Rattle.strand.specs.declared.event.Sign.TheVariants.{Receives, Transmits}
use Rattle.strand.specs.declared.event.Way.TheVariants.{Plain}
use Rattle.strand.specs.declared.event.Event.{Event}
use Rattle.strand.specs.Event.{meant}

abbrev pub Trace : Type 0
Trace = List (Event Message)

-- the trace of a strand with these events, over the messages of a table
abbrev pub trace : List Message → List (Event ℕ) → Trace
trace ms es = map (meant ms) es

-- stands for an event where there is none
abbrev pub no_event : Event ℕ
no_event = record { sign = Receives; way = Plain; message = 0 }

-- each event's number is a message's
abbrev pub Within : List Message → List (Event ℕ) → Type 0
Within ms es = All (λ e. e.message < length ms) es

-- there is an event at index i, and its message carries the value
pub record Carries (t : Trace) (i : ℕ) (value : Message) : Type 0 where
  pub event : Event Message
  pub there : slice_get t i ≡ Some event
  pub carried : Carried value event.message

-- there is an event at index i, and it is a transmission
pub record Sends (t : Trace) (i : ℕ) : Type 0 where
  pub event : Event Message
  pub there : slice_get t i ≡ Some event
  pub sign : event.sign ≡ Transmits

-- a value originates at index i: that event transmits a message that carries it, and no event before, sent or received, has
-- a message that does
pub record Originates (t : Trace) (i : ℕ) (value : Message) : Type 0 where
  pub sent : Sends t i
  pub carried : Carries t i value
  pub first : (j : ℕ) → j < i → Carries t j value → ⊥

-- on no trace does a value originate at two places
abbrev pub OriginatesOnce : Type 0
OriginatesOnce = (t : Trace) (value : Message) (i j : ℕ) → Originates t i value → Originates t j value → i ≡ j
