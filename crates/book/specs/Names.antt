-- What the arguments of the calls name, as the book's private functions hand it on. No public contract rests on this file.
use Rattle.std.specs.Prelude.{◌≡◌, ℕ, ◌<◌, ◌≤◌, true, false, ◌⊎◌, List, length, is_some, Some, None, Ok, Err, Option, Result, ◌≢◌}
use Rattle.refusal.specs.declared.Refusal.{Refusal}
use Rattle.refusal.specs.Rows.{first_row, row}
use Rattle.message.specs.Message.{Message, sort_of}
use Rattle.message.specs.Meaning.{at}
use Rattle.strand.specs.declared.event.Event.{Event}
use Rattle.strand.specs.Event.{channel_limit, is_channel, sign_at, way_at}
use Rattle.strand.specs.Node.{Node, is_node}
use Rattle.bundle.specs.declared.arrow.Arrow.{Arrow}
use Rattle.assumption.specs.declared.assumption.Assumption.{Assumption}
use Rattle.assumption.specs.Assumption.{supposed, value_reach}
use Rattle.book.specs.Assume.{assumption_rules, named_assumption}
use Rattle.book.specs.Draw.{arrow}

-- the event that a sign, a way and a message name, or the row that refuses them
abbrev pub EventNamed : List Message → ℕ → ℕ → ℕ → Result (Event ℕ) Refusal → Type 0
EventNamed ms sign way message (Ok e) =
    (sign ≤ 1) × (way ≤ channel_limit) × (message < length ms) × (e ≡ record { sign = sign_at sign; way = way_at way; message = message })
EventNamed ms sign way message (Err q) =
    ((row q ≡ 3) × (1 < sign)) ⊎ ((row q ≡ 4) × (sign ≤ 1) × ((channel_limit < way) ⊎ (length ms ≤ message)))

-- the arrow between two nodes, if both are there
abbrev pub ArrowNamed : {X : Type 0} → List (List X) → Node → Node → Option Arrow → Type 0
ArrowNamed ss from to (Some a) = (is_node ss from ≡ true) × (is_node ss to ≡ true) × (a ≡ arrow from to)
ArrowNamed ss from to None = (is_node ss from ≡ false) ⊎ (is_node ss to ≡ false)

-- the number of a message that is a basic value
abbrev pub ValueNamed : List Message → ℕ → Result ℕ Refusal → Type 0
ValueNamed ms value (Ok n) = (n ≡ value) × (value < length ms) × (is_some (sort_of (at ms value)) ≡ true)
ValueNamed ms value (Err q) =
    ((row q ≡ 4) × (length ms ≤ value)) ⊎ ((row q ≡ 5) × (value < length ms) × (is_some (sort_of (at ms value)) ≡ false))

-- the row that refuses the arguments of an assumption, if one does
unfoldable pub arguments_reply : {X : Type 0} → List Message → List (List X) → ℕ → ℕ → Node → Result ℕ ℕ
arguments_reply ms ss kind value origin = first_row (assumption_rules ms ss kind value origin) 0

-- the assumption that the arguments name, or the row that refuses them
abbrev pub AssumptionNamed : {X : Type 0} → List Message → List (List X) → ℕ → ℕ → Node → Result (Assumption ℕ) Refusal → Type 0
AssumptionNamed ms ss kind value origin (Ok a) =
    (arguments_reply ms ss kind value origin ≡ Ok 0) × (supposed ms a ≡ named_assumption ms kind value origin) × (value_reach a ≤ length ms)
AssumptionNamed ms ss kind value origin (Err q) = arguments_reply ms ss kind value origin ≡ Err (row q)

-- the channel with a number, where no origin is named
abbrev pub ChannelNamed : ℕ → Node → Result ℕ Refusal → Type 0
ChannelNamed value origin (Ok c) = (c ≡ value) × (origin.0 ≡ 0) × (origin.1 ≡ 0) × (is_channel value ≡ true)
ChannelNamed value origin (Err q) =
    ((row q ≡ 3) × ((origin.0 ≢ 0) ⊎ (origin.1 ≢ 0)))
    ⊎ ((row q ≡ 4) × (origin.0 ≡ 0) × (origin.1 ≡ 0) × (is_channel value ≡ false))
