-- What can stand in a book at all, whatever calls were made.
use Rattle.std.specs.Prelude.{◌≡◌, ◌≢◌, ℕ, ◌≤◌, true, List, length, is_some, All, AllPairs, Contains}
use Rattle.message.specs.declared.stored.Symbol.TheVariants.{AsymmetricKey}
use Rattle.message.specs.Message.{Message, compound, inverse_key, sort_of, symbol}
use Rattle.message.specs.Table.{Numbered}
use Rattle.strand.specs.declared.event.Event.{Event}
use Rattle.strand.specs.declared.event.Way.{Way}
use Rattle.strand.specs.declared.event.Way.TheVariants.{Plain, Channel}
use Rattle.strand.specs.Event.{is_channel}
use Rattle.strand.specs.Node.{Node, event_limit, is_node, strand_limit}
use Rattle.strand.specs.Trace.{Trace}
use Rattle.bundle.specs.declared.arrow.Arrow.{Arrow}
use Rattle.bundle.specs.Arrow.{arrow_limit}
use Rattle.assumption.specs.declared.assumption.Assumption.{Assumption}
use Rattle.assumption.specs.declared.assumption.Assumption.TheVariants.{NonOriginating, UniquelyOriginating, Authenticated, Confidential}
use Rattle.assumption.specs.Assumption.{assumption_limit}
use Rattle.book.specs.Entries.{Entries}

-- the number is a channel's
abbrev pub IsChannel : ℕ → Type 0
IsChannel c = is_channel c ≡ true

-- the node is there
abbrev pub IsNode : List Trace → Node → Type 0
IsNode ss n = is_node ss n ≡ true

-- the messages that this one is made of are among those that stand
abbrev pub StandingParts : List Message → Message → Type 0
StandingParts ms (symbol s n) = Unit {0}
StandingParts ms (inverse_key n) = Contains ms (symbol AsymmetricKey n)
StandingParts ms (compound o x y) = Contains ms x × Contains ms y

-- the message is one of those that stand, and a basic value
pub record BasicValue (ms : List Message) (m : Message) : Type 0 where
  pub stands : Contains ms m
  pub basic : is_some (sort_of m) ≡ true

-- a way that can stand: plain, or one of the channels
abbrev pub StandingWay : Way → Type 0
StandingWay Plain = Unit {0}
StandingWay (Channel c) = IsChannel c

-- an event that can stand: its message is one of those that stand
pub record StandingEvent (ms : List Message) (e : Event Message) : Type 0 where
  pub message : Contains ms e.message
  pub way : StandingWay e.way

-- a strand that can stand
pub record StandingTrace (ms : List Message) (t : Trace) : Type 0 where
  pub few : length t ≤ event_limit
  pub events : All (StandingEvent ms) t

-- an arrow that can stand: both of its nodes are there
pub record StandingArrow (ss : List Trace) (a : Arrow) : Type 0 where
  pub from : IsNode ss a.from
  pub to : IsNode ss a.to

-- an assumption that can stand: on a basic value that stands, with an origin that is there, or on one of the channels
abbrev pub StandingAssumption : List Message → List Trace → Assumption Message → Type 0
StandingAssumption ms ss (NonOriginating v) = BasicValue ms v
StandingAssumption ms ss (UniquelyOriginating v n) = BasicValue ms v × IsNode ss n
StandingAssumption ms ss (Authenticated c) = IsChannel c
StandingAssumption ms ss (Confidential c) = IsChannel c

-- nothing stands at two places of the list
abbrev pub NoneTwice : {X : Type 0} → List X → Type 0
NoneTwice xs = AllPairs (λ x y. x ≢ y) xs

-- a list of at most so many entries, each of which can stand, and none of which stands twice
pub record Listed {X : Type 0} (limit : ℕ) (Standing : X → Type 0) (xs : List X) : Type 0 where
  pub few : length xs ≤ limit
  pub each : All Standing xs
  pub once : NoneTwice xs

-- all that stands can stand, and there is no more of it than a book holds
pub record Orderly (e : Entries) : Type 0 where
  -- at most as many messages as a table holds, none twice, none too large, and every encryption under a key of its sort
  pub messages : Numbered e.messages
  pub parts : All (StandingParts e.messages) e.messages
  pub strands : length e.strands ≤ strand_limit
  pub traces : All (StandingTrace e.messages) e.strands
  pub arrows : Listed arrow_limit (StandingArrow e.strands) e.arrows
  pub assumptions : Listed assumption_limit (StandingAssumption e.messages e.strands) e.assumptions
