-- What can stand still can when more messages stand, or more nodes are there.
use Rattle.std.proofs.Common.{List, arith}
use Rattle.std.specs.List.{All, Contains}
use Rattle.std.proofs.lemmas.List.Elements.{All-weaker}
use Rattle.message.specs.Message.{Message}
use Rattle.strand.specs.declared.event.Event.{Event}
use Rattle.strand.specs.Node.{Node}
use Rattle.strand.specs.Trace.{Trace}
use Rattle.bundle.specs.declared.arrow.Arrow.{Arrow}
use Rattle.assumption.specs.declared.assumption.Assumption.{Assumption}
use Rattle.book.specs.Orderly.{BasicValue, IsNode, StandingArrow, StandingAssumption, StandingEvent, StandingTrace}

-- each message that stands still does
abbrev pub KeepsMessages : List Message → List Message → Type 0
KeepsMessages ms ms' = (m : Message) → Contains ms m → Contains ms' m

-- each node that is there still is
abbrev pub KeepsNodes : List Trace → List Trace → Type 0
KeepsNodes ss ss' = (n : Node) → IsNode ss n → IsNode ss' n

module _ (ms ms' : List Message) (more : KeepsMessages ms ms') where
  event_kept : (e : Event Message) → StandingEvent ms e → StandingEvent ms' e
  event_kept e h = record { message = more e.message h.message; way = h.way }

  trace_kept : (t : Trace) → StandingTrace ms t → StandingTrace ms' t
  trace_kept t h = record { few = h.few; events = All-weaker (StandingEvent ms) (StandingEvent ms') event_kept t h.events }

  pub traces_kept : (ss : List Trace) → All (StandingTrace ms) ss → All (StandingTrace ms') ss
  traces_kept ss h = All-weaker (StandingTrace ms) (StandingTrace ms') trace_kept ss h

  value_kept : (v : Message) → BasicValue ms v → BasicValue ms' v
  value_kept v h = record { stands = more v h.stands; basic = h.basic }

  pub assumption_kept : (ss ss' : List Trace) → KeepsNodes ss ss' → (a : Assumption Message) → StandingAssumption ms ss a →
      StandingAssumption ms' ss' a
  assumption_kept ss ss' nodes a h = grind (arith, value_kept, nodes)

pub arrow_kept : (ss ss' : List Trace) → KeepsNodes ss ss' → (a : Arrow) → StandingArrow ss a → StandingArrow ss' a
arrow_kept ss ss' nodes a h = record { from = nodes a.from h.from; to = nodes a.to h.to }
