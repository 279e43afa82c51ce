-- Traces over growing tables, what stands at a node of them, and where a value originates.
use Rattle.std.proofs.Common.{◌≡◌, ℕ, ◌↔◌, ◌<◌, ◌≤◌, List, [], ◌∷◌, map, length, get_or, is_some, Some, None, Option, refl, ap, ◌∙◌, subst, inl, inr, arith}
use Rattle.std.proofs.Math.ListN.{get_or-map}
use Rattle.std.specs.Option.{option_map}
use Rattle.std.specs.List.{slice_get}
use Rattle.std.proofs.lemmas.Bool.{cases_lt, cases_order}
use Rattle.std.proofs.lemmas.List.Elements.{All-tail}
use Rattle.std.proofs.lemmas.List.{length-map}
use Rattle.std.proofs.lemmas.Option.{slice_get-get_or, slice_get-map, slice_get_past}
use Rattle.message.specs.Message.{Message}
use Rattle.message.specs.Meaning.{at}
use Rattle.message.specs.Carried.{Carried}
use Rattle.strand.specs.declared.event.Event.{Event}
use Rattle.strand.specs.declared.event.Sign.{Sign}
use Rattle.strand.specs.declared.event.Sign.TheVariants.{Receives, Transmits}
use Rattle.strand.specs.Event.{meant}
use Rattle.strand.specs.Seeking.{Decided, Nowhere}
use Rattle.strand.specs.Node.{Node, event_at, is_node, strand_at}
use Rattle.strand.specs.Trace.{Trace, Carries, OriginatesOnce, Within, no_event, trace}

-- a trace stays as it is where its messages do
pub trace_grown : (ms ms' : List Message) (es : List (Event ℕ)) → Within ms es → ((k : ℕ) → k < length ms → at ms' k ≡ at ms k) →
    trace ms' es ≡ trace ms es
trace_grown ms ms' [] within kept = refl
trace_grown ms ms' (e ∷ es) within kept =
    let head : meant ms' e ≡ meant ms e =
    ap (λ (m : Message). record { sign = e.sign; way = e.way; message = m }) (kept e.message (within 0 e (omega arith))) in
    let rest = trace_grown ms ms' es (All-tail (λ f. f.message < length ms) e es within) kept in
    cc

-- the strands with a function put to each event
pub strand_at_map : {X Y : Type 0} (f : X → Y) (ss : List (List X)) (s : ℕ) → strand_at (map (map f) ss) s ≡ map f (strand_at ss s)
strand_at_map f ss s = get_or-map (map f) ss s []

is_some_mapped : {X Y : Type 0} (f : X → Y) (o : Option X) → is_some (option_map f o) ≡ is_some o
is_some_mapped f None = refl
is_some_mapped f (Some x) = refl

-- and the nodes that are there
pub is_node_map : {X Y : Type 0} (f : X → Y) (ss : List (List X)) (n : Node) → is_node (map (map f) ss) n ≡ is_node ss n
is_node_map {Y} f ss n =
    ap (λ (es : List Y). is_some (slice_get es n.1)) (strand_at_map f ss n.0)
    ∙ (ap is_some (slice_get-map f (strand_at ss n.0) n.1) ∙ is_some_mapped f (event_at ss n))

-- no event before an index carries the value
abbrev pub NoneBefore : Trace → ℕ → Message → Type 0
NoneBefore t i value = (k : ℕ) → k < i → Carries t k value → ⊥

-- the event of a trace at an index
event : List Message → List (Event ℕ) → ℕ → Event Message
event ms es i = meant ms (get_or es i no_event)

event_there : (ms : List Message) (es : List (Event ℕ)) (i : ℕ) → i < length es → slice_get (trace ms es) i ≡ Some (event ms es i)
unfolding event
event_there ms es i h = slice_get-map (meant ms) es i ∙ ap (option_map (meant ms)) (slice_get-get_or es i no_event h)

-- it carries what its message carries, and nothing else
pub carries : (ms : List Message) (es : List (Event ℕ)) (i : ℕ) (value : Message) → i < length es →
    Carried value (at ms (get_or es i no_event).message) ↔ Carries (trace ms es) i value
unfolding event
carries ms es i value h = (
  (λ c. record { event = event ms es i; there = event_there ms es i h; carried = c }),
  (λ c.
      let here = event_there ms es i h in
      let found = c.there in
      let same : c.event ≡ event ms es i = cc in
      subst (λ (e : Event Message). Carried value e.message) same c.carried),
)

-- a value that an event carries first originates there, if that event sends it, and else nowhere
pub decided : (ms : List Message) (es : List (Event ℕ)) (i : ℕ) (value : Message) (s : Sign) → i < length es → (get_or es i no_event).sign ≡ s →
    Carries (trace ms es) i value → NoneBefore (trace ms es) i value → Decided (trace ms es) value i s
unfolding event
decided ms es i value Transmits h sign carried before = record {
  sent = record { event = event ms es i; there = event_there ms es i h; sign = sign };
  carried = carried;
  first = before;
}
decided ms es i value Receives h sign carried before = λ j o.
    elim (cases_order j i) [
      | inl same ↦
          let there = event_there ms es i h in
          let found = o.sent.there in
          let sends = o.sent.sign in
          cc
      | inr (inl earlier) ↦ before j earlier o.carried
      | inr (inr later) ↦ o.first i later carried
    ]

-- a value that no event carries originates nowhere
pub past_end : (ms : List Message) (es : List (Event ℕ)) (value : Message) (i : ℕ) → NoneBefore (trace ms es) i value → length es ≤ i → Nowhere (trace ms es) value
past_end ms es value i before end j o =
    elim (cases_lt j i) [
      | inl earlier ↦ before j earlier o.carried
      | inr past ↦
          let found = o.sent.there in
          let nothing = slice_get_past (trace ms es) j (omega (arith, length-map es (meant ms), past, end)) in
          cc
    ]

-- no value originates at two places
pub once : OriginatesOnce
once t value i j o p =
    elim (cases_order i j) [
      | inl same ↦ same
      | inr (inl before) ↦ absurd (p.first i before o.carried)
      | inr (inr after) ↦ absurd (o.first j after p.carried)
    ]
