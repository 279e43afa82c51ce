-- Nodes: a strand's number and an event's index on it, both from 0.
use Rattle.std.specs.Prelude.{◌≡◌, ℕ, ◌+◌, ◌*◌, ◌<◌, Bool, ◌&&◌, List, [], is_some, Option, ◌==◌, slice_index_or}
use Rattle.std.specs.List.{slice_get}

abbrev pub Node : Type 0
Node = ℕ × ℕ

-- The limits: how many strands a book holds, and how many events a strand has.
abbrev pub strand_limit : ℕ
strand_limit = 64

abbrev pub event_limit : ℕ
event_limit = 16

-- the strand with a number: one that is not there has no events
abbrev pub strand_at : {X : Type 0} → List (List X) → ℕ → List X
strand_at ss s = slice_index_or ss s []

-- the event at a node, if it is there
abbrev pub event_at : {X : Type 0} → List (List X) → Node → Option X
event_at ss n = slice_get (strand_at ss n.0) n.1

-- whether a node is there
abbrev pub is_node : {X : Type 0} → List (List X) → Node → Bool
is_node ss n = is_some (event_at ss n)

-- whether two nodes are one
abbrev pub same_node : Node → Node → Bool
same_node m n = m.0 == n.0 && m.1 == n.1

-- the code of a node
abbrev pub code : Node → ℕ
code n = n.0 * event_limit + n.1

-- the strand number and the index are below the limits
abbrev pub InRange : Node → Type 0
InRange n = (n.0 < strand_limit) × (n.1 < event_limit)

-- codes have sixteen bits, and tell nodes apart
pub record Codes : Type 0 where
  pub narrow : (n : Node) → InRange n → code n < 65536
  pub apart : (m n : Node) → InRange m → InRange n → code m ≡ code n → m ≡ n
