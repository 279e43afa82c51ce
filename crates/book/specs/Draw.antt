-- `draw`: what it answers, and what stands after it.
use Rattle.std.specs.Prelude.{ℕ, Bool, not, ◌||◌, List, [], ◌∷◌, ◌++◌, length, Result}
use Rattle.refusal.specs.Rows.{Rule, first_row, unless_refused}
use Rattle.listing.specs.Listing.{append_rules}
use Rattle.strand.specs.Node.{Node, is_node}
use Rattle.bundle.specs.declared.arrow.Arrow.{Arrow}
use Rattle.bundle.specs.Arrow.{arrow_limit, same_arrow}
use Rattle.book.specs.Entries.{Entries, with_arrows}

abbrev pub arrow : Node → Node → Arrow
arrow from to = record { from = from; to = to }

-- one of the two nodes is not there
abbrev pub node_missing : {X : Type 0} → List (List X) → Node → Node → Bool
node_missing ss from to = not (is_node ss from) || not (is_node ss to)

-- the rows that can fit, lowest first: a node that is not there; an arrow that stands; as many arrows as a book holds
abbrev pub draw_rules : Entries → Node → Node → List Rule
draw_rules e from to = (4, node_missing e.strands from to) ∷ append_rules same_arrow arrow_limit e.arrows (arrow from to)

-- the new arrow's position
abbrev pub draw_reply : Entries → Node → Node → Result ℕ ℕ
draw_reply e from to = first_row (draw_rules e from to) (length e.arrows)

-- the arrow comes last
abbrev pub after_draw : Entries → Node → Node → Entries
after_draw e from to = unless_refused (draw_reply e from to) (with_arrows e (e.arrows ++ arrow from to ∷ [])) e
