-- `strike`: what it answers, and what stands after it.
use Rattle.std.specs.Prelude.{ℕ, List, ◌∷◌, Result}
use Rattle.std.specs.List.{remove}
use Rattle.refusal.specs.Rows.{Rule, first_row, unless_refused}
use Rattle.listing.specs.Place.{place}
use Rattle.listing.specs.Listing.{remove_rules}
use Rattle.strand.specs.Node.{Node}
use Rattle.bundle.specs.Arrow.{same_arrow}
use Rattle.book.specs.Draw.{arrow, node_missing}
use Rattle.book.specs.Entries.{Entries, with_arrows}

-- the rows that can fit, lowest first: a node that is not there; an arrow that does not stand
abbrev pub strike_rules : Entries → Node → Node → List Rule
strike_rules e from to = (4, node_missing e.strands from to) ∷ remove_rules same_arrow e.arrows (arrow from to)

-- the position of the arrow
abbrev pub struck : Entries → Node → Node → ℕ
struck e from to = place same_arrow (arrow from to) e.arrows

-- the position that the arrow had
abbrev pub strike_reply : Entries → Node → Node → Result ℕ ℕ
strike_reply e from to = first_row (strike_rules e from to) (struck e from to)

-- the arrow is taken out, and those behind it move up
abbrev pub after_strike : Entries → Node → Node → Entries
after_strike e from to = unless_refused (strike_reply e from to) (with_arrows e (remove e.arrows (struck e from to))) e
