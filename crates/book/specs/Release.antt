-- `release`: what it answers, and what stands after it.
use Rattle.std.specs.Prelude.{ℕ, List, ◌++◌, Result}
use Rattle.std.specs.List.{remove}
use Rattle.refusal.specs.Rows.{Rule, first_row, unless_refused}
use Rattle.listing.specs.Place.{place}
use Rattle.listing.specs.Listing.{remove_rules}
use Rattle.strand.specs.Node.{Node}
use Rattle.assumption.specs.Assumption.{same_assumption}
use Rattle.book.specs.Assume.{assumption_rules, named_assumption}
use Rattle.book.specs.Entries.{Entries, with_assumptions}

-- the rows that can fit, lowest first: those of the arguments, as for `assume`; an assumption that does not stand
abbrev pub release_rules : Entries → ℕ → ℕ → Node → List Rule
release_rules e kind value origin =
    assumption_rules e.messages e.strands kind value origin
    ++ remove_rules same_assumption e.assumptions (named_assumption e.messages kind value origin)

-- the position of the assumption
abbrev pub released : Entries → ℕ → ℕ → Node → ℕ
released e kind value origin = place same_assumption (named_assumption e.messages kind value origin) e.assumptions

-- the position that the assumption had
abbrev pub release_reply : Entries → ℕ → ℕ → Node → Result ℕ ℕ
release_reply e kind value origin = first_row (release_rules e kind value origin) (released e kind value origin)

-- the assumption is taken out, and those behind it move up
abbrev pub after_release : Entries → ℕ → ℕ → Node → Entries
after_release e kind value origin =
    unless_refused (release_reply e kind value origin)
    (with_assumptions e (remove e.assumptions (released e kind value origin)))
    e
