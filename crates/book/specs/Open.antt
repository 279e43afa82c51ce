-- `open`: what it answers, and what stands after it.
use Rattle.std.specs.Prelude.{ℕ, List, [], ◌∷◌, ◌++◌, length, Result, nat_le}
use Rattle.refusal.specs.Rows.{Rule, first_row, unless_refused}
use Rattle.strand.specs.Node.{strand_limit}
use Rattle.book.specs.Entries.{Entries, with_strands}

-- the row that can fit: as many strands stand as a book holds
abbrev pub open_rules : Entries → List Rule
open_rules e = (8, nat_le strand_limit (length e.strands)) ∷ []

-- the next strand number
abbrev pub open_reply : Entries → Result ℕ ℕ
open_reply e = first_row (open_rules e) (length e.strands)

-- a strand without events comes last
abbrev pub after_open : Entries → Entries
after_open e = unless_refused (open_reply e) (with_strands e (e.strands ++ [] ∷ [])) e
