-- Arrows, and how many of them a book holds.
use Rattle.std.specs.Prelude.{◌≡◌, ℕ, Bool, true, ◌&&◌, ◌↔◌}
use Rattle.strand.specs.Node.{same_node}
use Rattle.bundle.specs.declared.arrow.Arrow.{Arrow}

-- The limit: how many arrows a book holds.
abbrev pub arrow_limit : ℕ
arrow_limit = 1024

-- whether two arrows are one
abbrev pub same_arrow : Arrow → Arrow → Bool
same_arrow a b = same_node a.from b.from && same_node a.to b.to

-- the test holds exactly of equal arrows
abbrev pub EqualArrows : Type 0
EqualArrows = (a b : Arrow) → (same_arrow a b ≡ true) ↔ (a ≡ b)
