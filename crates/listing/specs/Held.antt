-- A listing by what it holds. (Functions and no `impl Model`: contracts speak of the memory too, and a table and a book rest
-- on facts that their parts carry as values.)
use Rattle.std.specs.Prelude.{ℕ, List, vec_items, vec_capacity}
use Rattle.listing.specs.declared.listing.Listing.{Listing}

module _ {X : Type 0} {limit : ℕ} where
  -- the entries in the order in which they came
  abbrev pub entries_of : Listing X limit → List X
  entries_of l = vec_items l.entries

  -- for how many entries there is memory (that a call leaves it as it was is a fact of two values, which no field can state)
  abbrev pub memory_of : Listing X limit → ℕ
  memory_of l = vec_capacity l.entries
