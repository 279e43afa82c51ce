-- The strands of a book, by number, and what the calls on them answer and leave.
use Rattle.std.specs.Prelude.{◌≡◌, ℕ, ◌<◌, ◌≤◌, ◌⊎◌, List, [], ◌∷◌, ◌++◌, map, length, Ok, Err, vec_items, vec_capacity, Result, slice_set}
use Rattle.arrayvec.specs.ArrayVec.{ArrayVec}
use Rattle.refusal.specs.declared.Refusal.{Refusal}
use Rattle.refusal.specs.Rows.{row}
use Rattle.strand.specs.declared.event.Event.{Event}
use Rattle.strand.specs.declared.strand.Strands.{Strands}
use Rattle.strand.specs.Node.{event_limit, strand_at, strand_limit}

-- the events of a strand, in order
abbrev pub events_of : ArrayVec (Event ℕ) → List (Event ℕ)
events_of s = s.items

-- the events of all strands
abbrev pub strands_of : Strands → List (List (Event ℕ))
strands_of ss = map events_of (vec_items ss.strands)

-- how many strands there is memory for (that a call leaves it as it was is a fact of two values, which no field can state)
abbrev pub memory_of : Strands → ℕ
memory_of ss = vec_capacity ss.strands

-- a strand without events is put behind the others, if there may be one more
abbrev pub Opened : List (List (Event ℕ)) → Result ℕ Refusal → List (List (Event ℕ)) → Type 0
Opened ss (Ok n) after = (n ≡ length ss) × (length ss < strand_limit) × (after ≡ ss ++ [] ∷ [])
Opened ss (Err q) after = (row q ≡ 8) × (strand_limit ≤ length ss) × (after ≡ ss)

-- the event is put behind the others of its strand, if the strand is there and may have one more
abbrev pub Added : List (List (Event ℕ)) → ℕ → Event ℕ → Result ℕ Refusal → List (List (Event ℕ)) → Type 0
Added ss s e (Ok i) after =
    (s < length ss) × (i ≡ length (strand_at ss s)) × (length (strand_at ss s) < event_limit)
    × (after ≡ slice_set ss s (strand_at ss s ++ e ∷ []))
Added ss s e (Err q) after =
    (((row q ≡ 4) × (length ss ≤ s)) ⊎ ((row q ≡ 8) × (s < length ss) × (event_limit ≤ length (strand_at ss s))))
    × (after ≡ ss)
