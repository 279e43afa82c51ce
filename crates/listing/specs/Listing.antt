-- Lists of entries in the order in which they came, and what the calls on them answer and leave.
use Rattle.std.specs.Prelude.{◌≡◌, ℕ, ◌<◌, ◌≤◌, Bool, not, ◌⊎◌, List, [], ◌∷◌, ◌++◌, length, Ok, Err, Result, nat_le, nat_lt}
use Rattle.std.specs.List.{remove}
use Rattle.refusal.specs.declared.Refusal.{Refusal}
use Rattle.refusal.specs.Rows.{Rule, row}
use Rattle.listing.specs.Place.{place}

-- an entry is put at the end, if there may be one more
abbrev pub Pushed : {X : Type 0} → ℕ → List X → X → Result ℕ Refusal → List X → Type 0
Pushed limit xs x (Ok k) after = (k ≡ length xs) × (length xs < limit) × (after ≡ xs ++ x ∷ [])
Pushed limit xs x (Err q) after = (row q ≡ 8) × (limit ≤ length xs) × (after ≡ xs)

module _ {X : Type 0} (same : X → X → Bool) where
  -- whether an entry that is the same as x stands in the list
  abbrev pub stands : X → List X → Bool
  stands x xs = nat_lt (place same x xs) (length xs)

  -- the rows that refuse one more entry, lowest first: it stands; as many stand as there may be
  abbrev pub append_rules : ℕ → List X → X → List Rule
  append_rules limit xs x = (6, stands x xs) ∷ (8, nat_le limit (length xs)) ∷ []

  -- the row that refuses to take an entry out: it does not stand
  abbrev pub remove_rules : List X → X → List Rule
  remove_rules xs x = (7, not (stands x xs)) ∷ []

  -- the place of an entry, if it stands
  abbrev pub Placed : X → List X → ℕ → Type 0
  Placed x xs k = (k ≡ place same x xs) × (k < length xs)

  -- the entry stands nowhere
  abbrev pub Absent : X → List X → Type 0
  Absent x xs = length xs ≤ place same x xs

  -- an entry that did not stand is put at the end, if there may be one more
  abbrev pub Appended : ℕ → List X → X → Result ℕ Refusal → List X → Type 0
  Appended limit xs x (Ok k) after = Absent x xs × (k ≡ length xs) × (length xs < limit) × (after ≡ xs ++ x ∷ [])
  Appended limit xs x (Err q) after =
      (((row q ≡ 6) × (place same x xs < length xs)) ⊎ ((row q ≡ 8) × Absent x xs × (limit ≤ length xs))) × (after ≡ xs)

  -- an entry that stood is taken out, and those behind it move up
  abbrev pub Removed : List X → X → Result ℕ Refusal → List X → Type 0
  Removed xs x (Ok k) after = Placed x xs k × (after ≡ remove xs k)
  Removed xs x (Err q) after = (row q ≡ 7) × Absent x xs × (after ≡ xs)
