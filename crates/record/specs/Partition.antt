-- An input as its records.
use Rattle.std.specs.Prelude.{◌≡◌, ℕ, ◌+◌, ◌*◌, ◌<◌, ◌⊎◌, List, [], ◌∷◌, ◌++◌, length, slice_index}
use Rattle.record.specs.Frame.{Framed, frame, frames}

-- the length that the first two bytes state
abbrev pub stated : List ℕ → ℕ
stated bytes = slice_index bytes 0 + 256 * slice_index bytes 1

-- some bytes are left, and too few: not a whole head, or not the whole body that the head states
pub record TruncatedAt (left : List ℕ) : Type 0 where
  pub some : 0 < length left
  pub short : (length left < 4) ⊎ (length left < 4 + stated left)

-- the first record begins at byte n, and each further one where the one before it ends
abbrev pub PlacedFrom : ℕ → List Framed → Type 0
PlacedFrom n [] = Unit {0}
PlacedFrom n (r ∷ rs) = (r.place ≡ n) × PlacedFrom (n + length (frame r)) rs

-- each record begins after the bytes of those before it
abbrev pub Placed : List Framed → Type 0
Placed rs = PlacedFrom 0 rs

-- no record begins here: nothing is left, or too little
abbrev pub NoMore : List ℕ → Type 0
NoMore left = (left ≡ []) ⊎ TruncatedAt left

-- the input is these records and then the rest, with which no record begins
pub record Partition (input : List ℕ) (rs : List Framed) (rest : List ℕ) : Type 0 where
  pub bytes : input ≡ frames rs ++ rest
  pub placed : Placed rs
  pub ends : NoMore rest

-- every element is a byte
abbrev pub Bytes : List ℕ → Type 0
Bytes input = (k : ℕ) → k < length input → slice_index input k < 256

-- every input of bytes is records and a rest, and the bytes alone determine which
pub record RecordsPartition : Type 0 where
  pub exists : (input : List ℕ) → Bytes input → (rs : List Framed) × (rest : List ℕ) × Partition input rs rest
  pub unique : (input : List ℕ) (rs rs' : List Framed) (rest rest' : List ℕ) →
      Partition input rs rest → Partition input rs' rest' → (rs ≡ rs') × (rest ≡ rest')
