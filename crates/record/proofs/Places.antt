-- Records that each begin where the one before it ends.
use Rattle.std.proofs.Common.{◌≡◌, ℕ, ◌+◌, List, [], ◌∷◌, ◌++◌, length, arith}
use Rattle.std.proofs.lemmas.List.{length-append}
use Rattle.record.specs.Frame.{Framed, frame, frames}
use Rattle.record.specs.Partition.{PlacedFrom}

-- one more record, placed at the end of the others
pub placed_more : (n : ℕ) (rs : List Framed) (r : Framed) → PlacedFrom n rs → r.place ≡ n + length (frames rs) → PlacedFrom n (rs ++ r ∷ [])
placed_more n [] r h p = (omega arith, tt)
placed_more n (q ∷ rs) r h p =
    (h.0, placed_more (n + length (frame q)) rs r h.1 (omega (arith, length-append (frame q) (frames rs))))

-- a record's place is the number of bytes before it
pub place_of : (n : ℕ) (before : List Framed) (r : Framed) (after : List Framed) → PlacedFrom n (before ++ r ∷ after) → r.place ≡ n + length (frames before)
place_of n [] r after h = omega arith
place_of n (q ∷ before) r after h =
    omega (arith, place_of (n + length (frame q)) before r after h.1, length-append (frame q) (frames before))
