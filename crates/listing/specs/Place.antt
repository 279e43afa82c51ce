-- Where something stands in a list, and lists in which nothing stands twice.
use Rattle.std.specs.Prelude.{◌≡◌, ℕ, Bool, false, List, AllPairs}
use Rattle.std.specs.List.{position_or_len}

module _ {X : Type 0} (same : X → X → Bool) where
  -- the number of elements before the first that is the same as x: all of them where none is
  abbrev pub place : X → List X → ℕ
  place x xs = position_or_len (λ y. same y x) xs

  -- no two elements are the same
  abbrev pub Once : List X → Type 0
  Once xs = AllPairs (λ x y. same x y ≡ false) xs
