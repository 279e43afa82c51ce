-- What `append` and `remove` do is what their rows say, also of a list whose entries stand for others.
use Rattle.std.proofs.Common.{◌≡◌, ℕ, suc, Bool, List, [], ◌∷◌, ◌++◌, map, length, take, drop, Result, sym, ◌∙◌, ap₂, arith}
use Rattle.std.specs.List.{remove}
use Rattle.std.proofs.lemmas.List.{length-map, map-append, map_push, take-map, drop-map}
use Rattle.refusal.specs.declared.Refusal.{Refusal}
use Rattle.refusal.specs.Rows.{by_row, first_row, unless_refused}
use Rattle.listing.specs.Place.{place}
use Rattle.listing.specs.Listing.{Appended, Removed, append_rules, remove_rules}

module _ {X : Type 0} (same : X → X → Bool) (limit : ℕ) (xs : List X) (x : X) (after : List X) where
  pub append_replied : (r : Result ℕ Refusal) → Appended same limit xs x r after → by_row r ≡ first_row (append_rules same limit xs x) (length xs)
  append_replied r d = grind (arith, d)

  pub append_leaves : (r : Result ℕ Refusal) → Appended same limit xs x r after → after ≡ unless_refused (by_row r) (xs ++ x ∷ []) xs
  append_leaves r d = grind (arith, d)

  pub remove_replied : (r : Result ℕ Refusal) → Removed same xs x r after → by_row r ≡ first_row (remove_rules same xs x) (place same x xs)
  remove_replied r d = grind (arith, d)

  pub remove_leaves : (r : Result ℕ Refusal) → Removed same xs x r after → after ≡ unless_refused (by_row r) (remove xs (place same x xs)) xs
  remove_leaves r d = grind (arith, d)

module _ {X Y : Type 0} (same : X → X → Bool) (same' : Y → Y → Bool) (f : X → Y) (xs : List X) (x : X) (alike : place same' (f x) (map f xs) ≡ place same x xs) (after : List X) where
  long : length (map f xs) ≡ length xs
  long = length-map xs f

  pub appended_map : (limit : ℕ) (r : Result ℕ Refusal) → Appended same limit xs x r after → Appended same' limit (map f xs) (f x) r (map f after)
  appended_map limit r d = grind (arith, d, alike, long, map_push)

  map_removed : (k : ℕ) → map f (remove xs k) ≡ remove (map f xs) k
  map_removed k =
      map-append f (take k xs) (drop (suc k) xs)
      ∙ ap₂ (λ (ys zs : List Y). ys ++ zs) (sym (take-map f k xs)) (sym (drop-map f (suc k) xs))

  pub removed_map : (r : Result ℕ Refusal) → Removed same xs x r after → Removed same' (map f xs) (f x) r (map f after)
  removed_map r d = grind (arith, d, alike, long, map_removed)
