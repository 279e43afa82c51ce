-- The laws of `place`, for any test. (That it stands there is the library's `passes_at_first`.)
use Rattle.std.proofs.Common.{◌≡◌, ℕ, suc, ◌<◌, ◌≤◌, Bool, true, List, [], ◌∷◌, ◌++◌, map, length, ltb, false, Some, None, get_or, sym, refl, ◌∙◌, ⊎_elim, arith}
use Rattle.std.proofs.lemmas.Bool.{cases_Bool, cases_lt, both_ways, lt-ltb, ne_eqb}
use Rattle.std.proofs.lemmas.Option.{none-some}
use Rattle.std.proofs.lemmas.List.Folds.{position_or_len_push, prefix_len-append}
use Rattle.std.proofs.lemmas.List.Sums.{fails_before_first, position_or_len_is, prefix_len-le-length}
use Rattle.std.specs.List.{position, position_or_len}
use Rattle.listing.specs.Place.{place}

module _ {X : Type 0} (same : X → X → Bool) (x : X) where
  -- no further than the end
  pub place_le : (xs : List X) → place same x xs ≤ length xs
  place_le xs = prefix_len-le-length _ xs

  -- no further than any place where it stands
  pub place_before : (d : X) (xs : List X) (k : ℕ) → k < length xs → same (get_or xs k d) x ≡ true → place same x xs ≤ k
  place_before d xs k h e =
      ⊎_elim (λ l. absurd (both_ways _ (fails_before_first (λ y. same y x) xs k d l) e)) (λ l. l) (cases_lt k (place same x xs))

  -- where it stands nowhere, the place is behind them all
  pub place_none : (d : X) (xs : List X) → ((k : ℕ) → k < length xs → same (get_or xs k d) x ≡ true → ⊥) → place same x xs ≡ length xs
  place_none d xs none =
      position_or_len_is (λ y. same y x) xs (length xs) d (omega arith)
      (λ k h. ⊎_elim (λ t. absurd (none k h t)) (λ t. t) (cases_Bool (same (get_or xs k d) x)))
      (λ h. absurd (omega arith))

  -- what is put behind does not move what stands
  pub place_keep : (xs ys : List X) → place same x xs < length xs → place same x (xs ++ ys) ≡ place same x xs
  place_keep xs ys h =
      let within = ne_eqb (place same x xs) (length xs) (λ e. omega arith) in
      prefix_len-append _ xs ys ∙ simp within

  -- what did not stand is found at the end once it is put there
  pub place_push : (xs : List X) → length xs ≤ place same x xs → same x x ≡ true → place same x (xs ++ x ∷ []) ≡ length xs
  place_push xs h e =
      let end : place same x xs ≡ length xs = let l = place_le xs in omega arith in
      position_or_len_push (λ y. same y x) xs x ∙ grind (arith, end, e)

-- a place is kept by a map that keeps the test
pub place_map : {X Y : Type 0} (same : X → X → Bool) (same' : Y → Y → Bool) (f : X → Y) (x d : X) (xs : List X) →
    ((k : ℕ) → k < length xs → same' (f (get_or xs k d)) (f x) ≡ same (get_or xs k d) x) → place same' (f x) (map f xs) ≡ place same x xs
place_map same same' f x d [] alike = refl
place_map same same' f x d (y ∷ ys) alike =
    let here : same' (f y) (f x) ≡ same y x = alike 0 (omega arith) in
    let rest : place same' (f x) (map f ys) ≡ place same x ys = place_map same same' f x d ys (λ k h. alike (suc k) (omega arith)) in
    simp (here, rest)

-- no element passes the test where a search finds none
pub position-None : {X : Type 0} (p : X → Bool) (xs : List X) (k : ℕ) (d : X) → position p xs ≡ None → k < length xs → p (get_or xs k d) ≡ false
position-None p xs k d is h = fails_before_first p xs k d (⊎_elim passed (λ l. omega arith) (cases_lt (position_or_len p xs) (length xs)))
  where
    passed : position_or_len p xs < length xs → k < position_or_len p xs
    passed l =
        let t : ltb (position_or_len p xs) (length xs) ≡ true = lt-ltb _ _ l in
        let e : position p xs ≡ Some (position_or_len p xs) = simp t in
        absurd (none-some _ (sym is ∙ e))
