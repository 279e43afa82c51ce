-- What holds at each place of a list, and one entry more.
use Rattle.std.proofs.Common.{◌≡◌, ℕ, ◌<◌, ◌≤◌, List, [], ◌∷◌, ◌++◌, length, get_or, sym, subst, ⊎_elim, arith}
use Rattle.std.proofs.lemmas.List.{get_or_append_left, get_or_push, length_push}
use Rattle.std.proofs.lemmas.Bool.{cases_lt}

-- what holds at each place of a list and of one more element holds at each place of both
pub each_push : {X : Type 0} (d : X) (P : X → ℕ → Type 0) (xs : List X) (x : X) → ((k : ℕ) → k < length xs → P (get_or xs k d) k) → P x (length xs) →
    (k : ℕ) → k < length (xs ++ x ∷ []) → P (get_or (xs ++ x ∷ []) k d) k
each_push d P xs x each new k h = ⊎_elim before behind (cases_lt k (length xs))
  where
    before : k < length xs → P (get_or (xs ++ x ∷ []) k d) k
    before l = subst (λ y. P y k) (sym (get_or_append_left xs (x ∷ []) d k l)) (each k l)

    behind : length xs ≤ k → P (get_or (xs ++ x ∷ []) k d) k
    behind l =
        let here : length xs ≡ k = let n = length_push xs x in omega arith in
        subst (λ y. P y k) (sym (get_or_push xs x d k here)) (subst (P x) here new)
