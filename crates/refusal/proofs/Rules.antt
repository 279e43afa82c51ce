-- Rows in two lists, one behind the other.
use Rattle.std.proofs.Common.{◌≡◌, ℕ, Bool, true, false, cond, List, [], ◌∷◌, ◌++◌, Ok, Err, refl}
use Rattle.refusal.specs.Rows.{Rule, first_row}

module _ {X Y : Type 0} (x : X) (y : Y) (more : List Rule) where
  -- a row of the first list that fits is the reply
  pub refused_before : (rules : List Rule) (n : ℕ) → first_row rules x ≡ Err n → first_row (rules ++ more) y ≡ Err n
  refused_before [] n e = cc
  refused_before (r ∷ rs) n e = go r.1 e (refused_before rs n)
    where
      go : (b : Bool) → cond b (Err r.0) (first_row rs x) ≡ Err n → (first_row rs x ≡ Err n → first_row (rs ++ more) y ≡ Err n) →
          cond b (Err r.0) (first_row (rs ++ more) y) ≡ Err n
      go true e rest = cc
      go false e rest = rest e

  -- where none of the first list fits, the second decides
  pub passed_before : (rules : List Rule) → first_row rules x ≡ Ok x → first_row (rules ++ more) y ≡ first_row more y
  passed_before [] e = refl
  passed_before (r ∷ rs) e = go r.1 e (passed_before rs)
    where
      go : (b : Bool) → cond b (Err r.0) (first_row rs x) ≡ Ok x → (first_row rs x ≡ Ok x → first_row (rs ++ more) y ≡ first_row more y) →
          cond b (Err r.0) (first_row (rs ++ more) y) ≡ first_row more y
      go true e rest = cc
      go false e rest = rest e
