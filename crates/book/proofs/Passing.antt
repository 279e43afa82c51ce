-- What stands after a call, by its rows: it is new only where no row fits.
use Rattle.std.proofs.Common.{◌≡◌, Bool, true, false, cond, not, ◌&&◌, List, [], ◌∷◌, Err, sym, refl, ap, ◌∙◌}
use Rattle.std.proofs.lemmas.Bool.{not-false}
use Rattle.refusal.specs.Rows.{Rule, first_row, unless_refused}

-- none of the rows fits
abbrev pub NoneFits : List Rule → Type 0
NoneFits [] = Unit {0}
NoneFits (r ∷ rules) = (r.1 ≡ false) × NoneFits rules

-- what holds of the old, and of the new where no row fits, holds after the call
pub either_way : {X Y : Type 0} (P : Y → Type 0) (rules : List Rule) (answer : X) (new old : Y) → (NoneFits rules → P new) → P old →
    P (unless_refused (first_row rules answer) new old)
either_way P [] answer new old passed refused = passed tt
either_way P (r ∷ rs) answer new old passed refused =
    go r.1 refl (λ rest. either_way P rs answer new old rest refused)
  where
    go : (b : Bool) → r.1 ≡ b → ((NoneFits rs → P new) → P (unless_refused (first_row rs answer) new old)) →
        P (unless_refused (cond b (Err r.0) (first_row rs answer)) new old)
    go true t further = refused
    go false t further = further (λ none. passed (t, none))

-- of two tests that do not both hold, the second fails where the first holds
pub second_fails : (b c : Bool) → (b && c) ≡ false → b ≡ true → c ≡ false
second_fails b c e t = ap (λ (z : Bool). z && c) (sym t) ∙ e

-- what a row asks of some arguments holds where it is asked and the row does not fit
pub asked : (b c : Bool) → (b && not c) ≡ false → b ≡ true → c ≡ true
asked b c e t = not-false c (second_fails b (not c) e t)
