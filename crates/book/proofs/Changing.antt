-- A part of the entries that a call leaves, and the entries with it.
use Rattle.std.proofs.Common.{◌≡◌, ℕ, Ok, Err, Result, sym, refl, ap, ◌∙◌}
use Rattle.refusal.specs.Rows.{unless_refused}
use Rattle.book.specs.Entries.{Entries}

through : {X : Type 0} (put : X → Entries) (new old : X) (r : Result ℕ ℕ) → put (unless_refused r new old) ≡ unless_refused r (put new) (put old)
through put new old (Ok n) = refl
through put new old (Err n) = refl

-- a part that is new unless the call was refused makes the entries so
pub changed : {X : Type 0} (put : X → Entries) {after : X} (new old : X) {r : Result ℕ ℕ} (s : Result ℕ ℕ) → after ≡ unless_refused r new old → r ≡ s →
    put after ≡ unless_refused s (put new) (put old)
changed put new old s now is = ap put (now ∙ ap (λ t. unless_refused t new old) is) ∙ through put new old s

-- a call that is refused leaves the entries as they were
pub stays : (new old : Entries) {s : Result ℕ ℕ} (n : ℕ) → s ≡ Err n → old ≡ unless_refused s new old
stays new old n is = sym (ap (λ t. unless_refused t new old) is)
