-- The forms of messages as they are read from numbers.
use Rattle.std.specs.Prelude.{◌≡◌, ℕ, ◌<◌, ◌⊎◌, Result, MatchResult}
use Rattle.refusal.specs.declared.Refusal.{Refusal}
use Rattle.refusal.specs.declared.Refusal.TheVariants.{NotListed}
use Rattle.message.specs.declared.stored.Form.{Form}
use Rattle.message.specs.Message.{form_number}

-- the form with a number, or the refusal of a number that no form has
abbrev pub FormListed : ℕ → Result Form Refusal → Type 0
FormListed n r = MatchResult r (λ form. form_number form ≡ n) (λ q. (q ≡ NotListed) × ((n ≡ 0) ⊎ (8 < n)))
