-- The kinds of assumption as they are read from numbers.
use Rattle.std.specs.Prelude.{◌≡◌, ℕ, ◌<◌, ◌⊎◌, Result, MatchResult}
use Rattle.refusal.specs.declared.Refusal.{Refusal}
use Rattle.refusal.specs.declared.Refusal.TheVariants.{NotListed}
use Rattle.assumption.specs.declared.assumption.Kind.{Kind}
use Rattle.assumption.specs.Assumption.{kind_number}

-- the kind with a number, or the refusal of a number that no kind has
abbrev pub KindListed : ℕ → Result Kind Refusal → Type 0
KindListed n r = MatchResult r (λ kind. kind_number kind ≡ n) (λ q. (q ≡ NotListed) × ((n ≡ 0) ⊎ (4 < n)))
