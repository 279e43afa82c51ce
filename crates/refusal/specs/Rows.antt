-- The rows of refusal: the number of each, and the rule by which a call with several conditions answers.
use Rattle.std.specs.Prelude.{ℕ, Bool, cond, List, [], ◌∷◌, Ok, Err, Result}
use Rattle.refusal.specs.declared.Refusal.{Refusal}
use Rattle.refusal.specs.declared.Refusal.TheVariants.{
  Truncated,
  NotARecord,
  NotListed,
  NotThere,
  WrongSort,
  StandsAlready,
  DoesNotStand,
  OverLimit,
  BufferShort,
  RoleNotWellFormed,
}

-- the number of each
abbrev pub row : Refusal → ℕ
row Truncated = 1
row NotARecord = 2
row NotListed = 3
row NotThere = 4
row WrongSort = 5
row StandsAlready = 6
row DoesNotStand = 7
row OverLimit = 8
row BufferShort = 9
row RoleNotWellFormed = 10

-- a reply with its refusal by row number
abbrev pub by_row : {X : Type 0} → Result X Refusal → Result X ℕ
by_row (Ok x) = Ok x
by_row (Err e) = Err (row e)

-- a row's number, and whether the row fits
abbrev pub Rule : Type 0
Rule = ℕ × Bool

-- the first row that fits, in the order listed; the answer where none does
abbrev pub first_row : {X : Type 0} → List Rule → X → Result X ℕ
first_row [] answer = Ok answer
first_row (rule ∷ rules) answer = cond rule.1 (Err rule.0) (first_row rules answer)

-- what stands after a call: the new where it was answered, the old where it was refused
abbrev pub unless_refused : {X Y : Type 0} → Result X ℕ → Y → Y → Y
unless_refused (Ok x) new old = new
unless_refused (Err n) new old = old
