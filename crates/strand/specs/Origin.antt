-- What is answered when asked where a value originates on a trace.
use Rattle.std.specs.Prelude.{◌≡◌, ℕ, ◌<◌, ◌≤◌, List, length, Some, None, Ok, Err, Option, Result}
use Rattle.refusal.specs.declared.Refusal.{Refusal}
use Rattle.refusal.specs.Rows.{row}
use Rattle.message.specs.Message.{Message}
use Rattle.message.specs.Meaning.{at}
use Rattle.strand.specs.Trace.{Trace, Originates}

-- the index at which the message with a number originates on a trace; row 4 where no message has the number
abbrev pub OriginOf : List Message → Trace → ℕ → Result (Option ℕ) Refusal → Type 0
OriginOf ms t n (Ok (Some i)) = (n < length ms) × Originates t i (at ms n)
OriginOf ms t n (Ok None) = (n < length ms) × ((i : ℕ) → Originates t i (at ms n) → ⊥)
OriginOf ms t n (Err q) = (row q ≡ 4) × (length ms ≤ n)
