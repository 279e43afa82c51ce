-- What the first event that carries a value decides. No public contract rests on this file.
use Rattle.std.specs.Prelude.{ℕ}
use Rattle.message.specs.Message.{Message}
use Rattle.strand.specs.declared.event.Sign.{Sign}
use Rattle.strand.specs.declared.event.Sign.TheVariants.{Receives, Transmits}
use Rattle.strand.specs.Trace.{Originates, Trace}

-- the value does not originate on the trace
abbrev pub Nowhere : Trace → Message → Type 0
Nowhere t value = (i : ℕ) → Originates t i value → ⊥

-- a value that the event at index i is the first to carry originates there if that event has sign Transmits, and else nowhere
abbrev pub Decided : Trace → Message → ℕ → Sign → Type 0
Decided t value i Receives = Nowhere t value
Decided t value i Transmits = Originates t i value
