-- The messages that a table's entries stand for, by number.
use Rattle.std.specs.Prelude.{◌≡◌, ℕ, ◌+◌, ◌<◌, ◌≤◌, max, true, List, [], ◌∷◌, ◌++◌, length, get_or, slice_index_or, All}
use Rattle.message.specs.declared.stored.Symbol.TheVariants.{AsymmetricKey}
use Rattle.message.specs.declared.stored.Stored.{Stored}
use Rattle.message.specs.declared.stored.Stored.TheVariants.{Symbol, Inverse, Compound}
use Rattle.message.specs.declared.stored.Entry.{Entry}
use Rattle.message.specs.Message.{Message, symbol, inverse_key, compound, size, size_limit, well_sorted}

-- the message with a number: where there is none, which no rule asks for, asymmetric key 0
abbrev pub at : List Message → ℕ → Message
at ms n = slice_index_or ms n (symbol AsymmetricKey 0)

-- what is stored, over the messages that its numbers mean
abbrev pub value : List Message → Stored → Message
value ms (Symbol s n) = symbol s n
value ms (Inverse n) = inverse_key n
value ms (Compound o x y) = compound o (at ms x) (at ms y)

-- the messages of the entries behind those of `ms`, front to back, each over those before it
abbrev pub meanings_after : List Message → List Entry → List Message
meanings_after ms [] = ms
meanings_after ms (e ∷ es) = meanings_after (ms ++ value ms e.stored ∷ []) es

-- the messages of all entries
abbrev pub meanings : List Entry → List Message
meanings es = meanings_after [] es

-- the least number above those of the parts: an entry may stand from there on
abbrev pub reach : Stored → ℕ
reach (Symbol s n) = 0
reach (Inverse n) = 0
reach (Compound o x y) = max (x + 1) (y + 1)

-- stands for an entry where there is none
abbrev pub no_entry : Entry
no_entry = record { stored = Symbol AsymmetricKey 0; size = 0 }

-- each part stands before its whole
abbrev pub InOrder : List Entry → Type 0
InOrder es = (k : ℕ) → k < length es → reach (get_or es k no_entry).stored ≤ k

-- each entry has its message's size
abbrev pub Sized : List Entry → Type 0
Sized es = (k : ℕ) → k < length es → (get_or es k no_entry).size ≡ size (at (meanings es) k)

-- no message is larger than the limit
abbrev pub Small : List Message → Type 0
Small ms = All (λ m. size m ≤ size_limit) ms

-- no message stands twice
abbrev pub Distinct : List Message → Type 0
Distinct ms = (i j : ℕ) → (i < length ms) × (j < length ms) × (at ms i ≡ at ms j) → i ≡ j

-- every encryption is under a key of its sort
abbrev pub WellSorted : List Message → Type 0
WellSorted ms = All (λ m. well_sorted m ≡ true) ms
