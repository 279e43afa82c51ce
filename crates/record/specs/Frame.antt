-- The bytes that a record is.
use Rattle.std.specs.Prelude.{ℕ, ◌/◌, ◌%◌, List, [], ◌∷◌, ◌++◌, length}
use Rattle.std.specs.List.{flat_map}
use Rattle.record.specs.declared.Record.{Record}

-- a sixteen-bit number as bytes, the low one first
abbrev pub two_bytes : ℕ → List ℕ
two_bytes n = n % 256 ∷ n / 256 ∷ []

-- a record as values: the byte at which it begins, its kind and its body
pub record Framed : Type 0 where
  pub place : ℕ
  pub kind : ℕ
  pub body : List ℕ

-- a record of the program as those values, its body as the bytes that it points to
abbrev pub framed : Record → Framed
framed r = record { place = r.place; kind = r.kind; body = r.body.now }

-- the head, which states the body's length and the kind, and the body after it
abbrev pub frame : Framed → List ℕ
frame r = two_bytes (length r.body) ++ (two_bytes r.kind ++ r.body)

-- the bytes of several records, one after the other
abbrev pub frames : List Framed → List ℕ
frames rs = flat_map frame rs
