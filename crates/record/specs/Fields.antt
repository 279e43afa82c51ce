-- A body as fields.
use Rattle.std.specs.Prelude.{◌≡◌, ℕ, ◌*◌, List, length, Some, None, Option}
use Rattle.std.specs.List.{flat_map}
use Rattle.record.specs.Frame.{two_bytes}

-- the bytes of several fields, one after the other
abbrev pub flat : List ℕ → List ℕ
flat fields = flat_map two_bytes fields

-- n fields, which are the body
pub record Filled (body : List ℕ) (n : ℕ) (fields : List ℕ) : Type 0 where
  pub size : length body ≡ 2 * n
  pub count : length fields ≡ n
  pub bytes : body ≡ flat fields

-- a body of another length than n fields have is refused
abbrev pub FieldsOf : List ℕ → ℕ → Option (List ℕ) → Type 0
FieldsOf body n (Some fields) = Filled body n fields
FieldsOf body n None = length body ≡ 2 * n → ⊥
