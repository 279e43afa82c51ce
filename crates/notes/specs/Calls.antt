-- The call that a record stands for.
use Rattle.std.specs.Prelude.{◌≡◌, ℕ, List, [], ◌∷◌, Ok, Err, Result}
use Rattle.refusal.specs.declared.Refusal.{Refusal}
use Rattle.refusal.specs.Rows.{row}
use Rattle.record.specs.Fields.{flat}
use Rattle.record.specs.Frame.{Framed}
use Rattle.spelling.specs.declared.entering.Entering.{Entering}

-- the kind of a record that enters a message
abbrev pub call_kind : ℕ
call_kind = 1

-- the fields of a call's record
abbrev pub call_fields : Entering → List ℕ
call_fields c = c.form ∷ c.x ∷ c.y ∷ []

-- the record is the call's
pub record Of (r : Framed) (c : Entering) : Type 0 where
  pub kind : r.kind ≡ call_kind
  pub body : r.body ≡ flat (call_fields c)

-- the call of the record; row 2 where it is no call's
abbrev pub StandsFor : Framed → Result Entering Refusal → Type 0
StandsFor r (Ok c) = Of r c
StandsFor r (Err q) = (row q ≡ 2) × ((c : Entering) → Of r c → ⊥)
