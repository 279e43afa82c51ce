-- The kinds of records, and the call that a record stands for.
use Rattle.std.specs.Prelude.{◌≡◌, ℕ, ◌<◌, ◌⊎◌, List, [], ◌∷◌, Ok, Err, Result}
use Rattle.refusal.specs.declared.Refusal.{Refusal}
use Rattle.refusal.specs.Rows.{row}
use Rattle.record.specs.Fields.{flat}
use Rattle.record.specs.Frame.{Framed}
use Rattle.handin.specs.declared.call.Call.{Call}
use Rattle.handin.specs.declared.call.Call.TheVariants.{Enter, Open, Add, Draw, Assume, Strike, Release}
use Rattle.handin.specs.declared.kind.Kind.{Kind}
use Rattle.handin.specs.declared.kind.Kind.TheVariants.{Enter as OfEnter, Open as OfOpen, Add as OfAdd, Draw as OfDraw, Assume as OfAssume, Strike as OfStrike, Release as OfRelease}

-- the calls by the kinds of their records
abbrev pub call_kind : Call → ℕ
call_kind (Enter form x y) = 1
call_kind Open = 2
call_kind (Add strand sign way message) = 3
call_kind (Draw from to) = 4
call_kind (Assume kind value origin) = 5
call_kind (Strike from to) = 6
call_kind (Release kind value origin) = 7

-- the fields of a call's record
abbrev pub call_fields : Call → List ℕ
call_fields (Enter form x y) = form ∷ x ∷ y ∷ []
call_fields Open = []
call_fields (Add strand sign way message) = strand ∷ sign ∷ way ∷ message ∷ []
call_fields (Draw from to) = from.0 ∷ from.1 ∷ to.0 ∷ to.1 ∷ []
call_fields (Assume kind value origin) = kind ∷ value ∷ origin.0 ∷ origin.1 ∷ []
call_fields (Strike from to) = from.0 ∷ from.1 ∷ to.0 ∷ to.1 ∷ []
call_fields (Release kind value origin) = kind ∷ value ∷ origin.0 ∷ origin.1 ∷ []

-- the record is the call's
pub record Of (r : Framed) (c : Call) : Type 0 where
  pub kind : r.kind ≡ call_kind c
  pub body : r.body ≡ flat (call_fields c)

-- the record is no call's
abbrev pub NoCall : Framed → Type 0
NoCall r = (c : Call) → Of r c → ⊥

-- the call of the record; row 2 where it is no call's
abbrev pub StandsFor : Framed → Result Call Refusal → Type 0
StandsFor r (Ok c) = Of r c
StandsFor r (Err q) = (row q ≡ 2) × NoCall r

-- the kinds by number
abbrev pub kind_number : Kind → ℕ
kind_number OfEnter = 1
kind_number OfOpen = 2
kind_number OfAdd = 3
kind_number OfDraw = 4
kind_number OfAssume = 5
kind_number OfStrike = 6
kind_number OfRelease = 7

-- the kind with this number; row 2 where no kind has it
abbrev pub Listed : ℕ → Result Kind Refusal → Type 0
Listed n (Ok k) = kind_number k ≡ n
Listed n (Err q) = (row q ≡ 2) × ((n ≡ 0) ⊎ (7 < n))
