-- What the reader answers, and what its answers say of the whole input.
use Rattle.std.specs.Prelude.{◌≡◌, ℕ, ◌+◌, ◌*◌, ◌≤◌, List, [], ◌∷◌, ◌++◌, length, take, drop, Some, None, Ok, Err, Option, Result}
use Rattle.refusal.specs.declared.Refusal.{Refusal}
use Rattle.refusal.specs.Rows.{row}
use Rattle.record.specs.declared.Reader.{Reader}
use Rattle.record.specs.declared.Record.{Record}
use Rattle.record.specs.Frame.{Framed, framed, frame, frames}
use Rattle.record.specs.Partition.{TruncatedAt, Placed, Partition}

-- what a call answers: a record, or none, or a refusal
abbrev pub Reply : Type 0
Reply = Result (Option Record) Refusal

-- the bytes from the reader's place on
abbrev pub left : Reader → List ℕ
left reader = drop reader.place reader.input.now

-- the bytes left begin with the record, which the reader passes; its body has the bytes that the input has after the head
pub record Read (reader : Reader) (r : Record) (reader' : Reader) : Type 0 where
  pub bytes : left reader ≡ frame (framed r) ++ left reader'
  pub place : r.place ≡ reader.place
  pub moves : reader'.place ≡ reader.place + (4 + length r.body.now)
  pub body : r.body.now ≡ take (length r.body.now) (drop (reader.place + 4) reader.input.now)

-- nothing is left
pub record Ended (reader reader' : Reader) : Type 0 where
  pub all : reader.place ≡ length reader.input.now
  pub stays : reader'.place ≡ reader.place

-- what is left is too short for a record
pub record Stopped (reader : Reader) (e : Refusal) (reader' : Reader) : Type 0 where
  pub row_one : row e ≡ 1
  pub truncated : TruncatedAt (left reader)
  pub stays : reader'.place ≡ reader.place

-- what each answer says of the reader before the call and after it
abbrev pub Replied : Reader → Reply → Reader → Type 0
Replied reader (Ok (Some r)) reader' = Read reader r reader'
Replied reader (Ok None) reader' = Ended reader reader'
Replied reader (Err e) reader' = Stopped reader e reader'

-- one call
pub record Step (reader : Reader) (reply : Reply) (reader' : Reader) : Type 0 where
  pub input : reader'.input.now ≡ reader.input.now
  pub replied : Replied reader reply reader'

-- these records are just the bytes before the reader's place
pub record Recorded (rs : List Framed) (reader : Reader) : Type 0 where
  pub bytes : frames rs ≡ take reader.place reader.input.now
  pub placed : Placed rs

-- the record that a reply hands out, if any
abbrev pub handed : Reply → List Framed
handed (Ok (Some r)) = framed r ∷ []
handed (Ok None) = []
handed (Err e) = []

-- where no record is handed out, the records before are all that the input has
abbrev pub Whole : List Framed → Reader → Reply → Type 0
Whole rs reader (Ok (Some r)) = Unit {0}
Whole rs reader (Ok None) = Partition reader.input.now rs []
Whole rs reader (Err e) = Partition reader.input.now rs (left reader)

-- a call, and what it says of the whole input, whatever records are passed before it
pub record Answered (reader : Reader) (reply : Reply) (reader' : Reader) : Type 0 where
  pub step : Step reader reply reader'
  pub recorded : (rs : List Framed) → Recorded rs reader → Recorded (rs ++ handed reply) reader'
  pub whole : (rs : List Framed) → Recorded rs reader → Whole rs reader reply

-- any number of calls, with the records that they hand out
pub data Calls : Reader → List Framed → Reader → Type 0 where
  no_call : {reader : Reader} → Calls reader [] reader
  then_call : {from reader reader' : Reader} {rs : List Framed} {reply : Reply} →
      Calls from rs reader → Step reader reply reader' → Calls from (rs ++ handed reply) reader'

-- after any calls the records handed out follow those passed before, and where the last call hands out none, they are all
pub record Continues (reader : Reader) : Type 0 where
  pub input : (rs : List Framed) (reader' : Reader) → Calls reader rs reader' → reader'.input.now ≡ reader.input.now
  -- reading on always ends: each record handed out takes four bytes or more of those from the reader's place on
  pub ends : (rs : List Framed) (reader' : Reader) → Calls reader rs reader' → reader.place + 4 * length rs ≤ length reader.input.now
  pub recorded : (before rs : List Framed) (reader' : Reader) → Recorded before reader → Calls reader rs reader' →
      Recorded (before ++ rs) reader'
  pub whole : (before rs : List Framed) (reader' : Reader) (reply : Reply) (reader'' : Reader) → Recorded before reader →
      Calls reader rs reader' → Step reader' reply reader'' → Whole (before ++ rs) reader' reply
