-- What a call of the reader says of every list of records passed before it, and what calls in a row say.
use Rattle.std.proofs.Common.{◌≡◌, ℕ, ◌+◌, ◌*◌, ◌≤◌, List, [], ◌∷◌, ◌++◌, length, take, drop, Some, None, Ok, Err, sym, refl, ap, ◌∙◌, subst, inl, inr, arith}
use Rattle.std.proofs.lemmas.List.{append-nil, append_assoc, length-append, length-take-le, take-append-drop, take_at, drop_all, drop-drop, flat_map_more}
use Rattle.record.specs.declared.Reader.{Reader}
use Rattle.record.specs.declared.Record.{Record}
use Rattle.record.specs.Frame.{Framed, framed, frame, frames}
use Rattle.record.specs.Reads.{Reply, left, Read, Step, Recorded, handed, Whole, Answered, Calls, no_call, then_call, Continues}
use Rattle.record.proofs.Frames.{Head, length_frame, begins_with}
use Rattle.record.proofs.Places.{placed_more}

-- a record is read where its head and then its body stand
pub read : {reader : Reader} {r : Record} {reader' : Reader} {size : ℕ} → reader'.input.now ≡ reader.input.now →
    r.place ≡ reader.place → reader'.place ≡ reader.place + (4 + length r.body.now) →
    Head (left reader) size r.kind → length r.body.now ≡ size → r.body.now ≡ take size (drop 4 (left reader)) → Read reader r reader'
read {reader} {r} {reader'} i p m h n b =
    let far = drop-drop (4 + length r.body.now) reader.place reader.input.now in
    let near = drop-drop 4 reader.place reader.input.now in
    record { bytes = begins_with (framed r) h n b ∙ cc; place = p; moves = m; body = cc }

-- the input is the records passed and what is left
divided : (rs : List Framed) (reader : Reader) → Recorded rs reader → reader.input.now ≡ frames rs ++ left reader
divided rs reader h =
    sym (ap (λ (bs : List ℕ). bs ++ left reader) h.bytes ∙ take-append-drop reader.place reader.input.now)

-- as many bytes are passed as the records have
passed : (rs : List Framed) (reader : Reader) → Recorded rs reader → length (frames rs) ≡ reader.place
passed rs reader h = ap length h.bytes ∙ length-take-le reader.place reader.input.now reader.within

-- after a record is read, it stands last among those passed
recorded_next : (rs : List Framed) (reader : Reader) (r : Record) (reader' : Reader) → Recorded rs reader →
    reader'.input.now ≡ reader.input.now → Read reader r reader' → Recorded (rs ++ framed r ∷ []) reader'
recorded_next rs reader r reader' h i s =
    let all = frames (rs ++ framed r ∷ []) in
    let joins : frames rs ++ frame (framed r) ≡ all = flat_map_more frame [] rs (framed r) in
    let whole : reader'.input.now ≡ all ++ left reader' =
    i ∙ divided rs reader h ∙ ap (λ (bs : List ℕ). frames rs ++ bs) s.bytes
    ∙ sym (append_assoc (frames rs) (frame (framed r)) (left reader'))
    ∙ ap (λ (bs : List ℕ). bs ++ left reader') joins in
    let before = passed rs reader h in
    let n : length all ≡ reader'.place =
    omega (arith, ap length joins, length-append (frames rs) (frame (framed r)), length_frame (framed r)) in
    record {
      bytes = sym (ap (take reader'.place) whole ∙ take_at all (left reader') reader'.place n);
      placed = placed_more 0 rs (framed r) h.placed (omega arith);
    }

-- a reader that stays has the same records
recorded_still : (rs : List Framed) (reader reader' : Reader) → Recorded rs reader →
    reader'.input.now ≡ reader.input.now → reader'.place ≡ reader.place → Recorded (rs ++ []) reader'
recorded_still rs reader reader' h i p = rw (append-nil rs) (record { bytes = let b = h.bytes in cc; placed = h.placed })

recorded_more : (rs : List Framed) (reader : Reader) (reply : Reply) (reader' : Reader) → Step reader reply reader' →
    Recorded rs reader → Recorded (rs ++ handed reply) reader'
recorded_more rs reader (Ok (Some r)) reader' s h = recorded_next rs reader r reader' h s.input s.replied
recorded_more rs reader (Ok None) reader' s h = recorded_still rs reader reader' h s.input s.replied.stays
recorded_more rs reader (Err e) reader' s h = recorded_still rs reader reader' h s.input s.replied.stays

-- a call that hands out no record comes after all of them
whole : (rs : List Framed) (reader : Reader) (reply : Reply) (reader' : Reader) → Step reader reply reader' →
    Recorded rs reader → Whole rs reader reply
whole rs reader (Ok (Some r)) reader' s h = tt
whole rs reader (Ok None) reader' s h =
    let none : left reader ≡ [] = drop_all reader.place reader.input.now (omega (arith, s.replied.all)) in
    record { bytes = divided rs reader h ∙ ap (λ (bs : List ℕ). frames rs ++ bs) none; placed = h.placed; ends = inl refl }
whole rs reader (Err e) reader' s h =
    record { bytes = divided rs reader h; placed = h.placed; ends = inr s.replied.truncated }

-- so one call says what it does, and all that follows from it
pub answered : {reader : Reader} {reply : Reply} {reader' : Reader} → Step reader reply reader' → Answered reader reply reader'
answered {reader} {reply} {reader'} s = record {
  step = s;
  recorded = λ rs. recorded_more rs reader reply reader' s;
  whole = λ rs. whole rs reader reply reader' s;
}

same_input : (from reader : Reader) (rs : List Framed) → Calls from rs reader → reader.input.now ≡ from.input.now
same_input from reader rs no_call = refl
same_input from reader rs (then_call {reader = m} {rs = qs} calls s) = s.input ∙ same_input from m qs calls

-- a call that hands out a record moves the reader by four bytes or more, and no call moves it back
moved : (reader : Reader) (reply : Reply) (reader' : Reader) → Step reader reply reader' →
    reader.place + 4 * length (handed reply) ≤ reader'.place
moved reader (Ok (Some r)) reader' s = omega arith
moved reader (Ok None) reader' s = omega arith
moved reader (Err e) reader' s = omega arith

moved_all : (from reader : Reader) (rs : List Framed) → Calls from rs reader → from.place + 4 * length rs ≤ reader.place
moved_all from reader rs no_call = omega arith
moved_all from reader rs (then_call {reader = m} {rs = qs} {reply = reply} calls s) =
    omega (arith, moved_all from m qs calls, moved m reply reader s, length-append qs (handed reply))

recorded_all : (before : List Framed) (from reader : Reader) (rs : List Framed) → Recorded before from → Calls from rs reader →
    Recorded (before ++ rs) reader
recorded_all before from reader rs h no_call = rw (append-nil before) h
recorded_all before from reader rs h (then_call {reader = m} {rs = qs} {reply = reply} calls s) =
    subst (λ (all : List Framed). Recorded all reader) (append_assoc before qs (handed reply))
    (recorded_more (before ++ qs) m reply reader s (recorded_all before from m qs h calls))

pub continues : (reader : Reader) → Continues reader
continues reader = record {
  input = λ rs reader'. same_input reader reader' rs;
  ends = λ rs reader' calls.
      omega (arith, moved_all reader reader' rs calls, ap length (same_input reader reader' rs calls));
  recorded = λ before rs reader'. recorded_all before reader reader' rs;
  whole = λ before rs reader' reply reader'' h calls s.
      whole (before ++ rs) reader' reply reader'' s (recorded_all before reader reader' rs h calls);
}
