-- Every input of bytes is records and a rest in one way.
use Rattle.std.proofs.Common.{◌≡◌, ℕ, zero, suc, ◌+◌, ◌*◌, ◌<◌, ◌≤◌, List, [], ◌∷◌, ◌++◌, length, take, drop, sym, refl, ap, ◌∙◌, subst, inl, inr, arith, lit<}
use Rattle.std.proofs.lemmas.List.{append_assoc, length-append, length-drop, length-take-le, get_or-drop}
use Rattle.std.proofs.lemmas.Bool.{cases_lt}
use Rattle.record.specs.Frame.{Framed, frame, frames}
use Rattle.record.specs.Partition.{stated, NoMore, PlacedFrom, Bytes, RecordsPartition}
use Rattle.record.proofs.Frames.{Head, two_bytes_of, begins_with, same_front}

-- the records of bytes before which n others stand
record From (n : ℕ) (input : List ℕ) : Type 0 where
  rs : List Framed
  rest : List ℕ
  bytes : input ≡ frames rs ++ rest
  placed : PlacedFrom n rs
  last : NoMore rest

none : (n : ℕ) (input : List ℕ) → NoMore input → From n input
none n input l = record { rs = []; rest = input; bytes = refl; placed = tt; last = l }

too_few : (n : ℕ) (input : List ℕ) → 0 < length input → length input < 4 → From n input
too_few n input s l = none n input (inr (record { some = s; short = inl l }))

-- a record before those of the bytes after it
one_more : (n : ℕ) (r : Framed) (t : List ℕ) → r.place ≡ n → From (n + length (frame r)) t → From n (frame r ++ t)
one_more n r t p f = record {
  rs = r ∷ f.rs;
  rest = f.rest;
  bytes = ap (λ (bs : List ℕ). frame r ++ bs) f.bytes ∙ sym (append_assoc (frame r) (frames f.rs) f.rest);
  placed = (p, f.placed);
  last = f.last;
}

bytes_after : (n : ℕ) (bytes : List ℕ) → Bytes bytes → Bytes (drop n bytes)
bytes_after n bytes h k l =
    subst (λ (b : ℕ). b < 256) (sym (get_or-drop n bytes k 0)) (h (n + k) (omega (arith, length-drop n bytes)))

-- reading on ends, since each record takes bytes
some : (fuel n : ℕ) (input : List ℕ) → length input ≤ fuel → Bytes input → From n input
some fuel n [] l h = none n [] (inl refl)
some fuel n (a ∷ []) l h = too_few n _ (lit< tt) (lit< tt)
some fuel n (a ∷ b ∷ []) l h = too_few n _ (lit< tt) (lit< tt)
some fuel n (a ∷ b ∷ c ∷ []) l h = too_few n _ (lit< tt) (lit< tt)
some zero n (a ∷ b ∷ c ∷ d ∷ t) l h = absurd (omega arith)
some (suc fuel) n (a ∷ b ∷ c ∷ d ∷ t) l h =
    elim (cases_lt (length t) (a + b * 256)) [
      | inl short ↦ none n _ (inr (record { some = omega arith; short = inr (omega arith) }))
      | inr long ↦
          let r : Framed = record { place = n; kind = c + d * 256; body = take (a + b * 256) t } in
          let head : Head (a ∷ b ∷ c ∷ d ∷ t) (a + b * 256) r.kind = record {
            enough = omega arith;
            size_is = two_bytes_of a b _ (h 0 (omega arith)) refl;
            kind_is = two_bytes_of c d _ (h 2 (omega arith)) refl;
          } in
          let whole = begins_with r head (length-take-le (a + b * 256) t long) refl in
          let m = 4 + length r.body in
          let after = drop m (a ∷ b ∷ c ∷ d ∷ t) in
          subst (From n) (sym whole)
          (one_more n r after refl
          (some fuel (n + length (frame r)) after (omega (arith, length-drop m (a ∷ b ∷ c ∷ d ∷ t)))
          (bytes_after m (a ∷ b ∷ c ∷ d ∷ t) h)))
    ]

-- what is nothing or truncated does not begin with a record
no_record : (r : Framed) (t rest : List ℕ) → rest ≡ frame r ++ t → NoMore rest → ⊥
no_record r t rest e (inl nothing) = omega (arith, ap length e, ap length nothing)
no_record r t rest e (inr cut) =
    let n = length-append r.body t in
    elim cut.short [
      | inl few ↦ omega (arith, ap length e)
      | inr few ↦ omega (arith, ap length e, ap stated e)
    ]

framed_same : {r q : Framed} → r.place ≡ q.place → r.kind ≡ q.kind → r.body ≡ q.body → r ≡ q
framed_same p k b = λ i. record { place = p i; kind = k i; body = b i }

-- the first records are the same, and so are those after them
same : (n : ℕ) (rs qs : List Framed) (rest last : List ℕ) → frames rs ++ rest ≡ frames qs ++ last →
    PlacedFrom n rs → PlacedFrom n qs → NoMore rest → NoMore last → (rs ≡ qs) × (rest ≡ last)
same n [] [] rest last e p o l m = (refl, e)
same n [] (q ∷ qs) rest last e p o l m = absurd (no_record q (frames qs ++ last) rest (e ∙ append_assoc (frame q) (frames qs) last) l)
same n (r ∷ rs) [] rest last e p o l m = absurd (no_record r (frames rs ++ rest) last (sym e ∙ append_assoc (frame r) (frames rs) rest) m)
same n (r ∷ rs) (q ∷ qs) rest last e p o l m =
    let f = same_front r q (frames rs ++ rest) (frames qs ++ last)
    (sym (append_assoc (frame r) (frames rs) rest) ∙ e ∙ append_assoc (frame q) (frames qs) last) in
    let first : r ≡ q = framed_same (p.0 ∙ sym o.0) f.0 f.1 in
    let later = same (n + length (frame r)) rs qs rest last f.2 p.1
    (subst (λ (x : Framed). PlacedFrom (n + length (frame x)) qs) (sym first) o.1) l m in
    let heads : r ∷ rs ≡ q ∷ qs = cc in
    (heads, later.1)

pub partitions : RecordsPartition
partitions = record {
  exists = λ input h.
      let f = some (length input) 0 input (omega arith) h in
      (f.rs, f.rest, record { bytes = f.bytes; placed = f.placed; ends = f.last });
  unique = λ input rs qs rest last p q.
      same 0 rs qs rest last (sym p.bytes ∙ q.bytes) p.placed q.placed p.ends q.ends;
}
