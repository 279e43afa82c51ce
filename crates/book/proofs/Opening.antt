-- `open` on the strands is `open` on what stands.
use Rattle.std.proofs.Common.{◌≡◌, ℕ, true, false, leb, List, [], ◌∷◌, ◌++◌, map, length, Ok, Err, Result, sym, ap, ◌∙◌, arith}
use Rattle.std.proofs.lemmas.List.{length-map, map_push}
use Rattle.std.proofs.lemmas.Bool.{le-leb, lt-leb}
use Rattle.refusal.specs.declared.Refusal.{Refusal}
use Rattle.refusal.specs.Rows.{by_row}
use Rattle.strand.specs.declared.event.Event.{Event}
use Rattle.strand.specs.Strands.{Opened}
use Rattle.strand.specs.Trace.{Trace, trace}
use Rattle.book.specs.Entries.{Entries, with_strands}
use Rattle.book.specs.Open.{after_open, open_reply}

module _ (e : Entries) (ss after : List (List (Event ℕ))) (is : e.strands ≡ map (trace e.messages) ss) where
  count : length e.strands ≡ length ss
  count = ap length is ∙ length-map ss (trace e.messages)

  pub open_replied : (r : Result ℕ Refusal) → Opened ss r after → by_row r ≡ open_reply e
  open_replied (Ok n) (number, room, now) =
      let t : leb 64 (length e.strands) ≡ false = lt-leb _ _ (omega (arith, count)) in
      ap {B = Result ℕ ℕ} Ok (number ∙ sym count) ∙ sym (simp t)
  open_replied (Err q) (row, full, now) =
      let t : leb 64 (length e.strands) ≡ true = le-leb _ _ (omega (arith, count)) in
      ap {B = Result ℕ ℕ} Err row ∙ sym (simp t)

  pub open_stands : (r : Result ℕ Refusal) → Opened ss r after → with_strands e (map (trace e.messages) after) ≡ after_open e
  open_stands (Ok n) (number, room, now) =
      let t : leb 64 (length e.strands) ≡ false = lt-leb _ _ (omega (arith, count)) in
      ap (with_strands e) (ap (map (trace e.messages)) now ∙ (map_push (trace e.messages) ss [] ∙ ap (λ (ts : List Trace). ts ++ [] ∷ []) (sym is)))
      ∙ sym (simp t)
  open_stands (Err q) (row, full, now) =
      let t : leb 64 (length e.strands) ≡ true = le-leb _ _ (omega (arith, count)) in
      ap (with_strands e) (ap (map (trace e.messages)) now ∙ sym is) ∙ sym (simp t)
