-- `add` on the strands is `add` on what stands.
use Rattle.std.proofs.Common.{◌≡◌, ℕ, ◌<◌, ◌≤◌, true, false, not, ◌||◌, ltb, leb, ◌⊎◌, List, [], ◌∷◌, ◌++◌, map, length, set, Ok, Err, Result, sym, ap, ◌∙◌, ap₂, inl, inr, arith}
use Rattle.std.proofs.lemmas.List.{length-map, map_push, map-set}
use Rattle.std.proofs.lemmas.Bool.{le-leb, lt-leb, le-ltb, lt-ltb, or_right}
use Rattle.refusal.specs.declared.Refusal.{Refusal}
use Rattle.refusal.specs.Rows.{by_row, row}
use Rattle.message.specs.Enter.{there}
use Rattle.message.specs.Message.{Message}
use Rattle.strand.specs.declared.event.Event.{Event}
use Rattle.strand.specs.Event.{is_sign, meant}
use Rattle.strand.specs.Node.{strand_at}
use Rattle.strand.specs.Strands.{Added}
use Rattle.strand.specs.Trace.{Trace, trace}
use Rattle.strand.proofs.Traces.{strand_at_map}
use Rattle.book.specs.Add.{add_reply, after_add, event_missing, named_event}
use Rattle.book.specs.Entries.{Entries, with_strands}
use Rattle.book.specs.Names.{EventNamed}

module _ (e : Entries) (strand sign way message : ℕ) where
  -- arguments that name no event
  pub add_refused : (q : Refusal) → EventNamed e.messages sign way message (Err q) → add_reply e strand sign way message ≡ Err (row q)
  add_refused q (inl (three, unlisted)) =
      let t : is_sign sign ≡ false = lt-leb _ _ unlisted in
      (simp t) ∙ ap {B = Result ℕ ℕ} Err (sym three)
  add_refused q (inr (four, listed, where_missing)) =
      let t : is_sign sign ≡ true = le-leb _ _ listed in
      let u : event_missing e strand way message ≡ true = or_right _ _ (missing where_missing) in
      (simp (t, u)) ∙ ap {B = Result ℕ ℕ} Err (sym four)
    where
      missing : (64 < way) ⊎ (length e.messages ≤ message) → (not (there e.messages message) || ltb 64 way) ≡ true
      missing (inl l) = or_right _ _ (lt-ltb _ _ l)
      missing (inr l) = let v : there e.messages message ≡ false = le-ltb _ _ l in simp v

  module _ (ss after : List (List (Event ℕ))) (is : e.strands ≡ map (trace e.messages) ss) (x : Event ℕ) (named : EventNamed e.messages sign way message (Ok x)) where
    count : length e.strands ≡ length ss
    count = ap length is ∙ length-map ss (trace e.messages)

    events : strand_at e.strands strand ≡ trace e.messages (strand_at ss strand)
    events = ap (λ (ts : List Trace). strand_at ts strand) is ∙ strand_at_map (meant e.messages) ss strand

    events_count : length (strand_at e.strands strand) ≡ length (strand_at ss strand)
    events_count = ap length events ∙ length-map (strand_at ss strand) (meant e.messages)

    means : meant e.messages x ≡ named_event e sign way message
    means = ap (meant e.messages) named.3

    -- the arguments pass row 3, and row 4 if the strand is there
    listed : is_sign sign ≡ true
    listed = le-leb _ _ named.0

    present : strand < length ss → event_missing e strand way message ≡ false
    present l =
        let t : ltb strand (length e.strands) ≡ true = lt-ltb _ _ (omega (arith, count)) in
        let u : there e.messages message ≡ true = lt-ltb _ _ named.2 in
        let v : ltb 64 way ≡ false = le-ltb _ _ named.1 in
        simp (t, u, v)

    absent : length ss ≤ strand → event_missing e strand way message ≡ true
    absent l = let t : ltb strand (length e.strands) ≡ false = le-ltb _ _ (omega (arith, count)) in simp t

    room : length (strand_at ss strand) < 16 → leb 16 (length (strand_at e.strands strand)) ≡ false
    room l = lt-leb _ _ (omega (arith, events_count))

    full : 16 ≤ length (strand_at ss strand) → leb 16 (length (strand_at e.strands strand)) ≡ true
    full l = le-leb _ _ (omega (arith, events_count))

    pub add_replied : (r : Result ℕ Refusal) → Added ss strand x r after → by_row r ≡ add_reply e strand sign way message
    add_replied (Ok i) (there, index, few, now) =
        ap {B = Result ℕ ℕ} Ok (index ∙ sym events_count) ∙ sym (simp (listed, present there, room few))
    add_replied (Err q) (inl (four, missing), now) = ap {B = Result ℕ ℕ} Err four ∙ sym (simp (listed, absent missing))
    add_replied (Err q) (inr (eight, there, many), now) =
        ap {B = Result ℕ ℕ} Err eight ∙ sym (simp (listed, present there, full many))

    unchanged : after ≡ ss → with_strands e (map (trace e.messages) after) ≡ e
    unchanged now = ap (with_strands e) (ap (map (trace e.messages)) now ∙ sym is)

    pub add_stands : (r : Result ℕ Refusal) → Added ss strand x r after →
        with_strands e (map (trace e.messages) after) ≡ after_add e strand sign way message
    add_stands (Ok i) (there, index, few, now) =
        ap (with_strands e) (ap (map (trace e.messages)) now ∙ (map-set (trace e.messages) ss strand (strand_at ss strand ++ x ∷ [])
        ∙ ap₂ (λ (ts : List Trace) (t : Trace). set ts strand t) (sym is)
        (map_push (meant e.messages) (strand_at ss strand) x ∙ ap₂ (λ (t : Trace) (y : Event Message). t ++ y ∷ []) (sym events) means)))
        ∙ sym (simp (listed, present there, room few))
    add_stands (Err q) (inl (four, missing), now) = unchanged now ∙ sym (simp (listed, absent missing))
    add_stands (Err q) (inr (eight, there, many), now) = unchanged now ∙ sym (simp (listed, present there, full many))
