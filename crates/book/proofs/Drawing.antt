-- `draw` and `strike` on the list of arrows are those on what stands.
use Rattle.std.proofs.Common.{◌≡◌, ℕ, Bool, true, false, not, ◌||◌, List, map, Some, None, Err, Result, sym, refl, ap, ◌∙◌, inl, inr}
use Rattle.refusal.specs.declared.Refusal.{Refusal}
use Rattle.refusal.specs.Rows.{by_row}
use Rattle.listing.specs.Listing.{Appended, Removed}
use Rattle.listing.proofs.Replies.{append_leaves, append_replied, remove_leaves, remove_replied}
use Rattle.strand.specs.declared.event.Event.{Event}
use Rattle.strand.specs.Event.{meant}
use Rattle.strand.specs.Node.{Node, is_node}
use Rattle.strand.specs.Trace.{Trace, trace}
use Rattle.strand.proofs.Traces.{is_node_map}
use Rattle.bundle.specs.declared.arrow.Arrow.{Arrow}
use Rattle.bundle.specs.Arrow.{same_arrow}
use Rattle.book.specs.Draw.{after_draw, arrow, draw_reply, node_missing}
use Rattle.book.specs.Strike.{after_strike, strike_reply}
use Rattle.book.specs.Entries.{Entries, with_arrows}
use Rattle.book.specs.Names.{ArrowNamed}
use Rattle.book.proofs.Changing.{changed}

module _ (e : Entries) (ss : List (List (Event ℕ))) (is : e.strands ≡ map (trace e.messages) ss) (from to : Node) where
  there : (n : Node) → is_node e.strands n ≡ is_node ss n
  there n = ap (λ (ts : List Trace). is_node ts n) is ∙ is_node_map (meant e.messages) ss n

  missing : ArrowNamed ss from to None → node_missing e.strands from to ≡ true
  missing (inl gone) = let t = there from ∙ gone in simp t
  missing (inr gone) = let t = there to ∙ gone in go (is_node e.strands from) t
    where
      go : (b : Bool) → is_node e.strands to ≡ false → (not b || not (is_node e.strands to)) ≡ true
      go true t = simp t
      go false t = refl

  -- one of the nodes is not there
  pub draw_refused : ArrowNamed ss from to None → draw_reply e from to ≡ Err 4
  draw_refused m = let t = missing m in simp t

  pub strike_refused : ArrowNamed ss from to None → strike_reply e from to ≡ Err 4
  strike_refused m = let t = missing m in simp t

  -- both are
  module _ (named : ArrowNamed ss from to (Some (arrow from to))) (after : List Arrow) (r : Result ℕ Refusal) where
    present : node_missing e.strands from to ≡ false
    present = let t = there from ∙ named.0 in let u = there to ∙ named.1 in simp (t, u)

    draw_replied : Appended same_arrow 1024 e.arrows (arrow from to) r after → by_row r ≡ draw_reply e from to
    draw_replied d = append_replied same_arrow 1024 e.arrows (arrow from to) after r d ∙ sym (simp present)

    draw_stands : Appended same_arrow 1024 e.arrows (arrow from to) r after → with_arrows e after ≡ after_draw e from to
    draw_stands d =
        changed (with_arrows e) _ _ _ (append_leaves same_arrow 1024 e.arrows (arrow from to) after r d) (draw_replied d)

    strike_replied : Removed same_arrow e.arrows (arrow from to) r after → by_row r ≡ strike_reply e from to
    strike_replied d = remove_replied same_arrow 1024 e.arrows (arrow from to) after r d ∙ sym (simp present)

    strike_stands : Removed same_arrow e.arrows (arrow from to) r after → with_arrows e after ≡ after_strike e from to
    strike_stands d =
        changed (with_arrows e) _ _ _ (remove_leaves same_arrow 1024 e.arrows (arrow from to) after r d) (strike_replied d)

    -- the reply, and what then stands
    pub draw_does : Appended same_arrow 1024 e.arrows (arrow from to) r after →
        (by_row r ≡ draw_reply e from to) × (with_arrows e after ≡ after_draw e from to)
    draw_does d = (draw_replied d, draw_stands d)

    pub strike_does : Removed same_arrow e.arrows (arrow from to) r after →
        (by_row r ≡ strike_reply e from to) × (with_arrows e after ≡ after_strike e from to)
    strike_does d = (strike_replied d, strike_stands d)
