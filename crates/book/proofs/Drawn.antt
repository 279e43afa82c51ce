-- `draw` and `strike`: what the list of arrows answers and leaves is what the book does.
use Rattle.std.proofs.Common.{◌≡◌, ℕ, ◌<◌, ◌≤◌, true, false, ◌⊎◌, List, [], ◌∷◌, ◌++◌, length, Ok, Err, Result, sym, refl, subst}
use Rattle.std.specs.List.{remove}
use Rattle.std.proofs.lemmas.List.{get_or_append_left, get_or_push, length_push}
use Rattle.std.proofs.lemmas.List.Sums.{fails_before_first}
use Rattle.std.proofs.lemmas.List.Quantifiers.{all_pairs_remove}
use Rattle.refusal.specs.declared.Refusal.{Refusal}
use Rattle.refusal.specs.declared.Refusal.TheVariants.{NotThere}
use Rattle.refusal.specs.Rows.{row}
use Rattle.listing.specs.Place.{Once, place}
use Rattle.strand.specs.Node.{Node, is_node}
use Rattle.strand.specs.Strands.{strands_of}
use Rattle.listing.specs.Held.{entries_of, memory_of}
use Rattle.listing.specs.Listing.{Appended, Removed}
use Rattle.bundle.specs.declared.arrow.Arrow.{Arrow}
use Rattle.bundle.specs.Arrow.{same_arrow}
use Rattle.book.specs.declared.book.Book.{Book}
use Rattle.book.specs.Calls.{Draw, Strike}
use Rattle.book.specs.Draw.{arrow}
use Rattle.book.specs.Held.{Answered, entries}
use Rattle.book.proofs.Changing.{stays}
use Rattle.book.proofs.Drawing.{draw_does, draw_refused, strike_does, strike_refused}
use Rattle.book.proofs.Records.{answered}

-- one of the nodes is not there
module _ (b : Book) (from to : Node) (missing : (is_node (strands_of b.strands) from ≡ false) ⊎ (is_node (strands_of b.strands) to ≡ false)) where
  pub draw_unjoined : Answered b (Draw from to) (Err NotThere) b
  draw_unjoined =
      let d = draw_refused (entries b) (strands_of b.strands) refl from to missing in
      answered (record { reply = sym d; holds = stays _ (entries b) _ d; memory = refl })

  pub strike_unjoined : Answered b (Strike from to) (Err NotThere) b
  strike_unjoined =
      let d = strike_refused (entries b) (strands_of b.strands) refl from to missing in
      answered (record { reply = sym d; holds = stays _ (entries b) _ d; memory = refl })

-- both are, and only the list of arrows changes
module _ (b b' : Book) (from to : Node) (first : is_node (strands_of b.strands) from ≡ true) (second : is_node (strands_of b.strands) to ≡ true)
    (kept : memory_of b'.arrows ≡ memory_of b.arrows) (messages : b'.messages ≡ b.messages) (strands : b'.strands ≡ b.strands)
    (assumptions : b'.assumptions ≡ b.assumptions) where
  abbrev xs : List Arrow
  xs = entries_of b.arrows

  abbrev at : ℕ
  at = place same_arrow (arrow from to) xs

  appended : (r : Result ℕ Refusal) → Appended same_arrow 1024 xs (arrow from to) r (entries_of b'.arrows) → Answered b (Draw from to) r b'
  appended r d =
      let s = draw_does (entries b) (strands_of b.strands) refl from to (first, second, refl) _ r d in
      answered (record {
        reply = s.0;
        holds = simp (messages, strands, assumptions) s.1;
        memory = simp (messages, strands, assumptions, kept);
      })

  removed : (r : Result ℕ Refusal) → Removed same_arrow xs (arrow from to) r (entries_of b'.arrows) → Answered b (Strike from to) r b'
  removed r d =
      let s = strike_does (entries b) (strands_of b.strands) refl from to (first, second, refl) _ r d in
      answered (record {
        reply = s.0;
        holds = simp (messages, strands, assumptions) s.1;
        memory = simp (messages, strands, assumptions, kept);
      })

  pub drawn : (k : ℕ) → length xs ≤ at → k ≡ length xs → length xs < 1024 → entries_of b'.arrows ≡ xs ++ arrow from to ∷ [] → Answered b (Draw from to) (Ok k) b'
  drawn k absent end few now = appended (Ok k) (absent, end, few, now)

  pub struck : (k : ℕ) → k ≡ at → k < length xs → entries_of b'.arrows ≡ remove xs k → Answered b (Strike from to) (Ok k) b'
  struck k here old now = removed (Ok k) ((here, old), now)

  module _ (r : Result ℕ Refusal) (q : Refusal) (is : r ≡ Err q) (same : entries_of b'.arrows ≡ xs) where
    pub not_drawn : ((row q ≡ 6) × (at < length xs)) ⊎ ((row q ≡ 8) × (length xs ≤ at) × (1024 ≤ length xs)) → Answered b (Draw from to) r b'
    not_drawn why = subst (λ (p : Result ℕ Refusal). Answered b (Draw from to) p b') (sym is) (appended (Err q) (why, same))

    pub not_struck : row q ≡ 7 → length xs ≤ at → Answered b (Strike from to) r b'
    not_struck seven absent = subst (λ (p : Result ℕ Refusal). Answered b (Strike from to) p b') (sym is) (removed (Err q) (seven, absent, same))

-- no arrow stands twice where one is taken out
pub once_struck : (xs : List Arrow) (k : ℕ) → k < length xs → Once same_arrow xs → Once same_arrow (remove xs k)
once_struck xs k h once = all_pairs_remove (λ x y. same_arrow x y ≡ false) xs k h once

-- what the checks of `draw` and `strike` take: also that no arrow then stands twice
pub ruleset drawing = (draw_unjoined, drawn, not_drawn, fails_before_first, get_or_append_left, get_or_push, length_push)

pub ruleset striking = (strike_unjoined, struck, not_struck, once_struck)
