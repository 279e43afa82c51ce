-- `assume` and `release`: what the list of assumptions answers and leaves is what the book does.
use Rattle.std.proofs.Common.{◌≡◌, ℕ, ◌<◌, ◌≤◌, ◌⊎◌, List, [], ◌∷◌, ◌++◌, length, nat_eq, Ok, Err, Result, sym, refl, ap, ◌∙◌, subst}
use Rattle.std.specs.List.{remove}
use Rattle.std.proofs.lemmas.List.{get_or_append_left, get_or_push, length_push}
use Rattle.std.proofs.lemmas.List.Sums.{fails_before_first}
use Rattle.std.proofs.lemmas.List.Edits.{get_or-remove_above, get_or-remove_below, length-remove}
use Rattle.refusal.specs.declared.Refusal.{Refusal}
use Rattle.refusal.specs.Rows.{by_row, row}
use Rattle.listing.specs.Place.{place}
use Rattle.message.specs.Table.{messages_of}
use Rattle.strand.specs.Node.{Node}
use Rattle.strand.specs.Strands.{strands_of}
use Rattle.listing.specs.Held.{entries_of, memory_of}
use Rattle.listing.specs.Listing.{Appended, Removed}
use Rattle.assumption.specs.declared.assumption.Assumption.{Assumption}
use Rattle.assumption.specs.Assumption.{same_by, supposed, value_reach}
use Rattle.book.specs.declared.book.Book.{Book}
use Rattle.book.specs.Assume.{named_assumption}
use Rattle.book.specs.Calls.{Assume, Release}
use Rattle.book.specs.Held.{Answered, entries}
use Rattle.book.specs.Names.{arguments_reply}
use Rattle.book.proofs.Assuming.{assume_does, assume_refused, release_does, release_refused}
use Rattle.book.proofs.Changing.{stays}
use Rattle.book.proofs.Records.{answered}

-- the arguments name no assumption
module _ (b : Book) (kind value : ℕ) (origin : Node) (r : Result ℕ Refusal) (q : Refusal) (is : r ≡ Err q)
    (refused : arguments_reply (messages_of b.messages) (strands_of b.strands) kind value origin ≡ Err (row q)) where
  pub assume_unnamed : Answered b (Assume kind value origin) r b
  assume_unnamed =
      let d = assume_refused (entries b) (strands_of b.strands) refl kind value origin q refused in
      answered (record { reply = ap by_row is ∙ sym d; holds = stays _ (entries b) _ d; memory = refl })

  pub release_unnamed : Answered b (Release kind value origin) r b
  release_unnamed =
      let d = release_refused (entries b) (strands_of b.strands) refl kind value origin q refused in
      answered (record { reply = ap by_row is ∙ sym d; holds = stays _ (entries b) _ d; memory = refl })

-- they name one, and only the list of assumptions changes
module _ (b b' : Book) (kind value : ℕ) (origin : Node) (a : Assumption ℕ)
    (passed : arguments_reply (messages_of b.messages) (strands_of b.strands) kind value origin ≡ Ok 0)
    (means : supposed (messages_of b.messages) a ≡ named_assumption (messages_of b.messages) kind value origin)
    (reach : value_reach a ≤ length (messages_of b.messages)) (kept : memory_of b'.assumptions ≡ memory_of b.assumptions)
    (messages : b'.messages ≡ b.messages) (strands : b'.strands ≡ b.strands) (arrows : b'.arrows ≡ b.arrows) where
  abbrev xs : List (Assumption ℕ)
  xs = entries_of b.assumptions

  abbrev at : ℕ
  at = place (same_by nat_eq) a xs

  appended : (r : Result ℕ Refusal) → Appended (same_by nat_eq) 256 xs a r (entries_of b'.assumptions) → Answered b (Assume kind value origin) r b'
  appended r d =
      let s =
      assume_does (entries b) (strands_of b.strands) refl kind value origin
      b.messages.once xs _ b.values_within refl a (passed, means, reach) r d in
      answered (record {
        reply = s.0;
        holds = simp (messages, strands, arrows) s.1;
        memory = simp (messages, strands, arrows, kept);
      })

  removed : (r : Result ℕ Refusal) → Removed (same_by nat_eq) xs a r (entries_of b'.assumptions) → Answered b (Release kind value origin) r b'
  removed r d =
      let s =
      release_does (entries b) (strands_of b.strands) refl kind value origin
      b.messages.once xs _ b.values_within refl a (passed, means, reach) r d in
      answered (record {
        reply = s.0;
        holds = simp (messages, strands, arrows) s.1;
        memory = simp (messages, strands, arrows, kept);
      })

  pub assumed : (k : ℕ) → length xs ≤ at → k ≡ length xs → length xs < 256 → entries_of b'.assumptions ≡ xs ++ a ∷ [] →
      Answered b (Assume kind value origin) (Ok k) b'
  assumed k absent end few now = appended (Ok k) (absent, end, few, now)

  pub released : (k : ℕ) → k ≡ at → k < length xs → entries_of b'.assumptions ≡ remove xs k → Answered b (Release kind value origin) (Ok k) b'
  released k here old now = removed (Ok k) ((here, old), now)

  module _ (r : Result ℕ Refusal) (q : Refusal) (is : r ≡ Err q) (same : entries_of b'.assumptions ≡ xs) where
    pub not_assumed : ((row q ≡ 6) × (at < length xs)) ⊎ ((row q ≡ 8) × (length xs ≤ at) × (256 ≤ length xs)) →
        Answered b (Assume kind value origin) r b'
    not_assumed why =
        subst (λ (p : Result ℕ Refusal). Answered b (Assume kind value origin) p b') (sym is) (appended (Err q) (why, same))

    pub not_released : row q ≡ 7 → length xs ≤ at → Answered b (Release kind value origin) r b'
    not_released seven absent =
        subst (λ (p : Result ℕ Refusal). Answered b (Release kind value origin) p b') (sym is) (removed (Err q) (seven, absent, same))

-- what the checks of `assume` and `release` take: also that then no assumption stands twice, and each is on a message that
-- stands
pub ruleset assuming = (assume_unnamed, assumed, not_assumed, fails_before_first, get_or_append_left, get_or_push, length_push)

pub ruleset releasing = (release_unnamed, released, not_released, get_or-remove_below, get_or-remove_above, length-remove)
