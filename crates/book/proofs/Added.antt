-- `add`: what the strands answer and leave is what the book does.
use Rattle.std.proofs.Common.{◌≡◌, ℕ, ◌<◌, ◌≤◌, ◌⊎◌, List, [], ◌∷◌, ◌++◌, length, set, Ok, Err, Result, sym, refl, ap, ◌∙◌, subst}
use Rattle.refusal.specs.declared.Refusal.{Refusal}
use Rattle.refusal.specs.Rows.{by_row, row}
use Rattle.message.specs.Table.{messages_of}
use Rattle.strand.specs.declared.event.Event.{Event}
use Rattle.strand.specs.Node.{strand_at}
use Rattle.strand.specs.Event.{sign_at, way_at}
use Rattle.strand.specs.Strands.{Added, memory_of, strands_of}
use Rattle.book.specs.declared.book.Book.{Book}
use Rattle.book.specs.Calls.{Add}
use Rattle.book.specs.Held.{Answered, entries}
use Rattle.book.proofs.Adding.{add_refused, add_replied, add_stands}
use Rattle.book.proofs.Changing.{stays}
use Rattle.book.proofs.Kept.{within_added}
use Rattle.book.proofs.Records.{answered}

-- the arguments name no event
pub unnamed : (b : Book) (strand sign way message : ℕ) (r : Result ℕ Refusal) (q : Refusal) → r ≡ Err q →
    (((row q ≡ 3) × (1 < sign)) ⊎ ((row q ≡ 4) × (sign ≤ 1) × ((64 < way) ⊎ (length (messages_of b.messages) ≤ message)))) →
    Answered b (Add strand sign way message) r b
unnamed b strand sign way message r q is refused =
    let d = add_refused (entries b) strand sign way message q refused in
    answered (record { reply = ap by_row is ∙ sym d; holds = stays _ (entries b) _ d; memory = refl })

-- they name one, and only the strands change
module _ (b b' : Book) (strand sign way message : ℕ) (x : Event ℕ) (r : Result ℕ Refusal) (listed : sign ≤ 1) (channel : way ≤ 64)
    (stands : message < length (messages_of b.messages)) (names : x ≡ record { sign = sign_at sign; way = way_at way; message = message })
    (kept : memory_of b'.strands ≡ memory_of b.strands) (messages : b'.messages ≡ b.messages)
    (arrows : b'.arrows ≡ b.arrows) (assumptions : b'.assumptions ≡ b.assumptions) where
  abbrev ss : List (List (Event ℕ))
  ss = strands_of b.strands

  either : (q : Result ℕ Refusal) → r ≡ q → Added ss strand x q (strands_of b'.strands) → Answered b (Add strand sign way message) r b'
  either q is d =
      subst (λ (p : Result ℕ Refusal). Answered b (Add strand sign way message) p b') (sym is)
      (answered (record {
        reply = add_replied (entries b) strand sign way message ss _ refl x (listed, channel, stands, names) q d;
        holds = simp (messages, arrows, assumptions) (add_stands (entries b) strand sign way message ss _ refl x (listed, channel, stands, names) q d);
        memory = simp (messages, arrows, assumptions, kept);
      }))

  pub added : (i : ℕ) → r ≡ Ok i → strand < length ss → i ≡ length (strand_at ss strand) → length (strand_at ss strand) < 16 →
      strands_of b'.strands ≡ set ss strand (strand_at ss strand ++ x ∷ []) → Answered b (Add strand sign way message) r b'
  added i is there index few now = either (Ok i) is (there, index, few, now)

  pub not_added : (q : Refusal) → r ≡ Err q →
      (((row q ≡ 4) × (length ss ≤ strand)) ⊎ ((row q ≡ 8) × (strand < length ss) × (16 ≤ length (strand_at ss strand)))) →
      strands_of b'.strands ≡ ss → Answered b (Add strand sign way message) r b'
  not_added q is why now = either (Err q) is (why, now)

-- what the check of `add` takes
pub ruleset adding = (unnamed, added, not_added, within_added)
