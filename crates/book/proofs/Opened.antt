-- `open`: what the strands answer and leave is what the book does.
use Rattle.std.proofs.Common.{◌≡◌, ℕ, ◌<◌, ◌≤◌, List, [], ◌∷◌, ◌++◌, length, Ok, Err, Result, sym, refl, subst}
use Rattle.refusal.specs.declared.Refusal.{Refusal}
use Rattle.refusal.specs.Rows.{row}
use Rattle.strand.specs.declared.event.Event.{Event}
use Rattle.strand.specs.Strands.{Opened, memory_of, strands_of}
use Rattle.book.specs.declared.book.Book.{Book}
use Rattle.book.specs.Calls.{Open}
use Rattle.book.specs.Held.{Answered, entries}
use Rattle.book.proofs.Kept.{within_opened}
use Rattle.book.proofs.Opening.{open_replied, open_stands}
use Rattle.book.proofs.Records.{answered}

-- only the strands change
module _ (b b' : Book) (r : Result ℕ Refusal) (kept : memory_of b'.strands ≡ memory_of b.strands) (messages : b'.messages ≡ b.messages)
    (arrows : b'.arrows ≡ b.arrows) (assumptions : b'.assumptions ≡ b.assumptions) where
  abbrev ss : List (List (Event ℕ))
  ss = strands_of b.strands

  either : (q : Result ℕ Refusal) → r ≡ q → Opened ss q (strands_of b'.strands) → Answered b Open r b'
  either q is d =
      subst (λ (p : Result ℕ Refusal). Answered b Open p b') (sym is)
      (answered (record {
        reply = open_replied (entries b) ss _ refl q d;
        holds = simp (messages, arrows, assumptions) (open_stands (entries b) ss _ refl q d);
        memory = simp (messages, arrows, assumptions, kept);
      }))

  pub opened : (n : ℕ) → r ≡ Ok n → n ≡ length ss → length ss < 64 → strands_of b'.strands ≡ ss ++ [] ∷ [] → Answered b Open r b'
  opened n is number few now = either (Ok n) is (number, few, now)

  pub not_opened : (q : Refusal) → r ≡ Err q → row q ≡ 8 → 64 ≤ length ss → strands_of b'.strands ≡ ss → Answered b Open r b'
  not_opened q is eight many now = either (Err q) is (eight, many, now)

-- what the check of `open` takes
pub ruleset opening = (opened, not_opened, within_opened)
