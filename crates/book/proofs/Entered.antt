-- `enter`: what the table of messages answers and leaves is what the book does.
use Rattle.std.proofs.Common.{◌≡◌, ℕ, ◌<◌, ◌≤◌, List, length, Result, ap, ap₂, ◌∙◌, arith}
use Rattle.refusal.specs.declared.Refusal.{Refusal}
use Rattle.refusal.specs.Rows.{by_row}
use Rattle.message.specs.Enter.{after_enter, enter_reply}
use Rattle.message.specs.Message.{Message}
use Rattle.message.specs.Table.{memory_of, messages_of}
use Rattle.message.specs.Meaning.{at}
use Rattle.strand.specs.Strands.{strands_of}
use Rattle.strand.specs.Trace.{Trace}
use Rattle.listing.specs.Held.{entries_of}
use Rattle.assumption.specs.declared.assumption.Assumption.{Assumption}
use Rattle.book.specs.declared.book.Book.{Book}
use Rattle.book.specs.Calls.{Enter}
use Rattle.book.specs.Entries.{with_messages}
use Rattle.book.specs.Held.{Answered, entries}
use Rattle.book.proofs.Entering.{assumptions_grown, grows, traces_grown}
use Rattle.book.proofs.Records.{answered}

pub entered : (b b' : Book) (form x y : ℕ) (r : Result ℕ Refusal) → by_row r ≡ enter_reply (messages_of b.messages) form x y →
    messages_of b'.messages ≡ after_enter (messages_of b.messages) form x y → ((k : ℕ) → k < length (messages_of b.messages) → at (messages_of b'.messages) k ≡ at (messages_of b.messages) k) →
    memory_of b'.messages ≡ memory_of b.messages → b'.strands ≡ b.strands → b'.arrows ≡ b.arrows → b'.assumptions ≡ b.assumptions →
    Answered b (Enter form x y) r b'
entered b b' form x y r reply now kept room strands arrows assumptions =
    let e = entries b in
    let ms = messages_of b'.messages in
    answered (record {
      reply = reply;
      holds =
          simp (strands, arrows, assumptions)
          (ap₂ (λ (ts : List Trace) (xs : List (Assumption Message)). record { messages = ms; strands = ts; arrows = e.arrows; assumptions = xs })
          (traces_grown e.messages ms kept (strands_of b.strands) b.events_within)
          (assumptions_grown e.messages ms kept (entries_of b.assumptions) b.values_within)
          ∙ ap (with_messages e) now);
      memory = simp (strands, arrows, assumptions, room);
    })

-- no table becomes shorter
module _ (ms after : List Message) (form x y : ℕ) (now : after ≡ after_enter ms form x y) where
  pub more : length ms ≤ length after
  more = let g = grows ms form x y in omega (arith, ap length now)

-- what the check of `enter` takes
pub ruleset entering = (entered, more)
