-- Opening a strand and adding an event keep the numbers in strands within those of the messages.
use Rattle.std.proofs.Common.{ℕ, ◌<◌, List, [], ◌∷◌, ◌++◌, length, set, Ok, Err, Result}
use Rattle.std.proofs.lemmas.List.Elements.{All-get_or, All-nil, All-push, All-same, All-set}
use Rattle.refusal.specs.declared.Refusal.{Refusal}
use Rattle.message.specs.Message.{Message}
use Rattle.strand.specs.declared.event.Event.{Event}
use Rattle.strand.specs.Node.{strand_at}
use Rattle.strand.specs.Strands.{Added, Opened}
use Rattle.strand.specs.Trace.{Within}
use Rattle.book.specs.Within.{EventsWithin}

module _ (ms : List Message) (ss after : List (List (Event ℕ))) (within : EventsWithin ms ss) where
  pub within_opened : (r : Result ℕ Refusal) → Opened ss r after → EventsWithin ms after
  within_opened (Ok n) (number, few, now) =
      All-same (Within ms) after (ss ++ [] ∷ []) now (All-push (Within ms) ss [] within (All-nil (λ e. e.message < length ms)))
  within_opened (Err q) (eight, many, now) = All-same (Within ms) after ss now within

  pub within_added : (strand : ℕ) (x : Event ℕ) → x.message < length ms → (r : Result ℕ Refusal) → Added ss strand x r after → EventsWithin ms after
  within_added strand x h (Ok i) (there, index, few, now) =
      All-same (Within ms) after (set ss strand (strand_at ss strand ++ x ∷ [])) now (All-set (Within ms) ss strand (strand_at ss strand ++ x ∷ []) longer within)
    where
      longer : Within ms (strand_at ss strand ++ x ∷ [])
      longer =
          All-push (λ e. e.message < length ms) (strand_at ss strand) x (All-get_or (Within ms) ss strand [] there within) h
  within_added strand x h (Err q) (row, now) = All-same (Within ms) after ss now within
