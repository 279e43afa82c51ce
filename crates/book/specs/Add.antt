-- `add`: what it answers, and what stands after it.
use Rattle.std.specs.Prelude.{ℕ, Bool, not, ◌||◌, List, [], ◌∷◌, ◌++◌, length, Result, nat_le, nat_lt, slice_set}
use Rattle.refusal.specs.Rows.{Rule, first_row, unless_refused}
use Rattle.message.specs.Message.{Message}
use Rattle.message.specs.Meaning.{at}
use Rattle.message.specs.Enter.{there}
use Rattle.strand.specs.declared.event.Event.{Event}
use Rattle.strand.specs.Event.{channel_limit, is_sign, sign_at, way_at}
use Rattle.strand.specs.Node.{event_limit, strand_at}
use Rattle.book.specs.Entries.{Entries, with_strands}

-- the event that a sign, a way and a message name by their numbers
abbrev pub named_event : Entries → ℕ → ℕ → ℕ → Event Message
named_event e sign way message = record { sign = sign_at sign; way = way_at way; message = at e.messages message }

-- a strand or a message that is not there, or a number over those of the channels
abbrev pub event_missing : Entries → ℕ → ℕ → ℕ → Bool
event_missing e strand way message = not (nat_lt strand (length e.strands)) || (not (there e.messages message) || nat_lt channel_limit way)

-- the rows that can fit, lowest first: no sign's number; something that is not there; a strand with as many events as it can
-- have
abbrev pub add_rules : Entries → ℕ → ℕ → ℕ → ℕ → List Rule
add_rules e strand sign way message =
    (3, not (is_sign sign)) ∷ (4, event_missing e strand way message) ∷ (8, nat_le event_limit (length (strand_at e.strands strand))) ∷ []

-- the event's index
abbrev pub add_reply : Entries → ℕ → ℕ → ℕ → ℕ → Result ℕ ℕ
add_reply e strand sign way message = first_row (add_rules e strand sign way message) (length (strand_at e.strands strand))

-- the event comes last on its strand
abbrev pub after_add : Entries → ℕ → ℕ → ℕ → ℕ → Entries
after_add e strand sign way message =
    unless_refused (add_reply e strand sign way message)
    (with_strands e (slice_set e.strands strand (strand_at e.strands strand ++ named_event e sign way message ∷ [])))
    e
