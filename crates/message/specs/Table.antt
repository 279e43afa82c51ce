-- A table of messages by what it holds.
use Rattle.std.specs.Prelude.{◌≡◌, ℕ, ◌<◌, ◌≤◌, true, ◌↔◌, List, [], length}
use Rattle.listing.specs.Held.{entries_of as held, memory_of as room}
use Rattle.message.specs.declared.stored.Entry.{Entry}
use Rattle.message.specs.declared.stored.Stored.{Stored}
use Rattle.message.specs.declared.table.Messages.{Messages}
use Rattle.message.specs.Carrying.{Carrying}
use Rattle.message.specs.Meaning.{Distinct, Small, WellSorted, at, meanings, reach, value}
use Rattle.message.specs.Message.{Message, message_limit, size, size_limit}
use Rattle.message.specs.Terms.{Algebra, Term, ◌≈◌, formed, normal}

-- the entries by number
abbrev pub entries_of : Messages → List Entry
entries_of t = held t.entries

-- the messages by number
abbrev pub messages_of : Messages → List Message
messages_of t = meanings (entries_of t)

-- how many messages there is memory for (that a call leaves it as it was is a fact of two values, which no field can state)
abbrev pub memory_of : Messages → ℕ
memory_of t = room t.entries

-- what holds of the messages of every table
pub record Numbered (ms : List Message) : Type 0 where
  pub few : length ms ≤ message_limit
  -- no message has two numbers
  pub once : Distinct ms
  pub small : Small ms
  pub sorted : WellSorted ms

-- in every table two numbers are equal exactly when the terms that they stand for are equal in the algebra
abbrev pub NumbersAgree : Type 0
NumbersAgree = (t : Messages) (i j : ℕ) (a b : Term) → (i < length (messages_of t)) → (j < length (messages_of t)) →
    formed a ≡ true → formed b ≡ true → normal a ≡ at (messages_of t) i → normal b ≡ at (messages_of t) j → (i ≡ j) ↔ (a ≈ b)

-- a new table, and the algebra that its messages will be of
pub record Begins (t : Messages) : Type 0 where
  pub empty : messages_of t ≡ []
  pub algebra : Algebra
  pub carrying : Carrying
  pub numbers : NumbersAgree

-- what is stored under the number n: it means that message, and the parts of a compound have smaller numbers
pub record Stands (ms : List Message) (n : ℕ) (s : Stored) : Type 0 where
  pub there : n < length ms
  pub means : value ms s ≡ at ms n
  pub older : reach s ≤ n

-- k is the size of the message with the number n
pub record Sizes (ms : List Message) (n k : ℕ) : Type 0 where
  pub there : n < length ms
  pub is : k ≡ size (at ms n)

-- the entry with the number n
pub record Holds (ms : List Message) (n : ℕ) (e : Entry) : Type 0 where
  pub stands : Stands ms n e.stored
  pub sizes : Sizes ms n e.size
  pub small : e.size ≤ size_limit
