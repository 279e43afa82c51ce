-- The calls of a book: what each answers, and what stands after it, from what stood before and its arguments alone.
use Rattle.std.specs.Prelude.{◌≡◌, ℕ, Result}
use Rattle.refusal.specs.declared.Refusal.{Refusal}
use Rattle.refusal.specs.Rows.{by_row}
use Rattle.message.specs.Enter.{after_enter, enter_reply}
use Rattle.strand.specs.Node.{Node}
use Rattle.book.specs.Entries.{Entries, with_messages}
use Rattle.book.specs.Open.{after_open, open_reply}
use Rattle.book.specs.Add.{add_reply, after_add}
use Rattle.book.specs.Draw.{after_draw, draw_reply}
use Rattle.book.specs.Strike.{after_strike, strike_reply}
use Rattle.book.specs.Assume.{after_assume, assume_reply}
use Rattle.book.specs.Release.{after_release, release_reply}

-- a call with its arguments
pub data Call : Type 0 where
  Enter : (form x y : ℕ) → Call
  Open : Call
  Add : (strand sign way message : ℕ) → Call
  Draw : (from to : Node) → Call
  Strike : (from to : Node) → Call
  Assume : (kind value : ℕ) (origin : Node) → Call
  Release : (kind value : ℕ) (origin : Node) → Call

-- what a call replies with: a number or a refusal
abbrev pub Reply : Call → Type 0
Reply (Enter form x y) = Result ℕ Refusal
Reply Open = Result ℕ Refusal
Reply (Add strand sign way message) = Result ℕ Refusal
Reply (Draw from to) = Result ℕ Refusal
Reply (Strike from to) = Result ℕ Refusal
Reply (Assume kind value origin) = Result ℕ Refusal
Reply (Release kind value origin) = Result ℕ Refusal

-- what stands after a call
abbrev pub after : Entries → Call → Entries
after e (Enter form x y) = with_messages e (after_enter e.messages form x y)
after e Open = after_open e
after e (Add strand sign way message) = after_add e strand sign way message
after e (Draw from to) = after_draw e from to
after e (Strike from to) = after_strike e from to
after e (Assume kind value origin) = after_assume e kind value origin
after e (Release kind value origin) = after_release e kind value origin

-- the reply is the defined one for what stands
abbrev pub Defined : Entries → (c : Call) → Reply c → Type 0
Defined e (Enter form x y) r = by_row r ≡ enter_reply e.messages form x y
Defined e Open r = by_row r ≡ open_reply e
Defined e (Add strand sign way message) r = by_row r ≡ add_reply e strand sign way message
Defined e (Draw from to) r = by_row r ≡ draw_reply e from to
Defined e (Strike from to) r = by_row r ≡ strike_reply e from to
Defined e (Assume kind value origin) r = by_row r ≡ assume_reply e kind value origin
Defined e (Release kind value origin) r = by_row r ≡ release_reply e kind value origin
