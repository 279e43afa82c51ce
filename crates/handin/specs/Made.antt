-- The calls made on a book.
use Rattle.std.specs.Prelude.{ℕ, Result}
use Rattle.refusal.specs.declared.Refusal.{Refusal}
use Rattle.book.specs.declared.book.Book.{Book}
use Rattle.book.specs.Calls as books
use Rattle.book.specs.Held.{Answered}
use Rattle.handin.specs.declared.call.Call.{Call}
use Rattle.handin.specs.declared.call.Call.TheVariants.{Enter, Open, Add, Draw, Assume, Strike, Release}

-- the call leads from one book to the other, with this reply
abbrev pub Made : Book → Call → Result ℕ Refusal → Book → Type 0
Made b (Enter form x y) r b' = Answered b (books.Enter form x y) r b'
Made b Open r b' = Answered b books.Open r b'
Made b (Add strand sign way message) r b' = Answered b (books.Add strand sign way message) r b'
Made b (Draw from to) r b' = Answered b (books.Draw from to) r b'
Made b (Assume kind value origin) r b' = Answered b (books.Assume kind value origin) r b'
Made b (Strike from to) r b' = Answered b (books.Strike from to) r b'
Made b (Release kind value origin) r b' = Answered b (books.Release kind value origin) r b'
