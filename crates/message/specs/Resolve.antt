-- The steps of `enter`, as its private functions hand them on. No public contract rests on this file.
use Rattle.std.specs.Prelude.{◌≡◌, ℕ, ◌<◌, ◌≤◌, true, List, [], ◌∷◌, length, IfOk, Some, None, Ok, Err, Option, Result, ◌≢◌}
use Rattle.refusal.specs.declared.Refusal.{Refusal}
use Rattle.refusal.specs.Rows.{by_row, first_row, row, unless_refused}
use Rattle.message.specs.declared.stored.Entry.{Entry}
use Rattle.message.specs.Message.{Message, size, size_limit, well_sorted}
use Rattle.message.specs.Meaning.{WellSorted, at, reach, value}
use Rattle.message.specs.Enter.{enter_reply, full, named, number_of, with_message}

-- the reply to a call that names the message m, where no row above that of a full table applies
abbrev pub admit_reply : List Message → Message → Result ℕ ℕ
admit_reply ms m = first_row ((8, full ms m) ∷ []) (number_of ms m)

-- an entry that may be put at the end of the table, or stands in it
pub record Fits (ms : List Message) (e : Entry) : Type 0 where
  pub older : reach e.stored ≤ length ms
  pub sized : e.size ≡ size (value ms e.stored)
  pub small : e.size ≤ size_limit
  pub sorted : WellSorted ms → well_sorted (value ms e.stored) ≡ true

-- the entry is that of the message named, and only the row of a full table can still apply
pub record Names (ms : List Message) (form x y : ℕ) (e : Entry) : Type 0 where
  pub fits : Fits ms e
  pub means : value ms e.stored ≡ named ms form x y
  pub passes : enter_reply ms form x y ≡ admit_reply ms (named ms form x y)

-- what the arguments come to: an entry, or the row that is the reply
abbrev pub Resolves : List Message → ℕ → ℕ → ℕ → Result Entry Refusal → Type 0
Resolves ms form x y (Ok e) = Names ms form x y e
Resolves ms form x y (Err q) = enter_reply ms form x y ≡ Err (row q)

-- what admitting a message answers, and what the table then holds
pub record Admitted (ms : List Message) (m : Message) (r : Result ℕ Refusal) (after : List Message) : Type 0 where
  pub reply : by_row r ≡ admit_reply ms m
  pub stands_after : after ≡ unless_refused (admit_reply ms m) (with_message ms m) ms
  pub number : IfOk r (λ n. (n < length after) × (at after n ≡ m))
  pub kept : (k : ℕ) → k < length ms → at after k ≡ at ms k

-- what a search of the table for a message finds: its number, which is then what admitting it answers, or that it is new
abbrev pub Found : List Message → Message → Option ℕ → Type 0
Found ms m (Some n) = Admitted ms m (Ok n) ms
Found ms m None = (k : ℕ) → k < length ms → at ms k ≢ m
