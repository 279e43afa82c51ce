-- What `enter` answers and what the table then holds, from the messages that stand and the arguments alone.
use Rattle.std.specs.Prelude.{◌≡◌, ℕ, ◌<◌, Bool, cond, not, ◌&&◌, ◌||◌, List, [], ◌∷◌, ◌++◌, length, IfOk, Result, ◌==◌, nat_le, nat_lt}
use Rattle.refusal.specs.declared.Refusal.{Refusal}
use Rattle.refusal.specs.Rows.{Rule, first_row, by_row, unless_refused}
use Rattle.message.specs.declared.stored.Symbol.TheVariants.{AsymmetricKey, SymmetricKey, Datum, Tag}
use Rattle.message.specs.declared.stored.Operation.TheVariants.{Pair, AsymmetricEncryption, SymmetricEncryption}
use Rattle.message.specs.declared.stored.Sort.TheVariants.{Asymmetric, Symmetric}
use Rattle.message.specs.Message.{Message, symbol, compound, inverse, message_limit, of_sort, size, size_limit}
use Rattle.message.specs.Same.{same}
use Rattle.listing.specs.Place.{place}
use Rattle.message.specs.Meaning.{at}

-- the message that the arguments name: x is the number of the symbol itself in forms 1 to 4, and of a message from form 5
-- on (the last case also takes the numbers that are no form's: the rules refuse those before)
abbrev pub named : List Message → ℕ → ℕ → ℕ → Message
named ms form x y =
    cond (form == 1) (symbol AsymmetricKey x)
    (cond (form == 2) (symbol SymmetricKey x)
    (cond (form == 3) (symbol Datum x)
    (cond (form == 4) (symbol Tag x)
    (cond (form == 5) (inverse (at ms x))
    (cond (form == 6) (compound Pair (at ms x) (at ms y))
    (cond (form == 7) (compound AsymmetricEncryption (at ms x) (at ms y))
    (compound SymmetricEncryption (at ms x) (at ms y))))))))

-- whether a number is that of a message
abbrev pub there : List Message → ℕ → Bool
there ms n = nat_lt n (length ms)

-- none of the eight forms, or a y that is not 0 in a form that does not use it
abbrev pub unlisted : ℕ → ℕ → Bool
unlisted form y = not (nat_le 1 form && nat_le form 8) || (nat_le form 5 && not (y == 0))

-- an operand that is no message of the table
abbrev pub missing : List Message → ℕ → ℕ → ℕ → Bool
missing ms form x y = (nat_le 5 form && not (there ms x)) || (nat_le 6 form && not (there ms y))

-- the inverse of what is no asymmetric key, or a key of another sort than the encryption's
abbrev pub wrong_sort : List Message → ℕ → ℕ → ℕ → Bool
wrong_sort ms form x y =
    (form == 5 && not (of_sort Asymmetric (at ms x)))
    || ((form == 7 && not (of_sort Asymmetric (at ms y))) || (form == 8 && not (of_sort Symmetric (at ms y))))

-- a message's number: that of an equal message, or the next one
abbrev pub number_of : List Message → Message → ℕ
number_of ms m = place same m ms

-- whether an equal message stands
abbrev pub stands : List Message → Message → Bool
stands ms m = nat_lt (number_of ms m) (length ms)

-- a message over the limit of sizes
abbrev pub too_large : Message → Bool
too_large m = nat_lt size_limit (size m)

-- a new message where as many stand as the table holds
abbrev pub full : List Message → Message → Bool
full ms m = not (stands ms m) && nat_le message_limit (length ms)

-- the rows that a call can be refused by, lowest first, each with its condition
abbrev pub enter_rules : List Message → ℕ → ℕ → ℕ → List Rule
enter_rules ms form x y =
    (3, unlisted form y)
    ∷ (4, missing ms form x y)
    ∷ (5, wrong_sort ms form x y)
    ∷ (8, too_large (named ms form x y))
    ∷ (8, full ms (named ms form x y))
    ∷ []

-- the first of them that applies, and else the message's number
abbrev pub enter_reply : List Message → ℕ → ℕ → ℕ → Result ℕ ℕ
enter_reply ms form x y = first_row (enter_rules ms form x y) (number_of ms (named ms form x y))

-- a new message comes last
abbrev pub with_message : List Message → Message → List Message
with_message ms m = cond (stands ms m) ms (ms ++ m ∷ [])

-- the messages after the call: a refusal changes nothing
abbrev pub after_enter : List Message → ℕ → ℕ → ℕ → List Message
after_enter ms form x y = unless_refused (enter_reply ms form x y) (with_message ms (named ms form x y)) ms

-- the call of `enter` with these arguments: its reply, the messages afterwards, and what follows for its caller
pub record Entered (ms : List Message) (form x y : ℕ) (r : Result ℕ Refusal) (after : List Message) : Type 0 where
  pub reply : by_row r ≡ enter_reply ms form x y
  pub stands_after : after ≡ after_enter ms form x y
  -- the number that was answered is that of the message named
  pub number : IfOk r (λ n. (n < length after) × (at after n ≡ named ms form x y))
  -- no earlier number changes its message
  pub kept : (k : ℕ) → k < length ms → at after k ≡ at ms k
