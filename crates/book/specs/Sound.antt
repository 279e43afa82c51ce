-- What the notes of calls show, whatever they list.
use Rattle.std.specs.Prelude.{◌≡◌, ℕ, true, ◌↔◌, List, ◌∷◌, ◌++◌, Ok}
use Rattle.message.specs.Message.{Message}
use Rattle.message.specs.Enter.{named}
use Rattle.message.specs.Terms.{Term, ◌≈◌, formed, normal}
use Rattle.book.specs.Calls.{Defined, Enter}
use Rattle.book.specs.Notes.{Note, calls, note, standing}

-- somewhere in the notes, `enter` answered the number k for the message m
pub record Given (ns : List Note) (k : ℕ) (m : Message) : Type 0 where
  pub before : List Note
  pub form : ℕ
  pub x : ℕ
  pub y : ℕ
  pub behind : List Note
  pub there : ns ≡ before ++ note (Enter form x y) (Ok k) ∷ behind
  pub names : named (standing (calls before)).messages form x y ≡ m

pub record Sound (ns : List Note) : Type 0 where
  -- every reply is the defined one for what stands by the calls before it
  pub replies : (before : List Note) (n : Note) (behind : List Note) → ns ≡ before ++ n ∷ behind →
      Defined (standing (calls before)) n.call n.reply
  -- two numbers that `enter` answered are equal exactly when the messages named are
  pub numbers : (k l : ℕ) (m n : Message) → Given ns k m → Given ns l n → (k ≡ l) ↔ (m ≡ n)
  -- that is, exactly when terms that stand for those messages are equal in the algebra
  pub terms : (k l : ℕ) (t u : Term) → formed t ≡ true → formed u ≡ true → Given ns k (normal t) → Given ns l (normal u) → (k ≡ l) ↔ (t ≈ u)
