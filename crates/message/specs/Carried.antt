-- What carries what: a message carries itself, a pair what either part carries, an encryption what its content carries.
-- A key is not carried by what is encrypted under it.
use Rattle.std.specs.Prelude.{◌≡◌, ℕ, ◌<◌, ◌≤◌, Bool, true, ◌||◌, ◌⊎◌, ◌↔◌, List, length, Some, None, Option}
use Rattle.message.specs.declared.stored.Operation.TheVariants.{Pair, AsymmetricEncryption, SymmetricEncryption}
use Rattle.message.specs.Message.{Message, symbol, inverse_key, compound}
use Rattle.message.specs.Meaning.{at}
use Rattle.message.specs.Same.{same}

-- Carried t m: the message m carries t
abbrev pub Carried : Message → Message → Type 0
Carried t (symbol s n) = t ≡ symbol s n
Carried t (inverse_key n) = t ≡ inverse_key n
Carried t (compound Pair x y) = (t ≡ compound Pair x y) ⊎ (Carried t x ⊎ Carried t y)
Carried t (compound AsymmetricEncryption x k) = (t ≡ compound AsymmetricEncryption x k) ⊎ Carried t x
Carried t (compound SymmetricEncryption x k) = (t ≡ compound SymmetricEncryption x k) ⊎ Carried t x

-- the same as a test
abbrev pub is_carried : Message → Message → Bool
is_carried t (symbol s n) = same t (symbol s n)
is_carried t (inverse_key n) = same t (inverse_key n)
is_carried t (compound Pair x y) = same t (compound Pair x y) || (is_carried t x || is_carried t y)
is_carried t (compound AsymmetricEncryption x k) = same t (compound AsymmetricEncryption x k) || is_carried t x
is_carried t (compound SymmetricEncryption x k) = same t (compound SymmetricEncryption x k) || is_carried t x

-- the test is true exactly where the relation holds
pub record Tells (t m : Message) (answer : Bool) : Type 0 where
  pub test : answer ≡ is_carried t m
  pub relation : (answer ≡ true) ↔ Carried t m

-- the same by numbers: nothing is answered where one of them is no message's
abbrev pub CarriedBy : List Message → ℕ → ℕ → Option Bool → Type 0
CarriedBy ms inner outer None = (length ms ≤ inner) ⊎ (length ms ≤ outer)
CarriedBy ms inner outer (Some answer) = (inner < length ms) × (outer < length ms) × Tells (at ms inner) (at ms outer) answer
