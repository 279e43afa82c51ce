-- The algebra of messages. Only asymmetric keys have inverses, and the inverse of an inverse is the key inside, so an
-- inverse is always that of an atom: it is a leaf here, and two messages are equal exactly when their trees are.
use Rattle.std.specs.Prelude.{ℕ, ◌+◌, Bool, true, false, ◌&&◌, Some, None, Option, ◌==◌}
use Rattle.message.specs.declared.stored.Symbol.{Symbol}
use Rattle.message.specs.declared.stored.Symbol.TheVariants.{AsymmetricKey, SymmetricKey, Datum, Tag}
use Rattle.message.specs.declared.stored.Operation.{Operation}
use Rattle.message.specs.declared.stored.Operation.TheVariants.{Pair, AsymmetricEncryption, SymmetricEncryption}
use Rattle.message.specs.declared.stored.Sort.{Sort}
use Rattle.message.specs.declared.stored.Sort.TheVariants.{Asymmetric, Symmetric, Data}
use Rattle.message.specs.declared.stored.Form.{Form}
use Rattle.message.specs.declared.stored.Form.TheVariants.{Symbol as OfSymbol, Inverse as OfInverse, Compound as OfCompound}

-- a symbol with its number; the inverse of the asymmetric key with this number; two messages put together
pub data Message : Type 0 where
  symbol : Symbol → ℕ → Message
  inverse_key : ℕ → Message
  compound : Operation → Message → Message → Message
  deriving Discrete as discrete_from_parts

-- The forms by number: 1 to 4 are the symbols, 5 is an inverse, 6 to 8 are the operations.
abbrev pub symbol_form : Symbol → ℕ
symbol_form AsymmetricKey = 1
symbol_form SymmetricKey = 2
symbol_form Datum = 3
symbol_form Tag = 4

abbrev pub operation_form : Operation → ℕ
operation_form Pair = 6
operation_form AsymmetricEncryption = 7
operation_form SymmetricEncryption = 8

abbrev pub form_number : Form → ℕ
form_number (OfSymbol s) = symbol_form s
form_number OfInverse = 5
form_number (OfCompound o) = operation_form o

-- the sort of a message: basic values are the messages that have one
abbrev pub sort_of : Message → Option Sort
sort_of (symbol AsymmetricKey n) = Some Asymmetric
sort_of (symbol SymmetricKey n) = Some Symmetric
sort_of (symbol Datum n) = Some Data
sort_of (symbol Tag n) = None
sort_of (inverse_key n) = Some Asymmetric
sort_of (compound o x y) = None

-- the sorts by their letters: A, S and D
abbrev pub sort_letter : Sort → ℕ
sort_letter Asymmetric = 65
sort_letter Symmetric = 83
sort_letter Data = 68

-- whether a sort, if there is one, is this one
abbrev pub is_sort : Sort → Option Sort → Bool
is_sort s None = false
is_sort s (Some r) = sort_letter r == sort_letter s

-- whether a message is of this sort
abbrev pub of_sort : Sort → Message → Bool
of_sort s m = is_sort s (sort_of m)

-- the inverse of a key of the asymmetric sort; nothing else has one, and stays as it is
abbrev pub inverse : Message → Message
inverse (symbol AsymmetricKey n) = inverse_key n
inverse (symbol SymmetricKey n) = symbol SymmetricKey n
inverse (symbol Datum n) = symbol Datum n
inverse (symbol Tag n) = symbol Tag n
inverse (inverse_key n) = symbol AsymmetricKey n
inverse (compound o x y) = compound o x y

-- how many operations and symbols a message is built of
abbrev pub size : Message → ℕ
size (symbol s n) = 1
size (inverse_key n) = 2
size (compound o x y) = 1 + (size x + size y)

-- The limits: how large a message may be, and how many a table holds.
abbrev pub size_limit : ℕ
size_limit = 255

abbrev pub message_limit : ℕ
message_limit = 1024

-- the second part of an operation may be of this sort: an encryption asks for a key of its own, a pair for nothing
abbrev pub key_fits : Operation → Option Sort → Bool
key_fits Pair s = true
key_fits AsymmetricEncryption s = is_sort Asymmetric s
key_fits SymmetricEncryption s = is_sort Symmetric s

-- every encryption in the message is under a key of its sort
abbrev pub well_sorted : Message → Bool
well_sorted (symbol s n) = true
well_sorted (inverse_key n) = true
well_sorted (compound o x y) = key_fits o (sort_of y) && (well_sorted x && well_sorted y)
