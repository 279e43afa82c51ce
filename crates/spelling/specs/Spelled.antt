-- Messages, spelled.
use Rattle.std.specs.Prelude.{ℕ, List, [], ◌++◌, length, codes, decimal, nat_lt, if◌then◌else◌}
use Rattle.message.specs.declared.stored.Symbol.{Symbol}
use Rattle.message.specs.declared.stored.Symbol.TheVariants.{AsymmetricKey, SymmetricKey, Datum, Tag}
use Rattle.message.specs.declared.stored.Operation.{Operation}
use Rattle.message.specs.declared.stored.Operation.TheVariants.{Pair, AsymmetricEncryption, SymmetricEncryption}
use Rattle.message.specs.Message.{Message, symbol, inverse_key, compound}
use Rattle.message.specs.Meaning.{at}

-- the letter before a symbol's number
abbrev pub letter : Symbol → List ℕ
letter AsymmetricKey = codes "A"
letter SymmetricKey = codes "S"
letter Datum = codes "D"
letter Tag = codes "T"

-- two spelled messages put together
abbrev pub together : Operation → List ℕ → List ℕ → List ℕ
together Pair x y = codes "(" ++ (x ++ (codes ", " ++ (y ++ codes ")")))
together AsymmetricEncryption x k = codes "{" ++ (x ++ (codes "}_" ++ k))
together SymmetricEncryption x k = codes "{" ++ (x ++ (codes "}_" ++ k))

-- a message: A0, S0, D0 and T0 for keys, data and tags, A0^-1 for an inverse, (x, y) for a pair, {x}_k for an encryption
abbrev pub spelling : Message → List ℕ
spelling (symbol s n) = letter s ++ decimal n
spelling (inverse_key n) = codes "A" ++ (decimal n ++ codes "^-1")
spelling (compound o x y) = together o (spelling x) (spelling y)

-- the message with a number, and nothing where there is none
abbrev pub spelled : List Message → ℕ → List ℕ
spelled ms n = if nat_lt n (length ms) then spelling (at ms n) else []
