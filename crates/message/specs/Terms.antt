-- The algebra of messages as terms under an equation. A term is built by any of the operations, and its inverses may
-- stand anywhere that their sort allows; the one equation says that the inverse of an inverse is the term inside.
-- `Algebra` says that the messages of specs/Message.antt are just these terms, taken up to that equation.
use Rattle.std.specs.Prelude.{◌≡◌, ℕ, Bool, true, ◌&&◌, Some, None, Option}
use Rattle.message.specs.declared.stored.Symbol.{Symbol}
use Rattle.message.specs.declared.stored.Operation.{Operation}
use Rattle.message.specs.declared.stored.Sort.{Sort}
use Rattle.message.specs.declared.stored.Sort.TheVariants.{Asymmetric}
use Rattle.message.specs.Message.{Message, symbol, compound, sort_of, is_sort, inverse, key_fits, well_sorted}

infix 4 ◌≈◌
-- a symbol with its number; the inverse of a term; two terms put together
pub data Term : Type 0 where
  atom_or_tag : Symbol → ℕ → Term
  inverse_of : Term → Term
  put_together : Operation → Term → Term → Term

-- an inverse is a key of the asymmetric sort
abbrev pub term_sort : Term → Option Sort
term_sort (atom_or_tag s n) = sort_of (symbol s n)
term_sort (inverse_of t) = Some Asymmetric
term_sort (put_together o x y) = None

-- each operation in the term is applied to the sorts that it takes
abbrev pub formed : Term → Bool
formed (atom_or_tag s n) = true
formed (inverse_of t) = is_sort Asymmetric (term_sort t) && formed t
formed (put_together o x y) = key_fits o (term_sort y) && (formed x && formed y)

-- Equality of terms: the equation, for each term of the asymmetric sort, and what follows from it by the rules of
-- equality, between whole terms and between their parts.
pub data ◌≈◌ : Term → Term → Type 0 where
  inverse_twice : {t : Term} → term_sort t ≡ Some Asymmetric → inverse_of (inverse_of t) ≈ t
  itself : {t : Term} → t ≈ t
  turned : {t u : Term} → t ≈ u → u ≈ t
  chained : {t u v : Term} → t ≈ u → u ≈ v → t ≈ v
  under_inverse : {t u : Term} → t ≈ u → inverse_of t ≈ inverse_of u
  under_operation : {o : Operation} {x u y v : Term} → x ≈ u → y ≈ v → put_together o x y ≈ put_together o u v

-- the message that a term stands for, with each inverse worked out
abbrev pub normal : Term → Message
normal (atom_or_tag s n) = symbol s n
normal (inverse_of t) = inverse (normal t)
normal (put_together o x y) = compound o (normal x) (normal y)

pub record Algebra : Type 0 where
  -- equal terms stand for the same message
  pub sound : (t u : Term) → t ≈ u → normal t ≡ normal u
  -- and formed terms that stand for the same message are equal
  pub complete : (t u : Term) → formed t ≡ true → formed u ≡ true → normal t ≡ normal u → t ≈ u
  -- equal terms have the same sort, and either both are formed or neither is
  pub sorts_kept : (t u : Term) → t ≈ u → (term_sort t ≡ term_sort u) × (formed t ≡ formed u)
  -- the message of a formed term is well-sorted, and has the term's sort
  pub sorted : (t : Term) → formed t ≡ true → (well_sorted (normal t) ≡ true) × (sort_of (normal t) ≡ term_sort t)
  -- every well-sorted message is that of a formed term
  pub reached : (m : Message) → well_sorted m ≡ true → (t : Term) × (formed t ≡ true) × (normal t ≡ m)
  -- the inverse of the inverse of any message is that message
  pub involution : (m : Message) → inverse (inverse m) ≡ m
