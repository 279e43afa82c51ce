-- The test for carried is the relation, and how it goes by numbers.
use Rattle.std.proofs.Common.{◌≡◌, ℕ, ◌<◌, Bool, true, false, ◌||◌, ◌⊎◌, List, length, sym, arith, ap, ◌∙◌, subst, inl, inr, ⊎_elim}
use Rattle.std.proofs.lemmas.Bool.{or_cases, or_left, or_right}
use Rattle.message.specs.declared.stored.Stored.{Stored}
use Rattle.message.specs.declared.stored.Stored.TheVariants.{Symbol, Inverse, Compound}
use Rattle.message.specs.declared.table.Messages.{Messages}
use Rattle.message.specs.Meaning.{at, value}
use Rattle.message.specs.Table.{messages_of}
use Rattle.message.specs.declared.stored.Operation.TheVariants.{Pair, AsymmetricEncryption, SymmetricEncryption}
use Rattle.message.specs.Message.{Message, symbol, inverse_key, compound}
use Rattle.message.specs.Same.{same, same_true, true_same}
use Rattle.message.specs.Carried.{Carried, Tells, is_carried}
use Rattle.message.proofs.Carrying.{carried_itself}

-- a message or a part of it: what an encryption or a pair adds to the test
joined : {P Q : Type 0} (a b : Bool) → (a ≡ true → P) → (b ≡ true → Q) → (a || b) ≡ true → P ⊎ Q
joined a b p q e = ⊎_elim (λ t. inl (p t)) (λ t. inr (q t)) (or_cases a b e)

parted : {P Q : Type 0} (a b : Bool) → (P → a ≡ true) → (Q → b ≡ true) → P ⊎ Q → (a || b) ≡ true
parted a b p q (inl x) = or_left a b (p x)
parted a b p q (inr y) = or_right a b (q y)

pub test_carried : (t m : Message) → is_carried t m ≡ true → Carried t m
test_carried t (symbol s n) e = same_true _ _ e
test_carried t (inverse_key n) e = same_true _ _ e
test_carried t (compound Pair x y) e =
    joined (same t (compound Pair x y)) _ (same_true _ _) (joined (is_carried t x) (is_carried t y) (test_carried t x) (test_carried t y)) e
test_carried t (compound AsymmetricEncryption x k) e = joined (same t (compound AsymmetricEncryption x k)) _ (same_true _ _) (test_carried t x) e
test_carried t (compound SymmetricEncryption x k) e = joined (same t (compound SymmetricEncryption x k)) _ (same_true _ _) (test_carried t x) e

pub carried_test : (t m : Message) → Carried t m → is_carried t m ≡ true
carried_test t (symbol s n) c = true_same _ _ c
carried_test t (inverse_key n) c = true_same _ _ c
carried_test t (compound Pair x y) c =
    parted (same t (compound Pair x y)) _ (true_same _ _) (parted (is_carried t x) (is_carried t y) (carried_test t x) (carried_test t y)) c
carried_test t (compound AsymmetricEncryption x k) c = parted (same t (compound AsymmetricEncryption x k)) _ (true_same _ _) (carried_test t x) c
carried_test t (compound SymmetricEncryption x k) c = parted (same t (compound SymmetricEncryption x k)) _ (true_same _ _) (carried_test t x) c

pub tells : (t m : Message) (answer : Bool) → answer ≡ is_carried t m → Tells t m answer
tells t m answer is = record {
  test = is;
  relation = (λ e. test_carried t m (sym is ∙ e), λ c. is ∙ carried_test t m c);
}

not_same : {m n : Message} → (m ≡ n → ⊥) → same m n ≡ false
not_same {m} {n} apart = grind (arith, same_true)

-- by numbers: of the message itself
pub tells_itself : (ms : List Message) (inner outer : ℕ) → inner ≡ outer → Tells (at ms inner) (at ms outer) true
tells_itself ms inner outer e =
    tells (at ms inner) (at ms outer) true (sym (carried_test (at ms inner) (at ms outer) (subst (λ (n : ℕ). Carried (at ms inner) (at ms n)) e (carried_itself (at ms inner)))))

-- carried by the parts of what is stored
abbrev pub inside : List Message → Message → Stored → Bool
inside ms t (Symbol s n) = false
inside ms t (Inverse n) = false
inside ms t (Compound Pair x y) = is_carried t (at ms x) || is_carried t (at ms y)
inside ms t (Compound AsymmetricEncryption x k) = is_carried t (at ms x)
inside ms t (Compound SymmetricEncryption x k) = is_carried t (at ms x)

is_inside : (ms : List Message) (t : Message) (s : Stored) → same t (value ms s) ≡ false → is_carried t (value ms s) ≡ inside ms t s
is_inside ms t s other = grind arith

-- and of another, by its parts
pub tells_inside : (t : Messages) (inner outer : ℕ) → inner < length (messages_of t) → outer < length (messages_of t) → (inner ≡ outer → ⊥) →
    (s : Stored) (answer : Bool) → value (messages_of t) s ≡ at (messages_of t) outer →
    answer ≡ inside (messages_of t) (at (messages_of t) inner) s → Tells (at (messages_of t) inner) (at (messages_of t) outer) answer
tells_inside t inner outer hi ho apart s answer is told =
    let other = not_same (λ e. apart (t.once inner outer (hi, ho, e ∙ is))) in
    tells _ _ answer (told ∙ (sym (is_inside (messages_of t) (at (messages_of t) inner) s other) ∙ ap (is_carried (at (messages_of t) inner)) is))
