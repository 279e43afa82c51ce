-- Equality of messages as a test. It decides `≡`: `same_true` and `true_same`.
use Rattle.std.specs.Prelude.{◌≡◌, ℕ, Bool, true, false, cond, ◌==◌, refl}
use Rattle.std.proofs.Math.Decide.{ℕ_discrete}
use Rattle.std.proofs.Common.{sym, ap, ◌∙◌, arith}
use Rattle.message.specs.declared.stored.Symbol.{Symbol}
use Rattle.message.specs.declared.stored.Symbol.TheVariants.{AsymmetricKey, SymmetricKey, Datum, Tag}
use Rattle.message.specs.declared.stored.Operation.{Operation}
use Rattle.message.specs.declared.stored.Operation.TheVariants.{Pair, AsymmetricEncryption, SymmetricEncryption}
use Rattle.message.specs.Message.{Message, discrete_from_parts, symbol_form, operation_form}

-- what a number tells apart can be compared
abbrev pub by_number : {X : Type 0} (number : X → ℕ) (back : ℕ → X) → ((x : X) → back (number x) ≡ x) → Discrete X
by_number number back law x y =
    decide (ℕ_discrete (number x) (number y))
  where
    decide : Dec (number x ≡ number y) → Dec (x ≡ y)
    decide (yes p) = yes (sym (law x) ∙ (ap back p ∙ law y))
    decide (no q) = no (λ e. q (ap number e))

abbrev pub symbol_at : ℕ → Symbol
symbol_at n = cond (n == 1) AsymmetricKey (cond (n == 2) SymmetricKey (cond (n == 3) Datum Tag))

pub symbol_back : (s : Symbol) → symbol_at (symbol_form s) ≡ s
symbol_back AsymmetricKey = refl
symbol_back SymmetricKey = refl
symbol_back Datum = refl
symbol_back Tag = refl

abbrev pub operation_at : ℕ → Operation
operation_at n = cond (n == 6) Pair (cond (n == 7) AsymmetricEncryption SymmetricEncryption)

pub operation_back : (o : Operation) → operation_at (operation_form o) ≡ o
operation_back Pair = refl
operation_back AsymmetricEncryption = refl
operation_back SymmetricEncryption = refl

unfoldable pub message_discrete : Discrete Message
message_discrete = discrete_from_parts (by_number symbol_form symbol_at symbol_back) ℕ_discrete (by_number operation_form operation_at operation_back)

abbrev pub is : {P : Type 0} → Dec P → Bool
is (yes p) = true
is (no q) = false

unfoldable pub same : Message → Message → Bool
same m n = is (message_discrete m n)

pub same_true : (m n : Message) → same m n ≡ true → m ≡ n
unfolding same
same_true m n e = by (message_discrete m n) e
  where
    by : (d : Dec (m ≡ n)) → is d ≡ true → m ≡ n
    by (yes p) t = p
    by (no q) t = absurd (let z : ◌≡◌ {A = ℕ} 0 1 = ap (λ b. cond b 1 0) t in omega arith)

pub true_same : (m n : Message) → m ≡ n → same m n ≡ true
unfolding same
true_same m n e = by (message_discrete m n)
  where
    by : (d : Dec (m ≡ n)) → is d ≡ true
    by (yes p) = refl
    by (no q) = absurd (q e)
