-- A table with one more entry keeps its facts.
use Rattle.std.proofs.Common.{◌≡◌, ℕ, ◌+◌, ◌<◌, ◌≤◌, ◌⊎◌, List, [], ◌∷◌, ◌++◌, length, sym, ap, ◌∙◌, inl, inr, arith}
use Rattle.std.proofs.lemmas.List.{length_push, get_or_push, get_or_append_left}
use Rattle.std.proofs.lemmas.Bool.{cases_lt}
use Rattle.listing.proofs.Each.{each_push}
use Rattle.message.specs.declared.stored.Symbol.TheVariants.{AsymmetricKey}
use Rattle.message.specs.declared.stored.Stored.{Stored}
use Rattle.message.specs.declared.stored.Entry.{Entry}
use Rattle.message.specs.Message.{Message, symbol, size}
use Rattle.message.specs.Meaning.{at, value, meanings, reach, no_entry, InOrder, Sized, Distinct}
use Rattle.message.proofs.Meanings.{length_meanings, meanings_push}

pub ordered_push : (es : List Entry) (e : Entry) → InOrder es → reach e.stored ≤ length es → InOrder (es ++ e ∷ [])
ordered_push es e ordered older = each_push no_entry (λ f k. reach f.stored ≤ k) es e ordered older

pub sized_push : (es : List Entry) (e : Entry) → Sized es → e.size ≡ size (value (meanings es) e.stored) → Sized (es ++ e ∷ [])
sized_push es e sized new =
    each_push no_entry (λ f k. f.size ≡ size (at (meanings (es ++ e ∷ [])) k)) es e
    (λ k h. sized k h ∙ ap size (sym (ap (λ (ms : List Message). at ms k) (meanings_push es e) ∙ get_or_append_left (meanings es) (value (meanings es) e.stored ∷ []) (symbol AsymmetricKey 0) k (omega (arith, length_meanings es)))))
    (new ∙ ap size (sym (ap (λ (ms : List Message). at ms (length es)) (meanings_push es e) ∙ get_or_push (meanings es) (value (meanings es) e.stored) (symbol AsymmetricKey 0) (length es) (length_meanings es))))

pub distinct_push : (ms : List Message) (m : Message) → Distinct ms → ((k : ℕ) → k < length ms → at ms k ≡ m → ⊥) → Distinct (ms ++ m ∷ [])
distinct_push ms m once none i j (hi, hj, e) = by (cases_lt i (length ms)) (cases_lt j (length ms))
  where
    long : length (ms ++ m ∷ []) ≡ length ms + 1
    long = length_push ms m

    old : (k : ℕ) → k < length ms → at (ms ++ m ∷ []) k ≡ at ms k
    old k l = get_or_append_left ms (m ∷ []) (symbol AsymmetricKey 0) k l

    new : (k : ℕ) → length ms ≡ k → at (ms ++ m ∷ []) k ≡ m
    new k l = get_or_push ms m (symbol AsymmetricKey 0) k l

    by : (i < length ms) ⊎ (length ms ≤ i) → (j < length ms) ⊎ (length ms ≤ j) → i ≡ j
    by (inl p) (inl q) = once i j (p, q, sym (old i p) ∙ (e ∙ old j q))
    by (inl p) (inr q) = absurd (none i p (sym (old i p) ∙ (e ∙ new j (omega (arith, long)))))
    by (inr p) (inl q) = absurd (none j q (sym (old j q) ∙ (sym e ∙ new i (omega (arith, long)))))
    by (inr p) (inr q) = omega (arith, long)

-- where no message stands twice, what is stored is known from its message
pub value_injective : (ms : List Message) (a b : Stored) → Distinct ms → reach a ≤ length ms → reach b ≤ length ms → value ms a ≡ value ms b → a ≡ b
value_injective ms a b once ha hb e = grind (arith, once)
