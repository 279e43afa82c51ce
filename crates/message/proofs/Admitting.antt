-- The ways in which a message is admitted, each by the messages that stand.
use Rattle.std.proofs.Common.{◌≡◌, ℕ, ◌<◌, ◌≤◌, true, false, leb, List, [], ◌∷◌, ◌++◌, length, Ok, Err, Result, sym, refl, ap, ◌∙◌, arith}
use Rattle.std.proofs.lemmas.List.{length_push, get_or_push, get_or_append_left}
use Rattle.std.proofs.lemmas.Bool.{lt-ltb, le-ltb}
use Rattle.refusal.specs.declared.Refusal.{Refusal}
use Rattle.refusal.specs.Rows.{row}
use Rattle.message.specs.declared.stored.Symbol.TheVariants.{AsymmetricKey}
use Rattle.message.specs.Message.{Message, symbol}
use Rattle.message.specs.Same.{same, same_true, true_same}
use Rattle.listing.specs.Place.{place}
use Rattle.message.specs.Meaning.{at, Distinct}
use Rattle.message.specs.Enter.{number_of, stands}
use Rattle.message.specs.Resolve.{Admitted}
use Rattle.std.proofs.lemmas.List.Sums.{passes_at_first}
use Rattle.listing.proofs.Places.{place_before, place_none}

-- the number of a message that stands once
number_found : (ms : List Message) (m : Message) (n : ℕ) → Distinct ms → n < length ms → at ms n ≡ m → number_of ms m ≡ n
number_found ms m n once h e = once _ n (l, h, (same_true _ m (passes_at_first (λ n. same n m) ms (symbol AsymmetricKey 0) l) ∙ sym e))
  where
    l : place same m ms < length ms
    l = let p = place_before same m (symbol AsymmetricKey 0) ms n h (true_same _ m e) in omega arith

-- the number of a new message
number_new : (ms : List Message) (m : Message) → ((k : ℕ) → k < length ms → at ms k ≡ m → ⊥) → number_of ms m ≡ length ms
number_new ms m none = place_none same m (symbol AsymmetricKey 0) ms (λ k h t. none k h (same_true _ m t))

-- a message that stands
pub found : (ms : List Message) (m : Message) (n : ℕ) → Distinct ms → n < length ms → at ms n ≡ m → Admitted ms m (Ok n) ms
found ms m n once h is =
    let number : number_of ms m ≡ n = number_found ms m n once h is in
    let there : stands ms m ≡ true = lt-ltb _ _ (omega (arith, number)) in
    record {
      reply = sym ((simp there) ∙ ap {B = Result ℕ ℕ} Ok number);
      stands_after = sym (simp there);
      number = (h, is);
      kept = λ k l. refl;
    }

module _ (ms : List Message) (m : Message) (none : (k : ℕ) → k < length ms → at ms k ≡ m → ⊥) where
  absent : stands ms m ≡ false
  absent = let number = number_new ms m none in le-ltb _ _ (omega (arith, number))

  -- a new message where there is no room
  pub over : (q : Refusal) → row q ≡ 8 → 1024 ≤ length ms → Admitted ms m (Err q) ms
  over q eight h =
      let no_room : leb 1024 (length ms) ≡ true = lt-ltb 1023 (length ms) (omega arith) in
      record {
        reply = ap {B = Result ℕ ℕ} Err eight ∙ sym (simp (absent, no_room));
        stands_after = sym (simp (absent, no_room));
        number = tt;
        kept = λ k l. refl;
      }

  -- a new message, put at the end
  pub added : (n : ℕ) (after : List Message) → n ≡ length ms → n < 1024 → after ≡ ms ++ m ∷ [] → Admitted ms m (Ok n) after
  added n after len h is =
      let number = number_new ms m none in
      let room : leb 1024 (length ms) ≡ false = le-ltb 1023 (length ms) (omega arith) in
      record {
        reply = sym ((simp (absent, room)) ∙ ap {B = Result ℕ ℕ} Ok (number ∙ sym len));
        stands_after = is ∙ sym (simp (absent, room));
        number = (
          let l = length_push ms m in omega (arith, ap length is),
          ap (λ (ns : List Message). at ns n) is ∙ get_or_push ms m (symbol AsymmetricKey 0) n (sym len),
        );
        kept = λ k l. ap (λ (ns : List Message). at ns k) is ∙ get_or_append_left ms (m ∷ []) (symbol AsymmetricKey 0) k l;
      }
