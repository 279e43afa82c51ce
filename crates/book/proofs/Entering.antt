-- A table that grows leaves strands and assumptions as they are.
use Rattle.std.proofs.Common.{◌≡◌, ℕ, ◌<◌, ◌≤◌, Bool, true, false, cond, List, [], ◌∷◌, ◌++◌, map, length, Ok, Err, Result, refl, ap₂, arith}
use Rattle.std.proofs.lemmas.List.{length_push}
use Rattle.std.proofs.lemmas.List.Elements.{All-head, All-tail}
use Rattle.refusal.specs.Rows.{unless_refused}
use Rattle.message.specs.Enter.{after_enter, enter_reply, named, stands}
use Rattle.message.specs.Meaning.{at}
use Rattle.message.specs.Message.{Message}
use Rattle.strand.specs.declared.event.Event.{Event}
use Rattle.strand.specs.Trace.{Trace, Within, trace}
use Rattle.strand.proofs.Traces.{trace_grown}
use Rattle.assumption.specs.declared.assumption.Assumption.{Assumption}
use Rattle.assumption.specs.Assumption.{ValuesWithin, supposed, value_reach}
use Rattle.book.specs.Within.{EventsWithin}

module _ (ms after : List Message) (kept : (k : ℕ) → k < length ms → at after k ≡ at ms k) where
  pub traces_grown : (ss : List (List (Event ℕ))) → EventsWithin ms ss → map (trace after) ss ≡ map (trace ms) ss
  traces_grown [] within = refl
  traces_grown (t ∷ ts) within =
      ap₂ (λ (u : Trace) (us : List Trace). u ∷ us)
      (trace_grown ms after t (All-head (Within ms) t ts within) kept)
      (traces_grown ts (All-tail (Within ms) t ts within))

  supposed_grown : (a : Assumption ℕ) → value_reach a ≤ length ms → supposed after a ≡ supposed ms a
  supposed_grown a h = grind (arith, kept)

  pub assumptions_grown : (xs : List (Assumption ℕ)) → ValuesWithin ms xs → map (supposed after) xs ≡ map (supposed ms) xs
  assumptions_grown [] within = refl
  assumptions_grown (a ∷ xs) within =
      ap₂ (λ (b : Assumption Message) (bs : List (Assumption Message)). b ∷ bs)
      (supposed_grown a (within 0 a (omega arith)))
      (assumptions_grown xs (All-tail (λ b. value_reach b ≤ length ms) a xs within))

-- no call makes the table shorter
pub grows : (ms : List Message) (form x y : ℕ) → length ms ≤ length (after_enter ms form x y)
grows ms form x y = go (enter_reply ms form x y) (stands ms (named ms form x y))
  where
    go : (r : Result ℕ ℕ) (b : Bool) → length ms ≤ length (unless_refused r (cond b ms (ms ++ named ms form x y ∷ [])) ms)
    go (Ok n) true = omega arith
    go (Ok n) false = let l = length_push ms (named ms form x y) in omega arith
    go (Err n) b = omega arith
