-- What a search of the table for a stored message says of the message, and what the table is with one more.
use Rattle.std.proofs.Common.{◌≡◌, ℕ, ◌<◌, ◌≤◌, List, [], ◌∷◌, ◌++◌, Bool, true, ◌↔◌, length, get_or, Ok, Err, Some, None, Option, Result, sym, ap, ◌∙◌, subst, arith}
use Rattle.std.specs.List.{position}
use Rattle.std.proofs.lemmas.Bool.{both_ways}
use Rattle.std.proofs.lemmas.List.Elements.{All-push}
use Rattle.std.proofs.lemmas.List.Quantifiers.{position-Some}
use Rattle.listing.proofs.Places.{position-None}
use Rattle.refusal.specs.declared.Refusal.{Refusal}
use Rattle.listing.specs.Listing.{Pushed}
use Rattle.message.specs.declared.stored.Stored.{Stored}
use Rattle.message.specs.declared.stored.Entry.{Entry}
use Rattle.message.specs.declared.table.Messages.{Messages}
use Rattle.message.specs.Message.{Message, size, size_limit, well_sorted}
use Rattle.message.specs.Meaning.{at, value, meanings, reach, no_entry, InOrder, Sized, Small, Distinct, WellSorted}
use Rattle.message.specs.Table.{entries_of, messages_of}
use Rattle.message.specs.Resolve.{Admitted, Fits, Found}
use Rattle.message.proofs.Admitting.{found, added, over}
use Rattle.message.proofs.Meanings.{length_meanings, meaning_at, meanings_push}
use Rattle.message.proofs.Growing.{ordered_push, sized_push, distinct_push, value_injective}

-- an entry that stores it has the message's number
pub stored_found : (t : Messages) (s : Stored) (n : ℕ) → n < length (entries_of t) → (get_or (entries_of t) n no_entry).stored ≡ s → Admitted (messages_of t) (value (messages_of t) s) (Ok n) (messages_of t)
stored_found t s n h is =
    let long = length_meanings (entries_of t) in
    found (messages_of t) (value (messages_of t) s) n t.once (omega arith) (meaning_at (entries_of t) n t.ordered h ∙ ap (value (messages_of t)) is)

-- where no entry stores it, no number is the message's
pub stored_nowhere : (t : Messages) (s : Stored) → reach s ≤ length (messages_of t) → ((k : ℕ) → k < length (entries_of t) → (get_or (entries_of t) k no_entry).stored ≡ s → ⊥) →
    (k : ℕ) → k < length (messages_of t) → at (messages_of t) k ≡ value (messages_of t) s → ⊥
stored_nowhere t s older none k h is =
    let long = length_meanings (entries_of t) in
    let l : k < length (entries_of t) = omega arith in
    let old = t.ordered k l in
    none k l (value_injective (messages_of t) _ s t.once (omega arith) older (sym (meaning_at (entries_of t) k t.ordered l) ∙ is))

-- a search by a test that holds of the entries which store the same
pub searched : (t : Messages) (s : Stored) → reach s ≤ length (messages_of t) → (test : Entry → Bool) →
    (r : Option ℕ) → r ≡ position test (entries_of t) → ((e : Entry) → (test e ≡ true) ↔ (e.stored ≡ s)) →
    Found (messages_of t) (value (messages_of t) s) r
searched t s older test None is tests =
    stored_nowhere t s older (λ k h e. both_ways _ (position-None test (entries_of t) k no_entry (sym is) h) ((tests _).1 e))
searched t s older test (Some k) is tests =
    let (h, passes, first) = position-Some test (entries_of t) k no_entry (sym is) in
    stored_found t s k h ((tests _).0 passes)

-- the facts of a table's entries
pub record Tabled (es : List Entry) : Type 0 where
  pub ordered : InOrder es
  pub sized : Sized es
  pub small : Small (meanings es)
  pub once : Distinct (meanings es)
  pub sorted : WellSorted (meanings es)

-- entries that mean these messages and have the facts of a table
pub record Grown (ms : List Message) (es : List Entry) : Type 0 where
  pub means : meanings es ≡ ms
  pub tabled : Tabled es

-- a new message put at the end of a table, or refused since the table is full
module _ (t : Messages) (e : Entry) (F : Fits (messages_of t) e) (new : (k : ℕ) → k < length (messages_of t) → at (messages_of t) k ≡ value (messages_of t) e.stored → ⊥) (es : List Entry) where
  pub grown : es ≡ entries_of t ++ e ∷ [] → Grown (messages_of t ++ value (messages_of t) e.stored ∷ []) es
  grown pushed =
      let means : meanings es ≡ messages_of t ++ value (messages_of t) e.stored ∷ [] = ap meanings pushed ∙ meanings_push (entries_of t) e in
      record {
        means = means;
        tabled = record {
          ordered = subst InOrder (sym pushed) (ordered_push (entries_of t) e t.ordered (let o = F.older in let l = length_meanings (entries_of t) in omega arith));
          sized = subst Sized (sym pushed) (sized_push (entries_of t) e t.sized F.sized);
          small = subst Small (sym means) (All-push (λ m. size m ≤ size_limit) (messages_of t) _ t.small (let s = F.sized in let l = F.small in omega arith));
          once = subst Distinct (sym means) (distinct_push (messages_of t) _ t.once new);
          sorted = subst WellSorted (sym means) (All-push (λ m. well_sorted m ≡ true) (messages_of t) _ t.sorted (F.sorted t.sorted));
        };
      }

  pub tabled : (r : Result ℕ Refusal) → Pushed 1024 (entries_of t) e r es → Tabled es
  tabled (Ok k) (number, few, pushed) = (grown pushed).tabled
  tabled (Err q) (eight, many, kept) =
      subst Tabled (sym kept) (record { ordered = t.ordered; sized = t.sized; small = t.small; once = t.once; sorted = t.sorted })

  pub admitted : (r : Result ℕ Refusal) → Pushed 1024 (entries_of t) e r es → Admitted (messages_of t) (value (messages_of t) e.stored) r (meanings es)
  admitted (Ok k) (number, few, pushed) =
      let long = length_meanings (entries_of t) in
      added (messages_of t) _ new k (meanings es) (omega (arith, number)) (omega (arith, number, few)) (grown pushed).means
  admitted (Err q) (eight, many, kept) =
      let long = length_meanings (entries_of t) in
      subst (λ (fs : List Entry). Admitted (messages_of t) (value (messages_of t) e.stored) (Err q) (meanings fs)) (sym kept)
      (over (messages_of t) _ new q eight (omega (arith, many)))
