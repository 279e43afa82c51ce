-- What a look-up by number gives.
use Rattle.std.proofs.Common.{◌≡◌, ℕ, ◌<◌, ◌≤◌, length, get_or, Some, None, Option, sym, ap, ◌∙◌, subst, arith, MatchOption}
use Rattle.message.specs.declared.stored.Entry.{Entry}
use Rattle.message.specs.declared.table.Messages.{Messages}
use Rattle.message.specs.Message.{size}
use Rattle.message.specs.Meaning.{at, value, reach, no_entry}
use Rattle.message.specs.Table.{entries_of, messages_of, Holds}
use Rattle.message.proofs.Meanings.{length_meanings, meaning_at}

-- an entry that was read off the list is the message's
pub holds : (t : Messages) (n : ℕ) (e : Entry) → n < length (entries_of t) → e ≡ get_or (entries_of t) n no_entry → Holds (messages_of t) n e
holds t n e h is =
    let long = length_meanings (entries_of t) in
    let l : n < length (messages_of t) = omega arith in
    let sized : e.size ≡ size (at (messages_of t) n) = ap (λ (e : Entry). e.size) is ∙ t.sized n h in
    record {
      stands = record {
        there = l;
        means = ap (λ (e : Entry). value (messages_of t) e.stored) is ∙ sym (meaning_at (entries_of t) n t.ordered h);
        older = subst (λ (e : Entry). reach e.stored ≤ n) (sym is) (t.ordered n h);
      };
      sizes = record { there = l; is = sized };
      small = let s = t.small n (at (messages_of t) n) l in omega (arith, sized);
    }

pub looked_up : (t : Messages) (n : ℕ) (r : Option Entry) →
    MatchOption r (length (entries_of t) ≤ n) (λ e. (n < length (entries_of t)) × (e ≡ get_or (entries_of t) n no_entry)) →
    MatchOption r (length (messages_of t) ≤ n) (Holds (messages_of t) n)
looked_up t n None h = let long = length_meanings (entries_of t) in omega arith
looked_up t n (Some e) h = holds t n e h.0 h.1
