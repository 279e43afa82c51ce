-- Assumptions on messages are told apart by their messages or, in one table, by the messages' numbers.
use Rattle.std.proofs.Common.{◌≡◌, ℕ, ◌<◌, ◌≤◌, eqb, List, map, length, get_or, arith}
use Rattle.listing.specs.Place.{place}
use Rattle.listing.proofs.Places.{place_map}
use Rattle.message.specs.Message.{Message}
use Rattle.message.specs.Meaning.{Distinct, at}
use Rattle.message.specs.Same.{same, same_true, true_same}
use Rattle.strand.proofs.Nodes.{equal_nodes}
use Rattle.assumption.specs.declared.assumption.Assumption.{Assumption}
use Rattle.assumption.specs.Assumption.{EqualAssumptions, ValuesWithin, same_assumption, same_by, supposed, value_reach}

-- the test of messages and that of their numbers agree in a table that holds none twice
same_at : (ms : List Message) → Distinct ms → (v w : ℕ) → v < length ms → w < length ms → same (at ms v) (at ms w) ≡ eqb v w
same_at ms once v w hv hw = grind (arith, once, same_true, true_same)

same_supposed : (ms : List Message) → Distinct ms → (a b : Assumption ℕ) → value_reach a ≤ length ms → value_reach b ≤ length ms →
    same_assumption (supposed ms a) (supposed ms b) ≡ same_by eqb a b
same_supposed ms once a b ha hb = grind (arith, same_at)

-- an assumption has one place, by messages and by numbers
pub place_supposed : (ms : List Message) → Distinct ms → (xs : List (Assumption ℕ)) (a : Assumption ℕ) → ValuesWithin ms xs → value_reach a ≤ length ms →
    place same_assumption (supposed ms a) (map (supposed ms) xs) ≡ place (same_by eqb) a xs
place_supposed ms once xs a within h =
    place_map (same_by eqb) same_assumption (supposed ms) a a xs (λ k l. same_supposed ms once (get_or xs k a) a (within k a l) h)

-- two assumptions of one kind are one exactly when their parts are, and two of different kinds never
pub equal_assumptions : EqualAssumptions
equal_assumptions a b = grind (arith, same_true, true_same, equal_nodes)
