-- `assume`: what it answers, and what stands after it.
use Rattle.std.specs.Prelude.{ℕ, Bool, cond, not, ◌&&◌, ◌||◌, List, [], ◌∷◌, ◌++◌, length, is_some, Result, ◌==◌}
use Rattle.refusal.specs.Rows.{Rule, first_row, unless_refused}
use Rattle.listing.specs.Listing.{append_rules}
use Rattle.message.specs.Message.{Message, sort_of}
use Rattle.message.specs.Meaning.{at}
use Rattle.message.specs.Enter.{there}
use Rattle.strand.specs.Event.{is_channel}
use Rattle.strand.specs.Node.{Node, is_node, same_node}
use Rattle.assumption.specs.declared.assumption.Assumption.{Assumption}
use Rattle.assumption.specs.declared.assumption.Assumption.TheVariants.{NonOriginating, UniquelyOriginating, Authenticated, Confidential}
use Rattle.assumption.specs.declared.assumption.Kind.TheVariants.{NonOriginating as OfNon, UniquelyOriginating as OfUnique, Authenticated as OfAuthenticated}
use Rattle.assumption.specs.Assumption.{about_channel, about_message, assumption_limit, is_kind, kind_number, same_assumption}
use Rattle.book.specs.Entries.{Entries, with_assumptions}

-- the assumption that the arguments name: the value is a message's number in kinds 1 and 2 and a channel in kinds 3 and 4
-- (the last case also takes the numbers that are no kind's: the rules refuse those before)
abbrev pub named_assumption : List Message → ℕ → ℕ → Node → Assumption Message
named_assumption ms kind value origin =
    cond (kind == kind_number OfNon) (NonOriginating (at ms value))
    (cond (kind == kind_number OfUnique) (UniquelyOriginating (at ms value) origin)
    (cond (kind == kind_number OfAuthenticated) (Authenticated value) (Confidential value)))

-- none of the four kinds, or a strand or index that is not 0 in a kind that names no origin
abbrev pub kind_unlisted : ℕ → Node → Bool
kind_unlisted kind origin = not (is_kind kind) || (not (kind == kind_number OfUnique) && not (same_node origin (0, 0)))

-- a message or an origin that is not there, or a number that is no channel's
abbrev pub subject_missing : {X : Type 0} → List Message → List (List X) → ℕ → ℕ → Node → Bool
subject_missing ms ss kind value origin =
    (about_message kind && not (there ms value))
    || ((kind == kind_number OfUnique && not (is_node ss origin)) || (about_channel kind && not (is_channel value)))

-- a message that is no basic value
abbrev pub not_basic : List Message → ℕ → ℕ → Bool
not_basic ms kind value = about_message kind && not (is_some (sort_of (at ms value)))

-- the rows that can fit the arguments, lowest first
abbrev pub assumption_rules : {X : Type 0} → List Message → List (List X) → ℕ → ℕ → Node → List Rule
assumption_rules ms ss kind value origin =
    (3, kind_unlisted kind origin) ∷ (4, subject_missing ms ss kind value origin) ∷ (5, not_basic ms kind value) ∷ []

-- behind those: an assumption that stands; as many assumptions as a book holds
abbrev pub assume_rules : Entries → ℕ → ℕ → Node → List Rule
assume_rules e kind value origin =
    assumption_rules e.messages e.strands kind value origin
    ++ append_rules same_assumption assumption_limit e.assumptions (named_assumption e.messages kind value origin)

-- the new assumption's position
abbrev pub assume_reply : Entries → ℕ → ℕ → Node → Result ℕ ℕ
assume_reply e kind value origin = first_row (assume_rules e kind value origin) (length e.assumptions)

-- the assumption comes last
abbrev pub after_assume : Entries → ℕ → ℕ → Node → Entries
after_assume e kind value origin =
    unless_refused (assume_reply e kind value origin)
    (with_assumptions e (e.assumptions ++ named_assumption e.messages kind value origin ∷ []))
    e
