-- Assumptions: their kinds by number, and assumptions on messages in place of their numbers.
use Rattle.std.specs.Prelude.{◌≡◌, ℕ, ◌+◌, ◌≤◌, Bool, true, false, ◌&&◌, ◌||◌, ◌↔◌, List, length, ◌==◌, nat_le, All}
use Rattle.message.specs.Message.{Message}
use Rattle.message.specs.Meaning.{at}
use Rattle.message.specs.Same.{same}
use Rattle.strand.specs.Node.{same_node}
use Rattle.assumption.specs.declared.assumption.Kind.{Kind}
use Rattle.assumption.specs.declared.assumption.Kind.TheVariants.{NonOriginating as OfNon, UniquelyOriginating as OfUnique, Authenticated as OfAuthenticated, Confidential as OfConfidential}
use Rattle.assumption.specs.declared.assumption.Assumption.{Assumption}
use Rattle.assumption.specs.declared.assumption.Assumption.TheVariants.{NonOriginating, UniquelyOriginating, Authenticated, Confidential}

-- The limit: how many assumptions a book holds.
abbrev pub assumption_limit : ℕ
assumption_limit = 256

-- the kinds by number
abbrev pub kind_number : Kind → ℕ
kind_number OfNon = 1
kind_number OfUnique = 2
kind_number OfAuthenticated = 3
kind_number OfConfidential = 4

-- whether a number is a kind's
abbrev pub is_kind : ℕ → Bool
is_kind n = nat_le (kind_number OfNon) n && nat_le n (kind_number OfConfidential)

-- whether the kind with a number is about a message, or about a channel
abbrev pub about_message : ℕ → Bool
about_message n = n == kind_number OfNon || n == kind_number OfUnique

abbrev pub about_channel : ℕ → Bool
about_channel n = n == kind_number OfAuthenticated || n == kind_number OfConfidential

-- the kind of an assumption
abbrev pub kind_of : {V : Type 0} → Assumption V → Kind
kind_of (NonOriginating v) = OfNon
kind_of (UniquelyOriginating v n) = OfUnique
kind_of (Authenticated c) = OfAuthenticated
kind_of (Confidential c) = OfConfidential

-- an assumption on a message in place of the message's number
abbrev pub supposed : List Message → Assumption ℕ → Assumption Message
supposed ms (NonOriginating v) = NonOriginating (at ms v)
supposed ms (UniquelyOriginating v n) = UniquelyOriginating (at ms v) n
supposed ms (Authenticated c) = Authenticated c
supposed ms (Confidential c) = Confidential c

-- how many messages must stand for the value's number to be one of theirs
abbrev pub value_reach : Assumption ℕ → ℕ
value_reach (NonOriginating v) = v + 1
value_reach (UniquelyOriginating v n) = v + 1
value_reach (Authenticated c) = 0
value_reach (Confidential c) = 0

-- each value is a message's number
abbrev pub ValuesWithin : List Message → List (Assumption ℕ) → Type 0
ValuesWithin ms xs = All (λ a. value_reach a ≤ length ms) xs

-- whether two assumptions are one, by a test of their values
abbrev pub same_by : {V : Type 0} → (V → V → Bool) → Assumption V → Assumption V → Bool
same_by test (NonOriginating v) (NonOriginating w) = test v w
same_by test (NonOriginating v) (UniquelyOriginating w n) = false
same_by test (NonOriginating v) (Authenticated d) = false
same_by test (NonOriginating v) (Confidential d) = false
same_by test (UniquelyOriginating v m) (NonOriginating w) = false
same_by test (UniquelyOriginating v m) (UniquelyOriginating w n) = test v w && same_node m n
same_by test (UniquelyOriginating v m) (Authenticated d) = false
same_by test (UniquelyOriginating v m) (Confidential d) = false
same_by test (Authenticated c) (NonOriginating w) = false
same_by test (Authenticated c) (UniquelyOriginating w n) = false
same_by test (Authenticated c) (Authenticated d) = c == d
same_by test (Authenticated c) (Confidential d) = false
same_by test (Confidential c) (NonOriginating w) = false
same_by test (Confidential c) (UniquelyOriginating w n) = false
same_by test (Confidential c) (Authenticated d) = false
same_by test (Confidential c) (Confidential d) = c == d

abbrev pub same_assumption : Assumption Message → Assumption Message → Bool
same_assumption a b = same_by same a b

-- the test holds exactly of equal assumptions
abbrev pub EqualAssumptions : Type 0
EqualAssumptions = (a b : Assumption Message) → (same_assumption a b ≡ true) ↔ (a ≡ b)
