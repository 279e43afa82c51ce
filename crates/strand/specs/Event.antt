-- Events: the numbers of signs and ways, and events with messages in place of their numbers.
use Rattle.std.specs.Prelude.{◌≡◌, ℕ, ◌<◌, ◌≤◌, Bool, cond, ◌&&◌, List, Result, MatchResult, ◌==◌, nat_le}
use Rattle.refusal.specs.declared.Refusal.{Refusal}
use Rattle.refusal.specs.declared.Refusal.TheVariants.{NotListed}
use Rattle.message.specs.Message.{Message}
use Rattle.message.specs.Meaning.{at}
use Rattle.strand.specs.declared.event.Sign.{Sign}
use Rattle.strand.specs.declared.event.Sign.TheVariants.{Receives, Transmits}
use Rattle.strand.specs.declared.event.Way.{Way}
use Rattle.strand.specs.declared.event.Way.TheVariants.{Plain, Channel}
use Rattle.strand.specs.declared.event.Event.{Event}

-- the signs by number
abbrev pub sign_number : Sign → ℕ
sign_number Receives = 0
sign_number Transmits = 1

-- whether a number is a sign's
abbrev pub is_sign : ℕ → Bool
is_sign n = nat_le n (sign_number Transmits)

-- the sign with a number (numbers from 2 on are no sign's: the rules refuse those before)
abbrev pub sign_at : ℕ → Sign
sign_at n = cond (n == 0) Receives Transmits

-- what is answered for a number: the sign with it, or that it is not listed
abbrev pub SignListed : ℕ → Result Sign Refusal → Type 0
SignListed n r = MatchResult r (λ s. (n ≤ 1) × (sign_number s ≡ n) × (s ≡ sign_at n)) (λ e. (1 < n) × (e ≡ NotListed))

-- the ways by number
abbrev pub way_number : Way → ℕ
way_number Plain = 0
way_number (Channel c) = c

-- the way with a number
abbrev pub way_at : ℕ → Way
way_at n = cond (n == 0) Plain (Channel n)

-- channels are numbered from 1 to this
abbrev pub channel_limit : ℕ
channel_limit = 64

-- whether a number is a channel's
abbrev pub is_channel : ℕ → Bool
is_channel n = nat_le 1 n && nat_le n channel_limit

-- an event with its message in place of the message's number
abbrev pub meant : List Message → Event ℕ → Event Message
meant ms e = record { sign = e.sign; way = e.way; message = at ms e.message }
