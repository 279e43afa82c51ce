-- Notes of the calls made of one book, and what stands by them.
use Rattle.std.specs.Prelude.{List, [], ◌∷◌, map}
use Rattle.book.specs.Entries.{Entries, none}
use Rattle.book.specs.Calls.{Call, Reply, after}

-- a call with the reply that it got
pub record Note : Type 0 where
  pub call : Call
  pub reply : Reply call

abbrev pub note : (c : Call) → Reply c → Note
note c r = record { call = c; reply = r }

abbrev pub calls : List Note → List Call
calls ns = map (λ (n : Note). n.call) ns

-- what stands after these calls, one after the other
abbrev pub after_all : Entries → List Call → Entries
after_all e [] = e
after_all e (c ∷ cs) = after_all (after e c) cs

-- what stands by these calls, from a new book on: no reply can matter
abbrev pub standing : List Call → Entries
standing cs = after_all none cs
