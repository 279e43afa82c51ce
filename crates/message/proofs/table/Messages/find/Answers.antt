-- The place of an entry that stores the same is the message's number.
-- (Tried without: the check does not find returns.)
use Rattle.std.proofs.Common.{◌≡◌, sym, subst, rules}
use Rattle.message.specs.Meaning.{value}
use Rattle.message.specs.Resolve.{Found}
use Rattle.message.specs.Table.{messages_of}
use Rattle.message.proofs.Searched.{searched}
use Rattle.message.proofs.table.Messages.find.Goals as goal

pub returns : goal.returns
returns c =
    let t = c.args.self.now in
    let s = c.args.entry.stored in
    let number : c.map.result ≡ c.place.result = search rules in
    subst (Found (messages_of t) (value (messages_of t) s)) (sym number)
    (searched t s c.requires _ c.place.result c.place.ensures (λ e. search rules))
