-- A message carries itself.
-- (Tried without: the check does not find returns-then-inner-outer.)
use Rattle.message.specs.Table.{messages_of}
use Rattle.message.proofs.Carries.{tells_itself}
use Rattle.message.proofs.table.Messages.+is_carried.Goals as goal

pub returns-then-inner-outer : goal.returns-then-inner-outer
returns-then-inner-outer t c = tells_itself (messages_of c.args.self.now) c.args.inner c.args.outer c.if-inner-outer.true
