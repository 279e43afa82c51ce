-- A table without entries is a new one.
-- (Tried without: the check does not find returns.)
use Rattle.std.proofs.Common.{rules}
use Rattle.message.proofs.Beginning.{begins}
use Rattle.message.proofs.table.Messages.new.Goals as goal

pub returns : goal.returns
returns c = begins _ (search rules)
