-- A book of empty parts holds nothing.
-- (Tried without: the check does not find returns.)
use Rattle.std.proofs.Common.{arith}
use Rattle.book.proofs.Records.{begins}
use Rattle.book.proofs.book.Book.over.Goals as goal

pub returns : goal.returns
returns c = begins _ (grind arith)
