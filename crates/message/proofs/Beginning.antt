-- A table without entries is a new one.
use Rattle.std.proofs.Common.{◌≡◌, [], ap}
use Rattle.message.specs.declared.table.Messages.{Messages}
use Rattle.message.specs.Meaning.{meanings}
use Rattle.message.specs.Table.{Begins, entries_of}
use Rattle.message.proofs.Carrying.{carrying}
use Rattle.message.proofs.Numbers.{numbers_agree}
use Rattle.message.proofs.Terms.{algebra}

pub begins : (t : Messages) → entries_of t ≡ [] → Begins t
begins t empty = record { empty = ap meanings empty; algebra = algebra; carrying = carrying; numbers = numbers_agree }
