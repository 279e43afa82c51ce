-- The test of arrows holds exactly of equal ones.
use Rattle.std.proofs.Common.{arith}
use Rattle.strand.proofs.Nodes.{equal_nodes}
use Rattle.bundle.specs.Arrow.{EqualArrows}

pub equal_arrows : EqualArrows
equal_arrows a b = grind (arith, equal_nodes)
