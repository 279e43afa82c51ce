-- The test of nodes holds exactly of equal ones.
use Rattle.std.proofs.Common.{◌≡◌, true, ◌↔◌, arith}
use Rattle.strand.specs.Node.{Node, same_node}

pub equal_nodes : (m n : Node) → (same_node m n ≡ true) ↔ (m ≡ n)
equal_nodes m n = grind arith
