-- An event put behind the others of a strand, in the lists of events.
use Rattle.std.proofs.lemmas.Grind.{common_steps}
use Rattle.std.proofs.lemmas.List.{map-set}

pub ruleset added = (common_steps, map-set)
