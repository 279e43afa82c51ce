-- The refusals in words, as the programs print them.
use Rattle.std.specs.Prelude.{ℕ, List, codes}
use Rattle.refusal.specs.declared.Refusal.{Refusal}
use Rattle.refusal.specs.declared.Refusal.TheVariants.{
  Truncated,
  NotARecord,
  NotListed,
  NotThere,
  WrongSort,
  StandsAlready,
  DoesNotStand,
  OverLimit,
  BufferShort,
  RoleNotWellFormed,
}

abbrev pub in_words : Refusal → List ℕ
in_words Truncated = codes "the input ends inside this record"
in_words NotARecord = codes "no record of this kind and length belongs in this file"
in_words NotListed = codes "a field holds a value that is not listed, or should be 0 and is not"
in_words NotThere = codes "a field names something that is not there"
in_words WrongSort = codes "a field names something of the wrong sort"
in_words StandsAlready = codes "it stands already"
in_words DoesNotStand = codes "it does not stand"
in_words OverLimit = codes "a limit would be passed"
in_words BufferShort = codes "the buffer is too short"
in_words RoleNotWellFormed = codes "the role is not well formed"
