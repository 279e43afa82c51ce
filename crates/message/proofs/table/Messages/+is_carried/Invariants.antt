use Rattle.message.proofs.table.Messages.+is_carried.Given as goal

-- parts have smaller numbers
abbrev pub decreases-is_carried : goal.decreases-is_carried
decreases-is_carried l = l.outer
