use Rattle.spelling.proofs.spelled.SpelledDisplay.+fmt.Given as goal

-- parts have smaller numbers
abbrev pub decreases-fmt : goal.decreases-fmt
decreases-fmt g l = l.self.now.number
