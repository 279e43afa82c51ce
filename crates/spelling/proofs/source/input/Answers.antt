-- The known bytes of the source, cut at the limit, stay when they are cut there again.
-- (Tried without: the check does not find returns-clause-first.)
use Rattle.std.proofs.Common.{◌≡◌, ℕ, List, [], ◌++◌, take, IfSome, Option, None, Some, arith}
use Rattle.std.proofs.lemmas.Grind.{common_steps}
use Rattle.std.specs.Option.{option_map}
use Rattle.spelling.proofs.source.input.Goals as goal
use Rattle.spelling.specs.declared.source.TheConstants.{INPUT_LIMIT}

again : (n : ℕ) (xs old bs cut : List ℕ) → old ≡ [] → bs ≡ old ++ take n xs → cut ≡ take n bs → cut ≡ take n xs
again n xs old bs cut empty read e = grind (arith, common_steps)

cut_twice : (n : ℕ) (known : Option (List ℕ)) (old bs cut : List ℕ) → old ≡ [] →
    IfSome (option_map (take n) known) (λ xs. bs ≡ old ++ xs) → cut ≡ take n bs → IfSome known (λ xs. cut ≡ take n xs)
cut_twice n None old bs cut empty read e = tt
cut_twice n (Some xs) old bs cut empty read e = again n xs old bs cut empty read e

pub returns-clause-first : goal.returns-clause-first
returns-clause-first g c =
    let read = rw (c.limited.ensures.limit, c.limited.ensures.inner) at c.in_ok-read_to_end.ensures.bytes in
    cut_twice INPUT_LIMIT (g.R.Read.remaining c.args.source) c.new-bytes.result.items c.read_to_end.new.buf.items c.truncate.new.self.items
    c.new-bytes.ensures.items read c.truncate.ensures.items
