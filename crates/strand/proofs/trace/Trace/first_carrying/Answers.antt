-- The first event that carries the value decides, and no value originates twice on any trace.
-- (Tried without: the check does not find the loop and the two returns.)
use Rattle.std.proofs.Common.{refl, below_more}
use Rattle.std.proofs.lemmas.Bool.{false≢true}
use Rattle.strand.proofs.Traces.{carries, decided, once, past_end}
use Rattle.strand.proofs.trace.Trace.first_carrying.Goals as goal

pub loop-index-preserved : goal.loop-index-preserved
loop-index-preserved c =
    let here = carries _ c.args.self.now.events.now _ _ c.loop-index-test.true in
    below_more _ _ c.loop-index.invariant (λ h. false≢true (c.if-carries.ensures.1 (here.1 h)))

pub returns-then-carries : goal.returns-then-carries
returns-then-carries c =
    let here = carries _ c.args.self.now.events.now _ _ c.loop-index-test.true in
    record { decided = decided _ c.args.self.now.events.now _ _ _ c.loop-index-test.true refl (here.0 (c.if-carries.ensures.0 refl)) c.loop-index.invariant; once = once }

pub returns : goal.returns
returns c = record { decided = past_end _ c.args.self.now.events.now _ _ c.loop-index.invariant c.loop-index-test.false; once = once }
