-- A new message is put at the end or refused, with the table's facts kept either way.
-- (Tried without: the check does not find invariant_of-self and the two returns.)
use Rattle.std.proofs.Common.{Ok, Err, Result, ℕ, ap, sym, ◌∙◌, subst}
use Rattle.std.proofs.lemmas.Result.{err_from_is_err_and}
use Rattle.refusal.specs.declared.Refusal.{Refusal}
use Rattle.listing.specs.Held.{entries_of}
use Rattle.message.specs.Meaning.{meanings, value}
use Rattle.message.specs.Resolve.{Admitted}
use Rattle.message.specs.Table.{messages_of}
use Rattle.message.proofs.Meanings.{length_meanings}
use Rattle.message.proofs.Searched.{tabled, admitted}
use Rattle.message.proofs.table.Messages.append.Goals as goal

pub invariant_of-self : goal.invariant_of-self
invariant_of-self c =
    let es = entries_of c.push.new.self in
    let T = tabled c.args.self.now c.args.entry c.requires.fits c.requires.new es c.push.result c.push.ensures.pushed in
    record { counted = sym (length_meanings es); ordered = T.ordered; sized = T.sized; small = T.small; once = T.once; sorted = T.sorted }

pub returns-in_err-number-clause-admitted : goal.returns-in_err-number-clause-admitted
returns-in_err-number-clause-admitted c =
    let t = c.args.self.now in
    let es = entries_of c.push.new.self in
    let p = err_from_is_err_and c.from_residual.result c.from_residual.ensures.1 in
    subst (λ (r : Result ℕ Refusal). Admitted (messages_of t) (value (messages_of t) c.args.entry.stored) r (meanings es))
    (sym (p.1 ∙ ap {B = Result ℕ Refusal} Err p.2))
    (admitted t c.args.entry c.requires.fits c.requires.new es (Err c.in_err-number.field-0.0) c.in_err-number.ensures.pushed)

pub returns-clause-admitted : goal.returns-clause-admitted
returns-clause-admitted c =
    admitted c.args.self.now c.args.entry c.requires.fits c.requires.new (entries_of c.push.new.self) (Ok c.in_ok-number.number) c.in_ok-number.ensures.pushed
