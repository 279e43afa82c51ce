-- Numbers are equal exactly when the terms that they stand for are equal in the algebra.
use Rattle.std.proofs.Common.{sym, ap, ◌∙◌}
use Rattle.message.specs.Meaning.{at}
use Rattle.message.specs.Table.{NumbersAgree, messages_of}
use Rattle.message.proofs.Terms.{algebra}

pub numbers_agree : NumbersAgree
numbers_agree t i j a b hi hj fa fb na nb = (
  (λ e. algebra.complete a b fa fb (na ∙ (ap (at (messages_of t)) e ∙ sym nb))),
  (λ q. t.once i j (hi, hj, sym na ∙ (algebra.sound a b q ∙ nb))),
)
