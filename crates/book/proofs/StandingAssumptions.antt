-- An assumption that no row refuses can stand.
use Rattle.std.proofs.Common.{◌≡◌, ℕ, true, false, not, ◌&&◌, eqb, List, arith}
use Rattle.std.proofs.lemmas.List.Elements.{Contains-get_or}
use Rattle.std.proofs.lemmas.Bool.{and_parts, cond_both, eq-eqb, eqb-false, leb-true, ltb-true, not-false, or_left, or_parts, or_right}
use Rattle.message.specs.declared.stored.Symbol.TheVariants.{AsymmetricKey}
use Rattle.message.specs.Message.{Message, symbol}
use Rattle.message.specs.Meaning.{at}
use Rattle.message.specs.Enter.{there}
use Rattle.strand.specs.Event.{is_channel}
use Rattle.strand.specs.Node.{Node, is_node}
use Rattle.strand.specs.Trace.{Trace}
use Rattle.assumption.specs.Assumption.{about_channel, about_message, is_kind}
use Rattle.book.specs.Assume.{kind_unlisted, named_assumption, not_basic, subject_missing}
use Rattle.book.specs.Orderly.{BasicValue, IsChannel, IsNode, StandingAssumption}
use Rattle.book.proofs.Passing.{asked}

module _ (ms : List Message) (ss : List Trace) (kind value : ℕ) (origin : Node) (listed : kind_unlisted kind origin ≡ false)
    (present : subject_missing ms ss kind value origin ≡ false) (basic : not_basic ms kind value ≡ false) where
  subject : ((about_message kind && not (there ms value)) ≡ false) × ((eqb kind 2 && not (is_node ss origin)) ≡ false) ×
      ((about_channel kind && not (is_channel value)) ≡ false)
  subject = let (m, rest) = or_parts _ _ present in let (n, c) = or_parts _ _ rest in (m, n, c)

  value_stands : about_message kind ≡ true → BasicValue ms (at ms value)
  value_stands t =
      record {
        stands = Contains-get_or ms value (symbol AsymmetricKey 0) (ltb-true _ _ (asked _ _ subject.0 t));
        basic = asked _ _ basic t;
      }

  origin_there : eqb kind 2 ≡ true → IsNode ss origin
  origin_there t = asked _ _ subject.1 t

  channel_there : about_channel kind ≡ true → IsChannel value
  channel_there t = asked _ _ subject.2 t

  -- a kind that is none of the first three is the last
  last : eqb kind 1 ≡ false → eqb kind 2 ≡ false → eqb kind 3 ≡ false → eqb kind 4 ≡ true
  last a b c =
      let range = and_parts _ _ (not-false (is_kind kind) (or_parts _ _ listed).0) in
      let low = leb-true 1 kind range.0 in
      let high = leb-true kind 4 range.1 in
      eq-eqb kind 4 (omega (arith, low, high, eqb-false _ _ a, eqb-false _ _ b, eqb-false _ _ c))

  pub named_stands : StandingAssumption ms ss (named_assumption ms kind value origin)
  named_stands =
      cond_both (eqb kind 1) _ _ (StandingAssumption ms ss) (λ t. value_stands (or_left _ _ t))
      (λ a. cond_both (eqb kind 2) _ _ (StandingAssumption ms ss) (λ t. (value_stands (or_right _ _ t), origin_there t))
      (λ b. cond_both (eqb kind 3) _ _ (StandingAssumption ms ss) (λ t. channel_there (or_left _ _ t))
      (λ c. channel_there (or_right _ _ (last a b c)))))
