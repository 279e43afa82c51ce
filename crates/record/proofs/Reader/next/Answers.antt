-- The ways out of a call: at the end of the input, inside a head, and with a record.
-- (Tried without: the check does not find returns, and returns-in_err-body only at half its limits.)
use Rattle.std.proofs.Common.{refl, arith, ◌≡◌, ◌-◌}
use Rattle.std.proofs.lemmas.Grind.{common_steps}
use Rattle.std.proofs.lemmas.List.{take_rest}
use Rattle.record.specs.Reads.{left}
use Rattle.record.proofs.Readings.{answered, read}
use Rattle.record.proofs.Frames.{Head}
use Rattle.record.proofs.Reader.next.Goals as goal

pub returns : goal.returns
returns c =
    let found = c.in_ok-body.ensures.ok_part in
    let body = rw found at simp take_rest at c.get.ensures.lookup in
    let h : Head (left c.args.self.now) c.number-length.result c.number-kind.result = record {
      enough = simp take_rest at c.in-len4-up.len_at_least;
      size_is = simp take_rest at c.number-length.ensures;
      kind_is = simp take_rest at c.number-kind.ensures;
    } in
    let all : c.from.result - 0 ≡ c.number-length.result = omega arith in
    answered (record { input = refl; replied = read refl refl (omega arith) h (omega arith) (rw all at body.0.2) })

pub returns-in_err-body : goal.returns-in_err-body
returns-in_err-body c = grind (arith, common_steps)
