-- Each call of the closure gives the field of the pair at its index, and the pairs are the body.
-- (Tried without: the check does not find returns.)
use Rattle.std.proofs.Common.{◌≡◌, ℕ, zero, suc, ◌+◌, ◌*◌, ◌/◌, ◌%◌, ◌<◌, List, [], ◌∷◌, length, get_or, sym, refl, rules, arith}
use denote.Param.Members.{Mut, Called}
use Rattle.std.specs.Array.{IsFromFnResultFrom}
use Rattle.std.specs.Simd.{first_chunks}
use Rattle.record.specs.Frame.{two_bytes}
use Rattle.record.specs.Fields.{flat}
use Rattle.record.proofs.Record.fields.Goals as goal

-- what n calls in a row give, where a call changes nothing
each_call : {F B : Type 0} (g : Mut F (ℕ × Unit {0}) B) (f : F) (P : ℕ → B → Type 0) →
    ((i : ℕ) (y : B) (q : F) → Called g f (i, tt) y q → (q ≡ f) × P i y) →
    (ys : List B) (i n : ℕ) → IsFromFnResultFrom g f ys i n → (d : B) (k j : ℕ) → k < n → i + k ≡ j → P j (get_or ys j d)
each_call g f P step ys i zero made d k j l e = absurd (omega arith)
each_call g f P step ys i (suc n) made d zero j l e =
    let here : j ≡ i = omega arith in
    rw (here, made.2.1 d) (step i _ _ made.3).1
each_call g f P step ys i (suc n) made d (suc k) j l e =
    let same : f ≡ made.0 = sym (step i _ _ made.3).0 in
    each_call g f P step ys (i + 1) n (rw same made.4) d k j (omega arith) (omega arith)

-- fields that are each a pair of the body are the body
pairs_are : (fields body : List ℕ) → length body ≡ 2 * length fields →
    ((k : ℕ) → k < length fields → two_bytes (get_or fields k 0) ≡ get_or (first_chunks 2 (length fields) body) k []) → body ≡ flat fields
pairs_are [] [] l each = refl
pairs_are [] (a ∷ body) l each = absurd (omega arith)
pairs_are (f ∷ fields) [] l each = absurd (omega arith)
pairs_are (f ∷ fields) (a ∷ []) l each = absurd (omega arith)
pairs_are (f ∷ fields) (a ∷ b ∷ body) l each =
    let first = each 0 (omega arith) in
    let rest = pairs_are fields body (omega arith) (λ k h. each (suc k) (omega arith)) in
    cc

pub returns : goal.returns
returns g c =
    let body = c.args.self.now.body.now in
    let filled = c.from_fn.ensures.items in
    let many : length c.as_chunks.result.0.now ≡ length body / 2 = c.as_chunks.ensures.front_len in
    let odd : length c.as_chunks.result.1.now ≡ length body % 2 = c.as_chunks.ensures.back_len in
    let half : length body / 2 ≡ length c.from_fn.result = omega arith in
    let pairs : c.as_chunks.result.0.now ≡ first_chunks 2 (length c.from_fn.result) body = rw half at c.as_chunks.ensures.front in
    let made = each_call _ _ (λ i field. two_bytes field ≡ get_or c.as_chunks.result.0.now i []) (λ i y q k. search rules) _ 0 _ filled.each 0 in
    record {
      size = omega arith;
      count = filled.long;
      bytes = pairs_are _ body (omega arith) (λ k l. rw pairs at made k k (omega arith) (omega arith));
    }
