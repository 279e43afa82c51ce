-- Four head bytes and a long enough rest begin with one record, and no other.
use Rattle.std.proofs.Common.{◌≡◌, ℕ, ◌+◌, ◌*◌, ◌/◌, ◌%◌, ◌<◌, ◌≤◌, List, [], ◌∷◌, ◌++◌, length, get_or, take, drop, sym, refl, ap, ◌∙◌, arith}
use Rattle.std.proofs.lemmas.List.{take-append-drop, take_at, drop_at, drop-drop}
use Rattle.record.specs.Frame.{Framed, two_bytes, frame}

pub length_frame : (r : Framed) → length (frame r) ≡ 4 + length r.body
length_frame r = omega arith

-- two bytes are the number that they make
pub two_bytes_of : (low high n : ℕ) → low < 256 → n ≡ low + high * 256 → two_bytes n ≡ low ∷ high ∷ []
two_bytes_of low high n h e =
    let l : n % 256 ≡ low = omega arith in
    let m : n / 256 ≡ high = omega arith in
    cc

-- bytes enough for a head are four and a rest
head_and_rest : (bytes : List ℕ) → 4 ≤ length bytes →
    bytes ≡ get_or bytes 0 0 ∷ get_or bytes 1 0 ∷ get_or bytes 2 0 ∷ get_or bytes 3 0 ∷ drop 4 bytes
head_and_rest [] h = absurd (omega arith)
head_and_rest (a ∷ []) h = absurd (omega arith)
head_and_rest (a ∷ b ∷ []) h = absurd (omega arith)
head_and_rest (a ∷ b ∷ c ∷ []) h = absurd (omega arith)
head_and_rest (a ∷ b ∷ c ∷ d ∷ rest) h = refl

-- four bytes that state a size and a kind
pub record Head (bytes : List ℕ) (size kind : ℕ) : Type 0 where
  pub enough : 4 ≤ length bytes
  pub size_is : two_bytes size ≡ get_or bytes 0 0 ∷ get_or bytes 1 0 ∷ []
  pub kind_is : two_bytes kind ≡ get_or bytes 2 0 ∷ get_or bytes 3 0 ∷ []

-- where a record's head and then its body stand, the bytes are that record and what follows it
pub begins_with : {bytes : List ℕ} {size : ℕ} (r : Framed) → Head bytes size r.kind → length r.body ≡ size → r.body ≡ take size (drop 4 bytes) →
    bytes ≡ frame r ++ drop (4 + length r.body) bytes
begins_with {bytes} {size} r h n b =
    let all = head_and_rest bytes h.enough in
    let s = h.size_is in
    let k = h.kind_is in
    let far = drop-drop size 4 bytes in
    let back = take-append-drop size (drop 4 bytes) in
    cc

-- bytes that begin with two records begin with one
pub same_front : (r q : Framed) (t u : List ℕ) → frame r ++ t ≡ frame q ++ u → (r.kind ≡ q.kind) × (r.body ≡ q.body) × (t ≡ u)
same_front r q t u e =
    let a : length r.body % 256 ≡ length q.body % 256 = cc in
    let b : length r.body / 256 ≡ length q.body / 256 = cc in
    let c : r.kind % 256 ≡ q.kind % 256 = cc in
    let d : r.kind / 256 ≡ q.kind / 256 = cc in
    let rest : r.body ++ t ≡ q.body ++ u = cc in
    let n : length q.body ≡ length r.body = omega arith in (
      omega arith,
      sym (take_at r.body t _ refl) ∙ ap (take (length r.body)) rest ∙ take_at q.body u _ n,
      sym (drop_at r.body t _ refl) ∙ ap (drop (length r.body)) rest ∙ drop_at q.body u _ n,
    )
