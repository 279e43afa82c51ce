-- One more note: what then stands, and that every reply is still the defined one.
use Rattle.std.proofs.Common.{◌≡◌, List, [], ◌∷◌, ◌++◌, length, refl, ap, subst, arith, length-append}
use Rattle.book.specs.Entries.{Entries}
use Rattle.book.specs.Calls.{after, Defined}
use Rattle.book.specs.Notes.{Note, calls, after_all}

-- the calls of some notes and then of others are made one after the other
pub after_append : (e : Entries) (ns ms : List Note) → after_all e (calls (ns ++ ms)) ≡ after_all (after_all e (calls ns)) (calls ms)
after_append e [] ms = refl
after_append e (n ∷ ns) ms = after_append (after e n.call) ns ms

-- every reply is the defined one for what stands by the calls before it, where e stood at first
abbrev pub Replies : Entries → List Note → Type 0
Replies e ns = (before : List Note) (n : Note) (behind : List Note) → ns ≡ before ++ n ∷ behind →
    Defined (after_all e (calls before)) n.call n.reply

pub replies_none : (e : Entries) → Replies e []
replies_none e before n behind p = absurd (omega (arith, simp length-append at (ap length p)))

pub replies_push : (e : Entries) (ns : List Note) (n : Note) → Replies e ns →
    Defined (after_all e (calls ns)) n.call n.reply → Replies e (ns ++ n ∷ [])
replies_push e [] n h d [] m behind p =
    let q : n ≡ m = cc in subst (λ (z : Note). Defined e z.call z.reply) q d
replies_push e [] n h d (b ∷ bs) m behind p = absurd (let l = ap length p in omega (arith, simp length-append at l))
replies_push e (a ∷ ns) n h d [] m behind p =
    let q : a ≡ m = cc in subst (λ (z : Note). Defined e z.call z.reply) q (h [] a ns refl)
replies_push e (a ∷ ns) n h d (b ∷ bs) m behind p =
    let q : a ≡ b = cc in
    let t : ns ++ n ∷ [] ≡ bs ++ m ∷ behind = cc in
    subst (λ (z : Note). Defined (after_all (after e z.call) (calls bs)) m.call m.reply) q
    (replies_push (after e a.call) ns n (λ cs k ks u. h (a ∷ cs) k ks (ap (λ (zs : List Note). a ∷ zs) u)) d bs m behind t)
