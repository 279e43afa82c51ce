-- Numbers that `enter` answers stay those of their messages, so that two of them are equal exactly when the messages are.
use Rattle.std.proofs.Common.{◌≡◌, ℕ, ◌<◌, ◌≤◌, Bool, true, false, cond, ◌↔◌, List, [], ◌∷◌, ◌++◌, length, get_or, Ok, Err, Result, sym, refl, ap, ◌∙◌, subst, arith, length-append}
use Rattle.std.proofs.lemmas.Bool.{ltb-true, ltb-false}
use Rattle.refusal.specs.Rows.{Rule, first_row, unless_refused}
use Rattle.std.proofs.lemmas.List.Sums.{passes_at_first}
use Rattle.listing.proofs.Places.{place_keep, place_le, place_push}
use Rattle.message.specs.declared.stored.Symbol.TheVariants.{AsymmetricKey}
use Rattle.message.specs.Message.{Message, symbol}
use Rattle.message.specs.Same.{same, same_true, true_same}
use Rattle.message.specs.Enter.{after_enter, enter_reply, enter_rules, named, number_of, stands, with_message}
use Rattle.book.specs.Entries.{Entries, none}
use Rattle.book.specs.Calls.{Call, Enter, Open, Add, Draw, Strike, Assume, Release, after}
use Rattle.book.specs.Notes.{Note, note, calls, after_all, standing}
use Rattle.book.specs.Sound.{Given}
use Rattle.book.proofs.Histories.{Replies, after_append}

-- m has the number k among ms
record Has (ms : List Message) (m : Message) (k : ℕ) : Type 0 where
  pub at : number_of ms m ≡ k
  pub below : k < length ms

has_more : (ms ns : List Message) (m : Message) (k : ℕ) → Has ms m k → Has (ms ++ ns) m k
has_more ms ns m k h =
    record { at = place_keep same m ms ns (rw h.at h.below) ∙ h.at; below = simp length-append (omega (arith, h.below)) }

has_new : (ms : List Message) (m : Message) → length ms ≤ number_of ms m → Has (ms ++ m ∷ []) m (length ms)
has_new ms m l = record { at = place_push same m ms l (true_same m m refl); below = simp length-append (omega arith) }

-- an answer is the one defined
answer_is : (rules : List Rule) (x k : ℕ) → Ok k ≡ first_row rules x → k ≡ x
answer_is [] x k e = cc
answer_is (r ∷ rs) x k e = go r.1 e (answer_is rs x k)
  where
    go : (b : Bool) → Ok k ≡ cond b (Err r.0) (first_row rs x) → (Ok k ≡ first_row rs x → k ≡ x) → k ≡ x
    go true e rest = cc
    go false e rest = rest e

-- the number that was answered is the message's among what stands after
number_has : (ms : List Message) (form x y k : ℕ) → Ok k ≡ enter_reply ms form x y → Has (after_enter ms form x y) (named ms form x y) k
number_has ms form x y k e =
    subst (λ (r : Result ℕ ℕ). Has (unless_refused r (with_message ms m) ms) m k) e
    (go (stands ms m) refl)
  where
    m : Message
    m = named ms form x y

    is : k ≡ number_of ms m
    is = answer_is (enter_rules ms form x y) (number_of ms m) k e

    go : (b : Bool) → stands ms m ≡ b → Has (cond b ms (ms ++ m ∷ [])) m k
    go true t = record { at = sym is; below = let l = ltb-true _ _ t in omega (arith, is) }
    go false t =
        let l = ltb-false _ _ t in
        let here : length ms ≡ k = let u = place_le same m ms in omega (arith, is) in
        subst (Has (ms ++ m ∷ []) m) here (has_new ms m l)

-- numbers stay
has_enter : (ms : List Message) (form x y : ℕ) (m : Message) (k : ℕ) → Has ms m k → Has (after_enter ms form x y) m k
has_enter ms form x y m k h = go (enter_reply ms form x y) (stands ms (named ms form x y))
  where
    go : (r : Result ℕ ℕ) (b : Bool) → Has (unless_refused r (cond b ms (ms ++ named ms form x y ∷ [])) ms) m k
    go (Ok n) true = h
    go (Ok n) false = has_more ms (named ms form x y ∷ []) m k h
    go (Err n) b = h

-- a call that leaves the messages as they are, refused or not
has_kept : (r : Result ℕ ℕ) (new old : Entries) (m : Message) (k : ℕ) → Has new.messages m k → Has old.messages m k → Has (unless_refused r new old).messages m k
has_kept (Ok n) new old m k h i = h
has_kept (Err n) new old m k h i = i

has_after : (e : Entries) (c : Call) (m : Message) (k : ℕ) → Has e.messages m k → Has (after e c).messages m k
has_after e (Enter form x y) m k h = has_enter e.messages form x y m k h
has_after e Open m k h = has_kept _ _ e m k h h
has_after e (Add strand sign way message) m k h = has_kept _ _ e m k h h
has_after e (Draw from to) m k h = has_kept _ _ e m k h h
has_after e (Strike from to) m k h = has_kept _ _ e m k h h
has_after e (Assume kind value origin) m k h = has_kept _ _ e m k h h
has_after e (Release kind value origin) m k h = has_kept _ _ e m k h h

has_all : (e : Entries) (ns : List Note) (m : Message) (k : ℕ) → Has e.messages m k → Has (after_all e (calls ns)).messages m k
has_all e [] m k h = h
has_all e (n ∷ ns) m k h = has_all (after e n.call) ns m k (has_after e n.call m k h)

-- a message has the number that was given for it, among all that stands by the notes
given_has : (ns : List Note) → Replies none ns → (k : ℕ) (m : Message) → Given ns k m → Has (standing (calls ns)).messages m k
given_has ns replies k m g =
    let e : Entries = standing (calls g.before) in
    let c : Call = Enter g.form g.x g.y in
    let n : Note = note c (Ok k) in
    let h = number_has e.messages g.form g.x g.y k (replies g.before n g.behind g.there) in
    let h' : Has (after e c).messages m k = subst (λ (z : Message). Has (after e c).messages z k) g.names h in
    subst (λ (zs : List Note). Has (standing (calls zs)).messages m k) (sym g.there)
    (subst (λ (z : Entries). Has z.messages m k) (sym (after_append none g.before (n ∷ g.behind)))
    (has_all (after e c) g.behind m k h'))

one_message : (ms : List Message) (m n : Message) (k : ℕ) → Has ms m k → Has ms n k → m ≡ n
one_message ms m n k h i =
    let p = passes_at_first (λ n. same n m) ms (symbol AsymmetricKey 0) (rw h.at h.below) in
    let q = passes_at_first (λ m. same m n) ms (symbol AsymmetricKey 0) (rw i.at i.below) in
    sym (same_true _ _ p) ∙ (ap (λ (j : ℕ). get_or ms j (symbol AsymmetricKey 0)) (h.at ∙ sym i.at) ∙ same_true _ _ q)

pub numbers : (ns : List Note) → Replies none ns → (k l : ℕ) (m n : Message) → Given ns k m → Given ns l n → (k ≡ l) ↔ (m ≡ n)
numbers ns replies k l m n g h =
    let p = given_has ns replies k m g in
    let q = given_has ns replies l n h in (
      (λ e. one_message (standing (calls ns)).messages m n l (subst (Has (standing (calls ns)).messages m) e p) q),
      (λ e. sym p.at ∙ (ap (number_of (standing (calls ns)).messages) e ∙ q.at)),
    )
