-- The laws of `meanings`: an entry means what it stores over all the messages of the table, and later entries change nothing.
use Rattle.std.proofs.Common.{◌≡◌, ℕ, ◌+◌, ◌<◌, ◌≤◌, List, [], ◌∷◌, ◌++◌, length, get_or, take, drop, sym, refl, ap, ◌∙◌, ap₂, arith}
use Rattle.std.proofs.lemmas.List.{length_push, get_or_push, get_or_append_left, take-append-drop, drop_more, length-take-le}
use Rattle.message.specs.declared.stored.Symbol.TheVariants.{AsymmetricKey}
use Rattle.message.specs.declared.stored.Stored.{Stored}
use Rattle.message.specs.declared.stored.Stored.TheVariants.{Symbol, Inverse, Compound}
use Rattle.message.specs.declared.stored.Entry.{Entry}
use Rattle.message.specs.Message.{Message, symbol, compound}
use Rattle.message.specs.Meaning.{at, value, meanings_after, meanings, reach, no_entry, InOrder}

after_append : (ms : List Message) (xs ys : List Entry) → meanings_after ms (xs ++ ys) ≡ meanings_after (meanings_after ms xs) ys
after_append ms [] ys = refl
after_append ms (x ∷ xs) ys = after_append (ms ++ value ms x.stored ∷ []) xs ys

after_length : (ms : List Message) (es : List Entry) → length (meanings_after ms es) ≡ length ms + length es
after_length ms [] = omega arith
after_length ms (e ∷ es) =
    let more = after_length (ms ++ value ms e.stored ∷ []) es in
    let one = length_push ms (value ms e.stored) in
    omega arith

after_kept : (ms : List Message) (es : List Entry) (k : ℕ) → k < length ms → at (meanings_after ms es) k ≡ at ms k
after_kept ms [] k h = refl
after_kept ms (e ∷ es) k h =
    let one = length_push ms (value ms e.stored) in
    after_kept (ms ++ value ms e.stored ∷ []) es k (omega arith) ∙ get_or_append_left ms (value ms e.stored ∷ []) (symbol AsymmetricKey 0) k h

pub length_meanings : (es : List Entry) → length (meanings es) ≡ length es
length_meanings es = let h = after_length [] es in omega arith

pub meanings_push : (es : List Entry) (e : Entry) → meanings (es ++ e ∷ []) ≡ meanings es ++ value (meanings es) e.stored ∷ []
meanings_push es e = after_append [] es (e ∷ [])

-- only the messages below the reach of what is stored matter for its value
value_near : (s : Stored) (ms ns : List Message) (n : ℕ) → reach s ≤ n → ((k : ℕ) → k < n → at ms k ≡ at ns k) → value ms s ≡ value ns s
value_near (Symbol s k) ms ns n h same = refl
value_near (Inverse k) ms ns n h same = refl
value_near (Compound o x y) ms ns n h same = ap₂ (compound o) (same x (omega arith)) (same y (omega arith))

pub meaning_at : (es : List Entry) (n : ℕ) → InOrder es → n < length es → at (meanings es) n ≡ value (meanings es) (get_or es n no_entry).stored
meaning_at es n ordered h = at_number ∙ value_near e.stored before (meanings es) n (ordered n h) (λ k l. sym (early k l))
  where
    e : Entry
    e = get_or es n no_entry

    before : List Message
    before = meanings (take n es)

    rest : List Entry
    rest = drop (n + 1) es

    long : length before ≡ n
    long = length_meanings (take n es) ∙ length-take-le n es (omega arith)

    here : List Message
    here = before ++ value before e.stored ∷ []

    one : length here ≡ n + 1
    one = let l = length_push before (value before e.stored) in omega (arith, l, long)

    split : meanings es ≡ meanings_after here rest
    split = ap meanings (sym (take-append-drop n es) ∙ ap (λ t. take n es ++ t) (drop_more es n no_entry h)) ∙ after_append [] (take n es) (e ∷ rest)

    at_number : at (meanings es) n ≡ value before e.stored
    at_number = ap (λ ms. at ms n) split ∙ (after_kept here rest n (omega (arith, one)) ∙ get_or_push before (value before e.stored) (symbol AsymmetricKey 0) n long)

    early : (k : ℕ) → k < n → at (meanings es) k ≡ at before k
    early k l = ap (λ ms. at ms k) split ∙ (after_kept here rest k (omega (arith, one)) ∙ get_or_append_left before (value before e.stored ∷ []) (symbol AsymmetricKey 0) k (omega (arith, long)))
