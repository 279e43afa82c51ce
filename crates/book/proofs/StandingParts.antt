-- `enter` puts messages together of messages that stand.
use Rattle.std.proofs.Common.{◌≡◌, ℕ, ◌≤◌, true, false, eqb, List, [], ◌∷◌, ◌++◌, arith}
use Rattle.std.specs.List.{All, Contains}
use Rattle.std.proofs.lemmas.List.Elements.{All-contains, All-push, All-weaker, Contains-append_left, Contains-get_or}
use Rattle.std.proofs.lemmas.Bool.{and_parts, cond_both, eqb-false, eqb-true, le-leb, leb-true, ltb-true, not-false, or_parts}
use Rattle.message.specs.declared.stored.Symbol.TheVariants.{AsymmetricKey}
use Rattle.message.specs.Message.{Message, inverse, symbol}
use Rattle.message.specs.Meaning.{at}
use Rattle.message.specs.Enter.{enter_rules, missing, named, stands, unlisted, with_message}
use Rattle.book.specs.Orderly.{StandingParts}
use Rattle.book.proofs.Growing.{KeepsMessages}
use Rattle.book.proofs.Passing.{NoneFits, asked}

parts_kept : (ms ms' : List Message) → KeepsMessages ms ms' → (m : Message) → StandingParts ms m → StandingParts ms' m
parts_kept ms ms' more m h = grind (arith, more)

inverse_parts : (ms : List Message) (m : Message) → Contains ms m → StandingParts ms m → StandingParts ms (inverse m)
inverse_parts ms m there h = grind (arith, there, h)

module _ (ms : List Message) (form x y : ℕ) where
  module _ (each : All (StandingParts ms) ms) (listed : unlisted form y ≡ false) (present : missing ms form x y ≡ false) where
    first : 5 ≤ form → Contains ms (at ms x)
    first l = Contains-get_or ms x (symbol AsymmetricKey 0) (ltb-true _ _ (asked _ _ (or_parts _ _ present).0 (le-leb 5 form l)))

    both : 6 ≤ form → Contains ms (at ms x) × Contains ms (at ms y)
    both l =
        (first (omega (arith, l)), Contains-get_or ms y (symbol AsymmetricKey 0) (ltb-true _ _ (asked _ _ (or_parts _ _ present).1 (le-leb 6 form l))))

    -- a form that is none of the first five is that of an operation
    operation : (eqb form 1 ≡ false) × (eqb form 2 ≡ false) × (eqb form 3 ≡ false) × (eqb form 4 ≡ false) × (eqb form 5 ≡ false) → 6 ≤ form
    operation (a, b, c, d, e) =
        let low = leb-true 1 form (and_parts _ _ (not-false _ (or_parts _ _ listed).0)).0 in
        omega (arith, low, eqb-false _ _ a, eqb-false _ _ b, eqb-false _ _ c, eqb-false _ _ d, eqb-false _ _ e)

    inverted : eqb form 5 ≡ true → StandingParts ms (inverse (at ms x))
    inverted t =
        let there : Contains ms (at ms x) = first (let is = eqb-true form 5 t in omega (arith, is)) in
        inverse_parts ms (at ms x) there (All-contains (StandingParts ms) ms (at ms x) each there)

    named_parts : StandingParts ms (named ms form x y)
    named_parts =
        cond_both (eqb form 1) _ _ (StandingParts ms) (λ t. tt)
        (λ a. cond_both (eqb form 2) _ _ (StandingParts ms) (λ t. tt)
        (λ b. cond_both (eqb form 3) _ _ (StandingParts ms) (λ t. tt)
        (λ c. cond_both (eqb form 4) _ _ (StandingParts ms) (λ t. tt)
        (λ d. cond_both (eqb form 5) _ _ (StandingParts ms) inverted
        (λ e. let two = both (operation (a, b, c, d, e)) in
        cond_both (eqb form 6) _ _ (StandingParts ms) (λ t. two) (λ f. cond_both (eqb form 7) _ _ (StandingParts ms) (λ t. two) (λ g. two)))))))

  abbrev m : Message
  m = named ms form x y

  pub entered_parts : All (StandingParts ms) ms → NoneFits (enter_rules ms form x y) → All (StandingParts (with_message ms m)) (with_message ms m)
  entered_parts each (listed, (present, rest)) = cond_both (stands ms m) _ _ (λ (ns : List Message). All (StandingParts ns) ns) (λ old. each) new
    where
      kept : (n : Message) → StandingParts ms n → StandingParts (ms ++ m ∷ []) n
      kept = parts_kept ms (ms ++ m ∷ []) (Contains-append_left ms (m ∷ []))

      new : stands ms m ≡ false → All (StandingParts (ms ++ m ∷ [])) (ms ++ m ∷ [])
      new t =
          All-push (StandingParts (ms ++ m ∷ [])) ms m
          (All-weaker (StandingParts ms) (StandingParts (ms ++ m ∷ [])) kept ms each)
          (kept m (named_parts each listed present))
