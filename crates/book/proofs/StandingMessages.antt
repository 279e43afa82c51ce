-- `enter` leaves messages that can stand together.
use Rattle.std.proofs.Common.{◌≡◌, ℕ, ◌<◌, ◌≤◌, true, false, not, ◌&&◌, eqb, ◌⊎◌, List, [], ◌∷◌, ◌++◌, length, refl, ap, inl, inr, arith}
use Rattle.std.specs.List.{Contains}
use Rattle.std.proofs.lemmas.List.Elements.{All-push, Contains-append_left}
use Rattle.std.proofs.lemmas.List.{get_or_past, length_push}
use Rattle.std.proofs.lemmas.Bool.{and_from, and_parts, cases_lt, cond_both, eq-eqb, eqb-false, leb-false, leb-true, ltb-false, not-false, or_parts}
use Rattle.listing.proofs.Places.{place_before}
use Rattle.message.specs.declared.stored.Symbol.TheVariants.{AsymmetricKey}
use Rattle.message.specs.declared.stored.Operation.TheVariants.{AsymmetricEncryption, SymmetricEncryption}
use Rattle.message.specs.declared.stored.Sort.TheVariants.{Asymmetric}
use Rattle.message.specs.Message.{Message, compound, inverse, of_sort, size, size_limit, symbol, well_sorted}
use Rattle.message.specs.Same.{same, true_same}
use Rattle.message.specs.Meaning.{WellSorted, at}
use Rattle.message.specs.Enter.{enter_rules, named, stands, unlisted, with_message, wrong_sort}
use Rattle.message.specs.Table.{Numbered}
use Rattle.message.proofs.Growing.{distinct_push}
use Rattle.book.proofs.Growing.{KeepsMessages}
use Rattle.book.proofs.Passing.{NoneFits, asked, second_fails}

inverse_sorted : (m : Message) → well_sorted m ≡ true → well_sorted (inverse m) ≡ true
inverse_sorted m h = grind arith

module _ (ms : List Message) (sorted : WellSorted ms) where
  -- also the message that stands for one where there is none
  sorted_at : (k : ℕ) → well_sorted (at ms k) ≡ true
  sorted_at k = go (cases_lt k (length ms))
    where
      go : (k < length ms) ⊎ (length ms ≤ k) → well_sorted (at ms k) ≡ true
      go (inl l) = sorted k (symbol AsymmetricKey 0) l
      go (inr l) = ap well_sorted (get_or_past ms k (symbol AsymmetricKey 0) l)

  module _ (form x y : ℕ) (listed : unlisted form y ≡ false) (right : wrong_sort ms form x y ≡ false) where
    abbrev Sorted : Message → Type 0
    Sorted m = well_sorted m ≡ true

    parts_sorted : (well_sorted (at ms x) && well_sorted (at ms y)) ≡ true
    parts_sorted = and_from _ _ (sorted_at x) (sorted_at y)

    asymmetric : eqb form 7 ≡ true → Sorted (compound AsymmetricEncryption (at ms x) (at ms y))
    asymmetric t =
        let wrong = or_parts _ _ (or_parts (eqb form 5 && not (of_sort Asymmetric (at ms x))) _ right).1 in
        and_from _ _ (asked _ _ wrong.0 t) parts_sorted

    symmetric : eqb form 8 ≡ true → Sorted (compound SymmetricEncryption (at ms x) (at ms y))
    symmetric t =
        let wrong = or_parts _ _ (or_parts (eqb form 5 && not (of_sort Asymmetric (at ms x))) _ right).1 in
        and_from _ _ (asked _ _ wrong.1 t) parts_sorted

    -- a form that is none of the first seven is the last
    last : (eqb form 1 ≡ false) × (eqb form 2 ≡ false) × (eqb form 3 ≡ false) × (eqb form 4 ≡ false) × (eqb form 5 ≡ false) × (eqb form 6 ≡ false) ×
        (eqb form 7 ≡ false) → eqb form 8 ≡ true
    last (a, b, c, d, e, f, g) =
        let range = and_parts _ _ (not-false _ (or_parts _ _ listed).0) in
        let low = leb-true 1 form range.0 in
        let high = leb-true form 8 range.1 in
        eq-eqb form 8
        (omega (arith, low, high, eqb-false _ _ a, eqb-false _ _ b, eqb-false _ _ c, eqb-false _ _ d, eqb-false _ _ e, eqb-false _ _ f, eqb-false _ _ g))

    named_sorted : Sorted (named ms form x y)
    named_sorted =
        cond_both (eqb form 1) _ _ Sorted (λ t. refl)
        (λ a. cond_both (eqb form 2) _ _ Sorted (λ t. refl)
        (λ b. cond_both (eqb form 3) _ _ Sorted (λ t. refl)
        (λ c. cond_both (eqb form 4) _ _ Sorted (λ t. refl)
        (λ d. cond_both (eqb form 5) _ _ Sorted (λ t. inverse_sorted (at ms x) (sorted_at x))
        (λ e. cond_both (eqb form 6) _ _ Sorted (λ t. parts_sorted)
        (λ f. cond_both (eqb form 7) _ _ Sorted asymmetric
        (λ g. symmetric (last (a, b, c, d, e, f, g)))))))))

-- a message that does not stand is at no number
absent : (ms : List Message) (m : Message) → stands ms m ≡ false → (k : ℕ) → k < length ms → at ms k ≡ m → ⊥
absent ms m new k l is =
    let before = place_before same m (symbol AsymmetricKey 0) ms k l (true_same _ _ is) in omega (arith, before, l, ltb-false _ _ new)

module _ (ms : List Message) (form x y : ℕ) where
  abbrev m : Message
  m = named ms form x y

  pub entered_numbered : Numbered ms → NoneFits (enter_rules ms form x y) → Numbered (with_message ms m)
  entered_numbered numbered (listed, (missing, (right, (small, (room, done))))) = cond_both (stands ms m) _ _ Numbered (λ old. numbered) new
    where
      new : stands ms m ≡ false → Numbered (ms ++ m ∷ [])
      new t =
          let free = leb-false 1024 (length ms) (second_fails _ _ room (ap not t)) in
          record {
            few = omega (arith, free, length_push ms m);
            once = distinct_push ms m numbered.once (absent ms m t);
            small = All-push (λ n. size n ≤ size_limit) ms m numbered.small (ltb-false 255 _ small);
            sorted = All-push (λ n. well_sorted n ≡ true) ms m numbered.sorted (named_sorted ms numbered.sorted form x y listed right);
          }

  pub entered_kept : KeepsMessages ms (with_message ms m)
  entered_kept n h = cond_both (stands ms m) _ _ (λ (ns : List Message). Contains ns n) (λ old. h) (λ new. Contains-append_left ms (m ∷ []) n h)
