-- `open` and `add` leave strands that can stand, and every node that was there.
use Rattle.std.proofs.Common.{◌≡◌, ℕ, zero, suc, ◌<◌, ◌≤◌, true, false, ◌⊎◌, List, [], ◌∷◌, ◌++◌, length, set, is_some, refl, ap, ◌∙◌, subst, inl, inr, arith}
use Rattle.std.specs.List.{All, slice_get}
use Rattle.std.proofs.lemmas.List.Elements.{All-get_or, All-nil, All-push, All-set, Contains-get_or}
use Rattle.std.proofs.lemmas.List.{get_or-set_other, get_or-set_same, length_push, length-set}
use Rattle.std.proofs.lemmas.Bool.{and_from, cases_eq, cond_both, eqb-false, false≢true, le-leb, leb-false, ltb-false, ltb-true, not-false, or_parts}
use Rattle.message.specs.declared.stored.Symbol.TheVariants.{AsymmetricKey}
use Rattle.message.specs.Message.{symbol}
use Rattle.strand.specs.declared.event.Way.TheVariants.{Plain, Channel}
use Rattle.strand.specs.Event.{way_at}
use Rattle.strand.specs.Node.{is_node, strand_at, strand_limit}
use Rattle.strand.specs.Trace.{Trace}
use Rattle.book.specs.Entries.{Entries}
use Rattle.book.specs.Add.{add_rules, event_missing, named_event}
use Rattle.book.specs.Open.{open_rules}
use Rattle.book.specs.Orderly.{StandingEvent, StandingTrace, StandingWay}
use Rattle.book.proofs.Growing.{KeepsNodes}
use Rattle.book.proofs.Passing.{NoneFits}

-- a strand without events has no node
opened_at : (ss : List Trace) (s : ℕ) → strand_at (ss ++ [] ∷ []) s ≡ strand_at ss s
opened_at [] zero = refl
opened_at [] (suc s) = refl
opened_at (t ∷ ts) zero = refl
opened_at (t ∷ ts) (suc s) = opened_at ts s

pub opened_kept : (ss : List Trace) → KeepsNodes ss (ss ++ [] ∷ [])
opened_kept ss n h = ap (λ (t : Trace). is_some (slice_get t n.1)) (opened_at ss n.0) ∙ h

-- what is at an index still is when one more comes behind
longer : {X : Type 0} (t : List X) (x : X) (i : ℕ) → is_some (slice_get t i) ≡ true → is_some (slice_get (t ++ x ∷ []) i) ≡ true
longer [] x i h = absurd (false≢true h)
longer (y ∷ ys) x zero h = refl
longer (y ∷ ys) x (suc i) h = longer ys x i h

module _ (e : Entries) (strand sign way message : ℕ) where
  abbrev after : Trace
  after = strand_at e.strands strand ++ named_event e sign way message ∷ []

  pub added_kept : strand < length e.strands → KeepsNodes e.strands (set e.strands strand after)
  added_kept there n h = go (cases_eq n.0 strand)
    where
      go : (n.0 ≡ strand) ⊎ (n.0 ≡ strand → ⊥) → is_node (set e.strands strand after) n ≡ true
      go (inl here) =
          ap (λ (t : Trace). is_some (slice_get t n.1))
          (ap (strand_at (set e.strands strand after)) here ∙ get_or-set_same e.strands strand after [] there)
          ∙ longer (strand_at e.strands strand) (named_event e sign way message) n.1
          (subst (λ (s : ℕ). is_some (slice_get (strand_at e.strands s) n.1) ≡ true) here h)
      go (inr elsewhere) = ap (λ (t : Trace). is_some (slice_get t n.1)) (get_or-set_other e.strands strand n.0 after [] elsewhere) ∙ h

  -- the way with a number that is not over those of the channels
  standing_way : way ≤ 64 → StandingWay (way_at way)
  standing_way l =
      cond_both _ Plain (Channel way) StandingWay (λ t. tt)
      (λ f. let other = eqb-false way 0 f in and_from _ _ (le-leb 1 way (omega (arith, other))) (le-leb way 64 l))

  module _ (passed : NoneFits (add_rules e strand sign way message)) where
    missing : event_missing e strand way message ≡ false → (strand < length e.strands) × (message < length e.messages) × (way ≤ 64)
    missing none =
        let (s, rest) = or_parts _ _ none in
        let (m, w) = or_parts _ _ rest in (ltb-true _ _ (not-false _ s), ltb-true _ _ (not-false _ m), ltb-false 64 way w)

    pub added_there : strand < length e.strands
    added_there = (missing passed.1.0).0

    pub added_stands : All (StandingTrace e.messages) e.strands → All (StandingTrace e.messages) (set e.strands strand after)
    added_stands each = All-set (StandingTrace e.messages) e.strands strand after new each
      where
        old : StandingTrace e.messages (strand_at e.strands strand)
        old = All-get_or (StandingTrace e.messages) e.strands strand [] added_there each

        event : StandingEvent e.messages (named_event e sign way message)
        event =
            let (s, m, w) = missing passed.1.0 in
            record { message = Contains-get_or e.messages message (symbol AsymmetricKey 0) m; way = standing_way w }

        new : StandingTrace e.messages after
        new =
            let free = leb-false 16 _ passed.1.1.0 in
            record {
              few = omega (arith, free, length_push (strand_at e.strands strand) (named_event e sign way message));
              events = All-push (StandingEvent e.messages) (strand_at e.strands strand) (named_event e sign way message) old.events event;
            }

    pub added_few : length e.strands ≤ strand_limit → length (set e.strands strand after) ≤ strand_limit
    added_few few = omega (arith, few, length-set e.strands strand after)

module _ (e : Entries) where
  pub opened_few : NoneFits (open_rules e) → length (e.strands ++ [] ∷ []) ≤ strand_limit
  opened_few (room, done) = let free = leb-false 64 (length e.strands) room in let long = length_push e.strands [] in omega (arith, free, long)

  pub opened_stands : All (StandingTrace e.messages) e.strands → All (StandingTrace e.messages) (e.strands ++ [] ∷ [])
  opened_stands each = All-push (StandingTrace e.messages) e.strands [] each (record { few = omega arith; events = All-nil (StandingEvent e.messages) })
