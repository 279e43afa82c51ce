-- Whatever calls are made, what stands is orderly.
use Rattle.std.proofs.Common.{ℕ, ◌≤◌, List, [], ◌∷◌, length, arith}
use Rattle.std.specs.List.{All, Contains}
use Rattle.std.proofs.lemmas.List.Elements.{All-nil}
use Rattle.std.proofs.lemmas.Bool.{not-false, or_parts}
use Rattle.message.specs.Message.{Message}
use Rattle.message.specs.Enter.{enter_rules, named, with_message}
use Rattle.strand.specs.Node.{Node, strand_limit}
use Rattle.strand.specs.Trace.{Trace}
use Rattle.bundle.specs.Arrow.{arrow_limit, same_arrow}
use Rattle.bundle.specs.declared.arrow.Arrow.{Arrow}
use Rattle.bundle.proofs.Apart.{equal_arrows}
use Rattle.assumption.specs.declared.assumption.Assumption.{Assumption}
use Rattle.assumption.specs.Assumption.{assumption_limit, same_assumption}
use Rattle.assumption.proofs.Alike.{equal_assumptions}
use Rattle.book.specs.Entries.{Entries, none, with_arrows, with_assumptions, with_messages, with_strands}
use Rattle.book.specs.Add.{add_rules, after_add}
use Rattle.book.specs.Assume.{after_assume, assume_rules, named_assumption}
use Rattle.book.specs.Draw.{after_draw, arrow, draw_rules}
use Rattle.book.specs.Open.{after_open, open_rules}
use Rattle.book.specs.Release.{after_release, release_rules}
use Rattle.book.specs.Strike.{after_strike, strike_rules}
use Rattle.book.specs.Calls.{Call, Enter, Open, Add, Draw, Strike, Assume, Release, after}
use Rattle.book.specs.Notes.{after_all, standing}
use Rattle.book.specs.Orderly.{Listed, Orderly, StandingArrow, StandingAssumption, StandingParts, StandingTrace}
use Rattle.book.proofs.Growing.{KeepsNodes, arrow_kept, assumption_kept, traces_kept}
use Rattle.book.proofs.Listing.{listed_kept, listed_push, listed_without}
use Rattle.book.proofs.Passing.{either_way}
use Rattle.book.proofs.StandingAssumptions.{named_stands}
use Rattle.book.proofs.StandingMessages.{entered_kept, entered_numbered}
use Rattle.book.proofs.StandingParts.{entered_parts}
use Rattle.book.proofs.StandingStrands.{added_few, added_kept, added_stands, added_there, opened_few, opened_kept, opened_stands}

orderly_none : Orderly none
orderly_none =
    record {
      messages = record {
        few = omega arith;
        once = λ i j h. absurd (omega (arith, h.0));
        small = λ k d h. absurd (omega arith);
        sorted = λ k d h. absurd (omega arith);
      };
      parts = All-nil (StandingParts []);
      strands = omega arith;
      traces = All-nil (StandingTrace []);
      arrows = record { few = omega arith; each = All-nil (StandingArrow []); once = λ i j d l h. absurd (omega arith) };
      assumptions = record { few = omega arith; each = All-nil (StandingAssumption [] []); once = λ i j d l h. absurd (omega arith) };
    }

module _ (e : Entries) (o : Orderly e) where
  -- other strands with every node that was there
  strands_orderly : (ss : List Trace) → KeepsNodes e.strands ss → length ss ≤ strand_limit → All (StandingTrace e.messages) ss →
      Orderly (with_strands e ss)
  strands_orderly ss nodes few traces =
      record {
        messages = o.messages;
        parts = o.parts;
        strands = few;
        traces = traces;
        arrows = listed_kept (arrow_kept e.strands ss nodes) e.arrows o.arrows;
        assumptions = listed_kept (assumption_kept e.messages e.messages (λ m h. h) e.strands ss nodes) e.assumptions o.assumptions;
      }

  arrows_orderly : (xs : List Arrow) → Listed arrow_limit (StandingArrow e.strands) xs → Orderly (with_arrows e xs)
  arrows_orderly xs listed =
      record { messages = o.messages; parts = o.parts; strands = o.strands; traces = o.traces; arrows = listed; assumptions = o.assumptions }

  assumptions_orderly : (xs : List (Assumption Message)) → Listed assumption_limit (StandingAssumption e.messages e.strands) xs →
      Orderly (with_assumptions e xs)
  assumptions_orderly xs listed =
      record { messages = o.messages; parts = o.parts; strands = o.strands; traces = o.traces; arrows = o.arrows; assumptions = listed }

  enter_orderly : (form x y : ℕ) → Orderly (after e (Enter form x y))
  enter_orderly form x y =
      either_way (λ (ms : List Message). Orderly (with_messages e ms)) (enter_rules e.messages form x y) _ new e.messages
      (λ passed. record {
        messages = entered_numbered e.messages form x y o.messages passed;
        parts = entered_parts e.messages form x y o.parts passed;
        strands = o.strands;
        traces = traces_kept e.messages new kept e.strands o.traces;
        arrows = o.arrows;
        assumptions = listed_kept (assumption_kept e.messages new kept e.strands e.strands (λ n h. h)) e.assumptions o.assumptions;
      })
      o
    where
      new : List Message
      new = with_message e.messages (named e.messages form x y)

      kept : (m : Message) → Contains e.messages m → Contains new m
      kept = entered_kept e.messages form x y

  open_orderly : Orderly (after_open e)
  open_orderly =
      either_way Orderly (open_rules e) _ _ e
      (λ passed. strands_orderly _ (opened_kept e.strands) (opened_few e passed) (opened_stands e o.traces))
      o

  add_orderly : (strand sign way message : ℕ) → Orderly (after_add e strand sign way message)
  add_orderly strand sign way message =
      either_way Orderly (add_rules e strand sign way message) _ _ e
      (λ passed. strands_orderly _
      (added_kept e strand sign way message (added_there e strand sign way message passed))
      (added_few e strand sign way message passed o.strands)
      (added_stands e strand sign way message passed o.traces))
      o

  draw_orderly : (from to : Node) → Orderly (after_draw e from to)
  draw_orderly from to =
      either_way Orderly (draw_rules e from to) _ _ e
      (λ (nodes, (new, (room, done))).
      let (f, t) = or_parts _ _ nodes in
      arrows_orderly _
      (listed_push same_arrow equal_arrows e.arrows o.arrows (arrow from to) (record { from = not-false _ f; to = not-false _ t }) new room))
      o

  strike_orderly : (from to : Node) → Orderly (after_strike e from to)
  strike_orderly from to =
      either_way Orderly (strike_rules e from to) _ _ e
      (λ (nodes, (old, done)). arrows_orderly _ (listed_without same_arrow equal_arrows e.arrows o.arrows (arrow from to) (not-false _ old)))
      o

  assume_orderly : (kind value : ℕ) (origin : Node) → Orderly (after_assume e kind value origin)
  assume_orderly kind value origin =
      either_way Orderly (assume_rules e kind value origin) _ _ e
      (λ (listed, (present, (basic, (new, (room, done))))). assumptions_orderly _
      (listed_push same_assumption equal_assumptions e.assumptions o.assumptions (named_assumption e.messages kind value origin)
      (named_stands e.messages e.strands kind value origin listed present basic) new room))
      o

  release_orderly : (kind value : ℕ) (origin : Node) → Orderly (after_release e kind value origin)
  release_orderly kind value origin =
      either_way Orderly (release_rules e kind value origin) _ _ e
      (λ (listed, (present, (basic, (old, done)))). assumptions_orderly _
      (listed_without same_assumption equal_assumptions e.assumptions o.assumptions (named_assumption e.messages kind value origin) (not-false _ old)))
      o

  -- one call
  orderly_after : (c : Call) → Orderly (after e c)
  orderly_after (Enter form x y) = enter_orderly form x y
  orderly_after Open = open_orderly
  orderly_after (Add strand sign way message) = add_orderly strand sign way message
  orderly_after (Draw from to) = draw_orderly from to
  orderly_after (Strike from to) = strike_orderly from to
  orderly_after (Assume kind value origin) = assume_orderly kind value origin
  orderly_after (Release kind value origin) = release_orderly kind value origin

orderly_all : (e : Entries) → Orderly e → (cs : List Call) → Orderly (after_all e cs)
orderly_all e o [] = o
orderly_all e o (c ∷ cs) = orderly_all (after e c) (orderly_after e o c) cs

pub orderly : (cs : List Call) → Orderly (standing cs)
orderly cs = orderly_all none orderly_none cs
