-- `assume` and `release` on the list of assumptions are those on what stands.
use Rattle.std.proofs.Common.{◌≡◌, ℕ, Bool, not, ◌&&◌, ◌||◌, eqb, List, [], ◌∷◌, ◌++◌, map, length, Ok, Err, Result, sym, ap, ◌∙◌, subst}
use Rattle.refusal.specs.declared.Refusal.{Refusal}
use Rattle.refusal.specs.Rows.{Rule, by_row, first_row, row}
use Rattle.refusal.proofs.Rules.{passed_before, refused_before}
use Rattle.listing.specs.Place.{place}
use Rattle.listing.specs.Listing.{Appended, Removed, append_rules, remove_rules}
use Rattle.listing.proofs.Replies.{append_leaves, append_replied, appended_map, remove_leaves, remove_replied, removed_map}
use Rattle.message.specs.Enter.{there}
use Rattle.message.specs.Meaning.{Distinct}
use Rattle.message.specs.Message.{Message}
use Rattle.strand.specs.declared.event.Event.{Event}
use Rattle.strand.specs.Event.{is_channel, meant}
use Rattle.strand.specs.Node.{Node, is_node}
use Rattle.strand.specs.Trace.{Trace, trace}
use Rattle.strand.proofs.Traces.{is_node_map}
use Rattle.assumption.specs.declared.assumption.Assumption.{Assumption}
use Rattle.assumption.specs.Assumption.{ValuesWithin, about_channel, about_message, same_assumption, same_by, supposed}
use Rattle.assumption.proofs.Alike.{place_supposed}
use Rattle.book.specs.Assume.{after_assume, assume_reply, assumption_rules, kind_unlisted, named_assumption, not_basic}
use Rattle.book.specs.Release.{after_release, release_reply, released}
use Rattle.book.specs.Entries.{Entries, with_assumptions}
use Rattle.book.specs.Names.{AssumptionNamed, arguments_reply}
use Rattle.book.proofs.Changing.{changed}

module _ (e : Entries) (ss : List (List (Event ℕ))) (is : e.strands ≡ map (trace e.messages) ss) (kind value : ℕ) (origin : Node) where
  abbrev ms : List Message
  ms = e.messages

  -- the rows behind those of the arguments, and the answers
  abbrev further : List Rule
  further = append_rules same_assumption 256 e.assumptions (named_assumption ms kind value origin)

  abbrev taken : List Rule
  taken = remove_rules same_assumption e.assumptions (named_assumption ms kind value origin)

  there_too : is_node ss origin ≡ is_node e.strands origin
  there_too = sym (ap (λ (ts : List Trace). is_node ts origin) is ∙ is_node_map (meant ms) ss origin)

  -- the rows of the arguments are the same for strands by number and for traces
  arguments : arguments_reply ms ss kind value origin ≡ arguments_reply ms e.strands kind value origin
  unfolding arguments_reply
  arguments =
      ap
      (λ (b : Bool). first_row {X = ℕ}
      ((3, kind_unlisted kind origin)
      ∷ (4, (about_message kind && not (there ms value)) || ((eqb kind 2 && not b) || (about_channel kind && not (is_channel value))))
      ∷ (5, not_basic ms kind value)
      ∷ [])
      0)
      there_too

  module _ (q : Refusal) (refused : AssumptionNamed ms ss kind value origin (Err q)) where
    pub assume_refused : assume_reply e kind value origin ≡ Err (row q)
    unfolding arguments_reply
    assume_refused = refused_before 0 (length e.assumptions) further (assumption_rules ms e.strands kind value origin) (row q) (sym arguments ∙ refused)

    pub release_refused : release_reply e kind value origin ≡ Err (row q)
    unfolding arguments_reply
    release_refused = refused_before 0 (released e kind value origin) taken (assumption_rules ms e.strands kind value origin) (row q) (sym arguments ∙ refused)

  module _
      (once : Distinct ms) (xs after : List (Assumption ℕ)) (within : ValuesWithin ms xs) (held : e.assumptions ≡ map (supposed ms) xs)
      (a : Assumption ℕ) (named : AssumptionNamed ms ss kind value origin (Ok a)) (r : Result ℕ Refusal) where
    passed : (more : List Rule) (n : ℕ) → first_row (assumption_rules ms e.strands kind value origin ++ more) n ≡ first_row more n
    unfolding arguments_reply
    passed more n = passed_before 0 n more (assumption_rules ms e.strands kind value origin) (sym arguments ∙ named.0)

    alike : place same_assumption (supposed ms a) (map (supposed ms) xs) ≡ place (same_by eqb) a xs
    alike = place_supposed ms once xs a within named.2

    appended : Appended (same_by eqb) 256 xs a r after → Appended same_assumption 256 e.assumptions (named_assumption ms kind value origin) r (map (supposed ms) after)
    appended d =
        subst (λ (x : Assumption Message). Appended same_assumption 256 e.assumptions x r (map (supposed ms) after)) named.1
        (subst (λ (ys : List (Assumption Message)). Appended same_assumption 256 ys (supposed ms a) r (map (supposed ms) after)) (sym held)
        (appended_map (same_by eqb) same_assumption (supposed ms) xs a alike after 256 r d))

    removed_too : Removed (same_by eqb) xs a r after → Removed same_assumption e.assumptions (named_assumption ms kind value origin) r (map (supposed ms) after)
    removed_too d =
        subst (λ (x : Assumption Message). Removed same_assumption e.assumptions x r (map (supposed ms) after)) named.1
        (subst (λ (ys : List (Assumption Message)). Removed same_assumption ys (supposed ms a) r (map (supposed ms) after)) (sym held)
        (removed_map (same_by eqb) same_assumption (supposed ms) xs a alike after r d))

    assume_replied : Appended (same_by eqb) 256 xs a r after → by_row r ≡ assume_reply e kind value origin
    assume_replied d = append_replied same_assumption 256 e.assumptions _ _ r (appended d) ∙ sym (passed further (length e.assumptions))

    assume_stands : Appended (same_by eqb) 256 xs a r after → with_assumptions e (map (supposed ms) after) ≡ after_assume e kind value origin
    assume_stands d =
        changed (with_assumptions e) _ _ _ (append_leaves same_assumption 256 e.assumptions _ _ r (appended d)) (assume_replied d)

    release_replied : Removed (same_by eqb) xs a r after → by_row r ≡ release_reply e kind value origin
    release_replied d = remove_replied same_assumption 256 e.assumptions _ _ r (removed_too d) ∙ sym (passed taken (released e kind value origin))

    release_stands : Removed (same_by eqb) xs a r after → with_assumptions e (map (supposed ms) after) ≡ after_release e kind value origin
    release_stands d =
        changed (with_assumptions e) _ _ _ (remove_leaves same_assumption 256 e.assumptions _ _ r (removed_too d)) (release_replied d)

    -- the reply, and what then stands
    pub assume_does : Appended (same_by eqb) 256 xs a r after →
        (by_row r ≡ assume_reply e kind value origin) × (with_assumptions e (map (supposed ms) after) ≡ after_assume e kind value origin)
    assume_does d = (assume_replied d, assume_stands d)

    pub release_does : Removed (same_by eqb) xs a r after →
        (by_row r ≡ release_reply e kind value origin) × (with_assumptions e (map (supposed ms) after) ≡ after_release e kind value origin)
    release_does d = (release_replied d, release_stands d)
