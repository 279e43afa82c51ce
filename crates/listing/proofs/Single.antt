-- A list in which no entry stands twice stays one when an entry that did not stand is put behind, or one is taken out.
use Rattle.std.proofs.Common.{◌≡◌, ℕ, Bool, false, List, get_or, Ok, Err, Result, sym, subst, ⊎_elim, arith}
use Rattle.std.proofs.lemmas.Bool.{cases_Bool}
use Rattle.std.proofs.lemmas.List.Quantifiers.{all_pairs_push, all_pairs_remove}
use Rattle.refusal.specs.declared.Refusal.{Refusal}
use Rattle.listing.specs.Listing.{Appended, Removed}
use Rattle.listing.specs.Place.{Once}
use Rattle.listing.proofs.Places.{place_before}

module _ {X : Type 0} (same : X → X → Bool) (xs : List X) (once : Once same xs) where
  pub once_appended : (limit : ℕ) (x : X) (after : List X) (r : Result ℕ Refusal) → Appended same limit xs x r after → Once same after
  once_appended limit x after (Ok k) (new, position, few, now) =
      subst (Once same) (sym now) (all_pairs_push (λ a b. same a b ≡ false) xs x once (λ k d h.
      ⊎_elim (λ t. absurd (let p = place_before same x d xs k h t in omega (arith, new))) (λ f. f) (cases_Bool (same (get_or xs k d) x))))
  once_appended limit x after (Err q) (row, now) = subst (Once same) (sym now) once

  pub once_removed : (x : X) (after : List X) (r : Result ℕ Refusal) → Removed same xs x r after → Once same after
  once_removed x after (Ok k) ((position, old), now) = subst (Once same) (sym now) (all_pairs_remove (λ a b. same a b ≡ false) xs k old once)
  once_removed x after (Err q) (seven, new, now) = subst (Once same) (sym now) once
