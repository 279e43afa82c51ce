-- A list in which each entry can stand and none stands twice stays one when an entry is put behind it or taken out.
use Rattle.std.proofs.Common.{◌≡◌, ◌≢◌, ℕ, suc, ◌<◌, Bool, true, false, leb, ◌↔◌, List, [], ◌∷◌, ◌++◌, length, get_or, take, drop, arith}
use Rattle.std.specs.List.{remove}
use Rattle.std.proofs.lemmas.List.Edits.{length-remove}
use Rattle.std.proofs.lemmas.List.Elements.{All-append, All-drop, All-push, All-take, All-weaker}
use Rattle.std.proofs.lemmas.List.Quantifiers.{all_pairs_push, all_pairs_remove}
use Rattle.std.proofs.lemmas.List.{length_push}
use Rattle.std.proofs.lemmas.Bool.{leb-false, ltb-false, ltb-true}
use Rattle.listing.specs.Place.{place}
use Rattle.listing.specs.Listing.{stands}
use Rattle.listing.proofs.Places.{place_before}
use Rattle.book.specs.Orderly.{Listed}

module _ {X : Type 0} (same : X → X → Bool) (decides : (a b : X) → (same a b ≡ true) ↔ (a ≡ b)) {limit : ℕ} {P : X → Type 0} (xs : List X)
    (listed : Listed limit P xs) (x : X) where
  -- an entry that does not stand is none of those that do
  absent : stands same x xs ≡ false → (k : ℕ) (d : X) → k < length xs → get_or xs k d ≢ x
  absent new k d l e = let before = place_before same x d xs k l ((decides _ _).1 e) in omega (arith, before, l, ltb-false _ _ new)

  pub listed_push : P x → stands same x xs ≡ false → leb limit (length xs) ≡ false → Listed limit P (xs ++ x ∷ [])
  listed_push good new room =
      record {
        few = let l = leb-false limit (length xs) room in omega (arith, length_push xs x, l);
        each = All-push P xs x listed.each good;
        once = all_pairs_push (λ x y. x ≢ y) xs x listed.once (absent new);
      }

  pub listed_without : stands same x xs ≡ true → Listed limit P (remove xs (place same x xs))
  listed_without old =
      let k : ℕ = place same x xs in
      record {
        few = let l : k < length xs = ltb-true _ _ old in omega (arith, length-remove xs k l, listed.few);
        each = All-append P (take k xs) (drop (suc k) xs) (All-take P k xs listed.each) (All-drop P (suc k) xs listed.each);
        once = all_pairs_remove (λ x y. x ≢ y) xs k (ltb-true _ _ old) listed.once;
      }

-- a list whose entries can stand as things are then
pub listed_kept : {X : Type 0} {limit : ℕ} {P Q : X → Type 0} → ((x : X) → P x → Q x) → (xs : List X) → Listed limit P xs → Listed limit Q xs
listed_kept {P = P} {Q = Q} kept xs listed = record { few = listed.few; each = All-weaker P Q kept xs listed.each; once = listed.once }
