-- The messages are the terms up to their equation. Every formed term equals the one that `term_of` gives for its
-- message, so terms with the same message equal one another.
use Rattle.std.proofs.Common.{◌≡◌, ℕ, Bool, true, ◌&&◌, Some, Option, sym, refl, ap, ◌∙◌, subst, ap₂, arith}
use Rattle.std.proofs.lemmas.Bool.{and_parts, and_from}
use Rattle.message.specs.declared.stored.Symbol.TheVariants.{AsymmetricKey, SymmetricKey, Datum, Tag}
use Rattle.message.specs.declared.stored.Operation.{Operation}
use Rattle.message.specs.declared.stored.Sort.{Sort}
use Rattle.message.specs.declared.stored.Sort.TheVariants.{Asymmetric}
use Rattle.message.specs.Message.{Message, symbol, inverse_key, compound, sort_of, is_sort, inverse, key_fits, well_sorted}
use Rattle.message.specs.Terms.{Term, atom_or_tag, inverse_of, put_together, term_sort, formed, ◌≈◌, inverse_twice, itself, turned, chained, under_inverse, under_operation, normal, Algebra}

involution : (m : Message) → inverse (inverse m) ≡ m
involution m = grind arith

-- equal terms

sound : {t u : Term} → t ≈ u → normal t ≡ normal u
sound (inverse_twice {t = t} s) = involution (normal t)
sound itself = refl
sound (turned e) = sym (sound e)
sound (chained e f) = sound e ∙ sound f
sound (under_inverse e) = ap inverse (sound e)
sound (under_operation {o = o} e f) = ap₂ (compound o) (sound e) (sound f)

same_sort : {t u : Term} → t ≈ u → term_sort t ≡ term_sort u
same_sort (inverse_twice s) = sym s
same_sort itself = refl
same_sort (turned e) = sym (same_sort e)
same_sort (chained e f) = same_sort e ∙ same_sort f
same_sort (under_inverse e) = refl
same_sort (under_operation e f) = refl

same_formed : {t u : Term} → t ≈ u → formed t ≡ formed u
same_formed (inverse_twice {t = t} s) = ap (λ (r : Option Sort). is_sort Asymmetric r && formed t) s
same_formed itself = refl
same_formed (turned e) = sym (same_formed e)
same_formed (chained e f) = same_formed e ∙ same_formed f
same_formed (under_inverse e) = ap₂ (λ (r : Option Sort) (b : Bool). is_sort Asymmetric r && b) (same_sort e) (same_formed e)
same_formed (under_operation {o = o} e f) = let s = same_sort f in let p = same_formed e in let q = same_formed f in cc

-- the sorts of a formed term and of its message

is_asymmetric : (r : Option Sort) → is_sort Asymmetric r ≡ true → r ≡ Some Asymmetric
is_asymmetric r e = grind arith

-- the parts of a formed term, each with what is asked of it
formed_inverse : (t : Term) → formed (inverse_of t) ≡ true → (term_sort t ≡ Some Asymmetric) × (formed t ≡ true)
formed_inverse t h = let (s, f) = and_parts _ _ h in (is_asymmetric _ s, f)

formed_parts : (o : Operation) (x y : Term) → formed (put_together o x y) ≡ true → (key_fits o (term_sort y) ≡ true) × (formed x ≡ true) × (formed y ≡ true)
formed_parts o x y h = let (k, both) = and_parts _ _ h in let (p, q) = and_parts _ _ both in (k, p, q)

inverse_sorted : (m : Message) → sort_of m ≡ Some Asymmetric → (well_sorted (inverse m) ≡ true) × (sort_of (inverse m) ≡ Some Asymmetric)
inverse_sorted m s = grind arith

sorted : (t : Term) → formed t ≡ true → (well_sorted (normal t) ≡ true) × (sort_of (normal t) ≡ term_sort t)
sorted (atom_or_tag s n) h = (refl, refl)
sorted (inverse_of t) h = let (s, f) = formed_inverse t h in inverse_sorted (normal t) ((sorted t f).1 ∙ s)
sorted (put_together o x y) h =
    let (k, p, q) = formed_parts o x y h in
    let (w, s) = sorted y q in
    (and_from _ _ (ap (key_fits o) s ∙ k) (and_from _ _ (sorted x p).0 w), refl)

-- from messages back to terms

term_of : Message → Term
term_of (symbol s n) = atom_or_tag s n
term_of (inverse_key n) = inverse_of (atom_or_tag AsymmetricKey n)
term_of (compound o x y) = put_together o (term_of x) (term_of y)

normal_term : (m : Message) → normal (term_of m) ≡ m
unfolding term_of
normal_term (symbol s n) = refl
normal_term (inverse_key n) = refl
normal_term (compound o x y) = ap₂ (compound o) (normal_term x) (normal_term y)

sort_term : (m : Message) → term_sort (term_of m) ≡ sort_of m
unfolding term_of
sort_term m = grind arith

formed_term : (m : Message) → formed (term_of m) ≡ well_sorted m
unfolding term_of
formed_term (symbol s n) = refl
formed_term (inverse_key n) = refl
formed_term (compound o x y) = let s = sort_term y in let p = formed_term x in let q = formed_term y in cc

inverse_term : (m : Message) → sort_of m ≡ Some Asymmetric → inverse_of (term_of m) ≈ term_of (inverse m)
unfolding term_of
inverse_term (symbol AsymmetricKey n) s = itself
inverse_term (symbol SymmetricKey n) s = absurd (let z : ◌≡◌ {A = ℕ} 0 1 = cc in omega arith)
inverse_term (symbol Datum n) s = absurd (let z : ◌≡◌ {A = ℕ} 0 1 = cc in omega arith)
inverse_term (symbol Tag n) s = absurd (let z : ◌≡◌ {A = ℕ} 0 1 = cc in omega arith)
inverse_term (inverse_key n) s = inverse_twice refl
inverse_term (compound o x y) s = absurd (let z : ◌≡◌ {A = ℕ} 0 1 = cc in omega arith)

canonical : (t : Term) → formed t ≡ true → t ≈ term_of (normal t)
unfolding term_of
canonical (atom_or_tag s n) h = itself
canonical (inverse_of t) h =
    let (s, f) = formed_inverse t h in
    chained (under_inverse (canonical t f)) (inverse_term (normal t) ((sorted t f).1 ∙ s))
canonical (put_together o x y) h = let (k, p, q) = formed_parts o x y h in under_operation (canonical x p) (canonical y q)

complete : (t u : Term) → formed t ≡ true → formed u ≡ true → normal t ≡ normal u → t ≈ u
complete t u f g e = chained (canonical t f) (turned (subst (λ m. u ≈ term_of m) (sym e) (canonical u g)))

pub algebra : Algebra
algebra = record {
  sound = λ t u e. sound e;
  complete = complete;
  sorts_kept = λ t u e. (same_sort e, same_formed e);
  sorted = sorted;
  reached = λ m w. (term_of m, formed_term m ∙ w, normal_term m);
  involution = involution;
}
