-- `Carried` is the relation of taking apart and opening, and no key is carried for being the key.
use Rattle.std.proofs.Common.{◌≡◌, ◌⊎◌, sym, refl, ap, subst, inl, inr, arith}
use Rattle.message.specs.declared.stored.Operation.{Operation}
use Rattle.message.specs.declared.stored.Operation.TheVariants.{Pair, AsymmetricEncryption, SymmetricEncryption}
use Rattle.message.specs.Message.{Message, symbol, inverse_key, compound, size}
use Rattle.message.specs.Carried.{Carried}
use Rattle.message.specs.Carrying.{◌⊑◌, itself, through, first, second, asymmetric, symmetric, Carrying}

pub carried_itself : (m : Message) → Carried m m
carried_itself (symbol s n) = refl
carried_itself (inverse_key n) = refl
carried_itself (compound Pair x y) = inl refl
carried_itself (compound AsymmetricEncryption x k) = inl refl
carried_itself (compound SymmetricEncryption x k) = inl refl

carried_through : (t u m : Message) → Carried t u → Carried u m → Carried t m
carried_through t u (symbol s n) h e = subst (Carried t) e h
carried_through t u (inverse_key n) h e = subst (Carried t) e h
carried_through t u (compound Pair x y) h (inl e) = subst (Carried t) e h
carried_through t u (compound Pair x y) h (inr (inl c)) = inr (inl (carried_through t u x h c))
carried_through t u (compound Pair x y) h (inr (inr c)) = inr (inr (carried_through t u y h c))
carried_through t u (compound AsymmetricEncryption x k) h (inl e) = subst (Carried t) e h
carried_through t u (compound AsymmetricEncryption x k) h (inr c) = inr (carried_through t u x h c)
carried_through t u (compound SymmetricEncryption x k) h (inl e) = subst (Carried t) e h
carried_through t u (compound SymmetricEncryption x k) h (inr c) = inr (carried_through t u x h c)

-- one step of the relation, after which the rest follows
equal_⊑ : (t m : Message) → t ≡ m → t ⊑ m
equal_⊑ t m e = subst (λ u. u ⊑ m) (sym e) itself

carried_⊑ : (t m : Message) → Carried t m → t ⊑ m
carried_⊑ t (symbol s n) e = equal_⊑ t _ e
carried_⊑ t (inverse_key n) e = equal_⊑ t _ e
carried_⊑ t (compound Pair x y) (inl e) = equal_⊑ t _ e
carried_⊑ t (compound Pair x y) (inr (inl c)) = through (carried_⊑ t x c) first
carried_⊑ t (compound Pair x y) (inr (inr c)) = through (carried_⊑ t y c) second
carried_⊑ t (compound AsymmetricEncryption x k) (inl e) = equal_⊑ t _ e
carried_⊑ t (compound AsymmetricEncryption x k) (inr c) = through (carried_⊑ t x c) asymmetric
carried_⊑ t (compound SymmetricEncryption x k) (inl e) = equal_⊑ t _ e
carried_⊑ t (compound SymmetricEncryption x k) (inr c) = through (carried_⊑ t x c) symmetric

⊑_carried : {t m : Message} → t ⊑ m → Carried t m
⊑_carried (itself {m = m}) = carried_itself m
⊑_carried (through {t = t} {u = u} {m = m} p q) = carried_through t u m (⊑_carried p) (⊑_carried q)
⊑_carried (first {x = x}) = inr (inl (carried_itself x))
⊑_carried (second {y = y}) = inr (inr (carried_itself y))
⊑_carried (asymmetric {x = x}) = inr (carried_itself x)
⊑_carried (symmetric {x = x}) = inr (carried_itself x)

-- no message is an operation with itself as the second part
not_own_part : (o : Operation) (x k : Message) → k ≡ compound o x k → ⊥
not_own_part o x k e = omega (arith, ap size e)

carried_key : (o : Operation) (x k : Message) → (k ≡ compound o x k) ⊎ Carried k x → Carried k x
carried_key o x k (inl e) = absurd (not_own_part o x k e)
carried_key o x k (inr c) = c

pub carrying : Carrying
carrying = record {
  least = λ t m. (carried_⊑ t m, ⊑_carried);
  asymmetric_key = carried_key AsymmetricEncryption;
  symmetric_key = carried_key SymmetricEncryption;
}
