-- What `Carried` means: it is the least relation that is reflexive and transitive and holds between a pair and its parts
-- and between an encryption and its content.
use Rattle.std.specs.Prelude.{◌↔◌}
use Rattle.message.specs.declared.stored.Operation.TheVariants.{Pair, AsymmetricEncryption, SymmetricEncryption}
use Rattle.message.specs.Message.{Message, compound}
use Rattle.message.specs.Carried.{Carried}

infix 4 ◌⊑◌
-- t ⊑ m: t can be had from m by taking pairs apart and opening encryptions
pub data ◌⊑◌ : Message → Message → Type 0 where
  itself : {m : Message} → m ⊑ m
  through : {t u m : Message} → t ⊑ u → u ⊑ m → t ⊑ m
  first : {x y : Message} → x ⊑ compound Pair x y
  second : {x y : Message} → y ⊑ compound Pair x y
  asymmetric : {x k : Message} → x ⊑ compound AsymmetricEncryption x k
  symmetric : {x k : Message} → x ⊑ compound SymmetricEncryption x k

pub record Carrying : Type 0 where
  pub least : (t m : Message) → Carried t m ↔ (t ⊑ m)
  -- an encryption carries its key only where the content does
  pub asymmetric_key : (x k : Message) → Carried k (compound AsymmetricEncryption x k) → Carried k x
  pub symmetric_key : (x k : Message) → Carried k (compound SymmetricEncryption x k) → Carried k x
