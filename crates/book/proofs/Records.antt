-- A step of a book ends every history that fits the book before it, and every history from a new book on is recorded.
use Rattle.std.proofs.Common.{◌≡◌, List, [], ◌∷◌, ◌++◌, sym, ap, ◌∙◌, subst}
use Rattle.message.specs.Terms.{normal}
use Rattle.message.proofs.Carrying.{carrying}
use Rattle.message.proofs.Terms.{algebra}
use Rattle.bundle.proofs.Apart.{equal_arrows}
use Rattle.assumption.proofs.Alike.{equal_assumptions}
use Rattle.book.specs.declared.book.Book.{Book}
use Rattle.book.specs.Entries.{Entries, none}
use Rattle.book.specs.Calls.{Call, Defined, Reply, after}
use Rattle.book.specs.Notes.{Note, note}
use Rattle.book.specs.Sound.{Sound}
use Rattle.book.specs.Held.{Answered, answered_by, Begins, Calls, Recorded, Step, entries, no_call, then_call}
use Rattle.book.proofs.Histories.{Replies, after_append, replies_none, replies_push}
use Rattle.book.proofs.Numbers.{numbers}
use Rattle.book.proofs.Standing.{orderly}

sound : (ns : List Note) → Replies none ns → Sound ns
sound ns replies =
    record {
      replies = replies;
      numbers = numbers ns replies;
      terms = λ k l t u ft fu g h.
          let n = numbers ns replies k l (normal t) (normal u) g h in ((λ e. algebra.complete t u ft fu (n.0 e)), (λ e. n.1 (algebra.sound t u e)));
    }

recorded_push : (b b' : Book) (c : Call) (r : Reply c) (ns : List Note) → Step b c r b' → Recorded ns b → Recorded (ns ++ note c r ∷ []) b'
recorded_push b b' c r ns s h =
    record {
      stands = after_append none ns (note c r ∷ []) ∙ (ap (λ (e : Entries). after e c) h.stands ∙ sym s.holds);
      sound = sound (ns ++ note c r ∷ []) (replies_push none ns (note c r) h.sound.replies (subst (λ (e : Entries). Defined e c r) (sym h.stands) s.reply));
    }

pub answered : {b b' : Book} {c : Call} {r : Reply c} → Step b c r b' → Answered b c r b'
answered {b} {b'} {c} {r} s = answered_by s (λ ns h. recorded_push b b' c r ns s h)

chained : (a b : Book) (ns : List Note) → Recorded [] a → Calls a ns b → Recorded ns b
chained a b ns h no_call = h
chained a b ns h (then_call {b = m} {ns = ms} {c = c} {r = r} cs s) = recorded_push m b c r ms s (chained a m ms h cs)

pub begins : (b : Book) → entries b ≡ none → Begins b
begins b e =
    let new : Recorded [] b = record { stands = sym e; sound = sound [] (replies_none none) } in
    record {
      empty = new;
      histories = λ ns b' cs. chained b b' ns new cs;
      orderly = orderly;
      algebra = algebra;
      carrying = carrying;
      arrows = equal_arrows;
      assumptions = equal_assumptions;
    }
