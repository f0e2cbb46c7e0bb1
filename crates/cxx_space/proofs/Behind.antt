-- Behind a declarator the reader stands where it stood before, and behind a class where that ended.
use Rattle.std.specs.Prelude.{ℕ, ◌≡◌, List, Result, Ok, Err}
use Rattle.std.proofs.Common.{ap, subst, sym, ◌∙◌}
use Rattle.cxx_cursor.specs.Reading.{Answers, IsRead}
use Rattle.cxx_cursor.specs.Views.{AreTreesHeld, trees_held}
use Rattle.cxx_cursor.proofs.Kept.{later_trans}
use Rattle.cxx_language.specs.Later.{Declares, all_read, defaults_read}
use Rattle.cxx_later.specs.declared.waiting.Waiting as code
use Rattle.cxx_later.specs.Defaults.{LaterDefault}
use Rattle.cxx_later.specs.Views.{AreWaitingHeld, waiting_held}
use Rattle.cxx_later.specs.Waiting.{Waiting}
use Rattle.cxx_later.proofs.Kept.{all_waiting_kept}
use Rattle.cxx_model.specs.declared.stop.Stop.{Stop}
use Rattle.cxx_model.specs.declared.types.TreeId.{TreeId}
use Rattle.cxx_model.specs.Stops.{Answer}
use Rattle.cxx_reading.specs.Declaring.{at_scope}
use Rattle.cxx_reading.specs.Reads.{Ahead, Got, got, then_read}
use Rattle.cxx_reading.specs.State.{CxxState}
use Rattle.cxx_reading.specs.Trees.{CxxTree}
use Rattle.cxx_space.specs.declared.bodies.Declared.{Declared}
use Rattle.cxx_space.specs.Behind.{bodies_from, stood_again}
use Rattle.cxx_space.specs.Views.{IsDeclaredKnown, declares_of}
use Rattle.cxx_space.proofs.Kept.{declared_later, declares_kept}
use Rattle.cxx_tree.specs.Held.{Held, meaning}
use Rattle.cxx_tree.specs.Later.{Later}

abbrev state_of : CxxState → Answer (Unit {0} × CxxState) → CxxState
state_of otherwise (Ok both) = both.1
state_of otherwise (Err why) = otherwise

pub stood : (old new : Held) (outside : ℕ) (one : Declared) (ahead : Ahead) (unit : Unit {0}) → ◌≡◌ {A = Answer (Unit {0} × CxxState)} (Ok (tt {0}, at_scope outside (meaning old))) (Ok (unit, meaning new)) → Later old new → IsDeclaredKnown old one → IsRead declares_of IsDeclaredKnown old new ahead (Ok one) (stood_again outside (declares_of old one) (meaning old) ahead)
stood old new outside one ahead unit is later known =
    let moved : at_scope outside (meaning old) ≡ meaning new = ap (state_of (meaning new)) is in
    record {
      is = (
        ap (λ (state : CxxState). got (declares_of old one) state ahead) moved ∙ ap (λ (declares : Declares). got declares (meaning new) ahead) (sym (declares_kept old new one later known)),
        declared_later old new one later known,
      );
      later = later;
    }

-- the default arguments of a class were read, and then its bodies
pub all_behind : (old middle new : Held) (from to inside : Ahead) (defaults : List LaterDefault) (bodies : List code.Waiting) (unit : Unit {0}) (r : Result (List TreeId) Stop)
    → defaults_read defaults (meaning old) from ≡ got unit (meaning middle) inside → Later old middle → AreWaitingHeld old bodies
    → IsRead trees_held AreTreesHeld middle new to r (bodies_from from to (waiting_held middle bodies) (meaning middle) inside)
    → IsRead trees_held AreTreesHeld old new to r (all_read from to defaults (waiting_held old bodies) (meaning old) to)
unfolding all_read
all_behind old middle new from to inside defaults bodies unit r reads later held is = record {
  is =
      subst (λ (reading : Answer (Got CxxState (List CxxTree))). Answers trees_held AreTreesHeld new to r reading)
      (ap (λ (ws : List Waiting). bodies_from from to ws (meaning middle) inside) (all_waiting_kept old middle bodies later held)
      ∙ sym (ap (λ (were_read : Answer (Got CxxState (Unit {0}))). then_read were_read (λ done. bodies_from from to (waiting_held old bodies))) reads)) is.is;
  later = later_trans old middle new later is.later;
}
