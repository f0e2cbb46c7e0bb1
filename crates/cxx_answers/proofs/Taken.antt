-- Who is asked which function a call means, taken out of the state and put back.
use Rattle.std.specs.Prelude.{ℕ, ◌≡◌, ◌<◌, Bool, false, List, length, Option, Result, Ok, Err, refl}
use Rattle.std.proofs.Common.{ap, sym, subst, ◌∙◌}
use Rattle.cxx_model.specs.declared.place.Place.{Place}
use Rattle.cxx_model.specs.declared.sequence.Operand.{Operand}
use Rattle.cxx_model.specs.declared.stop.Stop.{Stop}
use Rattle.cxx_model.specs.declared.stop.Stop.TheVariants as stop
use Rattle.cxx_model.specs.declared.types.FactId.{FactId}
use Rattle.cxx_expr.specs.declared.questions.Chosen.{Chosen}
use Rattle.cxx_expr.specs.Views.{AreFactsKnown, AreOperandsBelow, IsChosen, chosen_of, numbered}
use Rattle.cxx_overload.specs.declared.object.Object.{Object}
use Rattle.cxx_overload.specs.Told.{HasStayed}
use Rattle.cxx_tree.specs.Answered.{IsAnswered, Replies}
use Rattle.cxx_tree.specs.Held.{Held, meaning}
use Rattle.cxx_tree.specs.Later.{Later}
use Rattle.cxx_tree.specs.Told.{told}
use Rattle.cxx_answers.specs.Answers.{called_as, decided_among}
use Rattle.cxx_answers.specs.Ruled.{asked_of}

-- whoever stops without want of memory is as it was
pub stayed : (old new : Option (List Place)) (why : Stop) → new ≡ old → HasStayed old new why
stayed old new stop.OutOfMemory same = tt
stayed old new (stop.Fault fault) same = same
stayed old new (stop.Limit kind) same = same

-- a state without whoever is asked
abbrev without : Held → Held
without held = record held { asks = false }

pub taken_known : (old new : Held) (all : List FactId) → new ≡ without old → AreFactsKnown old all → AreFactsKnown new all
taken_known old new all is known = subst (λ (h : Held). AreFactsKnown h all) (sym is) known

pub taken_below : (old new : Held) (operands : List Operand) → new ≡ without old → AreOperandsBelow (length old.types) operands → AreOperandsBelow (length new.types) operands
taken_below old new operands is below = subst (λ (h : Held). AreOperandsBelow (length h.types) operands) (sym is) below

told_without : (held : Held) → told (without held) ≡ told held
unfolding told meaning
told_without held = refl

pub taken_told : (old new : Held) (shown : Option (List Place)) → new ≡ without old → shown ≡ told old → shown ≡ told new
taken_told old new shown is tells = tells ∙ (sym (told_without old) ∙ ap told (sym is))

called_without : (held new : Held) (result : Result Chosen Stop) (place : Place) (is_bare : Bool) (word : List ℕ) (functions all : List FactId) (object : Option Object) (operands : List Operand)
    → IsAnswered chosen_of IsChosen (without held) new result (called_as (meaning (without held)) (decided_among (asked_of (without held) place is_bare word functions object operands) (meaning (without held)) (numbered (without held) all)))
    → IsAnswered chosen_of IsChosen held new result (called_as (meaning held) (decided_among (asked_of held place is_bare word functions object operands) (meaning held) (numbered held all)))
unfolding meaning
called_without held new result place is_bare word functions all object operands called = record {
  is = called.is;
  later = record { types = called.later.types; trees = called.later.trees; tells = called.later.tells };
}

pub taken_called : (old middle new : Held) (result : Result Chosen Stop) (place : Place) (is_bare : Bool) (word : List ℕ) (functions all : List FactId) (object : Option Object) (operands : List Operand) → middle ≡ without old
    → IsAnswered chosen_of IsChosen middle new result (called_as (meaning middle) (decided_among (asked_of middle place is_bare word functions object operands) (meaning middle) (numbered middle all)))
    → IsAnswered chosen_of IsChosen old new result (called_as (meaning old) (decided_among (asked_of old place is_bare word functions object operands) (meaning old) (numbered old all)))
taken_called old middle new result place is_bare word functions all object operands is called =
    called_without old new result place is_bare word functions all object operands
    (subst (λ (h : Held). IsAnswered chosen_of IsChosen h new result (called_as (meaning h) (decided_among (asked_of h place is_bare word functions object operands) (meaning h) (numbered h all)))) is called)
