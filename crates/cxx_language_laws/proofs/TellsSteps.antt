-- What an object as one of another class keeps of the state, and what stops it (5.2.5, 10.2).
use Rattle.std.proofs.Common.{refl}
use Rattle.std.specs.Prelude.{ℕ, nat_eq, Option, Some, None}
use Rattle.cxx_model.specs.declared.place.Place.{Place}
use Rattle.cxx_model.specs.Stops.{Answer, Stopped}
use Rattle.cxx_model.specs.Types.Trees.{CxxType}
use Rattle.cxx_meaning.specs.Conversions.Derived.{is_derived}
use Rattle.cxx_reading.specs.Initializers.{operand_of}
use Rattle.cxx_reading.specs.Reads.{Ahead}
use Rattle.cxx_reading.specs.State.{CxxState}
use Rattle.cxx_reading.specs.Trees.{CxxTree}
use Rattle.cxx_expr.specs.Operands.{object_operand}
use Rattle.cxx_expr.specs.Questions.{Questions}
use Rattle.cxx_expr.specs.Steps.{base_reference, class_of, kept_by, step, step_between, step_by, step_to, stepped}
use Rattle.cxx_language_laws.proofs.Later.{QuietBy, quiet_answer, quiet_refusal}
use Rattle.cxx_language_laws.proofs.QuestionsTell.{quiet_by, same_by, if_by, give_by}
use Rattle.cxx_language_laws.proofs.Tells.{IsTold, ToldBy, Answers}
use Rattle.cxx_language_laws.proofs.TellsConversions.{convert_tells, one_base_quiet}

-- a tree, unless a fault that says nothing of names stops it
pub kept_by_tells : {kept : CxxState → CxxState → Type 0} {told : CxxState → Ahead → Stopped → Type 0} → IsTold kept told → {done : Answer (Unit {0})} → QuietBy done → (tree : CxxTree) (state : CxxState) (ahead : Ahead) → ToldBy kept told state ahead (kept_by tree state done)
kept_by_tells is (quiet_answer one) tree state ahead = same_by is tree state ahead
kept_by_tells is (quiet_refusal why quiet) tree state ahead = quiet_by is quiet

stepped_tells : {kept : CxxState → CxxState → Type 0} {told : CxxState → Ahead → Stopped → Type 0} → IsTold kept told → (q : Questions) (place : Place) (of from to : CxxType) (object : CxxTree) → Answers kept told (stepped q place of from to object)
stepped_tells is q place of from to object state ahead = if_by (operand_of object).lvalue (convert_tells is q place (base_reference of to) object state ahead) (kept_by_tells is (one_base_quiet state.graph place (object_operand from) to) object state ahead)

step_between_tells : {kept : CxxState → CxxState → Type 0} {told : CxxState → Ahead → Stopped → Type 0} → IsTold kept told → (q : Questions) (place : Place) (of from to : CxxType) (n m : ℕ) (object : CxxTree) → Answers kept told (step_between q place of from to n m object)
step_between_tells is q place of from to n m object state ahead = if_by (nat_eq n m) (same_by is object state ahead) (if_by (is_derived state.graph n m) (stepped_tells is q place of from to object state ahead) (quiet_by is refl))

step_by_tells : {kept : CxxState → CxxState → Type 0} {told : CxxState → Ahead → Stopped → Type 0} → IsTold kept told → (q : Questions) (place : Place) (of from to : CxxType) (one other : Option ℕ) (object : CxxTree) → Answers kept told (step_by q place of from to one other object)
step_by_tells is q place of from to (Some n) (Some m) object state ahead = step_between_tells is q place of from to n m object state ahead
step_by_tells is q place of from to (Some n) None object state ahead = give_by is object state ahead
step_by_tells is q place of from to None other object state ahead = give_by is object state ahead

pub step_tells : {kept : CxxState → CxxState → Type 0} {told : CxxState → Ahead → Stopped → Type 0} → IsTold kept told → (q : Questions) (place : Place) (of from to : CxxType) (object : CxxTree) → Answers kept told (step q place of from to object)
unfolding step
step_tells is q place of from to object state ahead = step_by_tells is q place of from to (class_of from) (class_of to) object state ahead

pub step_to_tells : {kept : CxxState → CxxState → Type 0} {told : CxxState → Ahead → Stopped → Type 0} → IsTold kept told → (q : Questions) (place : Place) (of from : CxxType) (to : Option CxxType) (object : CxxTree) → Answers kept told (step_to q place of from to object)
step_to_tells is q place of from None object state ahead = give_by is object state ahead
step_to_tells is q place of from (Some to) object state ahead = step_tells is q place of from to object state ahead
