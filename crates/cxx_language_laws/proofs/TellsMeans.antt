-- What names of objects and of functions that stand without an object keep of the state, and what stops them.
use Rattle.std.proofs.Common.{refl}
use Rattle.std.specs.Prelude.{ℕ, Bool, true, false, List}
use Rattle.cxx_model.specs.declared.facts.MemberKind.{MemberKind}
use Rattle.cxx_model.specs.declared.place.Place.{Place}
use Rattle.cxx_model.specs.Facts.Declarations.{CxxGraph}
use Rattle.cxx_model.specs.Stops.{Stopped}
use Rattle.cxx_model.specs.Types.Trees.{CxxType}
use Rattle.cxx_reading.specs.Reads.{Ahead}
use Rattle.cxx_reading.specs.Seen.{Numbered}
use Rattle.cxx_reading.specs.State.{CxxState}
use Rattle.cxx_expr.specs.Names.{Means, are_one_function, is_nonstatic, means_function, means_object, means_object_by}
use Rattle.cxx_language_laws.proofs.QuestionsTell.{quiet_by, if_by, give_by}
use Rattle.cxx_language_laws.proofs.Tells.{IsTold, Answers}

pub means_object_tells : {kept : CxxState → CxxState → Type 0} {told : CxxState → Ahead → Stopped → Type 0} → IsTold kept told → (place : Place) (needs_object : Bool) (means : Means) → Answers kept told (means_object_by place needs_object means)
means_object_tells is place true means state ahead = quiet_by is refl
means_object_tells is place false means state ahead = give_by is means state ahead

pub means_function_tells : {kept : CxxState → CxxState → Type 0} {told : CxxState → Ahead → Stopped → Type 0} → IsTold kept told → (place : Place) (graph : CxxGraph) (kind : MemberKind) (target : ℕ) (own : CxxType) (all : List Numbered) → Answers kept told (means_function place graph kind target own all)
means_function_tells is place graph kind target own all state ahead = if_by (are_one_function target all) (means_object_tells is place (is_nonstatic kind) (means_object graph target own) state ahead) (quiet_by is refl)
