-- The object of a call (5.2.5, 13.3.1).
use Rattle.std.specs.Prelude.{Bool, true, false, if◌then◌else◌, List, Option, Some, None}
use Rattle.std.specs.List.{cons_option}
use Rattle.cxx_model.specs.declared.facts.MemberKind.{MemberKind}
use Rattle.cxx_model.specs.declared.facts.MemberKind.TheVariants as member
use Rattle.cxx_model.specs.declared.types.Cv.{Cv}
use Rattle.cxx_model.specs.Types.Trees.{CxxType, reference_to, unqualified, with_cv}
use Rattle.cxx_meaning.specs.Conversions.Standard.{CxxOperand}
use Rattle.cxx_overload.specs.Candidates.{CxxCandidate}

abbrev pub is_nonstatic : MemberKind → Bool
is_nonstatic member.Nonstatic = true
is_nonstatic _ = false

-- 13.3.1: The implicit object parameter of a nonstatic member function with some words behind its parameter list is a
-- reference to the class of the object with these words. The object is an lvalue here, so that any object binds to it.
abbrev pub object_parameter : CxxOperand → Cv → CxxType
object_parameter object cv = reference_to (with_cv cv (unqualified object.of))

-- that of a candidate, where a call has an object and it is a nonstatic member function
abbrev pub implicit_parameter : Option CxxOperand → CxxCandidate → Option CxxType
implicit_parameter None candidate = None
implicit_parameter (Some object) candidate = if is_nonstatic candidate.member then Some (object_parameter object candidate.cv) else None

-- what the object and the arguments of a call meet, as far as there are parameters
abbrev pub parameters_met : Option CxxOperand → CxxCandidate → List CxxType
parameters_met object candidate = cons_option (implicit_parameter object candidate) candidate.parameters
