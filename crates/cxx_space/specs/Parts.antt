-- A declarator that fits, and what stands behind that of a function, in a namespace that has begun, and behind specifications
-- of linkage.
use Rattle.std.specs.Prelude.{ℕ, Bool, not, ◌&&◌, if◌then◌else◌, List, [], Option}
use Rattle.cxx_model.specs.declared.fault.FaultText.TheVariants as says
use Rattle.cxx_model.specs.declared.fault.LeftOut.TheVariants as form
use Rattle.cxx_model.specs.declared.keyword.TheConstants as keyword
use Rattle.cxx_model.specs.declared.punct.TheConstants as punct
use Rattle.cxx_model.specs.declared.types.Cv.{Cv}
use Rattle.cxx_model.specs.Text.Lexemes.{Lexeme}
use Rattle.cxx_model.specs.Types.Trees.{CxxType}
use Rattle.cxx_reading.specs.Declarators.{Declarator, is_function_type}
use Rattle.cxx_reading.specs.Productions as production
use Rattle.cxx_reading.specs.Reads.{Reads, Asks, Ahead, ◌>>=◌, got, give, ask, fault_at, looked, kind_ahead, place_ahead, taken}
use Rattle.cxx_reading.specs.Spaces.{close_space}
use Rattle.cxx_reading.specs.State.{CxxState}
use Rattle.cxx_reading.specs.Syntax.{declarator_at}
use Rattle.cxx_reading.specs.Tokens.{is_punct, is_keyword, refused}
use Rattle.cxx_reading.specs.Trees.{CxxTree}
use Rattle.cxx_reading.specs.Units.{Said, declared_fits, ends_declarator, linkages_passed, one_tree}
use Rattle.cxx_reading.specs.declared.specifier.Naming.TheVariants as naming
use Rattle.cxx_declare.specs.Functions.{declare_function}
use Rattle.cxx_declare.specs.Outside.{agree_here, declare_again, stand_in}
use Rattle.cxx_language.specs.Asked.{asked, inner_at}
use Rattle.cxx_language.specs.Bodies.{function_body, standing}
use Rattle.cxx_language.specs.Later.{Declares}
use Rattle.cxx_language.specs.Spaces.{give_part}
use Rattle.cxx_language.specs.Units.{declared_by, linkage_by, member_agrees, not_ended, stands_in_class}

-- 8.4: behind the declarator of the function with a declaration, which has a list of parameters with a scope
abbrev pub body_or_not : ℕ → Lexeme → CxxType → ℕ → ℕ → Reads CxxState (List CxxTree)
body_or_not room name of number list state ahead =
    if is_punct punct.LEFT_BRACE (kind_ahead ahead) then (function_body room name of number list >>= one_tree) state ahead else (
    if is_keyword keyword.TRY (kind_ahead ahead) then fault_at (place_ahead ahead) (says.LeftOut form.Exception) state ahead else
    refused state ahead)

-- the same where it is not known whether it has one
abbrev pub function_end : ℕ → Bool → Lexeme → CxxType → ℕ → Option ℕ → Reads CxxState (List CxxTree)
function_end room is_first name of number list state ahead =
    if ends_declarator (kind_ahead ahead) then got [] state ahead else
    not_ended room is_first name of number list state ahead

-- 9.3: a function is declared, given its type, with the scope of its list of parameters and the words behind it
abbrev pub function_by : Option ℕ → Lexeme → Cv → CxxType → Asks CxxState ℕ
function_by list name cv of state =
    if stands_in_class state then declare_again name cv of state else
    declare_function list name of state

-- 8.3: what has qualifiers was declared before, given its type; whether a class has declared its function is asked when that is
-- declared
abbrev pub outside_by : Bool → Lexeme → CxxType → Reads CxxState (Unit {0})
outside_by is_typedef name of state ahead =
    if not is_typedef && (is_function_type of && stands_in_class state) then got tt state ahead else
    ask (agree_here is_typedef name of) state ahead

-- 8.3: what has qualifiers was declared before with the same type, as one step
unfoldable pub agreed : Said → Declarator → Reads CxxState (Unit {0})
agreed said declarator = member_agrees said declarator

-- 8.3: what a declarator declares that fits, once it is known that it agrees with what was declared before
abbrev pub fitting_by : ℕ → Said → Bool → Ahead → Declarator → Reads CxxState Declares
fitting_by room said is_first from declarator = agreed said declarator >>= λ agrees. declared_by room said is_first from declarator

-- 8.3: a declarator with what stands behind it, that agrees in one step
unfoldable pub declarator_apart : ℕ → Said → Bool → Reads CxxState Declares
declarator_apart room said is_first = do
  outside ← standing
  from ← looked
  declarator ← declarator_at (asked room).kinds (inner_at room).types naming.Qualified
  fits ← declared_fits said declarator
  agrees ← agreed said declarator
  one ← declared_by room said is_first from declarator
  left ← ask (stand_in outside)
  give one

-- 7.3.1: from the `{` on, where it has begun
abbrev pub behind_begin : Reads CxxState (List CxxTree) → Ahead → Reads CxxState CxxTree
behind_begin inside from = taken >>= λ opened. inside >>= λ trees. ask close_space >>= λ closed. give_part production.namespace_definition from trees

-- 7.5: a declaration with specifications of linkage, or without
abbrev pub linkages_at : ℕ → Reads CxxState (List CxxTree) → Reads CxxState CxxTree
linkages_at room inside state ahead = (linkages_passed >>= linkage_by room inside ahead) state ahead
