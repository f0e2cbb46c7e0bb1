-- `this` (9.3.2).
use Rattle.std.specs.Prelude.{ℕ, zero, suc, nat_eq, Bool, if◌then◌else◌, List, [], ◌∷◌, Option, Some, None}
use Rattle.std.specs.List.{slice_get}
use Rattle.cxx_model.specs.declared.facts.ScopeKind.TheVariants as scope_kind
use Rattle.cxx_model.specs.declared.types.ClassId.{ClassId}
use Rattle.cxx_model.specs.declared.types.FactId.{FactId}
use Rattle.cxx_model.specs.Facts.Conflicts.{are_parameters}
use Rattle.cxx_model.specs.Facts.Declarations as facts
use Rattle.cxx_model.specs.Facts.Declarations.{CxxFact, CxxGraph, Declares}
use Rattle.cxx_model.specs.Facts.Entities.{scope_kinds}
use Rattle.cxx_model.specs.Types.Trees.{CxxType, class_type, function_of, with_cv}
use Rattle.cxx_meaning.specs.Lookups.Member.{class_of_scope}
use Rattle.cxx_meaning.specs.Lookups.Wanted.{is_nonstatic_kind}
use Rattle.cxx_reading.specs.Linked.{scope_id}
use Rattle.cxx_reading.specs.Seen.{parent_of}
use Rattle.cxx_reading.specs.State.{CxxState}

-- ---- the function in whose body a scope stands (8.4)

-- the function whose body is the block that a declaration begins
abbrev pub begun_by : Declares → Option FactId
begun_by (facts.scope parent (scope_kind.Block function)) = function
begun_by _ = None

abbrev pub or_next : Option FactId → Option FactId → Option FactId
or_next None later = later
or_next (Some one) later = Some one

-- the first one whose body is a block that some declarations begin in a scope
abbrev pub begun_in : ℕ → List CxxFact → Option FactId
begun_in scope [] = None
begun_in scope (fact ∷ others) = or_next (if nat_eq fact.scope scope then begun_by fact.what else None) (begun_in scope others)

-- 3.3.2: a body stands in the scope of the parameters of its function
abbrev pub function_at : CxxGraph → ℕ → Option FactId
function_at graph scope = if are_parameters (slice_get (scope_kinds graph.facts) scope) then begun_in scope graph.facts else None

-- outward from a scope, in so many steps
abbrev pub function_from : CxxGraph → ℕ → ℕ → Option FactId
function_from graph zero scope = None
function_from graph (suc room) scope = or_next (function_at graph scope) (function_from graph room (parent_of graph scope))

-- by a declaration of it, where there is one; a scope has a smaller number than those that it holds
unfoldable pub function_round : CxxGraph → ℕ → Option FactId
function_round graph scope = function_from graph scope scope

-- ---- the object for which it is called

abbrev pub class_or_none : Option ClassId → Option CxxType
class_or_none None = None
class_or_none (Some class) = Some (class_type class.0)

-- 9.2: the class to which a scope belongs
unfoldable pub class_at : CxxGraph → ℕ → Option CxxType
class_at graph scope = class_or_none (class_of_scope graph.facts (scope_id scope))

-- 9.3.1: an object of the class of a function has the words behind its parameters
abbrev pub with_words : CxxType → CxxType → CxxType
with_words (function_of result parameters ellipsis cv) class = with_cv cv class
with_words of class = class

abbrev pub object_of_class : CxxType → Option CxxType → Option CxxType
object_of_class of None = None
object_of_class of (Some class) = Some (with_words of class)

-- 9.3.2: there is one for a function that belongs to an object of its class
abbrev pub object_by : CxxGraph → ℕ → Declares → Option CxxType
object_by graph scope (facts.function of kind flags defaults first) = if is_nonstatic_kind kind then object_of_class of (class_at graph scope) else None
object_by graph scope _ = None

abbrev pub object_in : CxxGraph → Option CxxFact → Option CxxType
object_in graph None = None
object_in graph (Some fact) = object_by graph fact.scope fact.what

abbrev pub object_of : CxxGraph → Option FactId → Option CxxType
object_of graph None = None
object_of graph (Some function) = object_in graph (slice_get graph.facts function.0)

-- 9.3.2: the type of `*this` in a scope, in the body of a function that belongs to an object; none in default arguments (8.3.6)
unfoldable pub this_in : CxxGraph → ℕ → Bool → Option CxxType
this_in graph scope in_default = if in_default then None else object_of graph (function_round graph scope)

-- where the reader stands
abbrev pub this_object : CxxState → Option CxxType
this_object state = this_in state.graph state.here.scope state.in_default
