-- What the types of arguments find (3.4.2).
use Rattle.std.specs.Prelude.{ℕ, ◌≡◌, Bool, false, ◌||◌, List, [], ◌∷◌, ◌++◌, length, map, Option, Some, None, Result, Ok, Err}
use Rattle.cxx_model.specs.declared.facts.Fact.{Fact}
use Rattle.cxx_model.specs.declared.lookup.Associated.{Associated}
use Rattle.cxx_model.specs.declared.types.ClassId.{ClassId}
use Rattle.cxx_model.specs.declared.types.FactId.{FactId}
use Rattle.cxx_model.specs.declared.types.ScopeId.{ScopeId}
use Rattle.cxx_model.specs.declared.types.TypeId.{TypeId}
use Rattle.cxx_model.specs.Facts.Declarations.{CxxGraph, CxxName}
use Rattle.cxx_model.specs.Facts.Pending.{is_pending}
use Rattle.cxx_model.specs.Types.Numbers.{type_at}
use Rattle.cxx_model.specs.Types.Trees.{CxxType, enumeration}
use Rattle.cxx_meaning.specs.Lookups.Associated.{Part, adl, associated, class_at_scope, class_of, collected, of_type, scope_of_enumeration, target_by}
use Rattle.cxx_meaning.specs.Lookups.Gathered.{before}
use Rattle.cxx_meaning.specs.Lookups.Sightings.{Sighting}
use Rattle.cxx_names.specs.Index.{friends_of, of_class}

-- the types with some numbers
abbrev pub given : List CxxType → List TypeId → List CxxType
given types numbers = map (λ n. type_at types n.0) numbers

-- what is found in the namespaces of some types; none where a class has to be complete first
abbrev pub found_in_sets : CxxGraph → CxxName → Result Associated ClassId → List FactId
found_in_sets graph name (Ok sets) = adl graph sets name (length graph.facts)
found_in_sets graph name (Err class) = []

-- The functions of a name that some types find.
abbrev pub AreFoundBy : CxxGraph → List CxxType → CxxName → List FactId → Type 0
AreFoundBy graph types name found = found ≡ found_in_sets graph name (associated graph types)

-- ---- classes of which something is a member

-- the scope of an enumeration
abbrev pub enumeration_scope_of : CxxGraph → Part → Option ScopeId
enumeration_scope_of graph (of_type (enumeration n)) = scope_of_enumeration graph n
enumeration_scope_of graph _ = None

-- the classes of which enumerations are members, beside others
abbrev pub with_enumeration_classes : CxxGraph → List Part → List ℕ → List ℕ
with_enumeration_classes graph parts found = collected (λ part. class_at_scope graph (enumeration_scope_of graph part)) found parts

-- ---- friends (11.4)

-- what friend declarations declare, where that has the name
abbrev pub befriended_in : CxxGraph → CxxName → List FactId → List Sighting
befriended_in graph name [] = []
befriended_in graph name (target ∷ others) = before (target_by graph name (Some target)) (befriended_in graph name others)

-- the same of all friend declarations of a class
abbrev pub friends_of_class : CxxGraph → CxxName → List Fact → ℕ → List Sighting
friends_of_class graph name facts class = befriended_in graph name (of_class (record { 0 = class }) (friends_of facts))

-- and of some classes, one after another
abbrev pub friends_in : CxxGraph → CxxName → List Fact → List ℕ → List Sighting
friends_in graph name facts [] = []
friends_in graph name facts (class ∷ others) = friends_of_class graph name facts class ++ friends_in graph name facts others

-- ---- classes that have to be complete first (14.7.1)

abbrev pub is_pending_by : CxxGraph → Option ℕ → Bool
is_pending_by graph None = false
is_pending_by graph (Some class) = is_pending graph class

-- whether a class among some parts is one
abbrev pub any_pending : CxxGraph → List Part → Bool
any_pending graph [] = false
any_pending graph (part ∷ others) = is_pending_by graph (class_of part) || any_pending graph others
