-- Members of namespaces and of classes that are declared outside of these, by names with qualifiers (8.3, 9.4.2, 3.4.1).
use Rattle.std.specs.Prelude.{ℕ, zero, suc, Bool, true, false, not, ◌&&◌, ◌||◌, nat_eq, if◌then◌else◌, List, [], ◌∷◌, Option, Some, None, Ok, Err}
use Rattle.cxx_model.specs.declared.facts.MemberKind.{MemberKind}
use Rattle.cxx_model.specs.declared.facts.MemberKind.TheVariants as member_kind
use Rattle.cxx_model.specs.declared.facts.ScopeKind.{ScopeKind}
use Rattle.cxx_model.specs.declared.facts.ScopeKind.TheVariants as scope_kind
use Rattle.cxx_model.specs.declared.lookup.Found.{Found as Sought}
use Rattle.cxx_model.specs.declared.lookup.Found.TheVariants as sought
use Rattle.cxx_model.specs.declared.lookup.MemberFound.{MemberFound}
use Rattle.cxx_model.specs.declared.lookup.MemberFound.TheVariants as member
use Rattle.cxx_model.specs.declared.types.ClassId.{ClassId}
use Rattle.cxx_model.specs.declared.types.Cv.{Cv}
use Rattle.cxx_model.specs.declared.types.ScopeId.{ScopeId}
use Rattle.cxx_model.specs.Facts.Conflicts.{agree}
use Rattle.cxx_model.specs.Facts.Declarations as facts
use Rattle.cxx_model.specs.Facts.Declarations.{CxxFact, CxxGraph, Declares, spelled}
use Rattle.cxx_model.specs.Facts.Entities.{scope_kinds}
use Rattle.cxx_model.specs.Stops.{◌>>=◌, undeclared_at}
use Rattle.cxx_model.specs.Text.Lexemes.{Lexeme}
use Rattle.cxx_model.specs.Types.Same.{same_type}
use Rattle.cxx_model.specs.Types.Trees.{CxxType, function_of}
use Rattle.cxx_meaning.specs.Lookups.Member.{same_class}
use Rattle.cxx_meaning.specs.Lookups.Wanted.{any_name, is_nonstatic_kind}
use Rattle.cxx_reading.specs.declared.region.Region.{Region}
use Rattle.cxx_reading.specs.declared.region.Region.TheVariants as region
use Rattle.cxx_reading.specs.Declaring.{added, at_scope, class_of_here, conflicting_at, fact_here, number_id}
use Rattle.cxx_reading.specs.Linked.{home_of, scope_id}
use Rattle.cxx_reading.specs.Paths.{ambiguous_at, ambiguous_member_at, found_in, name_in, region_of, scope_of_region, sought_in}
use Rattle.cxx_reading.specs.Reads.{Asks}
use Rattle.cxx_reading.specs.Seen.{Numbered, declared_in}
use Rattle.cxx_reading.specs.State.{CxxState}
use Rattle.cxx_reading.specs.Trees.{CxxPath, CxxPathPart, last_part}

-- ---- the name

-- the reader stands in a scope
abbrev pub stand_in : ℕ → Asks CxxState (Unit {0})
stand_in scope state = Ok (tt, at_scope scope state)

-- whether a scope of this kind is that of a class
abbrev pub holds_class : ClassId → ScopeKind → Bool
holds_class class (scope_kind.Class other) = same_class other class
holds_class class _ = false

abbrev pub scope_or : ℕ → Bool → Option ScopeId → Option ScopeId
scope_or number true later = Some (scope_id number)
scope_or number false later = later

-- the first scope of a class among scopes of these kinds, the first of which has a number
abbrev pub first_scope : ClassId → ℕ → List ScopeKind → Option ScopeId
first_scope class number [] = None
first_scope class number (kind ∷ others) = scope_or number (holds_class class kind) (first_scope class (suc number) others)

abbrev pub scope_or_unit : Option ScopeId → ScopeId
scope_or_unit None = scope_id zero
scope_or_unit (Some scope) = scope

-- 9.2: the scope of a class; that of the unit where the class has not begun
unfoldable pub scope_of_class : CxxGraph → ClassId → ℕ
scope_of_class graph class = (scope_or_unit (first_scope class zero (scope_kinds graph.facts))).0

-- 9.4.2: in the scope of its class
abbrev pub entered_member : CxxPathPart → ClassId → MemberFound → Asks CxxState (Unit {0})
entered_member part class member.Empty state = Err (undeclared_at part.place part.word)
entered_member part class (member.Set targets path) state = stand_in (scope_of_class state.graph class) state
entered_member part class (member.Ambiguous one two) state = Err (ambiguous_member_at state.graph part one two)

abbrev pub entered_found : CxxPathPart → Region → Sought → Asks CxxState (Unit {0})
entered_found part where_ (sought.Ambiguous one two) state = Err (ambiguous_at state.graph part one two)
entered_found part where_ (sought.Set targets) state = stand_in (scope_of_region where_) state
entered_found part where_ (sought.Member class of) state = entered_member part class of state
entered_found part where_ sought.Empty state = Err (undeclared_at part.place part.word)

-- 3.4.1, 8.3: the name of a declarator means something in its namespace or its class, where the reader stands then
unfoldable pub enter_member : CxxPath → Asks CxxState (Unit {0})
enter_member path state = region_of state.graph state.here.scope path >>= λ where_. entered_found (last_part path.parts) where_ (sought_in state.graph any_name where_ (name_in path)) state

-- ---- what is declared

-- 3.5, 8.3: a declaration is of a member of a namespace itself, and not of one that its directives reach; or of a class
-- itself, and not of one of its bases
abbrev pub is_own : CxxGraph → ℕ → Numbered → Bool
is_own graph scope one = nat_eq one.fact.scope scope || nat_eq (home_of graph one.fact.scope) scope

-- whether it declares a synonym of a type, or an object or a function with that type; an object that is a member of each
-- object of its class (9.2) is none of these
abbrev pub agrees : Bool → CxxType → Declares → Bool
agrees true of (facts.synonym other) = same_type other of
agrees false of (facts.object other kind is_mutable value first) = not (is_nonstatic_kind kind) && agree other of
agrees false of (facts.function other kind flags defaults first) = same_type other of
agrees is_typedef of _ = false

abbrev pub any_agrees : CxxGraph → ℕ → Bool → CxxType → List Numbered → Bool
any_agrees graph space is_typedef of [] = false
any_agrees graph space is_typedef of (one ∷ others) = (is_own graph space one && agrees is_typedef of one.fact.what) || any_agrees graph space is_typedef of others

abbrev pub agreed_by : Lexeme → List Numbered → Bool → Asks CxxState (Unit {0})
agreed_by name all true state = Ok (tt, state)
agreed_by name [] false state = Err (conflicting_at name.place name.spelling name.place)
agreed_by name (one ∷ others) false state = Err (conflicting_at name.place name.spelling one.fact.place)

-- ---- where they are looked up

-- where the members of the namespace or the class are looked up in which the reader stands
abbrev pub region_in : ℕ → Option ClassId → Region
region_in scope None = region.Inside (scope_id scope)
region_in scope (Some class) = region.Class class

-- what the name means there
abbrev pub members_here : CxxState → Lexeme → List Numbered
members_here state name = found_in state.graph (region_in state.here.scope (class_of_here state)) (spelled name.spelling)

-- 8.3: The namespace or the class has declared the member with that type; else the first of the entities that the name means
-- there stands in the way.
unfoldable pub agree_here : Bool → Lexeme → CxxType → Asks CxxState (Unit {0})
agree_here is_typedef name of state = agreed_by name (members_here state name) (any_agrees state.graph state.here.scope is_typedef of (members_here state name)) state

-- ---- functions of a class (9.3)

-- 9.3.1: A function that belongs to an object has the words behind its parameters in its type. Of a static one these say
-- nothing.
abbrev pub worded : MemberKind → Cv → CxxType → CxxType
worded member_kind.Nonstatic cv (function_of result parameters ellipsis own) = function_of result parameters ellipsis cv
worded kind cv of = of

-- whether a declaration is that of a function with a type, given the words behind the parameters
abbrev pub is_again : Cv → CxxType → Declares → Bool
is_again cv of (facts.function other kind flags defaults first) = same_type other (worded kind cv of)
is_again cv of _ = false

-- it is declared again as it was
abbrev pub again_what : ℕ → Declares → Declares
again_what number (facts.function of kind flags defaults first) = facts.function of kind flags defaults (Some (number_id number))
again_what number what = what

-- the first of some declarations that is that of the function, as it is declared again
abbrev pub again_among : Cv → CxxType → List Numbered → Option Declares
again_among cv of [] = None
again_among cv of (one ∷ others) = if is_again cv of one.fact.what then Some (again_what one.number one.fact.what) else again_among cv of others

-- the same of the declarations of the class itself, and not of one of its bases
abbrev pub again_here : CxxState → Lexeme → Cv → CxxType → Option Declares
again_here state name cv of = again_among cv of (declared_in state.graph state.here.scope (spelled name.spelling))

abbrev pub again_fact : CxxState → Lexeme → Declares → CxxFact
again_fact state name what = fact_here state (spelled name.spelling) name.place what

abbrev pub declared_again : Lexeme → List Numbered → Option Declares → Asks CxxState ℕ
declared_again name all (Some what) state = added (again_fact state name what) state
declared_again name [] None state = Err (conflicting_at name.place name.spelling name.place)
declared_again name (one ∷ others) None state = Err (conflicting_at name.place name.spelling one.fact.place)

-- 9.3 p2, 8.3: A function of the class in whose scope the reader stands is declared again, by its type and the words behind its
-- parameters. Where the class has not declared it, the first of the entities that the name means there stands in the way.
unfoldable pub declare_again : Lexeme → Cv → CxxType → Asks CxxState ℕ
declare_again name cv of state = declared_again name (members_here state name) (again_here state name cv of) state
