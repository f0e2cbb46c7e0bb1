-- What a class declares at its end.
use Rattle.std.specs.Prelude.{ℕ, ◌≡◌, Bool, true, false, List, [], ◌∷◌, ◌++◌, Option, Some, None, Result, Ok, Err, IfOk}
use Rattle.std.specs.Option.{option_to_list}
use Rattle.std.proofs.Common.{ap, sym, subst, ◌∙◌}
use Rattle.cxx_graph.proofs.Fitting.{graph-kept}
use Rattle.cxx_model.specs.declared.facts.Entity.{Entity}
use Rattle.cxx_model.specs.declared.facts.Entity.TheVariants as entity
use Rattle.cxx_model.specs.declared.facts.Fact.{Fact}
use Rattle.cxx_model.specs.declared.place.Place.{Place}
use Rattle.cxx_model.specs.declared.types.Cv.{Cv}
use Rattle.cxx_model.specs.Facts.Declarations as facts
use Rattle.cxx_model.specs.Facts.Declarations.{CxxFact, CxxGraph, Declares, fact_at, facts_at, graph_at}
use Rattle.cxx_model.specs.Types.Numbers.{Keeps}
use Rattle.cxx_model.specs.Types.Trees.{CxxType}
use Rattle.cxx_implicit.specs.Members.{copy_assignment, copy_constructor, default_constructor, implicit_members, implied, members_by}
use Rattle.cxx_implicit.specs.declared.deciding.Implied.{Implied}
use Rattle.cxx_names.specs.Plain.{ArePlain, IsPlainFact}
use Rattle.cxx_tree.specs.Held.{Held, IsSound, meaning}

-- ---- each is a function

abbrev IsFunction : Declares → Type 0
IsFunction (facts.function of kind flags defaults first) = Unit {0}
IsFunction _ = ⊥

abbrev AreFunctions : List CxxFact → Type 0
AreFunctions [] = Unit {0}
AreFunctions (fact ∷ others) = IsFunction fact.what × AreFunctions others

both : (one two : List CxxFact) → AreFunctions one → AreFunctions two → AreFunctions (one ++ two)
both [] two ones twos = twos
both (fact ∷ one) two ones twos = (ones.0, both one two ones.1 twos)

default_function : (which : Bool) (scope : ℕ) (place : Place) → AreFunctions (option_to_list (default_constructor which scope place))
default_function false scope place = tt
default_function true scope place = (tt, tt)

copy_function : (which : Option Cv) (class scope : ℕ) (place : Place) → AreFunctions (option_to_list (copy_constructor which class scope place))
copy_function None class scope place = tt
copy_function (Some cv) class scope place = (tt, tt)

assignment_function : (which : Option Cv) (class scope : ℕ) (place : Place) → AreFunctions (option_to_list (copy_assignment which class scope place))
assignment_function None class scope place = tt
assignment_function (Some cv) class scope place = (tt, tt)

functions : (graph : CxxGraph) (class scope : ℕ) (place : Place) → AreFunctions (implicit_members graph class scope place)
unfolding implicit_members
functions graph class scope place = by (implied graph class)
  where
    by : (which : Implied) → AreFunctions (members_by which class scope place)
    by which = both _ _ (default_function which.default_constructor scope place) (both _ _ (copy_function which.copy_constructor class scope place) (assignment_function which.copy_assignment class scope place))

function_is_plain : (types : List CxxType) (fact : Fact) → IsFunction (fact_at types fact).what → IsPlainFact fact.what
function_is_plain types fact is = by fact.what is
  where
    by : (what : Entity) → IsFunction (facts.declares_at types what) → IsPlainFact what
    by (entity.Template template member defaults is_explicit first) is = absurd is
    by (entity.Parameter depth index of) is = absurd is
    by (entity.Passed number) is = absurd is
    by (entity.Ancestor number parent index access) is = absurd is
    by (entity.Friend number target) is = absurd is
    by _ is = tt

functions_are_plain : (types : List CxxType) (all : List Fact) → AreFunctions (facts_at types all) → ArePlain all
functions_are_plain types [] are = tt
functions_are_plain types (fact ∷ others) are = (function_is_plain types fact are.0, functions_are_plain types others are.1)

plain_implied : (types : List CxxType) (graph : CxxGraph) (class scope : ℕ) (place : Place) (all : List Fact) → facts_at types all ≡ implicit_members graph class scope place → ArePlain all
plain_implied types graph class scope place all is = functions_are_plain types all (subst AreFunctions (sym is) (functions graph class scope place))

pub all_plain : {X E : Type 0} (items : X → List Fact) (types : List CxxType) (graph : CxxGraph) (class scope : ℕ) (place : Place) (result : Result X E) → IfOk result (λ all. facts_at types (items all) ≡ implicit_members graph class scope place) → IfOk result (λ all. ArePlain (items all))
all_plain items types graph class scope place (Ok all) is = plain_implied types graph class scope place (items all) is
all_plain items types graph class scope place (Err why) is = tt

-- ---- they are those of the class by what was declared before their types were made

implied_here : (seen held : Held) (new : List CxxType) (class : ℕ) (place : Place) (all : List Fact) → held ≡ seen → IsSound held → Keeps held.types new → facts_at new all ≡ implicit_members (graph_at new held.graph) class held.scope.0 place → facts_at new all ≡ implicit_members (meaning seen).graph class seen.scope.0 place
unfolding meaning
implied_here seen held new class place all same sound keeps is =
    subst (λ (h : Held). facts_at new all ≡ implicit_members (graph_at h.types h.graph) class h.scope.0 place) same
    (is ∙ ap (λ (g : CxxGraph). implicit_members g class held.scope.0 place) (graph-kept held.types new held.graph keeps sound.fitted.numbers))

pub all_implied : {X E : Type 0} (items : X → List Fact) (seen held : Held) (new : List CxxType) (class : ℕ) (place : Place) (result : Result X E) → held ≡ seen → IsSound held → Keeps held.types new → IfOk result (λ all. facts_at new (items all) ≡ implicit_members (graph_at new held.graph) class held.scope.0 place)
    → IfOk result (λ all. facts_at new (items all) ≡ implicit_members (meaning seen).graph class seen.scope.0 place)
all_implied items seen held new class place (Ok all) same sound keeps is = implied_here seen held new class place (items all) same sound keeps is
all_implied items seen held new class place (Err why) same sound keeps is = tt
