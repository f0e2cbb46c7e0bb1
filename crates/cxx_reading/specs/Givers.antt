-- Which declaration of a function tells the default arguments that are seen from a scope (8.3.6).
use Rattle.std.specs.Prelude.{ℕ, zero, suc, Bool, true, false, nat_eq, if◌then◌else◌, List, [], ◌∷◌, ◌++◌, Option, Some, None}
use Rattle.std.specs.List.{slice_get}
use Rattle.cxx_model.specs.Facts.Declarations as facts
use Rattle.cxx_model.specs.Facts.Declarations.{CxxFact, CxxGraph, CxxName, Declares, unnamed}
use Rattle.cxx_model.specs.Facts.Entities.{first_or}
use Rattle.cxx_reading.specs.Linked.{home_of, is_space_at}
use Rattle.cxx_reading.specs.Seen.{Numbered, declared_in, parent_of}

-- whether a declaration is one of the function with a first declaration
abbrev pub declares_function : ℕ → ℕ → Declares → Bool
declares_function function number (facts.function of kind flags defaults first) = nat_eq (first_or number first) function
declares_function function number _ = false

abbrev pub or_before : Option Numbered → Option Numbered → Option Numbered
or_before (Some later) before = Some later
or_before None before = before

abbrev pub when_of : ℕ → Numbered → Option Numbered
when_of function one = if declares_function function one.number one.fact.what then Some one else None

-- the last of some declarations that is one of a function
abbrev pub last_of : ℕ → List Numbered → Option Numbered
last_of function [] = None
last_of function (one ∷ others) = or_before (last_of function others) (when_of function one)

-- Where a name is declared in a scope, nothing further out tells.
abbrev pub told_by : ℕ → List Numbered → Option Numbered → Option Numbered
told_by function [] outer = outer
told_by function (one ∷ others) outer = last_of function (one ∷ others)

-- 3.3.7, 8.3.6 p4: outward from a scope, up to the innermost namespace: in the first block that declares the name, the last
-- declaration of the function
abbrev pub outward_from : CxxGraph → ℕ → CxxName → ℕ → ℕ → Option Numbered
outward_from graph function name zero scope = None
outward_from graph function name (suc room) scope =
    if is_space_at graph scope then None else
    told_by function (declared_in graph scope name) (outward_from graph function name room (parent_of graph scope))

abbrev pub scope_in : Option CxxFact → ℕ
scope_in None = zero
scope_in (Some fact) = fact.scope

abbrev pub name_by : Option CxxFact → CxxName
name_by None = unnamed
name_by (Some fact) = fact.name

abbrev pub name_of_fact : CxxGraph → ℕ → CxxName
name_of_fact graph number = name_by (slice_get graph.facts number)

-- that of a function which no block tells: the last declaration in its namespace
abbrev pub giver_at_home : CxxGraph → ℕ → Option Numbered
giver_at_home graph function = last_of function (declared_in graph (home_of graph (scope_in (slice_get graph.facts function))) (name_of_fact graph function))

unfoldable pub giver : CxxGraph → ℕ → ℕ → Option Numbered
giver graph scope function = or_before (outward_from graph function (name_of_fact graph function) scope scope) (giver_at_home graph function)

-- ---- beside the first declarations

abbrev pub other_giver : ℕ → Option Numbered → List Numbered
other_giver function None = []
other_giver function (Some one) = if nat_eq one.number function then [] else one ∷ []

abbrev pub is_function_fact : Declares → Bool
is_function_fact (facts.function of kind flags defaults first) = true
is_function_fact _ = false

abbrev pub giver_beside : CxxGraph → ℕ → Numbered → List Numbered
giver_beside graph scope one = if is_function_fact one.fact.what then other_giver one.number (giver graph scope one.number) else []

abbrev pub givers : CxxGraph → ℕ → List Numbered → List Numbered
givers graph scope [] = []
givers graph scope (one ∷ others) = giver_beside graph scope one ++ givers graph scope others

-- The first declarations of functions, and behind them the others that tell their default arguments in a scope.
unfoldable pub with_givers : CxxGraph → ℕ → List Numbered → List Numbered
with_givers graph scope all = all ++ givers graph scope all
