-- The scopes of a chain, one after another.
use Rattle.std.proofs.Common.{◌≡◌, ℕ, ◌+◌, ◌<◌, ◌≤◌, length, get_or, drop, List, ◌∷◌, ◌++◌, Option, Some, None, Ok, Err, ap, sym, ◌∙◌}
use Rattle.cxx_model.specs.declared.lookup.Found.{Found}
use Rattle.cxx_model.specs.declared.lookup.Found.TheVariants as found
use Rattle.cxx_model.specs.declared.types.ScopeId.{ScopeId}
use Rattle.cxx_model.specs.declared.stop.Wait.{Wait}
use Rattle.cxx_model.specs.declared.stop.Wait.TheVariants as wait
use Rattle.cxx_model.specs.Facts.Declarations.{CxxGraph, CxxName}
use Rattle.cxx_meaning.specs.Lookups.Directives.{Shown, shows}
use Rattle.cxx_meaning.specs.Lookups.Ordinary.{found_in_scope, or_outside, ordinary_in}
use Rattle.std.proofs.lemmas.List.{at_drop_more, at_drop_all}
use Rattle.cxx_meaning.specs.Lookups.Scopes.{unit_scope}
use Rattle.cxx_meaning.specs.Lookups.Pending.{Asked}
use Rattle.cxx_meaning.specs.Lookups.Wanted.{Wanted}
use Rattle.cxx_members.specs.Answers.{Answers}

-- nothing is found in the first scope
pub goes_out : (graph : CxxGraph) (wanted : Wanted) (name : CxxName) (cut : ℕ) (shown now : List Shown) (scope : ScopeId) (outer : List ScopeId) → found_in_scope graph wanted name cut (shown ++ shows graph.facts cut scope) scope ≡ Ok None → now ≡ shown ++ shows graph.facts cut scope → ordinary_in graph wanted name cut shown (scope ∷ outer) ≡ ordinary_in graph wanted name cut now outer
unfolding ordinary_in
goes_out graph wanted name cut shown now scope outer f e =
    ap (λ o. or_outside o (ordinary_in graph wanted name cut (shown ++ shows graph.facts cut scope) outer)) f ∙ ap (λ s. ordinary_in graph wanted name cut s outer) (sym e)

pub found_there : (graph : CxxGraph) (wanted : Wanted) (name : CxxName) (cut : ℕ) (shown : List Shown) (scope : ScopeId) (outer : List ScopeId) (of : Found) → found_in_scope graph wanted name cut (shown ++ shows graph.facts cut scope) scope ≡ Ok (Some of) → ordinary_in graph wanted name cut shown (scope ∷ outer) ≡ Ok of
unfolding ordinary_in
found_there graph wanted name cut shown scope outer of f =
    ap (λ o. or_outside o (ordinary_in graph wanted name cut (shown ++ shows graph.facts cut scope) outer)) f

pub stops_there : (graph : CxxGraph) (wanted : Wanted) (name : CxxName) (cut : ℕ) (shown : List Shown) (scope : ScopeId) (outer : List ScopeId) (why : Wait) (all : Asked Found) → Answers {A = Option Found} (Err why) (found_in_scope graph wanted name cut (shown ++ shows graph.facts cut scope) scope) → ordinary_in graph wanted name cut shown (scope ∷ outer) ≡ all → Answers {A = Found} (Err why) all
unfolding ordinary_in
stops_there graph wanted name cut shown scope outer (wait.Needs class) all f e =
    sym e ∙ ap (λ o. or_outside o (ordinary_in graph wanted name cut (shown ++ shows graph.facts cut scope) outer)) f
stops_there graph wanted name cut shown scope outer wait.OutOfMemory all f e = tt

-- the next scope of a chain
pub next_scope : (graph : CxxGraph) (wanted : Wanted) (name : CxxName) (cut : ℕ) (shown : List Shown) (scopes : List ScopeId) (i : ℕ) (all : Asked Found) → i < length scopes → ordinary_in graph wanted name cut shown (drop i scopes) ≡ all → ordinary_in graph wanted name cut shown (get_or scopes i unit_scope ∷ drop (i + 1) scopes) ≡ all
next_scope graph wanted name cut shown scopes i all lt e = sym (at_drop_more (ordinary_in graph wanted name cut shown) scopes i unit_scope lt) ∙ e

pub no_scope : (graph : CxxGraph) (wanted : Wanted) (name : CxxName) (cut : ℕ) (shown : List Shown) (scopes : List ScopeId) (i : ℕ) → length scopes ≤ i → ordinary_in graph wanted name cut shown (drop i scopes) ≡ Ok found.Empty
unfolding ordinary_in
no_scope graph wanted name cut shown scopes i le = at_drop_all (ordinary_in graph wanted name cut shown) scopes i le
