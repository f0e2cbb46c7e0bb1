-- Declarations in blocks of functions, and of objects with `extern`: what they declare is a member of the innermost
-- namespace round them (3.5), whose other declarations it meets.
use Rattle.std.specs.Prelude.{ℕ, Bool, true, false, not, ◌&&◌, ◌||◌, nat_eq, nat_lt, if◌then◌else◌, List, [], ◌∷◌, Option, Some, None}
use Rattle.std.specs.List.{slice_get}
use Rattle.cxx_model.specs.declared.types.FactId.{FactId}
use Rattle.cxx_model.specs.declared.types.ScopeId.{ScopeId}
use Rattle.cxx_model.specs.Facts.Conflicts.{conflicts, first_conflict, has_name, same_name}
use Rattle.cxx_model.specs.Facts.Declarations as facts
use Rattle.cxx_model.specs.Facts.Declarations.{CxxFact, CxxGraph, CxxName, Declares}
use Rattle.cxx_model.specs.Facts.Entities.{is_space, scope_kinds}
use Rattle.cxx_model.specs.Types.Same.{same_bool}
use Rattle.cxx_meaning.specs.Lookups.Scopes.{home}
use Rattle.cxx_reading.specs.Seen.{Numbered, declared_in, numbered_at}
use Rattle.cxx_reading.specs.State.{CxxState}

-- ---- namespaces

abbrev pub scope_id : ℕ → ScopeId
scope_id n = record { 0 = n }

-- whether a scope is that of a namespace
abbrev pub is_space_at : CxxGraph → ℕ → Bool
is_space_at graph scope = is_space (slice_get (scope_kinds graph.facts) scope)

-- 7.3.1: the innermost namespace round a scope
unfoldable pub home_of : CxxGraph → ℕ → ℕ
home_of graph scope = (home graph.facts (scope_id scope)).0

-- ---- what is linked

abbrev pub is_linked_as : CxxGraph → ℕ → CxxName → Numbered → Bool
is_linked_as graph space name one = nat_eq (home_of graph one.fact.scope) space && (has_name name && same_name one.fact.name name)

abbrev pub linked_among : CxxGraph → ℕ → CxxName → List Numbered → List Numbered
linked_among graph space name [] = []
linked_among graph space name (one ∷ others) = if is_linked_as graph space name one then one ∷ linked_among graph space name others else linked_among graph space name others

-- the declarations of blocks that declare a member of a namespace with a name, in order
unfoldable pub linked_in : CxxState → ℕ → CxxName → List Numbered
linked_in state space name = linked_among state.graph space name (numbered_at state.graph state.linked)

-- ---- the first of several

abbrev pub sooner : Option ℕ → Option ℕ → Option ℕ
sooner None two = two
sooner (Some m) None = Some m
sooner (Some m) (Some n) = if nat_lt n m then Some n else Some m

abbrev pub sooner_fact : Option FactId → Option FactId → Option FactId
sooner_fact None two = two
sooner_fact (Some one) None = Some one
sooner_fact (Some one) (Some two) = if nat_lt two.0 one.0 then Some two else Some one

-- ---- conflicts

-- a declaration as if it stood in another scope
abbrev pub rescoped : ℕ → CxxFact → CxxFact
rescoped scope fact = record fact { scope = scope }

-- the first of some declarations that conflicts with a new one, as if they stood in its scope
abbrev pub clash_among : CxxGraph → CxxFact → List Numbered → Option ℕ
clash_among graph new [] = None
clash_among graph new (one ∷ others) = if conflicts graph one.number (rescoped new.scope one.fact) new then Some one.number else clash_among graph new others

-- the first declaration that conflicts with a new one, as if that stood in a namespace
unfoldable pub clash_in_space : CxxState → ℕ → CxxFact → Option ℕ
clash_in_space state space new = sooner (first_conflict state.graph (rescoped space new)) (clash_among state.graph (rescoped space new) (linked_in state space new.name))

abbrev pub is_an_object : Declares → Bool
is_an_object (facts.object of kind is_mutable value first) = true
is_an_object _ = false

abbrev pub is_among : ℕ → List ℕ → Bool
is_among number [] = false
is_among number (other ∷ others) = nat_eq other number || is_among number others

-- 3.3: an object of a block is not one that is linked
abbrev pub is_apart : CxxState → Bool → Numbered → Bool
is_apart state linked one = is_an_object one.fact.what && not (same_bool linked (is_among one.number state.linked))

abbrev pub first_apart : CxxState → Bool → List Numbered → Option ℕ
first_apart state linked [] = None
first_apart state linked (one ∷ others) = if is_apart state linked one then Some one.number else first_apart state linked others

unfoldable pub clash_apart : CxxState → Bool → CxxFact → Option ℕ
clash_apart state linked new = if is_an_object new.what then first_apart state linked (declared_in state.graph new.scope new.name) else None

-- 3.5: A linked declaration meets those of its block and of its namespace, and one of a namespace those that are linked to
-- that.
abbrev pub clash_besides : CxxState → Bool → CxxFact → Option ℕ
clash_besides state linked new =
    if is_space_at state.graph new.scope then clash_among state.graph new (linked_in state new.scope new.name) else (
    if linked then sooner (clash_apart state true new) (clash_in_space state (home_of state.graph new.scope) new) else
    clash_apart state false new)

-- 3.3: the first declaration that stands in the way of a new one, which is linked or not
unfoldable pub first_clash : CxxState → Bool → CxxFact → Option ℕ
first_clash state linked new = sooner (first_conflict state.graph new) (clash_besides state linked new)
