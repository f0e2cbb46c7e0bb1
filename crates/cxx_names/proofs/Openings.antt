-- What is kept of namespaces and directives is what the definitions say of all facts.
use Rattle.std.proofs.Common.{◌≡◌, ℕ, zero, suc, ◌+◌, ◌<◌, ◌≤◌, Bool, true, false, not, cond, ◌&&◌, ◌||◌, nat_eq, nat_lt, List, [], ◌∷◌, ◌++◌, length, Option, Some, None, option_map, refl, sym, ap, ◌∙◌, arith, lt-ltb}
use Rattle.std.specs.Global.{Vec}
use Rattle.std.proofs.lemmas.Bool.{eqb-true}
use Rattle.std.specs.List.{slice_get}
use Rattle.std.specs.Option.{option_to_list}
use Rattle.cxx_model.specs.declared.facts.Entity.{Entity}
use Rattle.cxx_model.specs.declared.facts.Entity.TheVariants as entity
use Rattle.cxx_model.specs.declared.facts.Fact.{Fact}
use Rattle.cxx_model.specs.declared.facts.Name.{Name}
use Rattle.cxx_model.specs.declared.facts.Name.TheVariants as name
use Rattle.cxx_model.specs.declared.types.FactId.{FactId}
use Rattle.cxx_model.specs.declared.types.ScopeId.{ScopeId}
use Rattle.cxx_model.specs.Facts.Conflicts.{scope_facts}
use Rattle.cxx_model.specs.Facts.Declarations.{CxxFact, CxxGraph, CxxName, fact_at, facts_at, graph_at}
use Rattle.cxx_model.specs.Facts.Entities.{is_space, scope_kinds}
use Rattle.cxx_model.specs.Facts.Graph.{Graph}
use Rattle.cxx_model.specs.Types.Trees.{CxxType}
use Rattle.cxx_meaning.specs.Lookups.Directives.{nominated, nominates}
use Rattle.cxx_meaning.specs.Lookups.Gathered.{before, gathered}
use Rattle.cxx_meaning.specs.Lookups.Scopes.{first_space, parent_of, up}
use Rattle.cxx_reading.specs.Linked.{home_of, is_space_at}
use Rattle.cxx_reading.specs.Spaces as reading
use Rattle.cxx_reading.specs.Paths.{or_later, space_in}
use Rattle.cxx_reading.specs.Spaces.{first_opening, opened_among, original_by, unnamed_among, unnamed_before}
use Rattle.cxx_names.specs.declared.entry.Noted.{Noted}
use Rattle.cxx_names.specs.Filed.{row}
use Rattle.cxx_names.specs.Index.{directive_by, directives_of, noted_by, opening_by, openings_from, scopes_of, under, unnamed_by, unnamed_of}
use Rattle.cxx_names.specs.Looked.{first_at, scope_number, is_space_in, looked_up, outer_in, seen_by}
use Rattle.cxx_names.proofs.Looking.{StandsAt, facts_length, stands_first, stands_later}

-- ---- scopes

pub kinds_are : (types : List CxxType) (facts : List Fact) (n : ℕ) → slice_get (scope_kinds (facts_at types facts)) n ≡ option_map (λ noted. noted.kind) (slice_get (scopes_of facts) n)
kinds_are types [] n = refl
kinds_are types (fact ∷ facts) n = by fact.what n (kinds_are types facts)
  where
    by : (what : Entity) (n : ℕ) → ((m : ℕ) → slice_get (scope_kinds (facts_at types facts)) m ≡ option_map (λ noted. noted.kind) (slice_get (scopes_of facts) m)) → slice_get (scope_kinds (fact_at types (record fact { what = what }) ∷ facts_at types facts)) n ≡ option_map (λ noted. noted.kind) (slice_get (option_to_list (noted_by fact.scope what) ++ scopes_of facts) n)
    by (entity.Scope parent k) zero rest = refl
    by (entity.Scope parent k) (suc n) rest = rest n
    by _ n rest = rest n

space_by : (o : Option Noted) → is_space_in o ≡ is_space (option_map (λ noted. noted.kind) o)
space_by None = refl
space_by (Some noted) = refl

pub spaces_are : (types : List CxxType) (facts : List Fact) (n : ℕ) → is_space_in (slice_get (scopes_of facts) n) ≡ is_space (slice_get (scope_kinds (facts_at types facts)) n)
spaces_are types facts n = space_by (slice_get (scopes_of facts) n) ∙ ap is_space (sym (kinds_are types facts n))

pub space_is : (types : List CxxType) (graph : Graph) (n : ℕ) → is_space_in (slice_get (scopes_of graph.facts) n) ≡ is_space_at (graph_at types graph) n
space_is types graph n = spaces_are types graph.facts n

-- ---- directives (7.3.4)

passes : (number cut : ℕ) (later : Bool) → number < cut → (nat_lt number cut || later) ≡ true
passes number cut later lt = ap (λ t. t || later) (lt-ltb number cut lt)

gathered_are : (types : List CxxType) (all : List CxxFact) (cut : ℕ) (scope : ScopeId) (number : ℕ) (facts : List Fact) → number + length facts ≤ cut → under scope (directives_of facts) ≡ gathered (nominates all cut scope) number (facts_at types facts)
unfolding nominates
gathered_are types all cut scope number [] le = refl
gathered_are types all cut scope number (fact ∷ facts) le =
    by fact.what (gathered_are types all cut scope (number + 1) facts (omega arith))
  where
    lt : number < cut
    lt = omega arith

    one : (a b : Bool) (nominated : ScopeId) (later there : List ScopeId) → b ≡ true → later ≡ there → cond a (nominated ∷ later) later ≡ before (cond (a && b) (Some nominated) None) there
    one true true nominated later there e f = ap (λ xs. nominated ∷ xs) f
    one true false nominated later there e f = absurd (cc)
    one false b nominated later there e f = f

    by : (what : Entity) → under scope (directives_of facts) ≡ gathered (nominates all cut scope) (number + 1) (facts_at types facts)
        → under scope (option_to_list (directive_by fact.scope what) ++ directives_of facts) ≡ before (nominates all cut scope number (fact_at types (record fact { what = what }))) (gathered (nominates all cut scope) (number + 1) (facts_at types facts))
    by (entity.Directive nominated) e = one (nat_eq fact.scope.0 scope.0) _ nominated (under scope (directives_of facts)) (gathered (nominates all cut scope) (number + 1) (facts_at types facts)) (passes number cut _ lt) e
    by _ e = e

pub nominated_are : (types : List CxxType) (facts : List Fact) (scope : ScopeId) → under scope (directives_of facts) ≡ nominated (facts_at types facts) (length facts) scope
nominated_are types facts scope = gathered_are types (facts_at types facts) (length facts) scope 0 facts (omega arith)

pub nominated_all : (types : List CxxType) (facts : List Fact) (scope : ScopeId) → under scope (directives_of facts) ≡ nominated (facts_at types facts) (length (facts_at types facts)) scope
nominated_all types facts scope = nominated_are types facts scope ∙ ap (λ n. nominated (facts_at types facts) n scope) (sym (facts_length types facts))

pub nothing_filed : {K V : Type 0} (same : K → K → Bool) (entries : List (K × Vec V)) → length entries ≡ 0 → (key : K) → row same entries key ≡ []
nothing_filed same [] e key = refl
nothing_filed same (one ∷ entries) e key = absurd (cc)

-- ---- names of namespaces (7.3.1)

opening_from : (types : List CxxType) (all : List Fact) (inner : ScopeId) (n : ℕ) (facts : List Fact) → StandsAt all n facts → first_at types all (slice_get (under inner (openings_from n facts)) 0) ≡ first_opening inner.0 (facts_at types facts)
opening_from types all inner n [] s = refl
opening_from types all inner n (fact ∷ facts) s = by fact.what refl (opening_from types all inner (suc n) facts (stands_later all n fact facts s))
  where
    one : (b : Bool) (f : Fact) → slice_get all n ≡ Some f → first_at types all (slice_get (under inner (openings_from (suc n) facts)) 0) ≡ first_opening inner.0 (facts_at types facts)
        → first_at types all (slice_get (cond b (record { 0 = n } ∷ under inner (openings_from (suc n) facts)) (under inner (openings_from (suc n) facts))) 0) ≡ cond b (Some (fact_at types f)) (first_opening inner.0 (facts_at types facts))
    one true f at e = ap (option_map (fact_at types)) at
    one false f at e = e

    by : (what : Entity) → fact.what ≡ what → first_at types all (slice_get (under inner (openings_from (suc n) facts)) 0) ≡ first_opening inner.0 (facts_at types facts)
        → first_at types all (slice_get (under inner (option_to_list (opening_by (record { 0 = n }) what) ++ openings_from (suc n) facts)) 0) ≡ first_opening inner.0 (fact_at types (record fact { what = what }) ∷ facts_at types facts)
    by (entity.Namespace other) same e = one (nat_eq other.0 inner.0) (record fact { what = entity.Namespace other }) (stands_first all n fact facts s ∙ ap (λ w. Some (record fact { what = w })) same) e
    by _ same e = e

pub opening_is : (types : List CxxType) (facts : List Fact) (inner : ScopeId) → first_at types facts (slice_get (under inner (openings_from zero facts)) 0) ≡ first_opening inner.0 (facts_at types facts)
opening_is types facts inner = opening_from types facts inner zero facts (λ i. let n : zero + i ≡ i = omega arith in ap (λ k. slice_get facts k) n)

original_once : (graph : CxxGraph) (scope : ℕ) (word : CxxName) (o later : Option ℕ) → original_by graph scope word o later ≡ or_later (original_by graph scope word o None) later
original_once graph scope word None later = refl
original_once graph scope word (Some inner) later = by (reading.is_original_by scope word (first_opening inner graph.facts))
  where
    by : (b : Bool) → cond b (Some inner) later ≡ or_later (cond b (Some inner) None) later
    by true = refl
    by false = refl

pub opened_more : (graph : CxxGraph) (scope : ℕ) (word : CxxName) (types : List CxxType) (facts : List Fact) (number : FactId) (numbers : List FactId)
    → opened_among graph scope word (looked_up types facts (number ∷ numbers)) ≡ or_later (opened_among graph scope word (looked_up types facts (number ∷ []))) (opened_among graph scope word (looked_up types facts numbers))
opened_more graph scope word types facts number numbers = by (slice_get facts number.0)
  where
    by : (o : Option Fact) → opened_among graph scope word (seen_by types number (looked_up types facts numbers) o) ≡ or_later (opened_among graph scope word (seen_by types number [] o)) (opened_among graph scope word (looked_up types facts numbers))
    by None = refl
    by (Some fact) = original_once graph scope word (space_in (fact_at types fact).what) (opened_among graph scope word (looked_up types facts numbers))

-- 7.3.1.1
unnamed_are : (types : List CxxType) (facts : List Fact) (scope : ScopeId) → option_map scope_number (slice_get (under scope (unnamed_of facts)) 0) ≡ unnamed_among scope.0 (facts_at types facts)
unnamed_are types [] scope = refl
unnamed_are types (fact ∷ facts) scope = by fact.name fact.what (unnamed_are types facts scope)
  where
    later : Option ℕ
    later = unnamed_among scope.0 (facts_at types facts)

    one : (b : Bool) (inner : ScopeId) → option_map scope_number (slice_get (under scope (unnamed_of facts)) 0) ≡ later → option_map scope_number (slice_get (cond b (inner ∷ under scope (unnamed_of facts)) (under scope (unnamed_of facts))) 0) ≡ cond (b && true) (Some inner.0) later
    one true inner e = refl
    one false inner e = e

    other : (b : Bool) (o : Option ℕ) → later ≡ cond (b && false) o later
    other true o = refl
    other false o = refl

    none : (b : Bool) → later ≡ cond b later later
    none true = refl
    none false = refl

    by : (n : Name) (what : Entity) → option_map scope_number (slice_get (under scope (unnamed_of facts)) 0) ≡ later
        → option_map scope_number (slice_get (under scope (option_to_list (unnamed_by fact.scope n what) ++ unnamed_of facts)) 0) ≡ unnamed_among scope.0 (fact_at types (record fact { name = n; what = what }) ∷ facts_at types facts)
    by name.Unnamed (entity.Namespace inner) e = one (nat_eq fact.scope.0 scope.0) inner e
    by name.Unnamed what e = e ∙ none (nat_eq fact.scope.0 scope.0 && true)
    by (name.Spelled word) what e = e ∙ other (nat_eq fact.scope.0 scope.0) _
    by (name.Operator o) what e = e ∙ other (nat_eq fact.scope.0 scope.0) _
    by (name.Conversion of) what e = e ∙ other (nat_eq fact.scope.0 scope.0) _
    by name.Destructor what e = e ∙ other (nat_eq fact.scope.0 scope.0) _

pub unnamed_is : (types : List CxxType) (graph : Graph) (scope : ScopeId) → option_map scope_number (slice_get (under scope (unnamed_of graph.facts)) 0) ≡ unnamed_before (graph_at types graph) scope.0
unfolding unnamed_before
unnamed_is types graph scope = unnamed_are types graph.facts scope

-- ---- the innermost namespace

abbrev scope_or_unit : Option CxxFact → ℕ
scope_or_unit None = 0
scope_or_unit (Some fact) = fact.scope

outer_by : (all : List CxxFact) (o : Option CxxFact) (scope : ScopeId) → slice_get (scope_facts all) scope.0 ≡ o → (parent_of all scope).0 ≡ scope_or_unit o
outer_by all None scope e = rw e refl
outer_by all (Some fact) scope e = rw e refl

outers_are : (types : List CxxType) (facts : List Fact) (n : ℕ) → outer_in (slice_get (scopes_of facts) n) ≡ scope_or_unit (slice_get (scope_facts (facts_at types facts)) n)
outers_are types [] n = refl
outers_are types (fact ∷ facts) n = by fact.what n (outers_are types facts)
  where
    by : (what : Entity) (n : ℕ) → ((m : ℕ) → outer_in (slice_get (scopes_of facts) m) ≡ scope_or_unit (slice_get (scope_facts (facts_at types facts)) m)) → outer_in (slice_get (option_to_list (noted_by fact.scope what) ++ scopes_of facts) n) ≡ scope_or_unit (slice_get (scope_facts (fact_at types (record fact { what = what }) ∷ facts_at types facts)) n)
    by (entity.Scope parent k) zero rest = refl
    by (entity.Scope parent k) (suc n) rest = rest n
    by _ n rest = rest n

pub outer_is : (types : List CxxType) (facts : List Fact) (scope : ScopeId) → outer_in (slice_get (scopes_of facts) scope.0) ≡ (parent_of (facts_at types facts) scope).0
outer_is types facts scope = outers_are types facts scope.0 ∙ sym (outer_by (facts_at types facts) (slice_get (scope_facts (facts_at types facts)) scope.0) scope refl)

-- the first namespace of a scope and those around it, with so much room
abbrev pub home_from : List CxxFact → ℕ → ℕ → ℕ
home_from all room scope = (first_space all (up all room (record { 0 = scope }))).0

first_of_more : (all : List CxxFact) (scope : ScopeId) (others : List ScopeId) (t : Bool) → is_space (slice_get (scope_kinds all) scope.0) ≡ t → (first_space all (scope ∷ others)).0 ≡ cond t scope.0 (first_space all others).0
unfolding first_space
first_of_more all scope others true e = rw e refl
first_of_more all scope others false e = rw e refl

first_of_none : (all : List CxxFact) → (first_space all []).0 ≡ 0
unfolding first_space
first_of_none all = refl

-- a namespace is the innermost one round itself
pub home_here : (all : List CxxFact) (room scope : ℕ) → is_space (slice_get (scope_kinds all) scope) ≡ true → home_from all room scope ≡ scope
unfolding up
home_here all zero scope e = first_of_more all (record { 0 = scope }) [] true e
home_here all (suc room) scope e = first_of_more all (record { 0 = scope }) (cond (nat_eq scope 0) [] (up all room (parent_of all (record { 0 = scope })))) true e

-- the scope of the unit ends it
pub home_of_unit : (all : List CxxFact) (room : ℕ) → home_from all room 0 ≡ 0
unfolding up
home_of_unit all zero = by (is_space (slice_get (scope_kinds all) 0)) refl
  where
    by : (t : Bool) → is_space (slice_get (scope_kinds all) 0) ≡ t → home_from all zero 0 ≡ 0
    by true e = first_of_more all (record { 0 = 0 }) [] true e
    by false e = first_of_more all (record { 0 = 0 }) [] false e ∙ first_of_none all
home_of_unit all (suc room) = by (is_space (slice_get (scope_kinds all) 0)) refl
  where
    by : (t : Bool) → is_space (slice_get (scope_kinds all) 0) ≡ t → home_from all (suc room) 0 ≡ 0
    by true e = first_of_more all (record { 0 = 0 }) [] true e
    by false e = first_of_more all (record { 0 = 0 }) [] false e ∙ first_of_none all

-- else it is one round the scope outside
pub home_outside : (all : List CxxFact) (room scope : ℕ) → is_space (slice_get (scope_kinds all) scope) ≡ false → nat_eq scope 0 ≡ false → home_from all (suc room) scope ≡ home_from all room (parent_of all (record { 0 = scope })).0
unfolding up
home_outside all room scope e z = first_of_more all (record { 0 = scope }) (cond (nat_eq scope 0) [] (up all room (parent_of all (record { 0 = scope })))) false e ∙ ap (λ t. (first_space all (cond t [] (up all room (parent_of all (record { 0 = scope }))))).0) z

pub home_last : (all : List CxxFact) (scope : ℕ) → is_space (slice_get (scope_kinds all) scope) ≡ false → home_from all zero scope ≡ 0
unfolding up
home_last all scope e = first_of_more all (record { 0 = scope }) [] false e ∙ first_of_none all

pub home_is : (types : List CxxType) (graph : Graph) (scope : ℕ) → home_from (facts_at types graph.facts) scope scope ≡ home_of (graph_at types graph) scope
unfolding home_of
home_is types graph scope = refl

-- ---- none at all

pub nominated_none : (types : List CxxType) (facts : List Fact) (scope : ScopeId) → under scope (directives_of facts) ≡ [] → nominated (facts_at types facts) (length facts) scope ≡ []
nominated_none types facts scope e = sym (nominated_are types facts scope) ∙ e

pub nominated_none_all : (types : List CxxType) (facts : List Fact) (scope : ScopeId) → under scope (directives_of facts) ≡ [] → nominated (facts_at types facts) (length (facts_at types facts)) scope ≡ []
nominated_none_all types facts scope e = sym (nominated_all types facts scope) ∙ e

pub not_false : (b : Bool) → not b ≡ false → b ≡ true
not_false true e = refl
not_false false e = absurd (cc)

pub not_zero : (n : ℕ) → (n ≡ 0 → ⊥) → nat_eq n 0 ≡ false
not_zero zero differs = absurd (differs refl)
not_zero (suc n) differs = by (nat_eq (suc n) 0) refl
  where
    by : (t : Bool) → nat_eq (suc n) 0 ≡ t → t ≡ false
    by true e = absurd (let same : suc n ≡ 0 = eqb-true (suc n) 0 e in omega (arith, same))
    by false e = refl
