-- The scopes of namespaces are there.
use Rattle.std.specs.Prelude.{ℕ, zero, suc, ◌≡◌, ◌<◌, ◌++◌, Bool, true, false, if◌then◌else◌, List, [], ◌∷◌, Option, Some, None, option_map, IfSome, refl}
use Rattle.std.specs.List.{slice_get}
use Rattle.std.proofs.Common.{ap, sym, subst, ◌∙◌, append_assoc}
use Rattle.cxx_model.specs.declared.facts.Entity.{Entity}
use Rattle.cxx_model.specs.declared.facts.Entity.TheVariants as entity
use Rattle.cxx_model.specs.declared.facts.Fact.{Fact}
use Rattle.cxx_model.specs.declared.types.ScopeId.{ScopeId}
use Rattle.cxx_model.specs.Facts.Declarations.{CxxFact, CxxGraph, CxxName, declares_at, facts_at, graph_at}
use Rattle.cxx_model.specs.Facts.Graph.{EachMayFollow, Graph, InRange, IsEntityInRange, MayFollow, scopes}
use Rattle.cxx_model.specs.Types.Trees.{CxxType}
use Rattle.cxx_names.specs.Looked.{scope_number as number_of_scope}
use Rattle.cxx_reading.specs.Paths.{first_space, or_later, space_in}
use Rattle.cxx_reading.specs.Seen.{Numbered, declared_from, declares_in, numbered_at, numbered_by}
use Rattle.cxx_tree.specs.Held.{Held, meaning}
use Rattle.cxx_tree.proofs.Graphs.{scopes_later}

-- ---- the scope of a namespace is there

abbrev IsSpaceThere : ℕ → Entity → Type 0
IsSpaceThere count (entity.Namespace inner) = inner.0 < count
IsSpaceThere count _ = Unit {0}

abbrev AreSpacesThere : ℕ → List Fact → Type 0
AreSpacesThere count [] = Unit {0}
AreSpacesThere count (fact ∷ others) = IsSpaceThere count fact.what × AreSpacesThere count others

space_earlier : (graph : Graph) (before others : List Fact) (fact : Fact) (what : Entity) → graph.facts ≡ before ++ fact ∷ others → IsEntityInRange (record graph { facts = before }) fact what → IsSpaceThere (scopes graph.facts) what
space_earlier graph before others fact (entity.Namespace inner) is ok = subst (λ fs. inner.0 < scopes fs) (sym is) (scopes_later before (fact ∷ others) inner.0 ok)
space_earlier graph before others fact _ is ok = tt

space_follows : (graph : Graph) (before others : List Fact) (fact : Fact) → graph.facts ≡ before ++ fact ∷ others → MayFollow (record graph { facts = before }) fact → IsSpaceThere (scopes graph.facts) fact.what
space_follows graph [] others fact is ok = subst (λ w. IsSpaceThere (scopes graph.facts) w) (sym ok.0) tt
space_follows graph (one ∷ before) others fact is ok = space_earlier graph (one ∷ before) others fact fact.what is ok.1

spaces_follow : (graph : Graph) (before facts : List Fact) → graph.facts ≡ before ++ facts → EachMayFollow graph before facts → AreSpacesThere (scopes graph.facts) facts
spaces_follow graph before [] is ok = tt
spaces_follow graph before (one ∷ others) is ok = (space_follows graph before others one is ok.0, spaces_follow graph (before ++ one ∷ []) others (is ∙ sym (append_assoc before (one ∷ []) others)) ok.1)

spaces_there : (graph : Graph) → InRange graph → AreSpacesThere (scopes graph.facts) graph.facts
spaces_there graph ok = spaces_follow graph [] graph.facts refl ok.facts

-- the same of what facts stand for
abbrev pub IsBelow : ℕ → Option ℕ → Type 0
IsBelow count None = Unit {0}
IsBelow count (Some n) = n < count

abbrev pub AreFactsSpaced : ℕ → List CxxFact → Type 0
AreFactsSpaced count [] = Unit {0}
AreFactsSpaced count (fact ∷ others) = IsBelow count (space_in fact.what) × AreFactsSpaced count others

abbrev pub AreSpaced : ℕ → List Numbered → Type 0
AreSpaced count [] = Unit {0}
AreSpaced count (one ∷ others) = IsBelow count (space_in one.fact.what) × AreSpaced count others

space_below : (types : List CxxType) (count : ℕ) (what : Entity) → IsSpaceThere count what → IsBelow count (space_in (declares_at types what))
space_below types count (entity.Namespace inner) ok = ok
space_below types count (entity.Scope parent kind) ok = tt
space_below types count (entity.Object of member is_mutable value first) ok = tt
space_below types count (entity.Function of member flags defaults first) ok = tt
space_below types count (entity.Template number member defaults is_explicit first) ok = tt
space_below types count (entity.Parameter depth index of) ok = tt
space_below types count (entity.Injected number) ok = tt
space_below types count (entity.Class number is_union) ok = tt
space_below types count (entity.Complete number) ok = tt
space_below types count (entity.Passed number) ok = tt
space_below types count (entity.Ancestor number parent index access) ok = tt
space_below types count (entity.Enumeration number) ok = tt
space_below types count (entity.Enumerator number value) ok = tt
space_below types count (entity.Synonym of) ok = tt
space_below types count (entity.Directive nominated) ok = tt
space_below types count (entity.Using target) ok = tt
space_below types count (entity.Friend number target) ok = tt

facts_spaced : (types : List CxxType) (count : ℕ) (facts : List Fact) → AreSpacesThere count facts → AreFactsSpaced count (facts_at types facts)
facts_spaced types count [] ok = tt
facts_spaced types count (one ∷ others) ok = (space_below types count one.what ok.0, facts_spaced types count others ok.1)

abbrev IsSpaced : ℕ → Option CxxFact → Type 0
IsSpaced count None = Unit {0}
IsSpaced count (Some fact) = IsBelow count (space_in fact.what)

spaced_at : (count : ℕ) (facts : List CxxFact) (n : ℕ) → AreFactsSpaced count facts → IsSpaced count (slice_get facts n)
spaced_at count [] n ok = tt
spaced_at count (one ∷ others) zero ok = ok.0
spaced_at count (one ∷ others) (suc n) ok = spaced_at count others n ok.1

numbered_spaced : (count : ℕ) (graph : CxxGraph) (numbers : List ℕ) → AreFactsSpaced count graph.facts → AreSpaced count (numbered_at graph numbers)
numbered_spaced count graph [] ok = tt
numbered_spaced count graph (n ∷ others) ok = by (slice_get graph.facts n) (spaced_at count graph.facts n ok) (numbered_spaced count graph others ok)
  where
    by : (o : Option CxxFact) → IsSpaced count o → AreSpaced count (numbered_at graph others) → AreSpaced count (numbered_by n o (numbered_at graph others))
    by None one later = later
    by (Some fact) one later = (one, later)

pub declared_spaced : (count scope : ℕ) (word : CxxName) (n : ℕ) (facts : List CxxFact) → AreFactsSpaced count facts → AreSpaced count (declared_from scope word n facts)
declared_spaced count scope word n [] ok = tt
declared_spaced count scope word n (one ∷ others) ok = by (declares_in scope word one) (declared_spaced count scope word (suc n) others ok.1)
  where
    by : (b : Bool) → AreSpaced count (declared_from scope word (suc n) others) → AreSpaced count (if b then record { number = n; fact = one } ∷ declared_from scope word (suc n) others else declared_from scope word (suc n) others)
    by true later = (ok.0, later)
    by false later = later

-- ---- what is found is there

pub later_below : (count : ℕ) (one later : Option ℕ) → IsBelow count one → IsBelow count later → IsBelow count (or_later one later)
later_below count None later p q = q
later_below count (Some n) later p q = p

first_below : (count : ℕ) (all : List Numbered) → AreSpaced count all → IsBelow count (first_space all)
first_below count [] ok = tt
first_below count (one ∷ others) ok = later_below count (space_in one.fact.what) (first_space others) ok.0 (first_below count others ok.1)

pub some_below : (count : ℕ) (r : Option ScopeId) (o : Option ℕ) → option_map number_of_scope r ≡ o → IsBelow count o → IfSome r (λ inner. inner.0 < count)
some_below count None o is ok = tt
some_below count (Some inner) o is ok = subst (λ x. IsBelow count x) (sym is) ok

pub held_spaced : (held : Held) (graph : Graph) → graph ≡ held.graph → InRange graph → AreFactsSpaced (scopes held.graph.facts) (facts_at held.types held.graph.facts)
held_spaced held graph same ok = facts_spaced held.types (scopes held.graph.facts) held.graph.facts (spaces_there held.graph (subst (λ (g : Graph). InRange g) same ok))

pub found_there : (held : Held) (graph : Graph) (numbers : List ℕ) (r : Option ScopeId) → graph ≡ held.graph → InRange graph → option_map number_of_scope r ≡ first_space (numbered_at (meaning held).graph numbers) → IfSome r (λ inner. inner.0 < scopes held.graph.facts)
unfolding meaning
found_there held graph numbers r same ok is = some_below (scopes held.graph.facts) r (first_space (numbered_at (graph_at held.types held.graph) numbers)) is (first_below (scopes held.graph.facts) (numbered_at (graph_at held.types held.graph) numbers) (numbered_spaced (scopes held.graph.facts) (graph_at held.types held.graph) numbers (held_spaced held graph same ok)))

pub in_graph : {A : Type 0} (f : CxxGraph → A) (held : Held) (graph : Graph) → graph ≡ held.graph → f (graph_at held.types graph) ≡ f (meaning held).graph
unfolding meaning
in_graph f held graph same = ap (λ (g : Graph). f (graph_at held.types g)) same
