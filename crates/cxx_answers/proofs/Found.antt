-- What a name means and what a call may mean, by the numbers of declarations.
use Rattle.std.specs.Prelude.{ℕ, ◌≡◌, Bool, true, false, ◌||◌, List, [], ◌∷◌, ◌++◌, length, Option, Some, None, refl}
use Rattle.std.proofs.Common.{ap, sym, subst, ◌∙◌}
use Rattle.std.specs.List.{slice_get}
use Rattle.std.specs.Option.{option_map}
use Rattle.cxx_model.specs.declared.facts.Fact.{Fact}
use Rattle.cxx_model.specs.declared.types.FactId.{FactId}
use Rattle.cxx_model.specs.declared.types.ScopeId.{ScopeId}
use Rattle.cxx_model.specs.Facts.Declarations.{CxxFact, CxxGraph, declares_at, fact_at, facts_at, graph_at}
use Rattle.cxx_model.specs.Facts.Graph.{Graph}
use Rattle.cxx_model.specs.Types.Trees.{CxxType}
use Rattle.cxx_meaning.specs.Conversions.Standard.{CxxOperand}
use Rattle.cxx_meaning.specs.Lookups.Associated.{associated}
use Rattle.cxx_names.specs.Looked.{looked_up, seen_by}
use Rattle.cxx_reading.specs.Givers.{giver, scope_in, with_givers}
use Rattle.cxx_reading.specs.Seen.{Numbered, fact_numbers, numbered_at}
use Rattle.cxx_tree.specs.Held.{Held, fact_of_option, meaning}
use Rattle.cxx_expr.specs.Calls.{bare_word}
use Rattle.cxx_expr.specs.Views.{AreFactsBelow, AreFactsKnown, numbered, numbered_in, with_fact}
use Rattle.cxx_answers.specs.Answers.{found_in_sets, fresh_among, is_local, is_tested, names_local, names_tested, scope_of_giver, types_of_operands}
use Rattle.cxx_answers.specs.Besides.{besides_in}
use Rattle.cxx_answers.specs.Told.{AreNumbersBelow, IsScopeOf}
use Rattle.cxx_answers.proofs.Fresh.{numbered_is}
use Rattle.cxx_answers.proofs.Told.{fact_seen}

seen_same : (types : List CxxType) (n : FactId) (others : List Numbered) (o : Option Fact) → with_fact n.0 (option_map (fact_at types) o) others ≡ seen_by types n others o
seen_same types n others None = refl
seen_same types n others (Some fact) = refl

-- the declarations with some numbers are those that were looked up
looked_same : (types : List CxxType) (graph : Graph) (numbers : List FactId) → numbered_in (graph_at types graph) numbers ≡ looked_up types graph.facts numbers
looked_same types graph [] = refl
looked_same types graph (n ∷ numbers) =
    ap (λ o. with_fact n.0 o (numbered_in (graph_at types graph) numbers)) (fact_seen types graph.facts n.0)
    ∙ seen_same types n (numbered_in (graph_at types graph) numbers) (slice_get graph.facts n.0)
    ∙ ap (λ others. seen_by types n others (slice_get graph.facts n.0)) (looked_same types graph numbers)

-- ---- what a name means

-- the declarations with some numbers
pub known_in : (held : Held) (seen : Graph) (types : List CxxType) (numbers all : List FactId) → seen ≡ held.graph → types ≡ held.types → looked_up types seen.facts all ≡ looked_up types seen.facts numbers → numbered held all ≡ numbered_at (meaning held).graph (fact_numbers numbers)
unfolding meaning
known_in held seen types numbers all same named is =
    let own : numbered_in (graph_at types seen) all ≡ numbered_at (graph_at types seen) (fact_numbers numbers) = looked_same types seen all ∙ is ∙ sym (numbered_is types seen numbers) in
    subst (λ (ts : List CxxType). numbered_in (graph_at ts held.graph) all ≡ numbered_at (graph_at ts held.graph) (fact_numbers numbers)) named
    (subst (λ (g : Graph). numbered_in (graph_at types g) all ≡ numbered_at (graph_at types g) (fact_numbers numbers)) same own)

-- some functions, with those that tell their default arguments in a scope
pub givers_in : (held : Held) (seen : Graph) (types : List CxxType) (scope : ℕ) (numbers all : List FactId) → seen ≡ held.graph → types ≡ held.types → looked_up types seen.facts all ≡ with_givers (graph_at types seen) scope (looked_up types seen.facts numbers) → numbered held all ≡ with_givers (meaning held).graph scope (numbered_at (meaning held).graph (fact_numbers numbers))
unfolding meaning
givers_in held seen types scope numbers all same named is =
    let own : numbered_in (graph_at types seen) all ≡ with_givers (graph_at types seen) scope (numbered_at (graph_at types seen) (fact_numbers numbers)) =
    looked_same types seen all ∙ is ∙ ap (with_givers (graph_at types seen) scope) (sym (numbered_is types seen numbers)) in
    subst (λ (ts : List CxxType). numbered_in (graph_at ts held.graph) all ≡ with_givers (graph_at ts held.graph) scope (numbered_at (graph_at ts held.graph) (fact_numbers numbers))) named
    (subst (λ (g : Graph). numbered_in (graph_at types g) all ≡ with_givers (graph_at types g) scope (numbered_at (graph_at types g) (fact_numbers numbers))) same own)

-- ---- each number is that of a declaration

known_all : (count : ℕ) (numbers : List FactId) → AreNumbersBelow count numbers → AreFactsBelow count numbers
known_all count [] below = tt
known_all count (n ∷ numbers) below = (below.0, known_all count numbers below.1)

below_all : (count : ℕ) (numbers : List FactId) → AreFactsBelow count numbers → AreNumbersBelow count numbers
below_all count [] below = tt
below_all count (n ∷ numbers) below = (below.0, below_all count numbers below.1)

pub all_known : (held : Held) (seen : Graph) (numbers : List FactId) → seen ≡ held.graph → AreNumbersBelow (length seen.facts) numbers → AreFactsKnown held numbers
all_known held seen numbers same below = known_all (length held.graph.facts) numbers (subst (λ (g : Graph). AreNumbersBelow (length g.facts) numbers) same below)

pub all_below : (held : Held) (seen : Graph) (numbers : List FactId) → seen ≡ held.graph → AreFactsKnown held numbers → AreNumbersBelow (length seen.facts) numbers
all_below held seen numbers same known = subst (λ (g : Graph). AreNumbersBelow (length g.facts) numbers) (sym same) (below_all (length held.graph.facts) numbers known)

-- ---- the scope that tells default arguments

scope_by : (graph : CxxGraph) (function : ℕ) (o : Option Numbered) (scope : ScopeId) → IsScopeOf o scope → scope.0 ≡ scope_of_giver graph function o
scope_by graph function None scope is = elim is [ ]
scope_by graph function (Some one) scope is = is

pub scope_there : (held : Held) (seen : Graph) (types : List CxxType) (said : ℕ) (scope : ScopeId) (function : ℕ) (one : Option Numbered) → seen ≡ held.graph → types ≡ held.types → one ≡ giver (graph_at types seen) said function → IsScopeOf one scope → scope.0 ≡ scope_of_giver (meaning held).graph function (giver (meaning held).graph said function)
unfolding meaning
scope_there held seen types said scope function one same named is known =
    subst (λ (ts : List CxxType). scope.0 ≡ scope_of_giver (graph_at ts held.graph) function (giver (graph_at ts held.graph) said function)) named
    (subst (λ (g : Graph). scope.0 ≡ scope_of_giver (graph_at types g) function (giver (graph_at types g) said function)) same (scope_by (graph_at types seen) function one scope known ∙ ap (scope_of_giver (graph_at types seen) function) is))

pub scope_none : (held : Held) (seen : Graph) (types : List CxxType) (said function first : ℕ) → seen ≡ held.graph → types ≡ held.types → first ≡ scope_in (slice_get (meaning held).graph.facts function) → None ≡ giver (graph_at types seen) said function → first ≡ scope_of_giver (meaning held).graph function (giver (meaning held).graph said function)
unfolding meaning
scope_none held seen types said function first same named at is =
    at
    ∙ ap (scope_of_giver (graph_at held.types held.graph) function)
    (subst (λ (ts : List CxxType). None ≡ giver (graph_at ts held.graph) said function) named
    (subst (λ (g : Graph). None ≡ giver (graph_at types g) said function) same is))

-- that of a declaration
scope_by_number : (types : List CxxType) (facts : List Fact) (n : ℕ) (o : Option Fact) → slice_get facts n ≡ o → scope_in (slice_get (facts_at types facts) n) ≡ scope_in (option_map (fact_at types) o)
scope_by_number types facts n o at = ap scope_in (fact_seen types facts n ∙ ap (option_map (fact_at types)) at)

pub scope_first : (held : Held) (seen : Graph) (n : ℕ) (fact : Fact) → seen ≡ held.graph → slice_get seen.facts n ≡ Some fact → fact.scope.0 ≡ scope_in (slice_get (meaning held).graph.facts n)
unfolding meaning
scope_first held seen n fact same at = sym (scope_by_number held.types held.graph.facts n (Some fact) (subst (λ (g : Graph). slice_get g.facts n ≡ Some fact) same at))

pub scope_missing : (held : Held) (seen : Graph) (n : ℕ) → seen ≡ held.graph → slice_get seen.facts n ≡ None → 0 ≡ scope_in (slice_get (meaning held).graph.facts n)
unfolding meaning
scope_missing held seen n same at = sym (scope_by_number held.types held.graph.facts n None (subst (λ (g : Graph). slice_get g.facts n ≡ None) same at))

-- ---- what the types of arguments find besides

pub besides_are : (held : Held) (seen : Graph) (types : List CxxType) (said : ScopeId) (functions more : List FactId) (word : List ℕ) (of : List CxxType) (operands : List CxxOperand) → seen ≡ held.graph → types ≡ held.types → said ≡ held.scope → of ≡ types_of_operands operands
    → looked_up types seen.facts more ≡ with_givers (graph_at types seen) said.0 (numbered_at (graph_at types seen) (fresh_among (looked_up types seen.facts functions) (found_in_sets (graph_at types seen) word (associated (graph_at types seen) of))))
    → numbered held more ≡ besides_in (meaning held) (numbered held functions) (Some word) operands
unfolding meaning
besides_are held seen types said functions more word of operands same named there typed is =
    let found : CxxGraph → List Numbered → List CxxType → ℕ → List Numbered = λ g fs ts s. with_givers g s (numbered_at g (fresh_among fs (found_in_sets g word (associated g ts)))) in
    let own : numbered_in (graph_at types seen) more ≡ found (graph_at types seen) (numbered_in (graph_at types seen) functions) (types_of_operands operands) said.0 =
    looked_same types seen more
    ∙ is
    ∙ ap (λ fs. found (graph_at types seen) fs of said.0) (sym (looked_same types seen functions))
    ∙ ap (λ ts. found (graph_at types seen) (numbered_in (graph_at types seen) functions) ts said.0) typed in
    subst (λ (n : ScopeId). numbered_in (graph_at held.types held.graph) more ≡ found (graph_at held.types held.graph) (numbered_in (graph_at held.types held.graph) functions) (types_of_operands operands) n.0) there
    (subst (λ (ts : List CxxType). numbered_in (graph_at ts held.graph) more ≡ found (graph_at ts held.graph) (numbered_in (graph_at ts held.graph) functions) (types_of_operands operands) said.0) named
    (subst (λ (g : Graph). numbered_in (graph_at types g) more ≡ found (graph_at types g) (numbered_in (graph_at types g) functions) (types_of_operands operands) said.0) same own))

-- a name that is not bare
pub no_besides : (held : Held) (functions : List Numbered) (word : List ℕ) (operands : List CxxOperand) → numbered held [] ≡ besides_in (meaning held) functions (bare_word false word) operands
unfolding with_givers
no_besides held functions word operands = refl

-- ---- declarations behind others

with_more : (number : ℕ) (o : Option CxxFact) (one two : List Numbered) → with_fact number o (one ++ two) ≡ with_fact number o one ++ two
with_more number None one two = refl
with_more number (Some fact) one two = refl

facts_more : (graph : CxxGraph) (one two : List FactId) → numbered_in graph (one ++ two) ≡ numbered_in graph one ++ numbered_in graph two
facts_more graph [] two = refl
facts_more graph (n ∷ one) two = ap (with_fact n.0 (slice_get graph.facts n.0)) (facts_more graph one two) ∙ with_more n.0 (slice_get graph.facts n.0) (numbered_in graph one) (numbered_in graph two)

pub numbered_more : (held : Held) (all one two : List FactId) → all ≡ one ++ two → numbered held all ≡ numbered held one ++ numbered held two
numbered_more held all one two is = ap (numbered held) is ∙ facts_more (meaning held).graph one two

below_both : (count : ℕ) (one two : List FactId) → AreFactsBelow count one → AreFactsBelow count two → AreFactsBelow count (one ++ two)
below_both count [] two below more = more
below_both count (n ∷ one) two below more = (below.0, below_both count one two below.1 more)

pub known_more : (held : Held) (all one two : List FactId) → all ≡ one ++ two → AreFactsKnown held one → AreFactsKnown held two → AreFactsKnown held all
known_more held all one two is below more = subst (AreFactsKnown held) (sym is) (below_both (length held.graph.facts) one two below more)

-- ---- parameters of functions

or_again : (a b : Bool) → (a || b) ≡ ((a || false) || b)
or_again true b = refl
or_again false b = refl

pub local_more : (graph : CxxGraph) (types : List CxxType) (facts : List Fact) (number : FactId) (numbers : List FactId)
    → names_local graph (looked_up types facts (number ∷ numbers)) ≡ (names_local graph (looked_up types facts (number ∷ [])) || names_local graph (looked_up types facts numbers))
local_more graph types facts number numbers = by (slice_get facts number.0)
  where
    by : (o : Option Fact) → names_local graph (seen_by types number (looked_up types facts numbers) o) ≡ (names_local graph (seen_by types number [] o) || names_local graph (looked_up types facts numbers))
    by None = refl
    by (Some fact) = or_again (is_local graph (record { number = number.0; fact = fact_at types fact })) (names_local graph (looked_up types facts numbers))

pub local_meant : (held : Held) (seen : Graph) (numbers : List FactId) (answer : Bool) → seen ≡ held.graph → ((types : List CxxType) → answer ≡ names_local (graph_at types seen) (looked_up types seen.facts numbers)) → answer ≡ names_local (meaning held).graph (numbered held numbers)
unfolding meaning
local_meant held seen numbers answer same is =
    subst (λ (g : Graph). answer ≡ names_local (graph_at held.types g) (numbered_in (graph_at held.types g) numbers)) same
    (is held.types ∙ ap (names_local (graph_at held.types seen)) (sym (looked_same held.types seen numbers)))

-- ---- functions of classes

-- ---- the object that a condition declares

pub tested_more : (tested : Option ℕ) (scope : ℕ) (types : List CxxType) (facts : List Fact) (number : FactId) (numbers : List FactId)
    → names_tested tested scope (looked_up types facts (number ∷ numbers)) ≡ (names_tested tested scope (looked_up types facts (number ∷ [])) || names_tested tested scope (looked_up types facts numbers))
tested_more tested scope types facts number numbers = by (slice_get facts number.0)
  where
    by : (o : Option Fact) → names_tested tested scope (seen_by types number (looked_up types facts numbers) o) ≡ (names_tested tested scope (seen_by types number [] o) || names_tested tested scope (looked_up types facts numbers))
    by None = refl
    by (Some fact) = or_again (is_tested tested scope (record { number = number.0; fact = fact_at types fact })) (names_tested tested scope (looked_up types facts numbers))

pub tested_meant : (held : Held) (seen : Graph) (tested : Option FactId) (said : ScopeId) (numbers : List FactId) (answer : Bool) → seen ≡ held.graph → tested ≡ held.tested → said ≡ held.scope → ((types : List CxxType) → answer ≡ names_tested (fact_of_option tested) said.0 (looked_up types seen.facts numbers)) → answer ≡ names_tested (meaning held).tested (meaning held).here.scope (numbered held numbers)
unfolding meaning
tested_meant held seen tested said numbers answer same kept there is =
    subst (λ (n : ScopeId). answer ≡ names_tested (fact_of_option held.tested) n.0 (numbered_in (graph_at held.types held.graph) numbers)) there
    (subst (λ (t : Option FactId). answer ≡ names_tested (fact_of_option t) said.0 (numbered_in (graph_at held.types held.graph) numbers)) kept
    (subst (λ (g : Graph). answer ≡ names_tested (fact_of_option tested) said.0 (numbered_in (graph_at held.types g) numbers)) same
    (is held.types ∙ ap (names_tested (fact_of_option tested) said.0) (sym (looked_same held.types seen numbers)))))
