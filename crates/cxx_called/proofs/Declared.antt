-- Declarations by their numbers.
use Rattle.std.specs.Prelude.{ℕ, zero, suc, ◌≡◌, ◌<◌, ◌≤◌, ◌+◌, Bool, true, false, ◌&&◌, if◌then◌else◌, List, [], ◌∷◌, ◌++◌, length, Option, Some, None, option_map, refl}
use Rattle.std.specs.List.{slice_get}
use Rattle.std.proofs.Common.{ap, sym, subst, ◌∙◌, arith, append_assoc, get_or, drop}
use Rattle.std.proofs.lemmas.List.{append-nil, at_drop_more, at_drop_all}
use Rattle.cxx_model.specs.declared.facts.Entity.{Entity}
use Rattle.cxx_model.specs.declared.facts.Entity.TheVariants as entity
use Rattle.cxx_model.specs.declared.facts.Fact.{Fact}
use Rattle.cxx_model.specs.declared.facts.Name.{Name}
use Rattle.cxx_model.specs.declared.place.Place.{Place}
use Rattle.cxx_model.specs.declared.types.FactId.{FactId}
use Rattle.cxx_model.specs.Facts.Declarations.{CxxFact, CxxGraph, Declares, declares_at, fact_at, facts_at, graph_at, name_at}
use Rattle.cxx_model.specs.Facts.Fitted.{Fitted, IsEntityBelow, IsNameBelow}
use Rattle.cxx_model.specs.Facts.Graph.{EachMayFollow, Graph, InRange, IsEntityInRange, MayFollow, enumerations}
use Rattle.cxx_model.specs.Types.Trees.{CxxType}
use Rattle.cxx_meaning.specs.Lookups.Wanted.{hides_types, is_function}
use Rattle.cxx_reading.specs.Paths.{wrong_kind_at}
use Rattle.cxx_reading.specs.Seen.{Numbered, declared_in, fact_numbers, kept, numbered_at, numbered_by}
use Rattle.cxx_reading.specs.Trees.{CxxPathPart, CxxTree, Label}
use Rattle.cxx_graph.specs.Numbered.{is_in_scope, numbers_of}
use Rattle.cxx_names.proofs.Clashing.{fact_below}
use Rattle.cxx_names.proofs.Wordless.{named_are}
use Rattle.cxx_names.specs.Looked.{looked_up, seen_by}
use Rattle.cxx_names.specs.Named.{has_the_name}
use Rattle.cxx_tree.proofs.Graphs.{enumerations_append}
use Rattle.cxx_tree.specs.Held.{Held, meaning}
use Rattle.cxx_expr.specs.Calls.{called_first, functions_called, is_asked_for, is_bare, value_call}
use Rattle.cxx_this.specs.This.{class_at}
use Rattle.cxx_expr.specs.Names.{are_one_function, first_type, in_full, in_full_by, is_function_with, known_among, known_at as known_by_fact, means_first, means_value, no_value_at, type_by_fact, type_declared, values_among}
use Rattle.cxx_expr.specs.Questions.{Questions}
use Rattle.cxx_expr.specs.Views.{AreFactsBelow, AreFactsKnown, numbered, numbered_in, with_fact}
use Rattle.cxx_called.specs.Views.{IsOfThere, named_of}

-- ---- one declaration

past_end : {A : Type 0} (xs : List A) (n : ℕ) → slice_get xs n ≡ None → length xs ≤ n
past_end [] n at = omega arith
past_end (x ∷ xs) zero at = absurd cc
past_end (x ∷ xs) (suc n) at = let past = past_end xs n at in omega (arith, past)

seen : (types : List CxxType) (facts : List Fact) (n : ℕ) → slice_get (facts_at types facts) n ≡ option_map (fact_at types) (slice_get facts n)
seen types [] n = refl
seen types (fact ∷ facts) zero = refl
seen types (fact ∷ facts) (suc n) = seen types facts n

pub fact_is : (held : Held) (n : ℕ) (fact : Fact) → slice_get held.graph.facts n ≡ Some fact → slice_get (meaning held).graph.facts n ≡ Some (fact_at held.types fact)
unfolding meaning
fact_is held n fact at = seen held.types held.graph.facts n ∙ ap (option_map (fact_at held.types)) at

pub fact_is_none : (held : Held) (n : ℕ) → slice_get held.graph.facts n ≡ None → slice_get (meaning held).graph.facts n ≡ None
unfolding meaning
fact_is_none held n at = seen held.types held.graph.facts n ∙ ap (option_map (fact_at held.types)) at

-- the type that the first declaration says
pub declared_some : (held : Held) (n : ℕ) (fact : Fact) → slice_get held.graph.facts n ≡ Some fact → type_by_fact (slice_get (meaning held).graph.facts n) ≡ type_declared (declares_at held.types fact.what)
declared_some held n fact at = ap type_by_fact (fact_is held n fact at)

pub declared_none : (held : Held) (n : ℕ) → slice_get held.graph.facts n ≡ None → type_by_fact (slice_get (meaning held).graph.facts n) ≡ None
declared_none held n at = ap type_by_fact (fact_is_none held n at)

-- the type in a declaration is there
pub what_below : (held : Held) (graph : Graph) (n : ℕ) (fact : Fact) → graph ≡ held.graph → Fitted held.graph held.types → Some fact ≡ slice_get graph.facts n → IsEntityBelow (length held.types) fact.what
what_below held graph n fact same fitted at = (fact_below (length held.types) held.graph.facts n fact fitted.numbers.facts (sym (at ∙ ap (λ (g : Graph). slice_get g.facts n) same))).what

-- ---- the bound that an own initializer gives

first_alone : (o : Option CxxType) → first_type o None ≡ o
first_alone None = refl
first_alone (Some of) = refl

first_again : (one two three : Option CxxType) → first_type (first_type one two) three ≡ first_type one (first_type two three)
first_again None two three = refl
first_again (Some of) two three = refl

-- by one number
pub again_some : (held : Held) (target : ℕ) (place : Place) (number : FactId) (fact : Fact) → slice_get held.graph.facts number.0 ≡ Some fact → known_among target place (numbered held (number ∷ [])) ≡ known_by_fact target place (fact_at held.types fact)
again_some held target place number fact at =
    ap (λ o. known_among target place (with_fact number.0 o [])) (fact_is held number.0 fact at)
    ∙ first_alone (known_by_fact target place (fact_at held.types fact))

pub again_none : (held : Held) (target : ℕ) (place : Place) (number : FactId) → slice_get held.graph.facts number.0 ≡ None → known_among target place (numbered held (number ∷ [])) ≡ None
again_none held target place number at = ap (λ o. known_among target place (with_fact number.0 o [])) (fact_is_none held number.0 at)

-- by one after another
again_more : (held : Held) (target : ℕ) (place : Place) (number : FactId) (numbers : List FactId) → known_among target place (numbered held (number ∷ numbers)) ≡ first_type (known_among target place (numbered held (number ∷ []))) (known_among target place (numbered held numbers))
again_more held target place number numbers = by (slice_get (meaning held).graph.facts number.0)
  where
    by : (o : Option CxxFact) → known_among target place (with_fact number.0 o (numbered held numbers)) ≡ first_type (known_among target place (with_fact number.0 o [])) (known_among target place (numbered held numbers))
    by None = refl
    by (Some fact) = sym (first_again (known_by_fact target place fact) None (known_among target place (numbered held numbers)))

again_at : (held : Held) (target : ℕ) (place : Place) (numbers : List FactId) (i : ℕ) (number d : FactId) (one whole : Option CxxType) → i < length numbers → number ≡ get_or numbers i d → one ≡ known_among target place (numbered held (number ∷ [])) → known_among target place (numbered held (drop i numbers)) ≡ whole → first_type one (known_among target place (numbered held (drop (i + 1) numbers))) ≡ whole
again_at held target place numbers i number d one whole within is here same =
    let rest : Option CxxType = known_among target place (numbered held (drop (i + 1) numbers)) in
    ap (λ o. first_type o rest) here
    ∙ sym (again_more held target place number (drop (i + 1) numbers))
    ∙ ap (λ (n : FactId). known_among target place (numbered held (n ∷ drop (i + 1) numbers))) is
    ∙ sym (at_drop_more (λ ns. known_among target place (numbered held ns)) numbers i d within)
    ∙ same

pub again_step : (held : Held) (target : ℕ) (place : Place) (numbers : List FactId) (i : ℕ) (number d : FactId) (whole : Option CxxType) → i < length numbers → number ≡ get_or numbers i d → None ≡ known_among target place (numbered held (number ∷ [])) → known_among target place (numbered held (drop i numbers)) ≡ whole → known_among target place (numbered held (drop (i + 1) numbers)) ≡ whole
again_step held target place numbers i number d whole within is here same = again_at held target place numbers i number d None whole within is here same

pub again_found : (held : Held) (target : ℕ) (place : Place) (numbers : List FactId) (i : ℕ) (number d : FactId) (of : CxxType) (whole : Option CxxType) → i < length numbers → number ≡ get_or numbers i d → Some of ≡ known_among target place (numbered held (number ∷ [])) → known_among target place (numbered held (drop i numbers)) ≡ whole → Some of ≡ whole
again_found held target place numbers i number d of whole within is here same = again_at held target place numbers i number d (Some of) whole within is here same

pub again_end : (held : Held) (target : ℕ) (place : Place) (numbers : List FactId) (i : ℕ) (whole : Option CxxType) → length numbers ≤ i → known_among target place (numbered held (drop i numbers)) ≡ whole → None ≡ whole
again_end held target place numbers i whole past same = sym (at_drop_all (λ ns. known_among target place (numbered held ns)) numbers i past) ∙ same

-- those that a row has
with_same : (number : ℕ) (o : Option CxxFact) (others : List Numbered) → with_fact number o others ≡ numbered_by number o others
with_same number None others = refl
with_same number (Some fact) others = refl

pub numbered_same : (graph : CxxGraph) (numbers : List FactId) → numbered_in graph numbers ≡ numbered_at graph (fact_numbers numbers)
numbered_same graph [] = refl
numbered_same graph (n ∷ numbers) =
    ap (with_fact n.0 (slice_get graph.facts n.0)) (numbered_same graph numbers)
    ∙ with_same n.0 (slice_get graph.facts n.0) (numbered_at graph (fact_numbers numbers))

-- ---- those of a name

named_if : (held : Held) (name : Name) (number : FactId) (numbers : List FactId) (t : Bool) → has_the_name held.types (name_at held.types name) (slice_get held.graph.facts number.0) ≡ t → named_of held name (number ∷ numbers) ≡ (if t then number ∷ named_of held name numbers else named_of held name numbers)
named_if held name number numbers t is = ap (λ b. if b then number ∷ named_of held name numbers else named_of held name numbers) is

pub named_one : (held : Held) (target : ℕ) (place : Place) (name : Name) (number : FactId) (t : Bool) (o : Option CxxType) → t ≡ has_the_name held.types (name_at held.types name) (slice_get held.graph.facts number.0) → t ≡ true → o ≡ known_among target place (numbered held (number ∷ [])) → o ≡ known_among target place (numbered held (named_of held name (number ∷ [])))
named_one held target place name number t o is holds same = same ∙ ap (λ ns. known_among target place (numbered held ns)) (sym (named_if held name number [] true (sym is ∙ holds)))

pub named_none : (held : Held) (target : ℕ) (place : Place) (name : Name) (number : FactId) (t : Bool) → t ≡ has_the_name held.types (name_at held.types name) (slice_get held.graph.facts number.0) → t ≡ false → None ≡ known_among target place (numbered held (named_of held name (number ∷ [])))
named_none held target place name number t is fails = ap (λ ns. known_among target place (numbered held ns)) (sym (named_if held name number [] false (sym is ∙ fails)))

named_more : (held : Held) (target : ℕ) (place : Place) (name : Name) (number : FactId) (numbers : List FactId) → known_among target place (numbered held (named_of held name (number ∷ numbers))) ≡ first_type (known_among target place (numbered held (named_of held name (number ∷ [])))) (known_among target place (numbered held (named_of held name numbers)))
named_more held target place name number numbers = by (has_the_name held.types (name_at held.types name) (slice_get held.graph.facts number.0)) refl
  where
    by : (t : Bool) → has_the_name held.types (name_at held.types name) (slice_get held.graph.facts number.0) ≡ t → known_among target place (numbered held (named_of held name (number ∷ numbers))) ≡ first_type (known_among target place (numbered held (named_of held name (number ∷ [])))) (known_among target place (numbered held (named_of held name numbers)))
    by true is =
        ap (λ ns. known_among target place (numbered held ns)) (named_if held name number numbers true is)
        ∙ again_more held target place number (named_of held name numbers)
        ∙ ap (λ ns. first_type (known_among target place (numbered held ns)) (known_among target place (numbered held (named_of held name numbers)))) (sym (named_if held name number [] true is))
    by false is =
        ap (λ ns. known_among target place (numbered held ns)) (named_if held name number numbers false is)
        ∙ ap (λ ns. first_type (known_among target place (numbered held ns)) (known_among target place (numbered held (named_of held name numbers)))) (sym (named_if held name number [] false is))

named_at : (held : Held) (target : ℕ) (place : Place) (name : Name) (numbers : List FactId) (i : ℕ) (number d : FactId) (one whole : Option CxxType) → i < length numbers → number ≡ get_or numbers i d → one ≡ known_among target place (numbered held (named_of held name (number ∷ []))) → known_among target place (numbered held (named_of held name (drop i numbers))) ≡ whole → first_type one (known_among target place (numbered held (named_of held name (drop (i + 1) numbers)))) ≡ whole
named_at held target place name numbers i number d one whole within is here same =
    let rest : Option CxxType = known_among target place (numbered held (named_of held name (drop (i + 1) numbers))) in
    ap (λ o. first_type o rest) here
    ∙ sym (named_more held target place name number (drop (i + 1) numbers))
    ∙ ap (λ (n : FactId). known_among target place (numbered held (named_of held name (n ∷ drop (i + 1) numbers)))) is
    ∙ sym (at_drop_more (λ ns. known_among target place (numbered held (named_of held name ns))) numbers i d within)
    ∙ same

pub named_step : (held : Held) (target : ℕ) (place : Place) (name : Name) (numbers : List FactId) (i : ℕ) (number d : FactId) (whole : Option CxxType) → i < length numbers → number ≡ get_or numbers i d → None ≡ known_among target place (numbered held (named_of held name (number ∷ []))) → known_among target place (numbered held (named_of held name (drop i numbers))) ≡ whole → known_among target place (numbered held (named_of held name (drop (i + 1) numbers))) ≡ whole
named_step held target place name numbers i number d whole within is here same = named_at held target place name numbers i number d None whole within is here same

pub named_found : (held : Held) (target : ℕ) (place : Place) (name : Name) (numbers : List FactId) (i : ℕ) (number d : FactId) (of : CxxType) (whole : Option CxxType) → i < length numbers → number ≡ get_or numbers i d → Some of ≡ known_among target place (numbered held (named_of held name (number ∷ []))) → known_among target place (numbered held (named_of held name (drop i numbers))) ≡ whole → Some of ≡ whole
named_found held target place name numbers i number d of whole within is here same = named_at held target place name numbers i number d (Some of) whole within is here same

pub named_end : (held : Held) (target : ℕ) (place : Place) (name : Name) (numbers : List FactId) (i : ℕ) (whole : Option CxxType) → length numbers ≤ i → known_among target place (numbered held (named_of held name (drop i numbers))) ≡ whole → None ≡ whole
named_end held target place name numbers i whole past same = sym (at_drop_all (λ ns. known_among target place (numbered held (named_of held name ns))) numbers i past) ∙ same

-- the numbers of declarations and the declarations
looked_same : (types : List CxxType) (graph : Graph) (numbers : List FactId) → numbered_in (graph_at types graph) numbers ≡ looked_up types graph.facts numbers
looked_same types graph [] = refl
looked_same types graph (n ∷ numbers) =
    ap (λ o. with_fact n.0 o (numbered_in (graph_at types graph) numbers)) (seen types graph.facts n.0)
    ∙ ap (with_fact n.0 (option_map (fact_at types) (slice_get graph.facts n.0))) (looked_same types graph numbers)
    ∙ by (slice_get graph.facts n.0)
  where
    by : (o : Option Fact) → with_fact n.0 (option_map (fact_at types) o) (looked_up types graph.facts numbers) ≡ seen_by types n (looked_up types graph.facts numbers) o
    by None = refl
    by (Some fact) = refl

pub numbered_named : (held : Held) (scope : ℕ) (name : Name) (numbers : List FactId) → numbers ≡ numbers_of (is_in_scope scope) held.graph.facts → numbered held (named_of held name numbers) ≡ declared_in (meaning held).graph scope (name_at held.types name)
unfolding meaning
numbered_named held scope name numbers is = looked_same held.types held.graph (named_of held name numbers) ∙ named_are held.types held.graph scope (name_at held.types name) numbers is

-- the name of a declaration names a type that is there
pub name_below : (held : Held) (graph : Graph) (n : ℕ) (fact : Fact) → graph ≡ held.graph → Fitted held.graph held.types → Some fact ≡ slice_get graph.facts n → IsNameBelow (length held.types) fact.name
name_below held graph n fact same fitted at = (fact_below (length held.types) held.graph.facts n fact fitted.numbers.facts (sym (at ∙ ap (λ (g : Graph). slice_get g.facts n) same))).name

-- by the first declaration
pub full_some : (held : Held) (target : ℕ) (fact : Fact) (of : CxxType) → slice_get held.graph.facts target ≡ Some fact → in_full_by (meaning held).graph target (slice_get (meaning held).graph.facts target) of ≡ in_full (meaning held).graph target (fact_at held.types fact) of
full_some held target fact of at = ap (λ o. in_full_by (meaning held).graph target o of) (fact_is held target fact at)

pub full_none : (held : Held) (target : ℕ) (of : CxxType) → slice_get held.graph.facts target ≡ None → in_full_by (meaning held).graph target (slice_get (meaning held).graph.facts target) of ≡ of
full_none held target of at = ap (λ o. in_full_by (meaning held).graph target o of) (fact_is_none held target at)

-- ---- enumerations of enumerators

of_earlier : (graph : Graph) (before others : List Fact) (fact : Fact) (what : Entity) → graph.facts ≡ before ++ fact ∷ others → IsEntityInRange (record graph { facts = before }) fact what → IsOfThere graph what
of_earlier graph before others fact (entity.Enumerator number value) is ok =
    let whole : enumerations graph.facts ≡ enumerations before + enumerations (fact ∷ others) = ap enumerations is ∙ enumerations_append before (fact ∷ others) in
    let there : number.0 < enumerations before = ok.0 in
    omega arith
of_earlier graph before others fact (entity.Scope parent kind) is ok = tt
of_earlier graph before others fact (entity.Object of member is_mutable value first) is ok = tt
of_earlier graph before others fact (entity.Function of member flags defaults first) is ok = tt
of_earlier graph before others fact (entity.Template number member defaults is_explicit first) is ok = tt
of_earlier graph before others fact (entity.Parameter depth index of) is ok = tt
of_earlier graph before others fact (entity.Injected number) is ok = tt
of_earlier graph before others fact (entity.Class number is_union) is ok = tt
of_earlier graph before others fact (entity.Complete number) is ok = tt
of_earlier graph before others fact (entity.Passed number) is ok = tt
of_earlier graph before others fact (entity.Ancestor number parent index access) is ok = tt
of_earlier graph before others fact (entity.Enumeration number) is ok = tt
of_earlier graph before others fact (entity.Synonym of) is ok = tt
of_earlier graph before others fact (entity.Namespace inner) is ok = tt
of_earlier graph before others fact (entity.Directive nominated) is ok = tt
of_earlier graph before others fact (entity.Using target) is ok = tt
of_earlier graph before others fact (entity.Friend number target) is ok = tt

of_first : (graph : Graph) (before others : List Fact) (fact : Fact) → graph.facts ≡ before ++ fact ∷ others → MayFollow (record graph { facts = before }) fact → IsOfThere graph fact.what
of_first graph [] others fact is ok = subst (λ what. IsOfThere graph what) (sym ok.0) tt
of_first graph (one ∷ before) others fact is ok = of_earlier graph (one ∷ before) others fact fact.what is ok.1

of_from : (graph : Graph) (before facts : List Fact) (n : ℕ) (fact : Fact) → graph.facts ≡ before ++ facts → EachMayFollow graph before facts → slice_get facts n ≡ Some fact → IsOfThere graph fact.what
of_from graph before [] n fact is ok at = absurd cc
of_from graph before (one ∷ others) zero fact is ok at = (let same : one ≡ fact = cc in subst (λ (f : Fact). IsOfThere graph f.what) same (of_first graph before others one is ok.0))
of_from graph before (one ∷ others) (suc n) fact is ok at = of_from graph (before ++ one ∷ []) others n fact (is ∙ sym (append_assoc before (one ∷ []) others)) ok.1 at

pub of_there : (graph : Graph) (n : ℕ) (fact : Fact) → InRange graph → slice_get graph.facts n ≡ Some fact → IsOfThere graph fact.what
of_there graph n fact ok at = of_from graph [] graph.facts n fact refl ok.facts at

-- ---- lists of numbers

pub known_at : (count : ℕ) (numbers : List FactId) (i : ℕ) (d : FactId) → AreFactsBelow count numbers → i < length numbers → (get_or numbers i d).0 < count
known_at count [] i d ok within = absurd (omega (arith, within))
known_at count (n ∷ numbers) zero d ok within = ok.0
known_at count (n ∷ numbers) (suc i) d ok within = known_at count numbers i d ok.1 (omega (arith, within))

pub facts_below_more : (count : ℕ) (numbers : List FactId) (number : FactId) → AreFactsBelow count numbers → number.0 < count → AreFactsBelow count (numbers ++ number ∷ [])
facts_below_more count [] number ok last = (last, tt)
facts_below_more count (one ∷ numbers) number ok last = (ok.0, facts_below_more count numbers number ok.1 last)

with_more : (number : ℕ) (o : Option CxxFact) (one two : List Numbered) → with_fact number o (one ++ two) ≡ with_fact number o one ++ two
with_more number None one two = refl
with_more number (Some fact) one two = refl

facts_more : (graph : CxxGraph) (one two : List FactId) → numbered_in graph (one ++ two) ≡ numbered_in graph one ++ numbered_in graph two
facts_more graph [] two = refl
facts_more graph (n ∷ one) two = ap (with_fact n.0 (slice_get graph.facts n.0)) (facts_more graph one two) ∙ with_more n.0 (slice_get graph.facts n.0) (numbered_in graph one) (numbered_in graph two)

-- ---- what hides the types of its scope

one_value : (graph : CxxGraph) (number : ℕ) (fact : CxxFact) (b : Bool) → hides_types graph fact.what ≡ b → values_among graph (with_fact number (Some fact) []) ≡ (if b then with_fact number (Some fact) [] else [])
one_value graph number fact b is = ap (λ (t : Bool). if t then (let one : Numbered = record { number = number; fact = fact } in one ∷ []) else []) is

values_at : (held : Held) (number : FactId) (fact : CxxFact) (b : Bool) → slice_get (meaning held).graph.facts number.0 ≡ Some fact → hides_types (meaning held).graph fact.what ≡ b → values_among (meaning held).graph (numbered held (number ∷ [])) ≡ (if b then numbered held (number ∷ []) else [])
values_at held number fact b at hides =
    ap (λ o. values_among (meaning held).graph (with_fact number.0 o [])) at
    ∙ one_value (meaning held).graph number.0 fact b hides
    ∙ ap (λ o. if b then with_fact number.0 o [] else []) (sym at)

-- a value stands behind the others
pub value_added : (held : Held) (values new : List FactId) (number : FactId) (fact : CxxFact) → slice_get (meaning held).graph.facts number.0 ≡ Some fact → hides_types (meaning held).graph fact.what ≡ true → new ≡ values ++ number ∷ [] → numbered held new ≡ numbered held values ++ values_among (meaning held).graph (numbered held (number ∷ []))
value_added held values new number fact at hides is =
    ap (numbered held) is
    ∙ facts_more (meaning held).graph values (number ∷ [])
    ∙ ap (λ ns. numbered held values ++ ns) (sym (values_at held number fact true at hides))

-- the name of a type does not
pub type_left : (held : Held) (values : List FactId) (number : FactId) (fact : CxxFact) → slice_get (meaning held).graph.facts number.0 ≡ Some fact → hides_types (meaning held).graph fact.what ≡ false → numbered held values ≡ numbered held values ++ values_among (meaning held).graph (numbered held (number ∷ []))
type_left held values number fact at hides =
    sym (append-nil (numbered held values))
    ∙ ap (λ ns. numbered held values ++ ns) (sym (values_at held number fact false at hides))

kept_more : (wanted : Declares → Bool) (one two : List Numbered) → kept wanted (one ++ two) ≡ kept wanted one ++ kept wanted two
kept_more wanted [] two = refl
kept_more wanted (x ∷ one) two = by (wanted x.fact.what) (kept_more wanted one two)
  where
    by : (b : Bool) → kept wanted (one ++ two) ≡ kept wanted one ++ kept wanted two → (if b then x ∷ kept wanted (one ++ two) else kept wanted (one ++ two)) ≡ (if b then x ∷ kept wanted one else kept wanted one) ++ kept wanted two
    by true rest = ap (λ ns. x ∷ ns) rest
    by false rest = rest

values_first : (held : Held) (number : FactId) (others : List FactId) → values_among (meaning held).graph (numbered held (number ∷ others)) ≡ values_among (meaning held).graph (numbered held (number ∷ [])) ++ values_among (meaning held).graph (numbered held others)
values_first held number others =
    let graph : CxxGraph = (meaning held).graph in
    ap (values_among graph) (facts_more graph (number ∷ []) others)
    ∙ kept_more (hides_types graph) (numbered held (number ∷ [])) (numbered held others)

pub values_step : (held : Held) (values after all : List FactId) (i : ℕ) (number d : FactId) (whole : List Numbered) → i < length all → number ≡ get_or all i d → numbered held after ≡ numbered held values ++ values_among (meaning held).graph (numbered held (number ∷ [])) → numbered held values ++ values_among (meaning held).graph (numbered held (drop i all)) ≡ whole → numbered held after ++ values_among (meaning held).graph (numbered held (drop (i + 1) all)) ≡ whole
values_step held values after all i number d whole within is added same =
    let graph : CxxGraph = (meaning held).graph in
    let rest : List Numbered = values_among graph (numbered held (drop (i + 1) all)) in
    ap (λ ns. ns ++ rest) added
    ∙ append_assoc (numbered held values) (values_among graph (numbered held (number ∷ []))) rest
    ∙ ap (λ ns. numbered held values ++ ns) (sym (values_first held number (drop (i + 1) all)))
    ∙ ap (λ (n : FactId). numbered held values ++ values_among graph (numbered held (n ∷ drop (i + 1) all))) is
    ∙ sym (at_drop_more (λ ns. numbered held values ++ values_among graph (numbered held ns)) all i d within)
    ∙ same

pub values_end : (held : Held) (values all : List FactId) (i : ℕ) (whole : List Numbered) → length all ≤ i → numbered held values ++ values_among (meaning held).graph (numbered held (drop i all)) ≡ whole → numbered held values ≡ whole
values_end held values all i whole past same =
    sym (append-nil (numbered held values))
    ∙ sym (at_drop_all (λ ns. numbered held values ++ values_among (meaning held).graph (numbered held ns)) all i past)
    ∙ same

-- ---- one function

and_true : (b : Bool) → b ≡ (b && true)
and_true true = refl
and_true false = refl

pub one_function : (held : Held) (target : ℕ) (number : FactId) (fact : CxxFact) → slice_get (meaning held).graph.facts number.0 ≡ Some fact → is_function_with target number.0 fact.what ≡ are_one_function target (numbered held (number ∷ []))
one_function held target number fact at =
    and_true (is_function_with target number.0 fact.what)
    ∙ sym (ap (λ o. are_one_function target (with_fact number.0 o [])) at)

pub function_more : (held : Held) (target : ℕ) (number : FactId) (numbers : List FactId) → are_one_function target (numbered held (number ∷ numbers)) ≡ (are_one_function target (numbered held (number ∷ [])) && are_one_function target (numbered held numbers))
function_more held target number numbers = by (slice_get (meaning held).graph.facts number.0)
  where
    and_again : (a b : Bool) → (a && b) ≡ ((a && true) && b)
    and_again true b = refl
    and_again false b = refl

    by : (o : Option CxxFact) → are_one_function target (with_fact number.0 o (numbered held numbers)) ≡ (are_one_function target (with_fact number.0 o []) && are_one_function target (numbered held numbers))
    by None = refl
    by (Some fact) = and_again (is_function_with target number.0 fact.what) (are_one_function target (numbered held numbers))

-- ---- the first of some declarations

pub no_value_first : (held : Held) (part : CxxPathPart) (number : FactId) (numbers : List FactId) (fact : CxxFact) → slice_get (meaning held).graph.facts number.0 ≡ Some fact → no_value_at part (numbered held (number ∷ numbers)) ≡ wrong_kind_at part fact.place
no_value_first held part number numbers fact at = ap (λ o. no_value_at part (with_fact number.0 o (numbered held numbers))) at

pub value_first : (held : Held) (part : CxxPathPart) (place : Place) (all : List Numbered) (number : FactId) (numbers : List FactId) (fact : CxxFact) → slice_get (meaning held).graph.facts number.0 ≡ Some fact → means_value part place all (numbered held (number ∷ numbers)) (meaning held) ≡ means_first place (meaning held).graph (meaning held).here.enumeration (numbered held (number ∷ numbers)) number.0 fact.what (meaning held)
value_first held part place all number numbers fact at =
    ap (λ o. means_value part place all (with_fact number.0 o (numbered held numbers)) (meaning held)) at
    ∙ ap (λ o. means_first place (meaning held).graph (meaning held).here.enumeration (with_fact number.0 o (numbered held numbers)) number.0 fact.what (meaning held)) (sym at)

called_by : (held : Held) (q : Questions) (tree : CxxTree) (all : List Numbered) (arguments : List CxxTree) (number : FactId) (numbers : List FactId) (fact : CxxFact) (b : Bool) → slice_get (meaning held).graph.facts number.0 ≡ Some fact → is_function (meaning held).graph fact.what ≡ b → called_first q tree all arguments (numbered held (number ∷ numbers)) (meaning held) ≡ (if b then functions_called q tree (numbered held (number ∷ numbers)) arguments fact.scope (class_at (meaning held).graph fact.scope) (meaning held) else value_call q tree all arguments (meaning held))
called_by held q tree all arguments number numbers fact b at is =
    let class : Option CxxType = class_at (meaning held).graph fact.scope in
    ap (λ o. called_first q tree all arguments (with_fact number.0 o (numbered held numbers)) (meaning held)) at
    ∙ ap (λ (t : Bool). if t then functions_called q tree (with_fact number.0 (Some fact) (numbered held numbers)) arguments fact.scope class (meaning held) else value_call q tree all arguments (meaning held)) is
    ∙ ap (λ o. if b then functions_called q tree (with_fact number.0 o (numbered held numbers)) arguments fact.scope class (meaning held) else value_call q tree all arguments (meaning held)) (sym at)

pub called_function : (held : Held) (q : Questions) (tree : CxxTree) (all : List Numbered) (arguments : List CxxTree) (number : FactId) (numbers : List FactId) (fact : CxxFact) → slice_get (meaning held).graph.facts number.0 ≡ Some fact → is_function (meaning held).graph fact.what ≡ true → called_first q tree all arguments (numbered held (number ∷ numbers)) (meaning held) ≡ functions_called q tree (numbered held (number ∷ numbers)) arguments fact.scope (class_at (meaning held).graph fact.scope) (meaning held)
called_function held q tree all arguments number numbers fact at is = called_by held q tree all arguments number numbers fact true at is

pub called_value : (held : Held) (q : Questions) (tree : CxxTree) (all : List Numbered) (arguments : List CxxTree) (number : FactId) (numbers : List FactId) (fact : CxxFact) → slice_get (meaning held).graph.facts number.0 ≡ Some fact → is_function (meaning held).graph fact.what ≡ false → called_first q tree all arguments (numbered held (number ∷ numbers)) (meaning held) ≡ value_call q tree all arguments (meaning held)
called_value held q tree all arguments number numbers fact at is = called_by held q tree all arguments number numbers fact false at is

-- ---- what means nothing where it stands

known_there : (held : Held) (number : FactId) → number.0 < length held.graph.facts → (fact : CxxFact) × (slice_get (meaning held).graph.facts number.0 ≡ Some fact)
known_there held number less = by (slice_get held.graph.facts number.0) refl
  where
    by : (o : Option Fact) → slice_get held.graph.facts number.0 ≡ o → (fact : CxxFact) × (slice_get (meaning held).graph.facts number.0 ≡ Some fact)
    by None at = let past = past_end held.graph.facts number.0 at in absurd (omega (arith, less, past))
    by (Some fact) at = (fact_at held.types fact, fact_is held number.0 fact at)

pub asked_none : (held : Held) (label : Label) (all : List FactId) → length all ≡ 0 → is_bare label ≡ is_asked_for label (numbered held all)
asked_none held label [] none = refl
asked_none held label (one ∷ all) none = absurd (omega (arith, none))

pub asked_some : (held : Held) (label : Label) (all : List FactId) → AreFactsKnown held all → 0 < length all → false ≡ is_asked_for label (numbered held all)
asked_some held label [] known some = absurd (omega (arith, some))
asked_some held label (one ∷ all) known some =
    let there : (fact : CxxFact) × (slice_get (meaning held).graph.facts one.0 ≡ Some fact) = known_there held one known.0 in
    sym (ap (λ o. is_asked_for label (with_fact one.0 o (numbered held all))) there.1)
