-- The declarations that are made one after another.
use Rattle.std.specs.Prelude.{ℕ, ◌≡◌, ◌+◌, ◌<◌, ◌≤◌, ◌++◌, List, [], ◌∷◌, length, Option, Some, None, Result, Ok, Err, IfOk, option_map, refl}
use Rattle.std.specs.Option.{option_to_list}
use Rattle.std.specs.Global.{Vec}
use Rattle.std.proofs.Common.{ap, sym, subst, ◌∙◌, arith}
use Rattle.cxx_model.specs.declared.facts.Entity.{Entity}
use Rattle.cxx_model.specs.declared.facts.Entity.TheVariants as entity
use Rattle.cxx_model.specs.declared.facts.Fact.{Fact}
use Rattle.cxx_model.specs.declared.facts.Name.{Name}
use Rattle.cxx_model.specs.declared.facts.Name.TheVariants as name
use Rattle.cxx_model.specs.declared.memory.OutOfMemory.{OutOfMemory}
use Rattle.cxx_model.specs.declared.place.Place.{Place}
use Rattle.cxx_model.specs.declared.types.ScopeId.{ScopeId}
use Rattle.cxx_model.specs.Facts.Declarations.{CxxFact, CxxGraph, fact_at, facts_at, graph_at}
use Rattle.cxx_model.specs.Facts.Fitted.{AreFactsBelow, Fitted, IsEntityBelow, IsNameBelow}
use Rattle.cxx_model.specs.Facts.Graph.{EachMayFollow, Graph, IsEntityInRange, MayFollow, scopes}
use Rattle.cxx_model.specs.Types.Trees.{CxxType}
use Rattle.cxx_model.specs.Types.Numbers.{Keeps}
use Rattle.cxx_model.proofs.TypeTrees.{Keeps-trans}
use Rattle.cxx_graph.proofs.Fitting.{fact-kept, fitted-table, graph-kept}
use Rattle.cxx_types.specs.Makes.{AreInRange}
use Rattle.cxx_implicit.specs.declared.deciding.Implied.{Implied}
use Rattle.cxx_implicit.specs.Makes.{FitsClass, IsFirstFunction, IsOneReady, IsReady, MakesFact}
use Rattle.cxx_implicit.proofs.Noting.{scopes_append}
use Rattle.cxx_implicit.specs.Members.{implicit_members, implied, members_by}

-- ---- the table

module _ (graph : Graph) (class : ℕ) (known : class < length graph.classes) where
  fitted_later : (old new : List CxxType) → Fitted graph old → Keeps old new → FitsClass class old new → Fitted graph new
  fitted_later old new fitted keeps fits =
      let inside : AreInRange graph new = fits graph known fitted.names in
      fitted-table graph old new fitted keeps (λ i more less. inside i less)

  pub fitted_one : (scope : ScopeId) (old new : List CxxType) (result : Result (Option Fact) OutOfMemory) (fact : Option CxxFact) → Fitted graph old → MakesFact class scope old new result fact → Fitted graph new
  fitted_one scope old new result fact fitted makes = fitted_later old new fitted makes.keeps makes.fits

  pub fitted_two : (scope : ScopeId) (old mid new : List CxxType) (first second : Result (Option Fact) OutOfMemory) (one two : Option CxxFact) → Fitted graph old → MakesFact class scope old mid first one → MakesFact class scope mid new second two → Fitted graph new
  fitted_two scope old mid new first second one two fitted makes_one makes_two = fitted_one scope mid new second two (fitted_one scope old mid first one fitted makes_one) makes_two

  pub fitted_three : (scope : ScopeId) (old mid later new : List CxxType) (first second third : Result (Option Fact) OutOfMemory) (one two three : Option CxxFact) → Fitted graph old → MakesFact class scope old mid first one → MakesFact class scope mid later second two → MakesFact class scope later new third three → Fitted graph new
  fitted_three scope old mid later new first second third one two three fitted makes_one makes_two makes_three = fitted_one scope later new third three (fitted_two scope old mid later first second one two fitted makes_one makes_two) makes_three

-- ---- declarations

name-later : (old new : ℕ) (x : Name) → old ≤ new → IsNameBelow old x → IsNameBelow new x
name-later old new name.Unnamed le ok = tt
name-later old new (name.Spelled word) le ok = tt
name-later old new (name.Operator operator) le ok = tt
name-later old new (name.Conversion of) le ok = omega (arith, ok)
name-later old new name.Destructor le ok = tt

function-later : (old new : ℕ) (what : Entity) → old ≤ new → IsFirstFunction what → IsEntityBelow old what → IsEntityBelow new what
function-later old new (entity.Function of member flags defaults None) le first ok = omega (arith, ok)
function-later old new _ le first ok = absurd first

ready-later : (old new : ℕ) (scope : ScopeId) (fact : Fact) → old ≤ new → IsReady old scope fact → IsReady new scope fact
ready-later old new scope fact le ready = record {
  below = record { name = name-later old new fact.name le ready.below.name; what = function-later old new fact.what le ready.first ready.below.what };
  stands = ready.stands;
  first = ready.first;
}

one-later : (old new : ℕ) (scope : ScopeId) (fact : Option Fact) → old ≤ new → IsOneReady old scope fact → IsOneReady new scope fact
one-later old new scope None le ready = tt
one-later old new scope (Some fact) le ready = ready-later old new scope fact le ready

one-kept : (old new : List CxxType) (scope : ScopeId) (fact : Option Fact) → Keeps old new → IsOneReady (length old) scope fact → option_map (fact_at new) fact ≡ option_map (fact_at old) fact
one-kept old new scope None keeps ready = refl
one-kept old new scope (Some fact) keeps ready = ap Some (fact-kept old new fact keeps ready.below)

listed_at : (types : List CxxType) (one : Option Fact) (others : List Fact) → facts_at types (option_to_list one ++ others) ≡ option_to_list (option_map (fact_at types) one) ++ facts_at types others
listed_at types None others = refl
listed_at types (Some fact) others = refl

last_at : (types : List CxxType) (one : Option Fact) → facts_at types (option_to_list one) ≡ option_to_list (option_map (fact_at types) one)
last_at types None = refl
last_at types (Some fact) = refl

-- all of some declarations are ready
abbrev pub AreReady : ℕ → ScopeId → List Fact → Type 0
AreReady count scope [] = Unit {0}
AreReady count scope (fact ∷ others) = IsReady count scope fact × AreReady count scope others

ready_before : (count : ℕ) (scope : ScopeId) (one : Option Fact) (others : List Fact) → IsOneReady count scope one → AreReady count scope others → AreReady count scope (option_to_list one ++ others)
ready_before count scope None others one rest = rest
ready_before count scope (Some fact) others one rest = (one, rest)

ready_last : (count : ℕ) (scope : ScopeId) (one : Option Fact) → IsOneReady count scope one → AreReady count scope (option_to_list one)
ready_last count scope None one = tt
ready_last count scope (Some fact) one = (one, tt)

below_by : (count : ℕ) (scope : ScopeId) (facts : List Fact) → AreReady count scope facts → AreFactsBelow count facts
below_by count scope [] ready = tt
below_by count scope (fact ∷ others) ready = (ready.0.below, below_by count scope others ready.1)

scopes_later : (before : List Fact) (fact : Fact) (n : ℕ) → n < scopes before → n < scopes (before ++ fact ∷ [])
scopes_later before fact n there = (let e : scopes (before ++ fact ∷ []) ≡ scopes before + scopes (fact ∷ []) = scopes_append before (fact ∷ []) in omega arith)

function-in-range : (graph : Graph) (fact : Fact) (what : Entity) → IsFirstFunction what → IsEntityInRange graph fact what
function-in-range graph fact (entity.Function of member flags defaults None) first = tt
function-in-range graph fact _ first = absurd first

may_follow : (graph : Graph) (before : List Fact) (scope : ScopeId) (fact : Fact) (n : ℕ) → scope.0 < scopes before → IsReady n scope fact → MayFollow (record graph { facts = before }) fact
may_follow graph [] scope fact n there ready = absurd (omega (arith, there))
may_follow graph (x ∷ before) scope fact n there ready = (subst (λ (s : ScopeId). s.0 < scopes (x ∷ before)) (sym ready.stands) there, function-in-range (record graph { facts = x ∷ before }) fact fact.what ready.first)

follow_by : (graph : Graph) (before facts : List Fact) (scope : ScopeId) (n : ℕ) → scope.0 < scopes before → AreReady n scope facts → EachMayFollow graph before facts
follow_by graph before [] scope n there ready = tt
follow_by graph before (fact ∷ others) scope n there ready = (may_follow graph before scope fact n there ready.0, follow_by graph (before ++ fact ∷ []) others scope n (scopes_later before fact scope.0 there) ready.1)

-- ---- three in turn

module _ (class : ℕ) (scope : ScopeId) (old first second new : List CxxType) (one two three : Option Fact) (one_is two_is three_is : Option CxxFact)
    (makes_one : MakesFact class scope old first (Ok one) one_is) (makes_two : MakesFact class scope first second (Ok two) two_is) (makes_three : MakesFact class scope second new (Ok three) three_is) where
  pub keeps_all : Keeps old new
  keeps_all = Keeps-trans old first new makes_one.keeps (Keeps-trans first second new makes_two.keeps makes_three.keeps)

  keeps_later : Keeps first new
  keeps_later = Keeps-trans first second new makes_two.keeps makes_three.keeps

  one_at : option_map (fact_at new) one ≡ one_is
  one_at = one-kept first new scope one keeps_later makes_one.made.1 ∙ makes_one.made.0

  two_at : option_map (fact_at new) two ≡ two_is
  two_at = one-kept second new scope two makes_three.keeps makes_two.made.1 ∙ makes_two.made.0

  pub all_at : facts_at new (option_to_list one ++ (option_to_list two ++ option_to_list three)) ≡ option_to_list one_is ++ (option_to_list two_is ++ option_to_list three_is)
  all_at =
      listed_at new one (option_to_list two ++ option_to_list three)
      ∙ ap (λ (fs : List CxxFact). option_to_list (option_map (fact_at new) one) ++ fs) (listed_at new two (option_to_list three) ∙ ap (λ (fs : List CxxFact). option_to_list (option_map (fact_at new) two) ++ fs) (last_at new three))
      ∙ ap (λ (o : Option CxxFact). option_to_list o ++ (option_to_list (option_map (fact_at new) two) ++ option_to_list (option_map (fact_at new) three))) one_at
      ∙ ap (λ (o : Option CxxFact). option_to_list one_is ++ (option_to_list o ++ option_to_list (option_map (fact_at new) three))) two_at
      ∙ ap (λ (o : Option CxxFact). option_to_list one_is ++ (option_to_list two_is ++ option_to_list o)) makes_three.made.0

  pub all_ready : AreReady (length new) scope (option_to_list one ++ (option_to_list two ++ option_to_list three))
  all_ready =
      ready_before (length new) scope one (option_to_list two ++ option_to_list three) (one-later (length first) (length new) scope one keeps_later.grows makes_one.made.1)
      (ready_before (length new) scope two (option_to_list three) (one-later (length second) (length new) scope two makes_three.keeps.grows makes_two.made.1)
      (ready_last (length new) scope three makes_three.made.1))

-- ---- what is answered

on_ok : {T E : Type 0} (result : Result T E) (P Q : T → Type 0) → ((x : T) → P x → Q x) → IfOk result P → IfOk result Q
on_ok (Ok x) P Q f p = f x p
on_ok (Err e) P Q f p = tt

module _ (graph : Graph) (class : ℕ) (scope : ScopeId) (place : Place) (old new : List CxxType) (result : Result (Vec Fact) OutOfMemory) (items : List Fact)
    (is : IfOk result (λ facts. facts.items ≡ items)) where
  pub members_listed : (which : Implied) → which ≡ implied (graph_at old graph) class → Fitted graph old → Keeps old new → facts_at new items ≡ members_by which class scope.0 place → IfOk result (λ facts. facts_at new facts.items ≡ implicit_members (graph_at new graph) class scope.0 place)
  unfolding implicit_members
  members_listed which which_is fitted keeps all =
      on_ok result (λ facts. facts.items ≡ items) (λ facts. facts_at new facts.items ≡ implicit_members (graph_at new graph) class scope.0 place)
      (λ (facts : Vec Fact) (same : facts.items ≡ items). ap (facts_at new) same ∙ all ∙ ap (λ (w : Implied). members_by w class scope.0 place) (which_is ∙ ap (λ (g : CxxGraph). implied g class) (sym (graph-kept old new graph keeps fitted.numbers)))) is

  pub follow_listed : scope.0 < scopes graph.facts → AreReady (length new) scope items → IfOk result (λ facts. EachMayFollow graph graph.facts facts.items)
  follow_listed there ready =
      on_ok result (λ facts. facts.items ≡ items) (λ facts. EachMayFollow graph graph.facts facts.items)
      (λ (facts : Vec Fact) (same : facts.items ≡ items). subst (λ (fs : List Fact). EachMayFollow graph graph.facts fs) (sym same) (follow_by graph graph.facts items scope (length new) there ready)) is

  pub below_listed : AreReady (length new) scope items → IfOk result (λ facts. AreFactsBelow (length new) facts.items)
  below_listed ready =
      on_ok result (λ facts. facts.items ≡ items) (λ facts. AreFactsBelow (length new) facts.items)
      (λ (facts : Vec Fact) (same : facts.items ≡ items). subst (λ (fs : List Fact). AreFactsBelow (length new) fs) (sym same) (below_by (length new) scope items ready)) is
