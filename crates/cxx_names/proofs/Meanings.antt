-- What declarations stand for, and what that is beside another declaration (7.3.3).
use Rattle.std.proofs.Common.{◌≡◌, ℕ, zero, suc, Bool, true, false, List, [], ◌∷◌, Option, Some, None, option_map, refl, ap, ◌∙◌, subst}
use Rattle.std.specs.List.{slice_get}
use Rattle.cxx_model.specs.declared.facts.Fact.{Fact}
use Rattle.cxx_model.specs.declared.facts.MemberKind.{MemberKind}
use Rattle.cxx_model.specs.declared.types.FactId.{FactId}
use Rattle.cxx_model.specs.declared.types.TemplateId.{TemplateId}
use Rattle.cxx_model.specs.Facts.Conflicts as conflicts
use Rattle.cxx_model.specs.Facts.Conflicts.{a_class_template, a_function, a_function_template, are_overloads, is_function, is_hidden, hides, standing, Standing}
use Rattle.cxx_model.specs.Facts.Declarations as facts
use Rattle.cxx_model.specs.Facts.Declarations.{CxxFact, CxxGraph, CxxPattern, Declares, declares_at, fact_at, facts_at}
use Rattle.cxx_model.specs.Facts.Entities.{Meant, meant_by}
use Rattle.cxx_model.specs.Types.Trees.{CxxType}
use Rattle.cxx_meaning.specs.Lookups.Wanted as wanted
use Rattle.cxx_meaning.specs.Lookups.Wanted.{is_hideable, is_of_functions, hides_types}
use Rattle.cxx_names.specs.Clashes.{IsNoTemplate, NoTemplates}
use Rattle.cxx_names.proofs.Looking.{fact_is}

abbrev target_by : FactId → Option CxxFact → Meant
target_by target None = record { number = target.0; what = facts.using target }
target_by target (Some fact) = record { number = target.0; what = fact.what }

pub meant_there : (types : List CxxType) (all : List Fact) (number : ℕ) (target : FactId) (fact : Fact) → slice_get all target.0 ≡ Some fact → meant_by (facts_at types all) number (facts.using target) ≡ record { number = target.0; what = declares_at types fact.what }
meant_there types all number target fact at = ap (target_by target) (fact_is types all target.0 ∙ ap (option_map (fact_at types)) at)

pub meant_nowhere : (types : List CxxType) (all : List Fact) (number : ℕ) (target : FactId) → slice_get all target.0 ≡ None → meant_by (facts_at types all) number (facts.using target) ≡ record { number = target.0; what = facts.using target }
meant_nowhere types all number target at = ap (target_by target) (fact_is types all target.0 ∙ ap (option_map (fact_at types)) at)

-- ---- templates

abbrev standing_by : TemplateId → MemberKind → Option CxxPattern → Standing
standing_by template kind None = a_class_template template
standing_by template kind (Some pattern) = by pattern.of
  where
    by : Option CxxType → Standing
    by None = a_class_template template
    by (Some of) = a_function_template pattern.parameters of kind

-- what holds of a template, by whether it is one of functions
by_template : {A : Type 0} (f : Standing → A) (g : Bool → A) (graph : CxxGraph) (template : TemplateId) (kind : MemberKind)
    → f (a_class_template template) ≡ g false → ((pattern : CxxPattern) (of : CxxType) → f (a_function_template pattern.parameters of kind) ≡ g true)
    → f (standing_by template kind (slice_get graph.patterns template.0)) ≡ g (is_of_functions (slice_get graph.patterns template.0))
by_template f g graph template kind class function = by (slice_get graph.patterns template.0)
  where
    of_pattern : (pattern : CxxPattern) (o : Option CxxType) → f (standing_by template kind (Some (record pattern { of = o }))) ≡ g (is_of_functions (Some (record pattern { of = o })))
    of_pattern pattern None = class
    of_pattern pattern (Some of) = function pattern of

    by : (o : Option CxxPattern) → f (standing_by template kind o) ≡ g (is_of_functions o)
    by None = class
    by (Some pattern) = of_pattern pattern pattern.of

-- ---- what declarations are

pub function_is : (graph : CxxGraph) (what : Declares) → is_function (standing graph what) ≡ wanted.is_function graph what
function_is graph (facts.template template kind defaults is_explicit first) = by_template is_function (λ b. b) graph template kind refl (λ pattern of. refl)
function_is graph _ = refl

pub hides_is : (graph : CxxGraph) (what : Declares) → hides (standing graph what) ≡ hides_types graph what
hides_is graph (facts.template template kind defaults is_explicit first) = by_template hides (λ b. b) graph template kind refl (λ pattern of. refl)
hides_is graph _ = refl

pub hidden_is : (graph : CxxGraph) (what : Declares) → is_hidden (standing graph what) ≡ is_hideable what
hidden_is graph (facts.template template kind defaults is_explicit first) = by_template is_hidden (λ b. false) graph template kind refl (λ pattern of. refl)
hidden_is graph _ = refl

pub overloads_template : (graph : CxxGraph) (template : TemplateId) (kind : MemberKind) (defaults : ℕ) (is_explicit : Bool) (first : Option FactId) (of : CxxType) (member : MemberKind) → are_overloads (standing graph (facts.template template kind defaults is_explicit first)) (a_function of member) ≡ is_of_functions (slice_get graph.patterns template.0)
overloads_template graph template kind defaults is_explicit first of member = by_template (λ s. are_overloads s (a_function of member)) (λ b. b) graph template kind refl (λ pattern of. refl)

-- what is no function and no function template is no overload
pub no_overloads : (one two : Standing) → is_function two ≡ false → are_overloads one two ≡ false
no_overloads one (a_function of kind) e = absurd (cc)
no_overloads one (a_function_template parameters of kind) e = absurd (cc)
no_overloads (a_function of kind) (conflicts.a_class_template template) e = refl
no_overloads (a_function_template parameters of kind) (conflicts.a_class_template template) e = refl
no_overloads (a_function of kind) (conflicts.an_object t k) e = refl
no_overloads (a_function_template parameters of kind) (conflicts.an_object t k) e = refl
no_overloads (a_function of kind) conflicts.an_enumerator e = refl
no_overloads (a_function_template parameters of kind) conflicts.an_enumerator e = refl
no_overloads (a_function of kind) (conflicts.a_hidden_name entity is_union) e = refl
no_overloads (a_function_template parameters of kind) (conflicts.a_hidden_name entity is_union) e = refl
no_overloads (a_function of kind) (conflicts.a_name entity) e = refl
no_overloads (a_function_template parameters of kind) (conflicts.a_name entity) e = refl
no_overloads (a_function of kind) conflicts.alone e = refl
no_overloads (a_function_template parameters of kind) conflicts.alone e = refl
no_overloads (conflicts.a_class_template template) two e = refl
no_overloads (conflicts.an_object t k) two e = refl
no_overloads conflicts.an_enumerator two e = refl
no_overloads (conflicts.a_hidden_name entity is_union) two e = refl
no_overloads (conflicts.a_name entity) two e = refl
no_overloads conflicts.alone two e = refl

-- ---- what plain declarations stand for

pub stored_untemplated : (all : List Fact) (n : ℕ) (fact : Fact) → NoTemplates all → slice_get all n ≡ Some fact → IsNoTemplate fact.what
stored_untemplated [] n fact none at = absurd (cc)
stored_untemplated (one ∷ all) zero fact none at = (let same : one ≡ fact = cc in subst (λ f. IsNoTemplate f.what) same none.0)
stored_untemplated (one ∷ all) (suc n) fact none at = stored_untemplated all n fact none.1 at
