-- Two declarations of one name.
use Rattle.std.proofs.Common.{◌≡◌, ℕ, Bool, true, false, cond, ◌&&◌, ◌||◌, List, Option, Some, None, refl, ap, ◌∙◌}
use Rattle.std.specs.List.{slice_get}
use Rattle.cxx_model.specs.declared.facts.Entity.{Entity}
use Rattle.cxx_model.specs.declared.facts.Entity.TheVariants as entity
use Rattle.cxx_model.specs.declared.facts.Fact.{Fact}
use Rattle.cxx_model.specs.declared.facts.MemberKind.{MemberKind}
use Rattle.cxx_model.specs.declared.facts.MemberKind.TheVariants as member
use Rattle.cxx_model.specs.declared.facts.MemberKind.TheVariants.{Free}
use Rattle.cxx_model.specs.declared.facts.Name.{Name}
use Rattle.cxx_model.specs.declared.facts.Name.TheVariants as name
use Rattle.cxx_model.specs.declared.types.TemplateId.{TemplateId}
use Rattle.cxx_model.specs.declared.types.FactId.{FactId}
use Rattle.cxx_model.specs.Types.Numbers.{type_at}
use Rattle.cxx_model.specs.Facts.Conflicts.{a_function, a_hidden_name, a_name, alone, an_enumerator, an_object, agree, declares_name, functions_agree, has_name, is_constructor, is_static, may_stand, objects_agree, of_one_name, same_member, same_name, same_parameters, standing, a_class_template, a_function_template, Standing}
use Rattle.cxx_model.specs.Facts.Declarations as facts
use Rattle.cxx_model.specs.Facts.Declarations.{CxxGraph, CxxPattern, declares_at, fact_at, name_at}
use Rattle.cxx_model.specs.Facts.Entities.{of_space, of_type}
use Rattle.cxx_model.specs.Types.Same.{same_type}
use Rattle.cxx_model.specs.Types.Trees.{CxxType, class_type, enumeration}
use Rattle.cxx_meaning.specs.Lookups.Wanted.{is_of_functions}
use Rattle.cxx_names.specs.Clashes.{IsPlain, IsPlainEntity, IsPlainName, same_spelled}

-- ---- templates

abbrev standing_by : TemplateId → MemberKind → Option CxxPattern → Standing
standing_by template kind None = a_class_template template
standing_by template kind (Some pattern) = by pattern.of
  where
    by : Option CxxType → Standing
    by None = a_class_template template
    by (Some of) = a_function_template pattern.parameters of kind

pub template_function : (closed : Bool) (graph : CxxGraph) (template : TemplateId) (kind : MemberKind) (defaults : ℕ) (is_explicit : Bool) (first : Option FactId) (of : CxxType) (other : MemberKind) → may_stand closed (standing graph (facts.template template kind defaults is_explicit first)) (a_function of other) ≡ is_of_functions (slice_get graph.patterns template.0)
template_function closed graph template kind defaults is_explicit first of other = by (slice_get graph.patterns template.0)
  where
    of_pattern : (pattern : CxxPattern) (o : Option CxxType) → may_stand closed (standing_by template kind (Some (record pattern { of = o }))) (a_function of other) ≡ is_of_functions (Some (record pattern { of = o }))
    of_pattern pattern None = refl
    of_pattern pattern (Some t) = refl

    by : (o : Option CxxPattern) → may_stand closed (standing_by template kind o) (a_function of other) ≡ is_of_functions o
    by None = refl
    by (Some pattern) = of_pattern pattern pattern.of

pub template_object : (closed : Bool) (graph : CxxGraph) (template : TemplateId) (kind : MemberKind) (defaults : ℕ) (is_explicit : Bool) (first : Option FactId) (of : CxxType) (other : MemberKind) → may_stand closed (standing graph (facts.template template kind defaults is_explicit first)) (an_object of other) ≡ false
template_object closed graph template kind defaults is_explicit first of other = by (slice_get graph.patterns template.0)
  where
    of_pattern : (pattern : CxxPattern) (o : Option CxxType) → may_stand closed (standing_by template kind (Some (record pattern { of = o }))) (an_object of other) ≡ false
    of_pattern pattern None = refl
    of_pattern pattern (Some t) = refl

    by : (o : Option CxxPattern) → may_stand closed (standing_by template kind o) (an_object of other) ≡ false
    by None = refl
    by (Some pattern) = of_pattern pattern pattern.of

pub template_enumerator : (closed : Bool) (graph : CxxGraph) (template : TemplateId) (kind : MemberKind) (defaults : ℕ) (is_explicit : Bool) (first : Option FactId) → may_stand closed (standing graph (facts.template template kind defaults is_explicit first)) an_enumerator ≡ false
template_enumerator closed graph template kind defaults is_explicit first = by (slice_get graph.patterns template.0)
  where
    of_pattern : (pattern : CxxPattern) (o : Option CxxType) → may_stand closed (standing_by template kind (Some (record pattern { of = o }))) an_enumerator ≡ false
    of_pattern pattern None = refl
    of_pattern pattern (Some t) = refl

    by : (o : Option CxxPattern) → may_stand closed (standing_by template kind o) an_enumerator ≡ false
    by None = refl
    by (Some pattern) = of_pattern pattern pattern.of

pub template_enumeration : (closed : Bool) (graph : CxxGraph) (template : TemplateId) (kind : MemberKind) (defaults : ℕ) (is_explicit : Bool) (first : Option FactId) (number : ℕ) → may_stand closed (standing graph (facts.template template kind defaults is_explicit first)) (a_hidden_name (of_type (enumeration number)) None) ≡ is_of_functions (slice_get graph.patterns template.0)
template_enumeration closed graph template kind defaults is_explicit first number = by (slice_get graph.patterns template.0)
  where
    of_pattern : (pattern : CxxPattern) (o : Option CxxType) → may_stand closed (standing_by template kind (Some (record pattern { of = o }))) (a_hidden_name (of_type (enumeration number)) None) ≡ is_of_functions (Some (record pattern { of = o }))
    of_pattern pattern None = refl
    of_pattern pattern (Some t) = refl

    by : (o : Option CxxPattern) → may_stand closed (standing_by template kind o) (a_hidden_name (of_type (enumeration number)) None) ≡ is_of_functions o
    by None = refl
    by (Some pattern) = of_pattern pattern pattern.of

pub template_class : (closed : Bool) (graph : CxxGraph) (template : TemplateId) (kind : MemberKind) (defaults : ℕ) (is_explicit : Bool) (first : Option FactId) (number : ℕ) (is_union : Bool) → may_stand closed (standing graph (facts.template template kind defaults is_explicit first)) (a_hidden_name (of_type (class_type number)) (Some is_union)) ≡ is_of_functions (slice_get graph.patterns template.0)
template_class closed graph template kind defaults is_explicit first number is_union = by (slice_get graph.patterns template.0)
  where
    of_pattern : (pattern : CxxPattern) (o : Option CxxType) → may_stand closed (standing_by template kind (Some (record pattern { of = o }))) (a_hidden_name (of_type (class_type number)) (Some is_union)) ≡ is_of_functions (Some (record pattern { of = o }))
    of_pattern pattern None = refl
    of_pattern pattern (Some t) = refl

    by : (o : Option CxxPattern) → may_stand closed (standing_by template kind o) (a_hidden_name (of_type (class_type number)) (Some is_union)) ≡ is_of_functions o
    by None = refl
    by (Some pattern) = of_pattern pattern pattern.of

pub template_name : (closed : Bool) (graph : CxxGraph) (template : TemplateId) (kind : MemberKind) (defaults : ℕ) (is_explicit : Bool) (first : Option FactId) (of : CxxType) → may_stand closed (standing graph (facts.template template kind defaults is_explicit first)) (a_name (of_type of)) ≡ false
template_name closed graph template kind defaults is_explicit first of = by (slice_get graph.patterns template.0)
  where
    of_pattern : (pattern : CxxPattern) (o : Option CxxType) → may_stand closed (standing_by template kind (Some (record pattern { of = o }))) (a_name (of_type of)) ≡ false
    of_pattern pattern None = refl
    of_pattern pattern (Some t) = refl

    by : (o : Option CxxPattern) → may_stand closed (standing_by template kind o) (a_name (of_type of)) ≡ false
    by None = refl
    by (Some pattern) = of_pattern pattern pattern.of

pub template_space : (closed : Bool) (graph : CxxGraph) (template : TemplateId) (kind : MemberKind) (defaults : ℕ) (is_explicit : Bool) (first : Option FactId) (inner : ℕ) → may_stand closed (standing graph (facts.template template kind defaults is_explicit first)) (a_name (of_space inner)) ≡ false
template_space closed graph template kind defaults is_explicit first inner = by (slice_get graph.patterns template.0)
  where
    of_pattern : (pattern : CxxPattern) (o : Option CxxType) → may_stand closed (standing_by template kind (Some (record pattern { of = o }))) (a_name (of_space inner)) ≡ false
    of_pattern pattern None = refl
    of_pattern pattern (Some t) = refl

    by : (o : Option CxxPattern) → may_stand closed (standing_by template kind o) (a_name (of_space inner)) ≡ false
    by None = refl
    by (Some pattern) = of_pattern pattern pattern.of

-- nothing stands beside what stands alone
pub alone_stands : (closed : Bool) (one : Standing) → may_stand closed one alone ≡ false
alone_stands closed (a_function of kind) = refl
alone_stands closed (a_function_template parameters of kind) = refl
alone_stands closed (a_class_template template) = refl
alone_stands closed (an_object of kind) = refl
alone_stands closed an_enumerator = refl
alone_stands closed (a_hidden_name entity is_union) = refl
alone_stands closed (a_name entity) = refl
alone_stands closed alone = refl

-- ---- names

spelled_alike : (types : List CxxType) (one two : Name) → IsPlainName two → (has_name (name_at types one) && same_name (name_at types one) (name_at types two)) ≡ same_spelled one two
spelled_alike types name.Unnamed two plain = refl
spelled_alike types (name.Spelled one) name.Unnamed plain = refl
spelled_alike types (name.Spelled one) (name.Spelled two) plain = refl
spelled_alike types (name.Spelled one) (name.Operator two) plain = refl
spelled_alike types (name.Spelled one) (name.Conversion two) plain = refl
spelled_alike types (name.Spelled one) name.Destructor plain = refl
spelled_alike types (name.Operator one) name.Unnamed plain = refl
spelled_alike types (name.Operator one) (name.Spelled two) plain = refl
spelled_alike types (name.Operator one) (name.Operator two) plain = absurd plain
spelled_alike types (name.Operator one) (name.Conversion two) plain = absurd plain
spelled_alike types (name.Operator one) name.Destructor plain = absurd plain
spelled_alike types (name.Conversion one) name.Unnamed plain = refl
spelled_alike types (name.Conversion one) (name.Spelled two) plain = refl
spelled_alike types (name.Conversion one) (name.Operator two) plain = absurd plain
spelled_alike types (name.Conversion one) (name.Conversion two) plain = absurd plain
spelled_alike types (name.Conversion one) name.Destructor plain = absurd plain
spelled_alike types name.Destructor name.Unnamed plain = refl
spelled_alike types name.Destructor (name.Spelled two) plain = refl
spelled_alike types name.Destructor (name.Operator two) plain = absurd plain
spelled_alike types name.Destructor (name.Conversion two) plain = absurd plain
spelled_alike types name.Destructor name.Destructor plain = absurd plain

pub plain_free : (types : List CxxType) (what : Entity) → IsPlainEntity what → is_constructor (declares_at types what) ≡ false
plain_free types (entity.Object of m is_mutable value first) plain = refl
plain_free types (entity.Function of member.Constructor flags defaults first) plain = absurd plain
plain_free types (entity.Function of _ flags defaults first) plain = refl
plain_free types (entity.Class class is_union) plain = refl
plain_free types (entity.Enumeration number) plain = refl
plain_free types (entity.Enumerator number value) plain = refl
plain_free types (entity.Synonym of) plain = refl
plain_free types (entity.Namespace inner) plain = refl
plain_free types (entity.Directive nominated) plain = refl
plain_free types (entity.Using target) plain = refl
plain_free types _ plain = absurd plain

shorter : (a b c d : Bool) → ((a && b) && (c || (d && false))) ≡ (a && (b && c))
shorter true true true d = refl
shorter true true false true = refl
shorter true true false false = refl
shorter true false c d = refl
shorter false b c d = refl

pub one_name : (types : List CxxType) (old new : Fact) → IsPlain new → of_one_name (fact_at types old) (fact_at types new) ≡ (declares_name (declares_at types old.what) && (declares_name (declares_at types new.what) && same_spelled old.name new.name))
one_name types old new plain =
    ap (λ t. (declares_name (declares_at types old.what) && declares_name (declares_at types new.what)) && ((has_name (name_at types old.name) && same_name (name_at types old.name) (name_at types new.name)) || (is_constructor (declares_at types old.what) && t))) (plain_free types new.what plain.what)
    ∙ (shorter (declares_name (declares_at types old.what)) (declares_name (declares_at types new.what)) (has_name (name_at types old.name) && same_name (name_at types old.name) (name_at types new.name)) (is_constructor (declares_at types old.what))
    ∙ ap (λ t. declares_name (declares_at types old.what) && (declares_name (declares_at types new.what) && t)) (spelled_alike types old.name new.name plain.name))
