-- Classes that must be complete before they are asked (14.7.1).
use Rattle.std.specs.Prelude.{ℕ, Bool, false, ◌&&◌, ◌||◌, not, nat_eq, List, [], ◌∷◌, ◌++◌, Option, Some, None, if◌then◌else◌}
use Rattle.std.specs.List.{slice_get, list_any}
use Rattle.cxx_model.specs.declared.facts.ScopeKind.TheVariants as kind
use Rattle.cxx_model.specs.declared.types.ClassId.{ClassId}
use Rattle.cxx_model.specs.declared.types.TemplateId.{TemplateId}
use Rattle.cxx_model.specs.Facts.Declarations as facts
use Rattle.cxx_model.specs.Facts.Declarations.{CxxFact, CxxGraph, CxxPattern, CxxSpecialisation, Declares}

-- 9: whether a fact begins the class, which is then open, or ends it
abbrev pub begins_or_ends : ℕ → Declares → Bool
begins_or_ends class (facts.scope parent (kind.Class number)) = nat_eq number.0 class
begins_or_ends class (facts.complete number) = nat_eq number.0 class
begins_or_ends class _ = false

abbrev class_of_pattern : Option ClassId → List ℕ
class_of_pattern None = []
class_of_pattern (Some class) = class.0 ∷ []

abbrev is_partial_of : ℕ → Option TemplateId → Bool
is_partial_of template None = false
is_partial_of template (Some primary) = nat_eq primary.0 template

-- 14.5.4: the classes that the partial specialisations of a template define
abbrev partial_classes : ℕ → List CxxPattern → List ℕ
partial_classes template [] = []
partial_classes template (pattern ∷ others) = if is_partial_of template pattern.primary then class_of_pattern pattern.class ++ partial_classes template others else partial_classes template others

abbrev primary_class : Option CxxPattern → List ℕ
primary_class None = []
primary_class (Some pattern) = class_of_pattern pattern.class

-- the classes by whose ends the template, or a partial specialisation of it, is defined
abbrev pub defining_classes : CxxGraph → ℕ → List ℕ
defining_classes graph template = primary_class (slice_get graph.patterns template) ++ partial_classes template graph.patterns

-- whether a definition stands among facts, and behind the last one no completion of the class that found none
abbrev pub is_defined_since : List ℕ → ℕ → Bool → List CxxFact → Bool
is_defined_since defining class so_far [] = so_far
is_defined_since defining class so_far (fact ∷ later) = is_defined_since defining class (after fact.what) later
  where
    after : Declares → Bool
    after (facts.complete number) = so_far || list_any (nat_eq number.0) defining
    after (facts.passed number) = so_far && not (nat_eq number.0 class)
    after _ = so_far

abbrev pending_as : CxxGraph → ℕ → Option (Option CxxSpecialisation) → Bool
pending_as graph class (Some (Some of)) = not (list_any (λ fact. begins_or_ends class fact.what) graph.facts) && is_defined_since (defining_classes graph of.template) class false graph.facts
pending_as graph class _ = false

-- 14.7.1: a class is pending where it is a specialisation, neither open nor complete, of a template that is defined,
-- and no completion of it found the definition wanting since
unfoldable pub is_pending : CxxGraph → ℕ → Bool
is_pending graph class = pending_as graph class (slice_get graph.classes class)
