-- The classes by whose ends a template is defined (14.5.4).
use Rattle.std.specs.Prelude.{ℕ, Bool, false, ◌&&◌, nat_eq, List, Option, Some, None}
use Rattle.std.specs.List.{list_any}
use Rattle.cxx_model.specs.declared.facts.Pattern.{Pattern}
use Rattle.cxx_model.specs.declared.types.ClassId.{ClassId}
use Rattle.cxx_model.specs.declared.types.TemplateId.{TemplateId}

abbrev pub is_class : ℕ → Option ClassId → Bool
is_class class None = false
is_class class (Some number) = nat_eq class number.0

abbrev pub is_template : ℕ → Option TemplateId → Bool
is_template template None = false
is_template template (Some number) = nat_eq number.0 template

abbrev pub is_partial_class : ℕ → ℕ → Pattern → Bool
is_partial_class template class pattern = is_template template pattern.primary && is_class class pattern.class

-- whether a class is that of a partial specialisation of a template
abbrev pub is_any_partial : ℕ → ℕ → List Pattern → Bool
is_any_partial template class patterns = list_any (is_partial_class template class) patterns

-- whether a class is that of a template itself
abbrev pub is_primary_class : ℕ → Option Pattern → Bool
is_primary_class class None = false
is_primary_class class (Some pattern) = is_class class pattern.class
