-- Which specialisations have a class.
use Rattle.std.specs.Prelude.{ℕ, ◌≡◌, ◌<◌, ◌≤◌, List, length, Option, Some, None}
use Rattle.std.specs.List.{slice_get}
use Rattle.cxx_model.specs.declared.facts.Specialisation.{Specialisation}
use Rattle.cxx_model.specs.declared.types.Argument.{Argument}
use Rattle.cxx_model.specs.declared.types.TemplateId.{TemplateId}
use Rattle.cxx_model.specs.Facts.Graph.{Graph, IsReservedAlready}

-- no class was reserved for the template and the arguments
abbrev pub IsUnknown : Graph → Option TemplateId → List Argument → Type 0
IsUnknown graph template arguments = (n : ℕ) → IsReservedAlready graph template arguments n → ⊥

-- what a new class is for has no class
abbrev pub IsNew : Graph → Option Specialisation → Type 0
IsNew graph None = Unit {0}
IsNew graph (Some of) = IsUnknown graph (Some of.template) of.arguments

-- The facts and the templates stay, and so does each class.
pub record KeepsClasses (old new : Graph) : Type 0 where
  pub facts : new.facts ≡ old.facts
  pub patterns : new.patterns ≡ old.patterns
  pub more : length old.classes ≤ length new.classes
  pub same : (n : ℕ) → n < length old.classes → slice_get new.classes n ≡ slice_get old.classes n
