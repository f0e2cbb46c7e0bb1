-- Which declarations have one number in the text.
--
-- Functions of classes have one number where their names, the lists of their parameters and the words behind these are the
-- same (9.3, 13.1): then a call that names one of them by its printed name, for an object of any class, finds what the call
-- that is read found. What they return is not looked at. Constructors and destructors have no part in it (12.1, 12.4), and
-- neither has what a class declares by itself. No other two entities have one number.
use Rattle.std.specs.Prelude.{ℕ, zero, suc, Bool, true, false, not, ◌&&◌, if◌then◌else◌, List, [], ◌∷◌, Option, Some, None}
use Rattle.std.specs.List.{slice_get}
use Rattle.cxx_model.specs.declared.facts.FunctionFlags.{FunctionFlags}
use Rattle.cxx_model.specs.declared.facts.MemberKind.{MemberKind}
use Rattle.cxx_model.specs.declared.facts.MemberKind.TheVariants.{Conversion, Nonstatic, Static}
use Rattle.cxx_model.specs.declared.types.Cv.{Cv}
use Rattle.cxx_model.specs.Facts.Conflicts.{same_name}
use Rattle.cxx_model.specs.Facts.Declarations as facts
use Rattle.cxx_model.specs.Facts.Declarations.{CxxFact, CxxName, Declares}
use Rattle.cxx_model.specs.Types.Same.{same_bool, same_cv, same_types}
use Rattle.cxx_model.specs.Types.Trees.{CxxType, CxxTypes, function_of}

-- by what such functions are told apart
pub record CxxSignature : Type 0 where
  pub name : CxxName
  pub parameters : CxxTypes
  pub ellipsis : Bool
  pub cv : Cv

abbrev pub signature_with : CxxName → CxxType → Option CxxSignature
signature_with name (function_of result parameters ellipsis cv) = Some (record { name = name; parameters = parameters; ellipsis = ellipsis; cv = cv })
signature_with name _ = None

-- functions of classes that are no constructors and no destructors
abbrev pub is_named_kind : MemberKind → Bool
is_named_kind Nonstatic = true
is_named_kind Static = true
is_named_kind Conversion = true
is_named_kind _ = false

abbrev pub has_signature : MemberKind → FunctionFlags → Bool
has_signature kind flags = is_named_kind kind && not flags.is_implicit

abbrev pub signature_if : CxxName → CxxType → Bool → Option CxxSignature
signature_if name of true = signature_with name of
signature_if name of false = None

abbrev pub signature_by : CxxName → Declares → Option CxxSignature
signature_by name (facts.function of kind flags defaults first) = signature_if name of (has_signature kind flags)
signature_by name _ = None

-- that of a declaration, where it may have the number of another one
abbrev pub signature_of : Option CxxFact → Option CxxSignature
signature_of None = None
signature_of (Some fact) = signature_by fact.name fact.what

abbrev pub same_signature : CxxSignature → CxxSignature → Bool
same_signature one two = same_name one.name two.name && (same_types one.parameters two.parameters && (same_bool one.ellipsis two.ellipsis && same_cv one.cv two.cv))

abbrev pub has_same : CxxSignature → Option CxxSignature → Bool
has_same one None = false
has_same one (Some two) = same_signature one two

-- the first of some declarations, from a number on, that has a signature; if there is none, another one
abbrev pub first_with : CxxSignature → ℕ → ℕ → List CxxFact → ℕ
first_with signature other number [] = other
first_with signature other number (fact ∷ facts) = if has_same signature (signature_of (Some fact)) then number else first_with signature other (suc number) facts

abbrev pub first_signed : List CxxFact → ℕ → Option CxxSignature → ℕ
first_signed all number None = number
first_signed all number (Some signature) = first_with signature number zero all

-- The declaration whose number a declaration has: the first one with its signature, and itself where it has none.
abbrev pub representative : List CxxFact → ℕ → ℕ
representative all number = first_signed all number (signature_of (slice_get all number))
