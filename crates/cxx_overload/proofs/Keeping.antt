-- How the sequences that are kept are gathered.
use Rattle.std.proofs.Common.{◌≡◌, ℕ, ◌<◌, Option, Some, None, IfSome, ◌∙◌, subst, List, [], ◌∷◌, ◌++◌, refl, sym, ap, append_assoc}
use Rattle.std.proofs.lemmas.List.{append-nil}
use Rattle.std.specs.List.{cons_option}
use Rattle.std.specs.Option.{option_map}
use Rattle.cxx_model.specs.declared.sequence.Operand.{Operand}
use Rattle.cxx_model.specs.declared.types.TypeId.{TypeId}
use Rattle.cxx_model.specs.Types.Numbers.{type_at, AreTypesBelow}
use Rattle.cxx_model.specs.Types.Trees.{CxxType}
use Rattle.cxx_meaning.specs.Conversions.Standard.{CxxStandard}
use Rattle.cxx_overload.specs.Calls.{standards}
use Rattle.cxx_overload.specs.Kept.{standard_of}
use Rattle.cxx_overload.specs.Sequences.{CxxSequence, by_standard, by_ellipsis, no_sequence}
use Rattle.cxx_overload.specs.declared.conversion.Conversion.{Conversion}
use Rattle.cxx_overload.specs.declared.conversion.Conversion.TheVariants as conversion
use Rattle.cxx_overload.specs.Views.{listed_at, sequence_at, with_option}

pub standards_first : (found : List CxxStandard) (one : CxxSequence) (others : List CxxSequence) → found ++ standards (one ∷ others) ≡ (found ++ standard_of one) ++ standards others
standards_first found (by_standard one) others = sym (append_assoc found (one ∷ []) (standards others))
standards_first found by_ellipsis others = ap (λ xs. xs ++ standards others) (sym (append-nil found))
standards_first found no_sequence others = ap (λ xs. xs ++ standards others) (sym (append-nil found))

-- how the object is converted is told by its own parameter alone
pub first_parameter : (types : List CxxType) (operand : Operand) (one : Conversion) (parameter : TypeId) (others : List TypeId) → sequence_at types operand one (parameter ∷ others) ≡ sequence_at types operand one (parameter ∷ [])
first_parameter types operand (conversion.Standard steps) parameter others = refl
first_parameter types operand conversion.Ellipsis parameter others = refl
first_parameter types operand conversion.Missing parameter others = refl

-- ---- parameters

pub met_listed : (types : List CxxType) (o : Option TypeId) (found parameters : List TypeId) (meant : Option CxxType) → option_map (λ (number : TypeId). type_at types number.0) o ≡ meant → found ≡ with_option [] o ++ parameters → listed_at types found ≡ cons_option meant (listed_at types parameters)
met_listed types None found parameters meant is grows = ap (listed_at types) grows ∙ ap (λ m. cons_option m (listed_at types parameters)) is
met_listed types (Some number) found parameters meant is grows = ap (listed_at types) grows ∙ ap (λ m. cons_option m (listed_at types parameters)) is

pub met_below : (count : ℕ) (o : Option TypeId) (found parameters : List TypeId) → IfSome o (λ number. number.0 < count) → AreTypesBelow count parameters → found ≡ with_option [] o ++ parameters → AreTypesBelow count found
met_below count None found parameters below all grows = subst (AreTypesBelow count) (sym grows) all
met_below count (Some number) found parameters below all grows = subst (AreTypesBelow count) (sym grows) (below, all)
