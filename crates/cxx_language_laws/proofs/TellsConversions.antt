-- What literals, conversions and sizes keep of the state, and what stops them.
use Rattle.std.proofs.Common.{◌≡◌, refl}
use Rattle.std.specs.Prelude.{ℕ, Bool, true, false, nat_eq, if◌then◌else◌, List, [], ◌∷◌, ◌++◌, Option, Some, None, Result, Ok, Err}
use Rattle.cxx_model.specs.declared.place.Place.{Place}
use Rattle.cxx_model.specs.Facts.Declarations.{CxxGraph}
use Rattle.cxx_model.specs.Stops.{Answer, Stopped}
use Rattle.cxx_model.specs.Types.Trees.{CxxType}
use Rattle.cxx_meaning.specs.declared.size.SizeReason.{SizeReason}
use Rattle.cxx_meaning.specs.declared.size.SizeReason.TheVariants as reason
use Rattle.cxx_meaning.specs.Conversions.Asking.{Asked}
use Rattle.cxx_meaning.specs.Conversions.Kinds.{is_array, kind_of}
use Rattle.cxx_meaning.specs.Conversions.Sizes.{referred}
use Rattle.cxx_meaning.specs.Conversions.Standard.{CxxOperand, CxxStandard, is_class}
use Rattle.cxx_reading.specs.Reads.{Ahead}
use Rattle.cxx_reading.specs.State.{CxxState}
use Rattle.cxx_reading.specs.Trees.{CxxTree}
use Rattle.cxx_reading.specs.Units.{is_incomplete}
use Rattle.cxx_subobjects.specs.declared.bases.Subobjects.{Subobjects}
use Rattle.cxx_subobjects.specs.declared.bases.Subobjects.TheVariants as base
use Rattle.cxx_subobjects.specs.Paths.{subobjects}
use Rattle.cxx_expr.specs.Bases.{base_among, classes_between, one_base, unless_several}
use Rattle.cxx_expr.specs.Converting.{by_step, by_sequence, is_constructed, sequence_to, convert_at, convert_known, stays, convert, types_after, convert_next, convert_more, convert_each, unless_fault}
use Rattle.cxx_expr.specs.Literals.{literal_by, literal, operand_of_literal}
use Rattle.cxx_expr.specs.Operands.{given_over, is_none, judged_to}
use Rattle.cxx_expr.specs.Questions.{Questions}
use Rattle.cxx_expr.specs.SizesOf.{measured, no_size_text, size_tree, size_by, size}
use Rattle.cxx_language_laws.proofs.Later.{QuietBy, quiet_answer, quiet_refusal}
use Rattle.cxx_language_laws.proofs.QuestionsTell.{QuestionsTell, quiet_by, same_by, if_by, then_by, give_by}
use Rattle.cxx_language_laws.proofs.Tells.{IsTold, Answers, saying, nothing}
use Rattle.cxx_language_laws.proofs.TellsSyntax.{quiet_if}

-- ---- literals

literal_by_tells : {kept : CxxState → CxxState → Type 0} {told : CxxState → Ahead → Stopped → Type 0} → IsTold kept told → (tree : CxxTree) (operand : Option CxxOperand) → Answers kept told (literal_by tree operand)
literal_by_tells is tree None state ahead = quiet_by is refl
literal_by_tells is tree (Some operand) state ahead = same_by is (given_over tree operand []) state ahead

pub literal_tells : {kept : CxxState → CxxState → Type 0} {told : CxxState → Ahead → Stopped → Type 0} → IsTold kept told → (tree : CxxTree) → Answers kept told (literal tree)
unfolding literal
literal_tells is tree = literal_by_tells is tree (operand_of_literal tree.label.spelling)

-- ---- conversions

-- an ambiguous base is no fault of a call or of a name
pub one_base_quiet : (graph : CxxGraph) (place : Place) (from : CxxOperand) (to : CxxType) → QuietBy (one_base graph place from to)
unfolding one_base
one_base_quiet graph place from to = by (classes_between from to)
  where
    several : (found : Subobjects) → QuietBy (unless_several place found)
    several base.None = quiet_answer tt
    several (base.One path) = quiet_answer tt
    several (base.Several one two) = quiet_refusal _ refl

    which : (same : Bool) (found : Subobjects) → QuietBy (if same then Ok tt else unless_several place found)
    which true found = quiet_answer tt
    which false found = several found

    by : (classes : Option (ℕ × ℕ)) → QuietBy (base_among graph place classes)
    by None = quiet_answer tt
    by (Some classes) = which (nat_eq classes.0 classes.1) (subobjects graph classes.0 classes.1)

unless_fault_tells : {kept : CxxState → CxxState → Type 0} {told : CxxState → Ahead → Stopped → Type 0} → IsTold kept told → {done : Answer (Unit {0})} → QuietBy done → (tree : CxxTree) → Answers kept told (unless_fault done tree)
unless_fault_tells is (quiet_answer one) tree state ahead = same_by is tree state ahead
unless_fault_tells is (quiet_refusal why quiet) tree state ahead = quiet_by is quiet

by_sequence_tells : {kept : CxxState → CxxState → Type 0} {told : CxxState → Ahead → Stopped → Type 0} → IsTold kept told → (place base_place : Place) (from : CxxOperand) (of : CxxType) (tree : CxxTree) (found : Asked (Option CxxStandard)) → Answers kept told (by_sequence place base_place from of tree found)
by_sequence_tells is place base_place from of tree (Ok (Some sequence)) state ahead = unless_fault_tells is (one_base_quiet state.graph base_place from of) (by_step of tree sequence.second) state ahead
by_sequence_tells is place base_place from of tree (Ok None) state ahead = quiet_by is refl
by_sequence_tells is place base_place from of tree (Err class) state ahead = quiet_by is refl

convert_at_tells : {kept : CxxState → CxxState → Type 0} {told : CxxState → Ahead → Stopped → Type 0} → IsTold kept told → (q : Questions) (place base_place : Place) (of : CxxType) (tree : CxxTree) → Answers kept told (convert_at q place base_place of tree)
unfolding convert_at convert_known
convert_at_tells is q place base_place of tree state ahead =
    if_by (is_incomplete state.graph of) (if_by (is_none tree.label.operand) (same_by is tree state ahead) (quiet_by is refl)) (
    if_by (is_constructed of tree) (quiet_by is refl) (
    if_by (stays of tree) (same_by is tree state ahead) (by_sequence_tells is place base_place (judged_to q of tree state) of tree (sequence_to q of tree state) state ahead)))

pub convert_tells : {kept : CxxState → CxxState → Type 0} {told : CxxState → Ahead → Stopped → Type 0} → IsTold kept told → (q : Questions) (place : Place) (of : CxxType) (tree : CxxTree) → Answers kept told (convert q place of tree)
unfolding convert
convert_tells is q place of tree = convert_at_tells is q place place of tree

convert_next_tells : {kept : CxxState → CxxState → Type 0} {told : CxxState → Ahead → Stopped → Type 0} → IsTold kept told → (q : Questions) (place : Place) (types : List CxxType) (tree : CxxTree) → Answers kept told (convert_next q place types tree)
convert_next_tells is q place [] tree = give_by is tree
convert_next_tells is q place (of ∷ types) tree = convert_at_tells is q place tree.label.start of tree

convert_more_tells : {kept : CxxState → CxxState → Type 0} {told : CxxState → Ahead → Stopped → Type 0} → IsTold kept told → (q : Questions) (place : Place) (types : List CxxType) (done : List CxxTree) (tree : CxxTree) → Answers kept told (convert_more q place types done tree)
unfolding convert_more
convert_more_tells is q place types done tree state ahead = then_by is (convert_next_tells is q place types tree state ahead) (λ next. give_by is (done ++ next ∷ []))

pub convert_each_tells : {kept : CxxState → CxxState → Type 0} {told : CxxState → Ahead → Stopped → Type 0} → IsTold kept told → (q : Questions) (place : Place) (types : List CxxType) (done trees : List CxxTree) → Answers kept told (convert_each q place types done trees)
unfolding convert_each
convert_each_tells is q place types done [] state ahead = give_by is done state ahead
convert_each_tells is q place types done (tree ∷ trees) state ahead = then_by is (convert_more_tells is q place types done tree state ahead) (λ more. convert_each_tells is q place (types_after types) more trees)

-- ---- sizes

no_size_quiet : (of : CxxType) → saying (no_size_text of) ≡ nothing
no_size_quiet of = quiet_if (is_array of) _ _ refl (quiet_if (is_class (kind_of of)) _ _ refl refl)

size_by_tells : {kept : CxxState → CxxState → Type 0} {told : CxxState → Ahead → Stopped → Type 0} → IsTold kept told → (tree : CxxTree) (of : CxxType) (found : Result ℕ SizeReason) → Answers kept told (size_by tree of found)
size_by_tells is tree of (Ok n) state ahead = give_by is (size_tree tree n) state ahead
size_by_tells is tree of (Err reason.TooLarge) state ahead = quiet_by is refl
size_by_tells is tree of (Err reason.NoSize) state ahead = quiet_by is (no_size_quiet (referred of))

pub size_tells : {kept : CxxState → CxxState → Type 0} {told : CxxState → Ahead → Stopped → Type 0} → IsTold kept told → {q : Questions} → QuestionsTell kept told q → (tree : CxxTree) → Answers kept told (size q tree)
unfolding size
size_tells is asks tree state ahead = then_by is (asks.size (measured tree state) state ahead) (size_by_tells is tree (measured tree state))
