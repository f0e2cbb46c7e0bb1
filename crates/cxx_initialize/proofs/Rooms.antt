-- The bounds of arrays, and the room that they leave.
use Rattle.std.specs.Prelude.{ℕ, ◌≡◌, ◌<◌, true, false, List, [], ◌∷◌, length, Ok, Err, refl}
use Rattle.std.proofs.Common.{ap, sym, ◌∙◌}
use Rattle.std.proofs.lemmas.Bool.{false≢true, true≢false}
use Rattle.cxx_model.specs.declared.place.Place.{Place}
use Rattle.cxx_model.specs.declared.types.TypeId.{TypeId}
use Rattle.cxx_model.specs.Stops.{Answer}
use Rattle.cxx_model.specs.Types.Trees.{CxxBound, CxxFormula, CxxType, array_of, formula_bound, number_bound, unknown_bound}
use Rattle.cxx_reading.specs.Reads.{Asks}
use Rattle.cxx_reading.specs.State.{CxxState}
use Rattle.cxx_reading.specs.Trees.{CxxTree}
use Rattle.cxx_tree.specs.Arena.{bound_of}
use Rattle.cxx_tree.specs.Held.{Held, type_of}
use Rattle.cxx_tree.specs.Later.{Later}
use Rattle.cxx_expr.specs.Asking.{give, then_asked}
use Rattle.cxx_expr.specs.Initializing.{array_with, elements, has_room}
use Rattle.cxx_expr.proofs.Kept.{type_kept}
use Rattle.cxx_initialize.specs.Bounds.{IsArrayOf, bound_in, is_unknown_bound, room_in}

pub has_room_in : (bound : CxxBound) (count : ℕ) → has_room (bound_of (room_in bound)) count ≡ has_room bound count
has_room_in unknown_bound count = refl
has_room_in (number_bound n) count = refl
has_room_in (formula_bound f) count = refl

first_open : (place : Place) (element : CxxTree → Asks CxxState CxxTree) (f : CxxFormula) (others : List CxxTree) → ((t : CxxState) → elements place element unknown_bound others t ≡ elements place element (formula_bound f) others t) → (r : Answer (CxxTree × CxxState)) →
    then_asked r (λ first t. then_asked (elements place element unknown_bound others t) (λ rest. give (first ∷ rest))) ≡ then_asked r (λ first t. then_asked (elements place element (formula_bound f) others t) (λ rest. give (first ∷ rest)))
first_open place element f others same (Ok one) = ap (λ (r : Answer (List CxxTree × CxxState)). then_asked r (λ rest. give (one.0 ∷ rest))) (same one.1)
first_open place element f others same (Err why) = refl

-- a bound that is no number leaves as much room as none
elements_open : (place : Place) (element : CxxTree → Asks CxxState CxxTree) (f : CxxFormula) (all : List CxxTree) (s : CxxState) → elements place element unknown_bound all s ≡ elements place element (formula_bound f) all s
elements_open place element f [] s = refl
elements_open place element f (one ∷ others) s = first_open place element f others (λ t. elements_open place element f others t) (element one s)

pub elements_room : (place : Place) (element : CxxTree → Asks CxxState CxxTree) (bound : CxxBound) (all : List CxxTree) (s : CxxState) → elements place element (bound_of (room_in bound)) all s ≡ elements place element bound all s
elements_room place element unknown_bound all s = refl
elements_room place element (number_bound n) all s = refl
elements_room place element (formula_bound f) all s = elements_open place element f all s

-- ---- the type with its bound

pub bound_open : (of : CxxType) (bound : CxxBound) (count : ℕ) → is_unknown_bound bound ≡ true → array_of of (number_bound count) ≡ array_with of bound count
bound_open of unknown_bound count none = refl
bound_open of (number_bound n) count none = absurd (false≢true none)
bound_open of (formula_bound f) count none = absurd (false≢true none)

pub bound_known : (whole of : CxxType) (bound : CxxBound) (count : ℕ) → is_unknown_bound bound ≡ false → whole ≡ array_of of bound → whole ≡ array_with of bound count
bound_known whole of unknown_bound count known is = absurd (true≢false known)
bound_known whole of (number_bound n) count known is = is
bound_known whole of (formula_bound f) count known is = is

pub array_kept : (old new : Held) (of element : TypeId) → Later old new → of.0 < length old.types → element.0 < length old.types → IsArrayOf old of element → IsArrayOf new of element
array_kept old new of element later known inner is =
    let whole : type_of new of ≡ type_of old of = type_kept old new of later known in
    let part : type_of new element ≡ type_of old element = type_kept old new element later inner in
    whole ∙ is ∙ ap (λ t. array_of t (bound_in (type_of old of))) (sym part) ∙ ap (λ t. array_of (type_of new element) (bound_in t)) (sym whole)
