-- Shapes that were added, seen as lists of types.
use Rattle.std.specs.Prelude.{ℕ, ◌≡◌, List, [], ◌∷◌, ◌++◌, length, map, Option, Some, refl}
use Rattle.std.proofs.Common.{ap, sym, subst, ◌∙◌}
use Rattle.std.proofs.lemmas.List.{map-append}
use Rattle.std.proofs.lemmas.List.Elements.{All-append, All-cons, All-head, All-nil, All-tail}
use Rattle.std.specs.List.{All, flat_map}
use Rattle.cxx_model.specs.Facts.Graph.{Graph}
use Rattle.cxx_model.specs.Types.Trees.{CxxType, reference_to, with_cv}
use Rattle.cxx_candidates.specs.declared.shapes.Form.TheVariants as form
use Rattle.cxx_candidates.specs.declared.shapes.Shape.{Shape}
use Rattle.cxx_candidates.specs.declared.shapes.Slot.{Slot}
use Rattle.cxx_candidates.specs.Candidates as definition
use Rattle.cxx_candidates.specs.Candidates.{volatile}
use Rattle.cxx_candidates.specs.Rows as rows
use Rattle.cxx_candidates.specs.Shapes.{slot_at, slots_at, second_at, shape_at, shapes_at, Adds, AreShapesKnown, AreSlotsKnown, IsSecondKnown, IsShapeKnown, IsSlotKnown}

one_more : (graph : Graph) (count : ℕ) (one : Shape) (others : List Shape) → IsShapeKnown graph count one → AreShapesKnown graph count others → AreShapesKnown graph count (one ∷ others)
one_more graph count one others h k = All-cons (IsShapeKnown graph count) one others h k

-- what is added to a list of shapes, seen
pub added : (graph : Graph) (types : List CxxType) (old new more : List Shape) (meaning : List (List CxxType)) → new ≡ old ++ more → shapes_at types more ≡ meaning → AreShapesKnown graph (length types) more → Adds graph types old new meaning
added graph types old new more meaning e is known = record {
  is = ap (shapes_at types) e ∙ map-append (shape_at types) old more ∙ ap (λ ms. shapes_at types old ++ ms) is;
  known = λ before. subst (AreShapesKnown graph (length types)) (sym e) (All-append (IsShapeKnown graph (length types)) old more before known);
}

-- ---- one parameter

alone_at : (types : List CxxType) (slots : List Slot) → shapes_at types (map rows.alone slots) ≡ definition.alone (slots_at types slots)
alone_at types [] = refl
alone_at types (x ∷ xs) = ap (λ rest. (slot_at types x ∷ []) ∷ rest) (alone_at types xs)

alone_known : (graph : Graph) (count : ℕ) (slots : List Slot) → AreSlotsKnown graph count slots → AreShapesKnown graph count (map rows.alone slots)
alone_known graph count [] h = All-nil (IsShapeKnown graph count)
alone_known graph count (x ∷ xs) h = one_more graph count (rows.alone x) (map rows.alone xs) (record { first = All-head (IsSlotKnown graph count) x xs h; second = tt }) (alone_known graph count xs (All-tail (IsSlotKnown graph count) x xs h))

pub adds_alone : (graph : Graph) (types : List CxxType) (old new : List Shape) (slots : List Slot) → new ≡ old ++ map rows.alone slots → AreSlotsKnown graph (length types) slots → Adds graph types old new (definition.alone (slots_at types slots))
adds_alone graph types old new slots e h = added graph types old new (map rows.alone slots) (definition.alone (slots_at types slots)) e (alone_at types slots) (alone_known graph (length types) slots h)

-- ---- two of one type

twice_at : (types : List CxxType) (slots : List Slot) → shapes_at types (map rows.twice slots) ≡ definition.twice (slots_at types slots)
twice_at types [] = refl
twice_at types (x ∷ xs) = ap (λ rest. (slot_at types x ∷ slot_at types x ∷ []) ∷ rest) (twice_at types xs)

twice_known : (graph : Graph) (count : ℕ) (slots : List Slot) → AreSlotsKnown graph count slots → AreShapesKnown graph count (map rows.twice slots)
twice_known graph count [] h = All-nil (IsShapeKnown graph count)
twice_known graph count (x ∷ xs) h = one_more graph count (rows.twice x) (map rows.twice xs) (record { first = All-head (IsSlotKnown graph count) x xs h; second = All-head (IsSlotKnown graph count) x xs h }) (twice_known graph count xs (All-tail (IsSlotKnown graph count) x xs h))

pub adds_twice : (graph : Graph) (types : List CxxType) (old new : List Shape) (slots : List Slot) → new ≡ old ++ map rows.twice slots → AreSlotsKnown graph (length types) slots → Adds graph types old new (definition.twice (slots_at types slots))
adds_twice graph types old new slots e h = added graph types old new (map rows.twice slots) (definition.twice (slots_at types slots)) e (twice_at types slots) (twice_known graph (length types) slots h)

-- ---- two parameters

beside_at : (types : List CxxType) (others : List Slot) (one : Slot) → shapes_at types (rows.beside others one) ≡ definition.beside (slots_at types others) (slot_at types one)
beside_at types [] one = refl
beside_at types (x ∷ xs) one = ap (λ rest. (slot_at types one ∷ slot_at types x ∷ []) ∷ rest) (beside_at types xs one)

beside_known : (graph : Graph) (count : ℕ) (others : List Slot) (one : Slot) → AreSlotsKnown graph count others → IsSlotKnown graph count one → AreShapesKnown graph count (rows.beside others one)
beside_known graph count [] one h k = All-nil (IsShapeKnown graph count)
beside_known graph count (x ∷ xs) one h k = one_more graph count (rows.shape form.Value one (Some x)) (rows.beside xs one) (record { first = k; second = All-head (IsSlotKnown graph count) x xs h }) (beside_known graph count xs one (All-tail (IsSlotKnown graph count) x xs h) k)

-- pieces, one for each slot
pieces_at : (types : List CxxType) (row : Slot → List Shape) (meant : CxxType → List (List CxxType)) → ((one : Slot) → shapes_at types (row one) ≡ meant (slot_at types one)) → (slots : List Slot) → shapes_at types (flat_map row slots) ≡ flat_map meant (slots_at types slots)
pieces_at types row meant each [] = refl
pieces_at types row meant each (x ∷ xs) =
    map-append (shape_at types) (row x) (flat_map row xs) ∙ ap (λ first. first ++ shapes_at types (flat_map row xs)) (each x) ∙ ap (λ rest. meant (slot_at types x) ++ rest) (pieces_at types row meant each xs)

pieces_known : (graph : Graph) (count : ℕ) (row : Slot → List Shape) → ((one : Slot) → IsSlotKnown graph count one → AreShapesKnown graph count (row one)) → (slots : List Slot) → AreSlotsKnown graph count slots → AreShapesKnown graph count (flat_map row slots)
pieces_known graph count row each [] h = All-nil (IsShapeKnown graph count)
pieces_known graph count row each (x ∷ xs) h = All-append (IsShapeKnown graph count) (row x) (flat_map row xs) (each x (All-head (IsSlotKnown graph count) x xs h)) (pieces_known graph count row each xs (All-tail (IsSlotKnown graph count) x xs h))

pub adds_both : (graph : Graph) (types : List CxxType) (old new : List Shape) (firsts others : List Slot) → new ≡ old ++ flat_map (rows.beside others) firsts → AreSlotsKnown graph (length types) firsts → AreSlotsKnown graph (length types) others → Adds graph types old new (definition.both (slots_at types firsts) (slots_at types others))
adds_both graph types old new firsts others e h k =
    added graph types old new (flat_map (rows.beside others) firsts) (definition.both (slots_at types firsts) (slots_at types others)) e
    (pieces_at types (rows.beside others) (definition.beside (slots_at types others)) (beside_at types others) firsts)
    (pieces_known graph (length types) (rows.beside others) (λ one known. beside_known graph (length types) others one k known) firsts h)

-- ---- what changes an object

changing_at : (types : List CxxType) (other : Option Slot) (one : Slot) → shapes_at types (rows.changing other one) ≡ definition.changing (second_at types other) (slot_at types one)
changing_at types other one = refl

changing_known : (graph : Graph) (count : ℕ) (other : Option Slot) (one : Slot) → IsSecondKnown graph count other → IsSlotKnown graph count one → AreShapesKnown graph count (rows.changing other one)
changing_known graph count other one h k = one_more graph count (rows.shape form.Reference one other) (rows.shape form.VolatileReference one other ∷ []) (record { first = k; second = h }) (one_more graph count (rows.shape form.VolatileReference one other) [] (record { first = k; second = h }) (All-nil (IsShapeKnown graph count)))

pub adds_changing_alone : (graph : Graph) (types : List CxxType) (old new : List Shape) (other : Option Slot) (firsts : List Slot) → new ≡ old ++ flat_map (rows.changing other) firsts → IsSecondKnown graph (length types) other → AreSlotsKnown graph (length types) firsts → Adds graph types old new (definition.changing_alone (second_at types other) (slots_at types firsts))
adds_changing_alone graph types old new other firsts e h k =
    added graph types old new (flat_map (rows.changing other) firsts) (definition.changing_alone (second_at types other) (slots_at types firsts)) e
    (pieces_at types (rows.changing other) (definition.changing (second_at types other)) (changing_at types other) firsts)
    (pieces_known graph (length types) (rows.changing other) (λ one known. changing_known graph (length types) other one h known) firsts k)

changing_same_at : (types : List CxxType) (one : Slot) → shapes_at types (rows.changing_same one) ≡ definition.changing (slot_at types one ∷ []) (slot_at types one)
changing_same_at types one = refl

pub adds_changing_same : (graph : Graph) (types : List CxxType) (old new : List Shape) (slots : List Slot) → new ≡ old ++ flat_map rows.changing_same slots → AreSlotsKnown graph (length types) slots → Adds graph types old new (definition.changing_same (slots_at types slots))
adds_changing_same graph types old new slots e h =
    added graph types old new (flat_map rows.changing_same slots) (definition.changing_same (slots_at types slots)) e
    (pieces_at types rows.changing_same (λ t. definition.changing (t ∷ []) t) (changing_same_at types) slots)
    (pieces_known graph (length types) rows.changing_same (λ one known. changing_known graph (length types) (Some one) one known known) slots h)

changing_beside_at : (types : List CxxType) (others : List Slot) (one : Slot) → shapes_at types (rows.changing_beside others one) ≡ definition.changing_beside (slots_at types others) (slot_at types one)
changing_beside_at types [] one = refl
changing_beside_at types (x ∷ xs) one = ap (λ rest. (reference_to (slot_at types one) ∷ slot_at types x ∷ []) ∷ (reference_to (with_cv volatile (slot_at types one)) ∷ slot_at types x ∷ []) ∷ rest) (changing_beside_at types xs one)

changing_beside_known : (graph : Graph) (count : ℕ) (others : List Slot) (one : Slot) → AreSlotsKnown graph count others → IsSlotKnown graph count one → AreShapesKnown graph count (rows.changing_beside others one)
changing_beside_known graph count others one h k = pieces_known graph count (λ other. rows.changing (Some other) one) (λ other known. changing_known graph count (Some other) one known k) others h

pub adds_changing_both : (graph : Graph) (types : List CxxType) (old new : List Shape) (firsts others : List Slot) → new ≡ old ++ flat_map (rows.changing_beside others) firsts → AreSlotsKnown graph (length types) firsts → AreSlotsKnown graph (length types) others → Adds graph types old new (definition.changing_both (slots_at types firsts) (slots_at types others))
adds_changing_both graph types old new firsts others e h k =
    added graph types old new (flat_map (rows.changing_beside others) firsts) (definition.changing_both (slots_at types firsts) (slots_at types others)) e
    (pieces_at types (rows.changing_beside others) (definition.changing_beside (slots_at types others)) (changing_beside_at types others) firsts)
    (pieces_known graph (length types) (rows.changing_beside others) (λ one known. changing_beside_known graph (length types) others one k known) firsts h)
