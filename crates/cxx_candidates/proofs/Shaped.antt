-- Candidates, given what the operands may become.
use Rattle.std.specs.Prelude.{ℕ, ◌≡◌, List, [], ◌++◌, filter, map, length}
use Rattle.std.proofs.Common.{ap, ◌∙◌}
use Rattle.std.proofs.lemmas.List.Elements.{All-nil, All-same}
use Rattle.cxx_model.specs.Facts.Graph.{Graph}
use Rattle.cxx_model.specs.Types.Trees.{CxxType, enumeration, pointer_to}
use Rattle.cxx_meaning.specs.Conversions.Kinds.{is_function}
use Rattle.cxx_candidates.specs.declared.shapes.Shape.{Shape}
use Rattle.cxx_candidates.specs.Candidates.{CxxLetters}
use Rattle.cxx_candidates.specs.Shapes.{shapes_at, Adds, AreShaped, IsShapeKnown}
use Rattle.cxx_candidates.specs.Sources.{is_object, letters_of}

pub begun : (graph : Graph) (types : List CxxType) (old new : List Shape) (meaning : List (List CxxType)) → old ≡ [] → Adds graph types old new meaning → AreShaped graph types new meaning
begun graph types old new meaning none adds = record {
  is = adds.is ∙ ap (λ ss. shapes_at types ss ++ meaning) none;
  known = adds.known (All-same (IsShapeKnown graph (length types)) old [] none (All-nil (IsShapeKnown graph (length types))));
}

pub letters_are : (letters : CxxLetters) (ts objects functions : List CxxType) (ns : List ℕ) → objects ≡ filter is_object ts → functions ≡ filter is_function ts → letters.pointers ≡ map pointer_to ts → letters.objects ≡ map pointer_to objects → letters.functions ≡ map pointer_to functions → letters.enumerations ≡ map enumeration ns → letters ≡ letters_of ts ns
letters_are letters ts objects functions ns o f p q g e =
    ap (λ (x : List CxxType). let l : CxxLetters = record { pointers = x; objects = letters.objects; functions = letters.functions; enumerations = letters.enumerations } in l) p ∙
    ap (λ (x : List CxxType). let l : CxxLetters = record { pointers = map pointer_to ts; objects = x; functions = letters.functions; enumerations = letters.enumerations } in l) (q ∙ ap (map pointer_to) o) ∙
    ap (λ (x : List CxxType). let l : CxxLetters = record { pointers = map pointer_to ts; objects = map pointer_to (filter is_object ts); functions = x; enumerations = letters.enumerations } in l) (g ∙ ap (map pointer_to) f) ∙
    ap (λ (x : List CxxType). let l : CxxLetters = record { pointers = map pointer_to ts; objects = map pointer_to (filter is_object ts); functions = map pointer_to (filter is_function ts); enumerations = x } in l) e
