-- What a type in range tells of the types that it was made from.
use Rattle.std.specs.Prelude.{Bool, true, false, if◌then◌else◌, List, [], ◌∷◌, length}
use Rattle.std.proofs.Common.{subst, sym}
use Rattle.cxx_model.specs.declared.types.Bound.{Bound}
use Rattle.cxx_model.specs.declared.types.Bound.TheVariants as bound
use Rattle.cxx_model.specs.declared.types.Cv.{Cv}
use Rattle.cxx_model.specs.declared.types.Formula.{Formula, Value, Parameter, Member, SizeOf, Cast', Unary', Binary', Conditional'}
use Rattle.cxx_model.specs.declared.types.TypeTree as tree
use Rattle.cxx_model.specs.declared.types.TypeTree.{TypeTree}
use Rattle.cxx_model.specs.Facts.Graph.{Graph, IsTypeInRange, AreTypesInRange, IsBoundInRange, IsFormulaInRange}
use Rattle.cxx_model.specs.Types.Trees.{CxxType, fundamental, class_type, enumeration, pointer_to, reference_to, array_of, function_of, qualified, type_parameter, specialisation, nested_in, CxxBound, any_cv, merged, layered, with_cv, adjusted, normal, normal_parameters}
use Rattle.cxx_model.specs.Types.Numbers.{tree_at, bound_at, formula_at, IsBoundBelow, IsFormulaBelow, IsTreeBelow}
use Rattle.cxx_types.proofs.TypeForm.{normal_bound_fixed}
use Rattle.cxx_model.proofs.TypeTrees.{bound_normal}
use Rattle.cxx_types.specs.Makes.{AreInRange}
use Rattle.cxx_types.specs.Parameters.{normal_types}
use Rattle.cxx_types.specs.Table.{AreNormal}
use Rattle.cxx_types.specs.Trees.{trees_at, AreTreesBelow}

layered-range : (graph : Graph) (cv : Cv) (t : CxxType) → IsTypeInRange graph (layered cv t) → IsTypeInRange graph t
layered-range graph cv t = by (any_cv cv)
  where
    by : (b : Bool) → IsTypeInRange graph (if b then qualified cv t else t) → IsTypeInRange graph t
    by true ok = ok
    by false ok = ok

-- 3.9.3: cv names nothing
pub with-cv-range : (graph : Graph) (cv : Cv) (t : CxxType) → IsTypeInRange graph (with_cv cv t) → IsTypeInRange graph t
with-cv-range graph cv (fundamental base) ok = tt
with-cv-range graph cv (class_type n) ok = layered-range graph cv (class_type n) ok
with-cv-range graph cv (enumeration n) ok = layered-range graph cv (enumeration n) ok
with-cv-range graph cv (pointer_to t) ok = layered-range graph cv (pointer_to t) ok
with-cv-range graph cv (reference_to t) ok = ok
with-cv-range graph cv (array_of t b) ok = (with-cv-range graph cv t ok.0, ok.1)
with-cv-range graph cv (function_of r ts ellipsis own) ok = ok
with-cv-range graph cv (qualified own t) ok = layered-range graph (merged cv own) t ok
with-cv-range graph cv (type_parameter depth index) ok = tt
with-cv-range graph cv (specialisation n given) ok = layered-range graph cv (specialisation n given) ok
with-cv-range graph cv (nested_in t word) ok = layered-range graph cv (nested_in t word) ok

-- 8.3.5: the bound of an array, which is all that a parameter loses, is in range
abbrev IsTopInRange : Graph → CxxType → Type 0
IsTopInRange graph (array_of t b) = IsBoundInRange graph b
IsTopInRange graph (qualified own t) = IsTopInRange graph t
IsTopInRange graph _ = Unit {0}

adjusted-range : (graph : Graph) (t : CxxType) → IsTypeInRange graph (adjusted t) → IsTopInRange graph t → IsTypeInRange graph t
adjusted-range graph (fundamental base) ok top = ok
adjusted-range graph (class_type n) ok top = ok
adjusted-range graph (enumeration n) ok top = ok
adjusted-range graph (pointer_to t) ok top = ok
adjusted-range graph (reference_to t) ok top = ok
adjusted-range graph (array_of t b) ok top = (ok, top)
adjusted-range graph (function_of r ts ellipsis own) ok top = ok
adjusted-range graph (qualified own t) ok top = ok
adjusted-range graph (type_parameter depth index) ok top = ok
adjusted-range graph (specialisation n given) ok top = ok
adjusted-range graph (nested_in t word) ok top = ok

layered-top : (graph : Graph) (cv : Cv) (t : CxxType) → IsTopInRange graph t → IsTopInRange graph (layered cv t)
layered-top graph cv t ok = by (any_cv cv)
  where
    by : (b : Bool) → IsTopInRange graph (if b then qualified cv t else t)
    by true = ok
    by false = ok

with-cv-top : (graph : Graph) (cv : Cv) (t : CxxType) → IsTopInRange graph t → IsTopInRange graph (with_cv cv t)
with-cv-top graph cv (fundamental base) ok = layered-top graph cv (fundamental base) tt
with-cv-top graph cv (class_type n) ok = layered-top graph cv (class_type n) tt
with-cv-top graph cv (enumeration n) ok = layered-top graph cv (enumeration n) tt
with-cv-top graph cv (pointer_to t) ok = layered-top graph cv (pointer_to t) tt
with-cv-top graph cv (reference_to t) ok = tt
with-cv-top graph cv (array_of t b) ok = ok
with-cv-top graph cv (function_of r ts ellipsis own) ok = tt
with-cv-top graph cv (qualified own t) ok = layered-top graph (merged cv own) t ok
with-cv-top graph cv (type_parameter depth index) ok = layered-top graph cv (type_parameter depth index) tt
with-cv-top graph cv (specialisation n given) ok = layered-top graph cv (specialisation n given) tt
with-cv-top graph cv (nested_in t word) ok = layered-top graph cv (nested_in t word) tt

formula-range : (graph : Graph) (types : List CxxType) (x : Formula) → AreInRange graph types → IsFormulaBelow (length types) x → IsFormulaInRange graph (formula_at types x)
formula-range graph types (Value value of) each ok = each of.0 ok
formula-range graph types (Parameter depth index) each ok = tt
formula-range graph types (Member of word) each ok = each of.0 ok
formula-range graph types (SizeOf of) each ok = each of.0 ok
formula-range graph types (Cast' of p f) each ok = (each of.0 ok.0, formula-range graph types f each ok.1)
formula-range graph types (Unary' operator p f) each ok = formula-range graph types f each ok
formula-range graph types (Binary' operator p f q g) each ok = (formula-range graph types f each ok.0, formula-range graph types g each ok.1)
formula-range graph types (Conditional' p f q g r h) each ok = (formula-range graph types f each ok.0, formula-range graph types g each ok.1, formula-range graph types h each ok.2)

bound-range : (graph : Graph) (types : List CxxType) (x : Bound) → AreInRange graph types → IsBoundBelow (length types) x → IsBoundInRange graph (bound_at types x)
bound-range graph types bound.Unknown each ok = tt
bound-range graph types (bound.Number n) each ok = tt
bound-range graph types (bound.Computed f) each ok = formula-range graph types f.value each ok

tree-top : (graph : Graph) (types : List CxxType) (t : TypeTree) → AreInRange graph types → AreNormal types → IsTreeBelow (length types) t → IsTopInRange graph (normal (tree_at types t))
tree-top graph types (tree.Plain base) each form ok = tt
tree-top graph types (tree.Class n) each form ok = tt
tree-top graph types (tree.Enum n) each form ok = tt
tree-top graph types (tree.Pointer' p t) each form ok = tt
tree-top graph types (tree.Reference' p t) each form ok = tt
tree-top graph types (tree.Array' p t b) each form ok = subst (λ (x : CxxBound). IsBoundInRange graph x) (sym (normal_bound_fixed (bound_at types b) (bound_normal types b form ok.1))) (bound-range graph types b each ok.1)
tree-top graph types (tree.Function' p r shape ts ellipsis cv) each form ok = tt
tree-top graph types (tree.Qualified' cv p t) each form ok = with-cv-top graph cv (normal (tree_at types t)) (tree-top graph types t each form ok)
tree-top graph types (tree.Parameter depth index) each form ok = tt
tree-top graph types (tree.Special n given) each form ok = tt
tree-top graph types (tree.Nested' p t word) each form ok = tt

-- 8.3.5: what the parameters of a function type name, their trees name
pub parameters-range : (graph : Graph) (types : List CxxType) (trees : List TypeTree) → AreInRange graph types → AreNormal types → AreTreesBelow (length types) trees → AreTypesInRange graph (normal_parameters (trees_at types trees)) → AreTypesInRange graph (normal_types (trees_at types trees))
parameters-range graph types [] each form ok all = tt
parameters-range graph types (t ∷ ts) each form ok all = (adjusted-range graph (normal (tree_at types t)) all.0 (tree-top graph types t each form ok.0), parameters-range graph types ts each form ok.1 all.1)
