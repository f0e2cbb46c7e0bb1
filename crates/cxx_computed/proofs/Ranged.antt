-- The types of constants are there.
use Rattle.std.proofs.Common.{ℕ, ◌≡◌, nat_eq, Bool, true, false, List, Option, Some, None, sym, subst, if◌then◌else◌}
use Rattle.cxx_model.specs.declared.base.Base.{Base}
use Rattle.cxx_model.specs.declared.base.Base.TheVariants as base
use Rattle.cxx_model.specs.declared.punct.TheConstants as punct
use Rattle.cxx_model.specs.Facts.Declarations.{CxxGraph}
use Rattle.cxx_model.specs.Facts.Graph.{Graph}
use Rattle.cxx_model.specs.Types.Trees.{CxxType}
use Rattle.cxx_meaning.specs.Conversions.Arithmetic.{integral_promoted, usual}
use Rattle.cxx_meaning.specs.Conversions.Kinds.{CxxKind}
use Rattle.cxx_computed.specs.declared.constants.Constant.{Constant}
use Rattle.cxx_computed.specs.declared.operators.BinaryOperator.{BinaryOperator}
use Rattle.cxx_computed.specs.Computes.{constants_at, AreConstantsInRange}
use Rattle.cxx_computed.specs.Formulas.{CxxConstant, Valued, binary_by, binary_constant, binary_operator, binary_valued, both_constant, chosen, conditional_by, conjunction, disjunction, integral_of, is_same_kind, of_base, result_type, three_constants, two_constants, usual_kind}
use Rattle.cxx_computed.specs.Values.{is_shift}
use Rattle.cxx_standard.specs.Views.{IsKindInRange}

abbrev Ranged : Graph → Option CxxConstant → Type 0
Ranged graph None = Unit {0}
Ranged graph (Some part) = IsKindInRange graph part.of

there : (graph : Graph) (types : List CxxType) (found : Option Constant) → Ranged graph (constants_at types found) → AreConstantsInRange graph types found
there graph types None h = tt
there graph types (Some part) h = h

back : (graph : Graph) (types : List CxxType) (found : Option Constant) → AreConstantsInRange graph types found → Ranged graph (constants_at types found)
back graph types None h = tt
back graph types (Some part) h = h

-- ---- two constants

either : (graph : Graph) (b : Bool) (one two : Base) (x y : Valued) → Ranged graph (Some (if b then of_base one x else of_base two y))
either graph true one two x y = tt
either graph false one two x y = tt

by_in : (graph : Graph) (operator : BinaryOperator) (left right : Option Base) (x y : Valued) → Ranged graph (binary_by operator left right x y)
by_in graph operator (Some left) (Some right) x y = either graph (is_shift operator) (integral_promoted left) (result_type operator (usual left right)) (binary_valued operator (integral_promoted left) (integral_promoted right) x y) (binary_valued operator (usual left right) (usual left right) x y)
by_in graph operator (Some left) None x y = tt
by_in graph operator None right x y = tt

binary_in : (graph : Graph) (all : CxxGraph) (operator : Option BinaryOperator) (left right : CxxConstant) → Ranged graph (binary_constant all operator left right)
binary_in graph all None left right = tt
binary_in graph all (Some operator) left right = by_in graph operator (integral_of all left.of) (integral_of all right.of) left.value right.value

first_of_three : (graph : Graph) (a b : Bool) (one two : Option CxxConstant) (x y : Valued) → Ranged graph two → Ranged graph (if a then Some (of_base base.Bool x) else (if b then Some (of_base base.Bool y) else two))
first_of_three graph true b one two x y h = tt
first_of_three graph false true one two x y h = tt
first_of_three graph false false one two x y h = h

both_in : (graph : Graph) (all : CxxGraph) (number : ℕ) (left right : CxxConstant) → Ranged graph (both_constant all number left right)
both_in graph all number left right = first_of_three graph (nat_eq number punct.LOGICAL_AND) (nat_eq number punct.LOGICAL_OR) None (binary_constant all (binary_operator number) left right) (conjunction left.value right.value) (disjunction left.value right.value) (binary_in graph all (binary_operator number) left right)

two_in : (graph : Graph) (all : CxxGraph) (number : ℕ) (left right : Option CxxConstant) → Ranged graph (two_constants all number left right)
two_in graph all number (Some left) (Some right) = both_in graph all number left right
two_in graph all number (Some left) None = tt
two_in graph all number None right = tt

pub two_ranged : (graph : Graph) (types : List CxxType) (found : Option Constant) (all : CxxGraph) (number : ℕ) (left right : Option CxxConstant) → constants_at types found ≡ two_constants all number left right → AreConstantsInRange graph types found
two_ranged graph types found all number left right e = there graph types found (subst (Ranged graph) (sym e) (two_in graph all number left right))

-- ---- three constants

usual_in : (graph : Graph) (left right : Option Base) (value : Valued) → Ranged graph (conditional_by (usual_kind left right) value)
usual_in graph (Some left) (Some right) value = tt
usual_in graph (Some left) None value = tt
usual_in graph None right value = tt

kind_in : (graph : Graph) (b : Bool) (kind : CxxKind) (left right : Option Base) (value : Valued) → IsKindInRange graph kind → Ranged graph (conditional_by (if b then Some kind else usual_kind left right) value)
kind_in graph true kind left right value h = h
kind_in graph false kind left right value h = usual_in graph left right value

three_in : (graph : Graph) (all : CxxGraph) (test left right : Option CxxConstant) → Ranged graph left → Ranged graph (three_constants all test left right)
three_in graph all (Some test) (Some left) (Some right) h = kind_in graph (is_same_kind left.of right.of) left.of (integral_of all left.of) (integral_of all right.of) (chosen test.value left.value right.value) h
three_in graph all (Some test) (Some left) None h = tt
three_in graph all (Some test) None right h = tt
three_in graph all None left right h = tt

pub three_ranged : (graph : Graph) (types : List CxxType) (found left : Option Constant) (all : CxxGraph) (test right : Option CxxConstant) → AreConstantsInRange graph types left → constants_at types found ≡ three_constants all test (constants_at types left) right → AreConstantsInRange graph types found
three_ranged graph types found left all test right h e = there graph types found (subst (Ranged graph) (sym e) (three_in graph all test (constants_at types left) right (back graph types left h)))
