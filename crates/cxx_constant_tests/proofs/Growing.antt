-- Tables of types that grow.
use Rattle.std.specs.Prelude.{ℕ, ◌<◌, ◌≤◌, List, length, Ok}
use Rattle.std.proofs.Common.{sym, subst, arith}
use Rattle.cxx_model.specs.declared.types.Formula.{Formula, Value, Parameter, Member, SizeOf, Cast', Unary', Binary', Conditional'}
use Rattle.cxx_model.specs.declared.types.TypeId.{TypeId}
use Rattle.cxx_model.specs.Facts.Declarations.{facts_at, graph_at}
use Rattle.cxx_model.specs.Facts.Graph.{IsTypeInRange}
use Rattle.cxx_model.specs.Types.Numbers.{IsFormulaBelow}
use Rattle.cxx_model.specs.Types.Trees.{CxxType}
use Rattle.cxx_types.specs.Makes.{Makes}
use Rattle.cxx_builtin.proofs.Drawing.{fitted_later}
use Rattle.cxx_sizes.specs.Noted.{Notes}
use Rattle.cxx_constant_tests.specs.declared.unit.Unit.{Unit}
use Rattle.cxx_constant_tests.specs.Units.{IsUnit}

pub typed : (unit : Unit) (new : List CxxType) (number : TypeId) (t : CxxType) (count : ℕ) → IsUnit unit → Makes unit.types new (Ok number) t → IsTypeInRange unit.graph t → ((n : ℕ) → unit.known ≤ n → number.0 < n → count ≤ n) → IsUnit (record unit { types = new; known = count })
typed unit new number t count whole makes ok raised = record {
  fitted = fitted_later unit.graph unit.types new (Ok number) t whole.fitted ok makes;
  empty = whole.empty;
  noted = whole.noted;
  known = raised (length new) (let a : unit.known ≤ length unit.types = whole.known in let b : length unit.types ≤ length new = makes.keeps.grows in omega arith) makes.made.0;
}

pub formula_later : (few many : ℕ) (f : Formula) → IsFormulaBelow few f → few ≤ many → IsFormulaBelow many f
formula_later few many (Value value of) h le = omega arith
formula_later few many (Parameter depth index) h le = tt
formula_later few many (Member of word) h le = omega arith
formula_later few many (SizeOf of) h le = omega arith
formula_later few many (Cast' of p f) h le = ((let k : of.0 < few = h.0 in omega arith), formula_later few many f h.1 le)
formula_later few many (Unary' operator p f) h le = formula_later few many f h le
formula_later few many (Binary' operator p f q g) h le = (formula_later few many f h.0 le, formula_later few many g h.1 le)
formula_later few many (Conditional' p f q g r k) h le = (formula_later few many f h.0 le, formula_later few many g h.1 le, formula_later few many k h.2 le)

pub noted_there : (unit : Unit) → IsUnit unit → Notes unit.layouts (graph_at unit.types unit.graph).facts
noted_there unit whole = subst (λ fs. Notes unit.layouts (facts_at unit.types fs)) (sym whole.empty) whole.noted
