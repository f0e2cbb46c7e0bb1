-- What a type, an argument or a tree stands for stays as a table grows.
use Rattle.std.specs.Prelude.{ℕ, ◌<◌, ◌≤◌, ◌≡◌, List, [], ◌∷◌, length, refl}
use Rattle.cxx_model.specs.declared.types.TypeId.{TypeId}
use Rattle.cxx_model.specs.declared.types.Formula.{Formula, Value, Parameter, Member, SizeOf, Cast', Unary', Binary', Conditional'}
use Rattle.cxx_model.specs.declared.types.Bound.{Bound}
use Rattle.cxx_model.specs.declared.types.Bound.TheVariants as bound
use Rattle.cxx_model.specs.declared.types.Argument.{Argument}
use Rattle.cxx_model.specs.declared.types.Argument.TheVariants as argument
use Rattle.cxx_model.specs.declared.types.TypeNode.{TypeNode}
use Rattle.cxx_model.specs.declared.types.TypeNode.TheVariants as node
use Rattle.cxx_model.specs.declared.types.TypeTree as tree
use Rattle.cxx_model.specs.declared.types.TypeTree.{TypeTree}
use Rattle.cxx_model.specs.Types.Numbers.{type_at, formula_at, bound_at, argument_at, arguments_at, types_at, type_over, tree_at, row_at, IsFormulaBelow, IsBoundBelow, IsArgumentBelow, AreArgumentsBelow, AreTypesBelow, IsNodeBelow, IsTreeBelow, IsRowBelow, Keeps}
use Rattle.std.proofs.Common.{arith}
use Rattle.cxx_model.specs.Types.Trees.{CxxType, IsNormal, IsNormalFormula, IsNormalBound, IsNormalArgument, AreNormalArguments}

pub formula_later : (old new : ℕ) (x : Formula) → old ≤ new → IsFormulaBelow old x → IsFormulaBelow new x
formula_later old new (Value value of) le ok = let below-of : of.0 < old = ok in omega arith
formula_later old new (Parameter depth index) le ok = tt
formula_later old new (Member of word) le ok = let below-of : of.0 < old = ok in omega arith
formula_later old new (SizeOf of) le ok = let below-of : of.0 < old = ok in omega arith
formula_later old new (Cast' of p f) le ok = let below-of : of.0 < old = ok.0 in (omega arith, formula_later old new f le ok.1)
formula_later old new (Unary' operator p f) le ok = formula_later old new f le ok
formula_later old new (Binary' operator p f q g) le ok = (formula_later old new f le ok.0, formula_later old new g le ok.1)
formula_later old new (Conditional' p f q g r h) le ok = (formula_later old new f le ok.0, formula_later old new g le ok.1, formula_later old new h le ok.2)

pub bound_later : (old new : ℕ) (x : Bound) → old ≤ new → IsBoundBelow old x → IsBoundBelow new x
bound_later old new bound.Unknown le ok = tt
bound_later old new (bound.Number n) le ok = tt
bound_later old new (bound.Computed f) le ok = formula_later old new f.value le ok

pub argument_later : (old new : ℕ) (x : Argument) → old ≤ new → IsArgumentBelow old x → IsArgumentBelow new x
argument_later old new (argument.OfType of) le ok = let below-of : of.0 < old = ok in omega arith
argument_later old new (argument.Value value of) le ok = let below-of : of.0 < old = ok in omega arith
argument_later old new (argument.Computed f) le ok = formula_later old new f.value le ok

pub arguments_later : (old new : ℕ) (x : List Argument) → old ≤ new → AreArgumentsBelow old x → AreArgumentsBelow new x
arguments_later old new [] le ok = tt
arguments_later old new (x ∷ others) le ok = (argument_later old new x le ok.0, arguments_later old new others le ok.1)

pub types_later : (old new : ℕ) (x : List TypeId) → old ≤ new → AreTypesBelow old x → AreTypesBelow new x
types_later old new [] le ok = tt
types_later old new (of ∷ others) le ok = let below-of : of.0 < old = ok.0 in (omega arith, types_later old new others le ok.1)

pub node_later : (old new : ℕ) (x : TypeNode) → old ≤ new → IsNodeBelow old x → IsNodeBelow new x
node_later old new (node.Plain base) le ok = tt
node_later old new (node.Class n) le ok = tt
node_later old new (node.Enum n) le ok = tt
node_later old new (node.Pointer of) le ok = let below-of : of.0 < old = ok in omega arith
node_later old new (node.Reference of) le ok = let below-of : of.0 < old = ok in omega arith
node_later old new (node.Array of b) le ok = let below-of : of.0 < old = ok.0 in (omega arith, bound_later old new b le ok.1)
node_later old new (node.Function r ts ellipsis cv) le ok = let below-r : r.0 < old = ok.0 in (omega arith, types_later old new ts le ok.1)
node_later old new (node.Qualified cv of) le ok = let below-of : of.0 < old = ok in omega arith
node_later old new (node.Parameter depth index) le ok = tt
node_later old new (node.Special n given) le ok = arguments_later old new given le ok
node_later old new (node.Nested of word) le ok = let below-of : of.0 < old = ok in omega arith

mutual
  pub tree_later : (old new : ℕ) (x : TypeTree) → old ≤ new → IsTreeBelow old x → IsTreeBelow new x
  tree_later old new (tree.Plain base) le ok = tt
  tree_later old new (tree.Class n) le ok = tt
  tree_later old new (tree.Enum n) le ok = tt
  tree_later old new (tree.Pointer' p t) le ok = tree_later old new t le ok
  tree_later old new (tree.Reference' p t) le ok = tree_later old new t le ok
  tree_later old new (tree.Array' p t b) le ok = (tree_later old new t le ok.0, bound_later old new b le ok.1)
  tree_later old new (tree.Function' p r shape ts ellipsis cv) le ok = (tree_later old new r le ok.0, row_later old new ts le ok.1)
  tree_later old new (tree.Qualified' cv p t) le ok = tree_later old new t le ok
  tree_later old new (tree.Parameter depth index) le ok = tt
  tree_later old new (tree.Special n given) le ok = arguments_later old new given le ok
  tree_later old new (tree.Nested' p t word) le ok = tree_later old new t le ok

  pub row_later : (old new : ℕ) {m : _} (x : tree.Row_of-TypeTree m) → old ≤ new → IsRowBelow old x → IsRowBelow new x
  row_later old new tree.end_of-TypeTree le ok = tt
  row_later old new (tree.more_of-TypeTree t rest) le ok = (tree_later old new t le ok.0, row_later old new rest le ok.1)

pub formula_kept : (old new : List CxxType) (x : Formula) → Keeps old new → IsFormulaBelow (length old) x → formula_at new x ≡ formula_at old x
formula_kept old new (Value value of) kept ok =
    let same-of : type_at new of.0 ≡ type_at old of.0 = kept.same of.0 ok in
    cc
formula_kept old new (Parameter depth index) kept ok = refl
formula_kept old new (Member of word) kept ok =
    let same-of : type_at new of.0 ≡ type_at old of.0 = kept.same of.0 ok in
    cc
formula_kept old new (SizeOf of) kept ok =
    let same-of : type_at new of.0 ≡ type_at old of.0 = kept.same of.0 ok in
    cc
formula_kept old new (Cast' of p f) kept ok =
    let same-of : type_at new of.0 ≡ type_at old of.0 = kept.same of.0 ok.0 in
    let same-f : formula_at new f ≡ formula_at old f = formula_kept old new f kept ok.1 in
    cc
formula_kept old new (Unary' operator p f) kept ok =
    let same-f : formula_at new f ≡ formula_at old f = formula_kept old new f kept ok in
    cc
formula_kept old new (Binary' operator p f q g) kept ok =
    let same-f : formula_at new f ≡ formula_at old f = formula_kept old new f kept ok.0 in
    let same-g : formula_at new g ≡ formula_at old g = formula_kept old new g kept ok.1 in
    cc
formula_kept old new (Conditional' p f q g r h) kept ok =
    let same-f : formula_at new f ≡ formula_at old f = formula_kept old new f kept ok.0 in
    let same-g : formula_at new g ≡ formula_at old g = formula_kept old new g kept ok.1 in
    let same-h : formula_at new h ≡ formula_at old h = formula_kept old new h kept ok.2 in
    cc

pub bound_kept : (old new : List CxxType) (x : Bound) → Keeps old new → IsBoundBelow (length old) x → bound_at new x ≡ bound_at old x
bound_kept old new bound.Unknown kept ok = refl
bound_kept old new (bound.Number n) kept ok = refl
bound_kept old new (bound.Computed f) kept ok =
    let same-f : formula_at new f.value ≡ formula_at old f.value = formula_kept old new f.value kept ok in
    cc

pub argument_kept : (old new : List CxxType) (x : Argument) → Keeps old new → IsArgumentBelow (length old) x → argument_at new x ≡ argument_at old x
argument_kept old new (argument.OfType of) kept ok =
    let same-of : type_at new of.0 ≡ type_at old of.0 = kept.same of.0 ok in
    cc
argument_kept old new (argument.Value value of) kept ok =
    let same-of : type_at new of.0 ≡ type_at old of.0 = kept.same of.0 ok in
    cc
argument_kept old new (argument.Computed f) kept ok =
    let same-f : formula_at new f.value ≡ formula_at old f.value = formula_kept old new f.value kept ok in
    cc

pub arguments_kept : (old new : List CxxType) (x : List Argument) → Keeps old new → AreArgumentsBelow (length old) x → arguments_at new x ≡ arguments_at old x
arguments_kept old new [] kept ok = refl
arguments_kept old new (x ∷ others) kept ok =
    let same-x : argument_at new x ≡ argument_at old x = argument_kept old new x kept ok.0 in
    let same-others : arguments_at new others ≡ arguments_at old others = arguments_kept old new others kept ok.1 in
    cc

pub types_kept : (old new : List CxxType) (x : List TypeId) → Keeps old new → AreTypesBelow (length old) x → types_at new x ≡ types_at old x
types_kept old new [] kept ok = refl
types_kept old new (of ∷ others) kept ok =
    let same-of : type_at new of.0 ≡ type_at old of.0 = kept.same of.0 ok.0 in
    let same-others : types_at new others ≡ types_at old others = types_kept old new others kept ok.1 in
    cc

pub node_kept : (old new : List CxxType) (x : TypeNode) → Keeps old new → IsNodeBelow (length old) x → type_over new x ≡ type_over old x
node_kept old new (node.Plain base) kept ok = refl
node_kept old new (node.Class n) kept ok = refl
node_kept old new (node.Enum n) kept ok = refl
node_kept old new (node.Pointer of) kept ok =
    let same-of : type_at new of.0 ≡ type_at old of.0 = kept.same of.0 ok in
    cc
node_kept old new (node.Reference of) kept ok =
    let same-of : type_at new of.0 ≡ type_at old of.0 = kept.same of.0 ok in
    cc
node_kept old new (node.Array of b) kept ok =
    let same-of : type_at new of.0 ≡ type_at old of.0 = kept.same of.0 ok.0 in
    let same-b : bound_at new b ≡ bound_at old b = bound_kept old new b kept ok.1 in
    cc
node_kept old new (node.Function r ts ellipsis cv) kept ok =
    let same-r : type_at new r.0 ≡ type_at old r.0 = kept.same r.0 ok.0 in
    let same-ts : types_at new ts ≡ types_at old ts = types_kept old new ts kept ok.1 in
    cc
node_kept old new (node.Qualified cv of) kept ok =
    let same-of : type_at new of.0 ≡ type_at old of.0 = kept.same of.0 ok in
    cc
node_kept old new (node.Parameter depth index) kept ok = refl
node_kept old new (node.Special n given) kept ok =
    let same-given : arguments_at new given ≡ arguments_at old given = arguments_kept old new given kept ok in
    cc
node_kept old new (node.Nested of word) kept ok =
    let same-of : type_at new of.0 ≡ type_at old of.0 = kept.same of.0 ok in
    cc

mutual
  pub tree_kept : (old new : List CxxType) (x : TypeTree) → Keeps old new → IsTreeBelow (length old) x → tree_at new x ≡ tree_at old x
  tree_kept old new (tree.Plain base) kept ok = refl
  tree_kept old new (tree.Class n) kept ok = refl
  tree_kept old new (tree.Enum n) kept ok = refl
  tree_kept old new (tree.Pointer' p t) kept ok =
      let same-t : tree_at new t ≡ tree_at old t = tree_kept old new t kept ok in
      cc
  tree_kept old new (tree.Reference' p t) kept ok =
      let same-t : tree_at new t ≡ tree_at old t = tree_kept old new t kept ok in
      cc
  tree_kept old new (tree.Array' p t b) kept ok =
      let same-t : tree_at new t ≡ tree_at old t = tree_kept old new t kept ok.0 in
      let same-b : bound_at new b ≡ bound_at old b = bound_kept old new b kept ok.1 in
      cc
  tree_kept old new (tree.Function' p r shape ts ellipsis cv) kept ok =
      let same-r : tree_at new r ≡ tree_at old r = tree_kept old new r kept ok.0 in
      let same-ts : row_at new ts ≡ row_at old ts = row_kept old new ts kept ok.1 in
      cc
  tree_kept old new (tree.Qualified' cv p t) kept ok =
      let same-t : tree_at new t ≡ tree_at old t = tree_kept old new t kept ok in
      cc
  tree_kept old new (tree.Parameter depth index) kept ok = refl
  tree_kept old new (tree.Special n given) kept ok =
      let same-given : arguments_at new given ≡ arguments_at old given = arguments_kept old new given kept ok in
      cc
  tree_kept old new (tree.Nested' p t word) kept ok =
      let same-t : tree_at new t ≡ tree_at old t = tree_kept old new t kept ok in
      cc

  pub row_kept : (old new : List CxxType) {m : _} (x : tree.Row_of-TypeTree m) → Keeps old new → IsRowBelow (length old) x → row_at new x ≡ row_at old x
  row_kept old new tree.end_of-TypeTree kept ok = refl
  row_kept old new (tree.more_of-TypeTree t rest) kept ok =
      let same-t : tree_at new t ≡ tree_at old t = tree_kept old new t kept ok.0 in
      let same-rest : row_at new rest ≡ row_at old rest = row_kept old new rest kept ok.1 in
      cc

pub Keeps-refl : (types : List CxxType) → Keeps types types
Keeps-refl types = record { grows = omega arith; same = λ i within. refl }

pub Keeps-trans : (one two three : List CxxType) → Keeps one two → Keeps two three → Keeps one three
Keeps-trans one two three p q = record {
  grows = (let a : length one ≤ length two = p.grows in let b : length two ≤ length three = q.grows in omega arith);
  same = λ i within. (let a : length one ≤ length two = p.grows in let e : type_at two i ≡ type_at one i = p.same i within in let f : type_at three i ≡ type_at two i = q.same i (omega arith) in cc);
}

-- Where each type of a list is in the one form, so is what is named in an argument or a formula.
pub formula_normal : (types : List CxxType) (x : Formula) → ((i : ℕ) → i < length types → IsNormal (type_at types i)) → IsFormulaBelow (length types) x → IsNormalFormula (formula_at types x)
formula_normal types (Value value of) each ok = each of.0 ok
formula_normal types (Parameter depth index) each ok = tt
formula_normal types (Member of word) each ok = each of.0 ok
formula_normal types (SizeOf of) each ok = each of.0 ok
formula_normal types (Cast' of p f) each ok = (each of.0 ok.0, formula_normal types f each ok.1)
formula_normal types (Unary' operator p f) each ok = formula_normal types f each ok
formula_normal types (Binary' operator p f q g) each ok = (formula_normal types f each ok.0, formula_normal types g each ok.1)
formula_normal types (Conditional' p f q g r h) each ok = (formula_normal types f each ok.0, formula_normal types g each ok.1, formula_normal types h each ok.2)

pub bound_normal : (types : List CxxType) (x : Bound) → ((i : ℕ) → i < length types → IsNormal (type_at types i)) → IsBoundBelow (length types) x → IsNormalBound (bound_at types x)
bound_normal types bound.Unknown each ok = tt
bound_normal types (bound.Number n) each ok = tt
bound_normal types (bound.Computed f) each ok = formula_normal types f.value each ok

pub argument_normal : (types : List CxxType) (x : Argument) → ((i : ℕ) → i < length types → IsNormal (type_at types i)) → IsArgumentBelow (length types) x → IsNormalArgument (argument_at types x)
argument_normal types (argument.OfType of) each ok = each of.0 ok
argument_normal types (argument.Value value of) each ok = each of.0 ok
argument_normal types (argument.Computed f) each ok = formula_normal types f.value each ok

pub arguments_normal : (types : List CxxType) (x : List Argument) → ((i : ℕ) → i < length types → IsNormal (type_at types i)) → AreArgumentsBelow (length types) x → AreNormalArguments (arguments_at types x)
arguments_normal types [] each ok = tt
arguments_normal types (x ∷ others) each ok = (argument_normal types x each ok.0, arguments_normal types others each ok.1)
