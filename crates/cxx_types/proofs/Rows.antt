-- The parameters in a tree of a function, as a list.
use Rattle.std.specs.Prelude.{ℕ, zero, suc, ◌≡◌, ◌<◌, ◌≤◌, ◌+◌, List, [], ◌∷◌, length, Box, refl}
use Rattle.std.proofs.Common.{subst, sym, ap, ◌∙◌, get_or, arith}
use Rattle.std.specs.declared.alloc.Global.{Global}
use mathlib.Core.Former.{Count}
use Rattle.cxx_model.specs.declared.types.Signature.{Signature}
use Rattle.cxx_model.specs.declared.types.TypeTree as tree
use Rattle.cxx_model.specs.declared.types.TypeTree.{TypeTree, Row_of-TypeTree, items-the_row-TypeTree, items_hidden-the_row-TypeTree-0}
use Rattle.cxx_model.specs.Types.Trees.{CxxType, CxxTypes, function_of, type_then}
use Rattle.cxx_model.specs.Types.Numbers.{tree_at, row_at, IsTreeBelow, IsRowBelow}
use Rattle.cxx_types.specs.Sizes.{tree_size, row_size, trees_size}
use Rattle.cxx_types.specs.Trees.{trees_at, AreTreesBelow}

row-at : (types : List CxxType) (n : Count) (row : Row_of-TypeTree n) → row_at types row ≡ trees_at types (items-the_row-TypeTree n row)
row-at types n tree.end_of-TypeTree = refl
row-at types n (tree.more_of-TypeTree t rest) = ap (type_then (tree_at types t)) (row-at types _ rest)

from-row : (count : ℕ) (n : Count) (row : Row_of-TypeTree n) → IsRowBelow count row → AreTreesBelow count (items-the_row-TypeTree n row)
from-row count n tree.end_of-TypeTree ok = tt
from-row count n (tree.more_of-TypeTree t rest) ok = (ok.0, from-row count _ rest ok.1)

to-row : (count : ℕ) (n : Count) (row : Row_of-TypeTree n) → AreTreesBelow count (items-the_row-TypeTree n row) → IsRowBelow count row
to-row count n tree.end_of-TypeTree ok = tt
to-row count n (tree.more_of-TypeTree t rest) ok = (ok.0, to-row count _ rest ok.1)

abbrev row_of : TypeTree → (n : Count) × Row_of-TypeTree n
row_of (tree.Function' _ _ _ row _ _) = (_, row)
row_of _ = (_, tree.end_of-TypeTree)

pub function-below : (count : ℕ) (s : Box Signature Global) → IsTreeBelow count (tree.Function s) → IsTreeBelow count s.value.result × AreTreesBelow count s.value.parameters.items
function-below count s ok =
    let row = row_of (tree.Function s) in
    (ok.0, subst (AreTreesBelow count) (items_hidden-the_row-TypeTree-0 s.value.parameters) (from-row count row.0 row.1 ok.1))

pub below-function : (count : ℕ) (s : Box Signature Global) → IsTreeBelow count s.value.result → AreTreesBelow count s.value.parameters.items → IsTreeBelow count (tree.Function s)
below-function count s ok each =
    let row = row_of (tree.Function s) in
    (ok, to-row count row.0 row.1 (subst (AreTreesBelow count) (sym (items_hidden-the_row-TypeTree-0 s.value.parameters)) each))

pub function-at : (types : List CxxType) (s : Box Signature Global) → tree_at types (tree.Function s) ≡ function_of (tree_at types s.value.result) (trees_at types s.value.parameters.items) s.value.ellipsis s.value.cv
function-at types s =
    let row = row_of (tree.Function s) in
    let with : CxxTypes → CxxType = λ ts. function_of (tree_at types s.value.result) ts s.value.ellipsis s.value.cv in
    ap with (row-at types row.0 row.1 ∙ ap (trees_at types) (items_hidden-the_row-TypeTree-0 s.value.parameters))

pub trees-at-kept : (old new : List CxxType) (trees : List TypeTree) → ((t : TypeTree) → IsTreeBelow (length old) t → tree_at new t ≡ tree_at old t) → AreTreesBelow (length old) trees → trees_at new trees ≡ trees_at old trees
trees-at-kept old new [] same ok = refl
trees-at-kept old new (t ∷ ts) same ok =
    let p : tree_at new t ≡ tree_at old t = same t ok.0 in
    let q : trees_at new ts ≡ trees_at old ts = trees-at-kept old new ts same ok.1 in
    cc

pub trees-later : (old new : ℕ) (trees : List TypeTree) → ((t : TypeTree) → IsTreeBelow old t → IsTreeBelow new t) → AreTreesBelow old trees → AreTreesBelow new trees
trees-later old new [] later ok = tt
trees-later old new (t ∷ ts) later ok = (later t ok.0, trees-later old new ts later ok.1)

row-size : (n : Count) (row : Row_of-TypeTree n) → row_size row ≡ trees_size (items-the_row-TypeTree n row)
row-size n tree.end_of-TypeTree = refl
row-size n (tree.more_of-TypeTree t rest) = ap (λ k. tree_size t + 1 + k) (row-size _ rest)

pub function-size : (s : Box Signature Global) → tree_size (tree.Function s) ≡ tree_size s.value.result + trees_size s.value.parameters.items + 1
function-size s =
    let row = row_of (tree.Function s) in
    let with : ℕ → ℕ = λ k. tree_size s.value.result + k + 1 in
    ap with (row-size row.0 row.1 ∙ ap trees_size (items_hidden-the_row-TypeTree-0 s.value.parameters))

pub item-size : (trees : List TypeTree) (i : ℕ) (d : TypeTree) → i < length trees → tree_size (get_or trees i d) + 1 ≤ trees_size trees
item-size [] i d within = absurd (omega arith)
item-size (t ∷ ts) zero d within = omega arith
item-size (t ∷ ts) (suc i) d within = let e : tree_size (get_or ts i d) + 1 ≤ trees_size ts = item-size ts i d (omega arith) in omega arith
