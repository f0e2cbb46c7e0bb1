-- What reading a type back makes of it.
use Rattle.std.specs.Prelude.{ℕ, zero, suc, ◌≡◌, ◌<◌, ◌+◌, Bool, List, [], ◌∷◌, ◌++◌, length, Box, refl}
use Rattle.std.proofs.Common.{ap, sym, subst, ◌∙◌, take, get_or, arith}
use Rattle.std.proofs.lemmas.List.{take_more}
use Rattle.std.specs.declared.alloc.Global.{Global}
use Rattle.cxx_model.specs.declared.types.Bound.{Bound}
use Rattle.cxx_model.specs.declared.types.Cv.{Cv}
use Rattle.cxx_model.specs.declared.types.Signature.{Signature}
use Rattle.cxx_model.specs.declared.types.TemplateId.{TemplateId}
use Rattle.cxx_model.specs.declared.types.Argument.{Argument}
use Rattle.cxx_model.specs.declared.types.TypeId.{TypeId}
use Rattle.cxx_model.specs.declared.types.TypeNode.{TypeNode}
use Rattle.cxx_model.specs.declared.types.TypeNode.TheVariants as node
use Rattle.cxx_model.specs.declared.types.TypeTree as tree
use Rattle.cxx_model.specs.declared.types.TypeTree.{TypeTree}
use Rattle.cxx_model.specs.Types.Trees.{CxxType, CxxTypes, no_types, type_then, function_of}
use Rattle.cxx_model.specs.Types.Numbers.{type_at, types_at, tree_at, type_over, IsTreeBelow, IsNodeBelow, IsBoundBelow, AreArgumentsBelow, AreTypesBelow}
use Rattle.cxx_model.proofs.TypeTrees.{bound_later, arguments_later}
use Rattle.cxx_types.specs.Trees.{trees_at, AreTreesBelow}
use Rattle.cxx_types.proofs.Rows.{function-at}

pub bound-within : (count n : ℕ) (x : TypeNode) (element : TypeId) (bound : Bound) → x ≡ node.Array element bound → n < count → IsNodeBelow n x → IsBoundBelow count bound
bound-within count n x element bound form within below =
    let parts : IsNodeBelow n (node.Array element bound) = subst (λ (y : TypeNode). IsNodeBelow n y) form below in
    bound_later n count bound (omega arith) parts.1

pub arguments-within : (count n : ℕ) (x : TypeNode) (template : TemplateId) (given list : List Argument) → x ≡ node.Special template given → list ≡ given → n < count → IsNodeBelow n x → AreArgumentsBelow count list
arguments-within count n x template given list form same within below =
    let all : AreArgumentsBelow n given = subst (λ (y : TypeNode). IsNodeBelow n y) form below in
    arguments_later n count list (omega arith) (subst (λ (given : List Argument). AreArgumentsBelow n given) (sym same) all)

pub signature-at : (types : List CxxType) (n : ℕ) (x : TypeNode) (r : TypeId) (ns : List TypeId) (ellipsis : Bool) (cv : Cv) (s : Box Signature Global) → type_over types x ≡ type_at types n → x ≡ node.Function r ns ellipsis cv → tree_at types s.value.result ≡ type_at types r.0 → trees_at types s.value.parameters.items ≡ types_at types ns → s.value.ellipsis ≡ ellipsis → s.value.cv ≡ cv → tree_at types (tree.Function s) ≡ type_at types n
signature-at types n x r ns ellipsis cv s is form p q e f =
    let whole : tree_at types (tree.Function s) ≡ function_of (tree_at types s.value.result) (trees_at types s.value.parameters.items) s.value.ellipsis s.value.cv = function-at types s in
    let made : function_of (tree_at types s.value.result) (trees_at types s.value.parameters.items) s.value.ellipsis s.value.cv ≡ function_of (type_at types r.0) (types_at types ns) ellipsis cv = cc in
    whole ∙ made ∙ sym (ap (type_over types) form) ∙ is

pub number-inside : (count : ℕ) (ns : List TypeId) (i : ℕ) (d : TypeId) → i < length ns → AreTypesBelow count ns → (get_or ns i d).0 < count
number-inside count [] i d within ok = absurd (omega arith)
number-inside count (n ∷ ns) zero d within ok = ok.0
number-inside count (n ∷ ns) (suc i) d within ok = number-inside count ns i d (omega arith) ok.1

more : CxxTypes → CxxType → CxxTypes
more no_types t = type_then t no_types
more (type_then u us) t = type_then u (more us t)

trees-more : (types : List CxxType) (ts : List TypeTree) (t : TypeTree) → trees_at types (ts ++ t ∷ []) ≡ more (trees_at types ts) (tree_at types t)
unfolding more
trees-more types [] t = refl
trees-more types (u ∷ us) t = ap (type_then (tree_at types u)) (trees-more types us t)

types-more : (types : List CxxType) (ns : List TypeId) (n : TypeId) → types_at types (ns ++ n ∷ []) ≡ more (types_at types ns) (type_at types n.0)
unfolding more
types-more types [] n = refl
types-more types (m ∷ ms) n = ap (type_then (type_at types m.0)) (types-more types ms n)

below-more : (count : ℕ) (ts : List TypeTree) (t : TypeTree) → AreTreesBelow count ts → IsTreeBelow count t → AreTreesBelow count (ts ++ t ∷ [])
below-more count [] t ok last = (last, tt)
below-more count (u ∷ us) t ok last = (ok.0, below-more count us t ok.1 last)

pub next-read : (types : List CxxType) (numbers : List TypeId) (i : ℕ) (d : TypeId) (ts all : List TypeTree) (t : TypeTree) → i < length numbers → (trees_at types ts ≡ types_at types (take i numbers)) × AreTreesBelow (length types) ts → tree_at types t ≡ type_at types (get_or numbers i d).0 → IsTreeBelow (length types) t → all ≡ ts ++ t ∷ [] → (trees_at types all ≡ types_at types (take (i + 1) numbers)) × AreTreesBelow (length types) all
next-read types numbers i d ts all t within so is below whole =
    let last : take (i + 1) numbers ≡ take i numbers ++ get_or numbers i d ∷ [] = take_more numbers i d within in
    let P : List TypeTree → Type 0 = λ (x : List TypeTree). (trees_at types x ≡ types_at types (take (i + 1) numbers)) × AreTreesBelow (length types) x in
    let made : P (ts ++ t ∷ []) = (
      trees-more types ts t ∙ ap (λ x. more x (tree_at types t)) so.0 ∙ ap (more (types_at types (take i numbers))) is ∙ sym (types-more types (take i numbers) (get_or numbers i d)) ∙ sym (ap (types_at types) last),
      below-more (length types) ts t so.1 below,
    ) in
    subst P (sym whole) made
