-- What interning makes of a tree, step by step.
use Rattle.std.specs.Prelude.{IsTrue, ℕ, zero, suc, ◌≡◌, ◌<◌, ◌+◌, List, [], ◌∷◌, ◌++◌, length, Box, Result, Ok, Err, IsErr, refl}
use Rattle.std.proofs.Common.{ap, sym, subst, ◌∙◌, take, get_or, arith}
use Rattle.std.proofs.lemmas.List.{take_more}
use Rattle.std.specs.declared.alloc.Global.{Global}
use Rattle.cxx_model.specs.declared.memory.OutOfMemory.{OutOfMemory}
use Rattle.cxx_model.specs.declared.types.Bound.{Bound}
use Rattle.cxx_model.specs.declared.types.Cv.{Cv}
use Rattle.cxx_model.specs.declared.types.Signature.{Signature}
use Rattle.cxx_model.specs.declared.types.Argument.{Argument}
use Rattle.cxx_model.specs.declared.types.TemplateId.{TemplateId}
use Rattle.cxx_model.specs.declared.types.TypeId.{TypeId}
use Rattle.cxx_model.specs.declared.types.TypeTree as tree
use Rattle.cxx_model.specs.declared.types.TypeTree.{TypeTree}
use Rattle.cxx_model.specs.Types.Copies.{CopiesArguments, CopiesBound}
use Rattle.cxx_model.specs.Facts.Graph.{Graph, IsTypeInRange, AreTypesInRange}
use Rattle.cxx_model.specs.Types.Trees.{CxxArguments, CxxType, CxxTypes, no_types, type_then, array_of, function_of, specialisation, adjusted, normal, normal_arguments, normal_bound, normal_parameters, with_cv}
use Rattle.cxx_model.specs.Types.Numbers.{type_at, types_at, tree_at, arguments_at, bound_at, IsTreeBelow, AreArgumentsBelow, IsBoundBelow, Keeps}
use Rattle.cxx_types.proofs.TypeForm.{normal_arguments_fixed, normal_bound_fixed}
use Rattle.cxx_model.proofs.TypeTrees.{arguments_normal, bound_kept, bound_later, bound_normal, tree_kept, tree_later, Keeps-trans}
use Rattle.cxx_types.specs.Makes.{AreInRange, Makes, MakesEach}
use Rattle.cxx_types.specs.Parameters.{adjusted_types, normal_types}
use Rattle.cxx_model.specs.Types.Proper.{IsProper, AreTypesProper, arguments_depend}
use Rattle.cxx_types.specs.Table.{AreNormal}
use Rattle.cxx_types.specs.Trees.{trees_at, AreTreesBelow}
use Rattle.cxx_types.proofs.Making.{AreMadeSoFar, makes_same, makes_stopped, makes_then, one_more_made, with_last}
use Rattle.cxx_types.proofs.Ranges.{parameters-range, with-cv-range}
use Rattle.cxx_types.proofs.Rows.{function-below, function-at, trees-at-kept}

-- ---- an array

pub array-bound : (old mid : List CxxType) (t : TypeTree) (element : Box TypeTree Global) (bound copy : Bound) → t ≡ tree.Array element bound → IsTreeBelow (length old) t → CopiesBound bound copy → Keeps old mid → IsBoundBelow (length mid) copy
array-bound old mid t element bound copy form ok copies kept =
    let parts : IsTreeBelow (length old) (tree.Array element bound) = subst (λ (x : TypeTree). IsTreeBelow (length old) x) form ok in
    copies.below (length mid) (bound_later (length old) (length mid) bound kept.grows parts.1)

pub interned-array : (old mid new : List CxxType) (t : TypeTree) (element : Box TypeTree Global) (inner : TypeTree) (bound copy : Bound) (e : TypeId) (result : Result TypeId OutOfMemory) → t ≡ tree.Array element bound → inner ≡ element.value → IsTreeBelow (length old) t → AreNormal old → CopiesBound bound copy → Makes old mid (Ok e) (normal (tree_at old inner)) → Makes mid new result (array_of (type_at mid e.0) (bound_at mid copy)) → Makes old new result (normal (tree_at old t))
interned-array old mid new t element inner bound copy e result form same ok each copies first last =
    let parts : IsTreeBelow (length old) (tree.Array element bound) = subst (λ (x : TypeTree). IsTreeBelow (length old) x) form ok in
    let p : bound_at mid copy ≡ normal_bound (bound_at old bound) = copies.at mid ∙ bound_kept old mid bound first.keeps parts.1 ∙ sym (normal_bound_fixed (bound_at old bound) (bound_normal old bound each parts.1)) in
    let made : array_of (type_at mid e.0) (bound_at mid copy) ≡ normal (tree_at old t) =
    ap (λ x. array_of x (bound_at mid copy)) (first.made.1 ∙ ap (λ x. normal (tree_at old x)) same) ∙ ap (array_of (normal (tree_at old element.value))) p ∙ sym (ap (λ x. normal (tree_at old x)) form) in
    makes_same old new result (array_of (type_at mid e.0) (bound_at mid copy)) (normal (tree_at old t)) made
    (makes_then old mid new (Ok e) result (normal (tree_at old inner)) (array_of (type_at mid e.0) (bound_at mid copy)) first last (λ graph all whole. subst (λ (x : CxxType). IsTypeInRange graph x) first.made.1 whole.0))

-- ---- cv

qualified-is : (old : List CxxType) (t : TypeTree) (cv : Cv) (of : Box TypeTree Global) (inner : TypeTree) → t ≡ tree.Qualified cv of → inner ≡ of.value → with_cv cv (normal (tree_at old inner)) ≡ normal (tree_at old t)
qualified-is old t cv of inner form same = ap (λ x. with_cv cv (normal (tree_at old x))) same ∙ sym (ap (λ x. normal (tree_at old x)) form)

qualified-range : (old : List CxxType) (t : TypeTree) (cv : Cv) (of : Box TypeTree Global) (inner : TypeTree) (graph : Graph) → t ≡ tree.Qualified cv of → inner ≡ of.value → IsTypeInRange graph (normal (tree_at old t)) → IsTypeInRange graph (normal (tree_at old inner))
qualified-range old t cv of inner graph form same whole = with-cv-range graph cv (normal (tree_at old inner)) (subst (λ (x : CxxType). IsTypeInRange graph x) (sym (qualified-is old t cv of inner form same)) whole)

pub interned-qualified : (old mid new : List CxxType) (t : TypeTree) (cv : Cv) (of : Box TypeTree Global) (inner : TypeTree) (n : TypeId) (result : Result TypeId OutOfMemory) → t ≡ tree.Qualified cv of → inner ≡ of.value → Makes old mid (Ok n) (normal (tree_at old inner)) → Makes mid new result (with_cv cv (type_at mid n.0)) → Makes old new result (normal (tree_at old t))
interned-qualified old mid new t cv of inner n result form same first last =
    let made : with_cv cv (type_at mid n.0) ≡ normal (tree_at old t) = ap (with_cv cv) first.made.1 ∙ qualified-is old t cv of inner form same in
    makes_then old mid new (Ok n) result (normal (tree_at old inner)) (normal (tree_at old t)) first (makes_same mid new result (with_cv cv (type_at mid n.0)) (normal (tree_at old t)) made last)
    (λ graph all whole. qualified-range old t cv of inner graph form same whole)

pub stopped-qualified : (old mid : List CxxType) (t : TypeTree) (cv : Cv) (of : Box TypeTree Global) (inner : TypeTree) (first result : Result TypeId OutOfMemory) → t ≡ tree.Qualified cv of → inner ≡ of.value → Makes old mid first (normal (tree_at old inner)) → IsErr result → Makes old mid result (normal (tree_at old t))
stopped-qualified old mid t cv of inner first result form same step stopped =
    makes_stopped old mid first result (normal (tree_at old inner)) (normal (tree_at old t)) stopped step (λ graph all whole. qualified-range old t cv of inner graph form same whole)

-- ---- a specialisation

pub special-below : (old : List CxxType) (t : TypeTree) (template : TemplateId) (given list copies : List Argument) → t ≡ tree.Special template given → list ≡ given → IsTreeBelow (length old) t → CopiesArguments list copies → AreArgumentsBelow (length old) copies
special-below old t template given list copies form same ok copied =
    copied.below (length old) (subst (λ (xs : List Argument). AreArgumentsBelow (length old) xs) (sym same) (subst (λ (x : TypeTree). IsTreeBelow (length old) x) form ok))

pub interned-special : (old new : List CxxType) (t : TypeTree) (template : TemplateId) (given list copies : List Argument) (result : Result TypeId OutOfMemory) → t ≡ tree.Special template given → list ≡ given → IsTreeBelow (length old) t → AreNormal old → CopiesArguments list copies → Makes old new result (specialisation template.0 (arguments_at old copies)) → Makes old new result (normal (tree_at old t))
interned-special old new t template given list copies result form same ok each copied makes =
    let below : AreArgumentsBelow (length old) given = subst (λ (x : TypeTree). IsTreeBelow (length old) x) form ok in
    let are : arguments_at old copies ≡ normal_arguments (arguments_at old given) = copied.at old ∙ ap (arguments_at old) same ∙ sym (normal_arguments_fixed (arguments_at old given) (arguments_normal old given each below)) in
    makes_same old new result (specialisation template.0 (arguments_at old copies)) (normal (tree_at old t)) (ap (specialisation template.0) are ∙ sym (ap (λ x. normal (tree_at old x)) form)) makes

pub special-depends : (old : List CxxType) (t : TypeTree) (template : TemplateId) (given list copies : List Argument) → t ≡ tree.Special template given → list ≡ given → IsProper (tree_at old t) → CopiesArguments list copies → IsTrue (arguments_depend (arguments_at old copies))
special-depends old t template given list copies form same ok copied =
    let parts : IsProper (tree_at old (tree.Special template given)) = subst (λ (x : TypeTree). IsProper (tree_at old x)) form ok in
    subst (λ (a : CxxArguments). IsTrue (arguments_depend a)) (sym (copied.at old ∙ ap (arguments_at old) same)) parts.0

-- ---- a function

pub signature-proper : (types : List CxxType) (t : TypeTree) (s : Box Signature Global) (inner : Signature) → t ≡ tree.Function s → inner ≡ s.value → IsProper (tree_at types t) → IsProper (tree_at types inner.result) × AreTypesProper (trees_at types inner.parameters.items)
signature-proper types t s inner form same ok =
    let whole : IsProper (function_of (tree_at types s.value.result) (trees_at types s.value.parameters.items) s.value.ellipsis s.value.cv) =
    subst (λ (x : CxxType). IsProper x) (function-at types s) (subst (λ (x : TypeTree). IsProper (tree_at types x)) form ok) in
    subst (λ (x : Signature). IsProper (tree_at types x.result) × AreTypesProper (trees_at types x.parameters.items)) (sym same) whole

pub signature-below : (count : ℕ) (t : TypeTree) (s : Box Signature Global) (inner : Signature) → t ≡ tree.Function s → inner ≡ s.value → IsTreeBelow count t → IsTreeBelow count inner.result × AreTreesBelow count inner.parameters.items
signature-below count t s inner form same ok =
    let parts : IsTreeBelow count s.value.result × AreTreesBelow count s.value.parameters.items = function-below count s (subst (λ (x : TypeTree). IsTreeBelow count x) form ok) in
    subst (λ (x : Signature). IsTreeBelow count x.result × AreTreesBelow count x.parameters.items) (sym same) parts

pub interned-function : (old new : List CxxType) (t : TypeTree) (s : Box Signature Global) (inner : Signature) (result : Result TypeId OutOfMemory) → t ≡ tree.Function s → inner ≡ s.value → Makes old new result (function_of (normal (tree_at old inner.result)) (normal_parameters (trees_at old inner.parameters.items)) inner.ellipsis inner.cv) → Makes old new result (normal (tree_at old t))
interned-function old new t s inner result form same makes =
    makes_same old new result (function_of (normal (tree_at old inner.result)) (normal_parameters (trees_at old inner.parameters.items)) inner.ellipsis inner.cv) (normal (tree_at old t))
    (ap (λ (x : Signature). function_of (normal (tree_at old x.result)) (normal_parameters (trees_at old x.parameters.items)) x.ellipsis x.cv) same
    ∙ sym (ap normal (function-at old s))
    ∙ sym (ap (λ x. normal (tree_at old x)) form))
    makes

-- the adjusted types of the one forms
adjusted-normal : (ts : CxxTypes) → adjusted_types (normal_types ts) ≡ normal_parameters ts
adjusted-normal no_types = refl
adjusted-normal (type_then t ts) = ap (type_then (adjusted (normal t))) (adjusted-normal ts)

pub trees-now : (old now : List CxxType) (trees : List TypeTree) → Keeps old now → AreTreesBelow (length old) trees → trees_at now trees ≡ trees_at old trees
trees-now old now trees kept ok = trees-at-kept old now trees (λ t below. tree_kept old now t kept below) ok

pub made-signature : (old one two new : List CxxType) (s : Signature) (r : TypeId) (ns list : List TypeId) (items : List TypeTree) (result : Result TypeId OutOfMemory) → items ≡ s.parameters.items → list ≡ ns → AreNormal old → AreTreesBelow (length old) s.parameters.items → Makes old one (Ok r) (normal (tree_at old s.result)) → MakesEach one two (Ok ns) (normal_types (trees_at one items)) → Makes two new result (function_of (type_at two r.0) (adjusted_types (types_at two list)) s.ellipsis s.cv) → Makes old new result (function_of (normal (tree_at old s.result)) (normal_parameters (trees_at old s.parameters.items)) s.ellipsis s.cv)
made-signature old one two new s r ns list items result these same form ok first each last =
    let of : type_at two r.0 ≡ normal (tree_at old s.result) = each.keeps.same r.0 first.made.0 ∙ first.made.1 in
    let are : trees_at one items ≡ trees_at old s.parameters.items = ap (trees_at one) these ∙ trees-now old one s.parameters.items first.keeps ok in
    let parameters : adjusted_types (types_at two list) ≡ normal_parameters (trees_at old s.parameters.items) =
    ap (λ (xs : List TypeId). adjusted_types (types_at two xs)) same ∙ ap adjusted_types (each.made.1 ∙ ap normal_types are) ∙ adjusted-normal (trees_at old s.parameters.items) in
    let whole : CxxType = function_of (normal (tree_at old s.result)) (normal_parameters (trees_at old s.parameters.items)) s.ellipsis s.cv in
    let made : Makes two new result whole = makes_same two new result (function_of (type_at two r.0) (adjusted_types (types_at two list)) s.ellipsis s.cv) whole
    (ap (λ t. function_of t (adjusted_types (types_at two list)) s.ellipsis s.cv) of ∙ ap (λ ts. function_of (normal (tree_at old s.result)) ts s.ellipsis s.cv) parameters)
    last in
    record {
      keeps = Keeps-trans old one new first.keeps (Keeps-trans one two new each.keeps made.keeps);
      made = made.made;
      fits = λ graph all within.
          made.fits graph
          (each.fits graph (first.fits graph all within.0)
          (subst (λ (ts : CxxTypes). AreTypesInRange graph (normal_types ts)) (sym are) (parameters-range graph old s.parameters.items all form ok within.1)))
          within;
    }

pub stopped-signature : (old one two : List CxxType) (s : Signature) (r : TypeId) (step : Result (List TypeId) OutOfMemory) (items : List TypeTree) (result : Result TypeId OutOfMemory) → items ≡ s.parameters.items → AreNormal old → AreTreesBelow (length old) s.parameters.items → Makes old one (Ok r) (normal (tree_at old s.result)) → MakesEach one two step (normal_types (trees_at one items)) → IsErr result → Makes old two result (function_of (normal (tree_at old s.result)) (normal_parameters (trees_at old s.parameters.items)) s.ellipsis s.cv)
stopped-signature old one two s r step items (Ok number) these form ok first each stopped = absurd (cc)
stopped-signature old one two s r step items (Err fault) these form ok first each stopped =
    let are : trees_at one items ≡ trees_at old s.parameters.items = ap (trees_at one) these ∙ trees-now old one s.parameters.items first.keeps ok in
    record {
      keeps = Keeps-trans old one two first.keeps each.keeps;
      made = tt;
      fits = λ graph all within. each.fits graph (first.fits graph all within.0) (subst (λ (ts : CxxTypes). AreTypesInRange graph (normal_types ts)) (sym are) (parameters-range graph old s.parameters.items all form ok within.1));
    }

-- ---- the parameters, one after another

pub tree-inside : (count : ℕ) (trees : List TypeTree) (i : ℕ) (d : TypeTree) → i < length trees → AreTreesBelow count trees → IsTreeBelow count (get_or trees i d)
tree-inside count [] i d within ok = absurd (omega arith)
tree-inside count (t ∷ ts) zero d within ok = ok.0
tree-inside count (t ∷ ts) (suc i) d within ok = tree-inside count ts i d (omega arith) ok.1

tree-there : (count : ℕ) (trees : List TypeTree) (i : ℕ) (t : TypeTree) → i < length trees → t ≡ get_or trees i t → AreTreesBelow count trees → IsTreeBelow count t
tree-there count trees i t within is ok = subst (λ (x : TypeTree). IsTreeBelow count x) (sym is) (tree-inside count trees i t within ok)

pub item-below : (old now : List CxxType) (trees : List TypeTree) (i : ℕ) (t : TypeTree) → Keeps old now → i < length trees → t ≡ get_or trees i t → AreTreesBelow (length old) trees → IsTreeBelow (length now) t
item-below old now trees i t kept within is ok = tree_later (length old) (length now) t kept.grows (tree-there (length old) trees i t within is ok)

proper-there : (types : List CxxType) (trees : List TypeTree) (i : ℕ) (d : TypeTree) → i < length trees → AreTypesProper (trees_at types trees) → IsProper (tree_at types (get_or trees i d))
proper-there types [] i d within each = absurd (omega arith)
proper-there types (t ∷ ts) zero d within each = each.0
proper-there types (t ∷ ts) (suc i) d within each = proper-there types ts i d (omega arith) each.1

pub item-proper : (old now : List CxxType) (trees : List TypeTree) (i : ℕ) (t : TypeTree) → Keeps old now → i < length trees → t ≡ get_or trees i t → AreTreesBelow (length old) trees → AreTypesProper (trees_at old trees) → IsProper (tree_at now t)
item-proper old now trees i t kept within is ok each =
    let same : tree_at now t ≡ tree_at old t = tree_kept old now t kept (tree-there (length old) trees i t within is ok) in
    let there : IsProper (tree_at old (get_or trees i t)) = proper-there old trees i t within each in
    subst (λ (x : CxxType). IsProper x) (sym same) (subst (λ (x : TypeTree). IsProper (tree_at old x)) (sym is) there)

item-range : (graph : Graph) (types : List CxxType) (trees : List TypeTree) (i : ℕ) (d : TypeTree) → i < length trees → AreTypesInRange graph (normal_types (trees_at types trees)) → IsTypeInRange graph (normal (tree_at types (get_or trees i d)))
item-range graph types [] i d within each = absurd (omega arith)
item-range graph types (t ∷ ts) zero d within each = each.0
item-range graph types (t ∷ ts) (suc i) d within each = item-range graph types ts i d (omega arith) each.1

tree-now : (old now : List CxxType) (trees : List TypeTree) (i : ℕ) (t : TypeTree) → Keeps old now → i < length trees → t ≡ get_or trees i t → AreTreesBelow (length old) trees → normal (tree_at now t) ≡ normal (tree_at old t)
tree-now old now trees i t kept within is ok = ap normal (tree_kept old now t kept (tree-there (length old) trees i t within is ok))

pub tree-part : (old now : List CxxType) (trees : List TypeTree) (i : ℕ) (t : TypeTree) → Keeps old now → i < length trees → t ≡ get_or trees i t → AreTreesBelow (length old) trees → (graph : Graph) → AreInRange graph old → AreTypesInRange graph (normal_types (trees_at old trees)) → IsTypeInRange graph (normal (tree_at now t))
tree-part old now trees i t kept within is ok graph all each =
    subst (λ (x : CxxType). IsTypeInRange graph x) (sym (tree-now old now trees i t kept within is ok ∙ ap (λ x. normal (tree_at old x)) is)) (item-range graph old trees i t within each)

trees-last : (types : List CxxType) (trees : List TypeTree) (t : TypeTree) → normal_types (trees_at types (trees ++ t ∷ [])) ≡ with_last (normal_types (trees_at types trees)) (normal (tree_at types t))
trees-last types [] t = refl
trees-last types (u ∷ us) t = ap (type_then (normal (tree_at types u))) (trees-last types us t)

pub next-interned : (old now new : List CxxType) (trees : List TypeTree) (made all : List TypeId) (i : ℕ) (t : TypeTree) (n : TypeId) → AreMadeSoFar old now made (normal_types (trees_at old (take i trees))) (normal_types (trees_at old trees)) → i < length trees → t ≡ get_or trees i t → AreTreesBelow (length old) trees → Makes now new (Ok n) (normal (tree_at now t)) → all ≡ made ++ n ∷ [] → AreMadeSoFar old new all (normal_types (trees_at old (take (i + 1) trees))) (normal_types (trees_at old trees))
next-interned old now new trees made all i t n so within is ok makes are =
    let last : take (i + 1) trees ≡ take i trees ++ t ∷ [] = take_more trees i t within ∙ ap (λ z. take i trees ++ z ∷ []) (sym is) in
    let some : normal_types (trees_at old (take (i + 1) trees)) ≡ with_last (normal_types (trees_at old (take i trees))) (normal (tree_at now t)) =
    ap (λ (xs : List TypeTree). normal_types (trees_at old xs)) last ∙ trees-last old (take i trees) t ∙ sym (ap (with_last (normal_types (trees_at old (take i trees)))) (tree-now old now trees i t so.keeps within is ok)) in
    one_more_made old now new made all n (normal (tree_at now t)) (normal_types (trees_at old (take i trees))) (normal_types (trees_at old (take (i + 1) trees))) (normal_types (trees_at old trees)) so makes are some (tree-part old now trees i t so.keeps within is ok)
