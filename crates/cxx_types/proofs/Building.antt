-- What building a type from a node makes of it.
use Rattle.std.specs.Prelude.{ℕ, zero, suc, ◌≡◌, ◌<◌, ◌≤◌, ◌+◌, Bool, List, [], ◌∷◌, ◌++◌, length, Result, Ok, refl}
use Rattle.std.proofs.Common.{ap, sym, subst, ◌∙◌, take, get_or, arith}
use Rattle.std.proofs.lemmas.List.{take_more}
use Rattle.cxx_model.specs.declared.memory.OutOfMemory.{OutOfMemory}
use Rattle.cxx_model.specs.declared.types.Cv.{Cv}
use Rattle.cxx_model.specs.declared.types.TypeId.{TypeId}
use Rattle.cxx_model.specs.declared.types.TypeNode.{TypeNode}
use Rattle.cxx_model.specs.declared.types.TypeNode.TheVariants as node
use Rattle.cxx_model.specs.Facts.Graph.{Graph, IsTypeInRange, AreTypesInRange}
use Rattle.cxx_model.specs.Types.Trees.{CxxType, type_then, function_of, with_cv, adjusted, normal, normal_parameters, IsNormal, AreParameters}
use Rattle.cxx_model.specs.Types.Numbers.{type_at, types_at, type_over, AreTypesBelow, IsNodeBelow, Keeps}
use Rattle.cxx_types.proofs.TypeForm.{adjusted_normal, normal_fixed}
use Rattle.cxx_model.proofs.TypeTrees.{arguments_normal, bound_normal, Keeps-trans}
use Rattle.cxx_types.specs.Makes.{AreInRange, Makes, MakesEach}
use Rattle.cxx_types.specs.Parameters.{adjusted_types}
use Rattle.cxx_model.specs.Types.Proper.{IsProper, AreTypesProper}
use Rattle.cxx_types.specs.Table.{AreNormal, AreProper}
use Rattle.cxx_types.proofs.Proper.{types-proper}
use Rattle.cxx_types.proofs.Making.{AreMadeSoFar, makes_same, one_more_made, with_last}
use Rattle.cxx_types.proofs.Reading.{number-inside}

pub node-normal : (types : List CxxType) (x : TypeNode) → AreNormal types → IsNodeBelow (length types) x → ((cv : Cv) (of : TypeId) → x ≡ node.Qualified cv of → ⊥) → ((r : TypeId) (ns : List TypeId) (ellipsis : Bool) (cv : Cv) → x ≡ node.Function r ns ellipsis cv → ⊥) → IsNormal (type_over types x)
node-normal types (node.Plain base) each ok bare object = tt
node-normal types (node.Class n) each ok bare object = tt
node-normal types (node.Enum n) each ok bare object = tt
node-normal types (node.Pointer of) each ok bare object = each of.0 ok
node-normal types (node.Reference of) each ok bare object = each of.0 ok
node-normal types (node.Array of bound) each ok bare object = (each of.0 ok.0, bound_normal types bound each ok.1)
node-normal types (node.Function r ns ellipsis cv) each ok bare object = absurd (object r ns ellipsis cv refl)
node-normal types (node.Qualified cv of) each ok bare object = absurd (bare cv of refl)
node-normal types (node.Parameter depth index) each ok bare object = tt
node-normal types (node.Special n given) each ok bare object = arguments_normal types given each ok
node-normal types (node.Nested of word) each ok bare object = each of.0 ok

pub built-plain : (old new : List CxxType) (result : Result TypeId OutOfMemory) (x : TypeNode) → IsNormal (type_over old x) → Makes old new result (type_over old x) → Makes old new result (normal (type_over old x))
built-plain old new result x form makes = makes_same old new result (type_over old x) (normal (type_over old x)) (sym (normal_fixed (type_over old x) form)) makes

pub built-qualified : (old new : List CxxType) (result : Result TypeId OutOfMemory) (x : TypeNode) (cv : Cv) (of : TypeId) → x ≡ node.Qualified cv of → AreNormal old → IsNodeBelow (length old) x → Makes old new result (with_cv cv (type_at old of.0)) → Makes old new result (normal (type_over old x))
built-qualified old new result x cv of is each ok makes =
    let known : of.0 < length old = subst (λ (y : TypeNode). IsNodeBelow (length old) y) is ok in
    let same : with_cv cv (type_at old of.0) ≡ normal (type_over old x) = ap (with_cv cv) (sym (normal_fixed (type_at old of.0) (each of.0 known))) ∙ sym (ap (λ (y : TypeNode). normal (type_over old y)) is) in
    makes_same old new result (with_cv cv (type_at old of.0)) (normal (type_over old x)) same makes

-- 8.3.5: parameters in the one form, adjusted
pub adjusted-normal : (types : List CxxType) (ns : List TypeId) → AreNormal types → AreTypesBelow (length types) ns → AreParameters (adjusted_types (types_at types ns))
adjusted-normal types [] each ok = tt
adjusted-normal types (n ∷ ns) each ok =
    let one = adjusted_normal (type_at types n.0) (each n.0 ok.0) in
    (one.0, one.1, adjusted-normal types ns each ok.1)

adjusted-fixed : (types : List CxxType) (ns : List TypeId) → AreNormal types → AreTypesBelow (length types) ns → adjusted_types (types_at types ns) ≡ normal_parameters (types_at types ns)
adjusted-fixed types [] each ok = refl
adjusted-fixed types (n ∷ ns) each ok =
    let one : adjusted (type_at types n.0) ≡ adjusted (normal (type_at types n.0)) = ap adjusted (sym (normal_fixed (type_at types n.0) (each n.0 ok.0))) in
    let rest : adjusted_types (types_at types ns) ≡ normal_parameters (types_at types ns) = adjusted-fixed types ns each ok.1 in
    ap (λ t. type_then t (adjusted_types (types_at types ns))) one ∙ ap (type_then (adjusted (normal (type_at types n.0)))) rest

pub built-function : (old new : List CxxType) (result : Result TypeId OutOfMemory) (x : TypeNode) (r : TypeId) (ns list : List TypeId) (ellipsis : Bool) (cv : Cv) → x ≡ node.Function r ns ellipsis cv → list ≡ ns → AreNormal old → IsNodeBelow (length old) x → Makes old new result (function_of (type_at old r.0) (adjusted_types (types_at old list)) ellipsis cv) → Makes old new result (normal (type_over old x))
built-function old new result x r ns list ellipsis cv is copied each ok makes =
    let parts : (r.0 < length old) × AreTypesBelow (length old) ns = subst (λ (y : TypeNode). IsNodeBelow (length old) y) is ok in
    let one : type_at old r.0 ≡ normal (type_at old r.0) = sym (normal_fixed (type_at old r.0) (each r.0 parts.0)) in
    let others : adjusted_types (types_at old list) ≡ normal_parameters (types_at old ns) = ap (λ (ls : List TypeId). adjusted_types (types_at old ls)) copied ∙ adjusted-fixed old ns each parts.1 in
    let same : function_of (type_at old r.0) (adjusted_types (types_at old list)) ellipsis cv ≡ normal (type_over old x) =
    ap (λ t. function_of t (adjusted_types (types_at old list)) ellipsis cv) one ∙ ap (λ ts. function_of (normal (type_at old r.0)) ts ellipsis cv) others ∙ sym (ap (λ (y : TypeNode). normal (type_over old y)) is) in
    makes_same old new result (function_of (type_at old r.0) (adjusted_types (types_at old list)) ellipsis cv) (normal (type_over old x)) same makes

-- ---- each of some parameters

pub adjusted-item : (graph : Graph) (types : List CxxType) (ns : List TypeId) (i : ℕ) (d : TypeId) → i < length ns → AreTypesInRange graph (adjusted_types (types_at types ns)) → IsTypeInRange graph (adjusted (type_at types (get_or ns i d).0))
adjusted-item graph types [] i d within each = absurd (omega arith)
adjusted-item graph types (n ∷ ns) zero d within each = each.0
adjusted-item graph types (n ∷ ns) (suc i) d within each = adjusted-item graph types ns i d (omega arith) each.1

pub number-later : (old now : List CxxType) (ns : List TypeId) (i : ℕ) (d : TypeId) → i < length ns → AreTypesBelow (length old) ns → Keeps old now → (get_or ns i d).0 < length now
number-later old now ns i d within ok kept = (let before : (get_or ns i d).0 < length old = number-inside (length old) ns i d within ok in let more : length old ≤ length now = kept.grows in omega arith)

adjusted-now : (old now : List CxxType) (ns : List TypeId) (i : ℕ) (d : TypeId) → i < length ns → AreTypesBelow (length old) ns → Keeps old now → adjusted (type_at now (get_or ns i d).0) ≡ adjusted (type_at old (get_or ns i d).0)
adjusted-now old now ns i d within ok kept = ap adjusted (kept.same (get_or ns i d).0 (number-inside (length old) ns i d within ok))

pub adjusted-part : (old now : List CxxType) (ns : List TypeId) (i : ℕ) (d : TypeId) → i < length ns → AreTypesBelow (length old) ns → Keeps old now → (graph : Graph) → AreInRange graph old → AreTypesInRange graph (adjusted_types (types_at old ns)) → IsTypeInRange graph (adjusted (type_at now (get_or ns i d).0))
adjusted-part old now ns i d within ok kept graph all each = subst (λ (t : CxxType). IsTypeInRange graph t) (sym (adjusted-now old now ns i d within ok kept)) (adjusted-item graph old ns i d within each)

adjusted-last : (types : List CxxType) (ns : List TypeId) (n : TypeId) → adjusted_types (types_at types (ns ++ n ∷ [])) ≡ with_last (adjusted_types (types_at types ns)) (adjusted (type_at types n.0))
adjusted-last types [] n = refl
adjusted-last types (m ∷ ms) n = ap (type_then (adjusted (type_at types m.0))) (adjusted-last types ms n)

pub next-adjusted : (old now new : List CxxType) (ns made all : List TypeId) (i : ℕ) (d n : TypeId) → AreMadeSoFar old now made (adjusted_types (types_at old (take i ns))) (adjusted_types (types_at old ns)) → i < length ns → AreTypesBelow (length old) ns → Makes now new (Ok n) (adjusted (type_at now (get_or ns i d).0)) → all ≡ made ++ n ∷ [] → AreMadeSoFar old new all (adjusted_types (types_at old (take (i + 1) ns))) (adjusted_types (types_at old ns))
next-adjusted old now new ns made all i d n so within ok makes are =
    let some : adjusted_types (types_at old (take (i + 1) ns)) ≡ with_last (adjusted_types (types_at old (take i ns))) (adjusted (type_at now (get_or ns i d).0)) =
    ap (λ (xs : List TypeId). adjusted_types (types_at old xs)) (take_more ns i d within) ∙ adjusted-last old (take i ns) (get_or ns i d) ∙ sym (ap (with_last (adjusted_types (types_at old (take i ns)))) (adjusted-now old now ns i d within ok so.keeps)) in
    one_more_made old now new made all n (adjusted (type_at now (get_or ns i d).0)) (adjusted_types (types_at old (take i ns))) (adjusted_types (types_at old (take (i + 1) ns))) (adjusted_types (types_at old ns)) so makes are some (adjusted-part old now ns i d within ok so.keeps)

normal-before : (old new : List CxxType) → Keeps old new → AreNormal new → AreNormal old
normal-before old new kept each i within = (let more : length old ≤ length new = kept.grows in subst IsNormal (kept.same i within) (each i (omega arith)))

-- 8.3.5: a function of adjusted parameters is in the one form
pub adjusted-parameters : (old new : List CxxType) (r : TypeId) (ns made : List TypeId) → r.0 < length old → AreTypesBelow (length old) ns → MakesEach old new (Ok made) (adjusted_types (types_at old ns)) → AreNormal new → IsNormal (type_at new r.0) × AreParameters (types_at new made)
adjusted-parameters old new r ns made known ok makes each =
    let more : length old ≤ length new = makes.keeps.grows in
    (each r.0 (omega arith), subst AreParameters (sym makes.made.1) (adjusted-normal old ns (normal-before old new makes.keeps each) ok))

pub function-proper : (old new : List CxxType) (r : TypeId) (ns made : List TypeId) → r.0 < length old → MakesEach old new (Ok made) (adjusted_types (types_at old ns)) → AreProper new → IsProper (type_at new r.0) × AreTypesProper (types_at new made)
function-proper old new r ns made known makes each =
    let more : length old ≤ length new = makes.keeps.grows in
    (each r.0 (omega arith), types-proper new made each makes.made.0)

-- what a function of adjusted parameters is made of
pub made-function : (old mid new : List CxxType) (r : TypeId) (ns made : List TypeId) (ellipsis : Bool) (cv : Cv) (result : Result TypeId OutOfMemory) → r.0 < length old → MakesEach old mid (Ok made) (adjusted_types (types_at old ns)) → Makes mid new result (function_of (type_at mid r.0) (types_at mid made) ellipsis cv) → Makes old new result (function_of (type_at old r.0) (adjusted_types (types_at old ns)) ellipsis cv)
made-function old mid new r ns made ellipsis cv result known each last =
    let same : function_of (type_at mid r.0) (types_at mid made) ellipsis cv ≡ function_of (type_at old r.0) (adjusted_types (types_at old ns)) ellipsis cv =
    ap (λ t. function_of t (types_at mid made) ellipsis cv) (each.keeps.same r.0 known) ∙ ap (λ ts. function_of (type_at old r.0) ts ellipsis cv) each.made.1 in
    let whole : Makes mid new result (function_of (type_at old r.0) (adjusted_types (types_at old ns)) ellipsis cv) = makes_same mid new result (function_of (type_at mid r.0) (types_at mid made) ellipsis cv) (function_of (type_at old r.0) (adjusted_types (types_at old ns)) ellipsis cv) same last in
    record { keeps = Keeps-trans old mid new each.keeps whole.keeps; made = whole.made; fits = λ graph all within. whole.fits graph (each.fits graph all within.1) within }
