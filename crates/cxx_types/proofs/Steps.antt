-- What a table's steps make of types.
use Rattle.std.specs.Prelude.{ℕ, ◌≡◌, ◌<◌, ◌≤◌, List, length, Result, Ok}
use Rattle.std.proofs.Common.{ap, sym, subst, ◌∙◌, arith}
use Rattle.cxx_model.specs.declared.types.Bound.{Bound}
use Rattle.cxx_model.specs.declared.types.TypeId.{TypeId}
use Rattle.cxx_model.specs.declared.types.TypeNode.{TypeNode}
use Rattle.cxx_model.specs.declared.types.TypeNode.TheVariants as node
use Rattle.cxx_model.specs.declared.memory.OutOfMemory.{OutOfMemory}
use Rattle.cxx_model.specs.Facts.Graph.{IsTypeInRange}
use Rattle.cxx_model.specs.Types.Trees.{CxxType, CxxBound, array_of}
use Rattle.cxx_model.specs.Types.Numbers.{type_at, bound_at, type_over, IsNodeBelow, IsBoundBelow, Keeps}
use Rattle.cxx_model.proofs.TypeTrees.{bound_kept, bound_later}
use Rattle.cxx_model.specs.Types.Copies.{CopiesBound}
use Rattle.cxx_types.specs.Makes.{Makes}
use Rattle.cxx_types.proofs.Making.{makes_same, makes_then}

-- 3.9.3: an array, of whose element a type was made
pub made-array : (of : CxxType → CxxType) → ((t : CxxType) (b : CxxBound) → of (array_of t b) ≡ array_of (of t) b) → (old mid new : List CxxType) (n : ℕ) (x : TypeNode) (element bare : TypeId) (bound copy : Bound) (result : Result TypeId OutOfMemory) → type_over old x ≡ type_at old n → x ≡ node.Array element bound → n < length old → IsNodeBelow n x → CopiesBound bound copy → Makes old mid (Ok bare) (of (type_at old element.0)) → Makes mid new result (array_of (type_at mid bare.0) (bound_at mid copy)) → Makes old new result (of (type_at old n))
made-array of through old mid new n x element bare bound copy result is form within below copies first last =
    let parts : IsNodeBelow n (node.Array element bound) = subst (λ (y : TypeNode). IsNodeBelow n y) form below in
    let inside : IsBoundBelow (length old) bound = bound_later n (length old) bound (omega arith) parts.1 in
    let p : bound_at mid copy ≡ bound_at old bound = copies.at mid ∙ bound_kept old mid bound first.keeps inside in
    let q : type_at old n ≡ array_of (type_at old element.0) (bound_at old bound) = sym is ∙ ap (type_over old) form in
    let made : array_of (type_at mid bare.0) (bound_at mid copy) ≡ of (type_at old n) =
    ap (λ t. array_of t (bound_at mid copy)) first.made.1 ∙ ap (array_of (of (type_at old element.0))) p ∙ sym (through (type_at old element.0) (bound_at old bound)) ∙ sym (ap of q) in
    makes_same old new result (array_of (type_at mid bare.0) (bound_at mid copy)) (of (type_at old n)) made
    (makes_then old mid new (Ok bare) result (of (type_at old element.0)) (array_of (type_at mid bare.0) (bound_at mid copy)) first last (λ graph all whole. subst (λ (t : CxxType). IsTypeInRange graph t) first.made.1 whole.0))

pub bound-inside : (old mid : List CxxType) (n : ℕ) (x : TypeNode) (element : TypeId) (bound copy : Bound) → x ≡ node.Array element bound → n < length old → IsNodeBelow n x → CopiesBound bound copy → Keeps old mid → IsBoundBelow (length mid) copy
bound-inside old mid n x element bound copy form within below copies kept =
    let parts : IsNodeBelow n (node.Array element bound) = subst (λ (y : TypeNode). IsNodeBelow n y) form below in
    let grows : length old ≤ length mid = kept.grows in
    copies.below (length mid) (bound_later n (length mid) bound (omega arith) parts.1)
