-- How deep the types of a table are.
use Rattle.std.specs.Prelude.{ℕ, ◌≡◌, ◌<◌, ◌≤◌, List, [], ◌∷◌, length, map}
use Rattle.std.proofs.Common.{arith, ap, ◌∙◌, get_or}
use Rattle.std.proofs.lemmas.List.{get_or-map}
use Rattle.cxx_model.specs.declared.base.Base.TheVariants.{Void}
use Rattle.cxx_model.specs.declared.types.TypeId.{TypeId}
use Rattle.cxx_model.specs.declared.types.TypeNode.{TypeNode}
use Rattle.cxx_model.specs.declared.types.TypeNode.TheVariants as node
use Rattle.cxx_model.specs.Types.Trees.{CxxType, fundamental}
use Rattle.cxx_model.specs.Types.Numbers.{type_at, types_at, type_over, AreTypesBelow, IsNodeBelow}
use Rattle.cxx_types.specs.Levels.{level_count, level_counts}

each-shallow : (types : List CxxType) (n : ℕ) (numbers : List TypeId) → 0 < n → AreTypesBelow n numbers → ((i : ℕ) → i < n → level_count (type_at types i) ≤ i) → level_counts (types_at types numbers) < n
each-shallow types n [] some ok each = some
each-shallow types n (m ∷ ms) some ok each =
    let first : level_count (type_at types m.0) ≤ m.0 = each m.0 ok.0 in
    let rest : level_counts (types_at types ms) < n = each-shallow types n ms some ok.1 each in
    let below : m.0 < n = ok.0 in
    omega arith

-- a type whose parts are below a number has no more levels
pub node-shallow : (types : List CxxType) (n : ℕ) (x : TypeNode) → IsNodeBelow n x → ((i : ℕ) → i < n → level_count (type_at types i) ≤ i) → level_count (type_over types x) ≤ n
node-shallow types n (node.Plain base) ok each = omega arith
node-shallow types n (node.Class m) ok each = omega arith
node-shallow types n (node.Enum m) ok each = omega arith
node-shallow types n (node.Pointer of) ok each = (let part : level_count (type_at types of.0) ≤ of.0 = each of.0 ok in let below : of.0 < n = ok in omega arith)
node-shallow types n (node.Reference of) ok each = (let part : level_count (type_at types of.0) ≤ of.0 = each of.0 ok in let below : of.0 < n = ok in omega arith)
node-shallow types n (node.Array of bound) ok each = (let part : level_count (type_at types of.0) ≤ of.0 = each of.0 ok.0 in let below : of.0 < n = ok.0 in omega arith)
node-shallow types n (node.Function r ts ellipsis cv) ok each =
    let part : level_count (type_at types r.0) ≤ r.0 = each r.0 ok.0 in
    let below : r.0 < n = ok.0 in
    let rest : level_counts (types_at types ts) < n = each-shallow types n ts (omega arith) ok.1 each in
    omega arith
node-shallow types n (node.Qualified cv of) ok each = (let part : level_count (type_at types of.0) ≤ of.0 = each of.0 ok in let below : of.0 < n = ok in omega arith)
node-shallow types n (node.Parameter depth index) ok each = omega arith
node-shallow types n (node.Special m given) ok each = omega arith
node-shallow types n (node.Nested of word) ok each = (let part : level_count (type_at types of.0) ≤ of.0 = each of.0 ok in let below : of.0 < n = ok in omega arith)

pub level-stored : (types : List CxxType) (counts : List ℕ) (n d : ℕ) → counts ≡ map level_count types → n < length types → get_or counts n d ≡ level_count (type_at types n)
level-stored types counts n d are within = ap (λ (cs : List ℕ). get_or cs n d) are ∙ get_or-map level_count types n (fundamental Void) d within
