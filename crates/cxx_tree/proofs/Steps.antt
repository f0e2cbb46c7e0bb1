-- What a step does to the state of a reading.
use Rattle.std.specs.Prelude.{ℕ, Bool, true, false, if◌then◌else◌, ◌≡◌, ◌<◌, List, [], ◌∷◌, ◌++◌, length, Option, Some, None, Result, Ok, Err, refl, IfOk, OnOk, OnErr}
use Rattle.std.proofs.Common.{ap, sym, subst, ◌∙◌, arith, length-append}
use Rattle.cxx_model.specs.declared.memory.OutOfMemory.{OutOfMemory}
use Rattle.cxx_model.specs.declared.tree.Node.{Node}
use Rattle.cxx_model.specs.declared.types.TreeId.{TreeId}
use Rattle.cxx_model.specs.declared.types.TypeId.{TypeId}
use Rattle.cxx_model.specs.Facts.Declarations.{CxxGraph, graph_at, type_of_option}
use Rattle.cxx_model.specs.Facts.Fitted.{Fitted}
use Rattle.cxx_model.specs.Facts.Graph.{Graph, IsTypeInRange, AreTypesInRange, IsBoundInRange}
use Rattle.cxx_model.specs.Types.Trees.{CxxType, CxxBound, fundamental, class_type, enumeration, pointer_to, reference_to, array_of, function_of, qualified, type_parameter, specialisation, nested_in, any_cv, merged, layered, with_cv, decayed, adjusted, unqualified}
use Rattle.cxx_model.specs.Types.Numbers.{type_at, types_at, AreTypesBelow, Keeps}
use Rattle.cxx_types.specs.Parameters.{adjusted_types}
use Rattle.cxx_model.specs.declared.types.Cv.{Cv}
use Rattle.cxx_model.proofs.TypeTrees.{Keeps-refl, Keeps-trans}
use Rattle.cxx_graph.proofs.Fitting.{graph-kept, fitted-table}
use Rattle.cxx_types.specs.Makes as table
use Rattle.cxx_reading.specs.State.{CxxCall, CxxGiven, CxxOffered, CxxPart, CxxState}
use Rattle.cxx_reading.specs.Trees.{CxxTree}
use Rattle.cxx_tree.specs.Arena.{AreTreesBelow, bound_of, IsNodeBelow, KeepsTrees, tree_in, tree_over}
use Rattle.cxx_tree.specs.Held.{AreFallbacksBelow, AreOffersBelow, ArePiecesBelow, Held, IsSound, calls_at, fallbacks_at, here_in, meaning, offers_at, pieces_at, state_over, trees}
use Rattle.cxx_tree.specs.Later.{IsType, Later, MakesTree, MakesType}
use Rattle.cxx_tree.proofs.Calls.{calls_kept, calls_later}
use Rattle.cxx_tree.proofs.Arenas.{KeepsTrees_refl, KeepsTrees_trans, after_kept, after_more, children_more, fallbacks_kept, fallbacks_later, keeps_more, last_tree, length_trees, nodes_later, nodes_more, of_kept, of_later, offers_kept, offers_later, pieces_kept, pieces_later}

pub Later_refl : (held : Held) → Later held held
Later_refl held = record { types = Keeps-refl held.types; trees = KeepsTrees_refl (trees held); tells = refl }

pub Later_trans : (one two three : Held) → Later one two → Later two three → Later one three
Later_trans one two three p q = record { types = Keeps-trans one.types two.types three.types p.types q.types; trees = KeepsTrees_trans (trees one) (trees two) (trees three) p.trees q.trees; tells = q.tells ∙ p.tells }

-- ---- a node

abbrev with_node : Held → Node → Held
with_node held node = record held { nodes = held.nodes ++ node ∷ [] }

pub sound_node : (held : Held) (node : Node) → IsSound held → IsNodeBelow (length held.types) node → AreTreesBelow (length (trees held)) node.children → IsSound (record held { nodes = held.nodes ++ node ∷ [] })
sound_node held node sound ok children = record {
  fitted = sound.fitted;
  nodes = nodes_more (length held.types) held.nodes node sound.nodes ok;
  children = children_more 0 held.nodes node sound.children (subst (λ n. AreTreesBelow n node.children) (let e : length (trees held) ≡ length held.nodes = length_trees held.types held.nodes in omega arith) children);
  fallbacks = fallbacks_later (length held.nodes) (length (held.nodes ++ node ∷ [])) held.fallbacks (omega (arith, length-append held.nodes (node ∷ []))) sound.fallbacks;
  offers = offers_later (length held.nodes) (length (held.nodes ++ node ∷ [])) held.offers (omega (arith, length-append held.nodes (node ∷ []))) sound.offers;
  pieces = pieces_later (length held.nodes) (length (held.nodes ++ node ∷ [])) held.pieces (omega (arith, length-append held.nodes (node ∷ []))) sound.pieces;
  calls = sound.calls;
  scope = sound.scope;
  result = sound.result;
}

node_keeps : (held : Held) (node : Node) → KeepsTrees (trees held) (trees (with_node held node))
node_keeps held node = subst (λ ts. KeepsTrees (trees held) ts) (sym (after_more held.types [] held.nodes node)) (keeps_more (trees held) (tree_over held.types (trees held) node))

same_state : (held : Held) (new : List CxxTree) → IsSound held → KeepsTrees (trees held) new → state_over held.types new held ≡ state_over held.types (trees held) held
same_state held new sound kept =
    ap (λ given. make given (offers_at new held.offers) (pieces_at new held.pieces)) (fallbacks_kept (trees held) new held.fallbacks kept (subst (λ n. AreFallbacksBelow n held.fallbacks) (sym (length_trees held.types held.nodes)) sound.fallbacks))
    ∙ ap (λ offered. make (fallbacks_at (trees held) held.fallbacks) offered (pieces_at new held.pieces)) (offers_kept (trees held) new held.offers kept (subst (λ n. AreOffersBelow n held.offers) (sym (length_trees held.types held.nodes)) sound.offers))
    ∙ ap (λ parts. make (fallbacks_at (trees held) held.fallbacks) (offers_at (trees held) held.offers) parts) (pieces_kept (trees held) new held.pieces kept (subst (λ n. ArePiecesBelow n held.pieces) (sym (length_trees held.types held.nodes)) sound.pieces))
  where
    make : List CxxGiven → List CxxOffered → List CxxPart → CxxState
    make given offered parts = record (state_over held.types (trees held) held) { given = given; offered = offered; parts = parts }

pub makes_node : (held : Held) (node : Node) (number : TreeId) → IsSound held → number.0 ≡ length held.nodes → MakesTree held (record held { nodes = held.nodes ++ node ∷ [] }) (Ok number) (tree_over held.types (trees held) node)
unfolding meaning
makes_node held node number sound e = record {
  later = record { types = Keeps-refl held.types; trees = node_keeps held node; tells = refl };
  same = same_state held (trees (with_node held node)) sound (node_keeps held node);
  made = (
    (let a : length (trees (with_node held node)) ≡ length (held.nodes ++ node ∷ []) = length_trees held.types (held.nodes ++ node ∷ []) in omega (arith, length-append held.nodes (node ∷ []))),
    (let there : number.0 ≡ length (trees held) = e ∙ sym (length_trees held.types held.nodes) in
        let t : CxxTree = tree_over held.types (trees held) node in
        ap (λ n. tree_in (trees (with_node held node)) n) there ∙ ap (λ ts. tree_in ts (length (trees held))) (after_more held.types [] held.nodes node) ∙ last_tree (trees held) t),
  );
}

pub makes_no_node : (held : Held) (memory : OutOfMemory) (wanted : CxxTree) → MakesTree held held (Err memory) wanted
makes_no_node held memory wanted = record { later = Later_refl held; same = refl; made = tt }

-- ---- a type

trees_same : (held : Held) (new : List CxxType) → IsSound held → Keeps held.types new → trees (record held { types = new }) ≡ trees held
trees_same held new sound kept = after_kept held.types new [] held.nodes kept sound.nodes

pub sound_types : (held : Held) (new : List CxxType) → IsSound held → Keeps held.types new → Fitted held.graph new → IsSound (record held { types = new })
sound_types held new sound keeps fitted = record {
  fitted = fitted;
  nodes = nodes_later (length held.types) (length new) held.nodes keeps.grows sound.nodes;
  children = sound.children;
  scope = sound.scope;
  fallbacks = sound.fallbacks;
  offers = sound.offers;
  pieces = sound.pieces;
  calls = calls_later (length held.types) (length new) held.calls keeps.grows sound.calls;
  result = of_later (length held.types) (length new) held.result keeps.grows sound.result;
}

pub fitted_by : (held : Held) (new : List CxxType) (result : Result TypeId OutOfMemory) (t : CxxType) → IsSound held → table.Makes held.types new result t → IsTypeInRange held.graph t → Fitted held.graph new
fitted_by held new result t sound makes range = fitted-table held.graph held.types new sound.fitted makes.keeps (λ i from within. makes.fits held.graph sound.fitted.names range i within)

made_type : (held : Held) (new : List CxxType) (result : Result TypeId OutOfMemory) (t : CxxType) → table.IsMade new result t → IsType (record held { types = new }) result t
made_type held new (Ok number) t made = made
made_type held new (Err memory) t made = tt

types_later : (held : Held) (new : List CxxType) → IsSound held → Keeps held.types new → Later held (record held { types = new })
types_later held new sound keeps = record { types = keeps; trees = subst (λ ts. KeepsTrees (trees held) ts) (sym (trees_same held new sound keeps)) (KeepsTrees_refl (trees held)); tells = refl }

types_same : (held : Held) (new : List CxxType) → IsSound held → Keeps held.types new → meaning (record held { types = new }) ≡ meaning held
unfolding meaning
types_same held new sound keeps =
    ap (λ graph. make graph (calls_at new held.calls) (type_of_option new held.result) (trees (record held { types = new }))) (graph-kept held.types new held.graph keeps sound.fitted.numbers)
    ∙ ap (λ calls. make (graph_at held.types held.graph) calls (type_of_option new held.result) (trees (record held { types = new }))) (calls_kept held.types new held.calls keeps sound.calls)
    ∙ ap (λ of. make (graph_at held.types held.graph) (calls_at held.types held.calls) of (trees (record held { types = new }))) (of_kept held.types new held.result keeps sound.result)
    ∙ ap (make (graph_at held.types held.graph) (calls_at held.types held.calls) (type_of_option held.types held.result)) (trees_same held new sound keeps)
  where
    make : CxxGraph → List CxxCall → Option CxxType → List CxxTree → CxxState
    make graph calls of all = record (state_over held.types all held) { graph = graph; calls = calls; here = record (here_in held.types held.scope held.enumeration held.result) { result = of } }

pub makes_type : (held : Held) (new : List CxxType) (result : Result TypeId OutOfMemory) (t : CxxType) → IsSound held → table.Makes held.types new result t → MakesType held (record held { types = new }) result t
makes_type held new result t sound makes = record {
  later = types_later held new sound makes.keeps;
  same = types_same held new sound makes.keeps;
  made = made_type held new result t makes.made;
}

-- ---- what calls answer

pub pushed_sound : (held : Held) (new : List Node) (node : Node) (result : Result TreeId OutOfMemory) → IsSound held → IsNodeBelow (length held.types) node → AreTreesBelow (length (trees held)) node.children → OnOk result (new ≡ held.nodes ++ node ∷ []) → OnErr result (new ≡ held.nodes) → IsSound (record held { nodes = new })
pushed_sound held new node (Ok number) sound ok children added unchanged = subst (λ ns. IsSound (record held { nodes = ns })) (sym added) (sound_node held node sound ok children)
pushed_sound held new node (Err memory) sound ok children added unchanged = subst (λ ns. IsSound (record held { nodes = ns })) (sym unchanged) sound

pub pushed_tree : (held : Held) (new : List Node) (node : Node) (result : Result TreeId OutOfMemory) → IsSound held → IfOk result (λ number. number.0 ≡ length held.nodes) → OnOk result (new ≡ held.nodes ++ node ∷ []) → OnErr result (new ≡ held.nodes) → MakesTree held (record held { nodes = new }) result (tree_over held.types (trees held) node)
pushed_tree held new node (Ok number) sound is added unchanged = subst (λ ns. MakesTree held (record held { nodes = ns }) (Ok number) (tree_over held.types (trees held) node)) (sym added) (makes_node held node number sound is)
pushed_tree held new node (Err memory) sound is added unchanged = subst (λ ns. MakesTree held (record held { nodes = ns }) (Err memory) (tree_over held.types (trees held) node)) (sym unchanged) (makes_no_node held memory (tree_over held.types (trees held) node))

-- ---- what names of a graph are in range

layered_range : (graph : Graph) (cv : Cv) (t : CxxType) → IsTypeInRange graph t → IsTypeInRange graph (layered cv t)
layered_range graph cv t = by (any_cv cv)
  where
    by : (b : Bool) → IsTypeInRange graph t → IsTypeInRange graph (if b then qualified cv t else t)
    by true ok = ok
    by false ok = ok

pub with_cv_range : (graph : Graph) (cv : Cv) (t : CxxType) → IsTypeInRange graph t → IsTypeInRange graph (with_cv cv t)
with_cv_range graph cv (fundamental base) ok = layered_range graph cv (fundamental base) ok
with_cv_range graph cv (class_type n) ok = layered_range graph cv (class_type n) ok
with_cv_range graph cv (enumeration n) ok = layered_range graph cv (enumeration n) ok
with_cv_range graph cv (pointer_to t) ok = layered_range graph cv (pointer_to t) ok
with_cv_range graph cv (reference_to t) ok = ok
with_cv_range graph cv (array_of t b) ok = (with_cv_range graph cv t ok.0, ok.1)
with_cv_range graph cv (function_of r ts ellipsis own) ok = ok
with_cv_range graph cv (qualified own t) ok = layered_range graph (merged cv own) t ok
with_cv_range graph cv (type_parameter depth index) ok = layered_range graph cv (type_parameter depth index) ok
with_cv_range graph cv (specialisation n given) ok = layered_range graph cv (specialisation n given) ok
with_cv_range graph cv (nested_in t word) ok = layered_range graph cv (nested_in t word) ok

pub decayed_range : (graph : Graph) (t : CxxType) → IsTypeInRange graph t → IsTypeInRange graph (decayed t)
decayed_range graph (array_of t b) ok = ok.0
decayed_range graph (function_of r ts ellipsis own) ok = ok
decayed_range graph (fundamental base) ok = ok
decayed_range graph (class_type n) ok = ok
decayed_range graph (enumeration n) ok = ok
decayed_range graph (pointer_to t) ok = ok
decayed_range graph (reference_to t) ok = ok
decayed_range graph (qualified own t) ok = ok
decayed_range graph (type_parameter depth index) ok = ok
decayed_range graph (specialisation n given) ok = ok
decayed_range graph (nested_in t word) ok = ok

pub unqualified_range : (graph : Graph) (t : CxxType) → IsTypeInRange graph t → IsTypeInRange graph (unqualified t)
unqualified_range graph (array_of t b) ok = (unqualified_range graph t ok.0, ok.1)
unqualified_range graph (fundamental base) ok = ok
unqualified_range graph (class_type n) ok = ok
unqualified_range graph (enumeration n) ok = ok
unqualified_range graph (pointer_to t) ok = ok
unqualified_range graph (reference_to t) ok = ok
unqualified_range graph (function_of r ts ellipsis own) ok = ok
unqualified_range graph (qualified own t) ok = ok
unqualified_range graph (type_parameter depth index) ok = ok
unqualified_range graph (specialisation n given) ok = ok
unqualified_range graph (nested_in t word) ok = ok

adjusted_range : (graph : Graph) (t : CxxType) → IsTypeInRange graph t → IsTypeInRange graph (adjusted t)
adjusted_range graph (array_of t b) ok = ok.0
adjusted_range graph (function_of r ts ellipsis own) ok = ok
adjusted_range graph (fundamental base) ok = ok
adjusted_range graph (class_type n) ok = ok
adjusted_range graph (enumeration n) ok = ok
adjusted_range graph (pointer_to t) ok = ok
adjusted_range graph (reference_to t) ok = ok
adjusted_range graph (qualified own t) ok = ok
adjusted_range graph (type_parameter depth index) ok = ok
adjusted_range graph (specialisation n given) ok = ok
adjusted_range graph (nested_in t word) ok = ok

pub parameters_range : (graph : Graph) (types : List CxxType) (ns : List TypeId) → ((i : ℕ) → i < length types → IsTypeInRange graph (type_at types i)) → AreTypesBelow (length types) ns → AreTypesInRange graph (adjusted_types (types_at types ns))
parameters_range graph types [] all ok = tt
parameters_range graph types (n ∷ ns) all ok = (adjusted_range graph (type_at types n.0) (all n.0 ok.0), parameters_range graph types ns all ok.1)

-- ---- the same of a state that is seen through its fields

pub tree_pushed : (seen held : Held) (new : List Node) (node : Node) (result : Result TreeId OutOfMemory) → held ≡ seen → IsSound held → IfOk result (λ number. number.0 ≡ length held.nodes) → OnOk result (new ≡ held.nodes ++ node ∷ []) → OnErr result (new ≡ held.nodes) → MakesTree seen (record held { nodes = new }) result (tree_over seen.types (trees seen) node)
tree_pushed seen held new node result same sound is added unchanged = subst (λ (h : Held). MakesTree h (record held { nodes = new }) result (tree_over h.types (trees h) node)) same (pushed_tree held new node result sound is added unchanged)

-- what the types of a table name is in range
pub type_range : (held : Held) (n : ℕ) → IsSound held → n < length held.types → IsTypeInRange held.graph (type_at held.types n)
type_range held n sound within = sound.fitted.names n within

pub type_made : (seen held : Held) (new : List CxxType) (result : Result TypeId OutOfMemory) (t : List CxxType → CxxType) → held ≡ seen → IsSound held → table.Makes held.types new result (t held.types) → MakesType seen (record held { types = new }) result (t seen.types)
type_made seen held new result t same sound makes = subst (λ (h : Held). MakesType h (record held { types = new }) result (t h.types)) same (makes_type held new result (t held.types) sound makes)

pub later_made : (seen held : Held) (new : List CxxType) → held ≡ seen → IsSound held → Keeps held.types new → Later seen (record held { types = new })
later_made seen held new same sound keeps = subst (λ (h : Held). Later h (record held { types = new })) same (types_later held new sound keeps)

pub same_made : (seen held : Held) (new : List CxxType) → held ≡ seen → IsSound held → Keeps held.types new → meaning (record held { types = new }) ≡ meaning seen
same_made seen held new same sound keeps = subst (λ (h : Held). meaning (record held { types = new }) ≡ meaning h) same (types_same held new sound keeps)

-- a number that the state knows
pub within : (seen held : Held) (n : ℕ) → held ≡ seen → n < length seen.types → n < length held.types
within seen held n same below = subst (λ (h : Held). n < length h.types) (sym same) below

pub all_within : (seen held : Held) (ns : List TypeId) → held ≡ seen → AreTypesBelow (length seen.types) ns → AreTypesBelow (length held.types) ns
all_within seen held ns same below = subst (λ (h : Held). AreTypesBelow (length h.types) ns) (sym same) below

bound_range : (graph : Graph) (bound : Option ℕ) → IsBoundInRange graph (bound_of bound)
bound_range graph None = tt
bound_range graph (Some n) = tt

pub array_range : (held : Held) (n : ℕ) (bound : Option ℕ) → IsSound held → n < length held.types → IsTypeInRange held.graph (array_of (type_at held.types n) (bound_of bound))
array_range held n bound sound below = (sound.fitted.names n below, bound_range held.graph bound)

pub function_range : (held : Held) (n : ℕ) (ns : List TypeId) → IsSound held → n < length held.types → AreTypesBelow (length held.types) ns → IsTypeInRange held.graph (type_at held.types n) × AreTypesInRange held.graph (adjusted_types (types_at held.types ns))
function_range held n ns sound below all = (sound.fitted.names n below, parameters_range held.graph held.types ns sound.fitted.names all)

pub array_makes : (old new : List CxxType) (result : Result TypeId OutOfMemory) (of : CxxType) (one two : CxxBound) → one ≡ two → table.Makes old new result (array_of of one) → table.Makes old new result (array_of of two)
array_makes old new result of one two same makes = subst (λ (b : CxxBound). table.Makes old new result (array_of of b)) same makes
