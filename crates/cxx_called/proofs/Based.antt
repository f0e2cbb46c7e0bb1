-- What is known of a member by the number of its declaration.
use Rattle.std.specs.Prelude.{ℕ, ◌≡◌, ◌<◌, length, Option, Some, None, false, refl}
use Rattle.std.proofs.Common.{ap, sym, ◌∙◌}
use Rattle.std.specs.List.{slice_get}
use Rattle.cxx_model.specs.declared.facts.Fact.{Fact}
use Rattle.cxx_model.specs.declared.tree.Node.{Node}
use Rattle.cxx_model.specs.declared.types.TypeId.{TypeId}
use Rattle.cxx_model.specs.Facts.Declarations.{fact_at, type_of_option}
use Rattle.cxx_model.specs.Facts.Fitted.{IsTypeNumberBelow}
use Rattle.cxx_model.specs.Types.Trees.{CxxType}
use Rattle.cxx_reading.specs.State.{CxxState}
use Rattle.cxx_reading.specs.Trees.{CxxTree}
use Rattle.cxx_expr.specs.Calls.{based}
use Rattle.cxx_expr.specs.Nodes.{IsNodeHeld, node_tree}
use Rattle.cxx_expr.specs.Questions.{Questions}
use Rattle.cxx_expr.specs.Steps.{declaring, declaring_by, is_static_at, is_static_fact}
use Rattle.cxx_expr.proofs.Kept.{type_kept}
use Rattle.cxx_expr.proofs.NodeKept.{node_kept}
use Rattle.cxx_tree.specs.Held.{Held, meaning, type_of}
use Rattle.cxx_tree.specs.Later.{Later}
use Rattle.cxx_called.specs.Tails.{based_to}
use Rattle.cxx_called.proofs.Chosen.{object_kept}
use Rattle.cxx_called.proofs.Declared.{fact_is, fact_is_none}

pub static_some : (held : Held) (n : ℕ) (fact : Fact) → slice_get held.graph.facts n ≡ Some fact → is_static_fact (Some (fact_at held.types fact)) ≡ is_static_at (meaning held).graph n
unfolding is_static_at
static_some held n fact at = sym (ap is_static_fact (fact_is held n fact at))

pub static_none : (held : Held) (n : ℕ) → slice_get held.graph.facts n ≡ None → false ≡ is_static_at (meaning held).graph n
unfolding is_static_at
static_none held n at = sym (ap is_static_fact (fact_is_none held n at))

pub declaring_some : (held : Held) (n : ℕ) (fact : Fact) → slice_get held.graph.facts n ≡ Some fact → declaring_by (meaning held).graph (Some (fact_at held.types fact)) ≡ declaring (meaning held).graph n
unfolding declaring
declaring_some held n fact at = sym (ap (declaring_by (meaning held).graph) (fact_is held n fact at))

pub declaring_none : (held : Held) (n : ℕ) → slice_get held.graph.facts n ≡ None → None ≡ declaring (meaning held).graph n
unfolding declaring
declaring_none held n at = sym (ap (declaring_by (meaning held).graph) (fact_is_none held n at))

-- ---- what is called, once the class that declares the function is there

based_is : (q : Questions) (callee : CxxTree) (of : CxxType) (class : Option CxxType) (target : ℕ) (state : CxxState) → based_to q callee of class (declaring state.graph target) target state ≡ based q callee of class target state
unfolding based
based_is q callee of class target state = refl

pub based_same : (q : Questions) (old new : Held) (callee : Node) (of : TypeId) (class declared : Option TypeId) (target : ℕ) → Later old new → meaning new ≡ meaning old → IsNodeHeld old callee → of.0 < length old.types → IsTypeNumberBelow (length old.types) class
    → type_of_option new.types declared ≡ declaring (meaning old).graph target
    → based_to q (node_tree new callee) (type_of new of) (type_of_option new.types class) (type_of_option new.types declared) target (meaning new) ≡ based q (node_tree old callee) (type_of old of) (type_of_option old.types class) target (meaning old)
based_same q old new callee of class declared target later same held below known is =
    ap (λ t. based_to q t (type_of new of) (type_of_option new.types class) (type_of_option new.types declared) target (meaning new)) (node_kept old new callee later held)
    ∙ (ap (λ t. based_to q (node_tree old callee) t (type_of_option new.types class) (type_of_option new.types declared) target (meaning new)) (type_kept old new of later below)
    ∙ (ap (λ o. based_to q (node_tree old callee) (type_of old of) o (type_of_option new.types declared) target (meaning new)) (object_kept old new class later known)
    ∙ (ap (λ o. based_to q (node_tree old callee) (type_of old of) (type_of_option old.types class) o target (meaning new)) is
    ∙ (ap (λ s. based_to q (node_tree old callee) (type_of old of) (type_of_option old.types class) (declaring (meaning old).graph target) target s) same
    ∙ based_is q (node_tree old callee) (type_of old of) (type_of_option old.types class) target (meaning old)))))
