-- The listed calls of a tree, by its node.
use Rattle.std.proofs.Common.{◌≡◌, List, [], ◌∷◌, refl, ap, sym, ◌∙◌}
use Rattle.cxx_model.specs.declared.tree.Node.{Node}
use Rattle.cxx_model.specs.declared.types.TreeId.{TreeId}
use Rattle.cxx_reading.specs.Trees.{in_turn}
use Rattle.cxx_tree.specs.Arena.{label_at, tree_in, tree_over, trees_in}
use Rattle.cxx_tree.specs.Held.{trees, Held}
use Rattle.cxx_phrase_text.specs.declared.form.Form.{Form}
use Rattle.cxx_phrase_text.specs.Calls.{calls_as, calls_each, calls_of, CallOfText}
use Rattle.cxx_phrase_text.specs.Forms.{form_of}
use Rattle.cxx_phrase_text.specs.Listing.{calls_at, calls_in_node, calls_of_parts}

each_is : (held : Held) (parts : List TreeId) → calls_each (in_turn (trees_in (trees held) parts)) ≡ calls_of_parts held parts
unfolding calls_at
each_is held [] = refl
each_is held (one ∷ parts) = ap (λ (cs : List (List CallOfText)). calls_of (tree_in (trees held) one.0) ∷ cs) (each_is held parts)

pub calls_are : (held : Held) (node : Node) (number : TreeId) (form : Form) → tree_in (trees held) number.0 ≡ tree_over held.types (trees held) node → form ≡ form_of node.production → calls_in_node held form node ≡ calls_at held number
unfolding calls_at
calls_are held node number form is same =
    ap (λ (f : Form). calls_in_node held f node) same
    ∙ ap (calls_as (form_of node.production) (label_at held.types node)) (sym (each_is held node.children))
    ∙ sym (ap calls_of is)
