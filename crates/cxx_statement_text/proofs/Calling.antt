-- The listed calls of statements, by the nodes of their trees.
use Rattle.std.proofs.Common.{◌≡◌, ◌≤◌, false, eqb, List, [], ◌∷◌, length, get_or, Option, Some, None, refl, ap, sym, ◌∙◌, arith}
use Rattle.std.specs.List.{slice_get}
use Rattle.cxx_model.specs.declared.tree.Node.{Node}
use Rattle.cxx_model.specs.declared.types.TreeId.{TreeId}
use Rattle.cxx_reading.specs.Trees.{CxxTree}
use Rattle.cxx_tree.specs.Arena.{label_at, tree_over}
use Rattle.cxx_tree.specs.Held.{Held, tree, trees}
use Rattle.cxx_phrase_text.specs.Calls.{calls_of, CallOfText}
use Rattle.cxx_phrase_text.specs.Listing as listing
use Rattle.cxx_statement_text.specs.declared.form.Form.{Form}
use Rattle.cxx_statement_text.specs.Calls.{calls_as, calls_each, calls_first, clause_calls, first_calls, statement_calls}
use Rattle.cxx_statement_text.specs.Forms.{form_of}
use Rattle.cxx_statement_text.specs.Listed.{calls_at, calls_in_node, calls_of_parts}
use Rattle.cxx_statement_text.specs.Objects.{initializers_in}
use Rattle.cxx_statement_text.specs.Written.{facts_in, parts_in}
use Rattle.cxx_statement_text.proofs.Printing.{not_it}

-- ---- expressions

pub an_expression : (held : Held) (parts : List TreeId) (d : TreeId) → 1 ≤ length parts → listing.calls_at held (get_or parts 0 d) ≡ calls_first (parts_in held parts)
unfolding listing.calls_at
an_expression held [] d many = absurd (omega arith)
an_expression held (one ∷ parts) d many = refl

by_clause : (held : Held) (number : TreeId) → eqb (tree held number).label.production 25 ≡ false → listing.calls_at held number ≡ clause_calls (parts_in held (number ∷ []))
unfolding listing.calls_at
by_clause held number e = rw e refl

pub a_clause : (held : Held) (node : Node) (number : TreeId) → tree held number ≡ tree_over held.types (trees held) node → (node.production ≡ 25 → ⊥) → listing.calls_at held number ≡ clause_calls (parts_in held (number ∷ []))
a_clause held node number is other = by_clause held number (ap (λ (t : CxxTree). eqb t.label.production 25) is ∙ not_it node.production 25 other)

-- ---- initializers

abbrev calls_in : Option CxxTree → List CallOfText
calls_in None = []
calls_in (Some one) = calls_of one

by_first : (all : List CxxTree) → calls_in (slice_get all 0) ≡ first_calls all
by_first [] = refl
by_first (one ∷ others) = refl

pub an_initializer : (held : Held) (parts : List TreeId) (number : TreeId) → Some (tree held number) ≡ slice_get (initializers_in (parts_in held parts)) 0 → listing.calls_at held number ≡ first_calls (initializers_in (parts_in held parts))
unfolding listing.calls_at
an_initializer held parts number is = ap calls_in is ∙ by_first (initializers_in (parts_in held parts))

-- ---- statements

each_is : (held : Held) (parts : List TreeId) → calls_each (facts_in held) (parts_in held parts) ≡ calls_of_parts held parts
unfolding statement_calls
each_is held [] = refl
each_is held (one ∷ parts) = ap (λ (cs : List (List CallOfText)). statement_calls (facts_in held) (tree held one) ∷ cs) (each_is held parts)

pub calls_are : (held : Held) (node : Node) (number : TreeId) (f : Form) → tree held number ≡ tree_over held.types (trees held) node → f ≡ form_of node.production → calls_in_node held f node ≡ calls_at held number
unfolding statement_calls
calls_are held node number f is same =
    ap (λ (g : Form). calls_in_node held g node) same
    ∙ ap (calls_as (form_of node.production) (facts_in held) (label_at held.types node) (parts_in held node.children)) (sym (each_is held node.children))
    ∙ sym (ap (statement_calls (facts_in held)) is)
