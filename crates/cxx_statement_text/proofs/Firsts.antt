-- What is written of the tree that stands first.
use Rattle.std.proofs.Common.{◌≡◌, ◌<◌, ◌≤◌, ℤ, Bool, false, eqb, List, [], ◌∷◌, length, get_or, Some, refl, ap, sym, ◌∙◌, arith}
use Rattle.cxx_model.specs.declared.tree.Node.{Node}
use Rattle.cxx_model.specs.declared.types.TreeId.{TreeId}
use Rattle.cxx_page.specs.Sheets.{put, Sheet}
use Rattle.cxx_page.proofs.Put.{put_none}
use Rattle.cxx_phrase_text.specs.Named.{NamedState, trees_of}
use Rattle.cxx_phrase_text.specs.Written.{phrase_at}
use Rattle.cxx_reading.specs.Trees.{CxxTree, CxxTrees}
use Rattle.cxx_reading.specs.Words.{Word}
use Rattle.cxx_tree.specs.Arena.{tree_in, tree_over, trees_in}
use Rattle.cxx_tree.specs.Held.{Held, tree, trees}
use Rattle.cxx_statement_text.specs.Objects.{Scene, first_name}
use Rattle.cxx_statement_text.specs.Statements.{clause_words, constant_words, converted_words, expression_words, first_words, one_object}
use Rattle.cxx_statement_text.specs.Written.{parts_in, scene_of}
use Rattle.cxx_statement_text.proofs.Printing.{not_it}
use Rattle.cxx_statement_text.proofs.Trees.{none_first}

-- ---- where there is none

module _ (words : CxxTrees → List Word) where
  nothing_first : (held : Held) (parts : List TreeId) (page : Sheet) → words (parts_in held []) ≡ [] → length parts < 1 → put (words (parts_in held parts)) page ≡ Some page
  nothing_first held parts page none short = ap (λ (ts : CxxTrees). put (words ts) page) (none_first held parts short) ∙ (ap (λ (ws : List Word). put ws page) none ∙ put_none page)

pub no_expression : (scene : Scene) (held : Held) (parts : List TreeId) (page : Sheet) → length parts < 1 → put (expression_words scene (parts_in held parts)) page ≡ Some page
no_expression scene held parts page short = nothing_first (expression_words scene) held parts page refl short

pub no_clause : (scene : Scene) (held : Held) (parts : List TreeId) (page : Sheet) → length parts < 1 → put (clause_words scene (parts_in held parts)) page ≡ Some page
no_clause scene held parts page short = nothing_first (clause_words scene) held parts page refl short

pub no_constant : (scene : Scene) (held : Held) (parts : List TreeId) (page : Sheet) → length parts < 1 → put (constant_words scene (parts_in held parts)) page ≡ Some page
no_constant scene held parts page short = nothing_first (constant_words scene) held parts page refl short

pub no_converted : (scene : Scene) (held : Held) (parts : List TreeId) (page : Sheet) → length parts < 1 → put (converted_words scene (parts_in held parts)) page ≡ Some page
no_converted scene held parts page short = nothing_first (converted_words scene) held parts page refl short

pub no_first_part : (scene : Scene) (held : Held) (parts : List TreeId) (page : Sheet) → length parts < 1 → put (first_words scene (parts_in held parts)) page ≡ Some page
no_first_part scene held parts page short = nothing_first (first_words scene) held parts page refl short

pub no_name : (scene : Scene) (all : List CxxTree) (numbers : List TreeId) (page : Sheet) → length numbers < 1 → put (first_name scene (trees_in all numbers)) page ≡ Some page
no_name scene all [] page short = put_none page
no_name scene all (one ∷ numbers) page short = absurd (omega arith)

pub no_object : (scene : Scene) (static : Bool) (all : List CxxTree) (numbers : List TreeId) (page : Sheet) → length numbers < 1 → put (one_object scene static (trees_in all numbers)) page ≡ Some page
no_object scene static all [] page short = put_none page
no_object scene static all (one ∷ numbers) page short = absurd (omega arith)

pub several_objects : (scene : Scene) (static : Bool) (all : List CxxTree) (numbers : List TreeId) (page : Sheet) → 2 ≤ length numbers → put (one_object scene static (trees_in all numbers)) page ≡ Some page
several_objects scene static all [] page many = absurd (omega arith)
several_objects scene static all (one ∷ []) page many = absurd (omega arith)
several_objects scene static all (one ∷ two ∷ numbers) page many = put_none page

-- ---- where there is one

module _ (named : NamedState) (value : CxxTree → ℤ) where
  pub an_expression : (parts : List TreeId) (d : TreeId) → 1 ≤ length parts → (phrase_at named (get_or parts 0 d)).words ≡ expression_words (scene_of named value) (parts_in named.held parts)
  unfolding phrase_at
  an_expression [] d many = absurd (omega arith)
  an_expression (one ∷ parts) d many = refl

  by_clause : (number : TreeId) → eqb (tree_in (trees_of named) number.0).label.production 25 ≡ false → (phrase_at named number).words ≡ clause_words (scene_of named value) (parts_in named.held (number ∷ []))
  unfolding phrase_at
  by_clause number e = rw e refl

  pub a_clause : (held : Held) (node : Node) (number : TreeId) → held ≡ named.held → tree held number ≡ tree_over held.types (trees held) node → (node.production ≡ 25 → ⊥) → (phrase_at named number).words ≡ clause_words (scene_of named value) (parts_in named.held (number ∷ []))
  a_clause held node number same is other =
      by_clause number (ap (λ (h : Held). eqb (tree h number).label.production 25) (sym same) ∙ ap (λ (t : CxxTree). eqb t.label.production 25) is ∙ not_it node.production 25 other)
