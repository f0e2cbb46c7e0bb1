-- Conditions, by the nodes of their trees.
use Rattle.std.proofs.Common.{◌≡◌, ℕ, ℤ, false, eqb, List, [], ◌∷◌, Option, Some, None, option_map, refl, ap, sym, subst, ◌∙◌}
use Rattle.cxx_model.specs.declared.tree.Node.{Node}
use Rattle.cxx_model.specs.declared.types.TreeId.{TreeId}
use Rattle.cxx_phrase_text.specs.Named.{NamedState, trees_of, type_for}
use Rattle.cxx_phrase_text.specs.Phrases.{cast_keyword, cast_words}
use Rattle.cxx_reading.specs.Plain.{type_or_void}
use Rattle.cxx_phrase_text.specs.Written.{cast_parts}
use Rattle.cxx_phrase_text.proofs.Casting.{cast_is}
use Rattle.cxx_reading.specs.Trees.{CxxTree}
use Rattle.cxx_reading.specs.Words.{Word}
use Rattle.cxx_tree.specs.Arena.{tree_over}
use Rattle.cxx_tree.specs.Held.{Held, tree, trees}
use Rattle.cxx_statement_text.specs.Statements.{clause_words, converted_words, declared_in, first_words}
use Rattle.cxx_statement_text.specs.Written.{children_at, parts_in, scene_of}
use Rattle.cxx_statement_text.proofs.Printing.{not_it}

-- ---- what is written

module _ (named : NamedState) (value : CxxTree → ℤ) where
  here : (held : Held) (node : Node) (number : TreeId) → held ≡ named.held → tree held number ≡ tree_over held.types (trees held) node → tree named.held number ≡ tree_over named.held.types (trees_of named) node
  here held node number same is = subst (λ (h : Held). tree h number ≡ tree_over h.types (trees h) node) same is

  abbrev made : CxxTree → List Word
  made t = cast_words named.tags (cast_keyword t.label.spelling) (type_or_void t.label.of) (converted_words (scene_of named value) t.children)

  by_cast : (number : TreeId) → eqb (tree named.held number).label.production 24 ≡ false → made (tree named.held number) ≡ converted_words (scene_of named value) (parts_in named.held (number ∷ []))
  by_cast number e = rw e refl

  pub cast_is_converted : (held : Held) (node : Node) (number : TreeId) (keyword spelling : List ℕ) (parts : List TreeId) → held ≡ named.held → tree held number ≡ tree_over held.types (trees held) node → (node.production ≡ 24 → ⊥) → keyword ≡ cast_keyword spelling → spelling ≡ node.spelling → parts ≡ node.children → cast_parts named.tags keyword (type_for named node.of) (converted_words (scene_of named value) (parts_in named.held parts)) ≡ converted_words (scene_of named value) (parts_in named.held (number ∷ []))
  cast_is_converted held node number keyword spelling parts same is other keyed spelled are =
      cast_is named.tags keyword (type_for named node.of) (converted_words (scene_of named value) (parts_in named.held parts))
      ∙ ap (λ (k : List ℕ). cast_words named.tags k (type_for named node.of) (converted_words (scene_of named value) (parts_in named.held parts))) (keyed ∙ ap cast_keyword spelled)
      ∙ ap (λ (ns : List TreeId). cast_words named.tags (cast_keyword node.spelling) (type_for named node.of) (converted_words (scene_of named value) (parts_in named.held ns))) are
      ∙ ap made (sym (here held node number same is))
      ∙ by_cast number (ap (λ (t : CxxTree). eqb t.label.production 24) (here held node number same is) ∙ not_it node.production 24 other)

  -- ---- by what the condition declares

  declared_here : (held : Held) (parts : List TreeId) (found : Option TreeId) → held ≡ named.held → option_map (children_at held) found ≡ declared_in (parts_in held parts) → option_map (children_at named.held) found ≡ declared_in (parts_in named.held parts)
  declared_here held parts found same is = subst (λ (h : Held). option_map (children_at h) found ≡ declared_in (parts_in h parts)) same is

  pub no_declared : (held : Held) (parts : List TreeId) (found : Option TreeId) → held ≡ named.held → option_map (children_at held) found ≡ declared_in (parts_in held parts) → found ≡ None → None ≡ declared_in (parts_in named.held parts)
  no_declared held parts found same is none = sym (ap (option_map (children_at named.held)) none) ∙ declared_here held parts found same is

  pub a_declared : (held : Held) (parts : List TreeId) (found : Option TreeId) (number : TreeId) → held ≡ named.held → option_map (children_at held) found ≡ declared_in (parts_in held parts) → found ≡ Some number → Some (children_at named.held number) ≡ declared_in (parts_in named.held parts)
  a_declared held parts found number same is some = sym (ap (option_map (children_at named.held)) some) ∙ declared_here held parts found same is

  -- ---- the first part of a `for`

  by_first : (number : TreeId) → eqb (tree named.held number).label.production 24 ≡ false → clause_words (scene_of named value) (parts_in named.held (number ∷ [])) ≡ first_words (scene_of named value) (parts_in named.held (number ∷ []))
  by_first number e = rw e refl

  pub first_clause : (held : Held) (node : Node) (number : TreeId) → held ≡ named.held → tree held number ≡ tree_over held.types (trees held) node → (node.production ≡ 24 → ⊥) → clause_words (scene_of named value) (parts_in named.held (number ∷ [])) ≡ first_words (scene_of named value) (parts_in named.held (number ∷ []))
  first_clause held node number same is other =
      by_first number (ap (λ (t : CxxTree). eqb t.label.production 24) (here held node number same is) ∙ not_it node.production 24 other)
