-- The words of an initializer, by the node of its tree.
use Rattle.std.proofs.Common.{◌≡◌, ℕ, Bool, true, false, List, ◌∷◌, Some, refl, ap, sym, ◌∙◌}
use Rattle.std.specs.Prelude.{codes}
use Rattle.cxx_model.specs.declared.tree.Node.{Node}
use Rattle.cxx_model.specs.declared.types.TreeId.{TreeId}
use Rattle.cxx_page.specs.Sheets.{put, Sheet}
use Rattle.cxx_page.proofs.Put.{put_none}
use Rattle.cxx_reading.specs.Plain.{is_empty}
use Rattle.cxx_reading.specs.Trees.{CxxTree}
use Rattle.cxx_reading.specs.Words.{keyword_word}
use Rattle.cxx_tree.specs.Arena.{tree_in, tree_over}
use Rattle.cxx_tree.specs.Held.{trees, Held}
use Rattle.cxx_phrase_text.specs.Named.{trees_of, NamedState}
use Rattle.cxx_phrase_text.specs.Written.{element_at, initializer_at, phrase_at}

module _ (named : NamedState) (held : Held) (node : Node) (number : TreeId) (spelling : List ℕ) (b : Bool) where
  spelled : held ≡ named.held → tree_in (trees held) number.0 ≡ tree_over held.types (trees held) node → spelling ≡ node.spelling → b ≡ is_empty spelling → is_empty (tree_in (trees_of named) number.0).label.spelling ≡ b
  spelled same is text empty =
      ap (λ (h : Held). is_empty (tree_in (trees h) number.0).label.spelling) (sym same)
      ∙ ap (λ (t : CxxTree). is_empty t.label.spelling) is
      ∙ ap is_empty (sym text) ∙ sym empty

  none_written : is_empty (tree_in (trees_of named) number.0).label.spelling ≡ true → (page : Sheet) → put (initializer_at named number) page ≡ Some page
  unfolding initializer_at
  none_written e page = rw e (put_none page)

  some_written : is_empty (tree_in (trees_of named) number.0).label.spelling ≡ false → keyword_word (codes "=") ∷ element_at named number ≡ initializer_at named number
  unfolding initializer_at phrase_at
  some_written e = rw e refl

  pub no_initializer : (page : Sheet) → held ≡ named.held → tree_in (trees held) number.0 ≡ tree_over held.types (trees held) node → spelling ≡ node.spelling → b ≡ is_empty spelling → b ≡ true → put (initializer_at named number) page ≡ Some page
  no_initializer page same is text empty stands = none_written (spelled same is text empty ∙ stands) page

  pub an_initializer : held ≡ named.held → tree_in (trees held) number.0 ≡ tree_over held.types (trees held) node → spelling ≡ node.spelling → b ≡ is_empty spelling → b ≡ false → keyword_word (codes "=") ∷ element_at named number ≡ initializer_at named number
  an_initializer same is text empty stands = some_written (spelled same is text empty ∙ stands)
