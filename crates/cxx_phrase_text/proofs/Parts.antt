-- The parts of an expression, by the nodes of their trees.
use Rattle.std.proofs.Common.{◌≡◌, ℕ, zero, suc, ◌<◌, ◌-◌, Bool, true, false, not, List, [], ◌∷◌, ◌++◌, length, get_or, map, Option, Some, None, refl, ap, sym, subst, ◌∙◌, arith}
use Rattle.std.specs.Prelude.{IfSome, codes}
use Rattle.std.specs.List.{slice_get}
use Rattle.std.proofs.lemmas.Option.{slice_get-map}
use Rattle.std.proofs.lemmas.List.{append-nil, length-map}
use Rattle.cxx_model.specs.declared.tree.Node.{Node}
use Rattle.cxx_model.specs.declared.types.TreeId.{TreeId}
use Rattle.cxx_model.specs.Facts.Declarations.{type_of_option}
use Rattle.cxx_model.specs.Types.Trees.{CxxType}
use Rattle.cxx_page.specs.Sides.{closed, opened}
use Rattle.cxx_reading.specs.Plain.{target_or}
use Rattle.cxx_reading.specs.Trees.{in_turn}
use Rattle.cxx_reading.specs.Words.{close_word, keyword_word, open_word, Tags, within, Word}
use Rattle.cxx_tree.specs.Arena.{label_at, number_of_option, path_of_option, tree_in, tree_over, trees_in, AreTreesBelow}
use Rattle.cxx_tree.specs.Held.{Held, trees}
use Rattle.cxx_phrase_text.specs.declared.form.Form.{Form}
use Rattle.cxx_phrase_text.specs.declared.form.Form.TheVariants as form
use Rattle.cxx_phrase_text.specs.declared.form.Standing.{Standing}
use Rattle.cxx_phrase_text.specs.Forms.{form_of}
use Rattle.cxx_phrase_text.specs.Listed.{listed_words}
use Rattle.cxx_phrase_text.specs.Named.{trees_of, type_for, NamedState}
use Rattle.cxx_phrase_text.specs.Phrases.{arguments, braced, callee_words, call_words, cast_keyword, cast_words, element, elements, is_braced, is_by_name, is_comma, is_one_string, is_primary, last_part, part, phrase_as, phrase_of, phrase_or_nothing, phrases, Phrase}
use Rattle.cxx_phrase_text.specs.Written.{brace_parts, call_parts, cast_parts, element_at, elements_at, operand_at, phrase_at, phrase_found, phrase_in, phrases_at, zero_parts}
use Rattle.cxx_phrase_text.proofs.Casting.{cast_is, zero_is}
use Rattle.cxx_phrase_text.proofs.Listing.{all_listed}

-- ---- parts that are there

pub child_within : (count : ℕ) (parts : List TreeId) (i : ℕ) (found : Option TreeId) → AreTreesBelow count parts → found ≡ slice_get parts i → IfSome found (λ number. number.0 < count)
child_within count [] i None all is = tt
child_within count [] i (Some number) all is = absurd (no_number is)
  where
    no_number : Some number ≡ None → ⊥
    no_number same = cc
child_within count (one ∷ parts) zero None all is = tt
child_within count (one ∷ parts) zero (Some number) all is = by (some_same is)
  where
    some_same : Some number ≡ Some one → number ≡ one
    some_same same = cc

    by : number ≡ one → number.0 < count
    by same = rw same all.0
child_within count (one ∷ parts) (suc i) found all is = child_within count parts i found all.1 is

pub child_below : (count : ℕ) (parts : List TreeId) (i : ℕ) (d : TreeId) → AreTreesBelow count parts → i < length parts → (get_or parts i d).0 < count
child_below count [] i d all within = absurd (omega arith)
child_below count (n ∷ parts) zero d all within = all.0
child_below count (n ∷ parts) (suc i) d all within = child_below count parts i d all.1 (omega arith)

-- ---- parentheses

pub within_is : (stands : Bool) (words : List Word) → opened stands ++ (words ++ closed stands) ≡ within stands words
within_is true words = refl
within_is false words = append-nil words

module _ (named : NamedState) where
  -- how a tree stands does not depend on names
  standing_is : (held : Held) (number : TreeId) (found : Standing) → held ≡ named.held → ((tags : Tags) (name : ℕ → List ℕ) → found ≡ (phrase_at (record { held = held; tags = tags; name = name }) number).standing) → found ≡ (phrase_at named number).standing
  standing_is held number found same all = subst (λ (h : Held). found ≡ (phrase_at (record { held = h; tags = named.tags; name = named.name }) number).standing) same (all named.tags named.name)

  pub operand_is : (held : Held) (number : TreeId) (found : Standing) (alone : Bool) → held ≡ named.held → ((tags : Tags) (name : ℕ → List ℕ) → found ≡ (phrase_at (record { held = held; tags = tags; name = name }) number).standing) → alone ≡ is_primary found → opened (not alone) ++ ((phrase_at named number).words ++ closed (not alone)) ≡ operand_at named number
  operand_is held number found alone same all is =
      within_is (not alone) (phrase_at named number).words
      ∙ ap (λ (b : Bool). within (not b) (phrase_at named number).words) (is ∙ ap is_primary (standing_is held number found same all))

  pub element_is : (held : Held) (number : TreeId) (found : Standing) (stands : Bool) → held ≡ named.held → ((tags : Tags) (name : ℕ → List ℕ) → found ≡ (phrase_at (record { held = held; tags = tags; name = name }) number).standing) → stands ≡ is_comma found → opened stands ++ ((phrase_at named number).words ++ closed stands) ≡ element_at named number
  element_is held number found stands same all is =
      within_is stands (phrase_at named number).words
      ∙ ap (λ (b : Bool). within b (phrase_at named number).words) (is ∙ ap is_comma (standing_is held number found same all))

  -- ---- parts

  -- the phrases of trees are those of their numbers
  each_is : (parts : List TreeId) → phrases named.tags named.name (in_turn (trees_in (trees_of named) parts)) ≡ phrases_at named parts
  unfolding phrase_at
  each_is [] = refl
  each_is (one ∷ parts) = ap (λ (ps : List Phrase). phrase_of named.tags named.name (tree_in (trees_of named) one.0) ∷ ps) (each_is parts)

  pub part_is : (parts : List TreeId) (i : ℕ) (found : Option TreeId) → found ≡ slice_get parts i → phrase_found named found ≡ part (phrases_at named parts) i
  part_is parts i found is = ap (phrase_found named) is ∙ ap phrase_or_nothing (sym (slice_get-map (phrase_at named) parts i))

  pub last_is : (parts : List TreeId) (found : Option TreeId) → found ≡ slice_get parts (length parts - 1) → phrase_found named found ≡ last_part (phrases_at named parts)
  last_is parts found is = part_is parts (length parts - 1) found is ∙ ap (λ n. part (phrases_at named parts) (n - 1)) (sym (length-map parts (phrase_at named)))

  -- a node, whose form is known
  pub phrase_is : (node : Node) (number : TreeId) (form : Form) → tree_in (trees_of named) number.0 ≡ tree_over named.held.types (trees_of named) node → form ≡ form_of node.production → phrase_in named form node ≡ phrase_at named number
  unfolding phrase_at
  phrase_is node number form is same =
      ap (λ (f : Form). phrase_in named f node) same
      ∙ ap (phrase_as (form_of node.production) named.tags named.name (label_at named.held.types node) (is_one_string (in_turn (trees_in (trees_of named) node.children)))) (sym (each_is node.children))
      ∙ sym (ap (phrase_of named.tags named.name) is)

  -- ---- lists

  listed : (parts : List TreeId) → map element (phrases_at named parts) ≡ map (element_at named) parts
  listed [] = refl
  listed (one ∷ parts) = ap (λ (ws : List (List Word)). element_at named one ∷ ws) (listed parts)

  elements_are : (parts : List TreeId) → elements_at named parts ≡ elements (phrases_at named parts)
  elements_are parts = sym (all_listed (map element (phrases_at named parts)) ∙ ap (listed_words true) (listed parts))

  arguments_are : (by_name : Bool) (parts : List TreeId) → elements_at named (arguments by_name parts) ≡ elements (arguments by_name (phrases_at named parts))
  arguments_are true parts = elements_are parts
  arguments_are false [] = refl
  arguments_are false (one ∷ parts) = elements_are parts

  pub call_is : (of : Option CxxType) (number : ℕ) (by_name : Bool) (parts : List TreeId) → call_parts named of number by_name parts ≡ call_words named.tags named.name of number by_name (phrases_at named parts)
  unfolding call_parts
  call_is of number by_name parts = ap (λ (ws : List Word). callee_words named.tags named.name of number by_name (phrases_at named parts) ++ (open_word ∷ (ws ++ close_word ∷ []))) (arguments_are by_name parts)

  braces_are : (parts : List TreeId) (b : Bool) → b ≡ true → brace_parts named parts ≡ (braced b (phrases_at named parts)).words
  unfolding brace_parts
  braces_are parts b is = rw is (ap (λ (ws : List Word). keyword_word (codes "{") ∷ (ws ++ keyword_word (codes "}") ∷ [])) (elements_are parts))

  pub initial_is : (held : Held) (node : Node) (b : Bool) → held ≡ named.held → b ≡ is_braced (label_at held.types node) (is_one_string (in_turn (trees_in (trees held) node.children))) → b ≡ true → brace_parts named node.children ≡ (phrase_in named form.Initial node).words
  initial_is held node b same is stands =
      let here : Held → Bool = λ h. is_braced (label_at h.types node) (is_one_string (in_turn (trees_in (trees h) node.children))) in
      braces_are node.children (here named.held) (sym (is ∙ ap here same) ∙ stands)

  -- ---- by forms

  pub expression_is : (held : Held) (node : Node) (number : TreeId) (form : Form) → held ≡ named.held → tree_in (trees held) number.0 ≡ tree_over held.types (trees held) node → form ≡ form_of node.production → (phrase_in named form node).words ≡ (phrase_at named number).words
  expression_is held node number form same is it =
      let here : tree_in (trees_of named) number.0 ≡ tree_over named.held.types (trees_of named) node = subst (λ (h : Held). tree_in (trees h) number.0 ≡ tree_over h.types (trees h) node) same is in
      ap (λ (p : Phrase). p.words) (phrase_is node number form here it)

  pub form_call : (node : Node) (f : Form) (by_name : Bool) (parts : List TreeId) → f ≡ form.Call → by_name ≡ is_by_name (path_of_option node.path) → parts ≡ node.children
      → call_parts named (type_of_option named.held.types node.of) (target_or (number_of_option node.target)) by_name parts ≡ (phrase_in named f node).words
  form_call node f by_name parts same by are =
      let of : Option CxxType = type_of_option named.held.types node.of in
      let number : ℕ = target_or (number_of_option node.target) in
      call_is of number by_name parts
      ∙ ap (λ (b : Bool). call_words named.tags named.name of number b (phrases_at named parts)) by
      ∙ ap (λ (ns : List TreeId). call_words named.tags named.name of number (is_by_name (path_of_option node.path)) (phrases_at named ns)) are
      ∙ sym (ap (λ (g : Form). (phrase_in named g node).words) same)

  pub form_zero : (node : Node) (f : Form) → f ≡ form.Zero → zero_parts named.tags (type_for named node.of) ≡ (phrase_in named f node).words
  form_zero node f same = zero_is named.tags (type_for named node.of) ∙ sym (ap (λ (g : Form). (phrase_in named g node).words) same)

  pub form_cast : (node : Node) (f : Form) (spelling : List ℕ) (parts : List TreeId) → f ≡ form.Cast → spelling ≡ node.spelling → parts ≡ node.children → cast_parts named.tags (cast_keyword spelling) (type_for named node.of) (last_part (phrases_at named parts)).words ≡ (phrase_in named f node).words
  form_cast node f spelling parts same spelled are =
      cast_is named.tags (cast_keyword spelling) (type_for named node.of) (last_part (phrases_at named parts)).words
      ∙ ap (λ (text : List ℕ). cast_words named.tags (cast_keyword text) (type_for named node.of) (last_part (phrases_at named parts)).words) spelled
      ∙ ap (λ (ns : List TreeId). cast_words named.tags (cast_keyword node.spelling) (type_for named node.of) (last_part (phrases_at named ns)).words) are
      ∙ sym (ap (λ (g : Form). (phrase_in named g node).words) same)
