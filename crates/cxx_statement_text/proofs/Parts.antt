-- The parts of statements, by the nodes of their trees.
use Rattle.std.proofs.Common.{◌≡◌, ◌<◌, ◌≤◌, ℕ, suc, ℤ, Bool, true, false, List, [], ◌∷◌, ◌++◌, length, Option, Some, None, option_map, refl, sym, ap, subst, ◌∙◌, arith}
use Rattle.std.specs.Prelude.{flat_map}
use Rattle.std.specs.List.{slice_get}
use Rattle.std.proofs.lemmas.Option.{slice_get-map}
use Rattle.std.proofs.lemmas.List.Folds.{flat_map-map}
use Rattle.cxx_model.specs.declared.tree.Node.{Node}
use Rattle.cxx_model.specs.declared.types.TreeId.{TreeId}
use Rattle.cxx_phrase_text.specs.Named.{NamedState, trees_of}
use Rattle.cxx_reading.specs.Trees.{CxxTree}
use Rattle.cxx_tree.specs.Arena.{label_at, tree_in, tree_over, trees_in}
use Rattle.cxx_tree.specs.Held.{Held, trees}
use Rattle.cxx_statement_text.specs.declared.form.Form.{Form}
use Rattle.cxx_statement_text.specs.declared.form.Form.TheVariants as form
use Rattle.cxx_statement_text.specs.Forms.{form_of}
use Rattle.cxx_statement_text.specs.Statements.{Lines, Statement, all_lines, braced, closed, else_lines, empty, inner_as, is_block_as, is_nothing_as, label_lines, label_words, labelled_lines, lines_of, line, lines_or_empty, object_line, object_lines, otherwise_words, part, statement, statement_or_nothing, statements}
use Rattle.cxx_statement_text.specs.Written.{children_at, facts_in, inner_in, lines_at, lines_or_empty_at, object_line_at, parts_in, scene_of, statement_at, statement_found, statements_at}

abbrev is_block_in : TreeId → Held → Bool
is_block_in number held = is_block_as (form_of (tree_in (trees held) number.0).label.production) (facts_in held) (children_at held number)

abbrev is_nothing_in : TreeId → Held → Bool
is_nothing_in number held = is_nothing_as (form_of (tree_in (trees held) number.0).label.production) (facts_in held) (children_at held number)

module _ (named : NamedState) (value : CxxTree → ℤ) where
  -- the statements of trees are those of their numbers
  each_is : (numbers : List TreeId) → statements (scene_of named value) (parts_in named.held numbers) ≡ statements_at named value numbers
  unfolding statement_at
  each_is [] = refl
  each_is (one ∷ numbers) = ap (λ (ss : List Statement). statement (scene_of named value) (tree_in (trees_of named) one.0) ∷ ss) (each_is numbers)

  pub part_is : (parts : List TreeId) (i : ℕ) (found : Option TreeId) → found ≡ slice_get parts i → statement_found named value found ≡ part (statements_at named value parts) i
  part_is parts i found is = ap (statement_found named value) is ∙ ap statement_or_nothing (sym (slice_get-map (statement_at named value) parts i))

  -- a node, whose form is known
  here_is : (node : Node) (number : TreeId) (f : Form) (depth : ℕ) → tree_in (trees_of named) number.0 ≡ tree_over named.held.types (trees_of named) node → f ≡ form_of node.production → inner_in named value f node depth ≡ (statement_at named value number).inner depth
  unfolding statement_at
  here_is node number f depth is same =
      ap (λ (g : Form). inner_in named value g node depth) same
      ∙ ap (λ (ss : List Statement). inner_as (form_of node.production) (scene_of named value) (label_at named.held.types node) (parts_in named.held node.children) ss depth) (sym (each_is node.children))
      ∙ sym (ap (λ (t : CxxTree). (statement (scene_of named value) t).inner depth) is)

  pub inner_is : (held : Held) (node : Node) (number : TreeId) (f : Form) (depth : ℕ) → held ≡ named.held → tree_in (trees held) number.0 ≡ tree_over held.types (trees held) node → f ≡ form_of node.production → inner_in named value f node depth ≡ (statement_at named value number).inner depth
  inner_is held node number f depth same is it =
      here_is node number f depth (subst (λ (h : Held). tree_in (trees h) number.0 ≡ tree_over h.types (trees h) node) same is) it

  -- ---- blocks

  pub block_is : (held : Held) (number : TreeId) (depth : ℕ) (b : Bool) → held ≡ named.held → b ≡ is_block_as (form_of (tree_in (trees held) number.0).label.production) (facts_in held) (children_at held number) → b ≡ true → braced (statement_at named value number) depth ≡ lines_at named value depth number
  unfolding lines_at statement_at
  block_is held number depth b same is holds =
      let e : is_block_as (form_of (tree_in (trees_of named) number.0).label.production) (facts_in named.held) (children_at named.held number) ≡ true = sym (is ∙ ap (is_block_in number) same) ∙ holds in
      rw e refl

  pub no_block_is : (held : Held) (number : TreeId) (depth : ℕ) (b : Bool) → held ≡ named.held → b ≡ is_block_as (form_of (tree_in (trees held) number.0).label.production) (facts_in held) (children_at held number) → b ≡ false → (statement_at named value number).inner depth ≡ lines_at named value depth number
  unfolding lines_at statement_at
  no_block_is held number depth b same is fails =
      let e : is_block_as (form_of (tree_in (trees_of named) number.0).label.production) (facts_in named.held) (children_at named.held number) ≡ false = sym (is ∙ ap (is_block_in number) same) ∙ fails in
      rw e refl

  pub nothing_is : (held : Held) (number : TreeId) (depth : ℕ) (b : Bool) → held ≡ named.held → b ≡ is_nothing_as (form_of (tree_in (trees held) number.0).label.production) (facts_in held) (children_at held number) → b ≡ true → empty depth ≡ lines_or_empty_at named value depth number
  unfolding lines_or_empty_at statement_at
  nothing_is held number depth b same is holds =
      let e : is_nothing_as (form_of (tree_in (trees_of named) number.0).label.production) (facts_in named.held) (children_at named.held number) ≡ true = sym (is ∙ ap (is_nothing_in number) same) ∙ holds in
      rw e refl

  pub something_is : (held : Held) (number : TreeId) (depth : ℕ) (b : Bool) → held ≡ named.held → b ≡ is_nothing_as (form_of (tree_in (trees held) number.0).label.production) (facts_in held) (children_at held number) → b ≡ false → lines_at named value depth number ≡ lines_or_empty_at named value depth number
  unfolding lines_or_empty_at lines_at statement_at
  something_is held number depth b same is fails =
      let e : is_nothing_as (form_of (tree_in (trees_of named) number.0).label.production) (facts_in named.held) (children_at named.held number) ≡ false = sym (is ∙ ap (is_nothing_in number) same) ∙ fails in
      rw e refl

  -- ---- lists

  pub all_are : (numbers : List TreeId) (depth : ℕ) → flat_map (lines_at named value depth) numbers ≡ all_lines (statements_at named value numbers) depth
  unfolding lines_at
  all_are numbers depth = sym (flat_map-map (λ (s : Statement). lines_of s depth) (statement_at named value) numbers)

  pub each_or_empty : (numbers : List TreeId) (depth : ℕ) → flat_map (lines_or_empty_at named value depth) numbers ≡ labelled_lines (statements_at named value numbers) depth
  unfolding lines_or_empty_at
  each_or_empty numbers depth = sym (flat_map-map (λ (s : Statement). lines_or_empty s depth) (statement_at named value) numbers)

  pub objects_are : (static : Bool) (depth : ℕ) (numbers : List TreeId) → flat_map (object_line_at named value static depth) numbers ≡ object_lines (scene_of named value) static depth (trees_in (trees_of named) numbers)
  unfolding object_line_at
  objects_are static depth [] = refl
  objects_are static depth (one ∷ numbers) = ap (λ (ls : Lines). object_line (scene_of named value) static depth (tree_in (trees_of named) one.0) ++ ls) (objects_are static depth numbers)

  -- ---- what stands behind the first statement of an `if`

  pub no_else : (parts : List TreeId) (found : Option TreeId) (depth : ℕ) → found ≡ slice_get parts 2 → found ≡ None → closed depth ≡ else_lines depth (slice_get (statements_at named value parts) 2)
  no_else parts found depth is none = sym (ap (else_lines depth) (slice_get-map (statement_at named value) parts 2 ∙ ap (option_map (statement_at named value)) (sym is ∙ none)))

  pub an_else : (parts : List TreeId) (found : Option TreeId) (number : TreeId) (depth : ℕ) → found ≡ slice_get parts 2 → found ≡ Some number → line depth otherwise_words ++ ((statement_at named value number).inner (suc depth) ++ closed depth) ≡ else_lines depth (slice_get (statements_at named value parts) 2)
  an_else parts found number depth is some = sym (ap (else_lines depth) (slice_get-map (statement_at named value) parts 2 ∙ ap (option_map (statement_at named value)) (sym is ∙ some)))

  -- ---- by forms

  pub form_block : (node : Node) (f : Form) (parts : List TreeId) (depth : ℕ) → f ≡ form.Block → parts ≡ node.children → flat_map (lines_at named value depth) parts ≡ inner_in named value f node depth
  form_block node f parts depth same are =
      all_are parts depth
      ∙ ap (λ (ns : List TreeId). all_lines (statements_at named value ns) depth) are
      ∙ sym (ap (λ (g : Form). inner_in named value g node depth) same)

  pub behind_labels : (keyword : List ℕ) (parts : List TreeId) (depth : ℕ) → length keyword < 1 → flat_map (lines_or_empty_at named value depth) parts ≡ label_lines (scene_of named value) keyword (parts_in named.held parts) (statements_at named value parts) depth
  behind_labels [] parts depth short = each_or_empty parts depth
  behind_labels (b ∷ keyword) parts depth short = absurd (omega arith)

  pub a_label : (keyword : List ℕ) (parts : List TreeId) (depth : ℕ) → 1 ≤ length keyword → line depth (label_words (scene_of named value) keyword (parts_in named.held parts)) ≡ label_lines (scene_of named value) keyword (parts_in named.held parts) (statements_at named value parts) depth
  a_label [] parts depth many = absurd (omega arith)
  a_label (b ∷ keyword) parts depth many = refl

-- ---- asked of a node

pub block_asked : (held : Held) (node : Node) (number : TreeId) (f : Form) (parts : List TreeId) → tree_in (trees held) number.0 ≡ tree_over held.types (trees held) node → f ≡ form_of node.production → parts ≡ node.children → is_block_as f (facts_in held) (parts_in held parts) ≡ is_block_as (form_of (tree_in (trees held) number.0).label.production) (facts_in held) (children_at held number)
block_asked held node number f parts is same are =
    ap (λ (g : Form). is_block_as g (facts_in held) (parts_in held parts)) same
    ∙ ap (λ (ns : List TreeId). is_block_as (form_of node.production) (facts_in held) (parts_in held ns)) are
    ∙ sym (ap (λ (t : CxxTree). is_block_as (form_of t.label.production) (facts_in held) t.children) is)

pub nothing_asked : (held : Held) (node : Node) (number : TreeId) (f : Form) (parts : List TreeId) → tree_in (trees held) number.0 ≡ tree_over held.types (trees held) node → f ≡ form_of node.production → parts ≡ node.children → is_nothing_as f (facts_in held) (parts_in held parts) ≡ is_nothing_as (form_of (tree_in (trees held) number.0).label.production) (facts_in held) (children_at held number)
nothing_asked held node number f parts is same are =
    ap (λ (g : Form). is_nothing_as g (facts_in held) (parts_in held parts)) same
    ∙ ap (λ (ns : List TreeId). is_nothing_as (form_of node.production) (facts_in held) (parts_in held ns)) are
    ∙ sym (ap (λ (t : CxxTree). is_nothing_as (form_of t.label.production) (facts_in held) t.children) is)
