-- The objects of declarations, by the nodes of their declarators.
use Rattle.std.proofs.Common.{◌≡◌, ◌<◌, ℕ, ℤ, Bool, true, false, List, [], ◌∷◌, length, Option, Some, None, refl, ap, sym, subst, ◌∙◌, arith}
use Rattle.std.specs.Prelude.{flat_map}
use Rattle.std.specs.List.{slice_get}
use Rattle.cxx_model.specs.declared.types.TreeId.{TreeId}
use Rattle.cxx_page.specs.Sheets.{put, put_lines, Sheet}
use Rattle.cxx_page.proofs.Put.{put_none}
use Rattle.cxx_phrase_text.specs.Named.{NamedState, trees_of}
use Rattle.cxx_phrase_text.specs.Phrases.{initializer_words}
use Rattle.cxx_phrase_text.specs.Written.{initializer_at}
use Rattle.cxx_reading.specs.Trees.{CxxTree}
use Rattle.cxx_reading.specs.Words.{Word}
use Rattle.cxx_tree.specs.Arena.{AreTreesBelow, trees_in}
use Rattle.cxx_tree.specs.Held.{Held, tree, trees}
use Rattle.cxx_tree.proofs.Arenas.{below_later}
use Rattle.cxx_statement_text.specs.Objects.{first_initializer, first_name, initializers_in, is_static, printed_in}
use Rattle.cxx_statement_text.specs.Statements.{Lines, declaration_lines, first_objects, has_several, is_first_static, object_lines, one_object, several_lines}
use Rattle.cxx_statement_text.specs.Written.{AreTrees, facts_in, object_line_at, parts_in, scene_of}
use Rattle.cxx_statement_text.proofs.Lining.{lines_none}
use Rattle.cxx_statement_text.proofs.Parts.{objects_are}

pub earlier_below : (number count : ℕ) (children : List TreeId) → AreTreesBelow number children → number < count → AreTreesBelow count children
earlier_below number count children all within = below_later number count children (omega arith) all

-- ---- how it is written

module _ (named : NamedState) (value : CxxTree → ℤ) where
  -- ---- initializers

  abbrev words_of : Option CxxTree → List Word
  words_of None = []
  words_of (Some one) = initializer_words named.tags named.name one

  by_first : (all : List CxxTree) → words_of (slice_get all 0) ≡ first_initializer (scene_of named value) all
  by_first [] = refl
  by_first (one ∷ others) = refl

  pub no_initializer : (held : Held) (parts : List TreeId) (page : Sheet) → held ≡ named.held → None ≡ slice_get (initializers_in (parts_in held parts)) 0 → put (first_initializer (scene_of named value) (initializers_in (parts_in named.held parts))) page ≡ Some page
  no_initializer held parts page same none =
      ap (λ (ws : List Word). put ws page) (sym (by_first (initializers_in (parts_in named.held parts))) ∙ ap words_of (sym (none ∙ ap (λ (h : Held). slice_get (initializers_in (parts_in h parts)) 0) same)))
      ∙ put_none page

  pub an_initializer : (held : Held) (parts : List TreeId) (number : TreeId) → held ≡ named.held → Some (tree held number) ≡ slice_get (initializers_in (parts_in held parts)) 0 → initializer_at named number ≡ first_initializer (scene_of named value) (initializers_in (parts_in named.held parts))
  unfolding initializer_at
  an_initializer held parts number same is =
      ap words_of (subst (λ (h : Held). Some (tree h number) ≡ slice_get (initializers_in (parts_in h parts)) 0) same is)
      ∙ by_first (initializers_in (parts_in named.held parts))

  -- ---- declarations

  sliced : (held : Held) (found slice : List TreeId) (wanted : List CxxTree) → slice ≡ found → AreTrees held found wanted → AreTrees held slice wanted
  sliced held found slice wanted same are = subst (λ (ns : List TreeId). AreTrees held ns wanted) (sym same) are

  printed_here : (held : Held) (parts found slice : List TreeId) → held ≡ named.held → slice ≡ found → AreTrees held found (printed_in (facts_in held) (parts_in held parts)) → AreTrees named.held slice (printed_in (facts_in named.held) (parts_in named.held parts))
  printed_here held parts found slice same e are = subst (λ (h : Held). AreTrees h slice (printed_in (facts_in h) (parts_in h parts))) same (sliced held found slice (printed_in (facts_in held) (parts_in held parts)) e are)

  pub found_below : (held : Held) (found slice : List TreeId) (wanted : List CxxTree) → held ≡ named.held → slice ≡ found → AreTrees held found wanted → AreTreesBelow (length (trees_of named)) slice
  found_below held found slice wanted same e are = subst (λ (h : Held). AreTreesBelow (length (trees h)) slice) same (sliced held found slice wanted e are).below

  pub declaration_is : (held : Held) (parts found slice : List TreeId) (static : Bool) (depth : ℕ) → held ≡ named.held → slice ≡ found → AreTrees held found (printed_in (facts_in held) (parts_in held parts)) → static ≡ is_static (parts_in held parts) → flat_map (object_line_at named value static depth) slice ≡ declaration_lines (scene_of named value) depth (parts_in named.held parts)
  declaration_is held parts found slice static depth same e are it =
      objects_are named value static depth slice
      ∙ ap (object_lines (scene_of named value) static depth) (printed_here held parts found slice same e are).is
      ∙ ap (λ b. object_lines (scene_of named value) b depth (printed_in (facts_in named.held) (parts_in named.held parts))) (it ∙ ap (λ (h : Held). is_static (parts_in h parts)) same)

  pub first_name_is : (held : Held) (parts found slice : List TreeId) → held ≡ named.held → slice ≡ found → AreTrees held found (printed_in (facts_in held) (parts_in held parts)) → first_name (scene_of named value) (trees_in (trees_of named) slice) ≡ first_name (scene_of named value) (printed_in (facts_in named.held) (parts_in named.held parts))
  first_name_is held parts found slice same e are = ap (first_name (scene_of named value)) (printed_here held parts found slice same e are).is

  pub one_object_is : (held : Held) (parts found slice : List TreeId) (static : Bool) → held ≡ named.held → slice ≡ found → AreTrees held found (printed_in (facts_in held) (parts_in held parts)) → static ≡ is_static (parts_in held parts) → one_object (scene_of named value) static (trees_in (trees_of named) slice) ≡ one_object (scene_of named value) (is_static (parts_in named.held parts)) (printed_in (facts_in named.held) (parts_in named.held parts))
  one_object_is held parts found slice static same e are it =
      ap (one_object (scene_of named value) static) (printed_here held parts found slice same e are).is
      ∙ ap (λ b. one_object (scene_of named value) b (printed_in (facts_in named.held) (parts_in named.held parts))) (it ∙ ap (λ (h : Held). is_static (parts_in h parts)) same)

  -- ---- before a `for`

  firsts_here : (held : Held) (parts found slice : List TreeId) → held ≡ named.held → slice ≡ found → AreTrees held found (first_objects (facts_in held) (parts_in held parts)) → AreTrees named.held slice (first_objects (facts_in named.held) (parts_in named.held parts))
  firsts_here held parts found slice same e are = subst (λ (h : Held). AreTrees h slice (first_objects (facts_in h) (parts_in h parts))) same (sliced held found slice (first_objects (facts_in held) (parts_in held parts)) e are)

  several_here : (held : Held) (parts found slice : List TreeId) (b : Bool) → held ≡ named.held → slice ≡ found → AreTrees held found (first_objects (facts_in held) (parts_in held parts)) → b ≡ has_several (trees_in (trees held) slice) → b ≡ has_several (first_objects (facts_in named.held) (parts_in named.held parts))
  several_here held parts found slice b same e are it =
      it ∙ ap (λ (h : Held). has_several (trees_in (trees h) slice)) same ∙ ap has_several (firsts_here held parts found slice same e are).is

  pub several_are : (held : Held) (parts found slice : List TreeId) (b static : Bool) (depth : ℕ) → held ≡ named.held → slice ≡ found → AreTrees held found (first_objects (facts_in held) (parts_in held parts)) → b ≡ has_several (trees_in (trees held) slice) → b ≡ true → static ≡ is_first_static (parts_in held parts) → flat_map (object_line_at named value static depth) slice ≡ several_lines (scene_of named value) (is_first_static (parts_in named.held parts)) depth (first_objects (facts_in named.held) (parts_in named.held parts))
  several_are held parts found slice b static depth same e are it stands fixed =
      objects_are named value static depth slice
      ∙ ap (object_lines (scene_of named value) static depth) (firsts_here held parts found slice same e are).is
      ∙ ap (λ s. object_lines (scene_of named value) s depth (first_objects (facts_in named.held) (parts_in named.held parts))) (fixed ∙ ap (λ (h : Held). is_first_static (parts_in h parts)) same)
      ∙ by_count (sym (several_here held parts found slice b same e are it) ∙ stands)
    where
      by_count : has_several (first_objects (facts_in named.held) (parts_in named.held parts)) ≡ true → object_lines (scene_of named value) (is_first_static (parts_in named.held parts)) depth (first_objects (facts_in named.held) (parts_in named.held parts)) ≡ several_lines (scene_of named value) (is_first_static (parts_in named.held parts)) depth (first_objects (facts_in named.held) (parts_in named.held parts))
      by_count few = rw few refl

  pub not_several_are : (held : Held) (parts found slice : List TreeId) (b : Bool) (depth : ℕ) (page : Sheet) → held ≡ named.held → slice ≡ found → AreTrees held found (first_objects (facts_in held) (parts_in held parts)) → b ≡ has_several (trees_in (trees held) slice) → b ≡ false → put_lines (several_lines (scene_of named value) (is_first_static (parts_in named.held parts)) depth (first_objects (facts_in named.held) (parts_in named.held parts))) page ≡ Some page
  not_several_are held parts found slice b depth page same e are it fails =
      ap (λ (ls : Lines). put_lines ls page) (by_count (sym (several_here held parts found slice b same e are it) ∙ fails)) ∙ lines_none page
    where
      by_count : has_several (first_objects (facts_in named.held) (parts_in named.held parts)) ≡ false → several_lines (scene_of named value) (is_first_static (parts_in named.held parts)) depth (first_objects (facts_in named.held) (parts_in named.held parts)) ≡ []
      by_count few = rw few refl
