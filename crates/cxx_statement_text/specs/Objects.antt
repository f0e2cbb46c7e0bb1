-- The objects that a declaration in a block declares there, and how each is written (7.1.1, clause 8, 8.5).
use Rattle.std.specs.Prelude.{ℕ, ℤ, Bool, true, false, ◌&&◌, if◌then◌else◌, nat_eq, List, [], ◌∷◌, ◌++◌, Option, Some, None, codes}
use Rattle.std.specs.List.{slice_get}
use Rattle.std.specs.Str.{bytes_eq}
use Rattle.cxx_model.specs.Facts.Declarations as facts
use Rattle.cxx_model.specs.Facts.Declarations.{CxxFact, Declares}
use Rattle.cxx_model.specs.Facts.Entities.{first_or}
use Rattle.cxx_reading.specs.Declarators.{no_cv}
use Rattle.cxx_reading.specs.Plain.{is_empty, target_or, type_or_void}
use Rattle.cxx_reading.specs.Productions as read
use Rattle.cxx_reading.specs.Trees.{CxxTree, CxxTrees, no_trees, tree_then}
use Rattle.cxx_reading.specs.Words.{Word, Tags, keyword_word, name_word, declared}
use Rattle.cxx_phrase_text.specs.Phrases.{initializer_words}

-- By what statements are written.
pub record Scene : Type 0 where
  -- the names of classes and enumerations
  pub tags : Tags
  -- the name of each declaration
  pub name : ℕ → List ℕ
  -- what is declared
  pub facts : List CxxFact
  -- 5.19: the value of each constant
  pub value : CxxTree → ℤ

-- ---- which

abbrev pub first_by : ℕ → Declares → Option ℕ
first_by number (facts.object of member is_mutable value first) = Some (first_or number first)
first_by number _ = None

abbrev pub first_of_fact : ℕ → Option CxxFact → Option ℕ
first_of_fact number None = None
first_of_fact number (Some fact) = first_by number fact.what

abbrev pub first_found : List CxxFact → Option ℕ → Option ℕ
first_found all None = None
first_found all (Some number) = first_of_fact number (slice_get all number)

-- the first declaration of the object that a declarator declares, where it declares one
abbrev pub first_in : List CxxFact → CxxTree → Option ℕ
first_in all tree = first_found all tree.label.target

abbrev pub is_found : {A : Type 0} → Option A → Bool
is_found None = false
is_found (Some a) = true

-- A function prints nothing in a block, nor does an object with `extern`, by which its declarator is spelled.
abbrev pub prints : List CxxFact → CxxTree → Bool
prints all tree = is_empty tree.label.spelling && is_found (first_in all tree)

abbrev pub if_printed : List CxxFact → CxxTree → List CxxTree
if_printed all tree = if prints all tree then tree ∷ [] else []

-- the declarators that print, in order
abbrev pub printed_in : List CxxFact → CxxTrees → List CxxTree
printed_in all no_trees = []
printed_in all (tree_then label children next) =
    (if nat_eq label.production read.declarator then if_printed all (record { label = label; children = children }) else printed_in all children) ++ printed_in all next

-- the word of storage of a declaration: its specifiers stand first, and are spelled by it
abbrev pub storage_in : CxxTrees → List ℕ
storage_in no_trees = []
storage_in (tree_then label children next) = if nat_eq label.production read.specifiers then label.spelling else storage_in children

abbrev pub is_static : CxxTrees → Bool
is_static children = bytes_eq (storage_in children) (codes "static")

-- ---- how

-- the initializers among the parts of a declarator
abbrev pub initializers_in : CxxTrees → List CxxTree
initializers_in no_trees = []
initializers_in (tree_then label children next) =
    if nat_eq label.production read.initializer then record { label = label; children = children } ∷ initializers_in next else initializers_in next

abbrev pub first_initializer : Scene → List CxxTree → List Word
first_initializer scene [] = []
first_initializer scene (tree ∷ others) = initializer_words scene.tags scene.name tree

abbrev pub name_of : Scene → CxxTree → Word
name_of scene tree = name_word (scene.name (target_or (first_in scene.facts tree)))

abbrev pub static_words : Bool → List Word
static_words true = keyword_word (codes "static") ∷ []
static_words false = []

-- an object, whether it is static
abbrev pub object_words : Scene → Bool → CxxTree → List Word
object_words scene static tree =
    static_words static ++ (declared scene.tags no_cv (type_or_void tree.label.of) (name_of scene tree ∷ []) ++ first_initializer scene (initializers_in tree.children))

-- the name of the one object that a condition declares
abbrev pub first_name : Scene → List CxxTree → List Word
first_name scene [] = []
first_name scene (tree ∷ others) = name_of scene tree ∷ []
