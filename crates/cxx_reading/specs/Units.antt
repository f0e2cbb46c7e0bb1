-- What readers of units are made of: declarators, simple declarations, linkage, and what is read of a unit (3.5, clause 7).
use Rattle.std.specs.Prelude.{ℕ, zero, Bool, true, false, not, ◌&&◌, ◌||◌, ◌==◌, if◌then◌else◌, List, [], ◌∷◌, ◌++◌, Option, Some, None, Ok, Err, codes}
use Rattle.std.specs.Str.{bytes_eq}
use Rattle.cxx_model.specs.declared.fault.FaultText.TheVariants as says
use Rattle.cxx_model.specs.declared.keyword.TheConstants as keyword
use Rattle.cxx_model.specs.declared.options.Options.{Options}
use Rattle.cxx_model.specs.declared.punct.TheConstants as punct
use Rattle.cxx_model.specs.declared.token.TokenKind.{TokenKind}
use Rattle.cxx_model.specs.declared.token.TokenKind.TheVariants.{Keyword, Text, End}
use Rattle.cxx_model.specs.Facts.Conflicts.{is_unknown}
use Rattle.cxx_model.specs.Facts.Declarations.{CxxGraph}
use Rattle.cxx_model.specs.Facts.Entities.{has_end}
use Rattle.cxx_model.specs.Stops.{Answer}
use Rattle.cxx_model.specs.Text.Lexemes.{Lexeme, nowhere}
use Rattle.cxx_model.specs.Types.Trees.{CxxType, array_of, class_type, qualified}
use Rattle.cxx_reading.specs.declared.specifier.StorageWord.{StorageWord}
use Rattle.cxx_reading.specs.declared.specifier.StorageWord.TheVariants as storage
use Rattle.cxx_reading.specs.Declarators.{Specifiers, type_of_specifiers, Declarator, declared_type, refused_in, is_refused, is_void, is_reference}
use Rattle.cxx_reading.specs.Declaring.{declare_synonym}
use Rattle.cxx_reading.specs.Labels.{label_from}
use Rattle.cxx_reading.specs.Productions as production
use Rattle.cxx_reading.specs.Reads.{Reads, Got, Asks, Ahead, Turn, More, Done, ◌>>=◌, got, give, ask, fault_at, looked, taken, kind_ahead, word_ahead, count_ahead, behind, repeat}
use Rattle.cxx_reading.specs.Specifiers.{path_of}
use Rattle.cxx_reading.specs.State.{CxxState}
use Rattle.cxx_reading.specs.Syntax.{specified_type}
use Rattle.cxx_reading.specs.Tokens.{is_punct, is_keyword, refused}
use Rattle.cxx_reading.specs.Trees.{CxxTree, tree_of}

-- ---- trees

abbrev pub storage_text : Option StorageWord → List ℕ
storage_text None = []
storage_text (Some storage.Auto) = codes "auto"
storage_text (Some storage.Extern) = codes "extern"
storage_text (Some storage.Mutable) = codes "mutable"
storage_text (Some storage.Register) = codes "register"
storage_text (Some storage.Static) = codes "static"
storage_text (Some storage.Typedef) = codes "typedef"

-- 7.1: the specifiers of a declaration, spelled by their storage word
abbrev pub specifiers_tree : Specifiers → Ahead → Ahead → CxxTree
specifiers_tree specifiers from to = tree_of (record (label_from production.specifiers (storage_text specifiers.storage) from to) { of = type_of_specifiers specifiers }) specifiers.parts

-- a declarator of a declaration, spelled `extern` where its declaration has that word or counts as if it had it (7.5)
abbrev pub declarator_tree : Bool → Lexeme → CxxType → ℕ → List CxxTree → Ahead → Ahead → CxxTree
declarator_tree is_extern name of number parts from to = tree_of (record (label_from production.declarator (if is_extern then codes "extern" else []) from to) {
  place = name.place;
  path = Some (path_of name);
  of = Some of;
  target = Some number;
}) parts

-- ---- one declarator (8, 8.5)

-- what the specifiers say of each declarator
pub record Said : Type 0 where
  pub of : CxxType
  pub is_typedef : Bool
  pub is_extern : Bool
  -- 7.1.1, 9.4: of a member
  pub is_mutable : Bool
  pub is_static : Bool

abbrev pub no_token : Lexeme
no_token = record { kind = End; place = nowhere; spelling = [] }

abbrev pub token_or : Option Lexeme → Lexeme
token_or None = no_token
token_or (Some token) = token

-- the name of a declarator that has one
abbrev pub name_in : Declarator → Lexeme
name_in declarator = token_or declarator.name

-- 8.3, 3.9.1: the declared type is made of what it may be made of, and no object is void
unfoldable pub declared_fits : Said → Declarator → Reads CxxState (Unit {0})
declared_fits said declarator state ahead =
    if is_refused (refused_in declarator.layers said.of) || (not said.is_typedef && is_void (declared_type declarator.layers said.of))
    then fault_at (name_in declarator).place says.OperandsDoNotFit state ahead
    else got tt state ahead

-- 8.5: an object without an initializer that has to have one: an array without a bound, a reference, a constant
abbrev pub is_const_type : CxxType → Bool
is_const_type (qualified cv of) = cv.is_const
is_const_type (array_of of bound) = is_const_type of
is_const_type _ = false

-- 8.3.4: an array without a bound, or of such arrays
abbrev pub is_unbounded : CxxType → Bool
is_unbounded (array_of of bound) = is_unknown bound || is_unbounded of
is_unbounded _ = false

-- 9.2: a class whose end was not read, or an array of such
abbrev pub is_incomplete : CxxGraph → CxxType → Bool
is_incomplete graph (class_type n) = not (has_end n graph.facts)
is_incomplete graph (array_of of bound) = is_incomplete graph of
is_incomplete graph (qualified cv of) = is_incomplete graph of
is_incomplete graph _ = false

-- 3.9: an object is of a complete type
unfoldable pub complete_object : Lexeme → CxxType → Reads CxxState (Unit {0})
complete_object name of state ahead = if is_incomplete state.graph of then fault_at name.place says.IncompleteClass state ahead else got tt state ahead

-- 8.5: a class, or an array of such, whose objects are made by constructors
abbrev pub is_made_of_class : CxxType → Bool
is_made_of_class (class_type n) = true
is_made_of_class (array_of of bound) = is_made_of_class of
is_made_of_class (qualified cv of) = is_made_of_class of
is_made_of_class _ = false

-- what constructors do is not read yet (12.1)
unfoldable pub uninitialized : Lexeme → CxxType → Reads CxxState (List CxxTree)
uninitialized name of state ahead =
    if is_unbounded of || is_incomplete state.graph of then fault_at name.place says.IncompleteClass state ahead else (
    if is_made_of_class of then fault_at name.place says.NotBuilt state ahead else (
    if is_reference of || is_const_type of then fault_at name.place says.NoConversion state ahead else
    got [] state ahead))

abbrev pub ends_declarator : TokenKind → Bool
ends_declarator kind = is_punct punct.COMMA kind || is_punct punct.SEMICOLON kind

abbrev pub one_tree : CxxTree → Reads CxxState (List CxxTree)
one_tree tree = give (tree ∷ [])

unfoldable pub synonym_ended : Reads CxxState (Unit {0})
synonym_ended state ahead = if ends_declarator (kind_ahead ahead) then got tt state ahead else refused state ahead

unfoldable pub declared_synonym : Said → Declarator → Ahead → Reads CxxState CxxTree
declared_synonym said declarator from = do
  number ← ask (declare_synonym (name_in declarator) (declared_type declarator.layers said.of))
  ended ← synonym_ended
  to ← looked
  give (declarator_tree false (name_in declarator) (declared_type declarator.layers said.of) number declarator.parts from to)

-- ---- simple declarations (clause 7)

-- the trees of declarators that were read, and whether the next is the first
pub record Listed : Type 0 where
  pub trees : List CxxTree
  pub is_first : Bool

abbrev pub with_declarator : CxxTree → Listed → Listed
with_declarator tree so_far = record { trees = so_far.trees ++ tree ∷ []; is_first = false }

unfoldable pub declarator_ended : Listed → CxxTree → Reads CxxState (Turn Listed (List CxxTree))
declarator_ended so_far tree state ahead =
    if is_punct punct.COMMA (kind_ahead ahead) then got (More (with_declarator tree so_far)) state (behind ahead) else (
    if is_punct punct.SEMICOLON (kind_ahead ahead) then got (Done (with_declarator tree so_far).trees) state (behind ahead) else
    refused state ahead)

abbrev pub give_trees : Listed → Reads CxxState (List CxxTree)
give_trees so_far = give so_far.trees

abbrev pub no_declarators : Listed
no_declarators = record { trees = []; is_first = true }

abbrev pub is_some_storage : Option StorageWord → Bool
is_some_storage None = false
is_some_storage (Some word) = true

-- clause 7: without a declarator a declaration has to define an enumeration or to name a class
unfoldable pub nothing_declared : Specifiers → Reads CxxState (List CxxTree)
nothing_declared specifiers state ahead =
    if specifiers.stands_alone && not (is_some_storage specifiers.storage) then got [] state (behind ahead) else refused state ahead

abbrev pub is_typedef_word : Option StorageWord → Bool
is_typedef_word (Some storage.Typedef) = true
is_typedef_word _ = false

abbrev pub is_extern_word : Option StorageWord → Bool
is_extern_word (Some storage.Extern) = true
is_extern_word _ = false

abbrev pub is_mutable_word : Option StorageWord → Bool
is_mutable_word (Some storage.Mutable) = true
is_mutable_word _ = false

abbrev pub is_static_word : Option StorageWord → Bool
is_static_word (Some storage.Static) = true
is_static_word _ = false

-- 7.5: a linkage without braces counts as `extern` for its one declaration
abbrev pub said_by : Bool → Specifiers → Said
said_by counts_as_extern specifiers = record { of = specified_type specifiers; is_typedef = is_typedef_word specifiers.storage; is_extern = counts_as_extern || is_extern_word specifiers.storage; is_mutable = is_mutable_word specifiers.storage; is_static = is_static_word specifiers.storage }

abbrev pub simple_tree : CxxTree → List CxxTree → Ahead → Ahead → CxxTree
simple_tree specifiers declarators from to = tree_of (label_from production.simple_declaration [] from to) (specifiers ∷ declarators)

-- ---- declarations

abbrev pub empty_tree : Ahead → CxxTree
empty_tree from = tree_of (label_from production.empty_declaration [] from (behind from)) []

-- 7.3, 7.4, clause 14: a keyword with which another declaration begins
abbrev pub begins_another : ℕ → Bool
begins_another n = n == keyword.ASM || (n == keyword.EXPORT || (n == keyword.NAMESPACE || (n == keyword.USING || n == keyword.TEMPLATE)))

abbrev pub another_ahead : TokenKind → Bool
another_ahead (Keyword n) = begins_another n
another_ahead _ = false

-- ---- linkage (7.5)

abbrev pub is_text : TokenKind → Bool
is_text Text = true
is_text _ = false

abbrev pub is_linkage : Ahead → Bool
is_linkage ahead = is_keyword keyword.EXTERN (kind_ahead ahead) && is_text (kind_ahead (behind ahead))

abbrev pub is_language : List ℕ → Bool
is_language spelling = bytes_eq spelling (codes "\"C\"") || bytes_eq spelling (codes "\"C++\"")

-- `extern` and the name of a language, once more; it answers whether a brace follows
unfoldable pub linkage_step : Bool → Reads CxxState (Turn Bool Bool)
linkage_step any state ahead =
    if not (is_linkage ahead) then got (Done any) state ahead else (
    if is_language (word_ahead (behind ahead)) then got (More true) state (behind (behind ahead)) else
    refused state (behind ahead))

-- specifications of linkage, one after another: whether there are any
unfoldable pub linkages_passed : Reads CxxState Bool
linkages_passed state ahead = repeat linkage_step give (count_ahead ahead) false state ahead

abbrev pub linkage_tree : List CxxTree → Ahead → Ahead → CxxTree
linkage_tree inside from to = tree_of (label_from production.linkage [] from to) inside

unfoldable pub linkage_list : Reads CxxState (List CxxTree) → Reads CxxState (List CxxTree)
linkage_list inside = do
  opened ← taken
  inside

abbrev pub linked_tree : Ahead → List CxxTree → Reads CxxState CxxTree
linked_tree from trees = looked >>= λ to. give (linkage_tree trees from to)

unfoldable pub inside_step : (Reads CxxState CxxTree) → List CxxTree → Reads CxxState (Turn (List CxxTree) (List CxxTree))
inside_step declaration so_far state ahead =
    if is_punct punct.RIGHT_BRACE (kind_ahead ahead) then got (Done so_far) state (behind ahead) else
    (declaration >>= λ tree. give (More (so_far ++ tree ∷ []))) state ahead

-- ---- the unit

abbrev pub with_part : CxxTree → CxxState → CxxState
with_part tree state = record state { parts = state.parts ++ record { tree = tree; scope = zero; uses = state.uses } ∷ []; uses = []; offered = [] }

abbrev pub part_added : CxxTree → Asks CxxState (Unit {0})
part_added tree state = Ok (tt, with_part tree state)

-- What is read of a unit: what is declared, the trees of its declarations, and its calls.
pub record CxxReading : Type 0 where
  pub options : Options
  pub state : CxxState

abbrev pub read_as : Options → Answer (Got CxxState (Unit {0})) → Answer CxxReading
read_as options (Ok one) = Ok (record { options = options; state = one.state })
read_as options (Err why) = Err why
