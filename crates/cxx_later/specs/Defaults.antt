-- Default arguments of functions in a class (8.3.6) are passed over where they stand, and read where the outermost class has ended.
use Rattle.std.specs.Prelude.{ℕ, Bool, true, false, ◌||◌, ◌&&◌, nat_eq, if◌then◌else◌, List, [], ◌∷◌, ◌++◌, Option, Some, None}
use Rattle.cxx_later.specs.declared.defaults.Span.{Span}
use Rattle.cxx_later.specs.Passing.{never_closed, token_passed}
use Rattle.cxx_model.specs.declared.place.Place.{Place}
use Rattle.cxx_model.specs.declared.punct.TheConstants as punct
use Rattle.cxx_model.specs.declared.token.TokenKind.{TokenKind}
use Rattle.cxx_model.specs.Types.Trees.{CxxType}
use Rattle.cxx_reading.specs.Labels.{label_from}
use Rattle.cxx_reading.specs.Productions as production
use Rattle.cxx_reading.specs.Reads.{Reads, Ahead, Turn, More, Done, ◌>>=◌, got, give, kind_ahead, count_ahead, repeat}
use Rattle.cxx_reading.specs.State.{CxxOffered, CxxState}
use Rattle.cxx_reading.specs.Tokens.{is_punct}
use Rattle.cxx_reading.specs.Trees.{CxxTree, CxxTrees, Label, no_trees, tree_of, tree_then}
use Rattle.cxx_tree.specs.Defaults.{without_offers}

-- ---- passing over

-- 8.3.6: what ends a default argument outside of brackets
abbrev pub ends_parameter : TokenKind → Bool
ends_parameter kind = is_punct punct.COMMA kind || (is_punct punct.RIGHT_PARENTHESIS kind || is_punct punct.ELLIPSIS kind)

-- no bracket is open
abbrev pub are_closed : List ℕ → Bool
are_closed [] = true
are_closed (n ∷ others) = false

unfoldable pub deferred_step : List ℕ → Reads (Unit {0}) (Turn (List ℕ) (Unit {0}))
deferred_step closers state ahead =
    if are_closed closers && ends_parameter (kind_ahead ahead) then got (Done tt) state ahead else
    (token_passed closers >>= λ left. give (More left)) state ahead

-- from behind the `=` of a default argument up to what ends it
unfoldable pub deferred_passed : Reads (Unit {0}) (Unit {0})
deferred_passed state ahead = repeat deferred_step never_closed (count_ahead ahead) [] state ahead

-- ---- its trees

-- The numbers of the productions of a default argument that was passed over, which stands for its tokens; of one that is read
-- later; and of a number that is kept with it.
abbrev pub passed_default : ℕ
passed_default = 57

abbrev pub later_default : ℕ
later_default = 58

abbrev pub kept_number : ℕ
kept_number = 59

-- One that was passed over has the place of its `=`, the type of its parameter, and with room for how many more brackets it
-- stands.
abbrev pub passed_default_tree : ℕ → Place → CxxType → Ahead → Ahead → CxxTree
passed_default_tree room equals of from to = tree_of (record (label_from passed_default [] from to) { place = equals; of = Some of; target = Some room }) []

-- where a label stands
abbrev pub span_of : Label → Span
span_of label = record { first = label.first; last = label.last; start = label.start; place = label.place }

abbrev pub kept_tree : ℕ → Span → Option CxxType → Option ℕ → List CxxTree → CxxTree
kept_tree number span of target children = tree_of (record { production = number; spelling = []; first = span.first; last = span.last; start = span.start; place = span.place; path = None; operand = None; of = of; target = target; call = None }) children

abbrev pub number_tree : ℕ → Span → CxxTree
number_tree n span = kept_tree kept_number span None (Some n) []

-- ---- what a declaration keeps

-- A default argument belongs to the function that is declared where it stands in the list of that. One of a list further in is
-- told by no declaration.
abbrev pub own_number : Option ℕ → Option ℕ → ℕ → Option ℕ
own_number None number scope = None
own_number (Some list) number scope = if nat_eq list scope then number else None

-- over what was passed over, the scope of its list, and the index of its parameter
abbrev pub later_tree : Option ℕ → Option ℕ → CxxOffered → CxxTree
later_tree list number one = kept_tree later_default (span_of one.tree.label) one.tree.label.of (own_number list number one.scope) (one.tree ∷ number_tree one.scope (span_of one.tree.label) ∷ number_tree one.index (span_of one.tree.label) ∷ [])

abbrev pub is_passed : CxxOffered → Bool
is_passed one = nat_eq one.tree.label.production passed_default

abbrev pub later_trees : Option ℕ → Option ℕ → List CxxOffered → List CxxTree
later_trees list number [] = []
later_trees list number (one ∷ others) = if is_passed one then later_tree list number one ∷ later_trees list number others else later_trees list number others

-- Those that were passed over in a declarator are kept for the end of the class, with the scope of the list of its function and
-- the number of its declaration.
unfoldable pub defaults_kept : Option ℕ → Option ℕ → Reads CxxState (List CxxTree)
defaults_kept list number state ahead = got (later_trees list number state.offered) (without_offers state) ahead

-- ---- what is read later

-- A default argument that was passed over: the place of its `=`, the type of its parameter, the declaration of its function
-- where that tells it, the scope of its list and the index of its parameter, how many tokens are left before it and behind
-- it, and with room for how many more brackets it stands.
pub record LaterDefault : Type 0 where
  pub equals : Place
  pub of : CxxType
  pub number : Option ℕ
  pub list : ℕ
  pub index : ℕ
  pub first : ℕ
  pub last : ℕ
  pub room : ℕ

abbrev pub default_with : Label → Option CxxType → Option ℕ → Option ℕ → Option ℕ → List LaterDefault
default_with label (Some of) (Some room) (Some list) (Some index) = record { equals = label.place; of = of; number = label.target; list = list; index = index; first = label.first; last = label.last; room = room } ∷ []
default_with label of room list index = []

abbrev pub default_last : Label → Option ℕ → Option ℕ → CxxTrees → List LaterDefault
default_last label room list no_trees = []
default_last label room list (tree_then index parts next) = default_with label label.of room list index.target

abbrev pub default_behind : Label → Option ℕ → CxxTrees → List LaterDefault
default_behind label room no_trees = []
default_behind label room (tree_then list parts next) = default_last label room list.target next

abbrev pub default_by : Label → CxxTrees → List LaterDefault
default_by label no_trees = []
default_by label (tree_then passed parts next) = default_behind label passed.target next

-- those in trees, in order
abbrev pub defaults_in : CxxTrees → List LaterDefault
defaults_in no_trees = []
defaults_in (tree_then label children next) =
    if nat_eq label.production later_default then default_by label children ++ defaults_in next else (
    if nat_eq label.production production.declarator then defaults_in next else
    defaults_in children ++ defaults_in next)
