-- The definitions of classes, in the code: what their values stand for, given the trees and types of a state, and what is left
-- of a definition behind its beginning.
use Rattle.std.specs.Prelude.{ℕ, ◌≡◌, ◌<◌, ◌++◌, Bool, false, length, List, Option, None, Some}
use Rattle.cxx_model.specs.declared.types.TreeId.{TreeId}
use Rattle.cxx_model.specs.declared.types.TypeId.{TypeId}
use Rattle.cxx_model.specs.Text.Lexemes.{Lexeme}
use Rattle.cxx_model.specs.Types.Numbers.{type_at}
use Rattle.cxx_model.specs.Types.Trees.{CxxType, class_type}
use Rattle.cxx_reading.specs.declared.specifier.SpecifierPlace.TheVariants as where_
use Rattle.cxx_reading.specs.Declarators as declarators
use Rattle.cxx_reading.specs.Declarators.{Declarator, own_parameters}
use Rattle.cxx_reading.specs.Reads as reads
use Rattle.cxx_reading.specs.Reads.{Reads, Ahead, ◌>>=◌, give, ask, looked, taken, count_ahead, repeat}
use Rattle.cxx_reading.specs.Specifiers.{specifiers_from}
use Rattle.cxx_reading.specs.State.{CxxState}
use Rattle.cxx_reading.specs.Tokens.{path_taken}
use Rattle.cxx_reading.specs.Trees.{CxxTree, in_turn}
use Rattle.cxx_reading.specs.Units.{Said, declarator_tree, give_trees, name_in, no_declarators}
use Rattle.cxx_phrases.specs.Levels.{assignment_at}
use Rattle.cxx_answers.specs.Defaults.{begin_later, end_later}
use Rattle.cxx_cursor.specs.declared.declarator.Declarator as declarator
use Rattle.cxx_cursor.specs.declared.name.NameToken.{NameToken}
use Rattle.cxx_cursor.specs.declared.turn.Turn.{Turn}
use Rattle.cxx_cursor.specs.Views.{AreTreesHeld, IsDeclarator, IsTurn, declarator_of, name_of_option, trees_held, turn_at}
use Rattle.cxx_declare.specs.declared.class_definitions.MemberWords.{MemberWords}
use Rattle.cxx_declare.specs.ClassDefinitions.{declare_member, end_class}
use Rattle.cxx_declare.specs.Outside.{stand_in}
use Rattle.cxx_language.specs.Asked.{asked, inner_at, phrases_at}
use Rattle.cxx_language.specs.Classes as definition
use Rattle.cxx_language.specs.Classes.{class_at, class_tree, class_whole, declared_behind, is_virtual_member, list_at, member_step, name_of_path, no_anonymous_union, pure_ahead, type_of_member, value_or_pure, whole_member, with_class, with_parts, words_of_member}
use Rattle.cxx_language.specs.Later.{Declares, all_read}
use Rattle.cxx_later.specs.Defaults.{LaterDefault, defaults_in, defaults_kept}
use Rattle.cxx_later.specs.Passing.{ends_where}
use Rattle.cxx_later.specs.Waiting.{waiting_in}
use Rattle.cxx_space.specs.declared.classes.Begun.{Begun}
use Rattle.cxx_space.specs.declared.classes.Head.{Head}
use Rattle.cxx_space.specs.declared.classes.Members.{Members}
use Rattle.cxx_space.specs.declared.members.Labelled.{Labelled}
use Rattle.cxx_tree.specs.Held.{Held, type_of}
use Rattle.cxx_units.specs.declared.said.Said as said
use Rattle.cxx_units.specs.Said.{said_of}

-- ---- values

abbrev pub head_of : Head → definition.Head
head_of head = record { is_union = head.is_union; access = head.access; name = name_of_option head.name; place = head.place }

abbrev pub head_held : Held → Head → definition.Head
head_held held head = head_of head

-- the name of a class, where it has one
abbrev pub optional_name : Held → Option NameToken → Option Lexeme
optional_name held name = name_of_option name

abbrev pub begun_number : Held → Begun → ℕ
begun_number held begun = begun.class.0

-- a class, and the number of its type
pub record IsBegun (held : Held) (begun : Begun) : Type 0 where
  pub known : begun.of.0 < length held.types
  pub is : type_at held.types begun.of.0 ≡ class_type begun.class.0

abbrev pub members_of : Held → Members → definition.Members
members_of held so_far = record { trees = trees_held held so_far.trees; access = so_far.access }

abbrev pub AreMembers : Held → Members → Type 0
AreMembers held so_far = AreTreesHeld held so_far.trees

abbrev pub members_turn : Held → Turn Members (List TreeId) → reads.Turn definition.Members (List CxxTree)
members_turn held = turn_at (members_of held) (trees_held held)

abbrev pub IsMembersTurn : Held → Turn Members (List TreeId) → Type 0
IsMembersTurn held = IsTurn (AreMembers held) (AreTreesHeld held)

-- the name of a class with qualifiers, where the reader stands in what declares it then
abbrev pub qualified_name : Reads CxxState (Option Lexeme)
qualified_name = path_taken >>= name_of_path

-- ---- a member

-- The type is that of the declarator of a member, made of what the specifiers say.
pub record IsMemberDeclared (held : Held) (said : said.Said) (declarator : declarator.Declarator) (of : TypeId) : Type 0 where
  pub parts : IsDeclarator held declarator
  pub known : of.0 < length held.types
  pub is : type_of held of ≡ type_of_member (said_of held said) (declarator_of held declarator)

abbrev pub labelled_of : Labelled → definition.Labelled
labelled_of label = record { access = label.access; is_virtual = label.is_virtual }

-- once its value was read
abbrev pub member_ended : Bool → Bool → Option ℕ → Lexeme → CxxType → ℕ → List CxxTree → List CxxTree → Ahead → Reads CxxState Declares
member_ended is_pure is_first list name of number defaults parts from = looked >>= λ to. declared_behind is_pure is_first of list defaults (declarator_tree false name of number parts from to)

-- once what was passed over in its declarator is kept
abbrev pub member_kept : Bool → Bool → Option ℕ → ℕ → Bool → Lexeme → CxxType → ℕ → List CxxTree → List CxxTree → Ahead → Reads CxxState Declares
member_kept is_pure is_first list room is_static name of number defaults parts from =
    whole_member is_static name of >>= λ whole. value_or_pure is_pure room is_static name of number >>= λ value. member_ended is_pure is_first list name of number defaults (parts ++ value) from

-- once it is declared
abbrev pub member_numbered : ℕ → MemberWords → Bool → Option ℕ → Lexeme → CxxType → List CxxTree → Ahead → ℕ → Reads CxxState Declares
member_numbered room words is_first list name of parts from number =
    defaults_kept list (Some number) >>= λ defaults. member_kept words.is_pure is_first list room words.is_static name of number defaults parts from

-- once it is no bit-field and its declarator fits, and it is known whether it is pure
abbrev pub member_of : ℕ → MemberWords → Bool → Option ℕ → Lexeme → CxxType → List CxxTree → Ahead → Reads CxxState Declares
member_of room words is_first list name of parts from = ask (declare_member words list name of) >>= λ number. member_numbered room words is_first list name of parts from number

abbrev pub fitting_member : ℕ → definition.Labelled → Said → Bool → Declarator → Ahead → Reads CxxState Declares
fitting_member room label said is_first declarator from =
    pure_ahead (is_virtual_member label.is_virtual said (type_of_member said declarator)) >>= λ is_pure.
    member_of room (words_of_member label said (type_of_member said declarator) is_pure) is_first (own_parameters declarator.layers) (name_in declarator) (type_of_member said declarator) declarator.parts from

-- behind specifiers
abbrev pub members_at : ℕ → definition.Labelled → Said → Reads CxxState (List CxxTree)
members_at room label said state ahead = repeat (member_step room label said) give_trees (count_ahead ahead) no_declarators state ahead

-- ---- the whole

-- once it has ended: what was passed over in it and belongs to no declarator stands behind its members
abbrev pub class_left : definition.Head → ℕ → List CxxTree → declarators.Specifiers → Ahead → Reads CxxState declarators.Specifiers
class_left head n members so_far from = defaults_kept None None >>= λ left. looked >>= λ to. give (with_class so_far n (class_tree head n (members ++ left) from to))

-- behind the list of its members
abbrev pub class_ended : definition.Head → ℕ → List CxxTree → declarators.Specifiers → ℕ → Ahead → Reads CxxState declarators.Specifiers
class_ended head n members so_far outside from = ask (end_class n head.place) >>= λ ended. ask (stand_in outside) >>= λ outer. no_anonymous_union head >>= λ whole. class_left head n members so_far from

-- from the `{` on, where it has begun and has these bases
abbrev pub class_opened : ℕ → definition.Head → ℕ → List CxxTree → declarators.Specifiers → ℕ → Ahead → Reads CxxState declarators.Specifiers
class_opened room head n bases so_far outside from = taken >>= λ opened. list_at room head bases >>= λ members. class_ended head n members so_far outside from

-- a class, and the specifiers behind it, of a member
abbrev pub class_then : ℕ → declarators.Specifiers → Reads CxxState declarators.Specifiers
class_then room so_far = class_at room so_far >>= specifiers_from (asked room).kinds (inner_at room).types where_.Member

-- the same of a declaration, with the default arguments and the bodies in the class
abbrev pub whole_then : ℕ → declarators.Specifiers → Reads CxxState declarators.Specifiers
whole_then room so_far = class_whole room so_far >>= specifiers_from (asked room).kinds (inner_at room).types where_.Declaration

-- a default argument, where the reader stands in the scope of its list, up to where it stands where it stood before
abbrev pub default_inside : LaterDefault → ℕ → Reads CxxState (Unit {0})
default_inside one outside =
    ask begin_later >>= λ begun. assignment_at (phrases_at one.room) (inner_at one.room).phrases >>= λ tree. ask (end_later one.equals one.number one.index one.of tree) >>= λ kept. ask (stand_in outside) >>= λ left. ends_where one.last

-- behind a class that stands from one place up to another: the default arguments and the bodies in it
abbrev pub bodies_then : ℕ → Ahead → declarators.Specifiers → Reads CxxState declarators.Specifiers
bodies_then room from one = looked >>= λ to. all_read from to (defaults_in (in_turn one.parts)) (waiting_in room (in_turn one.parts)) >>= λ bodies. give (with_parts one bodies)
