-- From what a plain form is written: a state, and the tables that were made of it.
use Rattle.std.specs.Prelude.{ℤ, List, Option}
use Rattle.cxx_model.specs.declared.types.TypeId.{TypeId}
use Rattle.cxx_model.specs.Facts.Declarations.{graph_at, type_of_option, CxxFact, CxxGraph}
use Rattle.cxx_model.specs.Facts.Fitted.{Fitted}
use Rattle.cxx_model.specs.Types.Trees.{CxxType}
use Rattle.cxx_constant.specs.Constants.{constant}
use Rattle.cxx_phrase_text.specs.Named.{NamedState}
use Rattle.cxx_reading.specs.Plain.{type_or_void, NamesOfText}
use Rattle.cxx_form.specs.Definitions.{value_or_zero}
use Rattle.cxx_form.specs.Order.{text_order}
use Rattle.cxx_reading.specs.Trees.{CxxTree}
use Rattle.cxx_tree.specs.Held.{meaning, trees}
use Rattle.cxx_form.specs.declared.book.Book.{Book}
use Rattle.cxx_form.specs.Giving.{AreEnumerators, AreParts}
use Rattle.cxx_form.specs.Names.{names_in, AreClassTags, AreTags}
use Rattle.cxx_form.specs.Numbered.{IsNumbering}
use Rattle.cxx_form.specs.Sharing.{AreShared}
use Rattle.cxx_form.specs.Views.{facts_in}

abbrev pub names_of : Book → NamesOfText
names_of book = names_in book.state.now

-- its state, with what its text names things
abbrev pub named_by : Book → NamedState
named_by book = record { held = book.state.now; tags = (names_of book).tags; name = (names_of book).name_of }

abbrev pub facts_of : Book → List CxxFact
facts_of book = facts_in book.state.now

abbrev pub trees_of : Book → List CxxTree
trees_of book = trees book.state.now

abbrev pub graph_of : Book → CxxGraph
graph_of book = graph_at book.state.now.types book.state.now.graph

-- 5.19: the value of each constant, and 0 of what is none
abbrev pub value_of : Book → CxxTree → ℤ
value_of book tree = value_or_zero (constant (graph_of book) tree)

-- the type with a number, and `void` without one
abbrev pub type_for : Book → Option TypeId → CxxType
type_for book of = type_or_void (type_of_option book.state.now.types of)

-- The tables are those of the state.
pub record IsBook (book : Book) : Type 0 where
  pub fitted : Fitted book.state.now.graph book.state.now.types
  pub shared : AreShared (facts_in book.state.now) book.firsts.now
  pub numbered : IsNumbering (text_order (meaning book.state.now)) book.numbering.now.count book.numbering.now.slots
  pub classes : AreClassTags book.state.now book.tags.now.classes
  pub tagged : AreTags book.state.now book.tags.now.enumerations
  pub held : AreEnumerators (facts_in book.state.now) book.enumerators.now
  pub parts : AreParts (facts_in book.state.now) book.parts.now
