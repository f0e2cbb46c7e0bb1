-- Types are written with the printed names of enumerations.
use Rattle.std.proofs.Common.{◌≡◌, ℕ, List, [], ◌∷◌, ◌++◌, length, Option, Some, None, ap, sym, ◌∙◌, append_assoc}
use Rattle.std.specs.List.{slice_get}
use Rattle.cxx_model.specs.declared.types.TypeId.{TypeId}
use Rattle.cxx_model.specs.Facts.Fitted.{IsTypeNumberBelow}
use Rattle.cxx_model.specs.Facts.Graph.{IsTypeInRange}
use Rattle.cxx_page.specs.Sides.{back, front}
use Rattle.cxx_page.specs.Views.{tags_of}
use Rattle.cxx_page.proofs.Sides.{split}
use Rattle.cxx_reading.specs.Declarators.{no_cv}
use Rattle.cxx_reading.specs.Words.{declared, Word}
use Rattle.cxx_form.specs.declared.book.Book.{Book}
use Rattle.cxx_form.specs.Books.{names_of, type_for, IsBook}
use Rattle.cxx_form.specs.Names.{names_in}
use Rattle.cxx_form.specs.Shared.{representative}
use Rattle.cxx_form.specs.Views.{facts_in}
use Rattle.cxx_model.specs.Printing.Names.{printed_name}
use Rattle.cxx_reading.specs.TextOrder.{number_in, stem_of_fact, text_name}
use Rattle.cxx_form.specs.Order.{text_order}
use Rattle.cxx_tree.specs.Held.{meaning}
use Rattle.cxx_form.proofs.Tagged.{same_declared, AreSameTags}

same_tags : (book : Book) → IsBook book → AreSameTags (tags_of book.tags.now) (names_of book).tags book.state.now.graph
same_tags book is = record {
  classes = λ n within. is.classes n within;
  enums = λ n within. is.tagged n within;
}

in_range : (book : Book) (of : Option TypeId) → IsBook book → IsTypeNumberBelow (length book.state.now.types) of → IsTypeInRange book.state.now.graph (type_for book of)
in_range book None is below = tt
in_range book (Some of) is below = is.fitted.names of.0 below

pub declared_as : (book : Book) (of : Option TypeId) (inner : List Word) → IsBook book → IsTypeNumberBelow (length book.state.now.types) of → declared (names_of book).tags no_cv (type_for book of) inner ≡ front (tags_of book.tags.now) no_cv (type_for book of) ++ (inner ++ back (tags_of book.tags.now) (type_for book of))
declared_as book of inner is below =
    sym (same_declared (tags_of book.tags.now) (names_of book).tags book.state.now.graph (same_tags book is) no_cv (type_for book of) inner (in_range book of is below))
    ∙ split (tags_of book.tags.now) no_cv (type_for book of) inner

pub declared_with : (book : Book) (of : Option TypeId) (word : Word) → IsBook book → IsTypeNumberBelow (length book.state.now.types) of → declared (names_of book).tags no_cv (type_for book of) (word ∷ []) ≡ front (tags_of book.tags.now) no_cv (type_for book of) ++ (word ∷ [] ++ back (tags_of book.tags.now) (type_for book of))
declared_with book of word is below = declared_as book of (word ∷ []) is below

-- a name behind its class, and what stands behind it
pub behind_scope : (scope : List Word) (name : Word) (behind : List Word) → (scope ++ name ∷ []) ++ behind ≡ scope ++ (name ∷ behind)
behind_scope scope name behind = append_assoc scope (name ∷ []) behind

pub declared_alone : (book : Book) (of : Option TypeId) → IsBook book → IsTypeNumberBelow (length book.state.now.types) of → declared (names_of book).tags no_cv (type_for book of) [] ≡ front (tags_of book.tags.now) no_cv (type_for book of) ++ back (tags_of book.tags.now) (type_for book of)
declared_alone book of is below = declared_as book of [] is below

pub name_is : (book : Book) (number first place : ℕ) (word : List ℕ) → first ≡ representative (facts_in book.state.now) place → number ≡ number_in (text_order (meaning book.state.now)) first → word ≡ stem_of_fact (slice_get (facts_in book.state.now) first) → printed_name number word ≡ (names_of book).name_of place
unfolding names_in text_name
name_is book number first place word is numbered made =
    let order : List ℕ = text_order (meaning book.state.now) in
    ap (λ n. printed_name n word) numbered ∙ ap (printed_name (number_in order first)) made ∙ ap (λ (n : ℕ). printed_name (number_in order n) (stem_of_fact (slice_get (facts_in book.state.now) n))) is
