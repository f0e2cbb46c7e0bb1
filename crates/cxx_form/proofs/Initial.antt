-- The first of a production among some trees; the initializer of a declarator, and the words of its line.
use Rattle.std.proofs.Common.{◌≡◌, ℕ, ◌<◌, List, [], ◌∷◌, ◌++◌, Option, Some, None, refl, ap, sym, ◌∙◌, append-nil, arith}
use Rattle.cxx_model.specs.declared.tree.Node.{Node}
use Rattle.cxx_model.specs.declared.types.TreeId.{TreeId}
use Rattle.cxx_page.specs.Sheets.{put, Sheet}
use Rattle.cxx_page.proofs.Put.{put_none}
use Rattle.cxx_phrase_text.specs.Calls.{calls_of, CallOfText}
use Rattle.cxx_phrase_text.specs.Listing.{calls_at}
use Rattle.cxx_phrase_text.specs.Written.{initializer_at}
use Rattle.cxx_reading.specs.Trees.{in_turn, CxxTree}
use Rattle.cxx_reading.specs.Words.{Word}
use Rattle.cxx_tree.specs.Arena.{tree_in, tree_over, trees_in, AreTreesBelow}
use Rattle.cxx_tree.specs.Held.{tree, trees, Held}
use Rattle.cxx_tree.proofs.Arenas.{below_later}
use Rattle.cxx_form.specs.declared.book.Book.{Book}
use Rattle.cxx_form.specs.Books.{graph_of, named_by, names_of, trees_of}
use Rattle.cxx_form.specs.Order.{first_tree}
use Rattle.cxx_form.specs.Parts.{initializer_among, object_parts}
use Rattle.cxx_form.specs.Text.{calls_of_trees, initializer_words, initializers_in, object_words}

-- ---- its words and its calls

abbrev words_of : Book → Option CxxTree → List Word
words_of book None = []
words_of book (Some one) = initializer_words (names_of book) (one ∷ [])

abbrev calls_in : Option CxxTree → List CallOfText
calls_in None = []
calls_in (Some one) = calls_of one

by_first : (book : Book) (all : List CxxTree) → words_of book (first_tree all) ≡ initializer_words (names_of book) all
by_first book [] = refl
by_first book (one ∷ others) = refl

calls_by_first : (all : List CxxTree) → calls_in (first_tree all) ≡ calls_of_trees all
calls_by_first [] = refl
calls_by_first (one ∷ others) = refl

pub no_initializer : (book : Book) (parts : List TreeId) (page : Sheet) → None ≡ first_tree (initializers_in (in_turn (trees_in (trees_of book) parts))) → put (initializer_among book parts) page ≡ Some page
unfolding initializer_among
no_initializer book parts page none = ap (λ (ws : List Word). put ws page) (sym (by_first book (initializers_in (in_turn (trees_in (trees_of book) parts)))) ∙ ap (words_of book) (sym none)) ∙ put_none page

pub an_initializer : (book : Book) (parts : List TreeId) (number : TreeId) → Some (tree_in (trees_of book) number.0) ≡ first_tree (initializers_in (in_turn (trees_in (trees_of book) parts))) → initializer_at (named_by book) number ≡ initializer_among book parts
unfolding initializer_among initializer_at
an_initializer book parts number is = ap (words_of book) is ∙ by_first book (initializers_in (in_turn (trees_in (trees_of book) parts)))

pub no_calls : (trees : List CxxTree) (parts : List TreeId) (old : List CallOfText) → None ≡ first_tree (initializers_in (in_turn (trees_in trees parts))) → old ≡ old ++ calls_of_trees (initializers_in (in_turn (trees_in trees parts)))
no_calls trees parts old none = sym (append-nil old) ∙ ap (λ (cs : List CallOfText). old ++ cs) (ap calls_in none ∙ calls_by_first (initializers_in (in_turn (trees_in trees parts))))

pub its_calls : (held : Held) (parts : List TreeId) (number : TreeId) → Some (tree held number) ≡ first_tree (initializers_in (in_turn (trees_in (trees held) parts))) → calls_at held number ≡ calls_of_trees (initializers_in (in_turn (trees_in (trees held) parts)))
unfolding calls_at
its_calls held parts number is = ap calls_in is ∙ calls_by_first (initializers_in (in_turn (trees_in (trees held) parts)))

pub object_is : (book : Book) (node : Node) (tree : TreeId) (number : ℕ) → tree_in (trees_of book) tree.0 ≡ tree_over book.state.now.types (trees_of book) node → object_parts book node number ≡ object_words (names_of book) (graph_of book) (tree_in (trees_of book) tree.0) number
unfolding object_parts initializer_among
object_is book node tree number is = sym (ap (λ (t : CxxTree). object_words (names_of book) (graph_of book) t number) is)

pub earlier_below : (number count : ℕ) (children : List TreeId) → AreTreesBelow number children → number < count → AreTreesBelow count children
earlier_below number count children all within = below_later number count children (omega arith) all
