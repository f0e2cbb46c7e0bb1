-- The heads of definitions of functions.
use Rattle.std.specs.Prelude.{if◌then◌else◌}
use Rattle.std.proofs.Common.{◌≡◌, ℕ, Bool, true, false, List, [], ◌∷◌, ◌++◌, map, Option, Some, None, option_map, refl, ap, sym, ◌∙◌, append_assoc}
use Rattle.std.specs.List.{slice_get}
use Rattle.cxx_model.specs.declared.base.Base.TheVariants.{Void}
use Rattle.cxx_model.specs.declared.facts.Fact.{Fact}
use Rattle.cxx_model.specs.declared.types.FactId.{FactId}
use Rattle.cxx_model.specs.declared.types.TreeId.{TreeId}
use Rattle.cxx_model.specs.Facts.Declarations.{declares_at}
use Rattle.cxx_model.specs.Types.Trees.{CxxType, fundamental}
use Rattle.cxx_phrase_text.specs.Listed.{listed_words}
use Rattle.cxx_phrase_text.proofs.Listing.{all_listed}
use Rattle.cxx_reading.specs.Declarators.{no_cv}
use Rattle.cxx_reading.specs.Trees.{CxxTree}
use Rattle.cxx_reading.specs.Words.{close_word, declared, name_word, open_word, separated, Word}
use Rattle.cxx_statement_text.specs.Statements.{open_brace}
use Rattle.cxx_tree.specs.Held.{Held, tree}
use Rattle.cxx_form.specs.declared.book.Book.{Book}
use Rattle.cxx_form.specs.Books.{facts_of, graph_of, names_of}
use Rattle.cxx_form.specs.Definitions.{definition_words, ellipsis_words, first_of_declarator, function_first, function_first_by, function_name_words, has_ellipsis, head_words, object_type, object_type_by, parameter_words, result_of, type_of_declarator, words_behind}
use Rattle.cxx_form.specs.Lines.{numbers_in}
use Rattle.cxx_form.specs.Order.{body_of, declarator_of, is_named, parameters_of}
use Rattle.cxx_form.specs.Parts.{definition_parts, dots_behind, head_at, head_of, is_none, list_at, name_if, named_list, parameter_at, worded_list}
use Rattle.cxx_form.specs.Views.{facts_in}
use Rattle.cxx_form.proofs.Defining.{found_is, parameters_of_list}
use Rattle.cxx_form.proofs.Listing.{both_listed}

-- ---- parameters

pub object_type_is : (held : Held) (number : ℕ) (fact : Fact) → Some fact ≡ slice_get held.graph.facts number → object_type_by (declares_at held.types fact.what) ≡ object_type (slice_get (facts_in held) number)
object_type_is held number fact is = sym (ap object_type (found_is held number (Some fact) is))

pub no_object_type : (held : Held) (number : ℕ) → None ≡ slice_get held.graph.facts number → fundamental Void ≡ object_type (slice_get (facts_in held) number)
no_object_type held number is = sym (ap object_type (found_is held number None is))

pub parameter_is : (book : Book) (number : FactId) (of : CxxType) (named : Bool) → of ≡ object_type (slice_get (facts_of book) number.0) → named ≡ is_named (slice_get (facts_of book) number.0) → declared (names_of book).tags no_cv of (name_if book number named) ≡ parameter_at book number
unfolding parameter_at
parameter_is book number of named typed is =
    ap (λ (t : CxxType). declared (names_of book).tags no_cv t (name_if book number named)) typed
    ∙ ap (λ t. declared (names_of book).tags no_cv (object_type (slice_get (facts_of book) number.0)) (name_if book number t)) is
    ∙ ap (declared (names_of book).tags no_cv (object_type (slice_get (facts_of book) number.0))) (by (is_named (slice_get (facts_of book) number.0)))
  where
    by : (t : Bool) → name_if book number t ≡ (if t then name_word ((names_of book).name_of number.0) ∷ [] else [])
    by true = refl
    by false = refl

parameters_are : (book : Book) (row : List FactId) → map (parameter_at book) row ≡ map (parameter_words (names_of book) (facts_of book)) (numbers_in row)
unfolding parameter_at
parameters_are book [] = refl
parameters_are book (number ∷ row) = ap (λ (ws : List (List Word)). parameter_words (names_of book) (facts_of book) number.0 ∷ ws) (parameters_are book row)

none_same : {A B : Type 0} (f : A → B) (xs : List A) → is_none xs ≡ is_none (map f xs)
none_same f [] = refl
none_same f (x ∷ xs) = refl

list_is : (book : Book) (row : List FactId) (ellipsis : Bool) → list_at book row ellipsis ≡ open_word ∷ (separated (map (parameter_words (names_of book) (facts_of book)) (numbers_in row) ++ ellipsis_words ellipsis) ++ close_word ∷ [])
unfolding list_at dots_behind
list_is book row ellipsis =
    let ones : List (List Word) = map (parameter_at book) row in
    let dots : List Word = listed_words (is_none row) (ellipsis_words ellipsis) in
    ap (λ (ws : List Word). open_word ∷ ws)
    (sym (append_assoc (listed_words true ones) dots (close_word ∷ []))
    ∙ ap (λ t. (listed_words true ones ++ listed_words t (ellipsis_words ellipsis)) ++ close_word ∷ []) (none_same (parameter_at book) row)
    ∙ ap (λ (ws : List Word). ws ++ close_word ∷ []) (sym (both_listed ones (ellipsis_words ellipsis)) ∙ sym (all_listed (ones ++ ellipsis_words ellipsis)) ∙ ap (λ (xs : List (List Word)). separated (xs ++ ellipsis_words ellipsis)) (parameters_are book row)))

-- ---- what a declarator says

pub function_is : (held : Held) (number : ℕ) (fact : Fact) → Some fact ≡ slice_get held.graph.facts number → function_first_by number (declares_at held.types fact.what) ≡ function_first number (slice_get (facts_in held) number)
function_is held number fact is = sym (ap (function_first number) (found_is held number (Some fact) is))

pub no_function : (held : Held) (number : ℕ) → None ≡ slice_get held.graph.facts number → number ≡ function_first number (slice_get (facts_in held) number)
no_function held number is = sym (ap (function_first number) (found_is held number None is))

-- ---- the whole

pub head_is : (book : Book) (one : CxxTree) (row : List FactId) → numbers_in row ≡ parameters_of (facts_of book) one → head_of book (declarator_of one) row ≡ head_words (names_of book) (graph_of book) one
unfolding head_at named_list worded_list
head_is book one row are =
    let of : CxxType = type_of_declarator (declarator_of one) in
    let first : ℕ = first_of_declarator (facts_of book) (declarator_of one) in
    let name : List Word → List Word = λ ws. declared (names_of book).tags no_cv (result_of of) (function_name_words (names_of book) (graph_of book) first ++ (ws ++ words_behind (facts_of book) first)) ++ open_brace ∷ [] in
    ap name (list_is book row (has_ellipsis of) ∙ ap (λ (ns : List ℕ). open_word ∷ (separated (map (parameter_words (names_of book) (facts_of book)) ns ++ ellipsis_words (has_ellipsis of)) ++ close_word ∷ [])) are)

pub definition_is : (book : Book) (number : TreeId) (declarator body : Option TreeId) (row : List FactId) → option_map (tree book.state.now) declarator ≡ declarator_of (tree book.state.now number) → option_map (tree book.state.now) body ≡ body_of (tree book.state.now number) → numbers_in row ≡ parameters_of_list book.state.now (option_map (tree book.state.now) body)
    → definition_parts book (head_of book (option_map (tree book.state.now) declarator) row) (option_map (tree book.state.now) body) ≡ definition_words (names_of book) (graph_of book) (tree book.state.now number)
unfolding definition_parts definition_words
definition_is book number declarator body row is so are =
    let one : CxxTree = tree book.state.now number in
    ap (λ (o : Option CxxTree). definition_parts book (head_of book o row) (option_map (tree book.state.now) body)) is
    ∙ ap (λ (o : Option CxxTree). definition_parts book (head_of book (declarator_of one) row) o) so
    ∙ ap (λ (ws : List Word). definition_parts book ws (body_of one)) (head_is book one row (are ∙ ap (parameters_of_list book.state.now) so))
