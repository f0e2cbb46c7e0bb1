-- The readers of declarations that ask for no expression keep the declarations and the calls so far, and what stops them
-- says nothing of them.
use Rattle.std.proofs.Common.{refl, ◌≡◌}
use Rattle.std.specs.Prelude.{ℕ, Bool, true, false, not, ◌&&◌, ◌||◌, ◌==◌, List, [], ◌∷◌}
use Rattle.cxx_model.specs.declared.keyword.TheConstants as keyword
use Rattle.cxx_model.specs.declared.punct.TheConstants as punct
use Rattle.cxx_model.specs.declared.token.TokenKind.{TokenKind}
use Rattle.cxx_model.specs.declared.token.TokenKind.TheVariants.{Keyword}
use Rattle.cxx_model.specs.Stops.{Stopped}
use Rattle.cxx_model.specs.Text.Lexemes.{Lexeme}
use Rattle.cxx_model.specs.Types.Trees.{CxxType}
use Rattle.cxx_language.specs.Later.{Declares, alone, ended_behind, ended_by, with_defaults}
use Rattle.cxx_reading.specs.Declarators.{Declarator, declared_type, Specifiers, is_reference, own_parameters}
use Rattle.cxx_reading.specs.Reads.{Ahead, More, Done, give, count_ahead, kind_ahead, word_ahead, behind}
use Rattle.cxx_reading.specs.State.{CxxState}
use Rattle.cxx_reading.specs.Tokens.{is_punct, begins_unbuilt, form_of_keyword, form_of_kind, no_declaration}
use Rattle.cxx_reading.specs.Trees.{CxxTree}
use Rattle.cxx_reading.specs.Units.{complete_object, is_incomplete, is_made_of_class, is_unbounded, declarator_tree, name_in as name_of_declarator, is_const_type, uninitialized, ends_declarator, one_tree, synonym_ended, declared_synonym, with_declarator, declarator_ended, give_trees, is_some_storage, nothing_declared, is_linkage, is_language, linkage_step, linkages_passed, linkage_tree, linked_tree, Said, Listed}
use Rattle.cxx_language.specs.Synonyms.{bare_synonym, no_words_behind}
use Rattle.cxx_language.specs.Units.{function_declared, stands_in_class}
use Rattle.cxx_language_laws.proofs.Later.{IsLater, again_tells, function_answer_tells, later_is_quiet, synonym_tells}
use Rattle.cxx_language_laws.proofs.QuestionsTell.{if_by}
use Rattle.cxx_language_laws.proofs.Tells.{Answers, IsTold, saying, nothing, Quietly, Tells, quiet_in, if_in, past_in, then_in, ask_in, same_in, next_in, repeat_tells, looked_in, give_in}
use Rattle.cxx_language_laws.proofs.TellsSyntax.{quiet_if}

pub complete_tells : {told : CxxState → Ahead → Stopped → Type 0} → IsTold IsLater told → (name : Lexeme) (of : CxxType) → Tells IsLater told (complete_object name of)
unfolding complete_object
complete_tells is name of state ahead = if_in (is_incomplete state.graph of) (quiet_in is refl) (same_in is tt state ahead)

pub uninitialized_tells : (name : Lexeme) (of : CxxType) → Tells IsLater Quietly (uninitialized name of)
unfolding uninitialized
uninitialized_tells name of state ahead = if_in (is_unbounded of || is_incomplete state.graph of) (quiet_in later_is_quiet refl) (if_in (is_made_of_class of) (quiet_in later_is_quiet refl) (if_in (is_reference of || is_const_type of) (quiet_in later_is_quiet refl) (same_in later_is_quiet ([]) state ahead)))

pub one_tree_tells : (tree : CxxTree) → Tells IsLater Quietly (one_tree tree)
one_tree_tells tree = give_in later_is_quiet (tree ∷ [])

pub synonym_ended_tells : Tells IsLater Quietly synonym_ended
unfolding synonym_ended
synonym_ended_tells state ahead = if_in (ends_declarator (kind_ahead ahead)) (same_in later_is_quiet (tt) state ahead) (quiet_in later_is_quiet refl)

declared_synonym_tells : (said : Said) (declarator : Declarator) (from : Ahead) → Tells IsLater Quietly (declared_synonym said declarator from)
unfolding declared_synonym
declared_synonym_tells said declarator from state ahead = then_in later_is_quiet (ask_in ahead (synonym_tells (name_of_declarator declarator) (declared_type declarator.layers said.of) state ahead)) (λ number state ahead. then_in later_is_quiet (synonym_ended_tells state ahead) (λ ended state ahead. then_in later_is_quiet (looked_in later_is_quiet state ahead) (λ to. give_in later_is_quiet (declarator_tree false (name_of_declarator declarator) (declared_type declarator.layers said.of) number declarator.parts from to))))

-- 9.3: a function, of the class where the reader stands in one
pub function_declared_tells : (said : Said) (declarator : Declarator) → Answers IsLater Quietly (function_declared said declarator)
unfolding function_declared
function_declared_tells said declarator state ahead =
    if_by (stands_in_class state) (again_tells (name_of_declarator declarator) declarator.cv (declared_type declarator.layers said.of) state ahead) (function_answer_tells (own_parameters declarator.layers) (name_of_declarator declarator) (declared_type declarator.layers said.of) state ahead)

no_words_tells : (declarator : Declarator) → Tells IsLater Quietly (no_words_behind declarator)
unfolding no_words_behind
no_words_tells declarator state ahead = if_in (declarator.cv.is_const || declarator.cv.is_volatile) (quiet_in later_is_quiet refl) (same_in later_is_quiet tt state ahead)

pub bare_synonym_tells : (said : Said) (declarator : Declarator) (from : Ahead) → Tells IsLater Quietly (bare_synonym said declarator from)
unfolding bare_synonym
bare_synonym_tells said declarator from state ahead = then_in later_is_quiet (no_words_tells declarator state ahead) (λ bare. declared_synonym_tells said declarator from)

pub declarator_ended_tells : (so_far : Listed) (tree : CxxTree) → Tells IsLater Quietly (declarator_ended so_far tree)
unfolding declarator_ended
declarator_ended_tells so_far tree state ahead = if_in (is_punct punct.COMMA (kind_ahead ahead)) (next_in later_is_quiet (More (with_declarator tree so_far)) state ahead) (if_in (is_punct punct.SEMICOLON (kind_ahead ahead)) (next_in later_is_quiet (Done (with_declarator tree so_far).trees) state ahead) (quiet_in later_is_quiet refl))

pub give_trees_tells : (so_far : Listed) → Tells IsLater Quietly (give_trees so_far)
give_trees_tells so_far = give_in later_is_quiet so_far.trees

pub nothing_tells : (specifiers : Specifiers) → Tells IsLater Quietly (nothing_declared specifiers)
unfolding nothing_declared
nothing_tells specifiers state ahead = if_in (specifiers.stands_alone && not (is_some_storage specifiers.storage)) (next_in later_is_quiet ([]) state ahead) (quiet_in later_is_quiet refl)

keyword_form_quiet : (n : ℕ) → saying (form_of_keyword n) ≡ nothing
keyword_form_quiet n = quiet_if (n == keyword.ASM) _ _ refl (quiet_if (n == keyword.EXPORT) _ _ refl (quiet_if (begins_unbuilt n) _ _ refl refl))

form_quiet : (kind : TokenKind) → saying (form_of_kind kind) ≡ nothing
form_quiet (Keyword n) = keyword_form_quiet n
form_quiet _ = refl

pub no_declaration_tells : {A : Type 0} → Tells IsLater Quietly (no_declaration {S = CxxState} {A = A})
unfolding no_declaration
no_declaration_tells state ahead = quiet_in later_is_quiet (form_quiet (kind_ahead ahead))

pub linkage_step_tells : (any : Bool) → Tells IsLater Quietly (linkage_step any)
unfolding linkage_step
linkage_step_tells any state ahead = if_in (not (is_linkage ahead)) (same_in later_is_quiet (Done any) state ahead) (if_in (is_language (word_ahead (behind ahead))) (past_in later_is_quiet (next_in later_is_quiet (More true) state (behind ahead))) (quiet_in later_is_quiet refl))

pub linkages_tell : Tells IsLater Quietly linkages_passed
unfolding linkages_passed
linkages_tell state ahead = repeat_tells later_is_quiet linkage_step give linkage_step_tells (give_in later_is_quiet) (count_ahead ahead) false state ahead

pub linked_tree_tells : (from : Ahead) (trees : List CxxTree) → Tells IsLater Quietly (linked_tree from trees)
linked_tree_tells from trees state ahead = then_in later_is_quiet (looked_in later_is_quiet state ahead) (λ to. give_in later_is_quiet (linkage_tree trees from to))

-- ---- what a declarator leads to

pub alone_tells : (tree : CxxTree) → Tells IsLater Quietly (alone tree)
alone_tells tree = give_in later_is_quiet _

ended_behind_tells : (so_far : Listed) (tree : CxxTree) (body : List CxxTree) → Tells IsLater Quietly (ended_behind so_far tree body)
ended_behind_tells so_far tree [] = declarator_ended_tells so_far tree
ended_behind_tells so_far tree (body ∷ others) = give_in later_is_quiet _

pub ended_by_tells : (so_far : Listed) (one : Declares) → Tells IsLater Quietly (ended_by so_far one)
ended_by_tells so_far one = ended_behind_tells (with_defaults so_far one.defaults) one.tree one.body
