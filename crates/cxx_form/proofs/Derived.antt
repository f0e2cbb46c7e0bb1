-- The bases of classes, and what the declarations of members say.
use Rattle.std.proofs.Common.{◌≡◌, ℕ, zero, suc, ◌+◌, Bool, true, false, cond, eqb, List, [], ◌∷◌, ◌++◌, map, Option, Some, None, refl, ap, sym, subst, ◌∙◌, arith}
use Rattle.std.specs.Prelude.{codes}
use Rattle.std.specs.List.{slice_get}
use Rattle.cxx_model.specs.declared.facts.Entity.{Entity}
use Rattle.cxx_model.specs.declared.facts.Entity.TheVariants as entity
use Rattle.cxx_model.specs.declared.facts.Fact.{Fact}
use Rattle.cxx_model.specs.declared.types.FactId.{FactId}
use Rattle.cxx_model.specs.Facts.Declarations.{declares_at, fact_at, facts_at}
use Rattle.cxx_model.specs.Facts.Graph.{EachMayFollow, Graph, InRange, IsEntityInRange, MayFollow}
use Rattle.cxx_graph.specs.Numbered.{is_ancestor_of, numbers_from}
use Rattle.cxx_reading.specs.Words.{Word, keyword_word, name_word}
use Rattle.cxx_phrase_text.proofs.Listing.{all_listed}
use Rattle.cxx_statement_text.specs.Statements.{open_brace}
use Rattle.cxx_tree.specs.Held.{Held}
use Rattle.cxx_form.specs.declared.book.Book.{Book}
use Rattle.cxx_form.specs.Books.{facts_of, names_of}
use Rattle.cxx_form.specs.Order.{base_by, bases_by, bases_of, class_in, class_of_fact}
use Rattle.cxx_form.specs.Parts.{base_at, base_row, bases_unless, front_parts, is_none, parent_by, parent_found, parent_words, IsParentThere}
use Rattle.cxx_form.specs.Text.{base_words, bases_words, class_front, class_key_of, is_mutable_by, is_mutable_of, is_pure_by, is_pure_of, is_static_by, is_static_of, is_virtual_by, is_virtual_of, value_of_again, value_of_again_by}
use Rattle.cxx_form.specs.Views.{facts_in}
use Rattle.cxx_form.proofs.Defining.{found_is}

-- ---- what a declaration says

pub mutable_is : (held : Held) (number : ℕ) (fact : Fact) → Some fact ≡ slice_get held.graph.facts number → is_mutable_by (declares_at held.types fact.what) ≡ is_mutable_of (slice_get (facts_in held) number)
mutable_is held number fact is = sym (ap is_mutable_of (found_is held number (Some fact) is))

pub none_mutable : (held : Held) (number : ℕ) → None ≡ slice_get held.graph.facts number → false ≡ is_mutable_of (slice_get (facts_in held) number)
none_mutable held number is = sym (ap is_mutable_of (found_is held number None is))

pub static_is : (held : Held) (number : ℕ) (fact : Fact) → Some fact ≡ slice_get held.graph.facts number → is_static_by (declares_at held.types fact.what) ≡ is_static_of (slice_get (facts_in held) number)
static_is held number fact is = sym (ap is_static_of (found_is held number (Some fact) is))

pub none_static : (held : Held) (number : ℕ) → None ≡ slice_get held.graph.facts number → false ≡ is_static_of (slice_get (facts_in held) number)
none_static held number is = sym (ap is_static_of (found_is held number None is))

pub virtual_is : (held : Held) (number : ℕ) (fact : Fact) → Some fact ≡ slice_get held.graph.facts number → is_virtual_by (declares_at held.types fact.what) ≡ is_virtual_of (slice_get (facts_in held) number)
virtual_is held number fact is = sym (ap is_virtual_of (found_is held number (Some fact) is))

pub none_virtual : (held : Held) (number : ℕ) → None ≡ slice_get held.graph.facts number → false ≡ is_virtual_of (slice_get (facts_in held) number)
none_virtual held number is = sym (ap is_virtual_of (found_is held number None is))

pub pure_is : (held : Held) (number : ℕ) (fact : Fact) → Some fact ≡ slice_get held.graph.facts number → is_pure_by (declares_at held.types fact.what) ≡ is_pure_of (slice_get (facts_in held) number)
pure_is held number fact is = sym (ap is_pure_of (found_is held number (Some fact) is))

pub none_pure : (held : Held) (number : ℕ) → None ≡ slice_get held.graph.facts number → false ≡ is_pure_of (slice_get (facts_in held) number)
none_pure held number is = sym (ap is_pure_of (found_is held number None is))

pub again_is : (held : Held) (number next : ℕ) (fact : Fact) → Some fact ≡ slice_get held.graph.facts next → value_of_again_by number (declares_at held.types fact.what) ≡ value_of_again number (slice_get (facts_in held) next)
again_is held number next fact is = sym (ap (value_of_again number) (found_is held next (Some fact) is))

pub none_again : (held : Held) (number next : ℕ) → None ≡ slice_get held.graph.facts next → None ≡ value_of_again number (slice_get (facts_in held) next)
none_again held number next is = sym (ap (value_of_again number) (found_is held next None is))

pub class_is : (held : Held) (number : ℕ) (fact : Fact) → Some fact ≡ slice_get held.graph.facts number → class_in (declares_at held.types fact.what) ≡ class_of_fact (slice_get (facts_in held) number)
class_is held number fact is = sym (ap class_of_fact (found_is held number (Some fact) is))

pub no_class : (held : Held) (number : ℕ) → None ≡ slice_get held.graph.facts number → None ≡ class_of_fact (slice_get (facts_in held) number)
no_class held number is = sym (ap class_of_fact (found_is held number None is))

pub parent_is : (held : Held) (number : ℕ) (fact : Fact) → Some fact ≡ slice_get held.graph.facts number → parent_by (declares_at held.types fact.what) ≡ parent_found (slice_get (facts_in held) number)
parent_is held number fact is = sym (ap parent_found (found_is held number (Some fact) is))

pub no_parent : (held : Held) (number : ℕ) → None ≡ slice_get held.graph.facts number → None ≡ parent_found (slice_get (facts_in held) number)
no_parent held number is = sym (ap parent_found (found_is held number None is))

-- ---- the class of a base is there

parent_earlier : (graph : Graph) (before : List Fact) (fact : Fact) (what : Entity) → IsEntityInRange (record graph { facts = before }) fact what → IsParentThere graph what
parent_earlier graph before fact (entity.Ancestor number parent index access) ok = ok.1
parent_earlier graph before fact (entity.Scope parent kind) ok = tt
parent_earlier graph before fact (entity.Object of member is_mutable value first) ok = tt
parent_earlier graph before fact (entity.Function of member flags defaults first) ok = tt
parent_earlier graph before fact (entity.Template number member defaults is_explicit first) ok = tt
parent_earlier graph before fact (entity.Parameter depth index of) ok = tt
parent_earlier graph before fact (entity.Injected number) ok = tt
parent_earlier graph before fact (entity.Class number is_union) ok = tt
parent_earlier graph before fact (entity.Complete number) ok = tt
parent_earlier graph before fact (entity.Passed number) ok = tt
parent_earlier graph before fact (entity.Enumeration number) ok = tt
parent_earlier graph before fact (entity.Enumerator number value) ok = tt
parent_earlier graph before fact (entity.Synonym of) ok = tt
parent_earlier graph before fact (entity.Namespace inner) ok = tt
parent_earlier graph before fact (entity.Directive nominated) ok = tt
parent_earlier graph before fact (entity.Using target) ok = tt
parent_earlier graph before fact (entity.Friend number target) ok = tt

parent_first : (graph : Graph) (before : List Fact) (fact : Fact) → MayFollow (record graph { facts = before }) fact → IsParentThere graph fact.what
parent_first graph [] fact ok = subst (λ what. IsParentThere graph what) (sym ok.0) tt
parent_first graph (one ∷ before) fact ok = parent_earlier graph (one ∷ before) fact fact.what ok.1

parent_from : (graph : Graph) (before facts : List Fact) (n : ℕ) (fact : Fact) → EachMayFollow graph before facts → slice_get facts n ≡ Some fact → IsParentThere graph fact.what
parent_from graph before [] n fact ok at = absurd cc
parent_from graph before (one ∷ others) zero fact ok at = (let same : one ≡ fact = cc in subst (λ (f : Fact). IsParentThere graph f.what) same (parent_first graph before one ok.0))
parent_from graph before (one ∷ others) (suc n) fact ok at = parent_from graph (before ++ one ∷ []) others n fact ok.1 at

pub parent_there : (graph : Graph) (n : ℕ) (fact : Fact) → InRange graph → Some fact ≡ slice_get graph.facts n → IsParentThere graph fact.what
parent_there graph n fact ok at = parent_from graph [] graph.facts n fact ok.facts (sym at)

-- ---- the bases of a class

-- a declaration of a base, or another one
base_first : (book : Book) (m n : ℕ) (fact : Fact) (what : Entity) (numbers : List FactId) (later : List ℕ) → slice_get (facts_of book) n ≡ Some (fact_at book.state.now.types (record fact { what = what })) → map (base_at book) numbers ≡ map (base_words (names_of book)) later → map (base_at book) (cond (is_ancestor_of m (record fact { what = what })) (record { 0 = n } ∷ numbers) numbers) ≡ map (base_words (names_of book)) (base_by m (declares_at book.state.now.types what) ++ later)
unfolding base_at
base_first book m n fact (entity.Ancestor class parent index access) numbers later at rest = by (eqb class.0 m)
  where
    by : (t : Bool) → map (base_at book) (cond t (record { 0 = n } ∷ numbers) numbers) ≡ map (base_words (names_of book)) (cond t (parent.0 ∷ []) [] ++ later)
    by true = ap (λ o. parent_words (names_of book) (parent_found o) ∷ map (base_at book) numbers) at ∙ ap (λ (ws : List (List Word)). base_words (names_of book) parent.0 ∷ ws) rest
    by false = rest
base_first book m n fact what numbers later at rest = rest

bases_from : (book : Book) (m n : ℕ) (facts : List Fact) → ((k : ℕ) → slice_get (facts_of book) (n + k) ≡ slice_get (facts_at book.state.now.types facts) k) → map (base_at book) (numbers_from n (is_ancestor_of m) facts) ≡ map (base_words (names_of book)) (bases_of (facts_at book.state.now.types facts) m)
bases_from book m n [] at = refl
bases_from book m n (fact ∷ facts) at =
    let types = book.state.now.types in
    let here : slice_get (facts_of book) n ≡ Some (fact_at types fact) = ap (slice_get (facts_of book)) (omega arith) ∙ at 0 in
    let next : (k : ℕ) → slice_get (facts_of book) (suc n + k) ≡ slice_get (facts_at types facts) k = λ k. ap (slice_get (facts_of book)) (omega arith) ∙ at (suc k) in
    base_first book m n fact fact.what (numbers_from (suc n) (is_ancestor_of m) facts) (bases_of (facts_at types facts) m) here (bases_from book m (suc n) facts next)

bases_are : (book : Book) (class : Option ℕ) → map (base_at book) (base_row book.state.now.graph.facts class) ≡ map (base_words (names_of book)) (bases_by (facts_of book) class)
bases_are book None = refl
bases_are book (Some m) = bases_from book m 0 book.state.now.graph.facts (λ k. ap (slice_get (facts_of book)) (omega arith))

unless_is : (book : Book) (row : List FactId) → bases_unless book row (is_none row) ≡ bases_words (map (base_at book) row)
unless_is book [] = refl
unless_is book (number ∷ row) = ap (λ (ws : List Word). keyword_word (codes ":") ∷ ws) (sym (all_listed (map (base_at book) (number ∷ row))))

pub front_is : (book : Book) (number : ℕ) (row : List FactId) → row ≡ base_row book.state.now.graph.facts (class_of_fact (slice_get (facts_of book) number)) → front_parts book row number ≡ class_front (names_of book) (facts_of book) number
unfolding front_parts
front_is book number row is =
    ap (λ (ws : List Word). keyword_word (class_key_of (slice_get (facts_of book) number)) ∷ name_word ((names_of book).name_of number) ∷ (ws ++ open_brace ∷ []))
    (unless_is book row ∙ ap (λ (ns : List FactId). bases_words (map (base_at book) ns)) is ∙ ap bases_words (bases_are book (class_of_fact (slice_get (facts_of book) number))))
