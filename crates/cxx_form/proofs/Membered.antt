-- The data members and the functions of classes.
use Rattle.std.proofs.Common.{◌≡◌, ℕ, Bool, true, false, List, [], ◌∷◌, ◌++◌, get_or, Option, Some, None, refl, ap, sym, ◌∙◌, arith}
use Rattle.std.specs.Prelude.{ℤ, ◌<◌, ◌≤◌, ◌-◌, drop, flat_map, if◌then◌else◌, length, take, Err}
use Rattle.std.proofs.lemmas.List.{take_all}
use Rattle.std.specs.List.{slice_get}
use Rattle.cxx_model.specs.declared.facts.Fact.{Fact}
use Rattle.cxx_model.specs.declared.types.FactId.{FactId}
use Rattle.cxx_model.specs.Facts.Declarations.{CxxFact, declares_at}
use Rattle.cxx_page.specs.declared.fault.PlainFault.{PlainFault}
use Rattle.cxx_page.specs.Sheets.{and_then, put_lines, Sheet, Writes}
use Rattle.cxx_phrase_text.proofs.Listing.{fails}
use Rattle.cxx_statement_text.specs.Statements.{Lines}
use Rattle.cxx_statement_text.proofs.Lining.{lines_append, lines_none}
use Rattle.cxx_tree.specs.Held.{Held}
use Rattle.cxx_form.specs.declared.book.Book.{Book}
use Rattle.cxx_form.specs.Books.{facts_of, names_of, IsBook}
use Rattle.cxx_form.specs.Giving.{AreParts}
use Rattle.cxx_form.specs.Lines.{numbers_in}
use Rattle.cxx_form.specs.Order.{firsts_among, if_first, is_first, is_first_part, members_of}
use Rattle.cxx_form.specs.Parts.{class_parts, member_at, member_if, members_at, value_again, value_next}
use Rattle.cxx_form.specs.Rows.{row_at}
use Rattle.cxx_form.specs.Text.{class_definition_words, class_end, class_front, is_pure_of, member_if_first, member_lines, members_lines, value_after, value_in_class, zero_if}
use Rattle.cxx_form.specs.Views.{facts_in}
use Rattle.cxx_form.proofs.Defining.{found_is}
use Rattle.cxx_form.proofs.Holding.{row_of_scope}

-- ---- first declarations

pub first_is : (held : Held) (number : ℕ) (fact : Fact) → Some fact ≡ slice_get held.graph.facts number → is_first_part (declares_at held.types fact.what) ≡ is_first (slice_get (facts_in held) number)
first_is held number fact is = sym (ap is_first (found_is held number (Some fact) is))

pub none_first : (held : Held) (number : ℕ) → None ≡ slice_get held.graph.facts number → false ≡ is_first (slice_get (facts_in held) number)
none_first held number is = sym (ap is_first (found_is held number None is))

abbrev pub first_at : List CxxFact → FactId → List ℕ
first_at all number = if_first all number.0

pub firsts_are : (all : List CxxFact) (numbers : List FactId) → flat_map (first_at all) numbers ≡ firsts_among all (numbers_in numbers)
firsts_are all [] = refl
firsts_are all (number ∷ numbers) = ap (λ (ns : List ℕ). if_first all number.0 ++ ns) (firsts_are all numbers)

pub members_are : (all : List CxxFact) (rows : List (List FactId)) (scope : ℕ) (row : List FactId) → AreParts all rows → row ≡ row_at rows scope → firsts_among all (numbers_in row) ≡ members_of all scope
members_are all rows scope row are is = ap (firsts_among all) (row_of_scope all rows scope row are is)

-- ---- their lines

pub member_is : (book : Book) (number : FactId) (value : Option ℤ) (first : Bool) → first ≡ is_first (slice_get (facts_of book) number.0) → member_if book number value first ≡ member_at book number value
unfolding member_at
member_is book number value first is = ap (member_if book number value) is ∙ by (is_first (slice_get (facts_of book) number.0))
  where
    by : (t : Bool) → member_if book number value t ≡ (if t then member_lines (names_of book) (facts_of book) number.0 value else [])
    by true = refl
    by false = refl

again_is : (book : Book) (number : FactId) (row : List FactId) → value_again book number row ≡ value_after (facts_of book) number.0 (numbers_in row)
again_is book number [] = refl
again_is book number (next ∷ row) = refl

value_is : (book : Book) (number : FactId) (row : List FactId) → value_next book number row ≡ value_in_class (facts_of book) number.0 (numbers_in row)
value_is book number row = ap (zero_if (is_pure_of (slice_get (facts_of book) number.0))) (again_is book number row)

each_member : (book : Book) (row : List FactId) → members_at book row ≡ members_lines (names_of book) (facts_of book) (numbers_in row)
unfolding member_at
each_member book [] = refl
each_member book (number ∷ row) =
    let one : Option ℤ → Lines = member_if_first (names_of book) (facts_of book) number.0 in
    ap (λ (value : Option ℤ). one value ++ members_at book row) (value_is book number row)
    ∙ ap (λ (ls : Lines). one (value_in_class (facts_of book) number.0 (numbers_in row)) ++ ls) (each_member book row)

-- ---- one after another

members_more : (book : Book) (number : FactId) (row : List FactId) (page new : Sheet) (whole : Option Sheet) → put_lines (members_at book (number ∷ row)) page ≡ whole → put_lines (member_at book number (value_next book number row)) page ≡ Some new → put_lines (members_at book row) new ≡ whole
members_more book number row page new whole so written =
    sym (ap (λ one. and_then one (put_lines (members_at book row))) written) ∙ sym (lines_append (member_at book number (value_next book number row)) (members_at book row) page) ∙ so

no_member : (book : Book) (number : FactId) (row : List FactId) (page : Sheet) (whole : Option Sheet) → put_lines (members_at book (number ∷ row)) page ≡ whole → put_lines (member_at book number (value_next book number row)) page ≡ None → whole ≡ None
no_member book number row page whole so written =
    sym so ∙ lines_append (member_at book number (value_next book number row)) (members_at book row) page ∙ ap (λ one. and_then one (put_lines (members_at book row))) written

rest_is : (number : FactId) (row : List FactId) → take (length (number ∷ row) - 1) (drop 1 (number ∷ row)) ≡ row
rest_is number row = take_all (length (number ∷ row) - 1) row (omega arith)

-- the value of the first of some, which the code reads from those behind it
value_read : (book : Book) (one number : FactId) (row : List FactId) (value : Option ℤ) → number ≡ one → value ≡ value_next book number (take (length (one ∷ row) - 1) (drop 1 (one ∷ row))) → value ≡ value_next book one row
value_read book one number row value at is = is ∙ ap (value_next book number) (rest_is one row) ∙ ap (λ (n : FactId). value_next book n row) at

first_read : (book : Book) (one number : FactId) (row : List FactId) (value : Option ℤ) (page : Sheet) → number ≡ one → value ≡ value_next book number (take (length (one ∷ row) - 1) (drop 1 (one ∷ row))) → put_lines (member_at book one (value_next book one row)) page ≡ put_lines (member_at book number value) page
first_read book one number row value page at is =
    ap (λ (v : Option ℤ). put_lines (member_at book one v) page) (sym (value_read book one number row value at is)) ∙ ap (λ (n : FactId). put_lines (member_at book n value) page) (sym at)

pub members_go : (book : Book) (left : List FactId) (number d : FactId) (value : Option ℤ) (page new : Sheet) (whole : Option Sheet) → 1 ≤ length left → number ≡ get_or left 0 d → value ≡ value_next book number (take (length left - 1) (drop 1 left)) → put_lines (members_at book left) page ≡ whole
    → put_lines (member_at book number value) page ≡ Some new → put_lines (members_at book (take (length left - 1) (drop 1 left))) new ≡ whole
members_go book [] number d value page new whole some at is so written = absurd (omega (arith, some))
members_go book (one ∷ row) number d value page new whole some at is so written =
    ap (λ (xs : List FactId). put_lines (members_at book xs) new) (rest_is one row) ∙ members_more book one row page new whole so (first_read book one number row value page at is ∙ written)

pub members_stop : (book : Book) (left : List FactId) (number d : FactId) (value : Option ℤ) (page new : Sheet) (whole : Option Sheet) (why : PlainFault) → 1 ≤ length left → number ≡ get_or left 0 d → value ≡ value_next book number (take (length left - 1) (drop 1 left)) → put_lines (members_at book left) page ≡ whole
    → Writes (Err why) new (put_lines (member_at book number value) page) → Writes (Err why) new whole
members_stop book [] number d value page new whole why some at is so failed = absurd (omega (arith, some))
members_stop book (one ∷ row) number d value page new whole why some at is so failed =
    fails why new (put_lines (member_at book number value) page) whole (λ none. no_member book one row page whole so (first_read book one number row value page at is ∙ none)) failed

pub members_end : (book : Book) (left : List FactId) (page : Sheet) (whole : Option Sheet) → length left < 1 → put_lines (members_at book left) page ≡ whole → whole ≡ Some page
members_end book [] page whole none so = sym so ∙ lines_none page
members_end book (one ∷ row) page whole none so = absurd (omega (arith, none))

-- ---- the whole

pub class_is : (book : Book) (scope number : ℕ) (row : List FactId) → IsBook book → row ≡ row_at book.parts.now scope → class_parts book row number ≡ class_definition_words (names_of book) (facts_of book) number scope
unfolding class_parts
class_is book scope number row are is =
    ap (λ (ls : Lines). class_front (names_of book) (facts_of book) number ∷ (ls ++ class_end ∷ []))
    (each_member book row ∙ ap (members_lines (names_of book) (facts_of book)) (row_of_scope (facts_of book) book.parts.now scope row are.parts is))
