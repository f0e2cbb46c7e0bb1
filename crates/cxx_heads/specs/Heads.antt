-- How a statement begins: a declaration is told from an expression (6.8), in a condition too (6.4), by the shape of what
-- stands there and by the kinds of names. Nothing is taken.
use Rattle.std.specs.Prelude.{ℕ, suc, Bool, true, false, not, ◌&&◌, ◌||◌, if◌then◌else◌, ◌==◌, ◌-◌, Option, Some, None}
use Rattle.cxx_heads.specs.declared.head.Head.{Head}
use Rattle.cxx_heads.specs.declared.head.Head.TheVariants as head
use Rattle.cxx_heads.specs.declared.shape.Shape.{Shape}
use Rattle.cxx_model.specs.declared.keyword.TheConstants as keyword
use Rattle.cxx_model.specs.declared.punct.TheConstants as punct
use Rattle.cxx_model.specs.declared.token.TokenKind.{TokenKind}
use Rattle.cxx_model.specs.declared.token.TokenKind.TheVariants.{Keyword}
use Rattle.cxx_reading.specs.Kinds.{Kinds, Readers}
use Rattle.cxx_reading.specs.Reads.{Reads, Ahead, Turn, More, Done, ◌>>=◌, got, give, tokens, kind_ahead, count_ahead, behind, repeat}
use Rattle.cxx_reading.specs.Shapes.{Run, no_type, a_type, surely, look, past, returned, brackets_passed, give_false, is_cv, is_specifier, run_passed}
use Rattle.cxx_reading.specs.Specifiers.{is_some_storage, storage_word}
use Rattle.cxx_reading.specs.Tokens.{is_punct, is_keyword, is_name, is_plain_name}

-- ---- up to the name of a declarator (8)

abbrev pub is_cv_word : TokenKind → Bool
is_cv_word kind = is_keyword keyword.CONST kind || is_keyword keyword.VOLATILE kind

abbrev pub no_shape : Shape
no_shape = record { brackets = 0; takes_cv = false }

-- Pointer operators and brackets, and the name. It answers what is open round the name, where one stands: one identifier,
-- whatever it names elsewhere. With qualifiers it is none, since no declaration in a block declares such a name.
unfoldable pub name_step : {S : Type 0} → Shape → Reads S (Turn Shape (Option Shape))
name_step shape state ahead =
    if is_punct punct.STAR (kind_ahead ahead) then got (More (record shape { takes_cv = true })) state (behind ahead) else (
    if is_cv_word (kind_ahead ahead) && shape.takes_cv then got (More shape) state (behind ahead) else (
    if is_punct punct.AMPERSAND (kind_ahead ahead) then got (More (record shape { takes_cv = false })) state (behind ahead) else (
    if is_punct punct.LEFT_PARENTHESIS (kind_ahead ahead) then got (More (record { brackets = suc shape.brackets; takes_cv = false })) state (behind ahead) else (
    if is_plain_name ahead then got (Done (Some (record shape { takes_cv = false }))) state (behind ahead) else
    got (Done None) state ahead))))

abbrev pub give_no_name : {S : Type 0} → Shape → Reads S (Option Shape)
give_no_name shape = give None

unfoldable pub name_passed : {S : Type 0} → Reads S (Option Shape)
name_passed state ahead = repeat name_step give_no_name (count_ahead ahead) no_shape state ahead

-- ---- behind the name (8.3.4, 8.3.5)

-- behind brackets that are passed, cv words may stand or not
abbrev pub gone_past : {S : Type 0} → Bool → Shape → Reads S (Turn Shape Bool)
gone_past takes_cv shape = tokens brackets_passed >>= λ end. give (More (record shape { takes_cv = takes_cv }))

abbrev pub listed_by : {S : Type 0} → Shape → Bool → Reads S (Turn Shape Bool)
listed_by shape true = gone_past true shape
listed_by shape false = give (Done false)

-- 8.2: a list that holds parameters
unfoldable pub list_step : {S : Type 0} → Readers S → Shape → Reads S (Turn Shape Bool)
list_step inner shape = look (past inner.holds_parameters) >>= listed_by shape

-- 15.4: behind `throw`; what its list holds is met when it is read
unfoldable pub exceptions_step : {S : Type 0} → Shape → Reads S (Turn Shape Bool)
exceptions_step shape state ahead =
    if is_punct punct.LEFT_PARENTHESIS (kind_ahead ahead) then gone_past false shape state ahead else got (Done false) state ahead

-- Parameters with the words behind them, a bound, or an end of brackets. It answers whether all brackets are closed where
-- none of them stands.
unfoldable pub suffix_step : {S : Type 0} → Readers S → Shape → Reads S (Turn Shape Bool)
suffix_step inner shape state ahead =
    if is_punct punct.LEFT_PARENTHESIS (kind_ahead ahead) then list_step inner shape state ahead else (
    if is_punct punct.LEFT_BRACKET (kind_ahead ahead) then gone_past false shape state ahead else (
    if is_cv_word (kind_ahead ahead) && shape.takes_cv then got (More shape) state (behind ahead) else (
    if is_keyword keyword.THROW (kind_ahead ahead) && shape.takes_cv then exceptions_step shape state (behind ahead) else (
    if is_punct punct.RIGHT_PARENTHESIS (kind_ahead ahead) && not (shape.brackets == 0) then got (More (record { brackets = shape.brackets - 1; takes_cv = false })) state (behind ahead) else
    got (Done (shape.brackets == 0)) state ahead))))

abbrev pub give_unclosed : {S : Type 0} → Shape → Reads S Bool
give_unclosed shape = give false

-- all that may stand behind the name of a declarator
unfoldable pub suffixes_passed : {S : Type 0} → Readers S → Shape → Reads S Bool
suffixes_passed inner shape state ahead = repeat (suffix_step inner) give_unclosed (count_ahead ahead) shape state ahead

-- the same inside of the brackets round the name
unfoldable pub closing_step : {S : Type 0} → Readers S → Shape → Reads S (Turn Shape Bool)
closing_step inner shape state ahead = if shape.brackets == 0 then got (Done true) state ahead else suffix_step inner shape state ahead

unfoldable pub closed_passed : {S : Type 0} → Readers S → Shape → Reads S Bool
closed_passed inner shape state ahead = repeat (closing_step inner) give_unclosed (count_ahead ahead) shape state ahead

-- ---- what a declaration goes on with (clause 7)

-- Behind a declarator; a `(` begins parameters or an initializer, which are met when they are read.
abbrev pub goes_on : TokenKind → Bool
goes_on kind = is_punct punct.SEMICOLON kind || (is_punct punct.EQUALS kind || (is_punct punct.COMMA kind || is_punct punct.LEFT_PARENTHESIS kind))

unfoldable pub bound_step : {S : Type 0} → Unit {0} → Reads S (Turn (Unit {0}) Bool)
bound_step so_far state ahead =
    if is_punct punct.LEFT_BRACKET (kind_ahead ahead) then (tokens brackets_passed >>= λ end. give (More tt)) state ahead else
    got (Done (goes_on (kind_ahead ahead))) state ahead

unfoldable pub bounds_passed : {S : Type 0} → Reads S Bool
bounds_passed state ahead = repeat bound_step give_false (count_ahead ahead) tt state ahead

abbrev pub bounded_by : {S : Type 0} → Bool → Reads S Bool
bounded_by true = tokens bounds_passed
bounded_by false = give false

abbrev pub declared_by : {S : Type 0} → Readers S → Option Shape → Reads S Bool
declared_by inner None = give false
declared_by inner (Some shape) = closed_passed inner shape >>= bounded_by

-- whether a declarator with a name stands ahead, and behind it what a declaration goes on with
unfoldable pub declarator_begins : {S : Type 0} → Readers S → Reads S Bool
declarator_begins inner = tokens name_passed >>= declared_by inner

-- ---- statements (6.8)

-- 7.2, clause 9: a list of enumerators or members, behind its name where it has one
abbrev pub begins_list : Ahead → Bool
begins_list ahead = is_punct punct.LEFT_BRACE (kind_ahead ahead) || (is_name (kind_ahead ahead) && is_punct punct.LEFT_BRACE (kind_ahead (behind ahead)))

-- A list in the specifiers is met when it is read.
abbrev pub specified_by : {S : Type 0} → Readers S → Run → Reads S Bool
specified_by inner no_type state ahead = got false state ahead
specified_by inner a_type state ahead = declarator_begins inner state ahead
specified_by inner surely state ahead = got (begins_list ahead) state ahead

unfoldable pub specifiers_begin : {S : Type 0} → Kinds S → Readers S → Reads S Bool
specifiers_begin asks inner = run_passed asks >>= specified_by inner

-- 7.1.1, 7.1.3, 7.1.5.3: a word with which nothing but a declaration begins
abbrev pub declares : ℕ → Bool
declares n = is_some_storage (storage_word n) || (n == keyword.ENUM || (n == keyword.CLASS || (n == keyword.STRUCT || n == keyword.UNION)))

abbrev pub begins_declaration : TokenKind → Bool
begins_declaration (Keyword n) = declares n
begins_declaration kind = false

-- 6.8: whether a declaration of objects, functions and types stands ahead
unfoldable pub is_declaration : {S : Type 0} → Kinds S → Readers S → Reads S Bool
is_declaration asks inner state ahead =
    if begins_declaration (kind_ahead ahead) then got true state ahead else look (specifiers_begin asks inner) state ahead

abbrev pub head_of : {S : Type 0} → Bool → Reads S Head
head_of true = give head.Declaration
head_of false = give head.Expression

-- Clause 6: what stands ahead where no keyword of a statement does. An expression is all that is nothing else, and what is
-- wrong with it is met when it is read.
unfoldable pub head_at : {S : Type 0} → Kinds S → Readers S → Reads S Head
head_at asks inner state ahead =
    if is_keyword keyword.USING (kind_ahead ahead) then got head.Using state ahead else (
    if is_keyword keyword.NAMESPACE (kind_ahead ahead) then got head.Namespace state ahead else (
    if is_name (kind_ahead ahead) && is_punct punct.COLON (kind_ahead (behind ahead)) then got head.Label state ahead else
    (is_declaration asks inner >>= head_of) state ahead))

-- ---- conditions (6.4)

-- 7.1.1 to 7.1.3: a specifier that is no part of a type
abbrev pub is_no_part : ℕ → Bool
is_no_part n = is_specifier n && not (is_cv n)

abbrev pub is_no_type_word : TokenKind → Bool
is_no_type_word (Keyword n) = is_no_part n
is_no_type_word kind = false

unfoldable pub type_word_step : {S : Type 0} → Unit {0} → Reads S (Turn (Unit {0}) Bool)
type_word_step so_far state ahead =
    if is_no_type_word (kind_ahead ahead) then got (Done false) state ahead else got (More tt) state (behind ahead)

abbrev pub give_true : {S : Type 0} → Unit {0} → Reads S Bool
give_true so_far = give true

-- whether so many tokens are all parts of a type
unfoldable pub types_alone : {S : Type 0} → ℕ → Reads S Bool
types_alone count = repeat type_word_step give_true count tt

abbrev pub initialized_by : {S : Type 0} → Bool → Reads S Bool
initialized_by true state ahead = got (is_punct punct.EQUALS (kind_ahead ahead)) state ahead
initialized_by false state ahead = got false state ahead

abbrev pub named_by : {S : Type 0} → Readers S → Option Shape → Reads S Bool
named_by inner None = give false
named_by inner (Some shape) = suffixes_passed inner shape >>= initialized_by

-- whether a declarator with a name stands ahead, and `=` behind all of it
unfoldable pub initializer_follows : {S : Type 0} → Readers S → Reads S Bool
initializer_follows inner = tokens name_passed >>= named_by inner

-- no type is defined in a condition
abbrev pub typed_by : {S : Type 0} → Readers S → Run → Bool → Reads S Bool
typed_by inner run false state ahead = got false state ahead
typed_by inner no_type true state ahead = got false state ahead
typed_by inner a_type true state ahead = initializer_follows inner state ahead
typed_by inner surely true state ahead = got false state ahead

-- what is read from an earlier token
abbrev pub look_from : {S A : Type 0} → Ahead → Reads S A → Reads S A
look_from from read state ahead = returned ahead (read state from)

abbrev pub conditioned_by : {S : Type 0} → Readers S → Ahead → Run → Reads S Bool
conditioned_by inner from run state ahead =
    (look_from from (tokens (types_alone (count_ahead from - count_ahead ahead))) >>= typed_by inner run) state ahead

unfoldable pub condition_begins : {S : Type 0} → Kinds S → Readers S → Reads S Bool
condition_begins asks inner state ahead = (run_passed asks >>= conditioned_by inner ahead) state ahead

-- 6.4: whether a declaration of an object with `=` stands ahead
unfoldable pub is_declared_condition : {S : Type 0} → Kinds S → Readers S → Reads S Bool
is_declared_condition asks inner = look (condition_begins asks inner)
