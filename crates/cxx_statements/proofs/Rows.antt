-- Worked statements: their trees and what is asked, or the first fault.
use Rattle.std.specs.Prelude.{ℕ, pos, ◌≡◌, refl, ◌++◌, ◌==◌, ◌-◌, ◌||◌, Bool, if◌then◌else◌, List, [], ◌∷◌, Result, Ok, Err, codes}
use Rattle.cxx_model.specs.declared.fault.FaultText.{FaultText}
use Rattle.cxx_model.specs.declared.fault.FaultText.TheVariants as says
use Rattle.cxx_model.specs.declared.keyword.TheConstants as keyword
use Rattle.cxx_model.specs.declared.punct.TheConstants as punct
use Rattle.cxx_model.specs.declared.stop.LimitKind.{LimitKind}
use Rattle.cxx_model.specs.declared.stop.LimitKind.TheVariants as limit
use Rattle.cxx_model.specs.declared.token.Token.{Token}
use Rattle.cxx_model.specs.declared.token.TokenKind.{TokenKind}
use Rattle.cxx_model.specs.Stops.{Answer, Faulty, Limited}
use Rattle.cxx_model.specs.Text.Lexemes.{first_place, lexemes}
use Rattle.cxx_model.specs.Text.Spelling.{spelling_of, keywords, alternatives, operators, digraphs, word_kind, number_kind, operator, literal, hash, slash, percent, literal_type, literal_value}
use Rattle.cxx_model.specs.Text.Tokens.{Unread, tokens_of, tokens_from, front, longest_within}
use Rattle.cxx_reading.specs.Labels.{label_from}
use Rattle.cxx_reading.specs.Productions.{literal as literal_number}
use Rattle.cxx_reading.specs.Reads.{Reads, Ahead, Got, Turn, More, Done, got, kind_ahead, place_ahead, word_ahead, count_ahead, behind, repeat}
use Rattle.cxx_reading.specs.Tokens.{is_punct, is_keyword, is_name, is_number, punct_taken, refused}
use Rattle.cxx_reading.specs.Trees.{CxxTree, CxxTrees, no_trees, tree_then, Label, tree_of}
use Rattle.cxx_statements.specs.declared.parts.Head.{Head}
use Rattle.cxx_statements.specs.declared.parts.Head.TheVariants as head
use Rattle.cxx_statements.specs.declared.parts.Purpose.{Purpose}
use Rattle.cxx_statements.specs.Statements.{CxxTarget, to_bool, to_promoted, to_type, to_result, Parts, condition_at, last_condition_at, expression_statement, declaration_statement, plain_statement, begins_statement, begins_no_object, first_part, some_condition, second_part, some_step, third_part, loop_parts_at, block_in, begun, sub_in, else_part, other_part, if_ended, if_in, switch_in, loop_ended, while_in, do_in, for_in, jump_taken, jump_in, some_answer, answer, return_in, fresh_label, case_of, default_taken, default_of, label_in, label_at, is_label, label_step, labels_in, empty_statement, empty_in, plain_in, flat_in, keyword_in, unlabelled_in, labelled, statement_in, sub_statement_at, statement_step, statements_in, statements_at, within, body_at}

-- ---- what trees look like: each its head and, in brackets, its children

abbrev head_of : Label → List ℕ
head_of label =
    if label.production == 23 then codes "{}" else (
    if label.production == 24 then codes "decl" else (
    if label.production == 25 then codes "expr" else (
    if label.production == 26 then codes "if" else (
    if label.production == 27 then codes "switch" else (
    if label.production == 28 then by_word label.spelling else (
    if label.production == 29 then codes "while" else (
    if label.production == 30 then codes "do" else (
    if label.production == 31 then codes "for" else (
    if label.production == 33 then codes "return" else
    label.spelling)))))))))
  where
    by_word : List ℕ → List ℕ
    by_word [] = codes "label"
    by_word (b ∷ word) = b ∷ word

abbrev in_brackets : List ℕ → List ℕ
in_brackets [] = []
in_brackets text = codes "[" ++ (text ++ codes "]")

abbrev shown : CxxTrees → List ℕ
shown no_trees = []
shown (tree_then label children next) = (codes " " ++ (head_of label ++ in_brackets (shown children))) ++ shown next

abbrev shown_each : List CxxTree → List ℕ
shown_each [] = []
shown_each (tree ∷ others) = shown (tree_then tree.label tree.children no_trees) ++ shown_each others

-- ---- a user: an expression is one name or number, a declaration begins with `int`, and the state holds what was asked

abbrev leaf : Ahead → Ahead → CxxTree
leaf from to = tree_of (label_from literal_number (word_ahead from) from to) []

abbrev is_one : TokenKind → Bool
is_one kind = is_name kind || is_number kind

abbrev head_here : Reads (List ℕ) Head
head_here state ahead =
    if is_keyword keyword.INT (kind_ahead ahead) then got head.Declaration state ahead else (
    if is_one (kind_ahead ahead) then got head.Expression state ahead else
    refused state ahead)

abbrev declared_step : Ahead → Reads (List ℕ) (Turn Ahead CxxTree)
declared_step from state ahead =
    if is_punct punct.SEMICOLON (kind_ahead ahead) then got (Done (leaf from (behind ahead))) state (behind ahead) else
    got (More from) state (behind ahead)

abbrev undeclared : Ahead → Reads (List ℕ) CxxTree
undeclared from = refused

abbrev declaration_here : Reads (List ℕ) CxxTree
declaration_here state ahead = repeat declared_step undeclared (count_ahead ahead) ahead state ahead

abbrev expression_here : Purpose → Reads (List ℕ) CxxTree
expression_here purpose state ahead =
    if is_one (kind_ahead ahead) then got (leaf ahead (behind ahead)) state (behind ahead) else refused state ahead

abbrev asked_for : CxxTarget → List ℕ
asked_for to_bool = codes "b"
asked_for to_promoted = codes "p"
asked_for (to_type of) = codes "t"
asked_for to_result = codes "r"

abbrev digit_of : List ℕ → ℕ
digit_of [] = 0
digit_of (b ∷ others) = b - 48

abbrev user : ℕ → Parts (List ℕ)
user room = record {
  head = head_here;
  declaration = declaration_here;
  expression = expression_here;
  converted = λ target tree state. Ok (tree, state ++ asked_for target);
  value = λ tree state. Ok (pos (digit_of tree.label.spelling), state);
  enter_block = λ state. Ok (tt, state ++ codes "+");
  leave_block = λ state. Ok (tt, state ++ codes "-");
}

-- What is read: the trees, what was asked in order, and the column of what is ahead then; the first fault by column and
-- text; or a limit.
pub data Row : Type 0 where
  Read : List ℕ → List ℕ → ℕ → Row
  Broken : ℕ → FaultText → Row
  PastLimit : LimitKind → Row
  NoTokens : Row

abbrev row_by : Answer (Got (List ℕ) (List CxxTree)) → Row
row_by (Ok one) = Read (shown_each one.value) one.state (place_ahead one.rest).column
row_by (Err (Faulty fault)) = Broken fault.place.column fault.text
row_by (Err (Limited kind)) = PastLimit kind

abbrev ahead_of : List ℕ → List Token → Ahead
ahead_of bytes tokens = record { last = first_place; tokens = lexemes bytes tokens }

body_row : ℕ → List ℕ → Result (List Token) Unread → Row
unfolding spelling_of keywords alternatives operators digraphs word_kind number_kind operator literal hash slash percent literal_type literal_value tokens_of tokens_from front longest_within condition_at last_condition_at expression_statement declaration_statement plain_statement begins_statement begins_no_object first_part some_condition second_part some_step third_part loop_parts_at block_in begun sub_in else_part other_part if_ended if_in switch_in loop_ended while_in do_in for_in jump_taken jump_in some_answer answer return_in fresh_label case_of default_taken default_of label_in label_at is_label label_step labels_in empty_statement empty_in plain_in flat_in keyword_in unlabelled_in labelled statement_in sub_statement_at statement_step statements_in statements_at within body_at repeat is_punct is_keyword is_name is_number punct_taken
body_row room bytes (Ok tokens) = row_by (body_at user room [] (ahead_of bytes tokens))
body_row room bytes (Err why) = NoTokens

-- the statements of a body behind its `{`, with room for so many brackets
row : ℕ → List ℕ → Row
unfolding spelling_of keywords alternatives operators digraphs word_kind number_kind operator literal hash slash percent literal_type literal_value tokens_of tokens_from front longest_within body_row
row room bytes = body_row room bytes (tokens_of bytes)

-- ---- expressions, declarations and blocks (6.2, 6.3, 6.7)

row_1 : row 9 (codes "}") ≡ Read (codes "") (codes "") 2
unfolding row body_row
row_1 = refl

row_2 : row 9 (codes "a; int b c; ; } d") ≡ Read (codes " expr[ a] decl[ int] expr") (codes "") 17
unfolding row body_row
row_2 = refl

row_3 : row 9 (codes "{ { a; } { } } }") ≡ Read (codes " {}[ {}[ expr[ a]] {}]") (codes "++-+--") 17
unfolding row body_row
row_3 = refl

-- no `}` at the end
row_4 : row 9 (codes "a;") ≡ Broken 3 says.SyntaxError
unfolding row body_row
row_4 = refl

row_5 : row 9 (codes "{ a; } ") ≡ Broken 8 says.SyntaxError
unfolding row body_row
row_5 = refl

row_6 : row 9 (codes "{ a; ") ≡ Broken 6 says.SyntaxError
unfolding row body_row
row_6 = refl

row_7 : row 9 (codes "a }") ≡ Broken 3 says.SyntaxError
unfolding row body_row
row_7 = refl

row_8 : row 9 (codes ") }") ≡ Broken 1 says.SyntaxError
unfolding row body_row
row_8 = refl

-- ---- selection (6.4)

row_9 : row 9 (codes "if (a) b; c; }") ≡ Read (codes " if[ a expr[ b]] expr[ c]") (codes "+b+--") 15
unfolding row body_row
row_9 = refl

-- an `else` belongs to the nearest `if`
row_10 : row 9 (codes "if (a) if (b) c; else d; }") ≡ Read (codes " if[ a if[ b expr[ c] expr[ d]]]") (codes "+b++b+-+----") 27
unfolding row body_row
row_10 = refl

row_11 : row 9 (codes "if (a) { if (b) c; } else d; }") ≡ Read (codes " if[ a {}[ if[ b expr[ c]]] expr[ d]]") (codes "+b++b+---+--") 31
unfolding row body_row
row_11 = refl

row_12 : row 9 (codes "if (a) ; else if (b) ; else ; }") ≡ Read (codes " if[ a expr if[ b expr expr]]") (codes "+b+-++b+-+----") 32
unfolding row body_row
row_12 = refl

row_13 : row 9 (codes "else a; }") ≡ Broken 1 says.SyntaxError
unfolding row body_row
row_13 = refl

row_14 : row 9 (codes "if (a) b; else c; else d; }") ≡ Broken 19 says.SyntaxError
unfolding row body_row
row_14 = refl

row_15 : row 9 (codes "if a; }") ≡ Broken 4 says.SyntaxError
unfolding row body_row
row_15 = refl

row_16 : row 9 (codes "if (a b; }") ≡ Broken 7 says.SyntaxError
unfolding row body_row
row_16 = refl

-- a condition is converted before its bracket is looked at, and what is switched over is promoted
row_17 : row 9 (codes "switch (a) { case 1: b; case 2: case 3: c; default: d; } }") ≡ Read (codes " switch[ a {}[ label[ case[ 1] expr[ b]] label[ case[ 2] case[ 3] expr[ c]] label[ default expr[ d]]]]") (codes "+p+ttt--") 59
unfolding row body_row
row_17 = refl

-- labels stand flat before their statement
row_18 : row 9 (codes "switch (a) case 1: case 2: default: b; }") ≡ Read (codes " switch[ a label[ case[ 1] case[ 2] default expr[ b]]]") (codes "+p+tt--") 41
unfolding row body_row
row_18 = refl

row_19 : row 9 (codes "switch (a) { case 1: b; case 2: c; case 1: d; } }") ≡ Broken 36 says.OperandsDoNotFit
unfolding row body_row
row_19 = refl

row_20 : row 9 (codes "switch (a) { default: b; case 1: default: c; } }") ≡ Broken 34 says.OperandsDoNotFit
unfolding row body_row
row_20 = refl

-- that two labels are one is met before the `:`
row_21 : row 9 (codes "switch (a) { case 1: case 1 ; } }") ≡ Broken 22 says.OperandsDoNotFit
unfolding row body_row
row_21 = refl

row_22 : row 9 (codes "switch (a) { case 1 ; } }") ≡ Broken 21 says.SyntaxError
unfolding row body_row
row_22 = refl

-- outside of a switch, before the constant
row_23 : row 9 (codes "case ;") ≡ Broken 1 says.OperandsDoNotFit
unfolding row body_row
row_23 = refl

row_24 : row 9 (codes "if (a) default: b; }") ≡ Broken 8 says.OperandsDoNotFit
unfolding row body_row
row_24 = refl

-- labels in other statements are those of the switch around, and those of an inner switch are its own
row_25 : row 9 (codes "switch (a) { while (b) { case 1: c; } case 1: d; } }") ≡ Broken 39 says.OperandsDoNotFit
unfolding row body_row
row_25 = refl

row_26 : row 9 (codes "switch (a) { if (b) default: c; else default: d; } }") ≡ Broken 38 says.OperandsDoNotFit
unfolding row body_row
row_26 = refl

row_27 : row 9 (codes "switch (a) { case 1: switch (b) { case 1: default: ; } default: ; } }") ≡ Read (codes " switch[ a {}[ label[ case[ 1] switch[ b {}[ label[ case[ 1] default expr]]]] label[ default expr]]]") (codes "+p+t+p+t----") 70
unfolding row body_row
row_27 = refl

row_28 : row 9 (codes "switch (a) { case 1: } }") ≡ Broken 22 says.SyntaxError
unfolding row body_row
row_28 = refl

-- ---- loops (6.5)

row_29 : row 9 (codes "while (a) b; }") ≡ Read (codes " while[ a expr[ b]]") (codes "+b+--") 15
unfolding row body_row
row_29 = refl

row_30 : row 9 (codes "do a; while (b); }") ≡ Read (codes " do[ expr[ a] b]") (codes "+-b") 19
unfolding row body_row
row_30 = refl

row_31 : row 9 (codes "do a; while (b) }") ≡ Broken 17 says.SyntaxError
unfolding row body_row
row_31 = refl

row_32 : row 9 (codes "do a; }") ≡ Broken 7 says.SyntaxError
unfolding row body_row
row_32 = refl

-- a part that is left out is a statement all the same
row_33 : row 9 (codes "for (;;) ; }") ≡ Read (codes " for[ expr expr expr expr]") (codes "++--") 13
unfolding row body_row
row_33 = refl

row_34 : row 9 (codes "for (int i; a; b) { } }") ≡ Read (codes " for[ decl[ int] a b {}]") (codes "+b+--") 24
unfolding row body_row
row_34 = refl

row_35 : row 9 (codes "for (a; ; b) c; }") ≡ Read (codes " for[ expr[ a] expr b expr[ c]]") (codes "++--") 18
unfolding row body_row
row_35 = refl

row_36 : row 9 (codes "for (break; ; ) ; }") ≡ Broken 6 says.SyntaxError
unfolding row body_row
row_36 = refl

row_37 : row 9 (codes "for ({ } ; ) ; }") ≡ Broken 6 says.SyntaxError
unfolding row body_row
row_37 = refl

row_38 : row 9 (codes "for (;) ; }") ≡ Broken 7 says.SyntaxError
unfolding row body_row
row_38 = refl

-- ---- jumps (6.6)

row_39 : row 9 (codes "while (a) break; for (;;) { continue; } }") ≡ Read (codes " while[ a break] for[ expr expr expr {}[ continue]]") (codes "+b+--++--") 42
unfolding row body_row
row_39 = refl

row_40 : row 9 (codes "break; }") ≡ Broken 1 says.OperandsDoNotFit
unfolding row body_row
row_40 = refl

row_41 : row 9 (codes "while (a) b; break; }") ≡ Broken 14 says.OperandsDoNotFit
unfolding row body_row
row_41 = refl

row_42 : row 9 (codes "switch (a) { break; continue; } }") ≡ Broken 21 says.OperandsDoNotFit
unfolding row body_row
row_42 = refl

row_43 : row 9 (codes "do switch (a) { continue; } while (b); continue; }") ≡ Broken 40 says.OperandsDoNotFit
unfolding row body_row
row_43 = refl

row_44 : row 9 (codes "switch (a) ; break; }") ≡ Broken 14 says.OperandsDoNotFit
unfolding row body_row
row_44 = refl

row_45 : row 9 (codes "return; return a; }") ≡ Read (codes " return return[ a]") (codes "r") 20
unfolding row body_row
row_45 = refl

row_46 : row 9 (codes "return a b; }") ≡ Broken 10 says.SyntaxError
unfolding row body_row
row_46 = refl

-- ---- the limit of nesting

row_47 : row 0 (codes "if (a) b; }") ≡ PastLimit limit.Nesting
unfolding row body_row
row_47 = refl

row_48 : row 1 (codes "if (a) b; }") ≡ Read (codes " if[ a expr[ b]]") (codes "+b+--") 12
unfolding row body_row
row_48 = refl

row_49 : row 1 (codes "if (a) if (b) c; }") ≡ PastLimit limit.Nesting
unfolding row body_row
row_49 = refl

row_50 : row 1 (codes "{ { } } }") ≡ PastLimit limit.Nesting
unfolding row body_row
row_50 = refl

-- what begins no statement is met before it
row_51 : row 0 (codes "do ) }") ≡ Broken 4 says.SyntaxError
unfolding row body_row
row_51 = refl

row_52 : row 0 (codes "do a; }") ≡ PastLimit limit.Nesting
unfolding row body_row
row_52 = refl
