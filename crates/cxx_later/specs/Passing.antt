-- Bodies of functions in a class (9.3) are passed over where they stand, and read where the outermost class has ended.
use Rattle.std.specs.Prelude.{ℕ, Bool, false, not, nat_eq, if◌then◌else◌, List, [], ◌∷◌, ◌++◌, Option, Some, None}
use Rattle.cxx_model.specs.declared.punct.TheConstants as punct
use Rattle.cxx_model.specs.declared.token.TokenKind.{TokenKind}
use Rattle.cxx_reading.specs.Labels.{label_from}
use Rattle.cxx_reading.specs.Reads.{Reads, Ahead, Turn, More, Done, ◌>>=◌, got, give, looked, tokens, kind_ahead, count_ahead, behind, repeat}
use Rattle.cxx_reading.specs.Shapes.{closes, opens}
use Rattle.cxx_reading.specs.State.{CxxState}
use Rattle.cxx_reading.specs.Tokens.{is_end, is_punct, refused}
use Rattle.cxx_reading.specs.Trees.{CxxTree, tree_of}

-- ---- passing over

-- the number of the bracket that closes one that opens
abbrev pub closer_of : TokenKind → ℕ
closer_of kind =
    if is_punct punct.LEFT_PARENTHESIS kind then punct.RIGHT_PARENTHESIS else (
    if is_punct punct.LEFT_BRACKET kind then punct.RIGHT_BRACKET else
    punct.RIGHT_BRACE)

-- which of the brackets that have to close is to close next: the last one
abbrev pub innermost : List ℕ → Option ℕ
innermost [] = None
innermost (n ∷ []) = Some n
innermost (n ∷ m ∷ others) = innermost (m ∷ others)

-- those round it
abbrev pub outer : List ℕ → List ℕ
outer [] = []
outer (n ∷ []) = []
outer (n ∷ m ∷ others) = n ∷ outer (m ∷ others)

-- behind the last of them nothing is left to be passed
abbrev pub closed : List ℕ → Turn (List ℕ) (Unit {0})
closed [] = Done tt
closed (n ∷ others) = More (n ∷ others)

abbrev pub closes_by : Option ℕ → TokenKind → Bool
closes_by None kind = false
closes_by (Some n) kind = is_punct n kind

-- a token, or a bracket with what it leaves to be closed
unfoldable pub token_passed : List ℕ → Reads (Unit {0}) (List ℕ)
token_passed closers state ahead =
    if is_end (kind_ahead ahead) then refused state ahead else (
    if opens (kind_ahead ahead) then got (closers ++ closer_of (kind_ahead ahead) ∷ []) state (behind ahead) else (
    if not (closes (kind_ahead ahead)) then got closers state (behind ahead) else (
    if closes_by (innermost closers) (kind_ahead ahead) then got (outer closers) state (behind ahead) else
    refused state ahead)))

unfoldable pub passing_step : List ℕ → Reads (Unit {0}) (Turn (List ℕ) (Unit {0}))
passing_step closers = token_passed closers >>= λ left. give (closed left)

abbrev pub never_closed : List ℕ → Reads (Unit {0}) (Unit {0})
never_closed closers = refused

-- from an opening bracket behind the one that closes it
unfoldable pub body_passed : Reads (Unit {0}) (Unit {0})
body_passed state ahead = repeat passing_step never_closed (count_ahead ahead) [] state ahead

-- the number of the production of a body that was passed over, which stands for the tokens of the body
abbrev pub passed_body : ℕ
passed_body = 56

-- its tree names the scope of the list of parameters, and has the declarator of its function
abbrev pub passed_tree : ℕ → CxxTree → Ahead → Ahead → CxxTree
passed_tree list declarator from to = tree_of (record (label_from passed_body [] from to) { target = Some list }) (declarator ∷ [])

unfoldable pub body_later : ℕ → CxxTree → Reads CxxState CxxTree
body_later list declarator = do
  from ← looked
  passed ← tokens body_passed
  to ← looked
  give (passed_tree list declarator from to)

-- ---- going on

-- a token is passed, unless so many are left
unfoldable pub forward_step : ℕ → Unit {0} → Reads CxxState (Turn (Unit {0}) (Unit {0}))
forward_step n so_far state ahead = if nat_eq (count_ahead ahead) n then got (Done tt) state ahead else got (More tt) state (behind ahead)

-- up to where so many are left
unfoldable pub forward_to : ℕ → Reads CxxState (Unit {0})
forward_to n state ahead = repeat (forward_step n) give (count_ahead ahead) tt state ahead

-- what was passed over has ended where so many are left
unfoldable pub ends_where : ℕ → Reads CxxState (Unit {0})
ends_where n state ahead = if nat_eq (count_ahead ahead) n then got tt state ahead else refused state ahead
