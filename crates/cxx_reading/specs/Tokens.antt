-- Single tokens ahead of a reader, and what stands where no production goes on.
use Rattle.std.specs.Prelude.{ℕ, Bool, true, false, not, ◌&&◌, ◌||◌, if◌then◌else◌, ◌==◌, List, [], ◌∷◌, None}
use Rattle.cxx_model.specs.declared.fault.FaultText.{FaultText}
use Rattle.cxx_model.specs.declared.fault.FaultText.TheVariants as says
use Rattle.cxx_model.specs.declared.fault.LeftOut.TheVariants as form
use Rattle.cxx_model.specs.declared.keyword.TheConstants as keyword
use Rattle.cxx_model.specs.declared.place.Place.{Place}
use Rattle.cxx_model.specs.declared.punct.TheConstants as punct
use Rattle.cxx_model.specs.declared.token.TokenKind.{TokenKind}
use Rattle.cxx_model.specs.declared.token.TokenKind.TheVariants.{Name, Keyword, Punct, Integer, Character, End}
use Rattle.cxx_model.specs.declared.tree.Kind.{Kind}
use Rattle.cxx_model.specs.declared.tree.Kind.TheVariants as of_kind
use Rattle.cxx_model.specs.Text.Lexemes.{Lexeme}
use Rattle.cxx_reading.specs.Reads.{Reads, Asks, Ahead, ask, got, fault_at, kind_ahead, place_ahead, behind}
use Rattle.cxx_reading.specs.Trees.{CxxPath, CxxPathPart}

unfoldable pub is_punct : ℕ → TokenKind → Bool
is_punct n (Punct m) = m == n
is_punct n _ = false

unfoldable pub is_keyword : ℕ → TokenKind → Bool
is_keyword n (Keyword m) = m == n
is_keyword n _ = false

unfoldable pub is_name : TokenKind → Bool
is_name Name = true
is_name _ = false

unfoldable pub is_end : TokenKind → Bool
is_end End = true
is_end _ = false

-- 2.13.1, 2.13.2
unfoldable pub is_number : TokenKind → Bool
is_number Integer = true
is_number Character = true
is_number _ = false

-- ---- names

-- 3.4.1: whether a name without qualifiers stands ahead
abbrev pub is_plain_name : Ahead → Bool
is_plain_name ahead = is_name (kind_ahead ahead) && not (is_punct punct.SCOPE (kind_ahead (behind ahead)))

-- 3.4.3: whether a name begins ahead, with qualifiers or without
abbrev pub begins_name : Ahead → Bool
begins_name ahead = is_name (kind_ahead ahead) || is_punct punct.SCOPE (kind_ahead ahead)

-- What was passed of a name: its parts, what is ahead then, and whether a part stands wherever one is wanted.
pub record Passed : Type 0 where
  pub parts : List CxxPathPart
  pub rest : Ahead
  pub is_whole : Bool

abbrev pub part_of : Lexeme → CxxPathPart
part_of token = record { word = token.spelling; place = token.place; arguments = None }

abbrev pub part_then : CxxPathPart → Passed → Passed
part_then part passed = record passed { parts = part ∷ passed.parts }

abbrev pub passed_to : Place → List Lexeme → Bool → Passed
passed_to last tokens is_whole = record { parts = []; rest = record { last = last; tokens = tokens }; is_whole = is_whole }

-- parts with `::` between them, as far as they go; a part is wanted first, or `::` may stand
unfoldable pub passed_from : Bool → Place → List Lexeme → Passed
passed_from wanted last [] = passed_to last [] (not wanted)
passed_from true last (token ∷ tokens) =
    if is_name token.kind then part_then (part_of token) (passed_from false token.place tokens) else passed_to last (token ∷ tokens) false
passed_from false last (token ∷ tokens) =
    if is_punct punct.SCOPE token.kind then passed_from true token.place tokens else passed_to last (token ∷ tokens) true

-- `::` may stand before the first part
abbrev pub passed_ahead : Ahead → Passed
passed_ahead ahead = passed_from (not (is_punct punct.SCOPE (kind_ahead ahead))) ahead.last ahead.tokens

-- 3.4.3: the name ahead, with its qualifiers
abbrev pub path_ahead : Ahead → CxxPath
path_ahead ahead = record { global = is_punct punct.SCOPE (kind_ahead ahead); parts = (passed_ahead ahead).parts }

-- what is ahead behind that
abbrev pub behind_name : Ahead → Ahead
behind_name ahead = (passed_ahead ahead).rest

-- whether a part stands behind each `::` of it
abbrev pub is_whole_name : Ahead → Bool
is_whole_name ahead = (passed_ahead ahead).is_whole

abbrev pub token_in : List Lexeme → Lexeme
token_in [] = record { kind = End; place = record { line = 0; column = 0 }; spelling = [] }
token_in (token ∷ tokens) = token

-- the token ahead, taken
abbrev pub token_taken : {S : Type 0} → Reads S Lexeme
token_taken state ahead = got (token_in ahead.tokens) state (behind ahead)

-- ---- what stands where no production goes on

-- no form of the profile or of the language stands there
abbrev pub refused : {S A : Type 0} → Reads S A
refused state ahead = fault_at (place_ahead ahead) says.SyntaxError state ahead

-- a form that is not read yet
abbrev pub not_built : {S A : Type 0} → Reads S A
not_built state ahead = fault_at (place_ahead ahead) says.NotBuilt state ahead

-- 5.1, 14.2: what may stand behind `::` and is not read yet; 5.3.4, 5.3.5: `new` and `delete` only where no name stands before
abbrev pub is_unbuilt_part : Bool → TokenKind → Bool
is_unbuilt_part is_first kind =
    is_keyword keyword.TEMPLATE kind || (is_keyword keyword.OPERATOR kind || (is_punct punct.TILDE kind || (is_first && (is_keyword keyword.NEW kind || is_keyword keyword.DELETE kind))))

-- what stands where a part of a name is wanted, the first or a later one
unfoldable pub no_part_there : {S A : Type 0} → Bool → Reads S A
no_part_there is_first state ahead = if is_unbuilt_part is_first (kind_ahead ahead) then not_built state ahead else refused state ahead

-- whether `::` stands ahead, and no name behind it
abbrev pub lacks_first_part : Ahead → Bool
lacks_first_part ahead = is_punct punct.SCOPE (kind_ahead ahead) && not (is_name (kind_ahead (behind ahead)))

-- the name ahead with its qualifiers, taken
unfoldable pub path_taken : {S : Type 0} → Reads S CxxPath
path_taken state ahead =
    if is_whole_name ahead then got (path_ahead ahead) state (behind_name ahead) else no_part_there (lacks_first_part ahead) state (behind_name ahead)

-- 8.3.3: whether the name of a class, `::` and `*` stand ahead
abbrev pub points_to_member : Ahead → Bool
points_to_member ahead = begins_name ahead && (not (lacks_first_part ahead) && (not (is_whole_name ahead) && is_punct punct.STAR (kind_ahead (behind_name ahead))))

-- 8.3: where the name ahead may have no qualifiers, its first `::` is refused
abbrev pub no_qualifier : {S A : Type 0} → Reads S A
no_qualifier state ahead = if is_name (kind_ahead ahead) then refused state (behind ahead) else refused state ahead

-- the same, where it is not asked which it is
abbrev pub name_taken : {S : Type 0} → Reads S (Unit {0})
name_taken state ahead = got tt state (behind_name ahead)

-- 3.4: what the name ahead is to a reader; one that is not whole is met when it is read
unfoldable pub kind_of_name : {S : Type 0} → (CxxPath → Asks S Kind) → Reads S Kind
kind_of_name kind state ahead = if is_whole_name ahead then ask (kind (path_ahead ahead)) state ahead else got of_kind.Value state ahead

-- the token with a number, taken, where it stands ahead
unfoldable pub punct_taken : {S : Type 0} → ℕ → Reads S (Unit {0})
punct_taken n state ahead = if is_punct n (kind_ahead ahead) then got tt state (behind ahead) else refused state ahead

-- clause 7: a keyword with which a declaration begins that is not read yet
abbrev pub begins_unbuilt : ℕ → Bool
begins_unbuilt n = n == keyword.NAMESPACE || (n == keyword.USING || (n == keyword.TEMPLATE || (n == keyword.CLASS || (n == keyword.STRUCT || (n == keyword.UNION || (n == keyword.TYPENAME || n == keyword.OPERATOR))))))

abbrev pub form_of_keyword : ℕ → FaultText
form_of_keyword n =
    if n == keyword.ASM then says.LeftOut form.Asm else (
    if n == keyword.EXPORT then says.LeftOut form.Export else (
    if begins_unbuilt n then says.NotBuilt else
    says.SyntaxError))

abbrev pub form_of_kind : TokenKind → FaultText
form_of_kind (Keyword n) = form_of_keyword n
form_of_kind kind = says.SyntaxError

-- clause 7: what stands where a declaration would begin
unfoldable pub no_declaration : {S A : Type 0} → Reads S A
no_declaration state ahead = fault_at (place_ahead ahead) (form_of_kind (kind_ahead ahead)) state ahead

-- clause 8: what stands where a declarator would begin: the name of an operator is not read yet
unfoldable pub no_declarator : {S A : Type 0} → Reads S A
no_declarator state ahead = if is_keyword keyword.OPERATOR (kind_ahead ahead) then not_built state ahead else refused state ahead
