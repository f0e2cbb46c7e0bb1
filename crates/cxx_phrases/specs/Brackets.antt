-- What a `(` begins where an operand may stand, told by what stands behind it (5.1, 5.4, 8.2, 13.3.1.1.1).
use Rattle.std.specs.Prelude.{ℕ, suc, Bool, true, false, ◌&&◌, if◌then◌else◌, Option, Some, None}
use Rattle.cxx_model.specs.declared.punct.TheConstants as punct
use Rattle.cxx_model.specs.declared.stop.LimitKind.TheVariants.{Nesting}
use Rattle.cxx_phrases.specs.declared.shape.TypeShape.{TypeShape}
use Rattle.cxx_phrases.specs.declared.shape.TypeShape.TheVariants as shape
use Rattle.cxx_phrases.specs.Operators.{begins_expression}
use Rattle.cxx_phrases.specs.Phrases.{Inner}
use Rattle.cxx_reading.specs.Reads.{Reads, Turn, More, Done, ◌>>=◌, got, give, limited, kind_ahead, behind, repeat}
use Rattle.cxx_reading.specs.Shapes.{look, past}
use Rattle.cxx_reading.specs.Tokens.{is_punct, is_whole_name, begins_name, behind_name, path_ahead}
use Rattle.cxx_reading.specs.Trees.{CxxPath}

-- ---- a called name in brackets alone (13.3.1.1.1)

-- one more bracket
unfoldable pub opened_step : {S : Type 0} → ℕ → Reads S (Turn ℕ ℕ)
opened_step count state ahead =
    if is_punct punct.LEFT_PARENTHESIS (kind_ahead ahead) then got (More (suc count)) state (behind ahead) else got (Done count) state ahead

-- no more brackets than there is room for
unfoldable pub opened_over : {S : Type 0} → ℕ → Reads S ℕ
opened_over count state ahead =
    if is_punct punct.LEFT_PARENTHESIS (kind_ahead ahead) then limited Nesting state ahead else got count state ahead

-- brackets that open, one behind another
unfoldable pub opened_passed : {S : Type 0} → ℕ → Reads S ℕ
opened_passed room = repeat opened_step opened_over room 0

unfoldable pub closed_step : {S : Type 0} → Unit {0} → Reads S (Turn (Unit {0}) Bool)
closed_step so_far state ahead =
    if is_punct punct.RIGHT_PARENTHESIS (kind_ahead ahead) then got (More tt) state (behind ahead) else got (Done false) state ahead

abbrev pub give_true : {S : Type 0} → Unit {0} → Reads S Bool
give_true so_far = give true

-- whether so many brackets close
unfoldable pub closed_passed : {S : Type 0} → ℕ → Reads S Bool
closed_passed count = repeat closed_step give_true count tt

abbrev pub called_by : {S : Type 0} → CxxPath → Bool → Reads S (Option CxxPath)
called_by path true state ahead = got (if is_punct punct.LEFT_PARENTHESIS (kind_ahead ahead) then Some path else None) state ahead
called_by path false state ahead = got None state ahead

unfoldable pub name_closed : {S : Type 0} → ℕ → CxxPath → Reads S (Option CxxPath)
name_closed count path = closed_passed count >>= called_by path

-- a name, with qualifiers or without
unfoldable pub name_opened : {S : Type 0} → ℕ → Reads S (Option CxxPath)
name_opened count state ahead =
    if begins_name ahead && is_whole_name ahead then name_closed count (path_ahead ahead) state (behind_name ahead) else got None state ahead

-- the name that stands in brackets alone before a `(`, where one does
unfoldable pub called_name : {S : Type 0} → ℕ → Reads S (Option CxxPath)
called_name room = opened_passed room >>= name_opened

-- ---- casts (5.4)

abbrev pub is_cast : {S : Type 0} → TypeShape → Reads S Bool
is_cast shape.NoType state ahead = got false state ahead
is_cast shape.Closed state ahead = got (begins_expression (kind_ahead ahead)) state ahead
is_cast shape.Surely state ahead = got true state ahead

unfoldable pub cast_passed : {S : Type 0} → Inner S → Reads S Bool
cast_passed inner = inner.type_passed >>= is_cast

-- whether the bracket ahead begins a cast: a type stands in it, and what is behind it can begin an operand
unfoldable pub begins_cast : {S : Type 0} → Inner S → Reads S Bool
begins_cast inner = look (past (cast_passed inner))
