-- Lists of expressions in brackets (5.2.2, 5.2.3, 8.5).
use Rattle.std.specs.Prelude.{◌||◌, ◌==◌, if◌then◌else◌, List, [], ◌∷◌, ◌++◌}
use Rattle.cxx_model.specs.declared.keyword.TheConstants as keyword
use Rattle.cxx_model.specs.declared.limits.TheConstants as limits
use Rattle.cxx_model.specs.declared.punct.TheConstants as punct
use Rattle.cxx_model.specs.declared.stop.LimitKind.TheVariants.{Arguments, Nesting}
use Rattle.cxx_phrases.specs.declared.level.Level.TheVariants as level
use Rattle.cxx_phrases.specs.Operators.{begins_expression}
use Rattle.cxx_phrases.specs.Phrases.{Phrases, Inner}
use Rattle.cxx_reading.specs.Reads.{Reads, Turn, More, Done, ◌>>=◌, got, limited, kind_ahead, behind, repeat}
use Rattle.cxx_reading.specs.Tokens.{is_punct, is_keyword, refused}
use Rattle.cxx_reading.specs.Trees.{CxxTree}

-- behind an argument
unfoldable pub argument_ended : {S : Type 0} → List CxxTree → CxxTree → Reads S (Turn (List CxxTree) (List CxxTree))
argument_ended so_far tree state ahead =
    if is_punct punct.COMMA (kind_ahead ahead) then got (More (so_far ++ tree ∷ [])) state (behind ahead) else (
    if is_punct punct.RIGHT_PARENTHESIS (kind_ahead ahead) then got (Done (so_far ++ tree ∷ [])) state (behind ahead) else
    refused state ahead)

-- an argument, and what separates it from the next
unfoldable pub argument_step : {S : Type 0} → Inner S → List CxxTree → Reads S (Turn (List CxxTree) (List CxxTree))
argument_step inner so_far = inner.expression level.Assignment >>= argument_ended so_far

-- more arguments than there may be, where one can begin, which `throw` begins too
unfoldable pub arguments_over : {S A : Type 0} → List CxxTree → Reads S A
arguments_over so_far state ahead =
    if begins_expression (kind_ahead ahead) || is_keyword keyword.THROW (kind_ahead ahead) then limited Arguments state ahead else refused state ahead

unfoldable pub some_arguments : {S : Type 0} → Inner S → Reads S (List CxxTree)
some_arguments inner = repeat (argument_step inner) arguments_over limits.MOST_ARGUMENTS []

-- behind the bracket
unfoldable pub arguments_behind : {S : Type 0} → Inner S → Reads S (List CxxTree)
arguments_behind inner state ahead =
    if is_punct punct.RIGHT_PARENTHESIS (kind_ahead ahead) then got [] state (behind ahead) else some_arguments inner state ahead

-- arguments from the bracket ahead on, with its end
unfoldable pub arguments_at : {S : Type 0} → Phrases S → Inner S → Reads S (List CxxTree)
arguments_at asks inner state ahead =
    if asks.room == 0 then limited Nesting state ahead else arguments_behind inner state (behind ahead)
