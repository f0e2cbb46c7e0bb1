-- The question of a call, asked of the decision.
use Rattle.std.specs.Prelude.{ℕ, zero, suc, ◌≡◌, ◌<◌, ◌≤◌, nat_lt, Bool, true, false, List, [], ◌∷◌, ◌++◌, length, Option, Some, None, Result, Ok, Err, refl}
use Rattle.std.proofs.Common.{◌+◌, ap, sym, subst, ◌∙◌, append_assoc, arith, get_or, drop}
use Rattle.std.proofs.lemmas.List.{append-nil, at_drop_more, at_drop_all}
use Rattle.std.specs.Option.{option_map}
use Rattle.cxx_found.specs.Associated.{given}
use Rattle.cxx_model.specs.declared.facts.Fact.{Fact}
use Rattle.cxx_model.specs.declared.types.TypeId.{TypeId}
use Rattle.cxx_model.specs.Types.Numbers.{AreTypesBelow, type_at}
use Rattle.cxx_expr.specs.Calls.{bare_word}
use Rattle.cxx_answers.proofs.Told.{fact_seen, there_at}
use Rattle.std.specs.List.{slice_get}
use Rattle.cxx_model.specs.declared.limits.TheConstants as limits
use Rattle.cxx_model.specs.declared.place.Place.{Place}
use Rattle.cxx_model.specs.declared.sequence.Operand.{Operand}
use Rattle.cxx_model.specs.declared.stop.LimitKind.TheVariants.{Arguments}
use Rattle.cxx_model.specs.declared.stop.Stop.{Stop}
use Rattle.cxx_model.specs.declared.stop.Stop.TheVariants as stop
use Rattle.cxx_model.specs.declared.types.FactId.{FactId}
use Rattle.cxx_model.specs.Facts.Declarations.{CxxFact, CxxGraph, fact_at, graph_at}
use Rattle.cxx_model.specs.Stops.{Answer, Gives, Limited, Stops, undeclared_at}
use Rattle.cxx_model.specs.Types.Trees.{CxxType}
use Rattle.cxx_meaning.specs.Conversions.Standard.{CxxOperand}
use Rattle.cxx_reading.specs.Seen.{Numbered}
use Rattle.cxx_reading.specs.State.{CxxState}
use Rattle.cxx_standard.specs.Views.{operand_at}
use Rattle.cxx_overload.specs.Calls.{CxxDecision, decided}
use Rattle.cxx_overload.specs.declared.object.Object.{Object}
use Rattle.cxx_overload.specs.Views as overload
use Rattle.cxx_overload.specs.Views.{object_at}
use Rattle.cxx_tree.specs.Answered.{IsAnswered}
use Rattle.cxx_tree.specs.Held.{Held, meaning}
use Rattle.cxx_expr.specs.declared.questions.Chosen.{Chosen}
use Rattle.cxx_expr.specs.Questions.{CxxChosen, CxxQuestion}
use Rattle.cxx_expr.specs.Views.{AreFactsKnown, AreOperandsBelow, IsChosen, chosen_of, numbered, numbered_in, operands_in, with_fact}
use Rattle.cxx_answers.specs.Answers.{call_here, called_as, decided_among, functions_of_call, types_of_operands, word_or_none}
use Rattle.cxx_answers.specs.declared.calls.Ruling.{Ruling}
use Rattle.cxx_answers.specs.Ruled.{CxxRuling, asked_of, made_by, ruled_by, ruling_at}

-- ---- the same values, seen from above

operands_same : (types : List CxxType) (operands : List Operand) → overload.operands_at types operands ≡ operands_in types operands
operands_same types [] = refl
operands_same types (one ∷ operands) = ap (λ os. operand_at types one ∷ os) (operands_same types operands)

pub operands_below : (count : ℕ) (operands : List Operand) → AreOperandsBelow count operands → overload.AreOperandsBelow count operands
operands_below count [] below = tt
operands_below count (one ∷ operands) below = (below.0, operands_below count operands below.1)

with_same : (n : ℕ) (others : List Numbered) (o : Option CxxFact) → overload.with_fact n o others ≡ with_fact n o others
with_same n others None = refl
with_same n others (Some fact) = refl

numbered_same : (graph : CxxGraph) (numbers : List FactId) → overload.numbered_in graph numbers ≡ numbered_in graph numbers
numbered_same graph [] = refl
numbered_same graph (n ∷ numbers) = ap (λ all. overload.with_fact n.0 (slice_get graph.facts n.0) all) (numbered_same graph numbers) ∙ with_same n.0 (numbered_in graph numbers) (slice_get graph.facts n.0)

pub ruling_same : (held : Held) (place : Place) (functions : List FactId) (object : Option Object) (operands : List Operand) (result : Result Ruling Stop) →
    Gives (ruling_at held.types) result (ruled_by (decided place (object_at held.types object) (overload.operands_at held.types operands) (graph_at held.types held.graph) (overload.numbered_in (graph_at held.types held.graph) functions))) →
    Gives (ruling_at held.types) result (ruled_by (decided place (object_at held.types object) (operands_in held.types operands) (meaning held).graph (numbered held functions)))
unfolding meaning
ruling_same held place functions object operands result given =
    let graph : CxxGraph = graph_at held.types held.graph in
    subst (λ (all : List Numbered). Gives (ruling_at held.types) result (ruled_by (decided place (object_at held.types object) (operands_in held.types operands) graph all))) (numbered_same graph functions)
    (subst (λ (os : List CxxOperand). Gives (ruling_at held.types) result (ruled_by (decided place (object_at held.types object) os graph (overload.numbered_in graph functions)))) (operands_same held.types operands) given)

-- ---- what is answered

then_made : CxxState → Answer CxxRuling → Answer (CxxChosen × CxxState)
then_made state (Ok one) = made_by one state
then_made state (Err why) = Err why

called_is : (state : CxxState) (answer : Answer CxxDecision) → then_made state (ruled_by answer) ≡ called_as state answer
unfolding then_made
called_is state (Ok one) = refl
called_is state (Err why) = refl

made_stops : (why : Stop) (state : CxxState) (answer : Answer CxxRuling) → Stops why answer → Stops why (then_made state answer)
unfolding then_made
made_stops stop.OutOfMemory state answer stops = tt
made_stops (stop.Fault f) state answer stops = ap (then_made state) stops
made_stops (stop.Limit kind) state answer stops = ap (then_made state) stops

-- a call that means no function
pub call_stops : (state : CxxState) (why : Stop) (answer : Answer CxxDecision) → Stops why (ruled_by answer) → Stops why (called_as state answer)
call_stops state why answer stops =
    subst (λ (reply : Answer (CxxChosen × CxxState)). Stops why reply) (called_is state answer) (made_stops why state (ruled_by answer) stops)

-- a call that means one, which is kept
pub call_made : (old new : Held) (result : Result Chosen Stop) (answer : Answer CxxDecision) (one : CxxRuling) → ruled_by answer ≡ Ok one → IsAnswered chosen_of IsChosen old new result (made_by one (meaning old)) → IsAnswered chosen_of IsChosen old new result (called_as (meaning old) answer)
unfolding then_made
call_made old new result answer one means made =
    subst (λ (reply : Answer (CxxChosen × CxxState)). IsAnswered chosen_of IsChosen old new result reply) (ap (then_made (meaning old)) (sym means) ∙ called_is (meaning old) answer) made

-- ---- how many arguments there are

counted : (types : List CxxType) (operands : List Operand) → length (operands_in types operands) ≡ length operands
counted types [] = refl
counted types (one ∷ operands) = ap suc (counted types operands)

count_is : (types : List CxxType) (operands seen : List Operand) (test b : Bool) → seen ≡ operands → test ≡ nat_lt limits.MOST_ARGUMENTS (length seen) → test ≡ b → nat_lt limits.MOST_ARGUMENTS (length (operands_in types operands)) ≡ b
count_is types operands seen test b same counts is =
    ap (λ n. nat_lt limits.MOST_ARGUMENTS n) (counted types operands)
    ∙ (ap (λ (os : List Operand). nat_lt limits.MOST_ARGUMENTS (length os)) (sym same) ∙ (sym counts ∙ is))

pub too_many : (held : Held) (place : Place) (is_bare : Bool) (word : List ℕ) (functions : List FactId) (object : Option Object) (operands seen : List Operand) (test : Bool) → seen ≡ operands → test ≡ nat_lt limits.MOST_ARGUMENTS (length seen) → test ≡ true → call_here (asked_of held place is_bare word functions object operands) (meaning held) ≡ Err (Limited Arguments)
unfolding call_here
too_many held place is_bare word functions object operands seen test same counts is = rw (count_is held.types operands seen test true same counts is) refl

pub few_enough : (old new : Held) (result : Result Chosen Stop) (place : Place) (is_bare : Bool) (word : List ℕ) (functions : List FactId) (object : Option Object) (operands seen : List Operand) (test : Bool) → seen ≡ operands → test ≡ nat_lt limits.MOST_ARGUMENTS (length seen) → test ≡ false
    → IsAnswered chosen_of IsChosen old new result (called_as (meaning old) (decided_among (asked_of old place is_bare word functions object operands) (meaning old) (functions_of_call (meaning old).graph (meaning old).here.scope (asked_of old place is_bare word functions object operands))))
    → IsAnswered chosen_of IsChosen old new result (call_here (asked_of old place is_bare word functions object operands) (meaning old))
unfolding call_here
few_enough old new result place is_bare word functions object operands seen test same counts is called = rw (count_is old.types operands seen test false same counts is) called

-- ---- among which functions it is decided

-- none
pub ruled_none : (held : Held) (place : Place) (is_bare : Bool) (word : List ℕ) (functions all : List FactId) (object : Option Object) (operands : List Operand) → length all ≡ 0 → Err (undeclared_at place (word_or_none (bare_word is_bare word))) ≡ ruled_by (decided_among (asked_of held place is_bare word functions object operands) (meaning held) (numbered held all))
ruled_none held place is_bare word functions [] object operands none = refl
ruled_none held place is_bare word functions (one ∷ all) object operands none = absurd (omega (arith, none))

known_there : (held : Held) (number : FactId) → number.0 < length held.graph.facts → (fact : CxxFact) × (slice_get (meaning held).graph.facts number.0 ≡ Some fact)
unfolding meaning
known_there held number less =
    let at : (fact : Fact) × (slice_get held.graph.facts number.0 ≡ Some fact) = there_at held.graph.facts number.0 less in
    (fact_at held.types at.0, fact_seen held.types held.graph.facts number.0 ∙ ap (option_map (fact_at held.types)) at.1)

some_decided : (held : Held) (place : Place) (is_bare : Bool) (word : List ℕ) (functions all : List FactId) (object : Option Object) (operands : List Operand) → AreFactsKnown held all → 0 < length all → decided place (object_at held.types object) (operands_in held.types operands) (meaning held).graph (numbered held all) ≡ decided_among (asked_of held place is_bare word functions object operands) (meaning held) (numbered held all)
some_decided held place is_bare word functions [] object operands known some = absurd (omega (arith, some))
some_decided held place is_bare word functions (one ∷ all) object operands known some =
    let there : (fact : CxxFact) × (slice_get (meaning held).graph.facts one.0 ≡ Some fact) = known_there held one known.0 in
    ap (λ o. decided place (object_at held.types object) (operands_in held.types operands) (meaning held).graph (with_fact one.0 o (numbered held all))) there.1
    ∙ sym (ap (λ o. decided_among (asked_of held place is_bare word functions object operands) (meaning held) (with_fact one.0 o (numbered held all))) there.1)

-- some
pub ruled_some : (held : Held) (place : Place) (is_bare : Bool) (word : List ℕ) (functions all : List FactId) (object : Option Object) (operands : List Operand) (result : Result Ruling Stop) → AreFactsKnown held all → 0 < length all → Gives (ruling_at held.types) result (ruled_by (decided place (object_at held.types object) (operands_in held.types operands) (meaning held).graph (numbered held all))) → Gives (ruling_at held.types) result (ruled_by (decided_among (asked_of held place is_bare word functions object operands) (meaning held) (numbered held all)))
ruled_some held place is_bare word functions all object operands result known some gives =
    subst (λ (answer : Answer CxxDecision). Gives (ruling_at held.types) result (ruled_by answer)) (some_decided held place is_bare word functions all object operands known some) gives

-- the functions are those that the call may mean
pub called_same : (old new : Held) (result : Result Chosen Stop) (question : CxxQuestion) (all : List FactId) (meant : List Numbered) → numbered old all ≡ meant → IsAnswered chosen_of IsChosen old new result (called_as (meaning old) (decided_among question (meaning old) (numbered old all))) → IsAnswered chosen_of IsChosen old new result (called_as (meaning old) (decided_among question (meaning old) meant))
called_same old new result question all meant is called =
    subst (λ (ones : List Numbered). IsAnswered chosen_of IsChosen old new result (called_as (meaning old) (decided_among question (meaning old) ones))) is called

-- ---- the types of arguments

given_more : (types : List CxxType) (of : List TypeId) (one : TypeId) → given types (of ++ one ∷ []) ≡ given types of ++ type_at types one.0 ∷ []
given_more types [] one = refl
given_more types (first ∷ of) one = ap (λ ts. type_at types first.0 ∷ ts) (given_more types of one)

pub types_step : (types : List CxxType) (of after : List TypeId) (operands : List Operand) (i : ℕ) (operand d : Operand) (whole : List CxxType) → i < length operands → operand ≡ get_or operands i d → after ≡ of ++ operand.of ∷ [] → given types of ++ types_of_operands (operands_in types (drop i operands)) ≡ whole → given types after ++ types_of_operands (operands_in types (drop (i + 1) operands)) ≡ whole
types_step types of after operands i operand d whole less is added same =
    let rest : List CxxType = types_of_operands (operands_in types (drop (i + 1) operands)) in
    ap (λ ns. given types ns ++ rest) added
    ∙ ap (λ ts. ts ++ rest) (given_more types of operand.of)
    ∙ append_assoc (given types of) (type_at types operand.of.0 ∷ []) rest
    ∙ ap (λ (o : Operand). given types of ++ types_of_operands (operands_in types (o ∷ drop (i + 1) operands))) is
    ∙ sym (at_drop_more (λ os. given types of ++ types_of_operands (operands_in types os)) operands i d less)
    ∙ same

pub types_end : (types : List CxxType) (of : List TypeId) (operands : List Operand) (i : ℕ) (whole : List CxxType) → length operands ≤ i → given types of ++ types_of_operands (operands_in types (drop i operands)) ≡ whole → given types of ≡ whole
types_end types of operands i whole past same =
    sym (append-nil (given types of))
    ∙ sym (at_drop_all (λ os. given types of ++ types_of_operands (operands_in types os)) operands i past)
    ∙ same

operand_below : (count : ℕ) (operands : List Operand) (i : ℕ) (operand d : Operand) → AreOperandsBelow count operands → i < length operands → operand ≡ get_or operands i d → operand.of.0 < count
operand_below count [] i operand d below less is = absurd (omega (arith, less))
operand_below count (one ∷ operands) zero operand d below less is = subst (λ (o : Operand). o.of.0 < count) (sym is) below.0
operand_below count (one ∷ operands) (suc i) operand d below less is = operand_below count operands i operand d below.1 (omega (arith, less)) is

types_more : (count : ℕ) (of : List TypeId) (one : TypeId) → AreTypesBelow count of → one.0 < count → AreTypesBelow count (of ++ one ∷ [])
types_more count [] one below last = (last, tt)
types_more count (first ∷ of) one below last = (below.0, types_more count of one below.1 last)

pub types_below : (count : ℕ) (of after : List TypeId) (operands : List Operand) (i : ℕ) (operand d : Operand) → AreTypesBelow count of → AreOperandsBelow count operands → i < length operands → operand ≡ get_or operands i d → after ≡ of ++ operand.of ∷ [] → AreTypesBelow count after
types_below count of after operands i operand d below all less is added =
    subst (AreTypesBelow count) (sym added) (types_more count of operand.of below (operand_below count operands i operand d all less is))
