-- What declarations of functions give.
use Rattle.std.specs.Prelude.{ℕ, zero, suc, ◌≡◌, ◌<◌, ◌≤◌, ◌+◌, ◌-◌, Bool, true, false, if◌then◌else◌, nat_eq, List, [], ◌∷◌, length, Option, Some, None, Result, Ok, Err, IfOk, refl}
use Rattle.std.proofs.Common.{ap, sym, subst, ◌∙◌, arith, get_or, drop}
use Rattle.std.proofs.lemmas.List.{at_drop_more}
use Rattle.cxx_model.specs.declared.facts.Fact.{Fact}
use Rattle.cxx_model.specs.declared.facts.Name.TheVariants as name
use Rattle.cxx_model.specs.declared.place.Place.{Place}
use Rattle.cxx_model.specs.declared.stop.Stop.{Stop}
use Rattle.cxx_model.specs.declared.token.TokenKind.{TokenKind}
use Rattle.cxx_model.specs.declared.types.FactId.{FactId}
use Rattle.cxx_model.specs.declared.types.ScopeId.{ScopeId}
use Rattle.cxx_model.specs.declared.types.TypeId.{TypeId}
use Rattle.cxx_model.specs.Facts.Declarations.{CxxFact, CxxGraph, fact_at, spelled}
use Rattle.cxx_model.specs.Stops.{Answer, ◌>>=◌}
use Rattle.cxx_model.specs.Text.Lexemes.{Lexeme}
use Rattle.cxx_model.specs.Types.Numbers.{types_at}
use Rattle.cxx_model.specs.Types.Trees.{CxxType}
use Rattle.cxx_reading.specs.Choosing.{each_type}
use Rattle.cxx_reading.specs.Declaring.{added, first_member_function, home_here}
use Rattle.cxx_reading.specs.State.{CxxOffered, CxxState}
use Rattle.cxx_reading.specs.Trees.{CxxTree}
use Rattle.cxx_declare.specs.Functions.{declare_function, declare_unread, declare_unread_with, declare_with, free_if, function_by, given_as, is_linked_here, last_run, linked_if, not_given, offered_by, offered_in, with_all_given}
use Rattle.cxx_declare.specs.Given.{added_giving, added_linking, declared_giving, declared_unread, read_by, read_in}
use Rattle.cxx_declare.specs.Made.{token, word_in}
use Rattle.cxx_declare.proofs.Defining.{assoc}
use Rattle.cxx_tree.specs.Answered.{IsAnswered, IsFactKnown, fact_number, scope_of_option}
use Rattle.cxx_tree.specs.Arena.{tree_in}
use Rattle.cxx_tree.specs.Defaults.{with_given, without_offers}
use Rattle.cxx_tree.specs.declared.kept.Offer.{Offer}
use Rattle.cxx_tree.specs.Held.{AreOffersBelow, Held, meaning, offer_at, offers_at, trees}
use Rattle.cxx_tree.specs.Later.{Later}
use Rattle.cxx_tree.proofs.Graphs.{length_facts}
use Rattle.cxx_tree.proofs.Steps.{Later_trans}

-- ---- what was read

offered_at : (trees : List CxxTree) (scope : ℕ) (all : List Offer) → offers_at trees (read_in scope all) ≡ offered_in scope (offers_at trees all)
offered_at trees scope [] = refl
offered_at trees scope (one ∷ others) = by (nat_eq one.scope.0 scope) (offered_at trees scope others)
  where
    by : (b : Bool) → offers_at trees (read_in scope others) ≡ offered_in scope (offers_at trees others) → offers_at trees (if b then one ∷ read_in scope others else read_in scope others) ≡ (if b then offer_at trees one ∷ offered_in scope (offers_at trees others) else offered_in scope (offers_at trees others))
    by true later = ap (λ os. offer_at trees one ∷ os) later
    by false later = later

offered_are : (trees : List CxxTree) (list : Option ScopeId) (all : List Offer) → offers_at trees (read_by list all) ≡ offered_by (scope_of_option list) (offers_at trees all)
offered_are trees None all = refl
offered_are trees (Some scope) all = offered_at trees scope.0 all

pub offered_is : {E : Type 0} (held : Held) (list : Option ScopeId) (all : List Offer) (r : Result (List Offer) E) → all ≡ held.offers → IfOk r (λ found. found ≡ read_by list all) → IfOk r (λ found. offers_at (trees held) found ≡ offered_by (scope_of_option list) (meaning held).offered)
unfolding meaning
offered_is held list all (Ok found) same is = ap (offers_at (trees held)) is ∙ offered_are (trees held) list all ∙ ap (λ os. offered_by (scope_of_option list) (offers_at (trees held) os)) same
offered_is held list all (Err why) same is = tt

read_below : (count scope : ℕ) (all : List Offer) → AreOffersBelow count all → AreOffersBelow count (read_in scope all)
read_below count scope [] ok = tt
read_below count scope (one ∷ others) ok = by (nat_eq one.scope.0 scope) (read_below count scope others ok.1)
  where
    by : (b : Bool) → AreOffersBelow count (read_in scope others) → AreOffersBelow count (if b then one ∷ read_in scope others else read_in scope others)
    by true later = (ok.0, later)
    by false later = later

by_below : (count : ℕ) (list : Option ScopeId) (all : List Offer) → AreOffersBelow count all → AreOffersBelow count (read_by list all)
by_below count None all ok = tt
by_below count (Some scope) all ok = read_below count scope.0 all ok

pub offered_below : {E : Type 0} (count : ℕ) (list : Option ScopeId) (all : List Offer) (r : Result (List Offer) E) → AreOffersBelow count all → IfOk r (λ found. found ≡ read_by list all) → IfOk r (λ found. AreOffersBelow count found)
offered_below count list all (Ok found) ok is = subst (λ os. AreOffersBelow count os) (sym is) (by_below count list all ok)
offered_below count list all (Err why) ok is = tt

-- ---- how many of the last parameters have one

pub count_is : (types : List CxxType) (numbers : List TypeId) → length (each_type (types_at types numbers)) ≡ length numbers
count_is types [] = refl
count_is types (one ∷ others) = ap suc (count_is types others)

run_by : (has : ℕ → Bool) (k : ℕ) → has k ≡ true → last_run has (suc k) ≡ suc (last_run has k)
run_by has k e = ap (λ b. if b then suc (last_run has k) else zero) e

pub run_more : (has : ℕ → Bool) (count run : ℕ) → run < count → has (count - 1 - run) ≡ true → run + last_run has (count - run) ≡ last_run has count → (run + 1) + last_run has (count - (run + 1)) ≡ last_run has count
run_more has count run less e same =
    let here : count - run ≡ suc (count - 1 - run) = omega arith in
    let there : count - (run + 1) ≡ count - 1 - run = omega arith in
    let step : last_run has (count - run) ≡ suc (last_run has (count - 1 - run)) = ap (last_run has) here ∙ run_by has (count - 1 - run) e in
    let rest : last_run has (count - (run + 1)) ≡ last_run has (count - 1 - run) = ap (last_run has) there in
    omega (arith, step, rest, same)

-- ---- what is given

pub offer_there : (count : ℕ) (offers : List Offer) (i : ℕ) (one d : Offer) → AreOffersBelow count offers → i < length offers → one ≡ get_or offers i d → one.tree.0 < count
offer_there count [] i one d ok within is = absurd (let less : i < 0 = within in omega arith)
offer_there count (o ∷ others) zero one d ok within is = subst (λ (x : Offer). x.tree.0 < count) (sym is) ok.0
offer_there count (o ∷ others) (suc i) one d ok within is = offer_there count others i one d ok.1 (omega (arith, within)) is

pub tree_there : (first old : Held) (offers : List Offer) (i : ℕ) (one d : Offer) → Later first old → AreOffersBelow (length (trees first)) offers → i < length offers → one ≡ get_or offers i d → one.tree.0 < length (trees old)
tree_there first old offers i one d later ok within is =
    let there : one.tree.0 < length (trees first) = offer_there (length (trees first)) offers i one d ok within is in
    let more : length (trees first) ≤ length (trees old) = later.trees.grows in omega arith

pub give_step : (first old new : Held) (number : ℕ) (offers : List Offer) (i : ℕ) (one d : Offer) (whole : CxxState) → Later first old → AreOffersBelow (length (trees first)) offers → i < length offers → one ≡ get_or offers i d → meaning new ≡ with_given number one.index (tree_in (trees old) one.tree.0) (meaning old)
    → with_all_given number (offers_at (trees first) (drop i offers)) (meaning old) ≡ whole → with_all_given number (offers_at (trees first) (drop (i + 1) offers)) (meaning new) ≡ whole
give_step first old new number offers i one d whole later ok within is more same =
    let rest : List CxxOffered = offers_at (trees first) (drop (i + 1) offers) in
    let there : one.tree.0 < length (trees first) = offer_there (length (trees first)) offers i one d ok within is in
    ap (with_all_given number rest) more
    ∙ ap (λ (t : CxxTree). with_all_given number rest (with_given number one.index t (meaning old))) (later.trees.same one.tree.0 there)
    ∙ ap (λ (o : Offer). with_all_given number (offers_at (trees first) (o ∷ drop (i + 1) offers)) (meaning old)) is
    ∙ sym (at_drop_more (λ os. with_all_given number (offers_at (trees first) os) (meaning old)) offers i d within)
    ∙ same

graph_kept : (number : ℕ) (offers : List CxxOffered) (state : CxxState) → (with_all_given number offers state).graph ≡ state.graph
graph_kept number [] state = refl
graph_kept number (one ∷ others) state = graph_kept number others (with_given number one.index one.tree state)

facts_of : (held : Held) → length (meaning held).graph.facts ≡ length held.graph.facts
unfolding meaning
facts_of held = length_facts held.types held.graph.facts

pub given_now : (old middle later new : Held) (fact : CxxFact) (number : FactId) (offers : List CxxOffered) → IsAnswered fact_number IsFactKnown old middle (Ok number) (added fact (meaning old)) → Later middle later → meaning later ≡ with_all_given number.0 offers (meaning middle) → Later later new → meaning new ≡ without_offers (meaning later)
    → IsAnswered fact_number IsFactKnown old new (Ok number) (added_giving fact offers (meaning old))
given_now old middle later new fact number offers answered one given two cleared =
    let state : meaning new ≡ without_offers (with_all_given number.0 offers (meaning middle)) = cleared ∙ ap without_offers given in
    let graph : (meaning new).graph ≡ (meaning middle).graph = ap (λ (s : CxxState). s.graph) state ∙ graph_kept number.0 offers (meaning middle) in
    let count : length new.graph.facts ≡ length middle.graph.facts = sym (facts_of new) ∙ ap (λ (g : CxxGraph). length g.facts) graph ∙ facts_of middle in
    record {
      is = (ap (λ (a : Answer (ℕ × CxxState)). a >>= λ answer. Ok (given_as offers answer)) answered.is.0 ∙ ap (λ (s : CxxState). Ok (number.0, s)) (sym state), subst (λ n. number.0 < n) (sym count) answered.is.1);
      later = Later_trans old middle new answered.later (Later_trans middle later new one two);
    }

with_linking : (linked : Bool) (fact : CxxFact) (offers : List CxxOffered) (state : CxxState) → added_linking linked fact offers state ≡ (added fact state >>= λ answer. Ok (linked_if linked (given_as offers answer)))
with_linking linked fact offers state = assoc (added fact state) (λ answer. Ok (given_as offers answer)) (λ answer. Ok (linked_if linked answer))

pub function_declared : (old new : Held) (linked : Bool) (kind : TokenKind) (place : Place) (word : List ℕ) (of : CxxType) (first : Option FactId) (offers : List CxxOffered) (fact : Fact) (r : Result FactId Stop) → fact_at old.types fact ≡ function_by (meaning old) (token kind place word) of first offers → fact.name ≡ name.Spelled word
    → IsAnswered fact_number IsFactKnown old new r (declared_giving linked (fact_at old.types fact) (word_in fact.name) first offers (meaning old)) → IsAnswered fact_number IsFactKnown old new r (declare_with linked (token kind place word) of first offers (meaning old))
function_declared old new linked kind place word of first offers fact r is named answered =
    let whole : CxxFact = function_by (meaning old) (token kind place word) of first offers in
    subst (λ reply. IsAnswered fact_number IsFactKnown old new r reply)
    (assoc (free_if linked (meaning old) whole word) (λ unit. not_given (meaning old) place word first offers) (λ unit. added_linking linked whole offers (meaning old))
    ∙ ap (λ (a : Answer (ℕ × CxxState)). free_if linked (meaning old) whole word >>= λ unit. not_given (meaning old) place word first offers >>= λ other. a) (with_linking linked whole offers (meaning old)))
    (subst (λ (w : CxxFact). IsAnswered fact_number IsFactKnown old new r (declared_giving linked w word first offers (meaning old))) is
    (subst (λ n. IsAnswered fact_number IsFactKnown old new r (declared_giving linked (fact_at old.types fact) (word_in n) first offers (meaning old))) named answered))

-- with the first declaration and the linkage that are found where the reader stands
abbrev declared_for : CxxState → Lexeme → CxxType → Bool → Option FactId → List CxxOffered → Answer (ℕ × CxxState)
declared_for state name of linked first offers = declare_with linked name of first offers state

pub found_first : (old new : Held) (kind : TokenKind) (place : Place) (word : List ℕ) (of : CxxType) (linked l : Bool) (first f : Option FactId) (offers : List CxxOffered) (r : Result FactId Stop) → linked ≡ l → first ≡ f
    → IsAnswered fact_number IsFactKnown old new r (declare_with linked (token kind place word) of first offers (meaning old)) → IsAnswered fact_number IsFactKnown old new r (declare_with l (token kind place word) of f offers (meaning old))
found_first old new kind place word of linked l first f offers r one two answered =
    subst (λ o. IsAnswered fact_number IsFactKnown old new r (declared_for (meaning old) (token kind place word) of l o offers)) two
    (subst (λ b. IsAnswered fact_number IsFactKnown old new r (declared_for (meaning old) (token kind place word) of b first offers)) one answered)

abbrev first_here : Held → List ℕ → CxxType → Option FactId
first_here held word of = first_member_function (meaning held) (home_here (meaning held)) (spelled word) of

pub from_list : (old new : Held) (list : Option ScopeId) (kind : TokenKind) (place : Place) (word : List ℕ) (of : CxxType) (offers : List CxxOffered) (r : Result FactId Stop) → offers ≡ offered_by (scope_of_option list) (meaning old).offered
    → IsAnswered fact_number IsFactKnown old new r (declare_with (is_linked_here (meaning old)) (token kind place word) of (first_here old word of) offers (meaning old)) → IsAnswered fact_number IsFactKnown old new r (declare_function (scope_of_option list) (token kind place word) of (meaning old))
unfolding declare_function
from_list old new list kind place word of offers r is answered = subst (λ os. IsAnswered fact_number IsFactKnown old new r (declare_with (is_linked_here (meaning old)) (token kind place word) of (first_here old word of) os (meaning old))) is answered

-- ---- friends (11.4)

pub unread_declared : (old new : Held) (kind : TokenKind) (place : Place) (word : List ℕ) (of : CxxType) (first : Option FactId) (offers : List CxxOffered) (fact : Fact) (r : Result FactId Stop) → fact_at old.types fact ≡ function_by (meaning old) (token kind place word) of first offers → fact.name ≡ name.Spelled word
    → IsAnswered fact_number IsFactKnown old new r (declared_unread (fact_at old.types fact) (word_in fact.name) first offers (meaning old)) → IsAnswered fact_number IsFactKnown old new r (declare_unread_with (token kind place word) of first offers (meaning old))
unread_declared old new kind place word of first offers fact r is named answered =
    let whole : CxxFact = function_by (meaning old) (token kind place word) of first offers in
    subst (λ reply. IsAnswered fact_number IsFactKnown old new r reply)
    (assoc (free_if false (meaning old) whole word) (λ unit. not_given (meaning old) place word first offers) (λ unit. added whole (meaning old)))
    (subst (λ (w : CxxFact). IsAnswered fact_number IsFactKnown old new r (declared_unread w word first offers (meaning old))) is
    (subst (λ n. IsAnswered fact_number IsFactKnown old new r (declared_unread (fact_at old.types fact) (word_in n) first offers (meaning old))) named answered))

abbrev unread_for : CxxState → Lexeme → CxxType → Option FactId → List CxxOffered → Answer (ℕ × CxxState)
unread_for state name of first offers = declare_unread_with name of first offers state

pub unread_first : (old new : Held) (kind : TokenKind) (place : Place) (word : List ℕ) (of : CxxType) (first f : Option FactId) (offers : List CxxOffered) (r : Result FactId Stop) → first ≡ f
    → IsAnswered fact_number IsFactKnown old new r (declare_unread_with (token kind place word) of first offers (meaning old)) → IsAnswered fact_number IsFactKnown old new r (declare_unread_with (token kind place word) of f offers (meaning old))
unread_first old new kind place word of first f offers r is answered =
    subst (λ o. IsAnswered fact_number IsFactKnown old new r (unread_for (meaning old) (token kind place word) of o offers)) is answered

pub unread_list : (old new : Held) (list : Option ScopeId) (kind : TokenKind) (place : Place) (word : List ℕ) (of : CxxType) (offers : List CxxOffered) (r : Result FactId Stop) → offers ≡ offered_by (scope_of_option list) (meaning old).offered
    → IsAnswered fact_number IsFactKnown old new r (declare_unread_with (token kind place word) of (first_here old word of) offers (meaning old)) → IsAnswered fact_number IsFactKnown old new r (declare_unread (scope_of_option list) (token kind place word) of (meaning old))
unfolding declare_unread
unread_list old new list kind place word of offers r is answered = subst (λ os. IsAnswered fact_number IsFactKnown old new r (declare_unread_with (token kind place word) of (first_here old word of) os (meaning old))) is answered
