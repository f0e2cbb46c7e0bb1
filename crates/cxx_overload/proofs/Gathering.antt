-- How the candidates are found, one declaration after another.
use Rattle.std.proofs.Common.{◌≡◌, ℕ, zero, suc, ◌+◌, ◌<◌, ◌≤◌, Bool, true, false, cond, nat_eq, List, [], ◌∷◌, ◌++◌, length, map, Option, Some, None, Ok, Err, refl, sym, ap, ◌∙◌, subst, arith, append_assoc, Bor, get_or, IfSome, drop, drop-cons, add-one, set}
use Rattle.std.proofs.lemmas.Bool.{le-ltb, lt-ltb}
use Rattle.std.proofs.lemmas.Option.{slice_get_past, slice_get-get_or}
use Rattle.std.proofs.lemmas.List.{length-append, length-map, append-nil}
use Rattle.std.specs.List.{slice_get}
use Rattle.std.specs.Option.{option_map}
use Rattle.cxx_model.specs.declared.facts.Fact.{Fact}
use Rattle.cxx_model.specs.declared.facts.MemberKind.{MemberKind}
use Rattle.cxx_model.specs.declared.limits.TheConstants as limits
use Rattle.cxx_model.specs.declared.place.Place.{Place}
use Rattle.cxx_model.specs.declared.stop.LimitKind.TheVariants as kind
use Rattle.cxx_model.specs.declared.stop.Stop.{Stop}
use Rattle.cxx_model.specs.declared.stop.Stop.TheVariants as stop
use Rattle.cxx_model.specs.declared.types.Cv.{Cv}
use Rattle.cxx_model.specs.declared.types.FactId.{FactId}
use Rattle.cxx_model.specs.declared.types.TypeId.{TypeId}
use Rattle.cxx_model.specs.declared.types.TypeNode.{TypeNode}
use Rattle.cxx_model.specs.declared.types.TypeNode.TheVariants.{Function}
use Rattle.cxx_model.specs.Facts.Declarations as declares
use Rattle.cxx_model.specs.Facts.Declarations.{CxxGraph, CxxFact, Declares, facts_at, fact_at, graph_at}
use Rattle.cxx_model.specs.Facts.Fitted.{IsFactBelow, AreFactsBelow}
use Rattle.cxx_model.specs.Facts.Graph.{Graph}
use Rattle.cxx_model.specs.Stops.{Limited, Stops}
use Rattle.cxx_model.specs.Types.Numbers.{AreTypesBelow, IsNodeBelow}
use Rattle.cxx_model.specs.Types.Trees.{CxxType, fundamental, function_of}
use Rattle.cxx_model.proofs.TypeTrees.{types_later}
use Rattle.cxx_reading.specs.Seen.{Numbered}
use Rattle.cxx_overload.specs.Candidates.{CxxCandidate, candidate_by, candidate_by_what, candidate_of, candidates, candidates_from, candidates_within, defaults_after, defaults_behind, put, within_limit}
use Rattle.cxx_overload.specs.Gathering.{AreNumbered, place_among, changed, seen, seen_by, seen_fact, seen_number, so_far, with_candidate, with_defaults, with_later, Sees}
use Rattle.cxx_overload.specs.Views.{IsCandidateBelow, with_fact, numbered_in}

pub fact_below : (count : ℕ) (facts : List Fact) (number : ℕ) (fact : Fact) → AreFactsBelow count facts → slice_get facts number ≡ Some fact → IsFactBelow count fact
fact_below count [] number fact below is = absurd cc
fact_below count (first ∷ facts) zero fact below is = let same : first ≡ fact = cc in subst (IsFactBelow count) same below.0
fact_below count (first ∷ facts) (suc number) fact below is = fact_below count facts number fact below.1 is

pub fact_seen : (types : List CxxType) (facts : List Fact) (number : ℕ) → slice_get (facts_at types facts) number ≡ option_map (fact_at types) (slice_get facts number)
fact_seen types [] number = refl
fact_seen types (first ∷ facts) zero = refl
fact_seen types (first ∷ facts) (suc number) = fact_seen types facts number

-- ---- one declaration

here : (facts : List Fact) (n : ℕ) (fact : Fact) → n < length facts → fact ≡ get_or facts n fact → slice_get facts n ≡ Some fact
here facts n fact below is = slice_get-get_or facts n fact below ∙ ap (λ f. Some f) (sym is)

pub known_fact : (count : ℕ) (facts given : List Fact) (n : ℕ) (fact : Fact) → given ≡ facts → AreFactsBelow count facts → n < length given → fact ≡ get_or given n fact → IsFactBelow count fact
known_fact count facts given n fact same below within is = fact_below count facts n fact below (subst (λ fs. slice_get fs n ≡ Some fact) same (here given n fact within is))

pub seen_here : (graph : Graph) (types : List CxxType) (found : List CxxCandidate) (n : ℕ) (fact : Fact) → n < length graph.facts → fact ≡ get_or graph.facts n fact → seen_number (graph_at types graph) found n ≡ seen found (record { number = n; fact = fact_at types fact })
seen_here graph types found n fact below is = ap (seen_fact found n) (fact_seen types graph.facts n ∙ ap (option_map (fact_at types)) (here graph.facts n fact below is))

pub seen_nowhere : (graph : Graph) (types : List CxxType) (found : List CxxCandidate) (n : ℕ) → length graph.facts ≤ n → seen_number (graph_at types graph) found n ≡ found
seen_nowhere graph types found n past = ap (seen_fact found n) (fact_seen types graph.facts n ∙ ap (option_map (fact_at types)) (slice_get_past graph.facts n past))

-- the types of a function's type
pub function_below : (count number : ℕ) (of : TypeNode) (position : ℕ) (n : FactId) (place : Place) (member : MemberKind) (result : TypeId) (parameters : List TypeId) (given : Bor (List TypeId)) (ellipsis : Bool) (cv : Cv) (defaults : ℕ) → IsNodeBelow number of → of ≡ Function result parameters ellipsis cv → given.now ≡ parameters → number < count → IsCandidateBelow count (record { position = position; number = n; place = place; member = member; cv = cv; result = result; parameters = given; ellipsis = ellipsis; defaults = defaults })
function_below count number of position n place member result parameters given ellipsis cv defaults below is same known =
    let parts : (result.0 < number) × AreTypesBelow number parameters = subst (IsNodeBelow number) is below in
    record { result = omega (arith, parts.0, known); parameters = subst (AreTypesBelow count) (sym same) (types_later number count parameters (omega (arith, known)) parts.1) }

-- ---- a candidate is declared again

pub changed_step : {A B : Type 0} (g : A → B) (f : B → B) (xs : List A) (zs : List B) (i : ℕ) (x d y : A) → i < length xs → map g xs ≡ changed f i zs → x ≡ get_or xs i d → g y ≡ f (g x) → map g (set xs i y) ≡ changed f (i + 1) zs
changed_step g f [] zs i x d y below same is gives = absurd (omega (arith, below))
changed_step g f (a ∷ xs) [] zero x d y below same is gives = absurd cc
changed_step g f (a ∷ xs) (z ∷ zs) zero x d y below same is gives =
    let first : g a ≡ z = cc in
    let rest : map g xs ≡ zs = cc in
    ap (λ b. b ∷ map g xs) (gives ∙ ap (λ b. f (g b)) is ∙ ap f first) ∙ ap (λ bs. f z ∷ bs) rest
changed_step g f (a ∷ xs) [] (suc i) x d y below same is gives = absurd cc
changed_step g f (a ∷ xs) (z ∷ zs) (suc i) x d y below same is gives =
    let first : g a ≡ f z = cc in
    let rest : map g xs ≡ changed f i zs = cc in
    ap (λ b. b ∷ map g (set xs i y)) first
    ∙ ap (λ bs. f z ∷ bs) (changed_step g f xs zs i x d y (omega (arith, below)) rest is gives)
    ∙ (let e : suc (i + 1) ≡ suc i + 1 = omega arith in ap (λ k. changed f k (z ∷ zs)) e)

pub changed_all : {A : Type 0} (f : A → A) (xs : List A) (i : ℕ) → length xs ≤ i → changed f i xs ≡ map f xs
changed_all f [] zero h = refl
changed_all f [] (suc i) h = refl
changed_all f (x ∷ xs) zero h = absurd (omega (arith, h))
changed_all f (x ∷ xs) (suc i) h = ap (λ ys. f x ∷ ys) (changed_all f xs i (omega (arith, h)))

-- ---- one more declaration

map_more : {A B : Type 0} (f : A → B) (xs : List A) (y : A) → map f (xs ++ y ∷ []) ≡ map f xs ++ f y ∷ []
map_more f [] y = refl
map_more f (x ∷ xs) y = ap (λ ys. f x ∷ ys) (map_more f xs y)

length_more : {A : Type 0} (xs : List A) (y : A) → length (xs ++ y ∷ []) ≡ length xs + 1
length_more [] y = refl
length_more (x ∷ xs) y = grind (arith, length_more xs y)

map_both : {A : Type 0} (f g h : A → A) (xs : List A) → ((x : A) → h x ≡ f (g x)) → map h xs ≡ map f (map g xs)
map_both f g h [] same = refl
map_both f g h (x ∷ xs) same = ap (λ y. y ∷ map h xs) (same x) ∙ ap (λ ys. f (g x) ∷ ys) (map_both f g h xs same)

map_same : {A : Type 0} (f : A → A) (xs : List A) → ((x : A) → f x ≡ x) → map f xs ≡ xs
map_same f [] same = refl
map_same f (x ∷ xs) same = ap (λ y. y ∷ map f xs) (same x) ∙ ap (λ ys. x ∷ ys) (map_same f xs same)

-- a candidate behind one more declaration
abbrev after : Declares → List Numbered → CxxCandidate → CxxCandidate
after what others one = record one { defaults = defaults_behind one.number (defaults_after one.number one.defaults what) others }

abbrev stepped : List CxxCandidate → ℕ → Place → Declares → List Numbered → List CxxCandidate
stepped found number place what others = map (after what others) found ++ put (candidate_by_what (length found + 1) number place what others) (candidates_from others) (length found + 1)

joins : (found : List CxxCandidate) (one : CxxCandidate) (others : List Numbered) → map (with_later others) found ++ with_later others one ∷ candidates_from others (suc (length found + 1)) ≡ so_far (found ++ one ∷ []) others
joins found one others =
    let e : suc (length found + 1) ≡ length (found ++ one ∷ []) + 1 = grind (arith, length_more found one) in
    let rest : List CxxCandidate = candidates_from others (length (found ++ one ∷ []) + 1) in
    ap (λ k. map (with_later others) found ++ with_later others one ∷ candidates_from others k) e
    ∙ sym (append_assoc (map (with_later others) found) (with_later others one ∷ []) rest)
    ∙ ap (λ xs. xs ++ rest) (sym (map_more (with_later others) found one))

step_of_type : (found : List CxxCandidate) (number : ℕ) (place : Place) (member : MemberKind) (defaults : ℕ) (of : CxxType) (others : List Numbered) → map (with_later others) found ++ put (candidate_by (length found + 1) number place member (defaults_behind number defaults others) of) (candidates_from others) (length found + 1) ≡ so_far (with_candidate found (candidate_by (length found + 1) number place member defaults of)) others
step_of_type found number place member defaults (function_of result parameters ellipsis cv) others = joins found _ others
step_of_type found number place member defaults (fundamental of) others = refl
step_of_type found number place member defaults _ others = refl

given_by : (b : Bool) (defaults : ℕ) (others : List Numbered) (one : CxxCandidate) → record one { defaults = defaults_behind one.number (cond b defaults one.defaults) others } ≡ with_later others (cond b (record one { defaults = defaults }) one)
given_by true defaults others one = refl
given_by false defaults others one = refl

step_again : (found : List CxxCandidate) (first : ℕ) (defaults : ℕ) (others : List Numbered) (each : CxxCandidate → CxxCandidate) → ((one : CxxCandidate) → each one ≡ with_later others (with_defaults first defaults one)) → map each found ++ candidates_from others (length found + 1) ≡ so_far (map (with_defaults first defaults) found) others
step_again found first defaults others each same =
    ap (λ xs. xs ++ candidates_from others (length found + 1)) (map_both (with_later others) (with_defaults first defaults) each found same)
    ∙ ap (λ n. map (with_later others) (map (with_defaults first defaults) found) ++ candidates_from others (n + 1)) (sym (length-map found (with_defaults first defaults)))

step_by : (found : List CxxCandidate) (number : ℕ) (place : Place) (what : Declares) (others : List Numbered) → stepped found number place what others ≡ so_far (seen_by found number place what) others
step_by found number place (declares.function of kind flags defaults None) others = step_of_type found number place kind defaults of others
step_by found number place (declares.function of kind flags defaults (Some first)) others = step_again found first.0 defaults others (after (declares.function of kind flags defaults (Some first)) others) (λ one. given_by (nat_eq first.0 one.number) defaults others one)
step_by found number place _ others = refl

seen_step : (found : List CxxCandidate) (one : Numbered) (others : List Numbered) → so_far found (one ∷ others) ≡ so_far (seen found one) others
seen_step found one others = step_by found one.number one.fact.place one.fact.what others

fact_step : (found : List CxxCandidate) (number : ℕ) (o : Option CxxFact) (others : List Numbered) → so_far found (with_fact number o others) ≡ so_far (seen_fact found number o) others
fact_step found number None others = refl
fact_step found number (Some fact) others = seen_step found (record { number = number; fact = fact }) others

number_step : (graph : CxxGraph) (found : List CxxCandidate) (n : FactId) (others : List FactId) → so_far found (numbered_in graph (n ∷ others)) ≡ so_far (seen_number graph found n.0) (numbered_in graph others)
number_step graph found n others = fact_step found n.0 (slice_get graph.facts n.0) (numbered_in graph others)

-- ---- all declarations

pub gathered_step : (graph : CxxGraph) (all : List FactId) (old new : List CxxCandidate) (i : ℕ) (n else_ : FactId) → i < length all → n ≡ get_or all i else_ → new ≡ seen_number graph old n.0 → so_far old (numbered_in graph (drop i all)) ≡ so_far new (numbered_in graph (drop (i + 1) all))
gathered_step graph all old new i n else_ below is sees =
    let next : drop i all ≡ n ∷ drop (suc i) all = drop-cons all i else_ below ∙ ap (λ m. m ∷ drop (suc i) all) (sym is) in
    ap (λ xs. so_far old (numbered_in graph xs)) next
    ∙ number_step graph old n (drop (suc i) all)
    ∙ ap (λ xs. so_far xs (numbered_in graph (drop (suc i) all))) (sym sees)
    ∙ ap (λ k. so_far new (numbered_in graph (drop k all))) (sym (add-one i))

pub gathered_all : (graph : CxxGraph) (all : List FactId) (found : List CxxCandidate) → so_far found [] ≡ so_far [] (numbered_in graph all) → candidates_from (numbered_in graph all) 1 ≡ found
gathered_all graph all found same = sym same ∙ append-nil (map (with_later []) found) ∙ map_same (with_later []) found (λ one. refl)

pub gathered : (graph : CxxGraph) (all : List FactId) (found : List CxxCandidate) → so_far found [] ≡ so_far [] (numbered_in graph all) → length found ≤ limits.MOST_CANDIDATES → candidates_within (numbered_in graph all) ≡ Ok found
unfolding candidates_within candidates
gathered graph all found same few =
    ap within_limit (gathered_all graph all found same)
    ∙ ap (λ b. cond b (Err (Limited kind.Candidates)) (Ok found)) (le-ltb limits.MOST_CANDIDATES (length found) few)

at_least_found : (found : List CxxCandidate) (others : List Numbered) → length found ≤ length (so_far found others)
at_least_found found others =
    let a : length (so_far found others) ≡ length (map (with_later others) found) + length (candidates_from others (length found + 1)) = length-append (map (with_later others) found) (candidates_from others (length found + 1)) in
    let b : length (map (with_later others) found) ≡ length found = length-map found (with_later others) in
    omega (arith, a, b)

refused : (graph : CxxGraph) (all : List FactId) → limits.MOST_CANDIDATES < length (so_far [] (numbered_in graph all)) → candidates_within (numbered_in graph all) ≡ Err (Limited kind.Candidates)
unfolding candidates_within candidates
refused graph all many = ap (λ b. cond b (Err (Limited kind.Candidates)) (Ok (candidates_from (numbered_in graph all) 1))) (lt-ltb limits.MOST_CANDIDATES (length (candidates_from (numbered_in graph all) 1)) many)

-- where so many candidates are too many, no more is seen
stops : (graph : CxxGraph) (all : List FactId) (old new : List CxxCandidate) (n : FactId) (others : List FactId) (why : Stop) → so_far old (numbered_in graph (n ∷ others)) ≡ so_far [] (numbered_in graph all) → Sees (seen_number graph old n.0) new (Err why) → Stops why (candidates_within (numbered_in graph all))
stops graph all old new n others stop.OutOfMemory same sees = tt
stops graph all old new n others (stop.Fault f) same sees = absurd sees
stops graph all old new n others (stop.Limit kind.Candidates) same sees =
    let least = at_least_found (seen_number graph old n.0) (numbered_in graph others) in
    let whole : length (so_far (seen_number graph old n.0) (numbered_in graph others)) ≡ length (so_far [] (numbered_in graph all)) = ap length (sym (number_step graph old n others) ∙ same) in
    refused graph all (omega (arith, sees, least, whole))
stops graph all old new n others (stop.Limit _) same sees = absurd sees

pub stops_at : (graph : CxxGraph) (all : List FactId) (old new : List CxxCandidate) (i : ℕ) (n else_ : FactId) (why : Stop) → i < length all → n ≡ get_or all i else_ → so_far old (numbered_in graph (drop i all)) ≡ so_far [] (numbered_in graph all) → Sees (seen_number graph old n.0) new (Err why) → Stops why (candidates_within (numbered_in graph all))
stops_at graph all old new i n else_ why below is same sees =
    let next : drop i all ≡ n ∷ drop (suc i) all = drop-cons all i else_ below ∙ ap (λ m. m ∷ drop (suc i) all) (sym is) in
    stops graph all old new n (drop (suc i) all) why (subst (λ xs. so_far old (numbered_in graph xs) ≡ so_far [] (numbered_in graph all)) next same) sees

-- ---- positions

placed_put : (position : ℕ) (o : Option CxxCandidate) (later : ℕ → List CxxCandidate) → IfSome o (λ one. one.position ≡ position) → ((k : ℕ) → AreNumbered place_among k (later k)) → AreNumbered place_among position (put o later position)
placed_put position None later is rest = rest position
placed_put position (Some one) later is rest = (omega (arith, is), subst (λ k. AreNumbered place_among k (later (suc position))) (grind (arith, is)) (rest (suc position)))

placed_by : (position number : ℕ) (place : Place) (member : MemberKind) (defaults : ℕ) (of : CxxType) → IfSome (candidate_by position number place member defaults of) (λ one. one.position ≡ position)
placed_by position number place member defaults (function_of result parameters ellipsis cv) = refl
placed_by position number place member defaults (fundamental of) = tt
placed_by position number place member defaults _ = tt

placed_of : (position number : ℕ) (place : Place) (what : Declares) (others : List Numbered) → IfSome (candidate_by_what position number place what others) (λ one. one.position ≡ position)
placed_of position number place (declares.function of kind flags defaults None) others = placed_by position number place kind (defaults_behind number defaults others) of
placed_of position number place (declares.function of kind flags defaults (Some first)) others = tt
placed_of position number place _ others = tt

pub candidates_numbered : (all : List Numbered) (position : ℕ) → AreNumbered place_among position (candidates_from all position)
candidates_numbered [] position = tt
candidates_numbered (one ∷ others) position = placed_put position (candidate_of position one others) (candidates_from others) (placed_of position one.number one.fact.place one.fact.what others) (λ k. candidates_numbered others k)
