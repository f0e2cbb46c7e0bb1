-- Which declaration of a function tells default arguments, by numbers of declarations (8.3.6).
use Rattle.std.specs.Prelude.{ℕ, zero, suc, ◌≡◌, ◌<◌, ◌≤◌, Bool, true, false, ◌&&◌, nat_eq, if◌then◌else◌, List, [], ◌∷◌, ◌++◌, length, Option, Some, None, refl}
use Rattle.std.proofs.Common.{◌+◌, ◌⊎◌, inl, inr, ap, sym, subst, ◌∙◌, arith, append_assoc, get_or, drop}
use Rattle.std.proofs.lemmas.List.{append-nil, at_drop_more, at_drop_all}
use Rattle.std.specs.List.{slice_get}
use Rattle.std.specs.Option.{option_map}
use Rattle.cxx_model.specs.declared.facts.Fact.{Fact}
use Rattle.cxx_model.specs.declared.types.FactId.{FactId}
use Rattle.cxx_model.specs.Facts.Declarations.{CxxGraph, CxxName, declares_at, fact_at, facts_at, graph_at, name_at, unnamed}
use Rattle.cxx_model.specs.Facts.Fitted.{AreFactsBelow, IsNameBelow}
use Rattle.cxx_model.specs.Facts.Graph.{Graph}
use Rattle.cxx_model.specs.Types.Trees.{CxxType}
use Rattle.cxx_names.proofs.Wordless.{no_unnamed}
use Rattle.cxx_names.specs.Looked.{looked_up, seen_by}
use Rattle.cxx_names.proofs.Clashing.{fact_below}
use Rattle.cxx_names.specs.Named.{has_the_name, named_among}
use Rattle.cxx_reading.specs.Givers.{declares_function, giver, giver_beside, givers, is_function_fact, last_of, name_by, or_before, other_giver, outward_from, scope_in, told_by as told_by_row}
use Rattle.cxx_reading.specs.Linked.{home_of, is_space_at}
use Rattle.cxx_reading.specs.Seen.{Numbered, declared_in, parent_of}
use Rattle.cxx_answers.specs.Told.{AreNumbersBelow, IsScopeOf, are_some, told, told_by}

-- ---- one declaration

pub fact_seen : (types : List CxxType) (facts : List Fact) (n : ℕ) → slice_get (facts_at types facts) n ≡ option_map (fact_at types) (slice_get facts n)
fact_seen types [] n = refl
fact_seen types (fact ∷ facts) zero = refl
fact_seen types (fact ∷ facts) (suc n) = fact_seen types facts n

there_by : (types : List CxxType) (facts : List Fact) (n : ℕ) (o : Option Fact) → slice_get facts n ≡ o → slice_get (facts_at types facts) n ≡ option_map (fact_at types) o
there_by types facts n o at = fact_seen types facts n ∙ ap (option_map (fact_at types)) at

pub when_is : (types : List CxxType) (facts : List Fact) (function : ℕ) (number : FactId) (fact : Fact) → slice_get facts number.0 ≡ Some fact → declares_function function number.0 (declares_at types fact.what) ≡ true → told types facts (Some number) ≡ last_of function (looked_up types facts (number ∷ []))
when_is types facts function number fact at declares = rw at rw declares refl

pub when_not : (types : List CxxType) (facts : List Fact) (function : ℕ) (number : FactId) (fact : Fact) → slice_get facts number.0 ≡ Some fact → declares_function function number.0 (declares_at types fact.what) ≡ false → None ≡ last_of function (looked_up types facts (number ∷ []))
when_not types facts function number fact at declares = rw at rw declares refl

pub when_none : (types : List CxxType) (facts : List Fact) (function : ℕ) (number : FactId) → slice_get facts number.0 ≡ None → None ≡ last_of function (looked_up types facts (number ∷ []))
when_none types facts function number at = rw at refl

pub within : {A : Type 0} (xs : List A) (n : ℕ) (x : A) → slice_get xs n ≡ Some x → n < length xs
within [] n x at = absurd cc
within (y ∷ xs) zero x at = omega arith
within (y ∷ xs) (suc n) x at = let less = within xs n x at in omega (arith, less)

-- a number that is below is that of a declaration
pub there_at : {A : Type 0} (xs : List A) (n : ℕ) → n < length xs → (x : A) × (slice_get xs n ≡ Some x)
there_at [] n less = absurd (omega (arith, less))
there_at (x ∷ xs) zero less = (x, refl)
there_at (x ∷ xs) (suc n) less = there_at xs n (omega (arith, less))

got : {A : Type 0} (xs : List A) (n : ℕ) (x d : A) → n < length xs → x ≡ get_or xs n d → slice_get xs n ≡ Some x
got [] n x d less is = absurd (omega (arith, less))
got (y ∷ xs) zero x d less is = let e : y ≡ x = sym is in ap (λ z. Some z) e
got (y ∷ xs) (suc n) x d less is = got xs n x d (omega (arith, less)) is

told_there : (types : List CxxType) (facts : List Fact) (number : FactId) → number.0 < length facts → (one : Numbered) × (told types facts (Some number) ≡ Some one)
told_there types facts number less =
    let at : (fact : Fact) × (slice_get facts number.0 ≡ Some fact) = there_at facts number.0 less in
    (record { number = number.0; fact = fact_at types at.0 }, ap (told_by types number) at.1)

pub scope_there : (types : List CxxType) (facts : List Fact) (number : FactId) (fact d : Fact) → number.0 < length facts → fact ≡ get_or facts number.0 d → IsScopeOf (told types facts (Some number)) fact.scope
scope_there types facts number fact d less is =
    let at : slice_get facts number.0 ≡ Some fact = got facts number.0 fact d less is in
    subst (λ o. IsScopeOf (told_by types number o) fact.scope) (sym at) refl

-- ---- the last of some declarations

before_none : (o : Option Numbered) → o ≡ or_before o None
before_none None = refl
before_none (Some one) = refl

before_again : (a b c : Option Numbered) → or_before (or_before a b) c ≡ or_before a (or_before b c)
before_again None b c = refl
before_again (Some one) b c = refl

last_more : (types : List CxxType) (facts : List Fact) (function : ℕ) (number : FactId) (numbers : List FactId) → last_of function (looked_up types facts (number ∷ numbers)) ≡ or_before (last_of function (looked_up types facts numbers)) (last_of function (looked_up types facts (number ∷ [])))
last_more types facts function number numbers = by (slice_get facts number.0)
  where
    by : (o : Option Fact) → last_of function (seen_by types number (looked_up types facts numbers) o) ≡ or_before (last_of function (looked_up types facts numbers)) (last_of function (seen_by types number [] o))
    by None = before_none (last_of function (looked_up types facts numbers))
    by (Some fact) = refl

pub last_step : (types : List CxxType) (facts : List Fact) (function : ℕ) (before after : Option FactId) (numbers : List FactId) (i : ℕ) (number d : FactId) (whole : Option Numbered) → i < length numbers → number ≡ get_or numbers i d → told types facts after ≡ or_before (last_of function (looked_up types facts (number ∷ []))) (told types facts before) → or_before (last_of function (looked_up types facts (drop i numbers))) (told types facts before) ≡ whole → or_before (last_of function (looked_up types facts (drop (i + 1) numbers))) (told types facts after) ≡ whole
last_step types facts function before after numbers i number d whole less is next same =
    let rest : Option Numbered = last_of function (looked_up types facts (drop (i + 1) numbers)) in
    ap (or_before rest) next
    ∙ sym (before_again rest (last_of function (looked_up types facts (number ∷ []))) (told types facts before))
    ∙ ap (λ o. or_before o (told types facts before)) (sym (last_more types facts function number (drop (i + 1) numbers)))
    ∙ ap (λ (n : FactId). or_before (last_of function (looked_up types facts (n ∷ drop (i + 1) numbers))) (told types facts before)) is
    ∙ sym (at_drop_more (λ ns. or_before (last_of function (looked_up types facts ns)) (told types facts before)) numbers i d less)
    ∙ same

-- one was found
pub found_next : (types : List CxxType) (facts : List Fact) (function : ℕ) (before : Option FactId) (one number : FactId) → told types facts (Some one) ≡ last_of function (looked_up types facts (number ∷ [])) → one.0 < length facts → told types facts (Some one) ≡ or_before (last_of function (looked_up types facts (number ∷ []))) (told types facts before)
found_next types facts function before one number is less =
    let some : (found : Numbered) × (told types facts (Some one) ≡ Some found) = told_there types facts one less in
    some.1 ∙ ap (λ o. or_before o (told types facts before)) (sym some.1 ∙ is)

-- none was
pub passed_next : (types : List CxxType) (facts : List Fact) (function : ℕ) (before : Option FactId) (number : FactId) → None ≡ last_of function (looked_up types facts (number ∷ [])) → told types facts before ≡ or_before (last_of function (looked_up types facts (number ∷ []))) (told types facts before)
passed_next types facts function before number is = ap (λ o. or_before o (told types facts before)) is

abbrev named_of : List CxxType → List Fact → CxxName → List FactId → List Numbered
named_of types facts name numbers = looked_up types facts (named_among types facts name numbers)

-- ---- the last of those that have a name

named_if : (types : List CxxType) (facts : List Fact) (name : CxxName) (number : FactId) (numbers : List FactId) (t : Bool) → t ≡ has_the_name types name (slice_get facts number.0) → named_of types facts name (number ∷ numbers) ≡ looked_up types facts (if t then number ∷ named_among types facts name numbers else named_among types facts name numbers)
named_if types facts name number numbers t is = ap (λ b. looked_up types facts (if b then number ∷ named_among types facts name numbers else named_among types facts name numbers)) (sym is)

pub named_next : (types : List CxxType) (facts : List Fact) (name : CxxName) (function : ℕ) (before after : Option FactId) (number : FactId) (t : Bool) → t ≡ has_the_name types name (slice_get facts number.0) → t ≡ true → told types facts after ≡ or_before (last_of function (looked_up types facts (number ∷ []))) (told types facts before) → told types facts after ≡ or_before (last_of function (looked_up types facts (named_among types facts name (number ∷ [])))) (told types facts before)
named_next types facts name function before after number t is holds next = next ∙ ap (λ ns. or_before (last_of function ns) (told types facts before)) (sym (named_if types facts name number [] true (sym holds ∙ is)))

pub unnamed_next : (types : List CxxType) (facts : List Fact) (name : CxxName) (function : ℕ) (before : Option FactId) (number : FactId) (t : Bool) → t ≡ has_the_name types name (slice_get facts number.0) → t ≡ false → told types facts before ≡ or_before (last_of function (looked_up types facts (named_among types facts name (number ∷ [])))) (told types facts before)
unnamed_next types facts name function before number t is fails = sym (ap (λ ns. or_before (last_of function ns) (told types facts before)) (named_if types facts name number [] false (sym fails ∙ is)))

named_more : (types : List CxxType) (facts : List Fact) (name : CxxName) (function : ℕ) (number : FactId) (numbers : List FactId) → last_of function (named_of types facts name (number ∷ numbers)) ≡ or_before (last_of function (named_of types facts name numbers)) (last_of function (named_of types facts name (number ∷ [])))
named_more types facts name function number numbers = by (has_the_name types name (slice_get facts number.0)) refl
  where
    by : (t : Bool) → has_the_name types name (slice_get facts number.0) ≡ t → last_of function (named_of types facts name (number ∷ numbers)) ≡ or_before (last_of function (named_of types facts name numbers)) (last_of function (named_of types facts name (number ∷ [])))
    by true is =
        ap (last_of function) (named_if types facts name number numbers true (sym is))
        ∙ last_more types facts function number (named_among types facts name numbers)
        ∙ ap (λ ns. or_before (last_of function (named_of types facts name numbers)) (last_of function ns)) (sym (named_if types facts name number [] true (sym is)))
    by false is =
        ap (last_of function) (named_if types facts name number numbers false (sym is))
        ∙ before_none (last_of function (named_of types facts name numbers))
        ∙ ap (λ ns. or_before (last_of function (named_of types facts name numbers)) (last_of function ns)) (sym (named_if types facts name number [] false (sym is)))

pub last_named_step : (types : List CxxType) (facts : List Fact) (name : CxxName) (function : ℕ) (before after : Option FactId) (numbers : List FactId) (i : ℕ) (number d : FactId) (whole : Option Numbered) → i < length numbers → number ≡ get_or numbers i d → told types facts after ≡ or_before (last_of function (named_of types facts name (number ∷ []))) (told types facts before) → or_before (last_of function (named_of types facts name (drop i numbers))) (told types facts before) ≡ whole → or_before (last_of function (named_of types facts name (drop (i + 1) numbers))) (told types facts after) ≡ whole
last_named_step types facts name function before after numbers i number d whole less is next same =
    let rest : Option Numbered = last_of function (named_of types facts name (drop (i + 1) numbers)) in
    ap (or_before rest) next
    ∙ sym (before_again rest (last_of function (named_of types facts name (number ∷ []))) (told types facts before))
    ∙ ap (λ o. or_before o (told types facts before)) (sym (named_more types facts name function number (drop (i + 1) numbers)))
    ∙ ap (λ (n : FactId). or_before (last_of function (named_of types facts name (n ∷ drop (i + 1) numbers))) (told types facts before)) is
    ∙ sym (at_drop_more (λ ns. or_before (last_of function (named_of types facts name ns)) (told types facts before)) numbers i d less)
    ∙ same

pub last_named_end : (types : List CxxType) (facts : List Fact) (name : CxxName) (function : ℕ) (found : Option FactId) (numbers : List FactId) (i : ℕ) (whole : Option Numbered) → length numbers ≤ i → or_before (last_of function (looked_up types facts (named_among types facts name (drop i numbers)))) (told types facts found) ≡ whole → told types facts found ≡ whole
last_named_end types facts name function found numbers i whole past same = sym (at_drop_all (λ ns. or_before (last_of function (named_of types facts name ns)) (told types facts found)) numbers i past) ∙ same

pub before_all : (o : Option Numbered) → or_before o None ≡ o
before_all o = sym (before_none o)

pub last_end : (types : List CxxType) (facts : List Fact) (function : ℕ) (found : Option FactId) (numbers : List FactId) (i : ℕ) (whole : Option Numbered) → length numbers ≤ i → or_before (last_of function (looked_up types facts (drop i numbers))) (told types facts found) ≡ whole → told types facts found ≡ whole
last_end types facts function found numbers i whole past same = sym (at_drop_all (λ ns. or_before (last_of function (looked_up types facts ns)) (told types facts found)) numbers i past) ∙ same

-- ---- whether any of some declarations is there

pub any_this : (types : List CxxType) (facts : List Fact) (numbers : List FactId) (i : ℕ) (number d : FactId) (fact : Fact) → i < length numbers → number ≡ get_or numbers i d → slice_get facts number.0 ≡ Some fact → are_some (looked_up types facts (drop i numbers)) ≡ are_some (looked_up types facts numbers) → true ≡ are_some (looked_up types facts numbers)
any_this types facts numbers i number d fact less is at same =
    sym (ap (λ o. are_some (seen_by types number (looked_up types facts (drop (i + 1) numbers)) o)) at)
    ∙ ap (λ (n : FactId). are_some (looked_up types facts (n ∷ drop (i + 1) numbers))) is
    ∙ sym (at_drop_more (λ ns. are_some (looked_up types facts ns)) numbers i d less)
    ∙ same

pub any_step : (types : List CxxType) (facts : List Fact) (numbers : List FactId) (i : ℕ) (number d : FactId) → i < length numbers → number ≡ get_or numbers i d → slice_get facts number.0 ≡ None → are_some (looked_up types facts (drop i numbers)) ≡ are_some (looked_up types facts numbers) → are_some (looked_up types facts (drop (i + 1) numbers)) ≡ are_some (looked_up types facts numbers)
any_step types facts numbers i number d less is at same =
    sym (ap (λ o. are_some (seen_by types number (looked_up types facts (drop (i + 1) numbers)) o)) at)
    ∙ ap (λ (n : FactId). are_some (looked_up types facts (n ∷ drop (i + 1) numbers))) is
    ∙ sym (at_drop_more (λ ns. are_some (looked_up types facts ns)) numbers i d less)
    ∙ same

pub any_end : (types : List CxxType) (facts : List Fact) (numbers : List FactId) (i : ℕ) → length numbers ≤ i → are_some (looked_up types facts (drop i numbers)) ≡ are_some (looked_up types facts numbers) → false ≡ are_some (looked_up types facts numbers)
any_end types facts numbers i past same = sym (at_drop_all (λ ns. are_some (looked_up types facts ns)) numbers i past) ∙ same

-- ---- whether any of those has a name

pub named_this : (types : List CxxType) (facts : List Fact) (name : CxxName) (numbers : List FactId) (i : ℕ) (number d : FactId) (t : Bool) → i < length numbers → number ≡ get_or numbers i d → t ≡ has_the_name types name (slice_get facts number.0) → t ≡ true → are_some (looked_up types facts (named_among types facts name (drop i numbers))) ≡ are_some (looked_up types facts (named_among types facts name numbers)) → true ≡ are_some (looked_up types facts (named_among types facts name numbers))
named_this types facts name numbers i number d t less is has holds same =
    by (slice_get facts number.0) refl (sym holds ∙ has)
    ∙ ap (λ (n : FactId). are_some (named_of types facts name (n ∷ drop (i + 1) numbers))) is
    ∙ sym (at_drop_more (λ ns. are_some (named_of types facts name ns)) numbers i d less)
    ∙ same
  where
    by : (o : Option Fact) → slice_get facts number.0 ≡ o → true ≡ has_the_name types name o → true ≡ are_some (named_of types facts name (number ∷ drop (i + 1) numbers))
    by None at named = absurd cc
    by (Some fact) at named =
        sym (ap are_some (named_if types facts name number (drop (i + 1) numbers) true (named ∙ ap (has_the_name types name) (sym at)))
        ∙ ap (λ o. are_some (seen_by types number (named_of types facts name (drop (i + 1) numbers)) o)) at)

pub named_step : (types : List CxxType) (facts : List Fact) (name : CxxName) (numbers : List FactId) (i : ℕ) (number d : FactId) (t : Bool) → i < length numbers → number ≡ get_or numbers i d → t ≡ has_the_name types name (slice_get facts number.0) → t ≡ false → are_some (looked_up types facts (named_among types facts name (drop i numbers))) ≡ are_some (looked_up types facts (named_among types facts name numbers)) → are_some (looked_up types facts (named_among types facts name (drop (i + 1) numbers))) ≡ are_some (looked_up types facts (named_among types facts name numbers))
named_step types facts name numbers i number d t less is has fails same =
    sym (ap are_some (named_if types facts name number (drop (i + 1) numbers) false (sym fails ∙ has)))
    ∙ ap (λ (n : FactId). are_some (named_of types facts name (n ∷ drop (i + 1) numbers))) is
    ∙ sym (at_drop_more (λ ns. are_some (named_of types facts name ns)) numbers i d less)
    ∙ same

pub named_end : (types : List CxxType) (facts : List Fact) (name : CxxName) (numbers : List FactId) (i : ℕ) → length numbers ≤ i → are_some (looked_up types facts (named_among types facts name (drop i numbers))) ≡ are_some (looked_up types facts (named_among types facts name numbers)) → false ≡ are_some (looked_up types facts (named_among types facts name numbers))
named_end types facts name numbers i past same = sym (at_drop_all (λ ns. are_some (named_of types facts name ns)) numbers i past) ∙ same

-- ---- outward

some_told : (function : ℕ) (row : List Numbered) (outer : Option Numbered) → are_some row ≡ true → told_by_row function row outer ≡ last_of function row
some_told function [] outer some = absurd cc
some_told function (one ∷ others) outer some = refl

none_told : (function : ℕ) (row : List Numbered) (outer : Option Numbered) → are_some row ≡ false → told_by_row function row outer ≡ outer
none_told function [] outer none = refl
none_told function (one ∷ others) outer none = absurd cc

abbrev out_by : Bool → Option Numbered → Option Numbered
out_by is_space told = if is_space then None else told

pub out_space : (graph : CxxGraph) (function : ℕ) (word : CxxName) (room less scope : ℕ) (whole : Option Numbered) → room ≡ suc less → is_space_at graph scope ≡ true → outward_from graph function word room scope ≡ whole → None ≡ whole
out_space graph function word zero less scope whole is space same = absurd (omega (arith, is))
out_space graph function word (suc room) less scope whole is space same =
    sym (ap (λ b. out_by b (told_by_row function (declared_in graph scope word) (outward_from graph function word room (parent_of graph scope)))) space) ∙ same

pub out_here : (graph : CxxGraph) (function : ℕ) (word : CxxName) (room less scope : ℕ) (one whole : Option Numbered) → room ≡ suc less → is_space_at graph scope ≡ false → are_some (declared_in graph scope word) ≡ true → one ≡ last_of function (declared_in graph scope word) → outward_from graph function word room scope ≡ whole → one ≡ whole
out_here graph function word zero less scope one whole is space some here same = absurd (omega (arith, is))
out_here graph function word (suc room) less scope one whole is space some here same =
    let further : Option Numbered = outward_from graph function word room (parent_of graph scope) in
    here
    ∙ sym (some_told function (declared_in graph scope word) further some)
    ∙ sym (ap (λ b. out_by b (told_by_row function (declared_in graph scope word) further)) space)
    ∙ same

pub out_on : (graph : CxxGraph) (function : ℕ) (word : CxxName) (room less scope next : ℕ) (whole : Option Numbered) → room ≡ suc less → is_space_at graph scope ≡ false → are_some (declared_in graph scope word) ≡ false → next ≡ parent_of graph scope → outward_from graph function word room scope ≡ whole → outward_from graph function word less next ≡ whole
out_on graph function word zero less scope next whole is space none up same = absurd (omega (arith, is))
out_on graph function word (suc room) less scope next whole is space none up same =
    let fewer : less ≡ room = omega (arith, is) in
    let further : Option Numbered = outward_from graph function word room (parent_of graph scope) in
    ap (λ n. outward_from graph function word less n) up
    ∙ ap (λ n. outward_from graph function word n (parent_of graph scope)) fewer
    ∙ sym (none_told function (declared_in graph scope word) further none)
    ∙ sym (ap (λ b. out_by b (told_by_row function (declared_in graph scope word) further)) space)
    ∙ same

pub out_end : (graph : CxxGraph) (function : ℕ) (word : CxxName) (room scope : ℕ) (whole : Option Numbered) → room ≡ zero → outward_from graph function word room scope ≡ whole → None ≡ whole
out_end graph function word zero scope whole is same = same
out_end graph function word (suc room) scope whole is same = absurd (omega (arith, is))

-- ---- the giver

giver_is : (types : List CxxType) (graph : Graph) (scope : ℕ) (function : ℕ) (fact : Fact) → slice_get graph.facts function ≡ Some fact → giver (graph_at types graph) scope function ≡ or_before (outward_from (graph_at types graph) function (name_at types fact.name) scope scope) (last_of function (declared_in (graph_at types graph) (home_of (graph_at types graph) fact.scope.0) (name_at types fact.name)))
unfolding giver
giver_is types graph scope function fact at =
    let all : CxxGraph = graph_at types graph in
    let here : slice_get all.facts function ≡ Some (fact_at types fact) = there_by types graph.facts function (Some fact) at in
    ap (λ o. or_before (outward_from all function (name_by o) scope scope) (last_of function (declared_in all (home_of all (scope_in o)) (name_by o)))) here

pub giver_outward : (types : List CxxType) (graph : Graph) (scope : ℕ) (function one : FactId) (fact : Fact) → slice_get graph.facts function.0 ≡ Some fact → told types graph.facts (Some one) ≡ outward_from (graph_at types graph) function.0 (name_at types fact.name) scope scope → one.0 < length graph.facts → told types graph.facts (Some one) ≡ giver (graph_at types graph) scope function.0
giver_outward types graph scope function one fact at is there =
    let all : CxxGraph = graph_at types graph in
    let some : (found : Numbered) × (told types graph.facts (Some one) ≡ Some found) = told_there types graph.facts one there in
    let home : Option Numbered = last_of function.0 (declared_in all (home_of all fact.scope.0) (name_at types fact.name)) in
    some.1 ∙ ap (λ o. or_before o home) (sym some.1 ∙ is) ∙ sym (giver_is types graph scope function.0 fact at)

pub giver_home : (types : List CxxType) (graph : Graph) (scope : ℕ) (function : FactId) (found : Option FactId) (fact : Fact) → slice_get graph.facts function.0 ≡ Some fact → None ≡ outward_from (graph_at types graph) function.0 (name_at types fact.name) scope scope → told types graph.facts found ≡ last_of function.0 (declared_in (graph_at types graph) (home_of (graph_at types graph) fact.scope.0) (name_at types fact.name)) → told types graph.facts found ≡ giver (graph_at types graph) scope function.0
giver_home types graph scope function found fact at out home =
    let all : CxxGraph = graph_at types graph in
    home
    ∙ ap (λ o. or_before o (last_of function.0 (declared_in all (home_of all fact.scope.0) (name_at types fact.name)))) out
    ∙ sym (giver_is types graph scope function.0 fact at)

unnamed_by : (types : List CxxType) (graph : Graph) (function scope : ℕ) (further : Option Numbered) (b : Bool) → further ≡ None → out_by b (told_by_row function (declared_in (graph_at types graph) scope unnamed) further) ≡ None
unnamed_by types graph function scope further true none = refl
unnamed_by types graph function scope further false none = ap (λ all. told_by_row function all further) (sym (no_unnamed types graph scope)) ∙ none

out_unnamed : (types : List CxxType) (graph : Graph) (function : ℕ) (room scope : ℕ) → outward_from (graph_at types graph) function unnamed room scope ≡ None
out_unnamed types graph function zero scope = refl
out_unnamed types graph function (suc room) scope =
    let all : CxxGraph = graph_at types graph in
    unnamed_by types graph function scope (outward_from all function unnamed room (parent_of all scope)) (is_space_at all scope) (out_unnamed types graph function room (parent_of all scope))

pub giver_none : (types : List CxxType) (graph : Graph) (scope : ℕ) (function : FactId) → slice_get graph.facts function.0 ≡ None → None ≡ giver (graph_at types graph) scope function.0
unfolding giver
giver_none types graph scope function at =
    let all : CxxGraph = graph_at types graph in
    let here : slice_get all.facts function.0 ≡ None = there_by types graph.facts function.0 None at in
    sym (
    ap (λ o. or_before (outward_from all function.0 (name_by o) scope scope) (last_of function.0 (declared_in all (home_of all (scope_in o)) (name_by o)))) here
    ∙ ap (λ o. or_before o (last_of function.0 (declared_in all (home_of all zero) unnamed))) (out_unnamed types graph function.0 scope scope)
    ∙ ap (λ ones. last_of function.0 ones) (sym (no_unnamed types graph (home_of all zero))))

-- the name of a declaration names a type that is there
pub name_below : (count : ℕ) (facts : List Fact) (number : ℕ) (fact : Fact) → AreFactsBelow count facts → slice_get facts number ≡ Some fact → IsNameBelow count fact.name
name_below count facts number fact below at = (fact_below count facts number fact below at).name

-- ---- beside the first declarations

other_by : (types : List CxxType) (facts : List Fact) (function : ℕ) (one : FactId) (b : Bool) (o : Option Fact) → nat_eq one.0 function ≡ b → other_giver function (told_by types one o) ≡ (if b then [] else seen_by types one [] o)
other_by types facts function one true None same = refl
other_by types facts function one false None same = refl
other_by types facts function one b (Some fact) same = ap (λ (t : Bool). if t then [] else record { number = one.0; fact = fact_at types fact } ∷ []) same

pub other_same : (types : List CxxType) (facts : List Fact) (function one : FactId) (whole : Option Numbered) → told types facts (Some one) ≡ whole → nat_eq one.0 function.0 ≡ true → [] ≡ other_giver function.0 whole
other_same types facts function one whole is same = sym (ap (other_giver function.0) (sym is) ∙ other_by types facts function.0 one true (slice_get facts one.0) same)

pub other_found : (types : List CxxType) (facts : List Fact) (function one : FactId) (whole : Option Numbered) → told types facts (Some one) ≡ whole → nat_eq one.0 function.0 ≡ false → looked_up types facts (one ∷ []) ≡ other_giver function.0 whole
other_found types facts function one whole is same = sym (ap (other_giver function.0) (sym is) ∙ other_by types facts function.0 one false (slice_get facts one.0) same)

pub other_none : (function : FactId) (whole : Option Numbered) → None ≡ whole → [] ≡ other_giver function.0 whole
other_none function whole is = ap (other_giver function.0) is

beside_by : (types : List CxxType) (graph : Graph) (scope : ℕ) (number : FactId) (fact : Fact) (b : Bool) → slice_get graph.facts number.0 ≡ Some fact → is_function_fact (declares_at types fact.what) ≡ b → givers (graph_at types graph) scope (looked_up types graph.facts (number ∷ [])) ≡ (if b then other_giver number.0 (giver (graph_at types graph) scope number.0) else [])
beside_by types graph scope number fact b at is =
    let all : CxxGraph = graph_at types graph in
    ap (λ o. givers all scope (seen_by types number [] o)) at
    ∙ append-nil (giver_beside all scope (record { number = number.0; fact = fact_at types fact }))
    ∙ ap (λ (t : Bool). if t then other_giver number.0 (giver all scope number.0) else []) is

pub beside_function : (types : List CxxType) (graph : Graph) (scope : ℕ) (number : FactId) (fact : Fact) (whole : List Numbered) → slice_get graph.facts number.0 ≡ Some fact → is_function_fact (declares_at types fact.what) ≡ true → whole ≡ other_giver number.0 (giver (graph_at types graph) scope number.0) → whole ≡ givers (graph_at types graph) scope (looked_up types graph.facts (number ∷ []))
beside_function types graph scope number fact whole at is same = same ∙ sym (beside_by types graph scope number fact true at is)

pub beside_other : (types : List CxxType) (graph : Graph) (scope : ℕ) (number : FactId) (fact : Fact) → slice_get graph.facts number.0 ≡ Some fact → is_function_fact (declares_at types fact.what) ≡ false → [] ≡ givers (graph_at types graph) scope (looked_up types graph.facts (number ∷ []))
beside_other types graph scope number fact at is = sym (beside_by types graph scope number fact false at is)

pub beside_none : (types : List CxxType) (graph : Graph) (scope : ℕ) (number : FactId) → slice_get graph.facts number.0 ≡ None → [] ≡ givers (graph_at types graph) scope (looked_up types graph.facts (number ∷ []))
beside_none types graph scope number at = sym (ap (λ o. givers (graph_at types graph) scope (seen_by types number [] o)) at)

-- ---- all of them

seen_more : (types : List CxxType) (number : FactId) (one two : List Numbered) (o : Option Fact) → seen_by types number (one ++ two) o ≡ seen_by types number one o ++ two
seen_more types number one two None = refl
seen_more types number one two (Some fact) = refl

pub looked_more : (types : List CxxType) (facts : List Fact) (one two : List FactId) → looked_up types facts (one ++ two) ≡ looked_up types facts one ++ looked_up types facts two
looked_more types facts [] two = refl
looked_more types facts (number ∷ one) two =
    ap (λ all. seen_by types number all (slice_get facts number.0)) (looked_more types facts one two)
    ∙ seen_more types number (looked_up types facts one) (looked_up types facts two) (slice_get facts number.0)

pub known_end : (types : List CxxType) (facts : List Fact) (found numbers : List FactId) (i : ℕ) (whole : List Numbered) → length numbers ≤ i → looked_up types facts found ++ looked_up types facts (drop i numbers) ≡ whole → looked_up types facts found ≡ whole
known_end types facts found numbers i whole past same =
    sym (append-nil (looked_up types facts found))
    ∙ sym (at_drop_all (λ ns. looked_up types facts found ++ looked_up types facts ns) numbers i past)
    ∙ same

pub givers_end : (types : List CxxType) (graph : Graph) (scope : ℕ) (found numbers : List FactId) (i : ℕ) (whole : List Numbered) → length numbers ≤ i → looked_up types graph.facts found ++ givers (graph_at types graph) scope (looked_up types graph.facts (drop i numbers)) ≡ whole → looked_up types graph.facts found ≡ whole
givers_end types graph scope found numbers i whole past same =
    sym (append-nil (looked_up types graph.facts found))
    ∙ sym (at_drop_all (λ ns. looked_up types graph.facts found ++ givers (graph_at types graph) scope (looked_up types graph.facts ns)) numbers i past)
    ∙ same

looked_at : (types : List CxxType) (facts : List Fact) (number : FactId) (o : Option Fact) → slice_get facts number.0 ≡ o → length facts ≤ number.0 → looked_up types facts (number ∷ []) ≡ []
looked_at types facts number None at past = ap (seen_by types number []) at
looked_at types facts number (Some fact) at past = let less = within facts number.0 fact at in absurd (omega (arith, less, past))

-- a declaration that is not there
pub looked_none : (types : List CxxType) (facts : List Fact) (found : List FactId) (number : FactId) → length facts ≤ number.0 → looked_up types facts found ≡ looked_up types facts found ++ looked_up types facts (number ∷ [])
looked_none types facts found number past =
    sym (append-nil (looked_up types facts found))
    ∙ sym (ap (λ all. looked_up types facts found ++ all) (looked_at types facts number (slice_get facts number.0) refl past))

-- ---- numbers that are below

pub below_more : (count : ℕ) (numbers : List FactId) (number : FactId) → AreNumbersBelow count numbers → number.0 < count → AreNumbersBelow count (numbers ++ number ∷ [])
below_more count [] number all last = (last, tt)
below_more count (one ∷ numbers) number all last = (all.0, below_more count numbers number all.1 last)
