-- Functions of a class that are declared again outside of it (9.3).
use Rattle.std.specs.Prelude.{ℕ, ◌≡◌, ◌<◌, ◌+◌, IfSome, Bool, true, false, if◌then◌else◌, List, [], ◌∷◌, length, Option, Some, None, option_map, Result, Ok, Err, refl}
use Rattle.std.specs.List.{slice_get}
use Rattle.std.proofs.Common.{ap, sym, subst, ◌∙◌, drop, get_or}
use Rattle.std.proofs.lemmas.List.{at_drop_more}
use Rattle.cxx_model.specs.declared.facts.Entity.{Entity}
use Rattle.cxx_model.specs.declared.facts.Entity.TheVariants as entity
use Rattle.cxx_model.specs.declared.facts.Fact.{Fact}
use Rattle.cxx_model.specs.declared.facts.FunctionFlags.{FunctionFlags}
use Rattle.cxx_model.specs.declared.facts.MemberKind.{MemberKind}
use Rattle.cxx_model.specs.declared.facts.Name.{Name}
use Rattle.cxx_model.specs.declared.facts.Name.TheVariants as name
use Rattle.cxx_model.specs.declared.place.Place.{Place}
use Rattle.cxx_model.specs.declared.stop.Stop.{Stop}
use Rattle.cxx_model.specs.declared.token.TokenKind.{TokenKind}
use Rattle.cxx_model.specs.declared.types.Cv.{Cv}
use Rattle.cxx_model.specs.declared.types.FactId.{FactId}
use Rattle.cxx_model.specs.declared.types.ScopeId.{ScopeId}
use Rattle.cxx_model.specs.declared.types.TypeId.{TypeId}
use Rattle.cxx_model.specs.Facts.Declarations as facts
use Rattle.cxx_model.specs.Facts.Declarations.{CxxFact, CxxGraph, Declares, declares_at, fact_at, graph_at, spelled}
use Rattle.cxx_model.specs.Facts.Fitted.{IsEntityBelow}
use Rattle.cxx_model.specs.Facts.Graph.{Graph, IsEntityInRange, scopes}
use Rattle.cxx_model.specs.Stops.{Stops}
use Rattle.cxx_model.specs.Types.Trees.{CxxType}
use Rattle.cxx_reading.specs.Declaring.{added, number_id}
use Rattle.cxx_reading.specs.Seen.{Numbered, declared_in, fact_numbers, numbered_at, numbered_by}
use Rattle.cxx_declare.specs.Agreed.{seen_as}
use Rattle.cxx_declare.specs.Begun.{IsAddable}
use Rattle.cxx_declare.specs.Made.{IsAgain, IsEarlierFunction, a_type, function_first, made, named, token}
use Rattle.cxx_declare.specs.Outside.{again_among, again_fact, again_here, again_what, declare_again, declared_again, is_again, members_here}
use Rattle.cxx_declare.proofs.Firsts.{AreNamed, IsNamedAt, declared_here, fact_seen, in_scope}
use Rattle.cxx_tree.specs.Held.{Held, meaning}
use Rattle.cxx_tree.specs.Answered.{IsAnswered, IsFactKnown, fact_number}
use Rattle.cxx_tree.proofs.Steps.{Later_refl}
use Rattle.cxx_tree.proofs.Wholes.{may_follow}

-- ---- one declaration

pub again_none : (held : Held) (graph : Graph) (cv : Cv) (of : CxxType) (n : ℕ) → graph ≡ held.graph → slice_get graph.facts n ≡ None → None ≡ again_among cv of (numbered_at (meaning held).graph (n ∷ []))
unfolding meaning
again_none held graph cv of n same e =
    sym (ap (λ (o : Option CxxFact). again_among cv of (numbered_by n o [])) (fact_seen held.types held.graph.facts n ∙ ap (option_map (fact_at held.types)) (subst (λ (g : Graph). slice_get g.facts n ≡ None) same e)))

pub again_one : (held : Held) (graph : Graph) (cv : Cv) (of : CxxType) (n : ℕ) (fact : Fact) (r : Option Declares) → graph ≡ held.graph → slice_get graph.facts n ≡ Some fact → r ≡ again_among cv of (seen_as held.types n fact ∷ []) → r ≡ again_among cv of (numbered_at (meaning held).graph (n ∷ []))
unfolding meaning
again_one held graph cv of n fact r same e is =
    is
    ∙ sym (ap (λ (o : Option CxxFact). again_among cv of (numbered_by n o [])) (fact_seen held.types held.graph.facts n ∙ ap (option_map (fact_at held.types)) (subst (λ (g : Graph). slice_get g.facts n ≡ Some fact) same e)))

-- ---- one after another

skip_if : (b : Bool) (x : Declares) (rest : Option Declares) → (if b then Some x else None) ≡ None → (if b then Some x else rest) ≡ rest
skip_if false x rest e = refl
skip_if true x rest e = absurd (cc)

stop_if : (b : Bool) (x w : Declares) (rest : Option Declares) → (if b then Some x else None) ≡ Some w → (if b then Some x else rest) ≡ Some w
stop_if true x w rest e = e
stop_if false x w rest e = absurd (cc)

again_skip : (graph : CxxGraph) (cv : Cv) (of : CxxType) (n : ℕ) (others : List ℕ) → again_among cv of (numbered_at graph (n ∷ [])) ≡ None → again_among cv of (numbered_at graph (n ∷ others)) ≡ again_among cv of (numbered_at graph others)
again_skip graph cv of n others = by (slice_get graph.facts n)
  where
    by : (o : Option CxxFact) → again_among cv of (numbered_by n o []) ≡ None → again_among cv of (numbered_by n o (numbered_at graph others)) ≡ again_among cv of (numbered_at graph others)
    by None e = refl
    by (Some fact) e = skip_if (is_again cv of fact.what) (again_what n fact.what) (again_among cv of (numbered_at graph others)) e

again_stop : (graph : CxxGraph) (cv : Cv) (of : CxxType) (n : ℕ) (others : List ℕ) (w : Declares) → again_among cv of (numbered_at graph (n ∷ [])) ≡ Some w → again_among cv of (numbered_at graph (n ∷ others)) ≡ Some w
again_stop graph cv of n others w = by (slice_get graph.facts n)
  where
    by : (o : Option CxxFact) → again_among cv of (numbered_by n o []) ≡ Some w → again_among cv of (numbered_by n o (numbered_at graph others)) ≡ Some w
    by None e = absurd (cc)
    by (Some fact) e = stop_if (is_again cv of fact.what) (again_what n fact.what) w (again_among cv of (numbered_at graph others)) e

pub again_goes : (graph : CxxGraph) (cv : Cv) (of : CxxType) (numbers : List FactId) (i : ℕ) (d : FactId) (whole : Option Declares) → i < length numbers → None ≡ again_among cv of (numbered_at graph ((get_or numbers i d).0 ∷ [])) → again_among cv of (numbered_at graph (fact_numbers (drop i numbers))) ≡ whole → again_among cv of (numbered_at graph (fact_numbers (drop (i + 1) numbers))) ≡ whole
again_goes graph cv of numbers i d whole within none same =
    sym (again_skip graph cv of (get_or numbers i d).0 (fact_numbers (drop (i + 1) numbers)) (sym none))
    ∙ sym (at_drop_more (λ ns. again_among cv of (numbered_at graph (fact_numbers ns))) numbers i d within)
    ∙ same

pub again_stops : (graph : CxxGraph) (cv : Cv) (of : CxxType) (numbers : List FactId) (i : ℕ) (d : FactId) (w : Declares) (whole : Option Declares) → i < length numbers → Some w ≡ again_among cv of (numbered_at graph ((get_or numbers i d).0 ∷ [])) → again_among cv of (numbered_at graph (fact_numbers (drop i numbers))) ≡ whole → Some w ≡ whole
again_stops graph cv of numbers i d w whole within one same =
    sym (again_stop graph cv of (get_or numbers i d).0 (fact_numbers (drop (i + 1) numbers)) w (sym one))
    ∙ sym (at_drop_more (λ ns. again_among cv of (numbered_at graph (fact_numbers ns))) numbers i d within)
    ∙ same

-- ---- the earlier declaration

-- a fact with a name that declares a function, whose number an entity has as its first declaration
record IsOfFunction (graph : Graph) (word : List ℕ) (first : Option FactId) : Type 0 where
  k : FactId
  first_is : first ≡ Some k
  other : Fact
  at : slice_get graph.facts k.0 ≡ Some other
  named : other.name ≡ name.Spelled word
  of : TypeId
  member : MemberKind
  flags : FunctionFlags
  defaults : ℕ
  own : Option FactId
  what : other.what ≡ entity.Function of member flags defaults own

abbrev first_in : Declares → Option FactId
first_in (facts.function of kind flags defaults first) = first
first_in _ = None

function_of_what : (types : List CxxType) (graph : Graph) (word : List ℕ) (n : ℕ) (cv : Cv) (of : CxxType) (other : Fact) (w : Declares) → slice_get graph.facts n ≡ Some other → other.name ≡ name.Spelled word → (what : Entity) → other.what ≡ what → is_again cv of (declares_at types what) ≡ true → again_what n (declares_at types what) ≡ w → IsOfFunction graph word (first_in w)
function_of_what types graph word n cv of other w at is (entity.Function two member flags defaults first) same e again = record { k = number_id n; first_is = sym (ap first_in again); other = other; at = at; named = is; of = two; member = member; flags = flags; defaults = defaults; own = first; what = same }
function_of_what types graph word n cv of other w at is (entity.Scope parent kind) same e again = absurd (cc)
function_of_what types graph word n cv of other w at is (entity.Object two member is_mutable value first) same e again = absurd (cc)
function_of_what types graph word n cv of other w at is (entity.Template number member defaults is_explicit first) same e again = absurd (cc)
function_of_what types graph word n cv of other w at is (entity.Parameter depth index two) same e again = absurd (cc)
function_of_what types graph word n cv of other w at is (entity.Injected number) same e again = absurd (cc)
function_of_what types graph word n cv of other w at is (entity.Class number is_union) same e again = absurd (cc)
function_of_what types graph word n cv of other w at is (entity.Complete number) same e again = absurd (cc)
function_of_what types graph word n cv of other w at is (entity.Passed number) same e again = absurd (cc)
function_of_what types graph word n cv of other w at is (entity.Ancestor number parent index access) same e again = absurd (cc)
function_of_what types graph word n cv of other w at is (entity.Enumeration number) same e again = absurd (cc)
function_of_what types graph word n cv of other w at is (entity.Enumerator number value) same e again = absurd (cc)
function_of_what types graph word n cv of other w at is (entity.Synonym two) same e again = absurd (cc)
function_of_what types graph word n cv of other w at is (entity.Namespace inner) same e again = absurd (cc)
function_of_what types graph word n cv of other w at is (entity.Directive nominated) same e again = absurd (cc)
function_of_what types graph word n cv of other w at is (entity.Using target) same e again = absurd (cc)
function_of_what types graph word n cv of other w at is (entity.Friend number target) same e again = absurd (cc)

again_first : (types : List CxxType) (graph : Graph) (word : List ℕ) (cv : Cv) (of : CxxType) (w : Declares) (all : List Numbered) → AreNamed types graph.facts word all → again_among cv of all ≡ Some w → IsOfFunction graph word (first_in w)
again_first types graph word cv of w [] ok e = absurd (cc)
again_first types graph word cv of w (one ∷ others) ok e = by (is_again cv of one.fact.what) refl e (λ f. again_first types graph word cv of w others ok.1 f)
  where
    by : (b : Bool) → is_again cv of one.fact.what ≡ b → (if b then Some (again_what one.number one.fact.what) else again_among cv of others) ≡ Some w → (again_among cv of others ≡ Some w → IsOfFunction graph word (first_in w)) → IsOfFunction graph word (first_in w)
    by false p f later = later f
    by true p f later =
        let seen : one.fact.what ≡ declares_at types ok.0.fact.what = ap (λ (c : CxxFact). c.what) ok.0.seen in
        let same : again_what one.number one.fact.what ≡ w = cc in
        function_of_what types graph word one.number cv of ok.0.fact w ok.0.at ok.0.named ok.0.fact.what refl
        (sym (ap (is_again cv of) seen) ∙ p)
        (sym (ap (again_what one.number) seen) ∙ same)

earlier_of : (held : Held) (word : List ℕ) (first : Option FactId) → IsOfFunction held.graph word first → IsEarlierFunction held word first
earlier_of held word first of = subst (λ (o : Option FactId). IsEntityInRange held.graph (named word (function_first a_type 0 o)) (function_first a_type 0 o)) (sym of.first_is) (of.other, of.at, rw of.what (refl), of.named)

-- what is declared again is a function
again_function : (types : List CxxType) (cv : Cv) (of : CxxType) (w : Declares) (all : List Numbered) → again_among cv of all ≡ Some w → is_again cv of w ≡ true
again_function types cv of w [] e = absurd (cc)
again_function types cv of w (one ∷ others) e = by (is_again cv of one.fact.what) refl e (λ f. again_function types cv of w others f)
  where
    kept : (n : ℕ) (what : Declares) → is_again cv of what ≡ true → is_again cv of (again_what n what) ≡ true
    kept n (facts.function two kind flags defaults first) p = p
    kept n (facts.scope a b) p = absurd (cc)
    kept n (facts.object a b c d f) p = absurd (cc)
    kept n (facts.template a b c d f) p = absurd (cc)
    kept n (facts.value_parameter a b c) p = absurd (cc)
    kept n (facts.injected a) p = absurd (cc)
    kept n (facts.class a b) p = absurd (cc)
    kept n (facts.complete a) p = absurd (cc)
    kept n (facts.passed a) p = absurd (cc)
    kept n (facts.ancestor a b c d) p = absurd (cc)
    kept n (facts.enumeration a) p = absurd (cc)
    kept n (facts.enumerator a b) p = absurd (cc)
    kept n (facts.synonym a) p = absurd (cc)
    kept n (facts.namespace a) p = absurd (cc)
    kept n (facts.directive a) p = absurd (cc)
    kept n (facts.using a) p = absurd (cc)
    kept n (facts.friend a b) p = absurd (cc)

    by : (b : Bool) → is_again cv of one.fact.what ≡ b → (if b then Some (again_what one.number one.fact.what) else again_among cv of others) ≡ Some w → (again_among cv of others ≡ Some w → is_again cv of w ≡ true) → is_again cv of w ≡ true
    by false p f later = later f
    by true p f later = (let same : again_what one.number one.fact.what ≡ w = cc in sym (ap (is_again cv of) same) ∙ kept one.number one.fact.what p)

again_is : (held : Held) (word : List ℕ) (cv : Cv) (of : CxxType) (what : Entity) → IsEntityBelow (length held.types) what → is_again cv of (declares_at held.types what) ≡ true → IsEarlierFunction held word (first_in (declares_at held.types what)) → IsAgain held word what
again_is held word cv of (entity.Function two member flags defaults first) below e earlier = (below, earlier)
again_is held word cv of (entity.Scope parent kind) below e earlier = absurd (cc)
again_is held word cv of (entity.Object two member is_mutable value first) below e earlier = absurd (cc)
again_is held word cv of (entity.Template number member defaults is_explicit first) below e earlier = absurd (cc)
again_is held word cv of (entity.Parameter depth index two) below e earlier = absurd (cc)
again_is held word cv of (entity.Injected number) below e earlier = absurd (cc)
again_is held word cv of (entity.Class number is_union) below e earlier = absurd (cc)
again_is held word cv of (entity.Complete number) below e earlier = absurd (cc)
again_is held word cv of (entity.Passed number) below e earlier = absurd (cc)
again_is held word cv of (entity.Ancestor number parent index access) below e earlier = absurd (cc)
again_is held word cv of (entity.Enumeration number) below e earlier = absurd (cc)
again_is held word cv of (entity.Enumerator number value) below e earlier = absurd (cc)
again_is held word cv of (entity.Synonym two) below e earlier = absurd (cc)
again_is held word cv of (entity.Namespace inner) below e earlier = absurd (cc)
again_is held word cv of (entity.Directive nominated) below e earlier = absurd (cc)
again_is held word cv of (entity.Using target) below e earlier = absurd (cc)
again_is held word cv of (entity.Friend number target) below e earlier = absurd (cc)

-- what is found among the declarations of a scope
pub again_ready : (held : Held) (scope : ℕ) (word : List ℕ) (cv : Cv) (of : CxxType) (r : Option Entity) → option_map (declares_at held.types) r ≡ again_among cv of (declared_in (meaning held).graph scope (spelled word)) → IfSome r (IsEntityBelow (length held.types)) → IfSome r (IsAgain held word)
again_ready held scope word cv of None is below = tt
again_ready held scope word cv of (Some what) is below =
    again_is held word cv of what below
    (again_function held.types cv of (declares_at held.types what) (declared_in (meaning held).graph scope (spelled word)) (sym is))
    (earlier_of held word (first_in (declares_at held.types what)) (again_first held.types held.graph word cv of (declares_at held.types what) (declared_in (meaning held).graph scope (spelled word)) (declared_here held scope word) (sym is)))

-- what the numbers of these declarations name
pub again_found : (held : Held) (graph : Graph) (scope : ScopeId) (word : List ℕ) (cv : Cv) (of : CxxType) (numbers : List FactId) (r : Option Declares) → graph ≡ held.graph → scope ≡ held.scope → numbered_at (graph_at held.types graph) (fact_numbers numbers) ≡ declared_in (graph_at held.types graph) scope.0 (spelled word) → r ≡ again_among cv of (numbered_at (meaning held).graph (fact_numbers numbers)) → r ≡ again_among cv of (declared_in (meaning held).graph (meaning held).here.scope (spelled word))
unfolding meaning
again_found held graph scope word cv of numbers r same here found is =
    is
    ∙ ap (λ (g : Graph). again_among cv of (numbered_at (graph_at held.types g) (fact_numbers numbers))) (sym same)
    ∙ ap (again_among cv of) found
    ∙ in_scope (λ g n. again_among cv of (declared_in g n (spelled word))) held graph scope same here

-- ---- the new declaration

pub again_addable : (held : Held) (place : Place) (word : List ℕ) (what : Entity) → held.scope.0 < scopes held.graph.facts → IsAgain held word what → IsAddable held (made held.scope place (name.Spelled word) what)
again_addable held place word (entity.Function two member flags defaults first) there again = record {
  follows = may_follow held.graph (made held.scope place (name.Spelled word) (entity.Function two member flags defaults first)) there (after first again.1);
  below = record { name = tt; what = again.0 };
  plain = tt;
}
  where
    after : (o : Option FactId) → IsEarlierFunction held word o → IsEntityInRange held.graph (made held.scope place (name.Spelled word) (entity.Function two member flags defaults o)) (entity.Function two member flags defaults o)
    after None ok = tt
    after (Some k) ok = ok
again_addable held place word (entity.Scope parent kind) there again = absurd again
again_addable held place word (entity.Object two member is_mutable value first) there again = absurd again
again_addable held place word (entity.Template number member defaults is_explicit first) there again = absurd again
again_addable held place word (entity.Parameter depth index two) there again = absurd again
again_addable held place word (entity.Injected number) there again = absurd again
again_addable held place word (entity.Class number is_union) there again = absurd again
again_addable held place word (entity.Complete number) there again = absurd again
again_addable held place word (entity.Passed number) there again = absurd again
again_addable held place word (entity.Ancestor number parent index access) there again = absurd again
again_addable held place word (entity.Enumeration number) there again = absurd again
again_addable held place word (entity.Enumerator number value) there again = absurd again
again_addable held place word (entity.Synonym two) there again = absurd again
again_addable held place word (entity.Namespace inner) there again = absurd again
again_addable held place word (entity.Directive nominated) there again = absurd again
again_addable held place word (entity.Using target) there again = absurd again
again_addable held place word (entity.Friend number target) there again = absurd again

pub again_made : (held : Held) (kind : TokenKind) (place : Place) (word : List ℕ) (what : Entity) (scope : ScopeId) (n : Name) (fact : Fact) → scope ≡ held.scope → n ≡ name.Spelled word → fact ≡ made scope place n what → fact_at held.types fact ≡ again_fact (meaning held) (token kind place word) (declares_at held.types what)
unfolding meaning
again_made held kind place word what scope n fact here named made_is =
    ap (fact_at held.types) (made_is ∙ ap (λ m. made scope place m what) named)
    ∙ ap (λ (s : ScopeId). fact_at held.types (made s place (name.Spelled word) what)) here

pub again_ready_as : (held : Held) (place : Place) (word : List ℕ) (what : Entity) (scope : ScopeId) (n : Name) (fact : Fact) → scope ≡ held.scope → scope.0 < scopes held.graph.facts → IsAgain held word what → n ≡ name.Spelled word → fact ≡ made scope place n what → IsAddable held fact
again_ready_as held place word what scope n fact here there again named made_is =
    subst (λ (f : Fact). IsAddable held f) (sym (made_is ∙ (ap (λ m. made scope place m what) named ∙ ap (λ (s : ScopeId). made s place (name.Spelled word) what) here)))
    (again_addable held place word what (subst (λ (s : ScopeId). s.0 < scopes held.graph.facts) here there) again)

-- ---- what is answered

pub again_answered : (old new : Held) (kind : TokenKind) (place : Place) (word : List ℕ) (cv : Cv) (of : CxxType) (what : Entity) (r : Result FactId Stop) → Some (declares_at old.types what) ≡ again_here (meaning old) (token kind place word) cv of → IsAnswered fact_number IsFactKnown old new r (added (again_fact (meaning old) (token kind place word) (declares_at old.types what)) (meaning old)) → IsAnswered fact_number IsFactKnown old new r (declare_again (token kind place word) cv of (meaning old))
unfolding declare_again
again_answered old new kind place word cv of what r is answered =
    subst (λ (o : Option Declares). IsAnswered fact_number IsFactKnown old new r (declared_again (token kind place word) (members_here (meaning old) (token kind place word)) o (meaning old))) is answered

pub again_refused : (held : Held) (kind : TokenKind) (place : Place) (word : List ℕ) (cv : Cv) (of : CxxType) (why : Stop) → None ≡ again_here (meaning held) (token kind place word) cv of → Stops why (declared_again (token kind place word) (members_here (meaning held) (token kind place word)) None (meaning held)) → IsAnswered fact_number IsFactKnown held held (Err why) (declare_again (token kind place word) cv of (meaning held))
unfolding declare_again
again_refused held kind place word cv of why is stops = record {
  is = subst (λ (o : Option Declares). Stops why (declared_again (token kind place word) (members_here (meaning held) (token kind place word)) o (meaning held))) is stops;
  later = Later_refl held;
}
