-- The declarations of a name in a class are those of the rows of its scopes.
use Rattle.std.proofs.Common.{◌≡◌, ℕ, zero, suc, ◌+◌, ◌<◌, ◌≤◌, Bool, true, false, not, ◌&&◌, ◌||◌, cond, ltb, eqb, List, [], ◌∷◌, ◌++◌, length, get_or, map, Option, Some, None, refl, ap, sym, ◌∙◌, append_assoc, append-nil, add-one, arith, nat_eq}
use Rattle.std.specs.List.{list_any, slice_get}
use Rattle.std.proofs.lemmas.List.Folds.{list_any-append}
use Rattle.cxx_model.specs.declared.types.ClassId.{ClassId}
use Rattle.cxx_model.specs.declared.types.FactId.{FactId}
use Rattle.cxx_model.specs.declared.types.ScopeId.{ScopeId}
use Rattle.cxx_model.specs.Facts.Declarations.{CxxFact, CxxGraph, CxxName, facts_at, graph_at}
use Rattle.cxx_model.specs.Facts.Graph.{Graph}
use Rattle.cxx_model.specs.Types.Trees.{CxxType}
use Rattle.cxx_meaning.specs.Lookups.Gathered.{before, gathered, with_fact, with_facts}
use Rattle.cxx_meaning.specs.Lookups.Member.{class_of_scope, declares_member, is_nothing, is_of_class, member_in, members_in}
use Rattle.cxx_meaning.specs.Lookups.Sightings.{Sighting as SightingMeant, is_named, sighting_of, wanted_one}
use Rattle.cxx_meaning.specs.Lookups.Wanted.{Wanted}
use Rattle.cxx_members.specs.declared.sightings.Sighting.{Sighting}
use Rattle.cxx_members.specs.Sighted.{Adds, sighting_at}
use Rattle.cxx_names.specs.Holders.{held_from}
use Rattle.cxx_names.specs.Index.{numbers_in, of_class}
use Rattle.cxx_reading.specs.Seen.{Numbered, declared_from, declared_in, declares_in}
use Rattle.cxx_inherited.specs.Rows.{declared_in_any, declares_in_any, is_sighted, passing, row_of, rows_after, sighted, sighted_in}
use Rattle.cxx_inherited.proofs.Holding.{of_class_is}

-- ---- growing

before_first : {A : Type 0} (o : Option A) (xs : List A) → before o xs ≡ before o [] ++ xs
before_first None xs = refl
before_first (Some x) xs = refl

pub row_more : (types : List CxxType) (graph : CxxGraph) (wanted : Wanted) (old new : List Sighting) (number : FactId) (others : List FactId) → Adds types old new (sighted_in graph wanted (number ∷ [])) → map (sighting_at types) old ++ sighted_in graph wanted (number ∷ others) ≡ map (sighting_at types) new ++ sighted_in graph wanted others
row_more types graph wanted old new number others adds =
    ap (λ xs. map (sighting_at types) old ++ xs) (before_first (sighted graph wanted number.0 (slice_get graph.facts number.0)) (sighted_in graph wanted others)) ∙ (sym (append_assoc (map (sighting_at types) old) (sighted_in graph wanted (number ∷ [])) (sighted_in graph wanted others)) ∙ ap (λ xs. xs ++ sighted_in graph wanted others) (sym adds.seen))

-- ---- facts that pass a test

passing_same : (p q : CxxFact → Bool) (k : ℕ) (facts : List CxxFact) → ((fact : CxxFact) → p fact ≡ q fact) → passing p k facts ≡ passing q k facts
passing_same p q k [] e = refl
passing_same p q k (fact ∷ facts) e = ap (λ t. cond t (record { 0 = k } ∷ passing p (suc k) facts) (passing p (suc k) facts)) (e fact) ∙ ap (λ (xs : List FactId). cond (q fact) (record { 0 = k } ∷ xs) xs) (passing_same p q (suc k) facts e)

passing_none : (k : ℕ) (facts : List CxxFact) → passing (λ fact. false) k facts ≡ []
passing_none k [] = refl
passing_none k (fact ∷ facts) = passing_none (suc k) facts

numbers_passing : (scope : ℕ) (name : CxxName) (k : ℕ) (facts : List CxxFact) → numbers_in (declared_from scope name k facts) ≡ passing (declares_in scope name) k facts
numbers_passing scope name k [] = refl
numbers_passing scope name k (fact ∷ facts) = by (declares_in scope name fact) (numbers_passing scope name (suc k) facts)
  where
    by : (t : Bool) → numbers_in (declared_from scope name (suc k) facts) ≡ passing (declares_in scope name) (suc k) facts → numbers_in (cond t (record { number = k; fact = fact } ∷ declared_from scope name (suc k) facts) (declared_from scope name (suc k) facts)) ≡ cond t (record { 0 = k } ∷ passing (declares_in scope name) (suc k) facts) (passing (declares_in scope name) (suc k) facts)
    by true rest = ap (λ (xs : List FactId). record { 0 = k } ∷ xs) rest
    by false rest = rest

pub row_is : (graph : CxxGraph) (name : CxxName) (scope : ScopeId) (numbers : List FactId) → numbers ≡ numbers_in (declared_in graph scope.0 name) → numbers ≡ row_of graph name scope
unfolding declared_in row_of
row_is graph name scope numbers e = e ∙ numbers_passing scope.0 name zero graph.facts

-- ---- of one scope more

not_less : (m n : ℕ) → m ≤ n → ltb n m ≡ false
not_less m n le = grind arith

is_less : (m n : ℕ) → m < n → ltb m n ≡ true
is_less m n lt = grind arith

not_same : (m n : ℕ) → m < n → eqb n m ≡ false
not_same m n lt = grind arith

is_same : (n : ℕ) → eqb n n ≡ true
is_same n = grind arith

-- one before all others
comes_first : (p : CxxFact → Bool) (n k : ℕ) (facts : List CxxFact) → n < k → with_fact (record { 0 = n }) (passing p k facts) ≡ record { 0 = n } ∷ passing p k facts
comes_first p n k [] lt = refl
comes_first p n k (fact ∷ facts) lt = by (p fact) (comes_first p n (suc k) facts (omega arith))
  where
    later : List FactId
    later = passing p (suc k) facts

    by : (t : Bool) → with_fact (record { 0 = n }) later ≡ record { 0 = n } ∷ later → with_fact (record { 0 = n }) (cond t (record { 0 = k } ∷ later) later) ≡ record { 0 = n } ∷ cond t (record { 0 = k } ∷ later) later
    by true rest = rw (not_less n k (omega arith), not_same n k lt) refl
    by false rest = rest

-- what comes later leaves the first one
stays_first : (q : CxxFact → Bool) (first : FactId) (xs : List FactId) (k : ℕ) (facts : List CxxFact) → first.0 < k → with_facts (first ∷ xs) (passing q k facts) ≡ first ∷ with_facts xs (passing q k facts)
unfolding with_facts
stays_first q first xs k [] lt = refl
stays_first q first xs k (fact ∷ facts) lt = by (q fact) (λ ys. stays_first q first ys (suc k) facts (omega arith))
  where
    later : List FactId
    later = passing q (suc k) facts

    by : (t : Bool) → ((ys : List FactId) → with_facts (first ∷ ys) later ≡ first ∷ with_facts ys later) → with_facts (first ∷ xs) (cond t (record { 0 = k } ∷ later) later) ≡ first ∷ with_facts xs (cond t (record { 0 = k } ∷ later) later)
    by true rest = ap (λ t. with_facts (cond t (first ∷ with_fact (record { 0 = k }) xs) (cond (eqb first.0 k) (first ∷ xs) (record { 0 = k } ∷ first ∷ xs))) later) (is_less first.0 k lt) ∙ rest (with_fact (record { 0 = k }) xs)
    by false rest = rest xs

joined : (p q : CxxFact → Bool) (k : ℕ) (facts : List CxxFact) → with_facts (passing p k facts) (passing q k facts) ≡ passing (λ fact. p fact || q fact) k facts
unfolding with_facts
joined p q k [] = refl
joined p q k (fact ∷ facts) = by (p fact) (q fact) (joined p q (suc k) facts)
  where
    both : List FactId
    both = passing (λ one. p one || q one) (suc k) facts

    by : (t u : Bool) → with_facts (passing p (suc k) facts) (passing q (suc k) facts) ≡ both → with_facts (cond t (record { 0 = k } ∷ passing p (suc k) facts) (passing p (suc k) facts)) (cond u (record { 0 = k } ∷ passing q (suc k) facts) (passing q (suc k) facts)) ≡ cond (t || u) (record { 0 = k } ∷ both) both
    by true true rest = ap (λ t. with_facts (cond t (record { 0 = k } ∷ with_fact (record { 0 = k }) (passing p (suc k) facts)) (cond (eqb k k) (record { 0 = k } ∷ passing p (suc k) facts) (record { 0 = k } ∷ record { 0 = k } ∷ passing p (suc k) facts))) (passing q (suc k) facts)) (not_less k k (omega arith)) ∙ (ap (λ t. with_facts (cond t (record { 0 = k } ∷ passing p (suc k) facts) (record { 0 = k } ∷ record { 0 = k } ∷ passing p (suc k) facts)) (passing q (suc k) facts)) (is_same k)) ∙ (stays_first q (record { 0 = k }) (passing p (suc k) facts) (suc k) facts (omega arith) ∙ ap (λ (xs : List FactId). record { 0 = k } ∷ xs) rest)
    by true false rest = stays_first q (record { 0 = k }) (passing p (suc k) facts) (suc k) facts (omega arith) ∙ ap (λ (xs : List FactId). record { 0 = k } ∷ xs) rest
    by false true rest = ap (λ ys. with_facts ys (passing q (suc k) facts)) (comes_first p k (suc k) facts (omega arith)) ∙ (stays_first q (record { 0 = k }) (passing p (suc k) facts) (suc k) facts (omega arith) ∙ ap (λ (xs : List FactId). record { 0 = k } ∷ xs) rest)
    by false false rest = rest

either_false : (b : Bool) → (b || false) ≡ b
either_false true = refl
either_false false = refl

pub one_row : (graph : CxxGraph) (name : CxxName) (scope : ScopeId) → declared_in_any graph (scope ∷ []) name ≡ row_of graph name scope
unfolding declared_in_any row_of
one_row graph name scope = passing_same (declares_in_any (scope ∷ []) name) (declares_in scope.0 name) zero graph.facts (λ fact. either_false (declares_in scope.0 name fact))

one_more : (graph : CxxGraph) (name : CxxName) (scopes : List ScopeId) (scope : ScopeId) → with_facts (declared_in_any graph scopes name) (row_of graph name scope) ≡ declared_in_any graph (scopes ++ scope ∷ []) name
unfolding declared_in_any row_of
one_more graph name scopes scope =
    joined (declares_in_any scopes name) (declares_in scope.0 name) zero graph.facts ∙ passing_same (λ fact. declares_in_any scopes name fact || declares_in scope.0 name fact) (declares_in_any (scopes ++ scope ∷ []) name) zero graph.facts (λ fact. ap (λ t. declares_in_any scopes name fact || t) (sym (either_false (declares_in scope.0 name fact))) ∙ sym (list_any-append (λ (one : ScopeId). declares_in one.0 name fact) scopes (scope ∷ [])))

rows_behind : (graph : CxxGraph) (name : CxxName) (done scopes : List ScopeId) → rows_after graph name (declared_in_any graph done name) scopes ≡ declared_in_any graph (done ++ scopes) name
rows_behind graph name done [] = ap (λ xs. declared_in_any graph xs name) (sym (append-nil done))
rows_behind graph name done (scope ∷ scopes) =
    ap (λ xs. rows_after graph name xs scopes) (one_more graph name done scope) ∙ (rows_behind graph name (done ++ scope ∷ []) scopes ∙ ap (λ xs. declared_in_any graph xs name) (append_assoc done (scope ∷ []) scopes))

-- the declarations in all of some scopes
pub rows_are : (graph : CxxGraph) (name : CxxName) (scopes : List ScopeId) → rows_after graph name [] scopes ≡ declared_in_any graph scopes name
unfolding declared_in_any
rows_are graph name scopes = ap (λ xs. rows_after graph name xs scopes) (sym (passing_none zero graph.facts)) ∙ rows_behind graph name [] scopes

-- ---- members

any_with : (b : Bool) (f : ScopeId → Bool) (scopes : List ScopeId) → (b && list_any f scopes) ≡ list_any (λ scope. f scope && b) scopes
any_with true f [] = refl
any_with false f [] = refl
any_with true f (scope ∷ scopes) = by (f scope) (any_with true f scopes)
  where
    by : (t : Bool) → list_any f scopes ≡ list_any (λ one. f one && true) scopes → (t || list_any f scopes) ≡ ((t && true) || list_any (λ one. f one && true) scopes)
    by true rest = refl
    by false rest = rest
any_with false f (scope ∷ scopes) = by (f scope) (any_with false f scopes)
  where
    by : (t : Bool) → false ≡ list_any (λ one. f one && false) scopes → false ≡ ((t && false) || list_any (λ one. f one && false) scopes)
    by true rest = rest
    by false rest = rest

member_gathered : (graph : CxxGraph) (wanted : Wanted) (name : CxxName) (class : ClassId) (test : CxxFact → Bool) → ((fact : CxxFact) → (is_named name fact && is_of_class class (class_of_scope graph.facts (record { 0 = fact.scope }))) ≡ test fact) → (k : ℕ) (facts : List CxxFact) → ((m : ℕ) → slice_get graph.facts (k + m) ≡ slice_get facts m) → gathered (member_in graph wanted name class) k facts ≡ sighted_in graph wanted (passing test k facts)
unfolding member_in
member_gathered graph wanted name class test same k [] at = refl
member_gathered graph wanted name class test same k (fact ∷ facts) at =
    ap (λ t. before (cond t (wanted_one graph wanted (sighting_of graph.facts k fact)) None) (gathered (member_in graph wanted name class) (k + 1) facts)) (same fact) ∙ (ap (λ n. before (cond (test fact) (wanted_one graph wanted (sighting_of graph.facts k fact)) None) (gathered (member_in graph wanted name class) n facts)) (add-one k) ∙ by (test fact) (member_gathered graph wanted name class test same (suc k) facts next))
  where
    next : (m : ℕ) → slice_get graph.facts (suc k + m) ≡ slice_get facts m
    next m = let e : suc k + m ≡ k + suc m = omega arith in ap (slice_get graph.facts) e ∙ at (suc m)

    here : slice_get graph.facts k ≡ Some fact
    here = let e : k ≡ k + 0 = omega arith in ap (slice_get graph.facts) e ∙ at zero

    by : (t : Bool) → gathered (member_in graph wanted name class) (suc k) facts ≡ sighted_in graph wanted (passing test (suc k) facts) → before (cond t (wanted_one graph wanted (sighting_of graph.facts k fact)) None) (gathered (member_in graph wanted name class) (suc k) facts) ≡ sighted_in graph wanted (cond t (record { 0 = k } ∷ passing test (suc k) facts) (passing test (suc k) facts))
    by true rest = ap (before (wanted_one graph wanted (sighting_of graph.facts k fact))) rest ∙ ap (λ o. before (sighted graph wanted k o) (sighted_in graph wanted (passing test (suc k) facts))) (sym here)
    by false rest = rest

-- 10.2: the declarations of a name in a class
pub members_are : (types : List CxxType) (graph : Graph) (wanted : Wanted) (name : CxxName) (class : ClassId) → sighted_in (graph_at types graph) wanted (declared_in_any (graph_at types graph) (of_class class (held_from 0 graph.facts)) name) ≡ members_in (graph_at types graph) wanted name class
unfolding members_in declared_in_any
members_are types graph wanted name class =
    sym (member_gathered (graph_at types graph) wanted name class (declares_in_any (of_class class (held_from 0 graph.facts)) name) (λ fact. ap (λ t. is_named name fact && t) (of_class_is types graph.facts class (record { 0 = fact.scope })) ∙ any_with (is_named name fact) (λ one. nat_eq fact.scope one.0) (of_class class (held_from 0 graph.facts))) zero (facts_at types graph.facts) (λ m. (let e : zero + m ≡ m = omega arith in ap (slice_get (facts_at types graph.facts)) e)))

-- ---- whether there is one

some_sighted : (graph : CxxGraph) (wanted : Wanted) (numbers : List FactId) → list_any (is_sighted graph wanted) numbers ≡ not (is_nothing (sighted_in graph wanted numbers))
some_sighted graph wanted [] = refl
some_sighted graph wanted (number ∷ numbers) = by (sighted graph wanted number.0 (slice_get graph.facts number.0)) refl (some_sighted graph wanted numbers)
  where
    by : (o : Option SightingMeant) → sighted graph wanted number.0 (slice_get graph.facts number.0) ≡ o → list_any (is_sighted graph wanted) numbers ≡ not (is_nothing (sighted_in graph wanted numbers)) → list_any (is_sighted graph wanted) (number ∷ numbers) ≡ not (is_nothing (sighted_in graph wanted (number ∷ numbers)))
    by None e rest = rw e rest
    by (Some one) e rest = rw e refl

either_swap : (a b c d : Bool) → ((a || b) || (c || d)) ≡ ((a || c) || (b || d))
either_swap true b c d = refl
either_swap false true true d = refl
either_swap false true false d = refl
either_swap false false c d = refl

any_either : (good : FactId → Bool) (p q : CxxFact → Bool) (k : ℕ) (facts : List CxxFact) → list_any good (passing (λ fact. p fact || q fact) k facts) ≡ (list_any good (passing p k facts) || list_any good (passing q k facts))
any_either good p q k [] = refl
any_either good p q k (fact ∷ facts) = by (p fact) (q fact) (good (record { 0 = k })) (any_either good p q (suc k) facts)
  where
    ps : Bool
    ps = list_any good (passing p (suc k) facts)

    qs : Bool
    qs = list_any good (passing q (suc k) facts)

    again : (g a b : Bool) → (g || (a || b)) ≡ ((g || a) || (g || b))
    again true a b = refl
    again false a b = refl

    one_side : (g a b : Bool) → (g || (a || b)) ≡ ((g || a) || b)
    one_side true a b = refl
    one_side false a b = refl

    other_side : (g a b : Bool) → (g || (a || b)) ≡ (a || (g || b))
    other_side true true b = refl
    other_side true false b = refl
    other_side false a b = refl

    by : (t u g : Bool) → list_any good (passing (λ one. p one || q one) (suc k) facts) ≡ (ps || qs) → list_any good (cond (t || u) (record { 0 = k } ∷ passing (λ one. p one || q one) (suc k) facts) (passing (λ one. p one || q one) (suc k) facts)) ≡ (list_any good (cond t (record { 0 = k } ∷ passing p (suc k) facts) (passing p (suc k) facts)) || list_any good (cond u (record { 0 = k } ∷ passing q (suc k) facts) (passing q (suc k) facts)))
    by true true g rest = ap (λ b. good (record { 0 = k }) || b) rest ∙ again (good (record { 0 = k })) ps qs
    by true false g rest = ap (λ b. good (record { 0 = k }) || b) rest ∙ one_side (good (record { 0 = k })) ps qs
    by false true g rest = ap (λ b. good (record { 0 = k }) || b) rest ∙ other_side (good (record { 0 = k })) ps qs
    by false false g rest = rest

any_row : (graph : CxxGraph) (name : CxxName) (good : FactId → Bool) (scopes : List ScopeId) → list_any (λ scope. list_any good (row_of graph name scope)) scopes ≡ list_any good (declared_in_any graph scopes name)
unfolding declared_in_any row_of
any_row graph name good [] = sym (ap (list_any good) (passing_none zero graph.facts))
any_row graph name good (scope ∷ scopes) = ap (λ b. list_any good (passing (declares_in scope.0 name) zero graph.facts) || b) (any_row graph name good scopes) ∙ sym (any_either good (declares_in scope.0 name) (declares_in_any scopes name) zero graph.facts)

-- 10.2: whether a class itself declares a name
pub declares_is : (types : List CxxType) (graph : Graph) (wanted : Wanted) (name : CxxName) (class : ClassId) → list_any (λ scope. list_any (is_sighted (graph_at types graph) wanted) (row_of (graph_at types graph) name scope)) (of_class class (held_from 0 graph.facts)) ≡ declares_member (graph_at types graph) wanted name class
unfolding declares_member
declares_is types graph wanted name class =
    any_row (graph_at types graph) name (is_sighted (graph_at types graph) wanted) (of_class class (held_from 0 graph.facts)) ∙ (some_sighted (graph_at types graph) wanted (declared_in_any (graph_at types graph) (of_class class (held_from 0 graph.facts)) name) ∙ ap (λ xs. not (is_nothing xs)) (members_are types graph wanted name class))

-- where there is one scope
pub alone_is : (graph : CxxGraph) (name : CxxName) (scopes : List ScopeId) (d : ScopeId) → 1 ≤ length scopes → length scopes < 2 → row_of graph name (get_or scopes 0 d) ≡ declared_in_any graph scopes name
alone_is graph name [] d some few = absurd (omega arith)
alone_is graph name (scope ∷ []) d some few = sym (one_row graph name scope)
alone_is graph name (scope ∷ other ∷ scopes) d some few = absurd (omega arith)
