-- What is true of what stops a reader: it is true in a state and with tokens ahead that come later.
use Rattle.std.proofs.Common.{arith, ◌≡◌, ◌≤◌, ◌⊎◌, ◌∙◌, ◌++◌, ◌∷◌, length, refl, sym, subst, inl, inr}
use Rattle.std.specs.Prelude.{ℕ, List, []}
use Rattle.cxx_model.specs.Facts.Declarations as facts
use Rattle.cxx_model.specs.Facts.Declarations.{CxxFact, Declares}
use Rattle.cxx_model.specs.Facts.Entities.{scope_kinds}
use Rattle.cxx_reading.specs.Declaring.{at_scope, scope_count}
use Rattle.cxx_model.specs.declared.stop.Fault.{Fault}
use Rattle.cxx_model.specs.Stops.{Stopped, Faulty, Limited}
use Rattle.cxx_reading.specs.Reads.{Ahead}
use Rattle.cxx_reading.specs.State.{CxxState}
use Rattle.cxx_language_laws.specs.Best.{AreBestCalls}
use Rattle.cxx_language_laws.specs.Told.{EndsIn, IsChoiceFault, IsGrown, IsInside, IsNowhere, IsScopeSince, IsTwofold, IsUnknown}
use Rattle.cxx_language_laws.proofs.Later.{IsLater, grown_later, grown_same, later_is_kept, same_calls}
use Rattle.cxx_language_laws.proofs.Scopes.{InScopes, scope_is_there, scopes_at}
use Rattle.cxx_language_laws.proofs.Tells.{Saying, choosing, undeclared, ambiguous, nothing, saying, IsQuiet, IsTold, whole_stands, ends_later}

-- a state that comes behind another keeps what is declared, and how its scopes stand
pub record IsBehind (old new : CxxState) : Type 0 where
  pub grown : IsGrown old new
  pub scopes : InScopes old → InScopes new

-- the same scope, or one that begins later
abbrev pub IsScopeFrom : CxxState → CxxState → Type 0
IsScopeFrom old new = (new.here.scope ≡ old.here.scope) ⊎ (scope_count old.graph ≤ new.here.scope)

-- A state that is reached stands in the same scope too, or in one that begins later.
pub record IsReached (old new : CxxState) : Type 0 where
  pub grown : IsGrown old new
  pub scopes : InScopes old → InScopes new
  pub scope : InScopes old → IsScopeFrom old new

pub behind_by : (old new : CxxState) → IsReached old new → IsBehind old new
behind_by old new reached = record { grown = reached.grown; scopes = reached.scopes }

pub behind_by_later : (old new : CxxState) → IsLater old new → IsBehind old new
behind_by_later old new later = record { grown = later.grown; scopes = later.scopes }

pub behind_later : (s t u : CxxState) → IsBehind s t → IsBehind t u → IsBehind s u
behind_later s t u one two = record { grown = grown_later s t u one.grown two.grown; scopes = λ is. two.scopes (one.scopes is) }

scopes_more : (xs ys : List CxxFact) → length (scope_kinds xs) ≤ length (scope_kinds (xs ++ ys))
scopes_more [] ys = omega arith
scopes_more (x ∷ xs) ys = by x.what (scopes_more xs ys)
  where
    by : (what : Declares) → length (scope_kinds xs) ≤ length (scope_kinds (xs ++ ys)) → length (scope_kinds (record x { what = what } ∷ xs)) ≤ length (scope_kinds (record x { what = what } ∷ (xs ++ ys)))
    by (facts.scope parent kind) e = omega (arith, e)
    by _ e = e

pub count_more : (old new : CxxState) → IsGrown old new → scope_count old.graph ≤ scope_count new.graph
count_more old new grown = subst (λ (fs : List CxxFact). scope_count old.graph ≤ length (scope_kinds fs)) (sym grown.declared) (scopes_more old.graph.facts grown.own)

scope_later : (s t u : CxxState) → IsGrown s t → IsScopeFrom s t → IsScopeFrom t u → IsScopeFrom s u
scope_later s t u grown (inl one) (inl two) = inl (two ∙ one)
scope_later s t u grown (inr one) (inl two) = inr (subst (λ (n : ℕ). scope_count s.graph ≤ n) (sym two) one)
scope_later s t u grown one (inr two) = let more = count_more s t grown in inr (omega (arith, more, two))

pub reached_by_later : (old new : CxxState) → IsLater old new → IsReached old new
reached_by_later old new later = record { grown = later.grown; scopes = later.scopes; scope = λ is. inl (later.here is) }

pub reached_later : (s t u : CxxState) → IsReached s t → IsReached t u → IsReached s u
reached_later s t u one two = record { grown = grown_later s t u one.grown two.grown; scopes = λ is. two.scopes (one.scopes is); scope = λ is. scope_later s t u one.grown (one.scope is) (two.scope (one.scopes is)) }

pub record Reached (state : CxxState) (ahead : Ahead) (P : CxxState → Ahead → Type 0) : Type 0 where
  pub at : CxxState
  pub rest : Ahead
  pub later : IsReached state at
  pub stands : EndsIn ahead.tokens rest.tokens
  pub is : P at rest

pub reached_here : (state : CxxState) (ahead : Ahead) (P : CxxState → Ahead → Type 0) → P state ahead → Reached state ahead P
reached_here state ahead P is = record { at = state; rest = ahead; later = reached_by_later state state (later_is_kept.same state); stands = whole_stands ahead.tokens; is = is }

reached_sooner : (s t : CxxState) (ahead rest : Ahead) (P : CxxState → Ahead → Type 0) → IsReached s t → EndsIn ahead.tokens rest.tokens → Reached t rest P → Reached s ahead P
reached_sooner s t ahead rest P first stands told = record {
  at = told.at;
  rest = told.rest;
  later = reached_later s t told.at first told.later;
  stands = ends_later ahead.tokens rest.tokens told.rest.tokens stands told.stands;
  is = told.is;
}

-- what is unknown, and that no scope outward declares it
abbrev pub Unknown : CxxState → Ahead → Fault → List ℕ → Type 0
Unknown at rest fault word = (is : IsUnknown at rest fault word) × IsNowhere is

pub record IsUndeclared (fault : Fault) (word : List ℕ) (at : CxxState) (rest : Ahead) : Type 0 where
  pub is : InScopes at → Unknown at rest fault word
  pub bare : fault.evidence ≡ []

abbrev pub IsManifold : Fault → List ℕ → CxxState → Ahead → Type 0
IsManifold fault word at rest = InScopes at → IsTwofold at rest fault word

abbrev pub IsChosen : Fault → CxxState → Ahead → Type 0
IsChosen fault at rest = IsChoiceFault at rest fault

abbrev pub ToldSo : CxxState → Ahead → Fault → Saying → Type 0
ToldSo state ahead fault choosing = Reached state ahead (IsChosen fault)
ToldSo state ahead fault (undeclared word) = Reached state ahead (IsUndeclared fault word)
ToldSo state ahead fault (ambiguous word) = Reached state ahead (IsManifold fault word)
ToldSo state ahead fault nothing = Unit {0}

abbrev pub Told : CxxState → Ahead → Stopped → Type 0
Told state ahead (Faulty fault) = ToldSo state ahead fault (saying fault.text)
Told state ahead (Limited kind) = Unit {0}

pub quiet_told : (state : CxxState) (ahead : Ahead) (why : Stopped) → IsQuiet why → Told state ahead why
quiet_told state ahead (Faulty fault) quiet = subst (ToldSo state ahead fault) (sym quiet) tt
quiet_told state ahead (Limited kind) quiet = tt

so_sooner : (s t : CxxState) (ahead rest : Ahead) (fault : Fault) (what : Saying) → IsReached s t → EndsIn ahead.tokens rest.tokens → ToldSo t rest fault what → ToldSo s ahead fault what
so_sooner s t ahead rest fault choosing first stands told = reached_sooner s t ahead rest (IsChosen fault) first stands told
so_sooner s t ahead rest fault (undeclared word) first stands told = reached_sooner s t ahead rest (IsUndeclared fault word) first stands told
so_sooner s t ahead rest fault (ambiguous word) first stands told = reached_sooner s t ahead rest (IsManifold fault word) first stands told
so_sooner s t ahead rest fault nothing first stands told = tt

pub told_sooner : (s t : CxxState) (ahead rest : Ahead) (why : Stopped) → IsReached s t → EndsIn ahead.tokens rest.tokens → Told t rest why → Told s ahead why
told_sooner s t ahead rest (Faulty fault) first stands told = so_sooner s t ahead rest fault (saying fault.text) first stands told
told_sooner s t ahead rest (Limited kind) first stands told = tt

pub later_is_told : IsTold IsLater Told
later_is_told = record { keeps = later_is_kept; quiet = quiet_told; sooner = λ s t ahead rest why first stands told. told_sooner s t ahead rest why (reached_by_later s t first) stands told }

-- the same, as far as that state is a later one
abbrev pub ToldSince : CxxState → Ahead → CxxState → Ahead → Stopped → Type 0
ToldSince state ahead t rest why = IsLater state t → Told state ahead why

pub later_is_told_since : (state : CxxState) (ahead : Ahead) → IsTold IsLater (ToldSince state ahead)
later_is_told_since state ahead = record {
  keeps = later_is_kept;
  quiet = λ t rest why quiet later. quiet_told state ahead why quiet;
  sooner = λ s t one two why first stands told later. told (later_is_kept.later state s t later first);
}

-- ---- members that are declared outside of their namespace (8.3)

-- A state keeps what a later one keeps, but the reader may stand elsewhere.
pub record IsElsewhere (old new : CxxState) : Type 0 where
  pub grown : IsGrown old new
  pub scopes : InScopes old → InScopes new
  pub best : AreBestCalls old → AreBestCalls new

pub elsewhere_by_later : (old new : CxxState) → IsLater old new → IsElsewhere old new
elsewhere_by_later old new later = record { grown = later.grown; scopes = later.scopes; best = later.best }

pub elsewhere_later : (s t u : CxxState) → IsElsewhere s t → IsLater t u → IsElsewhere s u
elsewhere_later s t u one two = record { grown = grown_later s t u one.grown two.grown; scopes = λ is. two.scopes (one.scopes is); best = λ is. two.best (one.best is) }

-- it comes to stand again where it did
pub returns_later : (state t : CxxState) → IsElsewhere state t → IsLater state (at_scope state.here.scope t)
returns_later state t is = record {
  grown = grown_later state t (at_scope state.here.scope t) is.grown (grown_same t (at_scope state.here.scope t) refl);
  scopes = λ scopes. let there = scope_is_there state scopes in let more = count_more state t is.grown in scopes_at state.here.scope t (omega (arith, there, more)) (is.scopes scopes);
  best = λ all. same_calls t (at_scope state.here.scope t) (grown_same t (at_scope state.here.scope t) refl) refl (is.best all);
  here = λ scopes. refl;
}

-- It stands where it did, or in the namespace or the class that the qualifiers of a name ahead mean.
abbrev pub IsPlace : CxxState → Ahead → CxxState → Type 0
IsPlace old ahead new = (new.here.scope ≡ old.here.scope) ⊎ IsInside old ahead new

pub record IsPlaced (old : CxxState) (ahead : Ahead) (new : CxxState) : Type 0 where
  pub elsewhere : IsElsewhere old new
  pub place : InScopes old → IsPlace old ahead new

pub placed_here : (state : CxxState) (ahead : Ahead) → IsPlaced state ahead state
placed_here state ahead = record { elsewhere = elsewhere_by_later state state (later_is_kept.same state); place = λ is. inl refl }

place_later : (s t u : CxxState) (ahead : Ahead) → u.here.scope ≡ t.here.scope → IsPlace s ahead t → IsPlace s ahead u
place_later s t u ahead e (inl same) = inl (e ∙ same)
place_later s t u ahead e (inr is) = inr (record { named = is.named; stands = is.stands; begins = is.begins; where_ = is.where_; qualifies = is.qualifies; means = is.means; inside = e ∙ is.inside })

pub placed_later : (s t u : CxxState) (ahead : Ahead) → IsPlaced s ahead t → IsLater t u → IsPlaced s ahead u
placed_later s t u ahead one two = record { elsewhere = elsewhere_later s t u one.elsewhere two; place = λ is. place_later s t u ahead (two.here (one.elsewhere.scopes is)) (one.place is) }

place_sooner : (s t : CxxState) (ahead middle : Ahead) → EndsIn ahead.tokens middle.tokens → IsPlace s middle t → IsPlace s ahead t
place_sooner s t ahead middle stands (inl same) = inl same
place_sooner s t ahead middle stands (inr is) = inr (record { named = is.named; stands = ends_later ahead.tokens middle.tokens is.named.tokens stands is.stands; begins = is.begins; where_ = is.where_; qualifies = is.qualifies; means = is.means; inside = is.inside })

pub placed_sooner : (s t : CxxState) (ahead middle : Ahead) → EndsIn ahead.tokens middle.tokens → IsPlaced s middle t → IsPlaced s ahead t
placed_sooner s t ahead middle stands one = record { elsewhere = one.elsewhere; place = λ is. place_sooner s t ahead middle stands (one.place is) }

-- a state that is reached from there
pub record Arrived (state : CxxState) (ahead : Ahead) (P : CxxState → Ahead → Type 0) : Type 0 where
  pub at : CxxState
  pub rest : Ahead
  pub grown : IsGrown state at
  pub scopes : InScopes state → InScopes at
  pub scope : InScopes state → IsScopeSince state ahead at
  pub stands : EndsIn ahead.tokens rest.tokens
  pub is : P at rest

since : (s t u : CxxState) (ahead : Ahead) → IsGrown s t → IsPlace s ahead t → IsScopeFrom t u → IsScopeSince s ahead u
since s t u ahead grown (inl same) (inl here) = inl (here ∙ same)
since s t u ahead grown (inr is) (inl here) = inr (inr (record { named = is.named; stands = is.stands; begins = is.begins; where_ = is.where_; qualifies = is.qualifies; means = is.means; inside = here ∙ is.inside }))
since s t u ahead grown place (inr later) = let more = count_more s t grown in inr (inl (omega (arith, more, later)))

arrived_from : (s t : CxxState) (ahead rest : Ahead) (P : CxxState → Ahead → Type 0) → IsPlaced s ahead t → EndsIn ahead.tokens rest.tokens → Reached t rest P → Arrived s ahead P
arrived_from s t ahead rest P placed stands told = record {
  at = told.at;
  rest = told.rest;
  grown = grown_later s t told.at placed.elsewhere.grown told.later.grown;
  scopes = λ is. told.later.scopes (placed.elsewhere.scopes is);
  scope = λ is. since s t told.at ahead placed.elsewhere.grown (placed.place is) (told.later.scope (placed.elsewhere.scopes is));
  stands = ends_later ahead.tokens rest.tokens told.rest.tokens stands told.stands;
  is = told.is;
}

abbrev pub ArrivedSo : CxxState → Ahead → Fault → Saying → Type 0
ArrivedSo state ahead fault choosing = Arrived state ahead (IsChosen fault)
ArrivedSo state ahead fault (undeclared word) = Arrived state ahead (IsUndeclared fault word)
ArrivedSo state ahead fault (ambiguous word) = Arrived state ahead (IsManifold fault word)
ArrivedSo state ahead fault nothing = Unit {0}

abbrev pub ArrivedAt : CxxState → Ahead → Stopped → Type 0
ArrivedAt state ahead (Faulty fault) = ArrivedSo state ahead fault (saying fault.text)
ArrivedAt state ahead (Limited kind) = Unit {0}

so_arrived : (s t : CxxState) (ahead rest : Ahead) (fault : Fault) (what : Saying) → IsPlaced s ahead t → EndsIn ahead.tokens rest.tokens → ToldSo t rest fault what → ArrivedSo s ahead fault what
so_arrived s t ahead rest fault choosing placed stands told = arrived_from s t ahead rest (IsChosen fault) placed stands told
so_arrived s t ahead rest fault (undeclared word) placed stands told = arrived_from s t ahead rest (IsUndeclared fault word) placed stands told
so_arrived s t ahead rest fault (ambiguous word) placed stands told = arrived_from s t ahead rest (IsManifold fault word) placed stands told
so_arrived s t ahead rest fault nothing placed stands told = tt

pub arrived : (s t : CxxState) (ahead rest : Ahead) (why : Stopped) → IsPlaced s ahead t → EndsIn ahead.tokens rest.tokens → Told t rest why → ArrivedAt s ahead why
arrived s t ahead rest (Faulty fault) placed stands told = so_arrived s t ahead rest fault (saying fault.text) placed stands told
arrived s t ahead rest (Limited kind) placed stands told = tt

pub arrived_here : (state : CxxState) (ahead : Ahead) (why : Stopped) → Told state ahead why → ArrivedAt state ahead why
arrived_here state ahead why told = arrived state state ahead ahead why (placed_here state ahead) (whole_stands ahead.tokens) told

since_sooner : (s at : CxxState) (ahead middle : Ahead) → EndsIn ahead.tokens middle.tokens → IsScopeSince s middle at → IsScopeSince s ahead at
since_sooner s at ahead middle stands (inl same) = inl same
since_sooner s at ahead middle stands (inr (inl later)) = inr (inl later)
since_sooner s at ahead middle stands (inr (inr is)) = inr (inr (record { named = is.named; stands = ends_later ahead.tokens middle.tokens is.named.tokens stands is.stands; begins = is.begins; where_ = is.where_; qualifies = is.qualifies; means = is.means; inside = is.inside }))

-- where more tokens are ahead
behind_arrived : (s : CxxState) (ahead middle : Ahead) (P : CxxState → Ahead → Type 0) → EndsIn ahead.tokens middle.tokens → Arrived s middle P → Arrived s ahead P
behind_arrived s ahead middle P stands told = record {
  at = told.at;
  rest = told.rest;
  grown = told.grown;
  scopes = told.scopes;
  scope = λ is. since_sooner s told.at ahead middle stands (told.scope is);
  stands = ends_later ahead.tokens middle.tokens told.rest.tokens stands told.stands;
  is = told.is;
}

so_arrived_sooner : (s : CxxState) (ahead middle : Ahead) (fault : Fault) (what : Saying) → EndsIn ahead.tokens middle.tokens → ArrivedSo s middle fault what → ArrivedSo s ahead fault what
so_arrived_sooner s ahead middle fault choosing stands told = behind_arrived s ahead middle (IsChosen fault) stands told
so_arrived_sooner s ahead middle fault (undeclared word) stands told = behind_arrived s ahead middle (IsUndeclared fault word) stands told
so_arrived_sooner s ahead middle fault (ambiguous word) stands told = behind_arrived s ahead middle (IsManifold fault word) stands told
so_arrived_sooner s ahead middle fault nothing stands told = tt

pub arrived_sooner : (s : CxxState) (ahead middle : Ahead) (why : Stopped) → EndsIn ahead.tokens middle.tokens → ArrivedAt s middle why → ArrivedAt s ahead why
arrived_sooner s ahead middle (Faulty fault) stands told = so_arrived_sooner s ahead middle fault (saying fault.text) stands told
arrived_sooner s ahead middle (Limited kind) stands told = tt
