-- How the candidates are found, one declaration after another.
use Rattle.std.specs.Prelude.{◌≡◌, ◌≤◌, ◌<◌, ℕ, zero, suc, ◌+◌, if◌then◌else◌, nat_eq, List, [], ◌∷◌, ◌++◌, length, map, Option, Some, None, Result, Ok, Err}
use Rattle.std.specs.List.{slice_get}
use Rattle.cxx_model.specs.declared.limits.TheConstants as limits
use Rattle.cxx_model.specs.declared.stop.LimitKind.TheVariants as kind
use Rattle.cxx_model.specs.declared.stop.Stop.{Stop}
use Rattle.cxx_model.specs.declared.stop.Stop.TheVariants as stop
use Rattle.cxx_model.specs.Facts.Declarations as facts
use Rattle.cxx_model.specs.Facts.Declarations.{CxxFact, CxxGraph, Declares}
use Rattle.cxx_model.specs.declared.place.Place.{Place}
use Rattle.cxx_reading.specs.Seen.{Numbered}
use Rattle.cxx_overload.specs.Candidates.{CxxCandidate, candidate_by, candidates_from, defaults_behind}

-- each has a greater position than the one before it, and the first at least this one
abbrev pub AreNumbered : {F : Type 0} → (F → ℕ) → ℕ → List F → Type 0
AreNumbered number least [] = Unit {0}
AreNumbered number least (one ∷ others) = (least ≤ number one) × AreNumbered number (number one + 1) others

abbrev pub place_among : CxxCandidate → ℕ
place_among one = one.position

-- ---- one more declaration

abbrev pub with_candidate : List CxxCandidate → Option CxxCandidate → List CxxCandidate
with_candidate found None = found
with_candidate found (Some one) = found ++ one ∷ []

-- a function with this first declaration has so many default arguments
abbrev pub with_defaults : ℕ → ℕ → CxxCandidate → CxxCandidate
with_defaults first defaults one = if nat_eq first one.number then record one { defaults = defaults } else one

abbrev pub seen_by : List CxxCandidate → ℕ → Place → Declares → List CxxCandidate
seen_by found number place (facts.function of kind flags defaults None) = with_candidate found (candidate_by (length found + 1) number place kind defaults of)
seen_by found number place (facts.function of kind flags defaults (Some first)) = map (with_defaults first.0 defaults) found
seen_by found number place _ = found

-- the candidates among some declarations and one more
abbrev pub seen : List CxxCandidate → Numbered → List CxxCandidate
seen found one = seen_by found one.number one.fact.place one.fact.what

abbrev pub seen_fact : List CxxCandidate → ℕ → Option CxxFact → List CxxCandidate
seen_fact found number None = found
seen_fact found number (Some fact) = seen found (record { number = number; fact = fact })

-- the same for the declaration with a number, where there is one
abbrev pub seen_number : CxxGraph → List CxxCandidate → ℕ → List CxxCandidate
seen_number graph found number = seen_fact found number (slice_get graph.facts number)

-- The candidates are found, or they are too many.
abbrev pub Sees : List CxxCandidate → List CxxCandidate → Result (Unit {0}) Stop → Type 0
Sees wanted found (Ok _) = found ≡ wanted
Sees wanted found (Err stop.OutOfMemory) = Unit {0}
Sees wanted found (Err (stop.Limit kind.Candidates)) = limits.MOST_CANDIDATES < length wanted
Sees wanted found (Err _) = ⊥

-- a candidate, where some more declarations are seen
abbrev pub with_later : List Numbered → CxxCandidate → CxxCandidate
with_later others one = record one { defaults = defaults_behind one.number one.defaults others }

-- candidates that were found, and those among further declarations
abbrev pub so_far : List CxxCandidate → List Numbered → List CxxCandidate
so_far found others = map (with_later others) found ++ candidates_from others (length found + 1)

-- a list whose first members were changed, so many of them
abbrev pub changed : {A : Type 0} → (A → A) → ℕ → List A → List A
changed f zero xs = xs
changed f (suc n) [] = []
changed f (suc n) (x ∷ xs) = f x ∷ changed f n xs
