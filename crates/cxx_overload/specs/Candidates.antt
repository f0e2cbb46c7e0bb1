-- The functions that a call may mean (13.3.1).
use Rattle.std.specs.Prelude.{ℕ, suc, Bool, if◌then◌else◌, nat_eq, nat_lt, List, [], ◌∷◌, length, Option, Some, None, Ok, Err}
use Rattle.cxx_model.specs.declared.facts.MemberKind.{MemberKind}
use Rattle.cxx_model.specs.declared.limits.TheConstants as limits
use Rattle.cxx_model.specs.declared.place.Place.{Place}
use Rattle.cxx_model.specs.declared.stop.LimitKind.TheVariants as kind
use Rattle.cxx_model.specs.declared.types.Cv.{Cv}
use Rattle.cxx_model.specs.Facts.Declarations as facts
use Rattle.cxx_model.specs.Facts.Declarations.{Declares}
use Rattle.cxx_model.specs.Stops.{Answer, Limited}
use Rattle.cxx_model.specs.Types.Trees.{CxxType, CxxTypes, function_of, no_types, type_then}
use Rattle.cxx_reading.specs.Seen.{Numbered}

-- a function that a call may mean, with its number among the candidates, from 1
pub record CxxCandidate : Type 0 where
  pub position : ℕ
  -- its first declaration
  pub number : ℕ
  pub place : Place
  -- how it stands to a class, and the words behind its parameter list (9.3)
  pub member : MemberKind
  pub cv : Cv
  pub result : CxxType
  pub parameters : List CxxType
  -- 8.3.5: further arguments may follow
  pub ellipsis : Bool
  -- 8.3.6: how many parameters at the end have default arguments
  pub defaults : ℕ

abbrev pub each_type : CxxTypes → List CxxType
each_type no_types = []
each_type (type_then of others) = of ∷ each_type others

-- ---- default arguments (8.3.6)

-- The count of default arguments of a function, by the number of its first declaration, where one more declaration is
-- seen: one that declares it again has them all.
abbrev pub defaults_after : ℕ → ℕ → Declares → ℕ
defaults_after number count (facts.function of kind flags defaults (Some first)) = if nat_eq first.0 number then defaults else count
defaults_after number count _ = count

-- the same where some more are seen
abbrev pub defaults_behind : ℕ → ℕ → List Numbered → ℕ
defaults_behind number count [] = count
defaults_behind number count (one ∷ others) = defaults_behind number (defaults_after number count one.fact.what) others

-- ---- candidates

abbrev pub candidate_by : ℕ → ℕ → Place → MemberKind → ℕ → CxxType → Option CxxCandidate
candidate_by position number place member defaults (function_of result parameters ellipsis cv) = Some (record { position = position; number = number; place = place; member = member; cv = cv; result = result; parameters = each_type parameters; ellipsis = ellipsis; defaults = defaults })
candidate_by position number place member defaults _ = None

-- a function, by its first declaration, and the declarations behind it
abbrev pub candidate_by_what : ℕ → ℕ → Place → Declares → List Numbered → Option CxxCandidate
candidate_by_what position number place (facts.function of kind flags defaults None) others = candidate_by position number place kind (defaults_behind number defaults others) of
candidate_by_what position number place _ others = None

abbrev pub candidate_of : ℕ → Numbered → List Numbered → Option CxxCandidate
candidate_of position one others = candidate_by_what position one.number one.fact.place one.fact.what others

abbrev pub put : Option CxxCandidate → (ℕ → List CxxCandidate) → ℕ → List CxxCandidate
put None later position = later position
put (Some candidate) later position = candidate ∷ later (suc position)

abbrev pub candidates_from : List Numbered → ℕ → List CxxCandidate
candidates_from [] position = []
candidates_from (one ∷ others) position = put (candidate_of position one others) (candidates_from others) position

-- 13.3.1.1.1: Every function among the declarations of a name, once, in the order of their first declarations. The name
-- of a type that a function hides (3.3.7) is none.
unfoldable pub candidates : List Numbered → List CxxCandidate
candidates all = candidates_from all 1

-- ---- their limit

abbrev pub within_limit : List CxxCandidate → Answer (List CxxCandidate)
within_limit all = if nat_lt limits.MOST_CANDIDATES (length all) then Err (Limited kind.Candidates) else Ok all

-- the same, where a call may have so many
unfoldable pub candidates_within : List Numbered → Answer (List CxxCandidate)
candidates_within all = within_limit (candidates all)
