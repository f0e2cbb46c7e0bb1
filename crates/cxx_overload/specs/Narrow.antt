-- What the choice among functions that have neither an ellipsis nor default arguments is, in the terms of the definitions
-- for such functions alone.
use Rattle.std.specs.Prelude.{◌≡◌, ℕ, false, List, [], ◌∷◌, map}
use Rattle.cxx_model.specs.declared.facts.MemberKind.{MemberKind}
use Rattle.cxx_model.specs.declared.types.Cv.{Cv}
use Rattle.cxx_reading.specs.Choosing as narrow
use Rattle.cxx_overload.specs.Candidates.{CxxCandidate}
use Rattle.cxx_overload.specs.Choices.{CxxChoice, chosen_one, none_viable, ambiguous}
use Rattle.cxx_overload.specs.Sequences.{found_sequence}
use Rattle.cxx_overload.specs.Viability.{Rated}
use Rattle.cxx_overload.specs.Views.{kept_where}

-- a candidate without what those definitions leave out: the count of its default arguments, how it stands to a class,
-- and the words behind its parameter list
abbrev pub narrowed : CxxCandidate → narrow.CxxCandidate
narrowed one = record { position = one.position; number = one.number; place = one.place; result = one.result; parameters = one.parameters; ellipsis = one.ellipsis }

-- how a function stands to a class, and the words behind its parameter list
pub record Membership : Type 0 where
  pub member : MemberKind
  pub cv : Cv

-- The same candidate, with no default arguments. What else is left out is known by its position.
abbrev pub widened : (ℕ → Membership) → narrow.CxxCandidate → CxxCandidate
widened members one = record { position = one.position; number = one.number; place = one.place; member = (members one.position).member; cv = (members one.position).cv; result = one.result; parameters = one.parameters; ellipsis = one.ellipsis; defaults = 0 }

-- neither an ellipsis nor a default argument; what else is left out is known by its position
pub record IsPlain (members : ℕ → Membership) (one : CxxCandidate) : Type 0 where
  pub closed : one.ellipsis ≡ false
  pub no_defaults : one.defaults ≡ 0
  pub member : one.member ≡ (members one.position).member
  pub cv : one.cv ≡ (members one.position).cv

abbrev pub ArePlain : (ℕ → Membership) → List CxxCandidate → Type 0
ArePlain members [] = Unit {0}
ArePlain members (one ∷ others) = IsPlain members one × ArePlain members others

abbrev pub widened_rating : (ℕ → Membership) → narrow.Rated → Rated
widened_rating members one = record { candidate = widened members one.candidate; outcome = one.outcome; sequences = kept_where one.outcome (map found_sequence one.sequences) }

-- a viable one
abbrev pub widened_viable : (ℕ → Membership) → narrow.Rated → Rated
widened_viable members one = record { candidate = widened members one.candidate; outcome = one.outcome; sequences = map found_sequence one.sequences }

abbrev pub widened_choice : (ℕ → Membership) → narrow.CxxChoice → CxxChoice
widened_choice members (narrow.chosen_one one) = chosen_one (widened_viable members one)
widened_choice members (narrow.none_viable evidence) = none_viable evidence
widened_choice members (narrow.ambiguous evidence) = ambiguous evidence
