-- Default arguments that a declaration gives, over what a state holds.
use Rattle.std.specs.Prelude.{ℕ, Bool, false, nat_eq, if◌then◌else◌, List, [], ◌∷◌, Option, Some, None, Ok}
use Rattle.cxx_model.specs.declared.types.FactId.{FactId}
use Rattle.cxx_model.specs.declared.types.ScopeId.{ScopeId}
use Rattle.cxx_model.specs.Facts.Declarations.{CxxFact}
use Rattle.cxx_model.specs.Stops.{Answer, ◌>>=◌}
use Rattle.cxx_reading.specs.Declaring.{added}
use Rattle.cxx_reading.specs.State.{CxxOffered, CxxState}
use Rattle.cxx_declare.specs.Functions.{free_if, given_as, linked_if, not_given}
use Rattle.cxx_tree.specs.declared.kept.Offer.{Offer}

-- those that were read in the list with a scope
abbrev pub read_in : ℕ → List Offer → List Offer
read_in scope [] = []
read_in scope (one ∷ others) = if nat_eq one.scope.0 scope then one ∷ read_in scope others else read_in scope others

-- those of the list of a declarator, where it has one
abbrev pub read_by : Option ScopeId → List Offer → List Offer
read_by None all = []
read_by (Some scope) all = read_in scope.0 all

-- 3.3, 3.5, 8.3.6: the conflict, then what is given twice
abbrev pub giving_checked : Bool → CxxState → CxxFact → List ℕ → Option FactId → List CxxOffered → Answer (Unit {0})
giving_checked linked state fact word first offers = free_if linked state fact word >>= λ is_free. not_given state fact.place word first offers

-- a fact is added and gives default arguments
abbrev pub added_giving : CxxFact → List CxxOffered → CxxState → Answer (ℕ × CxxState)
added_giving fact offers state = added fact state >>= λ answer. Ok (given_as offers answer)

-- 3.5: what was declared is linked in a block
abbrev pub linking_if : Bool → Answer (ℕ × CxxState) → Answer (ℕ × CxxState)
linking_if linked reply = reply >>= λ answer. Ok (linked_if linked answer)

abbrev pub added_linking : Bool → CxxFact → List CxxOffered → CxxState → Answer (ℕ × CxxState)
added_linking linked fact offers state = linking_if linked (added_giving fact offers state)

abbrev pub declared_giving : Bool → CxxFact → List ℕ → Option FactId → List CxxOffered → CxxState → Answer (ℕ × CxxState)
declared_giving linked fact word first offers state = giving_checked linked state fact word first offers >>= λ is_fresh. added_linking linked fact offers state

-- the same where neither is given nor linked
abbrev pub declared_unread : CxxFact → List ℕ → Option FactId → List CxxOffered → CxxState → Answer (ℕ × CxxState)
declared_unread fact word first offers state = giving_checked false state fact word first offers >>= λ is_fresh. added fact state
