-- Using-declarations in classes (7.3.3).
use Rattle.std.specs.Prelude.{ℕ, Bool, true, false, nat_lt, List, [], ◌∷◌, length, Ok, Err}
use Rattle.cxx_model.specs.declared.facts.Access.{Access}
use Rattle.cxx_model.specs.declared.lookup.Found.{Found as Sought}
use Rattle.cxx_model.specs.declared.lookup.Found.TheVariants as sought
use Rattle.cxx_model.specs.declared.types.FactId.{FactId}
use Rattle.cxx_model.specs.Facts.Declarations.{CxxFact}
use Rattle.cxx_model.specs.Stops.{◌>>=◌, undeclared_at}
use Rattle.cxx_meaning.specs.Lookups.Wanted.{any_name}
use Rattle.cxx_reading.specs.Paths.{name_in, sought_in, unambiguous}
use Rattle.cxx_reading.specs.Reads.{Asks}
use Rattle.cxx_reading.specs.Seen.{members_of}
use Rattle.cxx_reading.specs.State.{CxxState}
use Rattle.cxx_reading.specs.Trees.{CxxPath, CxxPathPart, last_part}
use Rattle.cxx_reading.specs.Usings.{using_fact}
use Rattle.cxx_paths.specs.Using.{member_region_of}
use Rattle.cxx_declare.specs.Opened.{told_declared}

-- 11.1: with the access of a member
abbrev pub member_using : Access → CxxState → CxxPathPart → FactId → CxxFact
member_using label state part target = record (using_fact state part target) { access = label }

-- one more entity has the name in the class
abbrev pub bring_one : Access → CxxPathPart → FactId → Asks CxxState (Unit {0})
bring_one label part target state = told_declared (member_using label state part target) part.word state

-- where that is declared
abbrev pub bring_if : Bool → Access → CxxPathPart → FactId → Asks CxxState (Unit {0})
bring_if true label part target state = bring_one label part target state
bring_if false label part target state = Ok (tt, state)

-- The name is declared for each of some entities, by their first declarations, in order; these are among so many that are
-- declared.
unfoldable pub bring_members : Access → ℕ → CxxPathPart → List FactId → Asks CxxState (Unit {0})
bring_members label count part [] state = Ok (tt, state)
bring_members label count part (target ∷ others) state = bring_if (nat_lt target.0 count) label part target state >>= λ answer. bring_members label count part others answer.1

abbrev pub bring_some : Access → CxxPathPart → List FactId → Asks CxxState (Unit {0})
bring_some label part [] state = Err (undeclared_at part.place part.word)
bring_some label part (target ∷ others) state = bring_members label (length state.graph.facts) part (target ∷ others) state

-- what is found of a member of a class
abbrev pub targets_of : Sought → List FactId
targets_of (sought.Member class of) = members_of of
targets_of _ = []

abbrev pub bring_found : Access → CxxPathPart → Sought → Asks CxxState (Unit {0})
bring_found label part found state = unambiguous state.graph part found >>= λ clear. bring_some label part (targets_of found) state

-- What a name means in the class before it is declared in the class where the reader stands. That this is derived from the
-- other is not asked here.
unfoldable pub bring_member : Access → CxxPath → Asks CxxState (Unit {0})
bring_member label path state = member_region_of state.graph state.here.scope path >>= λ where_. bring_found label (last_part path.parts) (sought_in state.graph any_name where_ (name_in path)) state
