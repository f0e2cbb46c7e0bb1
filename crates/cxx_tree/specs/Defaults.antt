-- What is kept of default arguments (8.3.6).
use Rattle.std.specs.Prelude.{ℕ, Bool, ◌&&◌, nat_eq, if◌then◌else◌, List, [], ◌∷◌, ◌++◌, Option, Some, None}
use Rattle.std.specs.List.{slice_get}
use Rattle.cxx_model.specs.Facts.Declarations as facts
use Rattle.cxx_model.specs.Facts.Declarations.{CxxFact, Declares}
use Rattle.cxx_model.specs.Facts.Entities.{first_or}
use Rattle.cxx_reading.specs.Declaring.{declares_by}
use Rattle.cxx_reading.specs.Givers.{scope_in}
use Rattle.cxx_reading.specs.State.{CxxGiven, CxxState}
use Rattle.cxx_reading.specs.Trees.{CxxTree}

-- one was read, of the parameter with an index in the list in whose scope the reader stands
abbrev pub with_offer : ℕ → CxxTree → CxxState → CxxState
with_offer index tree state = record state { offered = state.offered ++ record { scope = state.here.scope; index = index; tree = tree } ∷ [] }

-- those that were read are looked at no more
abbrev pub without_offers : CxxState → CxxState
without_offers state = record state { offered = [] }

-- a declaration gives one
abbrev pub with_given : ℕ → ℕ → CxxTree → CxxState → CxxState
with_given declaration index tree state = record state { given = state.given ++ record { declaration = declaration; index = index; tree = tree } ∷ [] }

-- one begins to be read, or ends
abbrev pub within_default : Bool → CxxState → CxxState
within_default inside state = record state { in_default = inside }

-- ---- those that declarations gave

-- the first declaration of the function that a declaration declares
abbrev pub first_declared : ℕ → Declares → ℕ
first_declared number (facts.function of member flags defaults first) = first_or number first
first_declared number _ = number

-- whether one is that of the parameter with an index of the function with a first declaration, given in a scope: those of
-- declarations in different scopes are told apart
abbrev pub is_given : List CxxFact → ℕ → ℕ → ℕ → CxxGiven → Bool
is_given all scope function index given = nat_eq given.index index && (nat_eq (scope_in (slice_get all given.declaration)) scope && nat_eq (first_declared given.declaration (declares_by (slice_get all given.declaration))) function)

-- the first that is that of a parameter of a function, of those that are given in a scope
abbrev pub first_given : List CxxFact → ℕ → ℕ → ℕ → List CxxGiven → Option CxxGiven
first_given all scope function index [] = None
first_given all scope function index (given ∷ others) = if is_given all scope function index given then Some given else first_given all scope function index others
