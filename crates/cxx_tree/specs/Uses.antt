-- What a name means is kept (3.4).
use Rattle.std.specs.Prelude.{ℕ, [], ◌∷◌, ◌++◌}
use Rattle.cxx_model.specs.declared.place.Place.{Place}
use Rattle.cxx_reading.specs.State.{CxxState}

-- a name, by its place, means the entity with this first declaration, where the reader stands
abbrev pub with_use : Place → ℕ → CxxState → CxxState
with_use place target state = record state { uses = state.uses ++ record { scope = state.here.scope; place = place; target = target } ∷ [] }
