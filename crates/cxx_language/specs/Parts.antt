-- What an initializer makes of an object, once it is known how it initializes it; and tests of the parts of a type.
use Rattle.std.specs.Prelude.{ℕ, Bool, false, nat_eq, List, [], ◌∷◌}
use Rattle.cxx_model.specs.Text.Lexemes.{Lexeme}
use Rattle.cxx_model.specs.Types.Trees.{CxxBound, CxxType, number_bound}
use Rattle.cxx_reading.specs.Reads.{Reads, ◌>>=◌, give, ask}
use Rattle.cxx_reading.specs.State.{CxxState}
use Rattle.cxx_reading.specs.Trees.{CxxTree}
use Rattle.cxx_language.specs.Known.{note_known, type_known}
use Rattle.cxx_language.specs.Objects.{some_elements}
use Rattle.cxx_language.specs.Values.{is_constant_given}

-- 8.3.4
abbrev pub is_zero_bound : CxxBound → Bool
is_zero_bound (number_bound n) = nat_eq n 0
is_zero_bound _ = false

-- behind the initializer of the object with a declaration
abbrev pub initialized_by : Lexeme → CxxType → ℕ → CxxTree → Reads CxxState (List CxxTree)
initialized_by name of number tree = some_elements name (type_known of tree) >>= λ fits. ask (note_known name number of tree) >>= λ noted. give (tree ∷ [])

-- behind the value of a member in its class
abbrev pub constant_by : Lexeme → CxxType → ℕ → CxxTree → Reads CxxState (List CxxTree)
constant_by name of number tree = ask (is_constant_given tree) >>= λ value. ask (note_known name number of tree) >>= λ noted. give (tree ∷ [])
