-- The friends of a class, in the code: what is left of the definition of a function behind its beginning.
use Rattle.std.specs.Prelude.{ℕ, Bool, false, List, Option, Some}
use Rattle.cxx_model.specs.declared.types.Cv.{Cv}
use Rattle.cxx_model.specs.Text.Lexemes.{Lexeme}
use Rattle.cxx_model.specs.Types.Trees.{CxxType}
use Rattle.cxx_reading.specs.Declarators.{Declarator, own_parameters}
use Rattle.cxx_reading.specs.Reads.{Reads, Ahead, ◌>>=◌, ask, looked}
use Rattle.cxx_reading.specs.State.{CxxState}
use Rattle.cxx_reading.specs.Trees.{CxxTree}
use Rattle.cxx_reading.specs.Units.{Said, declarator_tree, name_in}
use Rattle.cxx_language.specs.Classes.{declared_behind, friend_by, friend_fits, type_of_friend}
use Rattle.cxx_language.specs.Later.{Declares}
use Rattle.cxx_later.specs.Defaults.{defaults_kept}

-- once what was passed over in its declarator is kept
abbrev pub friend_kept : Bool → Bool → Option ℕ → Lexeme → CxxType → ℕ → List CxxTree → List CxxTree → Ahead → Reads CxxState Declares
friend_kept is_qualified is_first list name of number defaults parts from =
    looked >>= λ to. declared_behind is_qualified is_first of list defaults (declarator_tree false name of number parts from to)

-- once it is declared
abbrev pub friend_numbered : Bool → Bool → Option ℕ → Lexeme → CxxType → List CxxTree → Ahead → ℕ → Reads CxxState Declares
friend_numbered is_qualified is_first list name of parts from number =
    defaults_kept list (Some number) >>= λ defaults. friend_kept is_qualified is_first list name of number defaults parts from

-- once it is known to be a function
abbrev pub friend_of : ℕ → Bool → Bool → Option ℕ → Lexeme → Cv → CxxType → List CxxTree → Ahead → Reads CxxState Declares
friend_of scope is_qualified is_first list name cv of parts from =
    ask (friend_by is_qualified scope list name cv of) >>= λ number. friend_numbered is_qualified is_first list name of parts from number

-- once its declarator fits
abbrev pub fitting_friend : ℕ → Said → Bool → Declarator → Ahead → Reads CxxState Declares
fitting_friend scope said is_first declarator from =
    friend_fits (type_of_friend said declarator) >>= λ function.
    friend_of scope declarator.is_qualified is_first (own_parameters declarator.layers) (name_in declarator) declarator.cv (type_of_friend said declarator) declarator.parts from
