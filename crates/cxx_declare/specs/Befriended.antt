-- Friends, in the terms of the definitions (11.4).
use Rattle.std.specs.Prelude.{ℕ, Bool, true, false, List, Option, None, Some}
use Rattle.cxx_model.specs.declared.types.FactId.{FactId}
use Rattle.cxx_model.specs.Facts.Declarations.{CxxFact}
use Rattle.cxx_model.specs.Stops.{Answer, ◌>>=◌}
use Rattle.cxx_reading.specs.Classes.{reserved}
use Rattle.cxx_reading.specs.Declaring.{added, free}
use Rattle.cxx_reading.specs.State.{CxxState}
use Rattle.cxx_declare.specs.Friends.{brings, declares_class}

abbrev pub number_of_fact : FactId → ℕ
number_of_fact number = number.0

-- one more class is reserved, and its first declaration is added; what conflicts comes before the limit
abbrev pub next_numbered : CxxFact → List ℕ → CxxState → Answer (ℕ × CxxState)
next_numbered fact word state = free state fact word >>= λ is_free. reserved state >>= λ answer. added fact answer.1

-- whether a declaration is there
abbrev pub is_declared : Option CxxFact → Bool
is_declared None = false
is_declared (Some fact) = true

-- whether a declaration, where there is one, declares a class
abbrev pub class_declared : Option CxxFact → Bool
class_declared None = false
class_declared (Some fact) = declares_class fact.what

-- whether it is a using-declaration of the one with a number
abbrev pub brought_by : ℕ → Option CxxFact → Bool
brought_by number None = false
brought_by number (Some fact) = brings number fact.what
