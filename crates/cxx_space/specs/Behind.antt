-- What is left to be done behind a declarator, and behind a class.
use Rattle.std.specs.Prelude.{ℕ, List, []}
use Rattle.cxx_declare.specs.Outside.{stand_in}
use Rattle.cxx_language.specs.Later.{Declares, back_to, each_read}
use Rattle.cxx_later.specs.Waiting.{Waiting}
use Rattle.cxx_reading.specs.Reads.{Reads, Ahead, ◌>>=◌, ask, give}
use Rattle.cxx_reading.specs.State.{CxxState}
use Rattle.cxx_reading.specs.Trees.{CxxTree}

-- the reader stands where it stood before
abbrev pub stood_again : ℕ → Declares → Reads CxxState Declares
stood_again outside one = ask (stand_in outside) >>= λ left. give one

-- behind the default arguments of a class, its bodies, from where it began on; the reader stands where it ended then
abbrev pub bodies_from : Ahead → Ahead → List Waiting → Reads CxxState (List CxxTree)
bodies_from from to waiting = back_to from >>= λ again. each_read waiting [] >>= λ bodies. back_to to >>= λ there. give bodies
