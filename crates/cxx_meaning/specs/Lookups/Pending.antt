-- Questions to classes that may have to be complete before they are answered (14.7.1).
use Rattle.std.specs.Prelude.{if◌then◌else◌, Result, Ok, Err}
use Rattle.cxx_model.specs.declared.types.ClassId.{ClassId}
use Rattle.cxx_model.specs.Facts.Declarations.{CxxGraph}
use Rattle.cxx_model.specs.Facts.Pending.{is_pending}

-- What a question about classes answers: a value, or the class that has to be complete first.
abbrev pub Asked : Type 0 → Type 0
Asked A = Result A ClassId

-- a question to a class
abbrev pub asked : {A : Type 0} → CxxGraph → ClassId → A → Asked A
asked graph class answer = if is_pending graph class.0 then Err class else Ok answer
