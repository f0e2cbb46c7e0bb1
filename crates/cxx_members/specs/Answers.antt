-- What the answers of the code mean.
use Rattle.std.specs.Prelude.{◌≡◌, if◌then◌else◌, Result, Ok, Err, Option, Some, None}
use Rattle.cxx_model.specs.declared.lookup.MemberFound.{MemberFound}
use Rattle.cxx_model.specs.declared.lookup.MemberFound.TheVariants as found
use Rattle.cxx_model.specs.declared.stop.Wait.{Wait}
use Rattle.cxx_model.specs.declared.stop.Wait.TheVariants as wait
use Rattle.cxx_model.specs.Facts.Declarations.{CxxGraph, CxxName}
use Rattle.cxx_meaning.specs.Lookups.Member.{Way, declared_in, has_nonstatic, member_by}
use Rattle.cxx_meaning.specs.Lookups.Pending.{Asked}
use Rattle.cxx_meaning.specs.Lookups.Wanted.{Wanted}
use Rattle.cxx_members.specs.Ways.{ThreeMeant}

-- The answer is the one of the definition, or the class that it needs; or there was no memory.
abbrev pub Answers : {A : Type 0} → Result A Wait → Asked A → Type 0
Answers (Ok answer) asked = asked ≡ Ok answer
Answers (Err (wait.Needs class)) asked = asked ≡ Err class
Answers (Err wait.OutOfMemory) asked = Unit {0}

-- what is found in a class, given three of its ways
abbrev pub member_of_three : CxxGraph → Wanted → CxxName → ThreeMeant → MemberFound
member_of_three graph wanted name three = by three.first
  where
    by : Option Way → MemberFound
    by None = found.Empty
    by (Some one) = member_by graph wanted name one (if has_nonstatic (declared_in graph wanted name one.holder) then three.second else three.other)
