-- Names of types that declarators declare (7.1.3).
use Rattle.std.specs.Prelude.{if◌then◌else◌, ◌||◌}
use Rattle.cxx_model.specs.declared.fault.FaultText.TheVariants as says
use Rattle.cxx_reading.specs.Declarators.{Declarator}
use Rattle.cxx_reading.specs.Reads.{Reads, Ahead, ◌>>=◌, got, fault_at}
use Rattle.cxx_reading.specs.State.{CxxState}
use Rattle.cxx_reading.specs.Trees.{CxxTree}
use Rattle.cxx_reading.specs.Units.{Said, name_in, declared_synonym}

-- 8.3.5 p4: words behind the parameters would be those of the functions that a class declares by the name; they are not read there yet
unfoldable pub no_words_behind : Declarator → Reads CxxState (Unit {0})
no_words_behind declarator state ahead = if declarator.cv.is_const || declarator.cv.is_volatile then fault_at (name_in declarator).place says.NotBuilt state ahead else got tt state ahead

unfoldable pub bare_synonym : Said → Declarator → Ahead → Reads CxxState CxxTree
bare_synonym said declarator from = do
  bare ← no_words_behind declarator
  declared_synonym said declarator from
