-- What is found in a scope, which may be that of a class.
use Rattle.std.specs.Prelude.{ℕ, Bool, true, false, List, Option, Some, None, Ok, Err}
use Rattle.cxx_model.specs.declared.lookup.Found.{Found}
use Rattle.cxx_model.specs.Facts.Declarations.{CxxGraph}
use Rattle.cxx_model.specs.Types.Trees.{CxxType}
use Rattle.cxx_meaning.specs.Lookups.Ordinary.{member_found}
use Rattle.cxx_meaning.specs.Lookups.Pending.{Asked}
use Rattle.cxx_found.specs.declared.here.Here.{Here}
use Rattle.cxx_found.specs.declared.here.Here.TheVariants as here
use Rattle.cxx_found.specs.Views.{IsNearBelow, found_near, or_nothing}

abbrev pub found_here : List CxxType → CxxGraph → Here → Asked (Option Found)
found_here types graph (here.Declared near) = Ok (found_near types graph near)
found_here types graph (here.Member class of) = Ok (member_found class of)
found_here types graph (here.Needs class) = Err class

abbrev pub IsHereBelow : ℕ → Here → Type 0
IsHereBelow count (here.Declared near) = IsNearBelow count near
IsHereBelow count _ = Unit {0}

-- whether nothing is found
abbrev pub is_missing : Asked (Option Found) → Bool
is_missing (Ok None) = true
is_missing _ = false

-- what is found where there is nothing further out
abbrev pub or_nowhere : Asked (Option Found) → Asked Found
or_nowhere (Ok of) = Ok (or_nothing of)
or_nowhere (Err class) = Err class
