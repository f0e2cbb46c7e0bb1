-- Whether a text fits on a page.
use Rattle.std.proofs.Common.{◌≡◌, ◌≤◌, ◌<◌, ℕ, List, length, Some, None, refl}
use Rattle.std.proofs.lemmas.Bool.{lt-ltb, le-ltb}
use Rattle.cxx_model.specs.declared.limits.TheConstants as limits
use Rattle.cxx_reading.specs.declared.role.Role.{Role}
use Rattle.cxx_page.specs.Sheets.{held}

pub held_fits : (last : Role) (text : List ℕ) → length text ≤ limits.MOST_OUTPUT → held last text ≡ Some (record { text = text; last = last })
held_fits last text h = rw (le-ltb limits.MOST_OUTPUT (length text) h) refl

pub held_not : (last : Role) (text : List ℕ) → limits.MOST_OUTPUT < length text → held last text ≡ None
held_not last text h = rw (lt-ltb limits.MOST_OUTPUT (length text) h) refl
