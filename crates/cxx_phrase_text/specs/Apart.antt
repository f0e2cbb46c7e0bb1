-- No two operators stand side by side.
use Rattle.std.specs.Prelude.{◌≡◌, Bool, true, false, List, [], ◌∷◌}
use Rattle.cxx_reading.specs.declared.role.Role.{Role}
use Rattle.cxx_reading.specs.declared.role.Role.TheVariants as role
use Rattle.cxx_reading.specs.Words.{Word}

-- a prefix operator
abbrev pub leads : Role → Bool
leads role.Leads = true
leads _ = false

-- a postfix operator
abbrev pub follows : Role → Bool
follows role.Follows = true
follows _ = false

abbrev pub BeginsApart : List Word → Type 0
BeginsApart [] = Unit {0}
BeginsApart (word ∷ words) = leads word.role ≡ false

abbrev pub EndsApart : List Word → Type 0
EndsApart [] = Unit {0}
EndsApart (word ∷ []) = follows word.role ≡ false
EndsApart (word ∷ next ∷ words) = EndsApart (next ∷ words)

-- Words that begin with no prefix operator and end with no postfix operator: so those before them and behind them make
-- no other token with theirs (2.4).
pub record StandsApart (words : List Word) : Type 0 where
  pub begins : BeginsApart words
  pub ends : EndsApart words
