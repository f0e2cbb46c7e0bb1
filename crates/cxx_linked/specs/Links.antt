-- The declarations that are linked (3.5), by their namespaces and names.
use Rattle.std.specs.Prelude.{ℕ, ◌≡◌, ◌<◌, Bool, false, ◌&&◌, nat_eq, if◌then◌else◌, List, [], ◌∷◌, ◌++◌, length, Option, Some, None}
use Rattle.std.specs.List.{slice_get, list_any}
use Rattle.cxx_model.specs.declared.facts.Fact.{Fact}
use Rattle.cxx_model.specs.declared.types.FactId.{FactId}
use Rattle.cxx_model.specs.declared.types.ScopeId.{ScopeId}
use Rattle.cxx_model.specs.Facts.Declarations.{facts_at}
use Rattle.cxx_model.specs.Types.Trees.{CxxType}
use Rattle.cxx_meaning.specs.Lookups.Scopes.{home}
use Rattle.cxx_names.specs.declared.words.Words.{Words}
use Rattle.cxx_names.specs.Words.{IsSound, is_text, word_row}
use Rattle.cxx_linked.specs.declared.linkages.Linkages.{Linkages}

-- ---- what is linked to a namespace

-- 7.3.1: the innermost namespace round a scope
abbrev pub home_in : List CxxType → List Fact → ScopeId → ℕ
home_in types facts scope = (home (facts_at types facts) scope).0

-- whether a fact has a name that is spelled, and a namespace is the innermost one round it
abbrev pub is_linked_to : List CxxType → List Fact → ℕ → List ℕ → Option Fact → Bool
is_linked_to types facts space word None = false
is_linked_to types facts space word (Some fact) = nat_eq (home_in types facts fact.scope) space && is_text fact.name word

-- of some facts, those of which it is so, in order
abbrev pub linked_to : List CxxType → List Fact → ℕ → List ℕ → List FactId → List FactId
linked_to types facts space word [] = []
linked_to types facts space word (number ∷ others) = if is_linked_to types facts space word (slice_get facts number.0) then number ∷ linked_to types facts space word others else linked_to types facts space word others

-- ---- what is kept

abbrev pub same_fact : FactId → FactId → Bool
same_fact one two = nat_eq one.0 two.0

-- whether a fact is one of some
abbrev pub holds_fact : List FactId → FactId → Bool
holds_fact facts number = list_any (same_fact number) facts

-- each number is that of a fact which is there
abbrev pub AreThere : ℕ → List FactId → Type 0
AreThere count [] = Unit {0}
AreThere count (number ∷ others) = (number.0 < count) × AreThere count others

-- These facts are the linked ones so far.
pub record Links (linkages : Linkages) (facts : List Fact) (linked : List FactId) : Type 0 where
  pub sound : IsSound linkages.words
  pub there : AreThere (length facts) linked
  pub rows : (space : ScopeId) (word : List ℕ) (types : List CxxType) → word_row linkages.words space word ≡ linked_to types facts space.0 word linked
  pub known : (number : FactId) → holds_fact linkages.known.keys number ≡ holds_fact linked number

-- ---- what one more changes

-- one more is filed where it is linked, behind what was there
abbrev pub FilesLinked : Words → Words → List Fact → FactId → Type 0
FilesLinked old new facts number = (space : ScopeId) (word : List ℕ) (types : List CxxType) → word_row new space word ≡ (if is_linked_to types facts space.0 word (slice_get facts number.0) then word_row old space word ++ number ∷ [] else word_row old space word)
