-- The spelled names of declarations, each with its declarations by scope.
use Rattle.std.specs.Prelude.{ℕ, ◌≡◌, ◌≤◌, Bool, true, false, ◌&&◌, nat_eq, if◌then◌else◌, List, [], ◌∷◌, ◌++◌, length, position, Option, Some, None}
use Rattle.std.specs.Global.{Vec}
use Rattle.std.specs.Str.{bytes_eq}
use Rattle.cxx_model.specs.declared.facts.Fact.{Fact}
use Rattle.cxx_model.specs.declared.facts.Name.{Name}
use Rattle.cxx_model.specs.declared.facts.Name.TheVariants as name
use Rattle.cxx_model.specs.declared.types.FactId.{FactId}
use Rattle.cxx_model.specs.declared.types.ScopeId.{ScopeId}
use Rattle.cxx_model.specs.Facts.Conflicts.{declares_name}
use Rattle.cxx_model.specs.Facts.Declarations.{declares_at}
use Rattle.cxx_names.specs.declared.entry.Spelling.{Spelling}
use Rattle.cxx_names.specs.declared.words.MetWord.{MetWord}
use Rattle.cxx_names.specs.declared.words.Words.{Words}
use Rattle.cxx_names.specs.Filed.{row, AreSame, IsMoreBy}

abbrev pub same_spelling : Spelling → Spelling → Bool
same_spelling one two = nat_eq one.scope.0 two.scope.0 && nat_eq one.number two.number

-- the number of a spelling among those that were met
abbrev pub number_among : List (Vec ℕ) → List ℕ → Option ℕ
number_among spellings word = position (λ known. bytes_eq word known.items) spellings

-- what is filed under a spelling with a number, if it has one
abbrev pub numbered_row : List (Spelling × Vec FactId) → ScopeId → Option ℕ → List FactId
numbered_row rows scope None = []
numbered_row rows scope (Some number) = row same_spelling rows (record { scope = scope; number = number })

-- what is filed under a word in a scope
abbrev pub word_row : Words → ScopeId → List ℕ → List FactId
word_row words scope word = numbered_row words.rows.rows.entries scope (number_among words.spellings.keys word)

-- this is what a word is among the spellings that were met
abbrev pub IsMetAs : Words → List ℕ → MetWord → Type 0
IsMetAs words word met = met.number ≡ number_among words.spellings.keys word

-- nothing is filed under a number that no spelling has
abbrev pub IsSound : Words → Type 0
IsSound words = (key : Spelling) → length words.spellings.keys ≤ key.number → row same_spelling words.rows.rows.entries key ≡ []

-- each spelling keeps its number
abbrev pub KnowsMore : List (Vec ℕ) → List (Vec ℕ) → Type 0
KnowsMore old new = (more : List (Vec ℕ)) × (new ≡ old ++ more)

-- ---- what one more declaration changes

abbrev pub is_text : Name → List ℕ → Bool
is_text (name.Spelled word) other = bytes_eq word other
is_text _ other = false

-- one more is filed under a scope and a name, where that is spelled, behind what was there
abbrev pub Files : Words → Words → ScopeId → Name → FactId → Type 0
Files old new scope name number = (other : ScopeId) (word : List ℕ) → word_row new other word ≡ (if nat_eq scope.0 other.0 && is_text name word then word_row old other word ++ number ∷ [] else word_row old other word)

-- the same is filed under each scope and word
abbrev pub AreSameRows : Words → Words → Type 0
AreSameRows old new = (scope : ScopeId) (word : List ℕ) → word_row new scope word ≡ word_row old scope word

-- ---- what one more fact changes

abbrev pub spelled_word : Name → Bool → Option (List ℕ)
spelled_word (name.Spelled word) true = Some word
spelled_word _ _ = None

-- the spelled name that a fact declares
abbrev pub word_declared_by : Fact → Option (List ℕ)
word_declared_by fact = spelled_word fact.name (declares_name (declares_at [] fact.what))

-- a declared word, if there is one, has a number in the scope of its fact
abbrev pub IsNumberOf : List (Vec ℕ) → ScopeId → Option (List ℕ) → Option Spelling → Type 0
IsNumberOf spellings scope None None = Unit {0}
IsNumberOf spellings scope (Some word) (Some name) = (name.scope ≡ scope) × (number_among spellings word ≡ Some name.number)
IsNumberOf spellings scope _ _ = ⊥

abbrev pub IsNumbered : List (Vec ℕ) → Fact → Option Spelling → Type 0
IsNumbered spellings fact name = IsNumberOf spellings fact.scope (word_declared_by fact) name

-- Spellings were met, and nothing was filed.
pub record HasMet (old new : Words) : Type 0 where
  pub rows : new.rows.rows.entries ≡ old.rows.rows.entries
  pub knows : KnowsMore old.spellings.keys new.spellings.keys

-- One more declaration is filed, where it has a spelled name.
pub record HasWord (old new : Words) (name : Option (Spelling × FactId)) : Type 0 where
  pub rows : IsMoreBy same_spelling old.rows.rows.entries new.rows.rows.entries name
  pub spellings : new.spellings.keys ≡ old.spellings.keys

pub record AreSameWords (old new : Words) : Type 0 where
  pub rows : AreSame same_spelling old.rows.rows.entries new.rows.rows.entries
  pub spellings : new.spellings.keys ≡ old.spellings.keys
