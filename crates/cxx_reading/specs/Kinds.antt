-- What a reader of tokens asks of its user, and the readers behind brackets.
use Rattle.std.specs.Prelude.{ℕ, ℤ, Bool, true, Ok, List, Option}
use Rattle.cxx_model.specs.declared.place.Place.{Place}
use Rattle.cxx_model.specs.declared.stop.LimitKind.TheVariants.{Nesting}
use Rattle.cxx_model.specs.declared.tree.Kind.{Kind}
use Rattle.cxx_model.specs.Text.Lexemes.{Lexeme}
use Rattle.cxx_model.specs.Types.Trees.{CxxType}
use Rattle.cxx_reading.specs.declared.specifier.Naming.{Naming}
use Rattle.cxx_reading.specs.Declarators.{Declarator, ParameterTypes}
use Rattle.cxx_reading.specs.Reads.{Reads, Asks, limited}
use Rattle.cxx_reading.specs.Trees.{CxxTree, CxxPath}

-- Questions to the user of the readers, over any state.
pub record Kinds (S : Type 0) : Type 0 where
  -- 3.4: what a name is to a reader
  pub kind : CxxPath → Asks S Kind
  -- 7.1.5.2: the type that a name of that kind names
  pub type_named : CxxPath → Asks S CxxType
  -- 3.4.4, 7.1.5.3: the type that a name behind `enum` names
  pub elaborated : CxxPath → Asks S CxxType
  -- 3.3.1, 3.4.4, 7.1.5.3: the class that a name behind `class`, `struct` or `union` means, by whether the key is that of a
  -- union, and whether the key and the name are all of their declaration, which declares the class then
  pub class_named : Bool → Bool → CxxPath → Asks S CxxType
  -- 8.3: The name of a declarator has these qualifiers: it declares a member of their namespace, and what stands behind the
  -- name is read there.
  pub entered : CxxPath → Asks S (Unit {0})
  -- 7.2: An enumeration begins, with its name where it has one, and the place of that or of `enum`. It answers its number.
  pub enumeration : Option Lexeme → Place → Asks S ℕ
  -- 7.2: an enumerator of it, with the value that is written, where one is
  pub enumerator : ℕ → Lexeme → Option ℤ → Asks S (Unit {0})
  -- 7.2: its list ends
  pub enumerated : ℕ → Asks S (Unit {0})
  -- 5.19: the value of a constant expression
  pub constant : CxxTree → Asks S ℤ
  -- 3.3.2: a list of parameters begins; it answers their scope
  pub enter_parameters : Asks S ℕ
  -- 8.3.5: a parameter, with its name where it has one, its place and its type
  pub parameter : Option Lexeme → Place → CxxType → Asks S (Unit {0})
  pub leave_parameters : Asks S (Unit {0})

-- 8.3.6: reads from the `=` behind the declared parameter with an index and a type
abbrev pub Fallback : Type 0 → Type 0
Fallback S = ℕ → CxxType → Reads S (List CxxTree)

-- The readers behind a bracket or an operator that was taken, which counts for the nesting.
pub record Readers (S : Type 0) : Type 0 where
  -- 8.3.1: behind `*`
  pub pointed : Naming → Reads S Declarator
  -- 8.3.2: behind `&`
  pub referred : Naming → Reads S Declarator
  -- clause 8: behind `(`, with its end
  pub grouped : Naming → Reads S Declarator
  -- 8.3.4: behind `[`, with its end: the value of the bound, where one is written
  pub bound : Bool → Reads S (Option ℤ × List CxxTree)
  -- 8.3.5: behind the `(` of a list, with its end
  pub parameters : Reads S ParameterTypes
  -- 7.2: behind the `{` of an enumeration with this number, with its end
  pub enumerators : ℕ → Reads S (List CxxTree)
  -- 8.2: whether what stands behind a `(` are parameters
  pub holds_parameters : Reads S Bool

-- where there is no room for a bracket
abbrev pub too_deep : {S : Type 0} → Readers S
too_deep = record {
  pointed = λ naming. limited Nesting;
  referred = λ naming. limited Nesting;
  grouped = λ naming. limited Nesting;
  bound = λ is_first. limited Nesting;
  parameters = limited Nesting;
  enumerators = λ number. limited Nesting;
  holds_parameters = λ state ahead. Ok (record { value = true; state = state; rest = ahead });
}
