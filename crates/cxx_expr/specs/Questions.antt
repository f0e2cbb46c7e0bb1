-- What is asked of the user, while it is found what an expression means.
use Rattle.std.specs.Prelude.{ℕ, Bool, List, Option, Result}
use Rattle.cxx_model.specs.declared.place.Place.{Place}
use Rattle.cxx_model.specs.Types.Trees.{CxxType}
use Rattle.cxx_meaning.specs.declared.size.SizeReason.{SizeReason}
use Rattle.cxx_meaning.specs.Conversions.Standard.{CxxOperand}
use Rattle.cxx_reading.specs.Reads.{Asks}
use Rattle.cxx_reading.specs.Seen.{Numbered}
use Rattle.cxx_reading.specs.State.{CxxState}
use Rattle.cxx_reading.specs.Trees.{CxxPath, CxxTree}

-- 13.3: The question of a call: where it stands, the name that is called, the functions that the name means, the object of a
-- member (13.3.1.1.1), as an lvalue, and the operands of the arguments. Where the name stands in brackets, has qualifiers or
-- is that of a member of an object, it is not said, so that the types of the arguments find no functions besides (3.4.2).
pub record CxxQuestion : Type 0 where
  pub place : Place
  pub word : Option (List ℕ)
  pub functions : List Numbered
  pub object : Option CxxOperand
  pub operands : List CxxOperand

-- 13.3: the function that a call means, by its first declaration, with its type, and the number of the record of the call
pub record CxxChosen : Type 0 where
  pub target : ℕ
  pub parameters : List CxxType
  pub result : CxxType
  pub ellipsis : Bool
  pub number : ℕ

pub record Questions : Type 0 where
  -- 3.4: all declarations that a name means; none where it is not declared
  pub name : CxxPath → Asks CxxState (List Numbered)
  -- 3.4.5: the class in which a name is looked up behind an object of a class: that which its qualifiers mean, and without
  -- them that of the object
  pub naming : ℕ → CxxPath → Asks CxxState ℕ
  -- 10.2: all declarations that a name means as a member of a class; none where the class has no such member
  pub member : ℕ → CxxPath → Asks CxxState (List Numbered)
  -- 3.4: a name, by its place, means the entity with this first declaration
  pub bound : Place → ℕ → Asks CxxState (Unit {0})
  -- 13.3: which function a call means
  pub call : CxxQuestion → Asks CxxState CxxChosen
  -- 8.3.6: the default argument of a parameter, of the function with this first declaration, which a call by this name
  -- means, as it is converted
  pub fallback : CxxPath → ℕ → ℕ → Asks CxxState CxxTree
  -- 5.3.3
  pub size : CxxType → Asks CxxState (Result ℕ SizeReason)
  -- 3.4.3.1: the class that the qualifiers of a name mean where it stands, if they mean one
  pub qualifier : CxxPath → CxxState → Option ℕ
  -- 5.19: whether an expression is an integral constant with the value zero
  pub is_null : CxxTree → CxxState → Bool
