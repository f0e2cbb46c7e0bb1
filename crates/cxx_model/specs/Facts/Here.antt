-- Where an expression or a declaration stands, and what is known there.
use Rattle.std.specs.Prelude.{ℕ, Bool, List, length, Option, Some, None}
use Rattle.cxx_model.specs.declared.facts.Access.{Access}
use Rattle.cxx_model.specs.Facts.Declarations.{CxxFact}
use Rattle.cxx_model.specs.Types.Trees.{CxxType}

pub record CxxHere : Type 0 where
  pub scope : ℕ
  -- 3.3.1: what stands before it is seen; outside instances of templates (14.6.4.1) that is all that stands there now
  pub cut : Option ℕ
  -- 14.6.4.1: the point of instantiation
  pub point : Option ℕ
  -- 9.3.2: the type of `this` in a nonstatic member
  pub this_type : Option CxxType
  -- 7.2: the enumeration whose list is being read
  pub enumeration : Option ℕ
  -- 11: the access of the members that are declared here
  pub access : Access
  -- 9.2: the class whose list of members is open
  pub class : Option ℕ
  -- 6.6.3: the result of the function whose body is read
  pub result : Option CxxType
  -- 14.6: whether it stands in the definition of a template
  pub depends : Bool
  -- 14.7.1: the instance that is read, by its place among the instances, and how deep its need is nested
  pub instance : Option ℕ
  pub outer : ℕ

abbrev number_or_all : List CxxFact → Option ℕ → ℕ
number_or_all all None = length all
number_or_all all (Some number) = number

-- 3.3.1: what stands before this number is seen
abbrev pub cut_of : List CxxFact → CxxHere → ℕ
cut_of all here = number_or_all all here.cut
