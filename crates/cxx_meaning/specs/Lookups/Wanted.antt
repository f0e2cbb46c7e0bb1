-- What a name is looked up for (3.4.1, 3.4.3, 3.4.4, 3.4.6), and what declarations are.
use Rattle.std.specs.Prelude.{Bool, true, false, not, ◌||◌, Option, Some, None}
use Rattle.std.specs.List.{slice_get}
use Rattle.cxx_model.specs.declared.facts.MemberKind.{MemberKind}
use Rattle.cxx_model.specs.declared.facts.MemberKind.TheVariants as member
use Rattle.cxx_model.specs.Facts.Declarations as facts
use Rattle.cxx_model.specs.Facts.Declarations.{CxxGraph, CxxPattern, Declares}
use Rattle.cxx_model.specs.Types.Trees.{CxxType}

-- A lookup passes over what is not wanted, as if it were not declared.
pub data Wanted : Type 0 where
  -- 3.4.1, 3.4.3
  any_name : Wanted
  -- 3.4.4: behind `enum` or a class key, and the name of a base (10)
  types_only : Wanted
  -- 3.4.6: in a using-directive and in an alias of a namespace
  namespaces_only : Wanted
  -- 3.4.3: before `::`
  before_colons : Wanted

-- 14: whether a template is one of functions
abbrev pub is_of_functions : Option CxxPattern → Bool
is_of_functions None = false
is_of_functions (Some pattern) = by pattern.of
  where
    by : Option CxxType → Bool
    by None = false
    by (Some of) = true

-- 13, 14.5.5: a function or a function template
abbrev pub is_function : CxxGraph → Declares → Bool
is_function graph (facts.function of member flags defaults first) = true
is_function graph (facts.template template member defaults is_explicit first) = is_of_functions (slice_get graph.patterns template.0)
is_function graph _ = false

-- 3.4.4: a class, an enumeration, a name of a type, or a class template
abbrev pub names_type : CxxGraph → Declares → Bool
names_type graph (facts.injected class) = true
names_type graph (facts.class class is_union) = true
names_type graph (facts.enumeration n) = true
names_type graph (facts.synonym of) = true
names_type graph (facts.template template member defaults is_explicit first) = not (is_of_functions (slice_get graph.patterns template.0))
names_type graph _ = false

-- 3.3.7: the names of classes and enumerations, which others of their scope hide; the name of a class in its own scope is
-- one (9)
abbrev pub is_hideable : Declares → Bool
is_hideable (facts.injected class) = true
is_hideable (facts.class class is_union) = true
is_hideable (facts.enumeration n) = true
is_hideable _ = false

-- 3.3.7: an object, a function, a function template or an enumerator
abbrev pub hides_types : CxxGraph → Declares → Bool
hides_types graph (facts.object of member is_mutable value first) = true
hides_types graph (facts.enumerator n value) = true
hides_types graph what = is_function graph what

-- 3.4.6
abbrev pub names_space : Declares → Bool
names_space (facts.namespace inner) = true
names_space _ = false

abbrev pub is_wanted : CxxGraph → Wanted → Declares → Bool
is_wanted graph any_name what = true
is_wanted graph types_only what = names_type graph what
is_wanted graph namespaces_only what = names_space what
is_wanted graph before_colons what = names_space what || names_type graph what

abbrev pub is_nonstatic_kind : MemberKind → Bool
is_nonstatic_kind member.Free = false
is_nonstatic_kind member.Static = false
is_nonstatic_kind member.Nonstatic = true
is_nonstatic_kind member.Constructor = true
is_nonstatic_kind member.Destructor = true
is_nonstatic_kind member.Conversion = true

-- 10.2: what belongs to an object of its class; types, enumerators and static members do not
abbrev pub is_nonstatic : Declares → Bool
is_nonstatic (facts.object of member is_mutable value first) = is_nonstatic_kind member
is_nonstatic (facts.function of member flags defaults first) = is_nonstatic_kind member
is_nonstatic (facts.template template member defaults is_explicit first) = is_nonstatic_kind member
is_nonstatic _ = false
