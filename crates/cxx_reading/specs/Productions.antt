-- The numbers of the productions, in the order in which a unit is described from the outside in. Those from 53 on are
-- parts of a production that has no number of its own.
use Rattle.std.specs.Prelude.{ℕ}

abbrev pub empty_declaration : ℕ
empty_declaration = 2

-- 7.5
abbrev pub linkage : ℕ
linkage = 3

-- 7.3.1
abbrev pub namespace_definition : ℕ
namespace_definition = 4

-- 7.3.2
abbrev pub namespace_alias : ℕ
namespace_alias = 5

-- 7.3.4
abbrev pub using_directive : ℕ
using_directive = 6

-- 7.3.3
abbrev pub using_declaration : ℕ
using_declaration = 7

-- clause 7
abbrev pub simple_declaration : ℕ
simple_declaration = 8

-- 7.1.5.3: a class or an enumeration that is named behind its key
abbrev pub elaborated : ℕ
elaborated = 9

-- clause 9
abbrev pub class_definition : ℕ
class_definition = 10

-- 7.2
abbrev pub enumeration_list : ℕ
enumeration_list = 11

-- 8.4
abbrev pub function_definition : ℕ
function_definition = 15

-- clause 8
abbrev pub declarator : ℕ
declarator = 20

-- 8.5
abbrev pub initializer : ℕ
initializer = 22

-- 2.13, 5.1
abbrev pub literal : ℕ
literal = 34

-- 5.2.2
abbrev pub call : ℕ
call = 40

-- 5.2.9, 5.4: a cast, and with an empty spelling a conversion that nothing spells
abbrev pub cast : ℕ
cast = 48

-- 7.1
abbrev pub specifiers : ℕ
specifiers = 53

-- 8.3.5
abbrev pub parameter : ℕ
parameter = 54
