-- The numbers of the productions of expressions that are not among those of declarations.
use Rattle.std.specs.Prelude.{ℕ}

-- 5.1, 9.3.2: `this`
abbrev pub this : ℕ
this = 35

-- 5.1
abbrev pub name : ℕ
name = 36

-- 5.1
abbrev pub parenthesis : ℕ
parenthesis = 39

-- 5.2.3
abbrev pub functional_cast : ℕ
functional_cast = 41

-- 5.2.5: `.`
abbrev pub member : ℕ
member = 42

-- 5.2.5: `->`
abbrev pub arrow : ℕ
arrow = 43

-- 5.2.1
abbrev pub subscript : ℕ
subscript = 44

-- 5.2.6
abbrev pub postfix_step : ℕ
postfix_step = 45

-- 5.3.1, 5.3.2
abbrev pub prefix : ℕ
prefix = 46

-- 5.3.3
abbrev pub size : ℕ
size = 47

-- 5.6 to 5.15
abbrev pub binary : ℕ
binary = 50

-- 5.16
abbrev pub conditional : ℕ
conditional = 51

-- 5.17, 5.18
abbrev pub assignment : ℕ
assignment = 52
