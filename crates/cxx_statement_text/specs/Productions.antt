-- The numbers of the productions of statements.
use Rattle.std.specs.Prelude.{ℕ}

-- 6.3
abbrev pub block : ℕ
block = 23

-- 6.7
abbrev pub declaration_statement : ℕ
declaration_statement = 24

-- 6.2: without a child it is the empty statement, or a part of a `for` that is not written
abbrev pub expression_statement : ℕ
expression_statement = 25

-- 6.4.1
abbrev pub if_ : ℕ
if_ = 26

-- 6.4.2
abbrev pub switch : ℕ
switch = 27

-- 6.1: a label, spelled by its keyword; and without a spelling a statement behind its labels
abbrev pub label : ℕ
label = 28

-- 6.5.1
abbrev pub while : ℕ
while = 29

-- 6.5.2
abbrev pub do_ : ℕ
do_ = 30

-- 6.5.3
abbrev pub for_ : ℕ
for_ = 31

-- 6.6.1, 6.6.2: `break` and `continue`, by their spelling
abbrev pub jump : ℕ
jump = 32

-- 6.6.3
abbrev pub return : ℕ
return = 33
