-- The numbers of the productions of statements (clause 6).
use Rattle.std.specs.Prelude.{ℕ}

abbrev pub block : ℕ
block = 23

abbrev pub declaration_statement : ℕ
declaration_statement = 24

abbrev pub expression_statement : ℕ
expression_statement = 25

abbrev pub selection : ℕ
selection = 26

abbrev pub switch : ℕ
switch = 27

abbrev pub label : ℕ
label = 28

abbrev pub while : ℕ
while = 29

abbrev pub do_ : ℕ
do_ = 30

abbrev pub for : ℕ
for = 31

abbrev pub jump : ℕ
jump = 32

abbrev pub return : ℕ
return = 33
