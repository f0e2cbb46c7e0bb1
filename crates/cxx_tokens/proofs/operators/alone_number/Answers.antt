use Rattle.std.proofs.Common.{refl, arith}
use Rattle.cxx_tokens.proofs.Shorter.{alone_is}
use Rattle.cxx_model.specs.Text.Spelling.{operators, digraphs}
use Rattle.cxx_tokens.proofs.operators.alone_number.Goals as goal

pub returns-in-123 : goal.returns-in-123
unfolding operators digraphs
returns-in-123 c = alone_is c.args.b 123 0 (omega (arith, c.in-123.is)) refl

pub returns-in-125 : goal.returns-in-125
unfolding operators digraphs
returns-in-125 c = alone_is c.args.b 125 1 (omega (arith, c.in-125.is)) refl

pub returns-in-91 : goal.returns-in-91
unfolding operators digraphs
returns-in-91 c = alone_is c.args.b 91 2 (omega (arith, c.in-91.is)) refl

pub returns-in-93 : goal.returns-in-93
unfolding operators digraphs
returns-in-93 c = alone_is c.args.b 93 3 (omega (arith, c.in-93.is)) refl

pub returns-in-40 : goal.returns-in-40
unfolding operators digraphs
returns-in-40 c = alone_is c.args.b 40 4 (omega (arith, c.in-40.is)) refl

pub returns-in-41 : goal.returns-in-41
unfolding operators digraphs
returns-in-41 c = alone_is c.args.b 41 5 (omega (arith, c.in-41.is)) refl

pub returns-in-59 : goal.returns-in-59
unfolding operators digraphs
returns-in-59 c = alone_is c.args.b 59 6 (omega (arith, c.in-59.is)) refl

pub returns-in-58 : goal.returns-in-58
unfolding operators digraphs
returns-in-58 c = alone_is c.args.b 58 7 (omega (arith, c.in-58.is)) refl

pub returns-in-63 : goal.returns-in-63
unfolding operators digraphs
returns-in-63 c = alone_is c.args.b 63 9 (omega (arith, c.in-63.is)) refl

pub returns-in-46 : goal.returns-in-46
unfolding operators digraphs
returns-in-46 c = alone_is c.args.b 46 11 (omega (arith, c.in-46.is)) refl

pub returns-in-43 : goal.returns-in-43
unfolding operators digraphs
returns-in-43 c = alone_is c.args.b 43 13 (omega (arith, c.in-43.is)) refl

pub returns-in-45 : goal.returns-in-45
unfolding operators digraphs
returns-in-45 c = alone_is c.args.b 45 14 (omega (arith, c.in-45.is)) refl

pub returns-in-42 : goal.returns-in-42
unfolding operators digraphs
returns-in-42 c = alone_is c.args.b 42 15 (omega (arith, c.in-42.is)) refl

pub returns-in-47 : goal.returns-in-47
unfolding operators digraphs
returns-in-47 c = alone_is c.args.b 47 16 (omega (arith, c.in-47.is)) refl

pub returns-in-37 : goal.returns-in-37
unfolding operators digraphs
returns-in-37 c = alone_is c.args.b 37 17 (omega (arith, c.in-37.is)) refl

pub returns-in-94 : goal.returns-in-94
unfolding operators digraphs
returns-in-94 c = alone_is c.args.b 94 18 (omega (arith, c.in-94.is)) refl

pub returns-in-38 : goal.returns-in-38
unfolding operators digraphs
returns-in-38 c = alone_is c.args.b 38 19 (omega (arith, c.in-38.is)) refl

pub returns-in-124 : goal.returns-in-124
unfolding operators digraphs
returns-in-124 c = alone_is c.args.b 124 20 (omega (arith, c.in-124.is)) refl

pub returns-in-126 : goal.returns-in-126
unfolding operators digraphs
returns-in-126 c = alone_is c.args.b 126 21 (omega (arith, c.in-126.is)) refl

pub returns-in-33 : goal.returns-in-33
unfolding operators digraphs
returns-in-33 c = alone_is c.args.b 33 22 (omega (arith, c.in-33.is)) refl

pub returns-in-61 : goal.returns-in-61
unfolding operators digraphs
returns-in-61 c = alone_is c.args.b 61 23 (omega (arith, c.in-61.is)) refl

pub returns-in-60 : goal.returns-in-60
unfolding operators digraphs
returns-in-60 c = alone_is c.args.b 60 24 (omega (arith, c.in-60.is)) refl

pub returns-in-62 : goal.returns-in-62
unfolding operators digraphs
returns-in-62 c = alone_is c.args.b 62 25 (omega (arith, c.in-62.is)) refl

pub returns-in-44 : goal.returns-in-44
unfolding operators digraphs
returns-in-44 c = alone_is c.args.b 44 46 (omega (arith, c.in-44.is)) refl
