use Rattle.cxx_names.proofs.words.Words.take_back.Goals as goal

pub returns : goal.returns
returns c = λ before has. record { rows = c.take_back.ensures before.rows.rows.entries has.rows; spellings = has.spellings }
