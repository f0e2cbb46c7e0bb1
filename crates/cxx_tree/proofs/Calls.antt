-- The types that calls keep stay what they are while a table grows.
use Rattle.std.specs.Prelude.{ℕ, ◌≡◌, ◌<◌, ◌≤◌, List, [], ◌∷◌, length, refl}
use Rattle.std.proofs.Common.{ap, ◌∙◌, arith}
use Rattle.cxx_model.specs.declared.sequence.Operand.{Operand}
use Rattle.cxx_model.specs.declared.sequence.StandardSequence.{StandardSequence}
use Rattle.cxx_model.specs.declared.types.TypeId.{TypeId}
use Rattle.cxx_model.specs.Types.Numbers.{AreTypesBelow, Keeps, type_at}
use Rattle.cxx_model.specs.Types.Trees.{CxxType}
use Rattle.cxx_meaning.specs.Conversions.Standard.{CxxOperand, CxxStandard}
use Rattle.cxx_standard.specs.Views.{IsSequenceBelow, operand_at, sequence_at}
use Rattle.cxx_reading.specs.State.{CxxCall, CxxRow}
use Rattle.cxx_tree.specs.declared.kept.Contending.{Contending}
use Rattle.cxx_tree.specs.declared.kept.Decided.{Decided}
use Rattle.cxx_tree.specs.Held.{AreCallsBelow, AreOperandsBelow, AreRowsBelow, AreSequencesBelow, call_at, calls_at, numbers_at, operands_at, parameters_at, row_at, rows_at, sequences_at}

operand_kept : (old new : List CxxType) (operand : Operand) → Keeps old new → operand.of.0 < length old → operand_at new operand ≡ operand_at old operand
operand_kept old new operand kept below = ap (λ (t : CxxType). let one : CxxOperand = record { of = t; lvalue = operand.lvalue; constant = operand.constant } in one) (kept.same operand.of.0 below)

operands_kept : (old new : List CxxType) (operands : List Operand) → Keeps old new → AreOperandsBelow (length old) operands → operands_at new operands ≡ operands_at old operands
operands_kept old new [] kept below = refl
operands_kept old new (one ∷ others) kept below = ap (λ (o : CxxOperand). o ∷ operands_at new others) (operand_kept old new one kept below.0) ∙ ap (λ os. operand_at old one ∷ os) (operands_kept old new others kept below.1)

parameters_kept : (old new : List CxxType) (types : List TypeId) → Keeps old new → AreTypesBelow (length old) types → parameters_at new types ≡ parameters_at old types
parameters_kept old new [] kept below = refl
parameters_kept old new (one ∷ others) kept below = ap (λ (t : CxxType). t ∷ parameters_at new others) (kept.same one.0 below.0) ∙ ap (λ ts. type_at old one.0 ∷ ts) (parameters_kept old new others kept below.1)

sequence_kept : (old new : List CxxType) (one : StandardSequence) → Keeps old new → IsSequenceBelow (length old) one → sequence_at new one ≡ sequence_at old one
sequence_kept old new one kept below =
    let make : CxxOperand → CxxType → CxxStandard = λ from to. record { from = from; to = to; first = one.first; second = one.second; third = one.third; binding = one.binding } in
    ap (λ from. make from (type_at new one.to.0)) (operand_kept old new one.from kept below.from) ∙ ap (λ to. make (operand_at old one.from) to) (kept.same one.to.0 below.to)

sequences_kept : (old new : List CxxType) (sequences : List StandardSequence) → Keeps old new → AreSequencesBelow (length old) sequences → sequences_at new sequences ≡ sequences_at old sequences
sequences_kept old new [] kept below = refl
sequences_kept old new (one ∷ others) kept below = ap (λ (s : CxxStandard). s ∷ sequences_at new others) (sequence_kept old new one kept below.0) ∙ ap (λ ss. sequence_at old one ∷ ss) (sequences_kept old new others kept below.1)

row_kept : (old new : List CxxType) (row : Contending) → Keeps old new → AreTypesBelow (length old) row.parameters × AreSequencesBelow (length old) row.sequences → row_at new row ≡ row_at old row
row_kept old new row kept below =
    let make : List CxxType → List CxxStandard → CxxRow = λ parameters sequences. record { position = row.position; parameters = parameters; sequences = sequences } in
    ap (λ ps. make ps (sequences_at new row.sequences)) (parameters_kept old new row.parameters kept below.0) ∙ ap (λ ss. make (parameters_at old row.parameters) ss) (sequences_kept old new row.sequences kept below.1)

rows_kept : (old new : List CxxType) (rows : List Contending) → Keeps old new → AreRowsBelow (length old) rows → rows_at new rows ≡ rows_at old rows
rows_kept old new [] kept below = refl
rows_kept old new (one ∷ others) kept below = ap (λ (r : CxxRow). r ∷ rows_at new others) (row_kept old new one kept below.0) ∙ ap (λ rs. row_at old one ∷ rs) (rows_kept old new others kept below.1)

call_kept : (old new : List CxxType) (call : Decided) → Keeps old new → AreOperandsBelow (length old) call.operands × AreRowsBelow (length old) call.rows → call_at new call ≡ call_at old call
call_kept old new call kept below =
    let make : List CxxOperand → List CxxRow → CxxCall = λ operands rows. record { place = call.place; operands = operands; candidates = numbers_at call.candidates; outcomes = call.outcomes; rows = rows; chosen = call.chosen } in
    ap (λ os. make os (rows_at new call.rows)) (operands_kept old new call.operands kept below.0) ∙ ap (λ rs. make (operands_at old call.operands) rs) (rows_kept old new call.rows kept below.1)

pub calls_kept : (old new : List CxxType) (calls : List Decided) → Keeps old new → AreCallsBelow (length old) calls → calls_at new calls ≡ calls_at old calls
calls_kept old new [] kept below = refl
calls_kept old new (one ∷ others) kept below = ap (λ (c : CxxCall). c ∷ calls_at new others) (call_kept old new one kept below.0) ∙ ap (λ cs. call_at old one ∷ cs) (calls_kept old new others kept below.1)

-- ---- numbers stay below a count that grows

operands_later : (m n : ℕ) (operands : List Operand) → m ≤ n → AreOperandsBelow m operands → AreOperandsBelow n operands
operands_later m n [] le below = tt
operands_later m n (one ∷ others) le below = (omega (arith, le, below.0), operands_later m n others le below.1)

types_later : (m n : ℕ) (types : List TypeId) → m ≤ n → AreTypesBelow m types → AreTypesBelow n types
types_later m n [] le below = tt
types_later m n (one ∷ others) le below = (omega (arith, le, below.0), types_later m n others le below.1)

sequences_later : (m n : ℕ) (sequences : List StandardSequence) → m ≤ n → AreSequencesBelow m sequences → AreSequencesBelow n sequences
sequences_later m n [] le below = tt
sequences_later m n (one ∷ others) le below = (record { from = omega (arith, le, below.0.from); to = omega (arith, le, below.0.to) }, sequences_later m n others le below.1)

rows_later : (m n : ℕ) (rows : List Contending) → m ≤ n → AreRowsBelow m rows → AreRowsBelow n rows
rows_later m n [] le below = tt
rows_later m n (one ∷ others) le below = ((types_later m n one.parameters le below.0.0, sequences_later m n one.sequences le below.0.1), rows_later m n others le below.1)

pub calls_later : (m n : ℕ) (calls : List Decided) → m ≤ n → AreCallsBelow m calls → AreCallsBelow n calls
calls_later m n [] le below = tt
calls_later m n (one ∷ others) le below = ((operands_later m n one.operands le below.0.0, rows_later m n one.rows le below.0.1), calls_later m n others le below.1)
