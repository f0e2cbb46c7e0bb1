-- What is kept of a call, gathered one after another.
use Rattle.std.specs.Prelude.{ℕ, suc, ◌≡◌, ◌<◌, List, [], ◌∷◌, ◌++◌, length, map, Option, Some, None, IfSome, refl}
use Rattle.std.proofs.Common.{◌+◌, ap, sym, subst, ◌∙◌, append_assoc, arith, get_or, drop}
use Rattle.std.proofs.lemmas.List.{at_drop_more}
use Rattle.std.specs.List.{All, cons_option}
use Rattle.cxx_model.specs.declared.sequence.Operand.{Operand}
use Rattle.cxx_model.specs.declared.sequence.StandardSequence.{StandardSequence}
use Rattle.cxx_model.specs.declared.types.FactId.{FactId}
use Rattle.cxx_model.specs.declared.types.TypeId.{TypeId}
use Rattle.cxx_model.specs.Types.Numbers.{type_at}
use Rattle.cxx_model.specs.Types.Trees.{CxxType}
use Rattle.cxx_reading.specs.State.{CxxRow}
use Rattle.cxx_standard.specs.Views.{operand_at, sequence_at, IsSequenceBelow}
use Rattle.cxx_overload.specs.Calls.{number_of, row_of}
use Rattle.cxx_overload.specs.Contests.{contender_at, contenders_at}
use Rattle.cxx_overload.specs.declared.contender.Contender.{Contender}
use Rattle.cxx_overload.specs.declared.conversion.Conversion.{Conversion}
use Rattle.cxx_overload.specs.declared.object.Object.{Object}
use Rattle.cxx_overload.specs.declared.rating.Rated.{Rated}
use Rattle.cxx_overload.specs.Views as overload
use Rattle.cxx_overload.specs.Views.{IsObject, object_at, passed, rated_at}
use Rattle.cxx_expr.specs.Views.{types_in}
use Rattle.cxx_tree.specs.declared.kept.Contending.{Contending}
use Rattle.cxx_tree.specs.Held as held
use Rattle.cxx_tree.specs.Held.{numbers_at, parameters_at, rows_at, row_at, AreRowsBelow, AreSequencesBelow}

-- ---- candidates

numbers_more : (found : List FactId) (one : FactId) → numbers_at (found ++ one ∷ []) ≡ numbers_at found ++ one.0 ∷ []
numbers_more [] one = refl
numbers_more (first ∷ found) one = ap (λ ns. first.0 ∷ ns) (numbers_more found one)

numbers_first : (found : List FactId) (one : FactId) (others : List ℕ) → numbers_at found ++ one.0 ∷ others ≡ numbers_at (found ++ one ∷ []) ++ others
numbers_first found one others = sym (append_assoc (numbers_at found) (one.0 ∷ []) others) ∙ ap (λ ns. ns ++ others) (sym (numbers_more found one))

-- one more candidate
pub numbers_step : (types : List CxxType) (object : Option Object) (operands : List Operand) (conversions : List Conversion) (found after : List FactId) (all : List Rated) (i : ℕ) (one d : Rated) (whole : List ℕ) → i < length all → one ≡ get_or all i d → after ≡ found ++ one.candidate.number ∷ [] → numbers_at found ++ map number_of (map (rated_at types object operands conversions) (drop i all)) ≡ whole → numbers_at after ++ map number_of (map (rated_at types object operands conversions) (drop (i + 1) all)) ≡ whole
numbers_step types object operands conversions found after all i one d whole below is added same =
    ap (λ ns. numbers_at ns ++ map number_of (map (rated_at types object operands conversions) (drop (i + 1) all))) added
    ∙ sym (numbers_first found one.candidate.number (map number_of (map (rated_at types object operands conversions) (drop (i + 1) all))))
    ∙ ap (λ r. numbers_at found ++ map number_of (map (rated_at types object operands conversions) (r ∷ drop (i + 1) all))) is
    ∙ sym (at_drop_more (λ rs. numbers_at found ++ map number_of (map (rated_at types object operands conversions) rs)) all i d below)
    ∙ same

-- ---- rows

pub sequences_same : (types : List CxxType) (found : List StandardSequence) → held.sequences_at types found ≡ map (sequence_at types) found
sequences_same types [] = refl
sequences_same types (one ∷ found) = ap (λ ss. sequence_at types one ∷ ss) (sequences_same types found)

pub sequences_below : (count : ℕ) (found : List StandardSequence) → All (IsSequenceBelow count) found → AreSequencesBelow count found
sequences_below count [] all = tt
sequences_below count (one ∷ found) all = (all 0 one (omega arith), sequences_below count found (λ k d below. all (suc k) d (omega (arith, below))))

rows_more : (types : List CxxType) (found : List Contending) (one : Contending) → rows_at types (found ++ one ∷ []) ≡ rows_at types found ++ row_at types one ∷ []
rows_more types [] one = refl
rows_more types (first ∷ found) one = ap (λ rs. row_at types first ∷ rs) (rows_more types found one)

rows_first : (types : List CxxType) (object : Option Object) (operands : List Operand) (found : List Contending) (row : Contending) (one : Contender) (others : List Contender) → row_at types row ≡ row_of (object_at types object) (contender_at types object operands one) → rows_at types found ++ map (row_of (object_at types object)) (contenders_at types object operands (one ∷ others)) ≡ rows_at types (found ++ row ∷ []) ++ map (row_of (object_at types object)) (contenders_at types object operands others)
rows_first types object operands found row one others is =
    ap (λ r. rows_at types found ++ (r ∷ map (row_of (object_at types object)) (contenders_at types object operands others))) (sym is)
    ∙ sym (append_assoc (rows_at types found) (row_at types row ∷ []) (map (row_of (object_at types object)) (contenders_at types object operands others)))
    ∙ ap (λ rs. rs ++ map (row_of (object_at types object)) (contenders_at types object operands others)) (sym (rows_more types found row))

-- one more viable candidate
pub rows_step : (types : List CxxType) (object : Option Object) (operands : List Operand) (found after : List Contending) (row : Contending) (all : List Contender) (i : ℕ) (one d : Contender) (whole : List CxxRow) → i < length all → one ≡ get_or all i d → row_at types row ≡ row_of (object_at types object) (contender_at types object operands one) → after ≡ found ++ row ∷ [] → rows_at types found ++ map (row_of (object_at types object)) (contenders_at types object operands (drop i all)) ≡ whole → rows_at types after ++ map (row_of (object_at types object)) (contenders_at types object operands (drop (i + 1) all)) ≡ whole
rows_step types object operands found after row all i one d whole below is made added same =
    ap (λ rs. rows_at types rs ++ map (row_of (object_at types object)) (contenders_at types object operands (drop (i + 1) all))) added
    ∙ sym (rows_first types object operands found row one (drop (i + 1) all) made)
    ∙ ap (λ r. rows_at types found ++ map (row_of (object_at types object)) (contenders_at types object operands (r ∷ drop (i + 1) all))) is
    ∙ sym (at_drop_more (λ rs. rows_at types found ++ map (row_of (object_at types object)) (contenders_at types object operands rs)) all i d below)
    ∙ same

pub rows_below_more : (count : ℕ) (found : List Contending) (one : Contending) → AreRowsBelow count found → AreRowsBelow count (one ∷ []) → AreRowsBelow count (found ++ one ∷ [])
rows_below_more count [] one all last = last
rows_below_more count (first ∷ found) one all last = (all.0, rows_below_more count found one all.1 last)

-- ---- types and operands

pub parameters_same : (types : List CxxType) (numbers : List TypeId) → parameters_at types numbers ≡ overload.listed_at types numbers
parameters_same types [] = refl
parameters_same types (one ∷ numbers) = ap (λ ts. type_at types one.0 ∷ ts) (parameters_same types numbers)

pub types_same : (types : List CxxType) (numbers : List TypeId) → types_in types numbers ≡ overload.listed_at types numbers
types_same types [] = refl
types_same types (one ∷ numbers) = ap (λ ts. type_at types one.0 ∷ ts) (types_same types numbers)

operands_same : (types : List CxxType) (operands : List Operand) → held.operands_at types operands ≡ overload.operands_at types operands
operands_same types [] = refl
operands_same types (one ∷ operands) = ap (λ os. operand_at types one ∷ os) (operands_same types operands)

operands_below : (count : ℕ) (operands : List Operand) → overload.AreOperandsBelow count operands → held.AreOperandsBelow count operands
operands_below count [] below = tt
operands_below count (one ∷ operands) below = (below.0, operands_below count operands below.1)

-- the object, where the call has one, stands before the arguments
pub operands_passed : (types : List CxxType) (object : Option Object) (all operands : List Operand) → all ≡ passed object operands → held.operands_at types all ≡ cons_option (object_at types object) (overload.operands_at types operands)
operands_passed types None all operands are = ap (held.operands_at types) are ∙ operands_same types operands
operands_passed types (Some object) all operands are = ap (held.operands_at types) are ∙ ap (λ os. operand_at types object.operand ∷ os) (operands_same types operands)

pub passed_below : (types : List CxxType) (object : Option Object) (all operands : List Operand) → all ≡ passed object operands → IfSome object (IsObject types) → overload.AreOperandsBelow (length types) operands → held.AreOperandsBelow (length types) all
passed_below types None all operands are there below = subst (held.AreOperandsBelow (length types)) (sym are) (operands_below (length types) operands below)
passed_below types (Some object) all operands are there below = subst (held.AreOperandsBelow (length types)) (sym are) (there.operand, operands_below (length types) operands below)
