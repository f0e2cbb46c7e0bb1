-- How the conversions of arguments are gathered.
use Rattle.std.proofs.Common.{◌≡◌, ℕ, zero, suc, ◌+◌, ◌<◌, Bool, true, false, cond, List, [], ◌∷◌, ◌++◌, length, Option, Some, None, Ok, Err, refl, sym, ap, ◌∙◌, subst, arith, append_assoc, get_or, drop, drop-cons, add-one}
use Rattle.std.specs.Option.{option_map}
use Rattle.std.proofs.lemmas.List.{append-nil}
use Rattle.cxx_model.specs.declared.sequence.Operand.{Operand}
use Rattle.cxx_model.specs.declared.stop.Wait.{Wait}
use Rattle.cxx_model.specs.declared.stop.Wait.TheVariants as wait
use Rattle.cxx_model.specs.declared.types.TypeId.{TypeId}
use Rattle.cxx_model.specs.Facts.Declarations.{CxxGraph}
use Rattle.cxx_model.specs.Types.Numbers.{type_at, AreTypesBelow}
use Rattle.cxx_model.specs.Types.Trees.{CxxType}
use Rattle.cxx_meaning.specs.declared.steps.SequenceSteps.{SequenceSteps}
use Rattle.cxx_meaning.specs.Conversions.Asking.{Asked, ◌>>=◌, Waits}
use Rattle.cxx_meaning.specs.Conversions.Standard.{sequence_by, standard_sequence, steps_between}
use Rattle.cxx_overload.specs.declared.conversion.Conversion.{Conversion}
use Rattle.cxx_overload.specs.Asking.{after, conversion_beyond, conversion_of, first_missing, is_missing, joined}
use Rattle.cxx_overload.specs.Sequences.{CxxSequence, behind, found_sequence, sequence_of, sequences_of}
use Rattle.cxx_standard.specs.Views.{operand_at}
use Rattle.cxx_overload.specs.Views.{listed_at, operands_at, row_at, sequence_at, AreOperandsBelow}

-- ---- answers in turn

pub after_none : {A : Type 0} (asked : Asked (List A)) → after [] asked ≡ asked
after_none (Ok xs) = refl
after_none (Err class) = refl

step : {A : Type 0} (found : List A) (one : A) (rest : Asked (List A)) → after found (joined (Ok one) rest) ≡ after (found ++ one ∷ []) rest
step found one (Ok xs) = ap (λ ys. Ok ys) (sym (append_assoc found (one ∷ []) xs))
step found one (Err class) = refl

pub after_step : {A : Type 0} (found : List A) (first : Asked A) (rest : Asked (List A)) (one : A) → first ≡ Ok one → after found (joined first rest) ≡ after (found ++ one ∷ []) rest
after_step found first rest one is = ap (λ f. after found (joined f rest)) is ∙ step found one rest

-- where one answer needs a class, the whole does
pub after_stop : {A : Type 0} (found : List A) (first : Asked A) (rest total : Asked (List A)) (why : Wait) → after found (joined first rest) ≡ total → Waits why first → Waits why total
after_stop found first rest total wait.OutOfMemory same waits = tt
after_stop found first rest total (wait.Needs class) same waits = sym same ∙ ap (λ f. after found (joined f rest)) waits

-- ---- parameters

pub count_types : (types : List CxxType) (numbers : List TypeId) → length (listed_at types numbers) ≡ length numbers
count_types types [] = refl
count_types types (n ∷ numbers) = grind (arith, count_types types numbers)

pub count_operands : (types : List CxxType) (operands : List Operand) → length (operands_at types operands) ≡ length operands
count_operands types [] = refl
count_operands types (x ∷ operands) = grind (arith, count_operands types operands)

pub types_behind : (count : ℕ) (numbers : List TypeId) → AreTypesBelow count numbers → AreTypesBelow count (behind numbers)
types_behind count [] below = tt
types_behind count (n ∷ numbers) below = below.1

listed_behind : (types : List CxxType) (numbers : List TypeId) → listed_at types (behind numbers) ≡ behind (listed_at types numbers)
listed_behind types [] = refl
listed_behind types (n ∷ numbers) = refl

drop_behind : {A : Type 0} (n : ℕ) (xs : List A) → drop n (behind xs) ≡ behind (drop n xs)
drop_behind zero xs = refl
drop_behind (suc n) [] = refl
drop_behind (suc n) (x ∷ xs) = by n xs
  where
    by : {A : Type 0} (n : ℕ) (xs : List A) → drop (suc n) xs ≡ behind (drop n xs)
    by zero [] = refl
    by zero (x ∷ xs) = refl
    by (suc n) [] = refl
    by (suc n) (x ∷ xs) = by n xs

drop_more : {A : Type 0} (n : ℕ) (xs : List A) → drop (suc n) xs ≡ behind (drop n xs)
drop_more zero [] = refl
drop_more zero (x ∷ xs) = refl
drop_more (suc n) [] = refl
drop_more (suc n) (x ∷ xs) = drop_more n xs

-- ---- rows

row_none : (types : List CxxType) (operands : List Operand) (parameters : List TypeId) → row_at types operands parameters [] ≡ []
row_none types [] parameters = refl
row_none types (x ∷ operands) parameters = refl

row_more : (types : List CxxType) (operands rest : List Operand) (parameters : List TypeId) (found : List Conversion) (operand : Operand) (one : Conversion) → drop (length found) operands ≡ operand ∷ rest → row_at types operands parameters (found ++ one ∷ []) ≡ row_at types operands parameters found ++ sequence_at types operand one (drop (length found) parameters) ∷ []
row_more types [] rest parameters [] operand one is = absurd cc
row_more types (x ∷ operands) rest parameters [] operand one is =
    let same : x ≡ operand = cc in
    ap (λ xs. sequence_at types x one parameters ∷ xs) (row_none types operands (behind parameters)) ∙ ap (λ o. sequence_at types o one parameters ∷ []) same
row_more types [] rest parameters (c ∷ found) operand one is = absurd cc
row_more types (x ∷ operands) rest parameters (c ∷ found) operand one is =
    ap (λ xs. sequence_at types x c parameters ∷ xs) (row_more types operands rest (behind parameters) found operand one is)
    ∙ ap (λ ps. sequence_at types x c parameters ∷ (row_at types operands (behind parameters) found ++ sequence_at types operand one ps ∷ [])) (drop_behind (length found) parameters ∙ sym (drop_more (length found) parameters))

-- ---- one argument

pub empty_means : (graph : CxxGraph) (types : List CxxType) (operand : Operand) (parameters : List TypeId) (ellipsis : Bool) (one : Conversion) → length parameters < 1 → one ≡ conversion_beyond ellipsis → sequence_of graph (operand_at types operand) (listed_at types parameters) ellipsis ≡ Ok (sequence_at types operand one parameters)
empty_means graph types operand [] true one few is = ap (λ c. Ok (sequence_at types operand c [])) (sym is)
empty_means graph types operand [] false one few is = ap (λ c. Ok (sequence_at types operand c [])) (sym is)
empty_means graph types operand (p ∷ parameters) ellipsis one few is = absurd (omega (arith, few))

by_steps : (types : List CxxType) (operand : Operand) (p : TypeId) (others : List TypeId) (steps : Option SequenceSteps) → found_sequence (option_map (sequence_by (operand_at types operand) (type_at types p.0)) steps) ≡ sequence_at types operand (conversion_of steps) (p ∷ others)
by_steps types operand p others None = refl
by_steps types operand p others (Some steps) = refl

pub conversion_means : (graph : CxxGraph) (types : List CxxType) (operand : Operand) (parameters : List TypeId) (d : TypeId) (ellipsis : Bool) (steps : Option SequenceSteps) (one : Conversion) → 0 < length parameters → steps_between graph (operand_at types operand) (type_at types (get_or parameters 0 d).0) ≡ Ok steps → one ≡ conversion_of steps → sequence_of graph (operand_at types operand) (listed_at types parameters) ellipsis ≡ Ok (sequence_at types operand one parameters)
unfolding standard_sequence
conversion_means graph types operand [] d ellipsis steps one some is made = absurd (omega (arith, some))
conversion_means graph types operand (p ∷ parameters) d ellipsis steps one some is made =
    ap (λ asked. (asked >>= λ found. Ok (option_map (sequence_by (operand_at types operand) (type_at types p.0)) found)) >>= λ found. Ok (found_sequence found)) is
    ∙ ap (λ s. Ok s) (by_steps types operand p parameters steps)
    ∙ ap (λ c. Ok (sequence_at types operand c (p ∷ parameters))) (sym made)

pub conversion_waits : (graph : CxxGraph) (types : List CxxType) (operand : Operand) (parameters : List TypeId) (d : TypeId) (ellipsis : Bool) (why : Wait) → 0 < length parameters → Waits why (steps_between graph (operand_at types operand) (type_at types (get_or parameters 0 d).0)) → Waits why (sequence_of graph (operand_at types operand) (listed_at types parameters) ellipsis)
unfolding standard_sequence
conversion_waits graph types operand parameters d ellipsis wait.OutOfMemory some waits = tt
conversion_waits graph types operand [] d ellipsis (wait.Needs class) some waits = absurd (omega (arith, some))
conversion_waits graph types operand (p ∷ parameters) d ellipsis (wait.Needs class) some waits =
    ap (λ asked. (asked >>= λ found. Ok (option_map (sequence_by (operand_at types operand) (type_at types p.0)) found)) >>= λ found. Ok (found_sequence found)) waits

-- ---- all arguments

pub converted_start : (types : List CxxType) (operands : List Operand) (parameters : List TypeId) (found : List Conversion) (total : Asked (List CxxSequence)) → found ≡ [] → after (row_at types operands parameters found) total ≡ total
converted_start types operands parameters found total is =
    ap (λ xs. after (row_at types operands parameters xs) total) is
    ∙ ap (λ xs. after xs total) (row_none types operands parameters)
    ∙ after_none total

converted_first : (graph : CxxGraph) (types : List CxxType) (operands : List Operand) (at : List TypeId) (ellipsis : Bool) (operand : Operand) (rest : List Operand) → operands ≡ operand ∷ rest → sequences_of graph (operands_at types operands) (listed_at types at) ellipsis ≡ joined (sequence_of graph (operand_at types operand) (listed_at types at) ellipsis) (sequences_of graph (operands_at types rest) (listed_at types (behind at)) ellipsis)
converted_first graph types operands at ellipsis operand rest is =
    ap (λ xs. sequences_of graph (operands_at types xs) (listed_at types at) ellipsis) is
    ∙ ap (λ ps. joined (sequence_of graph (operand_at types operand) (listed_at types at) ellipsis) (sequences_of graph (operands_at types rest) ps ellipsis)) (sym (listed_behind types at))

next : {A : Type 0} (xs : List A) (i : ℕ) (x d : A) → i < length xs → x ≡ get_or xs i d → drop i xs ≡ x ∷ drop (i + 1) xs
next xs i x d below is = drop-cons xs i d below ∙ ap (λ y. y ∷ drop (suc i) xs) (sym is) ∙ ap (λ k. x ∷ drop k xs) (sym (add-one i))

pub converted_step : (graph : CxxGraph) (types : List CxxType) (operands : List Operand) (parameters at : List TypeId) (found : List Conversion) (i : ℕ) (ellipsis : Bool) (one : Conversion) (operand d : Operand) → i < length operands → operand ≡ get_or operands i d → length found ≡ i → at ≡ drop i parameters → sequence_of graph (operand_at types operand) (listed_at types at) ellipsis ≡ Ok (sequence_at types operand one at) → after (row_at types operands parameters (found ++ one ∷ [])) (sequences_of graph (operands_at types (drop (i + 1) operands)) (listed_at types (behind at)) ellipsis) ≡ after (row_at types operands parameters found) (sequences_of graph (operands_at types (drop i operands)) (listed_at types at) ellipsis)
converted_step graph types operands parameters at found i ellipsis one operand d below here counted met is =
    let rest : Asked (List CxxSequence) = sequences_of graph (operands_at types (drop (i + 1) operands)) (listed_at types (behind at)) ellipsis in
    let split : drop i operands ≡ operand ∷ drop (i + 1) operands = next operands i operand d below here in
    ap (λ xs. after xs rest) (row_more types operands (drop (i + 1) operands) parameters found operand one (ap (λ k. drop k operands) counted ∙ split))
    ∙ ap (λ ps. after (row_at types operands parameters found ++ sequence_at types operand one ps ∷ []) rest) (ap (λ k. drop k parameters) counted ∙ sym met)
    ∙ sym (after_step (row_at types operands parameters found) (sequence_of graph (operand_at types operand) (listed_at types at) ellipsis) rest (sequence_at types operand one at) is)
    ∙ ap (after (row_at types operands parameters found)) (sym (converted_first graph types (drop i operands) at ellipsis operand (drop (i + 1) operands) split))

pub converted_stop : (graph : CxxGraph) (types : List CxxType) (operands : List Operand) (at : List TypeId) (found : List CxxSequence) (i : ℕ) (ellipsis : Bool) (operand d : Operand) (why : Wait) (total : Asked (List CxxSequence)) → i < length operands → operand ≡ get_or operands i d → after found (sequences_of graph (operands_at types (drop i operands)) (listed_at types at) ellipsis) ≡ total → Waits why (sequence_of graph (operand_at types operand) (listed_at types at) ellipsis) → Waits why total
converted_stop graph types operands at found i ellipsis operand d why total below here same waits =
    after_stop found (sequence_of graph (operand_at types operand) (listed_at types at) ellipsis) (sequences_of graph (operands_at types (drop (i + 1) operands)) (listed_at types (behind at)) ellipsis) total why
    (ap (after found) (sym (converted_first graph types (drop i operands) at ellipsis operand (drop (i + 1) operands) (next operands i operand d below here))) ∙ same)
    waits

pub converted_end : (graph : CxxGraph) (types : List CxxType) (left : List Operand) (at : List CxxType) (found : List CxxSequence) (ellipsis : Bool) (total : Asked (List CxxSequence)) → left ≡ [] → after found (sequences_of graph (operands_at types left) at ellipsis) ≡ total → total ≡ Ok found
converted_end graph types left at found ellipsis total none same = sym same ∙ ap (λ xs. after found (sequences_of graph (operands_at types xs) at ellipsis)) none ∙ ap (λ xs. Ok xs) (append-nil found)

pub parameters_behind : (at parameters : List TypeId) (i : ℕ) → at ≡ drop i parameters → behind at ≡ drop (i + 1) parameters
parameters_behind at parameters i is = ap behind is ∙ sym (drop_more i parameters) ∙ ap (λ k. drop k parameters) (sym (add-one i))

pub operand_below : (count : ℕ) (operands : List Operand) (i : ℕ) (operand d : Operand) → AreOperandsBelow count operands → i < length operands → operand ≡ get_or operands i d → operand.of.0 < count
operand_below count [] i operand d below inside is = absurd (omega (arith, inside))
operand_below count (x ∷ operands) zero operand d below inside is = subst (λ (o : Operand). o.of.0 < count) (sym is) below.0
operand_below count (x ∷ operands) (suc i) operand d below inside is = operand_below count operands i operand d below.1 (omega (arith, inside)) is

-- ---- what is not converted

pub missing_here : (conversions : List Conversion) (i : ℕ) (one d : Conversion) → i < length conversions → one ≡ get_or conversions i d → is_missing one ≡ true → first_missing (i + 1) (drop i conversions) ≡ Some (i + 1)
missing_here conversions i one d below is missing =
    ap (first_missing (i + 1)) (drop-cons conversions i d below)
    ∙ ap (λ b. cond b (Some (i + 1)) (first_missing (suc (i + 1)) (drop (suc i) conversions))) (ap is_missing (sym is) ∙ missing)

pub missing_later : (conversions : List Conversion) (i : ℕ) (one d : Conversion) → i < length conversions → one ≡ get_or conversions i d → is_missing one ≡ false → first_missing (i + 1) (drop i conversions) ≡ first_missing (i + 1 + 1) (drop (i + 1) conversions)
missing_later conversions i one d below is missing =
    ap (first_missing (i + 1)) (drop-cons conversions i d below)
    ∙ ap (λ b. cond b (Some (i + 1)) (first_missing (suc (i + 1)) (drop (suc i) conversions))) (ap is_missing (sym is) ∙ missing)
    ∙ ap (λ n. first_missing n (drop (suc i) conversions)) (sym (add-one (i + 1)))
    ∙ ap (λ n. first_missing (i + 1 + 1) (drop n conversions)) (sym (add-one i))
