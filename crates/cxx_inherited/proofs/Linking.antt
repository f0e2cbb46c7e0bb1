-- Paths that share their ends.
use Rattle.std.proofs.Common.{◌≡◌, ℕ, zero, suc, ◌+◌, ◌-◌, ◌<◌, ◌≤◌, List, [], ◌∷◌, ◌++◌, length, get_or, refl, ap, sym, ◌∙◌, subst, arith}
use Rattle.std.proofs.Math.Seq.{get_or-append_seam}
use Rattle.std.proofs.lemmas.List.{length-append, get_or_append_left}
use Rattle.std.specs.List.{slice_get}
use Rattle.std.specs.Prelude.{Some}
use Rattle.std.proofs.lemmas.Option.{get_or_from_slice_get}
use Rattle.cxx_members.specs.Ways.{path_at}
use Rattle.cxx_inherited.specs.Paths.{AreLinked, paths_from, paths_of}
use Rattle.cxx_inherited.specs.declared.paths.Step.{Step}

abbrev path_through : List (List ℕ) → Step → List ℕ
path_through paths step = step.index ∷ path_at paths step.rest

-- one more step makes one more path
push_from : (paths : List (List ℕ)) (steps : List Step) (step : Step) → paths_from paths (steps ++ step ∷ []) ≡ paths_from paths steps ++ path_through (paths_from paths steps) step ∷ []
push_from paths [] step = refl
push_from paths (one ∷ steps) step = push_from (paths ++ path_through paths one ∷ []) steps step

pub paths_push : (steps : List Step) (step : Step) → paths_of (steps ++ step ∷ []) ≡ paths_of steps ++ (step.index ∷ path_at (paths_of steps) step.rest) ∷ []
paths_push steps step = push_from ([] ∷ []) steps step

count_from : (paths : List (List ℕ)) (steps : List Step) → length (paths_from paths steps) ≡ length paths + length steps
count_from paths [] = omega arith
count_from paths (step ∷ steps) =
    let rest = count_from (paths ++ path_through paths step ∷ []) steps in
    let more = length-append paths (path_through paths step ∷ []) in
    omega (arith, rest, more)

pub paths_count : (steps : List Step) → length (paths_of steps) ≡ suc (length steps)
paths_count steps = omega (arith, count_from ([] ∷ []) steps)

linked_more : (count : ℕ) (steps : List Step) (step : Step) → AreLinked count steps → step.rest ≤ count + length steps → AreLinked count (steps ++ step ∷ [])
linked_more count [] step linked le = (omega arith, tt)
linked_more count (one ∷ steps) step linked le = (linked.0, linked_more (suc count) steps step linked.1 (omega arith))

pub linked_push : (steps : List Step) (step : Step) → AreLinked 0 steps → step.rest < length (paths_of steps) → AreLinked 0 (steps ++ step ∷ [])
linked_push steps step linked lt = linked_more 0 steps step linked (omega (arith, paths_count steps))

-- earlier paths stay
kept : (paths : List (List ℕ)) (steps : List Step) (n : ℕ) → n < length paths → path_at (paths_from paths steps) n ≡ path_at paths n
kept paths [] n lt = refl
kept paths (step ∷ steps) n lt =
    let more = length-append paths (path_through paths step ∷ []) in
    kept (paths ++ path_through paths step ∷ []) steps n (omega (arith, more)) ∙ get_or_append_left paths (path_through paths step ∷ []) [] n lt

at_from : (paths : List (List ℕ)) (count : ℕ) (steps : List Step) (k : ℕ) (d : Step) → length paths ≡ suc count → AreLinked count steps → k < length steps → path_at (paths_from paths steps) (length paths + k) ≡ path_through (paths_from paths steps) (get_or steps k d)
at_from paths count [] k d size linked lt = absurd (omega arith)
at_from paths count (step ∷ steps) zero d size linked lt =
    let wider : List (List ℕ) = paths ++ path_through paths step ∷ [] in
    let more = length-append paths (path_through paths step ∷ []) in
    let here : length paths + 0 ≡ length paths = omega arith in
    let at : path_at wider (length paths) ≡ path_through paths step = get_or-append_seam paths (path_through paths step) [] [] in
    let old : path_at (paths_from paths (step ∷ steps)) step.rest ≡ path_at paths step.rest = kept paths (step ∷ steps) step.rest (omega (arith, size, linked.0)) in
    ap (path_at (paths_from wider steps)) here ∙ (kept wider steps (length paths) (omega (arith, more)) ∙ (at ∙ ap (λ xs. step.index ∷ xs) (sym old)))
at_from paths count (step ∷ steps) (suc k) d size linked lt =
    let wider : List (List ℕ) = paths ++ path_through paths step ∷ [] in
    let more = length-append paths (path_through paths step ∷ []) in
    let next : length paths + suc k ≡ length wider + k = omega (arith, more) in
    ap (path_at (paths_from wider steps)) next ∙ at_from wider (suc count) steps k d (omega (arith, more, size)) linked.1 (omega arith)

-- the path of a step
pub path_step : (steps : List Step) (k : ℕ) (d : Step) → AreLinked 0 steps → k < length steps → path_at (paths_of steps) (suc k) ≡ (get_or steps k d).index ∷ path_at (paths_of steps) (get_or steps k d).rest
path_step steps k d linked lt =
    let e : suc k ≡ 1 + k = omega arith in
    ap (path_at (paths_of steps)) e ∙ at_from ([] ∷ []) 0 steps k d refl linked lt

earlier_from : (count : ℕ) (steps : List Step) (k : ℕ) (d : Step) → AreLinked count steps → k < length steps → (get_or steps k d).rest ≤ count + k
earlier_from count [] k d linked lt = absurd (omega arith)
earlier_from count (step ∷ steps) zero d linked lt = omega (arith, linked.0)
earlier_from count (step ∷ steps) (suc k) d linked lt = omega (arith, earlier_from (suc count) steps k d linked.1 (omega arith))

-- it goes on by an earlier one
pub step_earlier : (steps : List Step) (k : ℕ) (d : Step) → AreLinked 0 steps → k < length steps → (get_or steps k d).rest ≤ k
step_earlier steps k d linked lt = omega (arith, earlier_from 0 steps k d linked lt)

pub first_nowhere : (steps : List Step) → path_at (paths_of steps) 0 ≡ []
first_nowhere steps = kept ([] ∷ []) steps 0 (omega arith)

step_within : (steps : List Step) (paths : List (List ℕ)) (number : ℕ) → paths_of steps ≡ paths → number < length paths → 0 < number → number - 1 < length steps
step_within steps paths number view known some = omega (arith, known, some, ap length view, paths_count steps)

-- the step of a path with a number
pub step_is : (steps : List Step) (paths : List (List ℕ)) (number : ℕ) (step : Step) → paths_of steps ≡ paths → AreLinked 0 steps → number < length paths → 0 < number → slice_get steps (number - 1) ≡ Some step → path_at paths number ≡ step.index ∷ path_at paths step.rest
step_is steps paths number step view linked known some get =
    let at = get_or_from_slice_get steps (number - 1) step step get in
    let within = step_within steps paths number view known some in
    let e : number ≡ suc (number - 1) = omega (arith, some) in
    subst (λ (ps : List (List ℕ)). path_at ps number ≡ step.index ∷ path_at ps step.rest) view (ap (path_at (paths_of steps)) e ∙ (path_step steps (number - 1) step linked within ∙ ap (λ (one : Step). one.index ∷ path_at (paths_of steps) one.rest) at))

pub step_before : (steps : List Step) (paths : List (List ℕ)) (number : ℕ) (step : Step) → paths_of steps ≡ paths → AreLinked 0 steps → number < length paths → 0 < number → slice_get steps (number - 1) ≡ Some step → step.rest < number
step_before steps paths number step view linked known some get =
    let at = get_or_from_slice_get steps (number - 1) step step get in
    let within = step_within steps paths number view known some in
    let earlier = step_earlier steps (number - 1) step linked within in
    omega (arith, some, earlier, ap (λ (one : Step). one.rest) at)

pub step_there : (steps : List Step) (paths : List (List ℕ)) (number : ℕ) → paths_of steps ≡ paths → number < length paths → 0 < number → number - 1 < length steps
step_there steps paths number view known some = step_within steps paths number view known some

pub nowhere_first : (steps : List Step) (paths : List (List ℕ)) → paths_of steps ≡ paths → path_at paths 0 ≡ []
nowhere_first steps paths view = ap (λ (ps : List (List ℕ)). path_at ps 0) (sym view) ∙ first_nowhere steps
