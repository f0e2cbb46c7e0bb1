-- Paths that share their ends.
use Rattle.std.proofs.Common.{ℕ, zero, suc, ◌≡◌, ◌<◌, ◌≤◌, ◌+◌, ◌-◌, List, [], ◌∷◌, ◌++◌, length, get_or, refl, ap, sym, subst, ◌∙◌, arith, append_assoc, length-append}
use Rattle.std.proofs.lemmas.List.{get_or_append_left, get_or_default, get_or_push, length_push}
use Rattle.cxx_subobjects.specs.declared.steps.Step.{Step}
use Rattle.cxx_subobjects.specs.Steps.{AreEarlier, Grows, path_at, paths_after, paths_of}

abbrev next_path : List (List ℕ) → Step → List ℕ
next_path paths step = step.index ∷ path_at paths step.rest

stays : (paths : List (List ℕ)) (steps : List Step) (n : ℕ) → n < length paths → path_at (paths_after paths steps) n ≡ path_at paths n
unfolding paths_after
stays paths [] n lt = refl
stays paths (step ∷ steps) n lt =
    let more : n < length (paths ++ next_path paths step ∷ []) = omega (arith, length-append paths (next_path paths step ∷ [])) in
    stays (paths ++ next_path paths step ∷ []) steps n more ∙ get_or_append_left paths (next_path paths step ∷ []) [] n lt

joined : (paths : List (List ℕ)) (steps more : List Step) → paths_after paths (steps ++ more) ≡ paths_after (paths_after paths steps) more
unfolding paths_after
joined paths [] more = refl
joined paths (step ∷ steps) more = joined (paths ++ next_path paths step ∷ []) steps more

length_after : (paths : List (List ℕ)) (steps : List Step) → length (paths_after paths steps) ≡ length paths + length steps
unfolding paths_after
length_after paths [] = omega arith
length_after paths (step ∷ steps) =
    let e : length (paths ++ next_path paths step ∷ []) ≡ length paths + 1 = length_push paths (next_path paths step) in
    let r : length (paths_after (paths ++ next_path paths step ∷ []) steps) ≡ length (paths ++ next_path paths step ∷ []) + length steps = length_after (paths ++ next_path paths step ∷ []) steps in
    omega arith

length_of : (steps : List Step) → length (paths_of steps) ≡ length steps + 1
unfolding paths_of
length_of steps =
    let r : length (paths_after ([] ∷ []) steps) ≡ 1 + length steps = length_after ([] ∷ []) steps in
    omega arith

pushed : (steps : List Step) (step : Step) → paths_of (steps ++ step ∷ []) ≡ paths_of steps ++ next_path (paths_of steps) step ∷ []
unfolding paths_of paths_after
pushed steps step = joined ([] ∷ []) steps (step ∷ [])

-- the path of a new step
pub new_path : (steps new : List Step) (index rest number : ℕ) → number ≡ length steps + 1 → new ≡ steps ++ record { index = index; rest = rest } ∷ [] → path_at (paths_of new) number ≡ index ∷ path_at (paths_of steps) rest
new_path steps new index rest number at is =
    let step : Step = record { index = index; rest = rest } in
    let e : length (paths_of steps) ≡ number = length_of steps ∙ sym at in
    ap (λ (xs : List Step). path_at (paths_of xs) number) is ∙ ap (λ (ps : List (List ℕ)). path_at ps number) (pushed steps step) ∙ get_or_push (paths_of steps) (next_path (paths_of steps) step) [] number e

pub grows_one : (steps new : List Step) (step : Step) → new ≡ steps ++ step ∷ [] → Grows steps new
grows_one steps new step is = record {
  more = (let e : length new ≡ length steps + 1 = ap length is ∙ length_push steps step in omega arith);
  same = λ n le. (
      let e : length (paths_of steps) ≡ length steps + 1 = length_of steps in
      let lt : n < length (paths_of steps) = omega arith in
      ap (λ (xs : List Step). path_at (paths_of xs) n) is ∙ ap (λ (ps : List (List ℕ)). path_at ps n) (pushed steps step) ∙ get_or_append_left (paths_of steps) (next_path (paths_of steps) step ∷ []) [] n lt
      );
}

-- ---- the path with a number

step_at : (paths : List (List ℕ)) (steps : List Step) (i : ℕ) (step : Step) → i < length steps → step ≡ get_or steps i step → step.rest < length paths + i → path_at (paths_after paths steps) (length paths + i) ≡ next_path (paths_after paths steps) step
unfolding paths_after
step_at paths [] i step lt is below = absurd (omega arith)
step_at paths (first ∷ steps) zero step lt is below =
    let longer : List (List ℕ) = paths ++ next_path paths first ∷ [] in
    let count : length longer ≡ length paths + 1 = length_push paths (next_path paths first) in
    let here : path_at (paths_after longer steps) (length paths + 0) ≡ path_at longer (length paths + 0) = stays longer steps (length paths + 0) (omega arith) in
    let end : path_at longer (length paths + 0) ≡ next_path paths first = get_or_push paths (next_path paths first) [] (length paths + 0) (omega arith) in
    let same : next_path paths first ≡ next_path paths step = ap (next_path paths) (sym is) in
    let rest : path_at (paths_after longer steps) step.rest ≡ path_at paths step.rest = stays longer steps step.rest (omega arith) ∙ get_or_append_left paths (next_path paths first ∷ []) [] step.rest (omega arith) in
    here ∙ end ∙ same ∙ ap (λ (path : List ℕ). step.index ∷ path) (sym rest)
step_at paths (first ∷ steps) (suc i) step lt is below =
    let longer : List (List ℕ) = paths ++ next_path paths first ∷ [] in
    let count : length longer ≡ length paths + 1 = length_push paths (next_path paths first) in
    let at : length longer + i ≡ length paths + suc i = omega arith in
    subst (λ (n : ℕ). path_at (paths_after longer steps) n ≡ next_path (paths_after longer steps) step) at (step_at longer steps i step (omega arith) is (omega arith))

-- a step that is there is read
pub at_read : (steps : List Step) (at : ℕ) → 0 < at → at ≤ length steps → get_or steps (at - 1) (record { index = 0; rest = 0 }) ≡ get_or steps (at - 1) (get_or steps (at - 1) (record { index = 0; rest = 0 }))
at_read steps at some within = get_or_default steps (at - 1) (record { index = 0; rest = 0 }) (get_or steps (at - 1) (record { index = 0; rest = 0 })) (omega arith)

-- one step of a path is known, and what is left of it
pub path_more : (steps : List Step) (found longer : List ℕ) (at : ℕ) (step : Step) (whole : List ℕ) → AreEarlier steps → 0 < at → at ≤ length steps → step ≡ get_or steps (at - 1) step → longer ≡ found ++ step.index ∷ [] → found ++ path_at (paths_of steps) at ≡ whole → longer ++ path_at (paths_of steps) step.rest ≡ whole
unfolding paths_of
path_more steps found longer at step whole earlier some within is made so_far =
    let low : step.rest ≤ at - 1 = subst (λ (s : Step). s.rest ≤ at - 1) (sym is) (earlier (at - 1) step (omega arith)) in
    let n : 1 + (at - 1) ≡ at = omega arith in
    let here : path_at (paths_after ([] ∷ []) steps) (1 + (at - 1)) ≡ step.index ∷ path_at (paths_after ([] ∷ []) steps) step.rest = step_at ([] ∷ []) steps (at - 1) step (omega arith) is (omega arith) in
    let there : path_at (paths_of steps) at ≡ step.index ∷ path_at (paths_of steps) step.rest = subst (λ (k : ℕ). path_at (paths_after ([] ∷ []) steps) k ≡ step.index ∷ path_at (paths_after ([] ∷ []) steps) step.rest) n here in
    ap (λ (xs : List ℕ). xs ++ path_at (paths_of steps) step.rest) made ∙ append_assoc found (step.index ∷ []) (path_at (paths_of steps) step.rest) ∙ ap (λ (xs : List ℕ). found ++ xs) (sym there) ∙ so_far

pub rest_within : (steps : List Step) (at : ℕ) (step : Step) → AreEarlier steps → 0 < at → at ≤ length steps → step ≡ get_or steps (at - 1) step → step.rest < at
rest_within steps at step earlier some within is =
    let low : step.rest ≤ at - 1 = subst (λ (s : Step). s.rest ≤ at - 1) (sym is) (earlier (at - 1) step (omega arith)) in
    omega arith

pub path_whole : (steps : List Step) (found : List ℕ) (at : ℕ) (whole : List ℕ) → at ≤ 0 → found ++ path_at (paths_of steps) at ≡ whole → found ≡ whole
unfolding paths_of
path_whole steps found at whole none so_far =
    let zeroth : at ≡ 0 = omega arith in
    let empty : path_at (paths_after ([] ∷ []) steps) 0 ≡ [] = stays ([] ∷ []) steps 0 (omega arith) in
    sym (append_nil found) ∙ ap (λ (xs : List ℕ). found ++ xs) (sym (ap (λ (k : ℕ). path_at (paths_after ([] ∷ []) steps) k) zeroth ∙ empty)) ∙ so_far
  where
    append_nil : (xs : List ℕ) → xs ++ [] ≡ xs
    append_nil [] = refl
    append_nil (x ∷ xs) = ap (λ (ys : List ℕ). x ∷ ys) (append_nil xs)
