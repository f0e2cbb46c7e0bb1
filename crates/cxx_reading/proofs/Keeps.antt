-- A relation between states before and after: what readers keep of the state.

-- it holds of a state and itself, and from one to a third
pub record IsKept {S : Type 0} (kept : S → S → Type 0) : Type 0 where
  pub same : (s : S) → kept s s
  pub later : (s t u : S) → kept s t → kept t u → kept s u
