-- The champion of those that were compared, and what its counter shows.
use Rattle.std.proofs.Common.{◌≡◌, ◌≢◌, ℕ, ◌+◌, ◌<◌, Bool, true, false, if◌then◌else◌, Some, refl, sym, ap, subst, inl, inr, arith, below_more}
use Rattle.std.proofs.lemmas.Bool.{cases_order}
use Rattle.cxx_champion.specs.Contests.{IsAsymmetric, IsBest, IsLeastCounter, IsStanding, BeatsBelow}
use Rattle.cxx_champion.specs.Verdicts.{IsVerdict}
use Rattle.cxx_champion.specs.declared.Verdict.{Verdict}
use Rattle.cxx_champion.specs.declared.Verdict.TheVariants.{Best, NoBest, Empty}

clash : (b : Bool) → b ≡ true → b ≡ false → ⊥
clash b one two = cc

pub standing_first : (beats : ℕ → ℕ → Bool) (size : ℕ) → IsStanding beats size 1 0
standing_first beats size = record {
  within = omega arith;
  beats_later = λ other above below. absurd (omega arith);
  others_lose = λ other below apart best. absurd (omega (arith, apart));
}

-- who does not beat another member is not the best
loses : (beats : ℕ → ℕ → Bool) (size member other : ℕ) → other < size → other ≢ member → beats member other ≡ false → ¬ IsBest beats size member
loses beats size member other below apart unbeaten best = clash (beats member other) (best.beats_others other below apart) unbeaten

kept : (beats : ℕ → ℕ → Bool) (size challenger champion : ℕ) → IsAsymmetric beats size → challenger < size → IsStanding beats size challenger champion → beats champion challenger ≡ true → IsStanding beats size (challenger + 1) champion
kept beats size challenger champion asymmetric below standing won =
    let inside : champion < size = omega (arith, standing.within) in
    record {
      within = omega (arith, standing.within);
      beats_later = λ other above under. below_more (λ k. champion < k → beats champion k ≡ true) challenger (λ k under above. standing.beats_later k above under) (λ _. won) other under above;
      others_lose = below_more (λ k. k ≢ champion → ¬ IsBest beats size k) challenger standing.others_lose
          (λ apart. loses beats size challenger champion inside (λ e. apart (sym e)) (asymmetric champion challenger inside below won));
    }

passed : (beats : ℕ → ℕ → Bool) (size challenger champion : ℕ) → challenger < size → IsStanding beats size challenger champion → beats champion challenger ≡ false → (other : ℕ) → other < challenger → ¬ IsBest beats size other
passed beats size challenger champion below standing lost other under =
    elim (cases_order other champion) [
      | inl same ↦ subst (λ k. ¬ IsBest beats size k) (sym same) (loses beats size champion challenger below (λ e. omega (arith, e, standing.within)) lost)
      | inr apart ↦ standing.others_lose other under (λ e. elim apart [ inl less ↦ omega (arith, e, less) | inr more ↦ omega (arith, e, more) ])
    ]

replaced : (beats : ℕ → ℕ → Bool) (size challenger champion : ℕ) → challenger < size → IsStanding beats size challenger champion → beats champion challenger ≡ false → IsStanding beats size (challenger + 1) challenger
replaced beats size challenger champion below standing lost = record {
  within = omega arith;
  beats_later = λ other above under. absurd (omega (arith, above, under));
  others_lose = below_more (λ k. k ≢ challenger → ¬ IsBest beats size k) challenger (λ k under _. passed beats size challenger champion below standing lost k under) (λ apart. absurd (apart refl));
}

-- one more is compared: it takes the champion's place where the champion does not beat it
pub standing_more : (beats : ℕ → ℕ → Bool) (size challenger champion : ℕ) → IsAsymmetric beats size → challenger < size → IsStanding beats size challenger champion
    → IsStanding beats size (challenger + 1) (if beats champion challenger then champion else challenger)
standing_more beats size challenger champion asymmetric below standing =
    by (beats champion challenger) refl
  where
    by : (won : Bool) → beats champion challenger ≡ won → IsStanding beats size (challenger + 1) (if won then champion else challenger)
    by true won = kept beats size challenger champion asymmetric below standing won
    by false lost = replaced beats size challenger champion below standing lost

-- who beats those before it too is the best
pub best_where_unbeaten : (beats : ℕ → ℕ → Bool) (size champion : ℕ) → IsStanding beats size size champion → BeatsBelow beats champion champion → IsVerdict beats size (Best champion)
best_where_unbeaten beats size champion standing before = record {
  within = standing.within;
  beats_others = λ other below apart. elim (cases_order other champion) [
    | inl same ↦ absurd (apart same)
    | inr sides ↦ elim sides [ inl less ↦ before other less apart | inr more ↦ standing.beats_later other more below ]
  ];
}

-- where it does not beat one before it, there is no best
pub none_where_beaten : (beats : ℕ → ℕ → Bool) (size champion counter : ℕ) → IsStanding beats size size champion → IsLeastCounter beats champion champion (Some counter) → IsVerdict beats size (NoBest champion counter)
none_where_beaten beats size champion counter standing found =
    let below : counter < size = omega (arith, found.0.within, standing.within) in (
      standing.within,
      record { within = below; apart = found.0.apart; unbeaten = found.0.unbeaten },
      λ member best. elim (cases_order member champion) [
        | inl same ↦ loses beats size champion counter below found.0.apart found.0.unbeaten (subst (λ k. IsBest beats size k) same best)
        | inr sides ↦ standing.others_lose member best.within (λ e. elim sides [ inl less ↦ omega (arith, e, less) | inr more ↦ omega (arith, e, more) ]) best
      ],
    )

-- there are no two best members
pub best_same : (beats : ℕ → ℕ → Bool) (size one two : ℕ) → IsAsymmetric beats size → IsBest beats size one → IsBest beats size two → one ≡ two
best_same beats size one two asymmetric best other =
    elim (cases_order one two) [
      | inl same ↦ same
      | inr sides ↦ absurd (
          let apart : one ≢ two = λ e. elim sides [ inl less ↦ omega (arith, e, less) | inr more ↦ omega (arith, e, more) ] in
          clash (beats one two) (best.beats_others two other.within (λ e. apart (sym e))) (asymmetric two one other.within best.within (other.beats_others one best.within apart)))
    ]

-- the best member is the one that is answered
pub best_answered : (beats : ℕ → ℕ → Bool) (size : ℕ) (verdict : Verdict) → IsAsymmetric beats size → IsVerdict beats size verdict → (member : ℕ) → IsBest beats size member → verdict ≡ Best member
best_answered beats size (Best champion) asymmetric is member best = ap (λ k. Best k) (best_same beats size champion member asymmetric is best)
best_answered beats size (NoBest champion counter) asymmetric is member best = absurd (is.2 member best)
best_answered beats size Empty asymmetric is member best = absurd (omega (arith, is, best.within))
