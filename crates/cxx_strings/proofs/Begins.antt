-- The piece at the front of a text, as the code finds it.
use Rattle.std.proofs.Common.{◌≡◌, ◌≤◌, ◌<◌, ◌+◌, ℕ, Bool, true, false, ◌==◌, ◌&&◌, List, [], ◌∷◌, length, get_or, Option, refl, sym, ap, ◌∙◌, subst, arith, eqb-true, ⊎_elim}
use Rattle.std.proofs.lemmas.Bool.{and_left, and_right, and_parts, both_ways, cases_Bool}
use Rattle.cxx_model.specs.declared.token.TokenReason.TheVariants as reason
use Rattle.cxx_model.specs.Text.Continuing.{IsLongestBy, starts, begins_comment}
use Rattle.cxx_model.specs.Text.Spelling.{Spelled, Ill, is_quote, is_white, literal}
use Rattle.cxx_model.specs.Text.Tokens.{IsLongest}
use Rattle.cxx_tokens.specs.Pieces as tokens
use Rattle.cxx_tokens.specs.Pieces.{begins_with}
use Rattle.cxx_tokens.proofs.Pieces.{behind_first, behind_two, quoted_at, wide_at, stale_hash_at}
use Rattle.cxx_strings.specs.Pieces.{FindsOther, BeginsOther, begins_wide}
use Rattle.cxx_strings.proofs.Others.{IsStrange, strange}

-- what is neither is found behind so many bytes
pub other_behind : (fresh : Bool) (text rest : List ℕ) (rule : List ℕ → Option Spelled) (before : ℕ) → ((n : ℕ) (spells : Spelled) → IsLongestBy rule rest n spells → IsLongest fresh text (record { len = before + n; spells = spells })) → FindsOther rule rest → BeginsOther fresh text
other_behind fresh text rest rule before at found = record {
  piece = record { len = before + found.len; spells = found.spells };
  longest = at found.len found.spells found.longest;
  other = found.other;
}

pub narrow_at : (fresh : Bool) (text : List ℕ) → begins_with 34 text ≡ true → (n : ℕ) (spells : Spelled) → IsLongestBy (literal false 34) (behind_first text) n spells → IsLongest fresh text (record { len = 1 + n; spells = spells })
narrow_at fresh [] h n spells found = absurd cc
narrow_at fresh (b ∷ rest) h n spells found =
    let first : b ≡ 34 = eqb-true b 34 h in
    quoted_at fresh (b ∷ rest) n spells (ap is_quote first) (subst (λ q. IsLongestBy (literal false q) (behind_first (b ∷ rest)) n spells) (sym first) found)

pub wide_string_at : (fresh : Bool) (text : List ℕ) → begins_wide text ≡ true → (n : ℕ) (spells : Spelled) → IsLongestBy (literal true 34) (behind_two text) n spells → IsLongest fresh text (record { len = 2 + n; spells = spells })
wide_string_at fresh [] h n spells found = absurd cc
wide_string_at fresh (b ∷ []) h n spells found = absurd (both_ways _ (and_right (b == 76) false refl) h)
wide_string_at fresh (b ∷ c ∷ rest) h n spells found =
    let p = and_parts (b == 76) (c == 34) h in
    let next : c ≡ 34 = eqb-true c 34 p.1 in
    let wide : tokens.begins_wide (b ∷ c ∷ rest) ≡ true = ap (λ q. q && is_quote c) p.0 ∙ ap is_quote next in
    wide_at fresh (b ∷ c ∷ rest) n spells wide (subst (λ q. IsLongestBy (literal true q) (behind_two (b ∷ c ∷ rest)) n spells) (sym next) found)

pub stale_hash : (fresh : Bool) (text : List ℕ) → begins_with 35 text ≡ true → fresh ≡ false → BeginsOther fresh text
stale_hash fresh text h stale = record { piece = record { len = 1; spells = Ill reason.Directive }; longest = stale_hash_at fresh text h stale; other = refl }

-- ---- a text that begins otherwise

not_equal : (b c : ℕ) → (b ≡ c → ⊥) → (b == c) ≡ false
not_equal b c h = ⊎_elim (λ (is : (b == c) ≡ true). absurd (h (eqb-true b c is))) (λ (is_not : (b == c) ≡ false). is_not) (cases_Bool (b == c))

slash_record : (rest : List ℕ) → starts begins_comment rest ≡ false → IsStrange 47 rest
slash_record rest h = record { black = refl; no_quote = refl; no_wide = refl; no_hash = refl; no_comment = h }

pub plain_slash : (fresh : Bool) (text : List ℕ) → begins_with 47 text ≡ true → (2 ≤ length text → begins_comment (get_or text 1 0) ≡ false) → BeginsOther fresh text
plain_slash fresh [] h other = absurd cc
plain_slash fresh (b ∷ []) h other = let e : b ≡ 47 = eqb-true b 47 h in strange fresh b [] (subst (λ x. IsStrange x []) (sym e) (slash_record [] refl))
plain_slash fresh (b ∷ c ∷ rest) h other = let e : b ≡ 47 = eqb-true b 47 h in strange fresh b (c ∷ rest) (subst (λ x. IsStrange x (c ∷ rest)) (sym e) (slash_record (c ∷ rest) (other (omega arith))))

pub otherwise : (fresh : Bool) (text : List ℕ) → 0 < length text → is_white (get_or text 0 0) ≡ false → (get_or text 0 0 ≡ 34 → ⊥) → begins_wide text ≡ false → (get_or text 0 0 ≡ 35 → ⊥) → (get_or text 0 0 ≡ 47 → ⊥) → BeginsOther fresh text
otherwise fresh [] some black quote narrow hash slash = absurd (omega arith)
otherwise fresh (b ∷ rest) some black quote narrow hash slash = strange fresh b rest (record {
  black = black;
  no_quote = not_equal b 34 quote;
  no_wide = narrow;
  no_hash = not_equal b 35 hash;
  no_comment = and_left (b == 47) _ (not_equal b 47 slash);
})
