-- One step of the reading, and what the whole answer says.
use Rattle.std.proofs.Common.{◌≡◌, ◌≤◌, ◌<◌, ℕ, suc, ◌+◌, ◌-◌, Bool, true, false, not, cond, ◌&&◌, List, [], ◌∷◌, ◌++◌, length, take, drop, Option, Some, None, Result, Ok, Err, IfOk, IfErr, All, refl, sym, ap, ◌∙◌, subst, arith, length-append, add-zero}
use Rattle.std.proofs.lemmas.Bool.{and_parts, and_right, and_from}
use Rattle.std.specs.Global.{Vec}
use Rattle.cxx_model.specs.declared.place.Place.{Place}
use Rattle.cxx_model.specs.declared.token.Token.{Token}
use Rattle.cxx_model.specs.declared.token.TokenKind.{TokenKind}
use Rattle.cxx_model.specs.declared.token.TokenKind.TheVariants.{End}
use Rattle.cxx_model.specs.declared.token.TokenReason.{TokenReason}
use Rattle.cxx_model.specs.declared.limits.TheConstants as limits
use Rattle.cxx_model.specs.Text.Lexemes.{first_place, past}
use Rattle.cxx_model.specs.Text.Spelling.{Spelled, Blank, Good}
use Rattle.cxx_model.specs.Text.Tokens.{Unread, BadAt, PastTokens, IsLongest, Width, fresh_past, is_text, is_some_width, width_behind, joins, tokens_begun, reason_at, join, join_list, put, tokens_from, tokens_of, IsTokenList, IsBadPlace, IsPastTokens}
use Rattle.cxx_model.proofs.Readings.{reads_end, reads_blank, reads_token, reads_full, reads_bad, text_is_wide, means_at, tokens_of_list, tokens_of_bad, tokens_of_limit, lies_within}
use Rattle.cxx_tokens.specs.declared.fault.TokenFault.{TokenFault}
use Rattle.cxx_tokens.specs.declared.fault.TokenFault.TheVariants.{Bad, Limit, OutOfMemory}
use Rattle.cxx_tokens.specs.Answers.{IsFault, IsAnswer, IsTokenizing, IsAtBadPlace, IsAtLimit, LiesWithin, behind, list_at, extended, ends_text, are_apart, IsSound, IsAdded, IsRefused, IsRefusedUnless}

-- ---- the tokens before

behind_push : (tokens : List Token) (token : Token) (list : Result (List Token) Unread) → behind (tokens ++ token ∷ []) list ≡ behind tokens (put token list)
behind_push [] token list = refl
behind_push (t ∷ tokens) token list = ap (put t) (behind_push tokens token list)

behind_fault : (tokens : List Token) (why : Unread) → behind tokens (Err why) ≡ Err why
behind_fault [] why = refl
behind_fault (t ∷ tokens) why = ap (put t) (behind_fault tokens why)

abbrev whole_of : Token → Token → Token
whole_of last token = record { kind = last.kind; place = last.place; from = last.from; to = token.to }

-- three strings are one, in either order
put_twice : (last token : Token) (list : Result (List Token) Unread) → is_text last.kind ≡ true → is_text token.kind ≡ true → put (whole_of last token) list ≡ put last (put token list)
put_twice last token (Err why) h k = refl
put_twice last token (Ok []) h k = rw (h, k) refl
put_twice last token (Ok (next ∷ tokens)) h k = by (is_text next.kind)
  where
    by_kinds : (l t n : Bool) → is_text last.kind ≡ l → is_text token.kind ≡ t → is_text next.kind ≡ n → l ≡ true → t ≡ true → join (whole_of last token) next tokens ≡ join_list last (join token next tokens)
    by_kinds true true true e f g a b = rw (e, f, g) (rw (e, f) refl)
    by_kinds true true false e f g a b = rw (e, f, g) (rw (e, f) refl)
    by_kinds false t n e f g a b = absurd cc
    by_kinds true false n e f g a b = absurd cc

    by : (n : Bool) → put (whole_of last token) (Ok (next ∷ tokens)) ≡ put last (put token (Ok (next ∷ tokens)))
    by n = ap (λ l. Ok l) (by_kinds (is_text last.kind) (is_text token.kind) (is_text next.kind) refl refl refl h k)

extended_behind : (tokens : List Token) (token : Token) (list : Result (List Token) Unread) → ends_text false tokens ≡ true → is_text token.kind ≡ true → behind (extended tokens token) list ≡ behind tokens (put token list)
extended_behind [] token list ends text = absurd cc
extended_behind (last ∷ []) token list ends text = put_twice last token list ends text
extended_behind (first ∷ next ∷ tokens) token list ends text = ap (put first) (extended_behind (next ∷ tokens) token list ends text)

extended_push : (init : List Token) (last token : Token) → extended (init ++ last ∷ []) token ≡ init ++ whole_of last token ∷ []
extended_push [] last token = refl
extended_push (first ∷ []) last token = refl
extended_push (first ∷ next ∷ init) last token = ap (λ l. first ∷ l) (extended_push (next ∷ init) last token)

pub extended_last : (old init new : List Token) (last token : Token) → old ≡ init ++ last ∷ [] → new ≡ init ++ whole_of last token ∷ [] → new ≡ extended old token
extended_last old init new last token e f = f ∙ sym (ap (λ l. extended l token) e ∙ extended_push init last token)

extended_length : (tokens : List Token) (token : Token) → length (extended tokens token) ≡ length tokens
extended_length [] token = refl
extended_length (last ∷ []) token = refl
extended_length (first ∷ next ∷ tokens) token = ap suc (extended_length (next ∷ tokens) token)

extended_ends : (was : Bool) (tokens : List Token) (token : Token) → ends_text was (extended tokens token) ≡ ends_text was tokens
extended_ends was [] token = refl
extended_ends was (last ∷ []) token = refl
extended_ends was (first ∷ next ∷ tokens) token = extended_ends (is_text first.kind) (next ∷ tokens) token

extended_apart : (was : Bool) (tokens : List Token) (token : Token) → are_apart was (extended tokens token) ≡ are_apart was tokens
extended_apart was [] token = refl
extended_apart was (last ∷ []) token = refl
extended_apart was (first ∷ next ∷ tokens) token = ap (λ b. not (was && is_text first.kind) && b) (extended_apart (is_text first.kind) (next ∷ tokens) token)

ends_push : (was : Bool) (tokens : List Token) (token : Token) → ends_text was (tokens ++ token ∷ []) ≡ is_text token.kind
ends_push was [] token = refl
ends_push was (t ∷ tokens) token = ends_push (is_text t.kind) tokens token

apart_push : (was : Bool) (tokens : List Token) (token : Token) → are_apart was tokens ≡ true → (ends_text was tokens && is_text token.kind) ≡ false → are_apart was (tokens ++ token ∷ []) ≡ true
apart_push was [] token h k = rw k refl
apart_push was (t ∷ tokens) token h k = let p = and_parts (not (was && is_text t.kind)) (are_apart (is_text t.kind) tokens) h in and_from _ _ p.0 (apart_push (is_text t.kind) tokens token p.1 k)

not_true : (p : Bool) → not p ≡ true → p ≡ false
not_true true h = cc
not_true false h = refl

behind_end : (was : Bool) (tokens : List Token) (end : Token) → are_apart was tokens ≡ true → is_text end.kind ≡ false → behind tokens (Ok (end ∷ [])) ≡ Ok (tokens ++ end ∷ [])
behind_end was [] end h k = refl
behind_end was (t ∷ []) end h k = ap (λ c. Ok (cond c (whole_of t end ∷ []) (t ∷ end ∷ []))) (ap (λ b. is_text t.kind && b) k ∙ and_right (is_text t.kind) false refl)
behind_end was (t ∷ u ∷ tokens) end h k =
    let p = and_parts (not (was && is_text t.kind)) (are_apart (is_text t.kind) (u ∷ tokens)) h in
    let q = and_parts (not (is_text t.kind && is_text u.kind)) (are_apart (is_text u.kind) tokens) p.1 in
    ap (put t) (behind_end (is_text t.kind) (u ∷ tokens) end p.1 k) ∙ ap (λ c. Ok (cond c (whole_of t u ∷ (tokens ++ end ∷ [])) (t ∷ u ∷ (tokens ++ end ∷ [])))) (not_true (is_text t.kind && is_text u.kind) q.0)

-- ---- one step

pub passes_blank : (tokens : List Token) (text : List ℕ) (len : ℕ) (before : Option Width) (fresh : Bool) (at : ℕ) (place : Place) → IsLongest fresh text (record { len = len; spells = Blank }) → list_at tokens before (fresh_past (take len text) fresh) (at + len) (past (take len text) place) (drop len text) ≡ list_at tokens before fresh at place text
passes_blank tokens text len before fresh at place h = ap (behind tokens) (sym (reads_blank text len (limits.MOST_TOKENS - length tokens) before fresh at place h))

abbrev pub token_of : ℕ → Place → ℕ → TokenKind → Token
token_of at place len kind = record { kind = kind; place = place; from = at; to = at + len }

pub passes_token : (tokens new : List Token) (text : List ℕ) (len : ℕ) (kind : TokenKind) (before : Option Width) (fresh : Bool) (at : ℕ) (place : Place) (joined : Bool) → IsLongest fresh text (record { len = len; spells = Good kind }) → reason_at before text (Good kind) ≡ None → IsSound before tokens → joined ≡ joins before kind → IsAdded tokens (token_of at place len kind) joined new
    → list_at new (width_behind kind text) (fresh_past (take len text) fresh) (at + len) (past (take len text) place) (drop len text) ≡ list_at tokens before fresh at place text
passes_token tokens new text len kind before fresh at place true h sound ok j added =
    let token = token_of at place len kind in
    let parts = and_parts (is_text kind) (is_some_width before) (sym j) in
    let ends : ends_text false tokens ≡ true = ok.ends ∙ parts.1 in
    let left : ℕ = limits.MOST_TOKENS - length tokens in
    let none : tokens_begun before kind ≡ 0 = ap (λ c. cond c 0 1) (sym j) in
    let same : tokens_begun before kind + left ≡ left = omega arith in
    let count : limits.MOST_TOKENS - length new ≡ left = ap (λ l. limits.MOST_TOKENS - length l) added ∙ ap (λ n. limits.MOST_TOKENS - n) (extended_length tokens token) in
    ap (λ n. behind new (tokens_from 0 n (width_behind kind text) (fresh_past (take len text) fresh) (at + len) (past (take len text) place) (drop len text))) count
    ∙ ap (λ l. behind l (tokens_from 0 left (width_behind kind text) (fresh_past (take len text) fresh) (at + len) (past (take len text) place) (drop len text))) added
    ∙ extended_behind tokens token (tokens_from 0 left (width_behind kind text) (fresh_past (take len text) fresh) (at + len) (past (take len text) place) (drop len text)) ends parts.0
    ∙ ap (behind tokens) (sym (reads_token text len kind left before fresh at place h sound) ∙ ap (λ n. tokens_from 0 n before fresh at place text) same)
passes_token tokens new text len kind before fresh at place false h sound ok j added =
    let token = token_of at place len kind in
    let left : ℕ = limits.MOST_TOKENS - length new in
    let one : tokens_begun before kind ≡ 1 = ap (λ c. cond c 0 1) (sym j) in
    let longer : length new ≡ length tokens + 1 = ap length added.0 ∙ length-append tokens (token ∷ []) in
    let same : tokens_begun before kind + left ≡ limits.MOST_TOKENS - length tokens = omega (arith, added.1) in
    ap (λ l. behind l (tokens_from 0 left (width_behind kind text) (fresh_past (take len text) fresh) (at + len) (past (take len text) place) (drop len text))) added.0
    ∙ behind_push tokens token (tokens_from 0 left (width_behind kind text) (fresh_past (take len text) fresh) (at + len) (past (take len text) place) (drop len text))
    ∙ ap (behind tokens) (sym (reads_token text len kind left before fresh at place h sound) ∙ ap (λ n. tokens_from 0 n before fresh at place text) same)

pub added_fits : (tokens new : List Token) (token : Token) (joined : Bool) → IsAdded tokens token joined new → length tokens ≤ limits.MOST_TOKENS → length new ≤ limits.MOST_TOKENS
added_fits tokens new token true added fits = let same : length new ≡ length tokens = ap length added ∙ extended_length tokens token in omega arith
added_fits tokens new token false added fits = let longer : length new ≡ length tokens + 1 = ap length added.0 ∙ length-append tokens (token ∷ []) in omega (arith, added.1)

sound_apart : (tokens : List Token) (before : Option Width) (kind : TokenKind) → ends_text false tokens ≡ is_some_width before → joins before kind ≡ false → (ends_text false tokens && is_text kind) ≡ false
sound_apart tokens before kind e h = by (is_text kind) (is_some_width before) h e
  where
    by : (text wide : Bool) → (text && wide) ≡ false → ends_text false tokens ≡ wide → (ends_text false tokens && text) ≡ false
    by true true h e = cc
    by true false h e = rw e refl
    by false wide h e = and_right (ends_text false tokens) false refl

pub added_sound : (tokens new : List Token) (text : List ℕ) (len : ℕ) (kind : TokenKind) (before : Option Width) (fresh : Bool) (at : ℕ) (place : Place) (joined : Bool) → IsLongest fresh text (record { len = len; spells = Good kind }) → IsSound before tokens → joined ≡ joins before kind → IsAdded tokens (token_of at place len kind) joined new → IsSound (width_behind kind text) new
added_sound tokens new text len kind before fresh at place true h ok j added =
    let token = token_of at place len kind in
    let parts = and_parts (is_text kind) (is_some_width before) (sym j) in record {
      apart = ap (are_apart false) added ∙ extended_apart false tokens token ∙ ok.apart;
      ends = ap (ends_text false) added ∙ extended_ends false tokens token ∙ ok.ends ∙ parts.1 ∙ sym (text_is_wide fresh text len kind h ∙ parts.0);
    }
added_sound tokens new text len kind before fresh at place false h ok j added =
    let token = token_of at place len kind in record {
      apart = ap (are_apart false) added.0 ∙ apart_push false tokens token ok.apart (sound_apart tokens before kind ok.ends (sym j));
      ends = ap (ends_text false) added.0 ∙ ends_push false tokens token ∙ sym (text_is_wide fresh text len kind h);
    }

no_room : (tokens : List Token) (text : List ℕ) (before : Option Width) (fresh : Bool) (at : ℕ) (place : Place) → length tokens ≡ limits.MOST_TOKENS → list_at tokens before fresh at place text ≡ behind tokens (tokens_from 0 0 before fresh at place text)
no_room tokens text before fresh at place full = let none : limits.MOST_TOKENS - length tokens ≡ 0 = omega arith in ap (λ n. behind tokens (tokens_from 0 n before fresh at place text)) none

refused_token : (tokens : List Token) (text : List ℕ) (len : ℕ) (kind : TokenKind) (before : Option Width) (fresh : Bool) (at : ℕ) (place : Place) → IsLongest fresh text (record { len = len; spells = Good kind }) → reason_at before text (Good kind) ≡ None → joins before kind ≡ false → length tokens ≡ limits.MOST_TOKENS → list_at tokens before fresh at place text ≡ Err PastTokens
refused_token tokens text len kind before fresh at place h sound alone full = no_room tokens text before fresh at place full ∙ ap (behind tokens) (reads_full text len kind before fresh at place h sound alone) ∙ behind_fault tokens PastTokens

pub refuses_token : (tokens : List Token) (text : List ℕ) (len : ℕ) (kind : TokenKind) (before : Option Width) (fresh : Bool) (at : ℕ) (place : Place) (fault : TokenFault) (joined : Bool) → IsLongest fresh text (record { len = len; spells = Good kind }) → reason_at before text (Good kind) ≡ None → joined ≡ joins before kind → IsRefusedUnless joined (length tokens) fault → IsFault fault (list_at tokens before fresh at place text)
refuses_token tokens text len kind before fresh at place fault true h sound j why = subst (λ f. IsFault f (list_at tokens before fresh at place text)) (sym why) tt
refuses_token tokens text len kind before fresh at place (Bad p r) false h sound j why = absurd why
refuses_token tokens text len kind before fresh at place (Limit limit) false h sound j why = (why.0, refused_token tokens text len kind before fresh at place h sound (sym j) why.1)
refuses_token tokens text len kind before fresh at place OutOfMemory false h sound j why = tt

pub finds_bad : (tokens : List Token) (text : List ℕ) (len : ℕ) (spells : Spelled) (reason : TokenReason) (before : Option Width) (fresh : Bool) (at : ℕ) (place : Place) → IsLongest fresh text (record { len = len; spells = spells }) → reason_at before text spells ≡ Some reason → list_at tokens before fresh at place text ≡ Err (BadAt place reason)
finds_bad tokens text len spells reason before fresh at place h bad =
    ap (behind tokens) (reads_bad text len spells reason (limits.MOST_TOKENS - length tokens) before fresh at place h bad) ∙ behind_fault tokens (BadAt place reason)

-- ---- the end

pub ends_list : (tokens : List Token) (before : Option Width) (fresh : Bool) (at : ℕ) (place : Place) → IsSound before tokens → length tokens < limits.MOST_TOKENS → list_at tokens before fresh at place [] ≡ Ok (tokens ++ token_of at place 0 End ∷ [])
ends_list tokens before fresh at place ok room =
    let left : ℕ = limits.MOST_TOKENS - length tokens - 1 in
    let one : limits.MOST_TOKENS - length tokens ≡ suc left = omega arith in
    ap (λ n. behind tokens (tokens_from 0 n before fresh at place [])) one ∙ ap (behind tokens) (reads_end (suc left) before fresh at place)
    ∙ behind_end false tokens (record { kind = End; place = place; from = at; to = at }) ok.apart refl
    ∙ ap (λ n. Ok (tokens ++ record { kind = End; place = place; from = at; to = n } ∷ [])) (sym (add-zero at))

refused_end : (tokens : List Token) (before : Option Width) (fresh : Bool) (at : ℕ) (place : Place) → length tokens ≡ limits.MOST_TOKENS → list_at tokens before fresh at place [] ≡ Err PastTokens
refused_end tokens before fresh at place full = no_room tokens [] before fresh at place full ∙ ap (behind tokens) (reads_end 0 before fresh at place) ∙ behind_fault tokens PastTokens

pub refuses_end : (tokens : List Token) (before : Option Width) (fresh : Bool) (at : ℕ) (place : Place) (fault : TokenFault) → IsRefused (length tokens) fault → IsFault fault (list_at tokens before fresh at place [])
refuses_end tokens before fresh at place (Bad p r) why = absurd why
refuses_end tokens before fresh at place (Limit limit) why = (why.0, refused_end tokens before fresh at place why.1)
refuses_end tokens before fresh at place OutOfMemory why = tt

pub begins_list : (bytes : List ℕ) → list_at [] None true 0 first_place bytes ≡ tokens_of bytes
unfolding tokens_of
begins_list bytes = refl

-- ---- what the whole answer says

pub says_list : (bytes : List ℕ) (result : Result (Vec Token) TokenFault) → IsTokenizing bytes result → IfOk result (λ tokens. IsTokenList bytes 0 None tokens.items × (length tokens.items ≤ limits.MOST_TOKENS))
says_list bytes (Ok tokens) exact = means_at bytes (Ok tokens.items) exact
says_list bytes (Err fault) exact = tt

says_bad_place : (bytes : List ℕ) (fault : TokenFault) → IsFault fault (tokens_of bytes) → IsAtBadPlace bytes fault
says_bad_place bytes (Bad place reason) exact = means_at bytes (Err (BadAt place reason)) exact
says_bad_place bytes (Limit kind) exact = tt
says_bad_place bytes OutOfMemory exact = tt

says_past : (bytes : List ℕ) (fault : TokenFault) → IsFault fault (tokens_of bytes) → IsAtLimit bytes fault
says_past bytes (Bad place reason) exact = tt
says_past bytes (Limit kind) exact = (exact.0, means_at bytes (Err PastTokens) exact.1)
says_past bytes OutOfMemory exact = tt

pub says_bad : (bytes : List ℕ) (result : Result (Vec Token) TokenFault) → IsTokenizing bytes result → IfErr result (λ fault. IsAtBadPlace bytes fault)
says_bad bytes (Ok tokens) exact = tt
says_bad bytes (Err fault) exact = says_bad_place bytes fault exact

pub says_limit : (bytes : List ℕ) (result : Result (Vec Token) TokenFault) → IsTokenizing bytes result → IfErr result (λ fault. IsAtLimit bytes fault)
says_limit bytes (Ok tokens) exact = tt
says_limit bytes (Err fault) exact = says_past bytes fault exact

pub says_within : (bytes : List ℕ) (result : Result (Vec Token) TokenFault) → IsTokenizing bytes result → IfOk result (λ tokens. All (LiesWithin bytes) tokens.items)
says_within bytes (Ok tokens) exact = lies_within bytes (means_at bytes (Ok tokens.items) exact).0
says_within bytes (Err fault) exact = tt

says : (bytes : List ℕ) (result : Result (Vec Token) TokenFault) (list : Result (List Token) Unread) → IsTokenizing bytes result → tokens_of bytes ≡ list → IsAnswer result list
says bytes result list exact e = subst (λ l. IsAnswer result l) e exact

pub only_list : (bytes : List ℕ) (result : Result (Vec Token) TokenFault) → IsTokenizing bytes result → (list : List Token) → IsTokenList bytes 0 None list → length list ≤ limits.MOST_TOKENS → IsAnswer result (Ok list)
only_list bytes result exact list is short = says bytes result (Ok list) exact (tokens_of_list bytes list is short)

pub only_place : (bytes : List ℕ) (result : Result (Vec Token) TokenFault) → IsTokenizing bytes result → (place : Place) (reason : TokenReason) (count : ℕ) → IsBadPlace bytes place reason 0 None count → count ≤ limits.MOST_TOKENS → IsAnswer result (Err (BadAt place reason))
only_place bytes result exact place reason count is early = says bytes result (Err (BadAt place reason)) exact (tokens_of_bad bytes place reason count is early)

pub only_past : (bytes : List ℕ) (result : Result (Vec Token) TokenFault) → IsTokenizing bytes result → IsPastTokens bytes 0 None limits.MOST_TOKENS → IsAnswer result (Err PastTokens)
only_past bytes result exact more = says bytes result (Err PastTokens) exact (tokens_of_limit bytes more)
