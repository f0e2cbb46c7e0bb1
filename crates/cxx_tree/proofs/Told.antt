-- The places of calls, as they are told.
use Rattle.std.specs.Prelude.{◌≡◌, Bool, true, false, List, [], ◌∷◌, ◌++◌, length, Option, Some, None, is_some, IfSome, refl}
use Rattle.std.proofs.Common.{ap, sym, subst, ◌∙◌}
use Rattle.cxx_model.specs.declared.place.Place.{Place}
use Rattle.cxx_model.specs.Types.Trees.{CxxType}
use Rattle.cxx_overload.specs.declared.chooser.Choosing.{Choosing}
use Rattle.cxx_overload.specs.Choosers.{IsNew, told_by}
use Rattle.cxx_overload.specs.Told.{told_more}
use Rattle.cxx_model.proofs.TypeTrees.{Keeps-refl}
use Rattle.cxx_reading.specs.Initializers.{with_call}
use Rattle.cxx_reading.specs.State.{CxxCall}
use Rattle.cxx_tree.specs.declared.kept.Decided.{Decided}
use Rattle.cxx_tree.specs.Asked.{Asked, places_at, places_of, told_where}
use Rattle.cxx_tree.specs.Held.{AreCallsBelow, Held, IsSound, call_at, calls_at, meaning, trees}
use Rattle.cxx_tree.specs.Later.{Later}
use Rattle.cxx_tree.specs.Told.{told}
use Rattle.cxx_tree.proofs.Arenas.{KeepsTrees_refl}
use Rattle.cxx_tree.proofs.Keeping.{call_added, call_number, sound_call}

pub places_more : (calls : List Decided) (call : Decided) → places_at (calls ++ call ∷ []) ≡ places_at calls ++ call.place ∷ []
places_more [] call = refl
places_more (one ∷ others) call = ap (λ ps. one.place ∷ ps) (places_more others call)

-- one call more
pub told_one_more : (tells : Bool) (calls : List Decided) (call : Decided) → told_more call.place (told_where tells (places_at calls)) ≡ told_where tells (places_at (calls ++ call ∷ []))
told_one_more true calls call = ap (λ ps. Some ps) (sym (places_more calls call))
told_one_more false calls call = refl

-- nothing was asked yet
pub told_new : (told : Option (List Place)) (calls : List Decided) (tells : Bool) → IfSome told (λ places. places ≡ []) → calls ≡ [] → tells ≡ is_some told → told ≡ told_where tells (places_at calls)
told_new None calls tells first none is = ap (λ b. told_where b (places_at calls)) (sym is)
told_new (Some places) calls tells first none is = ap (λ ps. Some ps) (first ∙ sym (ap places_at none)) ∙ ap (λ b. told_where b (places_at calls)) (sym is)

pub told_added : (seen held : Asked) (call : Decided) (shown : Option (List Place)) (new : List Decided) → held ≡ seen → shown ≡ told_more call.place (told_where seen.tells (places_at seen.calls)) → new ≡ held.calls ++ call ∷ [] → shown ≡ told_where held.tells (places_at new)
told_added seen held call shown new same is added =
    subst (λ (all : Asked). shown ≡ told_more call.place (told_where all.tells (places_at all.calls))) (sym same) is
    ∙ (told_one_more held.tells held.calls call ∙ ap (λ cs. told_where held.tells (places_at cs)) (sym added))

places_same : (types : List CxxType) (calls : List Decided) → places_of (calls_at types calls) ≡ places_at calls
places_same types [] = refl
places_same types (call ∷ others) = ap (λ ps. call.place ∷ ps) (places_same types others)

told_is : (held : Held) → told held ≡ told_where held.tells (places_at held.calls)
unfolding told meaning
told_is held = ap (told_where held.tells) (places_same held.types held.calls)

-- the same of a state that is seen through its fields
pub told_here : (seen held : Held) (shown : Option (List Place)) → held ≡ seen → shown ≡ told_where held.tells (places_at held.calls) → shown ≡ told seen
told_here seen held shown same is = subst (λ (h : Held). shown ≡ told h) same (is ∙ sym (told_is held))

pub told_within : (seen held : Held) (shown : Option (List Place)) → held ≡ seen → shown ≡ told seen → shown ≡ told_where held.tells (places_at held.calls)
told_within seen held shown same is = subst (λ (h : Held). shown ≡ told h) (sym same) is ∙ told_is held

pub told_shown : (seen held : Held) (result : Option Choosing) → held ≡ seen → IfSome result (λ chooser. told_by chooser ≡ told_where held.tells (places_at held.calls)) → IfSome result (λ chooser. told_by chooser ≡ told seen)
told_shown seen held None same is = tt
told_shown seen held (Some chooser) same is = told_here seen held (told_by chooser) same is

pub told_more_within : (seen held : Held) (place : Place) (shown : Option (List Place)) → held ≡ seen → shown ≡ told_more place (told seen) → shown ≡ told_more place (told_where held.tells (places_at held.calls))
told_more_within seen held place shown same is = is ∙ ap (told_more place) (told_within seen held (told seen) same refl)

-- ---- other calls, or somebody else who is asked

abbrev asked_in : Held → Asked
asked_in held = record { calls = held.calls; tells = held.tells; asks = held.asks }

abbrev with_asked : Held → Asked → Held
with_asked held all = record held { calls = all.calls; tells = all.tells; asks = all.asks }

sound_with : (held : Held) (all : Asked) → IsSound (record held { calls = all.calls }) → IsSound (with_asked held all)
sound_with held all sound = record { fitted = sound.fitted; nodes = sound.nodes; children = sound.children; fallbacks = sound.fallbacks; offers = sound.offers; pieces = sound.pieces; calls = sound.calls; scope = sound.scope; result = sound.result }

-- the calls stay
pub sound_asked : (held : Held) (all : Asked) → IsSound held → all.calls ≡ held.calls → IsSound (with_asked held all)
sound_asked held all sound same = sound_with held all (subst (λ cs. IsSound (record held { calls = cs })) (sym same) sound)

-- one more
pub sound_called : (seen held : Held) (all : Asked) (call : Decided) → held ≡ seen → IsSound held → AreCallsBelow (length seen.types) (call ∷ []) → all.calls ≡ held.calls ++ call ∷ [] → IsSound (with_asked held all)
sound_called seen held all call same sound below added = sound_with held all (sound_call seen held all.calls call same sound below added)

pub later_asked : (seen held : Held) (all : Asked) → held ≡ seen → all.tells ≡ held.tells → Later seen (with_asked held all)
later_asked seen held all same is = subst (λ (h : Held). Later h (with_asked held all)) same (record { types = Keeps-refl held.types; trees = KeepsTrees_refl (trees held); tells = is })

meaning_with : (held : Held) (all : Asked) → meaning (with_asked held all) ≡ meaning (record held { calls = all.calls })
unfolding meaning
meaning_with held all = refl

pub same_asked : (seen held : Held) (all : Asked) → held ≡ seen → all.calls ≡ held.calls → meaning (with_asked held all) ≡ meaning seen
same_asked seen held all same is = meaning_with held all ∙ (ap (λ cs. meaning (record held { calls = cs })) is ∙ ap meaning same)

pub called_added : (seen held : Held) (all : Asked) (call : Decided) → held ≡ seen → all.calls ≡ held.calls ++ call ∷ [] → meaning (with_asked held all) ≡ with_call (call_at seen.types call) (meaning seen)
called_added seen held all call same added = meaning_with held all ∙ call_added seen held all.calls call same added

pub asked_set : (seen held : Held) (all : Asked) (asks : Bool) → held ≡ seen → all ≡ record (asked_in held) { asks = asks } → with_asked held all ≡ record seen { asks = asks }
asked_set seen held all asks same is = ap (with_asked held) is ∙ ap (λ (h : Held). record h { asks = asks }) same
