-- How a definition goes on behind the region of a name, and how it stops.
use Rattle.std.specs.Prelude.{◌≡◌, Result, Ok, Err}
use Rattle.std.proofs.Common.{ap, sym, subst}
use Rattle.cxx_model.specs.declared.stop.Stop.{Stop}
use Rattle.cxx_model.specs.declared.stop.Stop.TheVariants as stop
use Rattle.cxx_model.specs.Stops.{Answer, Gives, Stopped, Stops, ◌>>=◌}
use Rattle.cxx_paths.specs.Asked.{IsStop}
use Rattle.cxx_reading.specs.declared.region.Region.{Region}
use Rattle.cxx_reading.specs.State.{CxxState}
use Rattle.cxx_tree.specs.Answered.{IsAnswered}
use Rattle.cxx_tree.specs.Held.{Held}
use Rattle.cxx_tree.proofs.Steps.{Later_refl}

pub stops_at : (A : Type 0) (what : Stopped) (why : Stop) → IsStop what why → Stops {A = A} why (Err what)
stops_at A what stop.OutOfMemory is = tt
stops_at A what (stop.Fault f) is = ap Err (sym is)
stops_at A what (stop.Limit k) is = ap Err (sym is)

pub stopped_at : {X A : Type 0} (view : Held → X → A) (known : Held → X → Type 0) (held : Held) (what : Stopped) (why : Stop) → IsStop what why → IsAnswered view known held held (Err why) (Err what)
stopped_at view known held what why is = record { is = stops_at _ what why is; later = Later_refl held }

-- what stops stops all that follows
pub stopped_on : {A B : Type 0} (why : Stop) (reply : Answer A) (go : A → Answer B) → Stops why reply → Stops why (reply >>= go)
stopped_on stop.OutOfMemory reply go is = tt
stopped_on (stop.Fault f) reply go is = ap (λ a. a >>= go) is
stopped_on (stop.Limit k) reply go is = ap (λ a. a >>= go) is

-- what is found is not ambiguous, or stops what follows
pub clear_then : {X A : Type 0} (view : Held → X → A) (known : Held → X → Type 0) (old new : Held) (clear : Unit {0}) (r : Result X Stop) (reply : Answer (Unit {0})) (go : Unit {0} → Answer (A × CxxState)) → reply ≡ Ok clear → IsAnswered view known old new r (go clear) → IsAnswered view known old new r (reply >>= go)
clear_then view known old new clear r reply go is answered = subst (λ a. IsAnswered view known old new r a) (sym (ap (λ a. a >>= go) is)) answered

pub clear_stopped : {X A : Type 0} (view : Held → X → A) (known : Held → X → Type 0) (held : Held) (why : Stop) (reply : Answer (Unit {0})) (go : Unit {0} → Answer (A × CxxState)) → Stops why reply → IsAnswered view known held held (Err why) (reply >>= go)
clear_stopped view known held why reply go is = record { is = stopped_on why reply go is; later = Later_refl held }

pub clear_gives : {X A : Type 0} (view : X → A) (clear : Unit {0}) (r : Result X Stop) (reply : Answer (Unit {0})) (go : Unit {0} → Answer A) → reply ≡ Ok clear → Gives view r (go clear) → Gives view r (reply >>= go)
clear_gives view clear r reply go is gives = subst (λ a. Gives view r a) (sym (ap (λ a. a >>= go) is)) gives

pub region_then : {X A : Type 0} (view : Held → X → A) (known : Held → X → Type 0) (old new : Held) (where_ : Region) (r : Result X Stop) (reply : Answer Region) (go : Region → Answer (A × CxxState)) → reply ≡ Ok where_ → IsAnswered view known old new r (go where_) → IsAnswered view known old new r (reply >>= go)
region_then view known old new where_ r reply go is answered = subst (λ a. IsAnswered view known old new r a) (sym (ap (λ a. a >>= go) is)) answered

pub region_stopped : {X A : Type 0} (view : Held → X → A) (known : Held → X → Type 0) (held : Held) (why : Stop) (reply : Answer Region) (go : Region → Answer (A × CxxState)) → Stops why reply → IsAnswered view known held held (Err why) (reply >>= go)
region_stopped view known held why reply go is = record { is = stopped_on why reply go is; later = Later_refl held }
