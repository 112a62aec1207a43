-- What an input makes of its device: it waits where it is heard, and a touch goes down or ends.
use Rattle.std.proofs.Common.{◌≡◌, ℕ, Bool, true, false, cond, ◌||◌, eqb, List, [], ◌∷◌, ◌++◌, Some, None, refl, sym, ap, ◌∙◌}
use Rattle.std.specs.Prelude.{unwrap_or, nat_eq}
use Rattle.std.specs.List.{list_any, IsDistinct, AllByRecursion}
use Rattle.std.proofs.lemmas.Bool.{eqb-true}
use Rattle.std.proofs.lemmas.Cmp.{nat_eq_equiv}
use Rattle.std.proofs.lemmas.List.Folds.{list_any-append}
use Rattle.std.proofs.lemmas.Map.Keys.{IsDistinct-push}
use Rattle.ei_spec.specs.Message.{Raw}
use Rattle.ei_session.specs.Setup.{Setup}
use Rattle.ei_wire.specs.declared.arg.RawFloat.{RawFloat}
use Rattle.ei_input.specs.declared.input_event.InputEvent.{InputEvent}
use Rattle.ei_input.specs.declared.input_event.InputEvent.TheVariants.{TouchDown, TouchMotion, TouchUp, TouchCancel}
use Rattle.ei_session.specs.Touches.{said_by, is_down}
use Rattle.ei_session.specs.Requests.{is_heard}
use Rattle.ei_session.proofs.Choices.{turned, or_true}
use Rattle.ei_request.specs.Held.{DeviceView, has_touch, without_first, takes_input}
use Rattle.ei_standing.specs.Standing.{IsDevice}

-- ---- an input and its device

-- whether the device hears it
abbrev pub heard_by : InputEvent → DeviceView → Bool
heard_by (TouchMotion t x y) v = has_touch t v
heard_by (TouchUp t) v = has_touch t v
heard_by (TouchCancel t) v = has_touch t v
heard_by i v = true

-- the touches that are down after it
abbrev pub touched : InputEvent → List ℕ → List ℕ
touched (TouchDown t x y) ts = ts ++ t ∷ []
touched (TouchUp t) ts = without_first (nat_eq t) ts
touched (TouchCancel t) ts = without_first (nat_eq t) ts
touched i ts = ts

-- the device that heard it
abbrev pub heard : InputEvent → DeviceView → DeviceView
heard i v = record v { waiting = v.waiting ++ i ∷ []; touches = touched i v.touches }

pub takes_as : (i : InputEvent) (v : DeviceView) → takes_input i v ≡ cond (heard_by i v) (heard i v) v
takes_as i v = by i
  where
    by : (i : InputEvent) → takes_input i v ≡ cond (heard_by i v) (heard i v) v
    by (TouchDown t x y) = refl
    by (TouchMotion t x y) = refl
    by (TouchUp t) = refl
    by (TouchCancel t) = refl
    by i = refl

-- and it does where the definitions do
pub heard_as : (setup : Setup) (past : List Raw) (d : ℕ) (i : InputEvent) (v : DeviceView) → IsDevice setup past d v → heard_by i v ≡ is_heard past d i
heard_as setup past d (TouchMotion t x y) v h = h.touches t
heard_as setup past d (TouchUp t) v h = h.touches t
heard_as setup past d (TouchCancel t) v h = h.touches t
heard_as setup past d i v h = refl

-- ---- touches

pub not_among : (q : ℕ) (ts : List ℕ) → AllByRecursion (λ y. nat_eq q y ≡ false) ts → list_any (nat_eq q) ts ≡ false
not_among q [] h = refl
not_among q (x ∷ ts) h = rw h.0 (not_among q ts h.1)

left_out : (t q : ℕ) (ts : List ℕ) → IsDistinct nat_eq ts → list_any (nat_eq q) (without_first (nat_eq t) ts) ≡ cond (eqb t q) false (list_any (nat_eq q) ts)
unfolding IsDistinct
left_out t q [] h = by (eqb t q)
  where
    by : (b : Bool) → false ≡ cond b false false
    by true = refl
    by false = refl
left_out t q (x ∷ ts) h = by (nat_eq t x) (eqb t q) refl refl (left_out t q ts h.1)
  where
    by : (a b : Bool) → nat_eq t x ≡ a → eqb t q ≡ b → list_any (nat_eq q) (without_first (nat_eq t) ts) ≡ cond b false (list_any (nat_eq q) ts) →
        list_any (nat_eq q) (cond a ts (x ∷ without_first (nat_eq t) ts)) ≡ cond b false (nat_eq q x || list_any (nat_eq q) ts)
    by true true e f next =
        let same : q ≡ x = sym (eqb-true t q f) ∙ eqb-true t x e in
        ap (λ (z : ℕ). list_any (nat_eq z) ts) same ∙ not_among x ts h.0
    by true false e f next =
        let other : nat_eq q x ≡ false = ap (nat_eq q) (sym (eqb-true t x e)) ∙ turned q t ∙ f in
        rw other refl
    by false true e f next =
        let other : nat_eq q x ≡ false = ap (λ (z : ℕ). nat_eq z x) (sym (eqb-true t q f)) ∙ e in
        rw other next
    by false false e f next = ap (λ (b : Bool). nat_eq q x || b) next

put_in : (b old : Bool) → (old || (b || false)) ≡ unwrap_or (cond b (Some true) None) old
put_in true old = or_true old
put_in false true = refl
put_in false false = refl

taken_out : (b old : Bool) → cond b false old ≡ unwrap_or (cond b (Some false) None) old
taken_out true old = refl
taken_out false old = refl

-- those that are down after an input, by what it says of each
pub touched_as : (i : InputEvent) (ts : List ℕ) (q : ℕ) → IsDistinct nat_eq ts → list_any (nat_eq q) (touched i ts) ≡ unwrap_or (said_by q i) (list_any (nat_eq q) ts)
touched_as (TouchDown t x y) ts q once =
    list_any-append (nat_eq q) ts (t ∷ []) ∙ ap (λ (b : Bool). list_any (nat_eq q) ts || (b || false)) (turned q t) ∙ put_in (eqb t q) (list_any (nat_eq q) ts)
touched_as (TouchUp t) ts q once = left_out t q ts once ∙ taken_out (eqb t q) (list_any (nat_eq q) ts)
touched_as (TouchCancel t) ts q once = left_out t q ts once ∙ taken_out (eqb t q) (list_any (nat_eq q) ts)
touched_as i ts q once = refl

all_without : (P : ℕ → Type 0) (p : ℕ → Bool) (ts : List ℕ) → AllByRecursion P ts → AllByRecursion P (without_first p ts)
all_without P p [] h = tt
all_without P p (x ∷ ts) h = by (p x) (all_without P p ts h.1)
  where
    by : (b : Bool) → AllByRecursion P (without_first p ts) → AllByRecursion P (cond b ts (x ∷ without_first p ts))
    by true next = h.1
    by false next = (h.0, next)

distinct_without : (p : ℕ → Bool) (ts : List ℕ) → IsDistinct nat_eq ts → IsDistinct nat_eq (without_first p ts)
unfolding IsDistinct
distinct_without p [] h = tt
distinct_without p (x ∷ ts) h = by (p x) (distinct_without p ts h.1)
  where
    by : (b : Bool) → IsDistinct nat_eq (without_first p ts) → IsDistinct nat_eq (cond b ts (x ∷ without_first p ts))
    by true next = h.1
    by false next = (all_without (λ y. nat_eq x y ≡ false) p ts h.0, next)

-- each is listed once, where one that goes down isn't down
pub touched_once : (i : InputEvent) (ts : List ℕ) → IsDistinct nat_eq ts → ((t : ℕ) (x y : RawFloat) → i ≡ TouchDown t x y → list_any (nat_eq t) ts ≡ false) → IsDistinct nat_eq (touched i ts)
touched_once (TouchDown t x y) ts once fresh = IsDistinct-push nat_eq_equiv ts t once (fresh t x y refl)
touched_once (TouchUp t) ts once fresh = distinct_without (nat_eq t) ts once
touched_once (TouchCancel t) ts once fresh = distinct_without (nat_eq t) ts once
touched_once i ts once fresh = once

-- an input that isn't heard ends no touch that is down
pub unheard : (past : List Raw) (d : ℕ) (i : InputEvent) (q : ℕ) → is_heard past d i ≡ false → unwrap_or (said_by q i) (is_down past d q) ≡ is_down past d q
unheard past d (TouchMotion t x y) q h = refl
unheard past d (TouchUp t) q h = by (eqb t q) refl
  where
    by : (b : Bool) → eqb t q ≡ b → unwrap_or (cond b (Some false) None) (is_down past d q) ≡ is_down past d q
    by true e = sym (ap (is_down past d) (sym (eqb-true t q e)) ∙ h)
    by false e = refl
unheard past d (TouchCancel t) q h = by (eqb t q) refl
  where
    by : (b : Bool) → eqb t q ≡ b → unwrap_or (cond b (Some false) None) (is_down past d q) ≡ is_down past d q
    by true e = sym (ap (is_down past d) (sym (eqb-true t q e)) ∙ h)
    by false e = refl
unheard past d i q h = absurd cc
