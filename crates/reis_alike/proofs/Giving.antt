-- Of the requests that a message gives something is done behind the last alone.
use Rattle.std.proofs.Common.{◌≡◌, ℕ, List, [], ◌∷◌, ◌++◌, map, Option, Some, None, refl, sym, ap, subst, ◌∙◌}
use Rattle.std.proofs.lemmas.List.{map-append}
use Rattle.ei_spec.specs.Message.{Raw}
use Rattle.ei_spec.specs.History.{each}
use Rattle.ei_spec.specs.Groups.{Plain as Other-Plain, Input, Frame, Other, Free, group, gives, with_frame}
use Rattle.ei_input.specs.declared.input_event.InputEvent.{InputEvent}
use Rattle.ei_input.specs.declared.input_event.InputEvent.TheVariants.{TextUtf8}
use Rattle.ei_session.specs.Setup.{Setup}
use Rattle.ei_session.specs.Requests.{Plain, Asking, item, slot}
use Rattle.ei_session.proofs.GivenByItem.{gives_input, gives_frame, gives_other, gives_free, gives_none}
use Rattle.ei_request.specs.declared.event.EisRequest.{EisRequest}
use Rattle.ei_request.specs.declared.event.EisRequest.TheVariants as asked
use Rattle.ei_request.specs.Event.{timed}
use Rattle.ei_request.specs.Keys.{DeviceKey}
use Rattle.ei_request.specs.Held.{group_requests}
use Rattle.ei_standing.specs.Standing.{device_of, request_in_code, plain_in_code}
use Rattle.ei_standing.proofs.FrameLaw.{group_as}

-- nothing is done behind the request
abbrev pub IsQuiet : EisRequest → Type 0
IsQuiet (asked.Bind r) = ⊥
IsQuiet (asked.RequestDevice r) = ⊥
IsQuiet (asked.DeviceClosed r) = ⊥
IsQuiet asked.Disconnect = ⊥
IsQuiet r = Unit {0}

abbrev pub AreQuiet : List EisRequest → Type 0
AreQuiet [] = Unit {0}
AreQuiet (r ∷ rs) = IsQuiet r × AreQuiet rs

-- nothing is done behind these, or behind any but the last, which isn't of a group
pub data IsGiven (past : List Raw) (queue : List EisRequest) : Type 0 where
  AllQuiet : AreQuiet queue → IsGiven past queue
  WithLast : (rs : List EisRequest) → (y : Plain) → AreQuiet rs → queue ≡ rs ++ plain_in_code past y ∷ [] → IsGiven past queue

timed_quiet : (key : DeviceKey) (time : ℕ) (i : InputEvent) → IsQuiet (timed key time i)
timed_quiet key time (TextUtf8 text) = tt
timed_quiet key time i = tt

all_timed : (key : DeviceKey) (time : ℕ) (is : List InputEvent) → AreQuiet (map (timed key time) is)
all_timed key time [] = tt
all_timed key time (i ∷ is) = (timed_quiet key time i, all_timed key time is)

quiet_more : (rs : List EisRequest) (r : EisRequest) → AreQuiet rs → IsQuiet r → AreQuiet (rs ++ r ∷ [])
quiet_more [] r q n = (n, tt)
quiet_more (x ∷ rs) r q n = (q.0, quiet_more rs r q.1 n)

group_quiet : (key : DeviceKey) (is : List InputEvent) (serial time : ℕ) → AreQuiet (group_requests key is serial time)
group_quiet key [] serial time = tt
group_quiet key (i ∷ is) serial time = quiet_more (map (timed key time) (i ∷ is)) (asked.Frame (record { device = key; last_serial = serial; time = time })) (all_timed key time (i ∷ is)) tt

module _ (setup : Setup) (readings : List ℕ) (past : List Raw) (m : Raw) where
  abbrev given : List EisRequest
  given = map (request_in_code past) (gives readings (each (slot setup) past) (slot setup past m))

  all_quiet : (rs : List EisRequest) → given ≡ rs → AreQuiet rs → IsGiven past given
  all_quiet rs e q = AllQuiet (subst AreQuiet (sym e) q)

  by_item : (o : Option Asking) → item past m ≡ o → IsGiven past given
  by_item None e = all_quiet [] (ap (map (request_in_code past)) (gives_none setup readings past m e)) tt
  by_item (Some (Input d i)) e = all_quiet [] (ap (map (request_in_code past)) (gives_input setup readings past m d i e)) tt
  by_item (Some (Frame d s t)) e =
      let g : List InputEvent = group d (each (slot setup) past) in
      all_quiet (group_requests (device_of past d) g s t) (ap (map (request_in_code past)) (gives_frame setup readings past m d s t e) ∙ group_as past d s t g) (group_quiet (device_of past d) g s t)
  by_item (Some (Other d y)) e =
      let g : List InputEvent = group d (each (slot setup) past) in
      WithLast (group_requests (device_of past d) g _ _) y (group_quiet (device_of past d) g _ _)
      (ap (map (request_in_code past)) (gives_other setup readings past m d y e) ∙ map-append (request_in_code past) (with_frame g d _ _) (Other-Plain y ∷ [])
      ∙ ap (λ (rs : List EisRequest). rs ++ plain_in_code past y ∷ []) (group_as past d _ _ g))
  by_item (Some (Free y)) e = WithLast [] y tt (ap (map (request_in_code past)) (gives_free setup readings past m y e))

  pub is_given : IsGiven past given
  is_given = by_item (item past m) refl
