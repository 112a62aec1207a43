-- A turn in which the ids run out.
use Rattle.std.proofs.Common.{◌≡◌, ◌==◌, ◌<◌, ◌+◌, ℕ, Bool, true, false, cond, ltb, List, [], ◌∷◌, ◌++◌, length, map, Option, Some, None, refl, sym, ap, subst, ◌∙◌}
use Rattle.std.specs.Prelude.{find, nat_eq, nat_lt, not, bit_and, ◌&&◌}
use Rattle.ei_spec.specs.declared.limits.TheConstants.{MOST_PIECE_HANDLES}
use Rattle.std.proofs.lemmas.Bool.{ltb-true}
use Rattle.std.proofs.lemmas.List.{append-nil}
use Rattle.ei_spec.specs.Message.{Raw}
use Rattle.ei_spec.specs.Interface.{ObjectView}
use Rattle.ei_backend.specs.Table.{own_end}
use Rattle.ei_types.specs.Capability.{bits_of}
use Rattle.ei_types.specs.declared.capability.DeviceCapabilities.{DeviceCapabilities}
use Rattle.ei_session.specs.Setup.{seat_id}
use Rattle.ei_session.specs.Requests.{Plain, Bind, RequestDevice, Ready, DeviceClosed, DeviceStartEmulating, DeviceStopEmulating, Disconnect}
use Rattle.ei_request.specs.declared.event.EisRequest.{EisRequest}
use Rattle.ei_request.specs.declared.event.EisRequest.TheVariants as asked
use Rattle.ei_request.specs.Handling.{set_of}
use Rattle.ei_request.specs.Held.{SeatView, is_seat}
use Rattle.ei_request.specs.Connection.{ConnectionView}
use Rattle.ei_request.specs.Making.{granted_by, granted_at, setup_handles, is_long_description}
use Rattle.ei_standing.specs.Standing.{seat_of, plain_in_code}
use Rattle.ei_serve.specs.Policy.{device_if, policy_of, policy_behind, RunOut, RunOutIfHeld}
use Rattle.ei_serve.specs.Policy.{LacksIds as Lacks}
use Rattle.ei_serve.proofs.Following.{behind_last}
use Rattle.reis_eis.specs.declared.call_error.CallError.{CallError}
use Rattle.reis_eis.specs.declared.call_error.CallError.TheVariants as call_error
use Rattle.reis_eis.specs.declared.ending.Ending.{Ending}
use Rattle.reis_eis.specs.declared.notice.Notice.{Notice}
use Rattle.reis_eis.specs.View.{EisView}
use Rattle.reis_eis.specs.Refusals.{first_reason, describing_at, has_keyboard, announcing, adding_device}
use Rattle.reis_alike.specs.Program.{Does, LacksWanted, LacksIds, TakesOutTo, taken_from}
use Rattle.reis_alike.proofs.Giving.{IsQuiet, AreQuiet, IsGiven, AllQuiet, WithLast}
use Rattle.reis_alike.proofs.Acting.{Beside, view_of, waiting, quiet_does, does_so, HasKeysOf}
use Rattle.reis_alike.proofs.Feeding.{does_keep}

-- ---- it goes on until then

lacks_going : (b : Bool) (seat : ℕ) (wanted : DeviceCapabilities) (e : EisView) → LacksWanted b seat wanted e → e.ending ≡ None
lacks_going true seat wanted e l = absurd l
lacks_going false seat wanted e l = by e.ending refl
  where
    by : (how : Option Ending) → e.ending ≡ how → e.ending ≡ None
    by None is = is
    by (Some how) is = let z : Some call_error.Over ≡ Some call_error.IdsExhausted = rw is at l in absurd cc

ids_going : (r : EisRequest) (e : EisView) → LacksIds r e → e.ending ≡ None
ids_going (asked.Bind r) e l = lacks_going (bits_of r.capabilities == 0) r.seat.id r.capabilities e l
ids_going (asked.RequestDevice r) e l = lacks_going (bits_of r.capabilities == 0) r.seat.id r.capabilities e l
ids_going r e l = absurd l

pub still_going : (rs : List EisRequest) (e : EisView) → TakesOutTo rs e → e.ending ≡ None
still_going [] e t = absurd t
still_going (r ∷ []) e t = ids_going r (taken_from e) t.1
still_going (r ∷ s ∷ rs) e t = sym (does_keep r (taken_from e) t.1.0 t.1.1) ∙ still_going (s ∷ rs) t.1.0 t.1.2

-- ---- the last request

quiet_enough : (r : EisRequest) (e : EisView) → IsQuiet r → LacksIds r e → ⊥
quiet_enough (asked.Bind r) e q l = q
quiet_enough (asked.RequestDevice r) e q l = q
quiet_enough r e q l = l

none_to : (h : ConnectionView) (how : Beside) (rs : List EisRequest) → TakesOutTo rs (view_of (waiting h []) how) → ⊥
none_to h how [] t = t
none_to h how (r ∷ []) t = let z : None ≡ Some r = t.0 in cc
none_to h how (r ∷ s ∷ rs) t = let z : None ≡ Some r = t.0 in cc

-- the first were taken out, and then others up to it
record FirstTo (q more : List EisRequest) (h : ConnectionView) (how : Beside) (rs : List EisRequest) : Type 0 where
  others : List EisRequest
  all : rs ≡ q ++ others
  takes : TakesOutTo others (view_of (waiting h more) how)

first_to : (q more : List EisRequest) (h : ConnectionView) (how : Beside) (rs : List EisRequest) → AreQuiet q → TakesOutTo rs (view_of (waiting h (q ++ more)) how) → FirstTo q more h how rs
first_to [] more h how rs quiet t = record { others = rs; all = refl; takes = t }
first_to (x ∷ q) more h how [] quiet t = absurd t
first_to (x ∷ q) more h how (r ∷ []) quiet t =
    let same : x ≡ r = let z : Some x ≡ Some r = t.0 in cc in
    absurd (quiet_enough r (taken_from (view_of (waiting h (x ∷ (q ++ more))) how)) (subst IsQuiet same quiet.0) t.1)
first_to (x ∷ q) more h how (r ∷ s ∷ rs) quiet t =
    let same : x ≡ r = let z : Some x ≡ Some r = t.0 in cc in
    let now : t.1.0 ≡ view_of (waiting h (q ++ more)) how = quiet_does r (view_of (waiting h (q ++ more)) how) t.1.0 (subst IsQuiet same quiet.0) t.1.1 in
    let rest = first_to q more h how (s ∷ rs) quiet.1 (subst (λ (e : EisView). TakesOutTo (s ∷ rs) e) now t.1.2) in
    record { others = rest.others; all = ap (λ (y : EisRequest). y ∷ s ∷ rs) (sym same) ∙ ap (λ (ys : List EisRequest). x ∷ ys) rest.all; takes = rest.takes }

-- ---- too few ids

never_many : (b c d : Bool) → cond b (Some call_error.Capabilities) (cond c (Some call_error.NoKeyboard) (cond d (Some call_error.TooManyHandles) None)) ≡ Some call_error.IdsExhausted → ⊥
never_many true c d e = cc
never_many false true d e = cc
never_many false false true e = cc
never_many false false false e = cc

never_described : (o : Option SeatView) (wanted : DeviceCapabilities) (n : ℕ) → describing_at o wanted [] n ≡ Some call_error.IdsExhausted → ⊥
never_described None wanted n e = cc
never_described (Some s) wanted n e =
    never_many (not (bit_and (bits_of s.capabilities) (bits_of wanted) == bits_of wanted)) (nat_lt 0 (length (setup_handles [])) && not (has_keyboard s.capabilities wanted)) (nat_lt MOST_PIECE_HANDLES (n + length (setup_handles []))) e

second : (a b : Option CallError) → (a ≡ Some call_error.IdsExhausted → ⊥) → first_reason a b ≡ Some call_error.IdsExhausted → b ≡ Some call_error.IdsExhausted
second (Some x) b never e = absurd (never e)
second None b never e = e

less_by : (b long : Bool) (n m : ℕ) → ltb n m ≡ b → cond b (Some call_error.IdsExhausted) (cond long (Some call_error.MessageTooLong) None) ≡ Some call_error.IdsExhausted → n < m
less_by true long n m t e = ltb-true n m t
less_by false true n m t e = absurd cc
less_by false false n m t e = absurd cc

-- the one seat is there
seat_found : (ss : List SeatView) (past : List Raw) → map (λ s. s.proxy) ss ≡ seat_of past ∷ [] → (s : SeatView) × (find (is_seat seat_id) ss ≡ Some s)
seat_found [] past m = absurd cc
seat_found (s ∷ ss) past m =
    let first : s.proxy ≡ seat_of past = cc in
    let here : nat_eq s.proxy.id seat_id ≡ true = ap (λ (o : ObjectView). nat_eq o.id seat_id) first in
    (s, rw here refl)

held_out : (o : Option SeatView) (s : SeatView) (c : ConnectionView) (wanted : DeviceCapabilities) → o ≡ Some s → RunOut c (granted_by o wanted) → RunOutIfHeld o c wanted
held_out None s c wanted e l = absurd cc
held_out (Some t) s c wanted e l = l

module _ (past : List Raw) (h : ConnectionView) (keys : HasKeysOf past h) (told : List Notice) where
  too_few : (wanted : DeviceCapabilities) → adding_device seat_id None wanted [] h ≡ Some call_error.IdsExhausted → RunOutIfHeld (find (is_seat seat_id) h.seats) h wanted
  too_few wanted e =
      let a : announcing h None (length (granted_at h seat_id wanted)) [] ≡ Some call_error.IdsExhausted =
      second (describing_at (find (is_seat seat_id) h.seats) wanted [] (length h.ctx.unsent_handles)) _ (never_described (find (is_seat seat_id) h.seats) wanted (length h.ctx.unsent_handles)) e in
      let s = seat_found h.seats past keys.seats in
      held_out (find (is_seat seat_id) h.seats) s.0 h wanted s.1 (less_by _ (is_long_description h.ctx.table.next_own None []) (own_end h.ctx.table) (h.ctx.table.next_own + (length (granted_at h seat_id wanted) + 1)) refl a)

  wanted_few : (b : Bool) (mask : ℕ) → (mask == 0) ≡ b → LacksWanted b seat_id (set_of mask) (view_of (waiting h []) (None, told)) → Lacks (device_if (seat_of past) (set_of mask)) h
  wanted_few true mask z l = absurd l
  wanted_few false mask z l = rw z (too_few (set_of mask) l)

  last_few : (y : Plain) → LacksIds (plain_in_code past y) (view_of (waiting h []) (None, told)) → Lacks (policy_of (plain_in_code past y)) h
  last_few (Bind seat mask) l = wanted_few (mask == 0) mask refl l
  last_few (RequestDevice seat mask) l = wanted_few (mask == 0) mask refl l
  last_few (DeviceClosed d) l = absurd l
  last_few (Ready d) l = absurd l
  last_few (DeviceStartEmulating d serial sequence) l = absurd l
  last_few (DeviceStopEmulating d serial) l = absurd l
  last_few Disconnect l = absurd l

  one_to : (y : Plain) (rs : List EisRequest) → TakesOutTo rs (view_of (waiting h (plain_in_code past y ∷ [])) (None, told)) → (rs ≡ plain_in_code past y ∷ []) × LacksIds (plain_in_code past y) (view_of (waiting h []) (None, told))
  one_to y [] t = absurd t
  one_to y (r ∷ []) t =
      let same : r ≡ plain_in_code past y = let z : Some (plain_in_code past y) ≡ Some r = t.0 in cc in
      (ap (λ (x : EisRequest). x ∷ []) same, subst (λ (x : EisRequest). LacksIds x (view_of (waiting h []) (None, told))) same t.1)
  one_to y (r ∷ s ∷ rs) t =
      let same : r ≡ plain_in_code past y = let z : Some (plain_in_code past y) ≡ Some r = t.0 in cc in
      let d = does_so past y (waiting h []) (None, told) t.1.0 (subst (λ (x : EisRequest). Does x (view_of (waiting h []) (None, told)) t.1.0) same t.1.1) in
      let now : t.1.0 ≡ view_of (waiting d.now.handle []) (None, told) = d.is ∙ ap (λ (q : List EisRequest). view_of (waiting d.now.handle q) (None, told)) d.queue in
      absurd (none_to d.now.handle (None, told) (s ∷ rs) (subst (λ (e : EisView). TakesOutTo (s ∷ rs) e) now t.1.2))

  -- these were the requests that waited, and too few ids are left for what the policy does behind the last
  pub few_so : (queue rs : List EisRequest) → IsGiven past queue → TakesOutTo rs (view_of (waiting h queue) (None, told)) → (rs ≡ queue) × Lacks (policy_behind queue) h
  few_so queue rs (AllQuiet q) t =
      let f = first_to queue [] h (None, told) rs q (subst (λ (x : List EisRequest). TakesOutTo rs (view_of (waiting h x) (None, told))) (sym (append-nil queue)) t) in
      absurd (none_to h (None, told) f.others f.takes)
  few_so queue rs (WithLast first y q e) t =
      let f = first_to first (plain_in_code past y ∷ []) h (None, told) rs q (subst (λ (x : List EisRequest). TakesOutTo rs (view_of (waiting h x) (None, told))) e t) in
      let o = one_to y f.others f.takes in
      (f.all ∙ ap (λ (x : List EisRequest). first ++ x) o.0 ∙ sym e, rw (e, behind_last first (plain_in_code past y)) (last_few y o.1))
