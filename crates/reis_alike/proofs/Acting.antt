-- Requests that are taken out are those that waited, and what is done behind them is what a session does behind the last.
use Rattle.std.proofs.Common.{◌≡◌, ◌<◌, ◌+◌, ◌==◌, ◌&&◌, ℕ, Bool, true, false, cond, ltb, List, [], ◌∷◌, ◌++◌, length, map, Option, Some, None, refl, sym, ap, subst, ◌∙◌, arith}
use Rattle.std.specs.Prelude.{find, nat_eq}
use Rattle.std.proofs.lemmas.Bool.Decides.{nat_tests}
use Rattle.std.proofs.lemmas.List.{append-nil}
use Rattle.ei_spec.specs.Message.{Raw}
use Rattle.ei_spec.specs.Interface.{ObjectView}
use Rattle.ei_backend.specs.Table.{own_end}
use Rattle.ei_types.specs.declared.capability.DeviceCapabilities.{DeviceCapabilities}
use Rattle.ei_types.specs.declared.enums.DeviceType.TheVariants.{Virtual}
use Rattle.ei_session.specs.Setup.{seat_id}
use Rattle.ei_session.specs.Requests.{Plain, Bind, RequestDevice, Ready, DeviceClosed, DeviceStartEmulating, DeviceStopEmulating, Disconnect}
use Rattle.ei_request.specs.declared.event.EisRequest.{EisRequest}
use Rattle.ei_request.specs.declared.event.EisRequest.TheVariants as asked
use Rattle.ei_request.specs.Keys.{DeviceKey}
use Rattle.ei_request.specs.Handling.{set_of}
use Rattle.ei_request.specs.Held.{SeatView, DeviceView, is_seat, is_device, is_of_key, gone_ids, without_first}
use Rattle.ei_request.specs.Connection.{ConnectionView}
use Rattle.ei_request.specs.Converter.{ConverterView}
use Rattle.ei_request.specs.Making.{AddsDevice, granted_by, granted_at}
use Rattle.ei_request.specs.Removing.{TellsGone, RemovesDevice}
use Rattle.ei_standing.specs.Standing.{seat_of, device_of, plain_in_code}
use Rattle.ei_serve.specs.Policy.{device_if, policy_of, policy_behind, AddsIfHeld, Follows, LacksIds, RunOut, RunOutIfHeld}
use Rattle.ei_serve.proofs.Following.{behind_last}
use Rattle.reis_eis.specs.declared.call_error.CallError.{CallError}
use Rattle.reis_eis.specs.declared.call_error.CallError.TheVariants as call_error
use Rattle.reis_eis.specs.declared.ending.Ending.{Ending}
use Rattle.reis_eis.specs.declared.notice.Notice.{Notice}
use Rattle.reis_eis.specs.declared.phase.Phase.{Phase}
use Rattle.reis_eis.specs.declared.phase.Phase.TheVariants as phase
use Rattle.reis_eis.specs.View.{EisView}
use Rattle.reis_eis.specs.Refusals.{first_reason, adding_device, announcing}
use Rattle.reis_eis.specs.Acting.{AddsDeviceTo, AddsDeviceAs, Resumes, RemovesDeviceAt, Acts, ActsIn, ActsOn, refusal}
use Rattle.reis_eis.proofs.Firsts.{by_key, without_key}
use Rattle.reis_alike.specs.Program.{AddsAndResumes, AddsWanted, Does, TakesOut}
use Rattle.reis_alike.proofs.Giving.{IsQuiet, AreQuiet, IsGiven, AllQuiet, WithLast}

-- what stands beside a phase: how the connection ended, and the notices that wait
abbrev pub Beside : Type 0
Beside = Option Ending × List Notice

-- a connection behind the handshake
abbrev pub view_of : ConverterView → Beside → EisView
view_of c how = record { phase = phase.Standing c; ending = how.0; notices = how.1 }

-- ---- a call

-- it was made behind the handshake
pub record ActsSo (does : ConnectionView → ConnectionView → Type 0) (c : ConverterView) (p : Phase) : Type 0 where
  pub now : ConverterView
  pub is : p ≡ phase.Standing now
  pub acts : Acts does c now

pub acts_in : (does : ConnectionView → ConnectionView → Type 0) (c : ConverterView) (p : Phase) → ActsIn does (phase.Standing c) p → ActsSo does c p
acts_in does c (phase.Standing d) a = record { now = d; is = refl; acts = a }
acts_in does c (phase.Shaking h) a = absurd a
acts_in does c phase.Between a = absurd a

-- ---- what is done behind a request

-- a device is added, which no call refuses, and resumed
pub record Adds (wanted : DeviceCapabilities) (old new : ConnectionView) : Type 0 where
  pub id : ℕ
  pub added : ConnectionView
  pub accepted : adding_device seat_id None wanted [] old ≡ None
  pub adds : AddsDeviceAs id seat_id None Virtual wanted [] old added
  pub resumes : Resumes id added new

-- where some capability is wanted
abbrev pub AddsSome : Bool → DeviceCapabilities → ConnectionView → ConnectionView → Type 0
AddsSome true wanted old new = new ≡ old
AddsSome false wanted old new = Adds wanted old new

-- what is done at the connection
abbrev pub Done : Plain → ConnectionView → ConnectionView → Type 0
Done (Bind seat mask) old new = AddsSome (mask == 0) (set_of mask) old new
Done (RequestDevice seat mask) old new = AddsSome (mask == 0) (set_of mask) old new
Done (DeviceClosed d) old new = RemovesDeviceAt d old new
Done y old new = new ≡ old

-- it was done behind the handshake, and no request came or went
pub record DoesSo (P : ConnectionView → ConnectionView → Type 0) (c : ConverterView) (how : Beside) (new : EisView) : Type 0 where
  pub now : ConverterView
  pub is : new ≡ view_of now how
  pub done : P c.handle now.handle
  pub queue : now.queue ≡ c.queue

view_is : (e : EisView) (c : ConverterView) (how : Beside) → e.phase ≡ phase.Standing c → e.ending ≡ how.0 → e.notices ≡ how.1 → e ≡ view_of c how
view_is e c how p k n =
    ap (λ (x : Phase). record e { phase = x }) p ∙ ap (λ (x : Option Ending). view_of c (x, e.notices)) k ∙ ap (λ (x : List Notice). view_of c (how.0, x)) n

acts_so : (does : ConnectionView → ConnectionView → Type 0) (c : ConverterView) (how : Beside) (new : EisView) → ActsOn does (view_of c how) new → DoesSo does c how new
acts_so does c how new h = let a = acts_in does c new.phase h.acts in record { now = a.now; is = view_is new a.now how a.is h.kept h.notices; done = a.acts.done; queue = a.acts.queue }

nothing_so : (c : ConverterView) (how : Beside) (new : EisView) → new ≡ view_of c how → DoesSo (λ old new. new ≡ old) c how new
nothing_so c how new is = record { now = c; is = is; done = refl; queue = refl }

accepted_so : (wanted : DeviceCapabilities) (c : ConverterView) (how : Beside) → refusal (adding_device seat_id None wanted []) (view_of c how) ≡ None → adding_device seat_id None wanted [] c.handle ≡ None
accepted_so wanted c (None, waiting) e = e
accepted_so wanted c (Some x, waiting) e = absurd cc

adds_so : (wanted : DeviceCapabilities) (c : ConverterView) (how : Beside) (new : EisView) → AddsAndResumes seat_id wanted (view_of c how) new → DoesSo (Adds wanted) c how new
adds_so wanted c how new h =
    let a = acts_so (AddsDeviceAs h.id seat_id None Virtual wanted []) c how h.added h.adds in
    let b = acts_so (Resumes h.id) a.now how new (subst (λ (e : EisView). ActsOn (Resumes h.id) e new) a.is h.resumes) in
    record {
      now = b.now;
      is = b.is;
      done = record { id = h.id; added = a.now.handle; accepted = accepted_so wanted c how h.accepted; adds = a.done; resumes = b.done };
      queue = b.queue ∙ a.queue;
    }

wanted_so : (b : Bool) (wanted : DeviceCapabilities) (c : ConverterView) (how : Beside) (new : EisView) → AddsWanted b seat_id wanted (view_of c how) new → DoesSo (AddsSome b wanted) c how new
wanted_so true wanted c how new h = nothing_so c how new h
wanted_so false wanted c how new h = adds_so wanted c how new h

pub does_so : (past : List Raw) (y : Plain) (c : ConverterView) (how : Beside) (new : EisView) → Does (plain_in_code past y) (view_of c how) new → DoesSo (Done y) c how new
does_so past (Bind seat mask) c how new h = wanted_so (mask == 0) (set_of mask) c how new h
does_so past (RequestDevice seat mask) c how new h = wanted_so (mask == 0) (set_of mask) c how new h
does_so past (DeviceClosed d) c how new h = acts_so (RemovesDeviceAt d) c how new h
does_so past (Ready d) c how new h = nothing_so c how new h
does_so past (DeviceStartEmulating d serial sequence) c how new h = nothing_so c how new h
does_so past (DeviceStopEmulating d serial) c how new h = nothing_so c how new h
does_so past Disconnect c how new h = nothing_so c how new h

pub quiet_does : (r : EisRequest) (e f : EisView) → IsQuiet r → Does r e f → f ≡ e
quiet_does (asked.Bind r) e f q d = absurd q
quiet_does (asked.RequestDevice r) e f q d = absurd q
quiet_does (asked.DeviceClosed r) e f q d = absurd q
quiet_does asked.Disconnect e f q d = absurd q
quiet_does r e f q d = d

-- ---- all requests

abbrev pub waiting : ConnectionView → List EisRequest → ConverterView
waiting h queue = record { handle = h; queue = queue }

none_left : (h : ConnectionView) (how : Beside) (rs : List EisRequest) (new : EisView) → TakesOut rs (view_of (waiting h []) how) new → (rs ≡ []) × (new ≡ view_of (waiting h []) how)
none_left h how [] new t = (refl, t.1)
none_left h how (r ∷ rs) new t = let z : None ≡ Some r = t.0 in absurd cc

-- the first were taken out, and then others
record TakesFirst (q more : List EisRequest) (h : ConnectionView) (how : Beside) (rs : List EisRequest) (new : EisView) : Type 0 where
  others : List EisRequest
  all : rs ≡ q ++ others
  takes : TakesOut others (view_of (waiting h more) how) new

takes_first : (q more : List EisRequest) (h : ConnectionView) (how : Beside) (rs : List EisRequest) (new : EisView) → AreQuiet q → TakesOut rs (view_of (waiting h (q ++ more)) how) new → TakesFirst q more h how rs new
takes_first [] more h how rs new quiet t = record { others = rs; all = refl; takes = t }
takes_first (x ∷ q) more h how [] new quiet t = let z : Some x ≡ None = t.0 in absurd cc
takes_first (x ∷ q) more h how (r ∷ rs) new quiet t =
    let same : x ≡ r = let z : Some x ≡ Some r = t.0 in cc in
    let now : t.1.0 ≡ view_of (waiting h (q ++ more)) how = quiet_does r (view_of (waiting h (q ++ more)) how) t.1.0 (subst IsQuiet same quiet.0) t.1.1 in
    let rest = takes_first q more h how rs new quiet.1 (subst (λ (e : EisView). TakesOut rs e new) now t.1.2) in
    record { others = rest.others; all = ap (λ (y : EisRequest). y ∷ rs) (sym same) ∙ ap (λ (ys : List EisRequest). x ∷ ys) rest.all; takes = rest.takes }

-- ---- by what is held

-- the keys of what is held are those of the messages: the one seat, and its devices
pub record HasKeysOf (past : List Raw) (h : ConnectionView) : Type 0 where
  pub seats : map (λ s. s.proxy) h.seats ≡ seat_of past ∷ []
  pub devices : (id : ℕ) (d : DeviceView) → find (is_device id) h.devices ≡ Some d → d.device ≡ device_of past id

the_one : (ss : List SeatView) (o : ObjectView) (test : SeatView → Bool) (s : SeatView) → map (λ s. s.proxy) ss ≡ o ∷ [] → find test ss ≡ Some s → s.proxy ≡ o
the_one [] o test s m f = absurd cc
the_one (x ∷ []) o test s m f = by (test x) f
  where
    by : (b : Bool) → cond b (Some x) None ≡ Some s → s.proxy ≡ o
    by true e =
        let same : x ≡ s = cc in
        let first : x.proxy ≡ o = cc in
        ap (λ (y : SeatView). y.proxy) (sym same) ∙ first
    by false e = absurd cc
the_one (x ∷ y ∷ ss) o test s m f = absurd cc

none_first : (a b : Option CallError) → first_reason a b ≡ None → b ≡ None
none_first (Some e) b h = absurd cc
none_first None b h = h

enough_by : (b : Bool) (n m : ℕ) (rest : Option CallError) → ltb n m ≡ b → cond b (Some call_error.IdsExhausted) rest ≡ None → n < m → ⊥
enough_by true n m rest e h lt = let z : Some call_error.IdsExhausted ≡ None = h in absurd cc
enough_by false n m rest e h lt = let z : ltb n m ≡ true = grind (arith, nat_tests) in let w : true ≡ false = sym z ∙ e in absurd cc

run_out : (o : Option SeatView) (c : ConnectionView) (wanted : DeviceCapabilities) → RunOutIfHeld o c wanted → RunOut c (granted_by o wanted)
run_out None c wanted l = absurd l
run_out (Some s) c wanted l = l

-- where no device has the id, none has the key
and_none : (b : Bool) → (b && false) ≡ false
and_none true = refl
and_none false = refl

not_key : (k : DeviceKey) (d : DeviceView) → is_device k.proxy.id d ≡ false → is_of_key k d ≡ false
not_key k d e = rw e (and_none (nat_eq d.device.seat.id k.seat.id))

find_more : (k : DeviceKey) (d : DeviceView) (ds : List DeviceView) (b : Bool) → is_device k.proxy.id d ≡ b → cond b (Some d) (find (is_device k.proxy.id) ds) ≡ None → (find (is_device k.proxy.id) ds ≡ None → find (is_of_key k) ds ≡ None) → find (is_of_key k) (d ∷ ds) ≡ None
find_more k d ds true here e rest = absurd cc
find_more k d ds false here e rest = rw (not_key k d here) (rest e)

find_none : (k : DeviceKey) (ds : List DeviceView) → find (is_device k.proxy.id) ds ≡ None → find (is_of_key k) ds ≡ None
find_none k [] e = refl
find_none k (d ∷ ds) e = find_more k d ds (is_device k.proxy.id d) refl e (find_none k ds)

without_more : (k : DeviceKey) (d : DeviceView) (ds : List DeviceView) (b : Bool) → is_device k.proxy.id d ≡ b → cond b (Some d) (find (is_device k.proxy.id) ds) ≡ None →
    (find (is_device k.proxy.id) ds ≡ None → without_first (is_device k.proxy.id) ds ≡ without_first (is_of_key k) ds) → without_first (is_device k.proxy.id) (d ∷ ds) ≡ without_first (is_of_key k) (d ∷ ds)
without_more k d ds true here e rest = absurd cc
without_more k d ds false here e rest = rw (here, and_none (nat_eq d.device.seat.id k.seat.id)) (ap (λ (xs : List DeviceView). d ∷ xs) (rest e))

without_none : (k : DeviceKey) (ds : List DeviceView) → find (is_device k.proxy.id) ds ≡ None → without_first (is_device k.proxy.id) ds ≡ without_first (is_of_key k) ds
without_none k [] e = refl
without_none k (d ∷ ds) e = without_more k d ds (is_device k.proxy.id d) refl e (without_none k ds)

module _ (past : List Raw) (h : ConnectionView) (keys : HasKeysOf past h) where
  -- a device that is added is added as a session adds one, and no ids run out with it
  module _ (wanted : DeviceCapabilities) where
    adds_to : (o : Option SeatView) (mid : ConnectionView) → find (is_seat seat_id) h.seats ≡ o → AddsDeviceTo o None Virtual wanted [] h mid →
        (end : ConnectionView) (id : ℕ) → id ≡ h.ctx.table.next_own → Resumes id mid end → AddsIfHeld o h (seat_of past) wanted end
    adds_to None mid f a end id own r = absurd a
    adds_to (Some s) mid f a end id own r =
        let same : s.proxy ≡ seat_of past = the_one h.seats (seat_of past) (is_seat seat_id) s keys.seats f in
        record {
          mid = mid;
          adds = subst (λ (x : ObjectView). AddsDevice h x None Virtual (granted_at h x.id wanted) [] mid) same a;
          resumes = subst (λ (x : ℕ). Resumes x mid end) own r;
        }

    adds_as : (end : ConnectionView) → Adds wanted h end → AddsIfHeld (find (is_seat seat_id) h.seats) h (seat_of past) wanted end
    adds_as end a = adds_to (find (is_seat seat_id) h.seats) a.added refl a.adds.1 end a.id a.adds.0 a.resumes

    enough : (end : ConnectionView) → Adds wanted h end → RunOutIfHeld (find (is_seat seat_id) h.seats) h wanted → ⊥
    enough end a l =
        enough_by _ (own_end h.ctx.table) (h.ctx.table.next_own + (length (granted_at h seat_id wanted) + 1)) _ refl
        (none_first _ (announcing h None (length (granted_at h seat_id wanted)) []) a.accepted) (run_out (find (is_seat seat_id) h.seats) h wanted l)

  -- a device that is removed is the one of that key
  removes_found : (d : ℕ) (o : Option DeviceView) (end : ConnectionView) → find (is_device d) h.devices ≡ o → RemovesDeviceAt d h end → RemovesDevice h (device_of past d) end
  removes_found d None end f r =
      subst (λ (ds : List DeviceView). TellsGone h (gone_ids (find (is_of_key (device_of past d)) h.devices)) h.seats ds end) (without_none (device_of past d) h.devices f)
      (subst (λ (x : Option DeviceView). TellsGone h (gone_ids x) h.seats (without_first (is_device d) h.devices) end) (f ∙ sym (find_none (device_of past d) h.devices f)) r)
  removes_found d (Some v) end f r =
      let same : v.device ≡ device_of past d = keys.devices d v f in
      let at : find (is_of_key (device_of past d)) h.devices ≡ Some v = ap (λ (k : DeviceKey). find (is_of_key k) h.devices) (sym same) ∙ by_key d h.devices v f in
      let without : without_first (is_of_key (device_of past d)) h.devices ≡ without_first (is_device d) h.devices =
      ap (λ (k : DeviceKey). without_first (is_of_key k) h.devices) (sym same) ∙ without_key d h.devices v f in
      subst (λ (ds : List DeviceView). TellsGone h (gone_ids (find (is_of_key (device_of past d)) h.devices)) h.seats ds end) (sym without)
      (subst (λ (x : Option DeviceView). TellsGone h (gone_ids x) h.seats (without_first (is_device d) h.devices) end) (f ∙ sym at) r)

  -- ---- as the policy has it

  by_mask : (b : Bool) (mask : ℕ) (end : ConnectionView) → (mask == 0) ≡ b → AddsSome b (set_of mask) h end → Follows (device_if (seat_of past) (set_of mask)) h end × (LacksIds (device_if (seat_of past) (set_of mask)) h → ⊥)
  by_mask true mask end z d = rw z (d, λ l. l)
  by_mask false mask end z d = rw z (adds_as (set_of mask) end d, enough (set_of mask) end d)

  last_follows : (y : Plain) (end : ConnectionView) → Done y h end → Follows (policy_of (plain_in_code past y)) h end × (LacksIds (policy_of (plain_in_code past y)) h → ⊥)
  last_follows (Bind seat mask) end d = by_mask (mask == 0) mask end refl d
  last_follows (RequestDevice seat mask) end d = by_mask (mask == 0) mask end refl d
  last_follows (DeviceClosed id) end d = (removes_found id (find (is_device id) h.devices) end refl d, λ l. l)
  last_follows (Ready id) end d = (d, λ l. l)
  last_follows (DeviceStartEmulating id serial sequence) end d = (d, λ l. l)
  last_follows (DeviceStopEmulating id serial) end d = (d, λ l. l)
  last_follows Disconnect end d = (d, λ l. l)

  quiet_follows : (r : EisRequest) → IsQuiet r → Follows (policy_of r) h h × (LacksIds (policy_of r) h → ⊥)
  quiet_follows (asked.Bind r) q = absurd q
  quiet_follows (asked.RequestDevice r) q = absurd q
  quiet_follows (asked.DeviceClosed r) q = absurd q
  quiet_follows asked.Disconnect q = absurd q
  quiet_follows r q = (refl, λ l. l)

  all_follow : (rs : List EisRequest) → AreQuiet rs → Follows (policy_behind rs) h h × (LacksIds (policy_behind rs) h → ⊥)
  all_follow [] q = (refl, λ l. l)
  all_follow (r ∷ []) q = quiet_follows r q.0
  all_follow (r ∷ s ∷ rs) q = all_follow (s ∷ rs) q.1

  -- these were the requests that waited, and what was done is what a session does behind the last; no ids ran out
  pub record TakesSo (queue : List EisRequest) (how : Beside) (handed : List EisRequest) (new : EisView) : Type 0 where
    pub end : ConnectionView
    pub is : new ≡ view_of (waiting end []) how
    pub all : handed ≡ queue
    pub follows : Follows (policy_behind queue) h end
    pub enough_ids : LacksIds (policy_behind queue) h → ⊥

  takes_quiet : (queue : List EisRequest) (how : Beside) (handed : List EisRequest) (new : EisView) → AreQuiet queue → TakesOut handed (view_of (waiting h queue) how) new → TakesSo queue how handed new
  takes_quiet queue how handed new q t =
      let f = takes_first queue [] h how handed new q (subst (λ (x : List EisRequest). TakesOut handed (view_of (waiting h x) how) new) (sym (append-nil queue)) t) in
      let n = none_left h how f.others new f.takes in
      let a = all_follow queue q in
      record { end = h; is = n.1; all = f.all ∙ ap (λ (x : List EisRequest). queue ++ x) n.0 ∙ append-nil queue; follows = a.0; enough_ids = a.1 }

  takes_one : (r : EisRequest) (how : Beside) (handed : List EisRequest) (new : EisView) (P : ConnectionView → ConnectionView → Type 0) → ((done : EisView) → Does r (view_of (waiting h []) how) done → DoesSo P (waiting h []) how done) →
      TakesOut handed (view_of (waiting h (r ∷ [])) how) new → (handed ≡ r ∷ []) × ((end : ConnectionView) × (new ≡ view_of (waiting end []) how) × P h end)
  takes_one r how [] new P does t = let z : Some r ≡ None = t.0 in absurd cc
  takes_one r how (x ∷ xs) new P does t =
      let same : x ≡ r = let z : Some r ≡ Some x = t.0 in cc in
      let d = does t.1.0 (subst (λ (y : EisRequest). Does y (view_of (waiting h []) how) t.1.0) same t.1.1) in
      let now : t.1.0 ≡ view_of (waiting d.now.handle []) how = d.is ∙ ap (λ (q : List EisRequest). view_of (waiting d.now.handle q) how) d.queue in
      let n = none_left d.now.handle how xs new (subst (λ (e : EisView). TakesOut xs e new) now t.1.2) in
      (ap (λ (y : EisRequest). y ∷ xs) same ∙ ap (λ (ys : List EisRequest). r ∷ ys) n.0, (d.now.handle, n.1, d.done))

  takes_last : (rs : List EisRequest) (y : Plain) (how : Beside) (handed : List EisRequest) (new : EisView) → AreQuiet rs → TakesOut handed (view_of (waiting h (rs ++ plain_in_code past y ∷ [])) how) new → TakesSo (rs ++ plain_in_code past y ∷ []) how handed new
  takes_last rs y how handed new q t =
      let f = takes_first rs (plain_in_code past y ∷ []) h how handed new q t in
      let o = takes_one (plain_in_code past y) how f.others new (Done y) (λ done d. does_so past y (waiting h []) how done d) f.takes in
      let l = last_follows y o.1.0 o.1.2 in
      record {
        end = o.1.0;
        is = o.1.1;
        all = f.all ∙ ap (λ (x : List EisRequest). rs ++ x) o.0;
        follows = rw (behind_last rs (plain_in_code past y)) l.0;
        enough_ids = rw (behind_last rs (plain_in_code past y)) l.1;
      }

  pub takes_so : (queue : List EisRequest) (how : Beside) (handed : List EisRequest) (new : EisView) → IsGiven past queue → TakesOut handed (view_of (waiting h queue) how) new → TakesSo queue how handed new
  takes_so queue how handed new (AllQuiet q) t = takes_quiet queue how handed new q t
  takes_so queue how handed new (WithLast rs y q e) t =
      subst (λ (x : List EisRequest). TakesSo x how handed new) (sym e) (takes_last rs y how handed new q (subst (λ (x : List EisRequest). TakesOut handed (view_of (waiting h x) how) new) e t))
