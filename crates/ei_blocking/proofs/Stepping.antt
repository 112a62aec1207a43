-- One message more: it is handled and answered, or refused.
use Rattle.std.proofs.Common.{◌≡◌, ℕ, ◌+◌, inl, inr, Bool, true, false, List, [], ◌∷◌, ◌++◌, Option, Some, None, Result, Ok, Err, refl, ap, sym, subst, ◌∙◌, arith}
use Rattle.std.specs.Prelude.{IsSome, IfSome}
use Rattle.std.proofs.lemmas.List.{append-nil}
use Rattle.ei_spec.specs.Interface.{ObjectView}
use Rattle.ei_spec.specs.Message.{Raw, Front, Short, Unlawful, Whole, front, all_bytes}
use Rattle.ei_spec.specs.Reading.{Fault}
use Rattle.ei_spec.specs.Stream.{Accepted, Refused, Reading, read}
use Rattle.ei_types.specs.declared.error.Error.{Error}
use Rattle.ei_types.specs.declared.error.Error.TheVariants as error
use Rattle.ei_types.specs.declared.error.HandshakeError.TheVariants as handshake_error
use Rattle.ei_types.specs.Errors.{error_of_parse, error_of_flush}
use Rattle.ei_wire.specs.declared.error.ParseError.{ParseError}
use Rattle.ei_wire.specs.declared.error.ParseError.TheVariants as parse_error
use Rattle.ei_wire.specs.declared.error.FlushError.{FlushError}
use Rattle.ei_wire.specs.declared.error.FlushError.TheVariants as flush_error
use Rattle.ei_wire.specs.Gives.{fault_of}
use Rattle.ei_backend.specs.declared.message.PendingRequestResult.{PendingRequestResult}
use Rattle.ei_backend.specs.declared.message.PendingRequestResult.TheVariants as pending
use Rattle.ei_backend.specs.Table.{found, accept}
use Rattle.ei_backend.specs.Outside.{SinkView}
use Rattle.ei_backend.specs.Outgoing.{Flushes}
use Rattle.ei_backend.specs.Endpoint.{Endpoint, endpoint_of}
use Rattle.ei_backend.specs.Backend.{BackendView, FrontAnswer, Waits as NoneWhole, Gone, Message, Refused as Unread, next, Answers, Brings, unsent_of, with_unsent}
use Rattle.ei_client.specs.declared.event.Event.{Event}
use Rattle.ei_client.specs.declared.event.Event.TheVariants as event
use Rattle.ei_client.specs.declared.handshake.Event.{Event as Told}
use Rattle.ei_client.specs.declared.handshake.Event.TheVariants as told
use Rattle.ei_client.specs.Event.{target_of, opcode_of, values_of, announced_of}
use Rattle.ei_greeting.specs.Shaking.{Greeter, Trouble, Parse, Handshake, MessageTooLong, Shake, Begins, Tells, Connects as HandsConnection, shake, shake_of, judge, judged, is_long, greeting, answer_to, versions_told, with_version}
use Rattle.ei_greeting.specs.Opening.{reading_of, stopped_at, connected_at, handover_by, ended_by}
use Rattle.ei_handshake.specs.Client.{ClientView, HandlesEvent, HandlesTold, HandsOver as HandedOver}
use Rattle.ei_handshake.specs.Pending.{ResultOf}
use Rattle.ei_handshake.specs.Handshaker.{sends, RefusesOther}
use Rattle.ei_handshake.specs.declared.client.HandshakeResp.{HandshakeResp}
use Rattle.ei_blocking.specs.declared.messages.Shaken.TheVariants as shaken
use Rattle.ei_blocking.specs.Still.{still}
use Rattle.ei_blocking.specs.Sending.{sent_at, SentAll, sent_bytes}
use Rattle.ei_blocking.specs.Blocking.{HandsOver, StandsAfter, parse_trouble, trouble_of}
use Rattle.ei_blocking.specs.Steps.{Shakes, Waits, Connects, Refuses, Breaks, Fails, Steps}
use Rattle.ei_blocking.proofs.Accepting.{GoesOn, goes_behind, stays_behind}
use Rattle.ei_blocking.proofs.Connecting.{Finishes, finishes}
use Rattle.ei_blocking.proofs.Refusing.{StopsRefused, waits_at, unread_at, gone_at, said_at}
use Rattle.ei_blocking.proofs.Sending.{some_left, all_front, sent_then, sent_in_part}
use Rattle.ei_blocking.proofs.Opens.{read_grows}
use Rattle.ei_blocking.proofs.Typed.{shake_in, says}

-- ---- what is unsent

-- reading a message leaves what is unsent
next_unsent : (b : BackendView) → unsent_of (next true b).1 ≡ unsent_of b
next_unsent b = by (front b.unread) refl
  where
    at : (m : Raw) (rest : List ℕ) (o : Option ObjectView) → front b.unread ≡ Whole m rest → found b.table m.id ≡ o → unsent_of (next true b).1 ≡ unsent_of b
    at m rest None e f = rw (e, f) refl
    at m rest (Some target) e f = rw (e, f) refl

    by : (f : Front) → front b.unread ≡ f → unsent_of (next true b).1 ≡ unsent_of b
    by Short e = rw e refl
    by (Unlawful n) e = rw e refl
    by (Whole m rest) e = at m rest (found b.table m.id) e refl

-- what stands doesn't depend on what is unsent, nor on the memory
abbrev nothing_unsent : Endpoint → Endpoint
nothing_unsent e = record e { unsent = []; unsent_handles = [] }

still_by : (x y : BackendView) → endpoint_of x ≡ endpoint_of y → still x ≡ still y
still_by x y e = ap nothing_unsent e

unsent_by : (x y : BackendView) → endpoint_of x ≡ endpoint_of y → unsent_of x ≡ unsent_of y
unsent_by x y e = ap (λ (p : Endpoint). record { bytes = p.unsent; handles = p.unsent_handles }) e

-- the same is unsent, and the sink is as it was
sent_still : (g : Greeter) (b : BackendView) (past : List Raw) (x y : SinkView) (now new : BackendView) → unsent_of new ≡ unsent_of now → SentAll g b past x y now → SentAll g b past x y new
sent_still g b [] x y now new e h = (h.0, e ∙ h.1)
sent_still g b (m ∷ past) x y now new e h = record { told = h.told; unsent = e ∙ h.unsent; puts = h.puts; bytes = h.bytes }

-- with what answers it behind that, it is what is sent at the message
at_message : (g : Greeter) (b : BackendView) (past : List Raw) (x y : SinkView) (now new : BackendView) (m : Raw) (w : List Raw) → answer_to g (found b.table m.id) (shake (found b.table) b m) ≡ w →
    unsent_of new ≡ record { bytes = now.unsent ++ all_bytes w; handles = now.unsent_handles } → SentAll g b past x y now → unsent_of new ≡ sent_at g b past m
at_message g b [] x y now new m w a e h = e ∙ (λ i. record { bytes = (h.1 i).bytes ++ all_bytes (sym a i); handles = (h.1 i).handles })
at_message g b (l ∷ past) x y now new m w a e h = e ∙ (λ i. record { bytes = (h.unsent i).bytes ++ all_bytes (sym a i); handles = (h.unsent i).handles })

-- ---- the messages reached

module _ (g : Greeter) (b : BackendView) (past : List Raw) where
  handled_of_shakes : (h : ClientView) (now : BackendView) → Shakes g b past h now → (more : List Raw) × ((reading_of g (found b.table) b).past ≡ more ++ past)
  handled_of_shakes h now s = let q = read_grows (judge g (found b.table) b) past now.unread in (q.0, ap (λ (r : Reading Trouble). r.past) s.goes_on ∙ q.1)

  -- cut short before the message at the front is handled
  pub breaks_here : (h : ClientView) (x y : SinkView) (now new : BackendView) → Shakes g b past h now → still new ≡ still (stopped_at b new.unread) → unsent_of new ≡ unsent_of now → SentAll g b past x y now → Breaks g b past x y new
  breaks_here h x y now new s stands unsent sent =
      let q = handled_of_shakes h now s in
      record {
        behind = [];
        reaches = record { more = q.0; handled = q.1 };
        n = sent_bytes g b past;
        sends = all_front g b past x y new (sent_still g b past x y now new unsent sent);
        least = omega arith;
        stands = inl stands;
      }

  -- ---- there is none, or it can't be read

  pub waits_so : (h : ClientView) (x y : SinkView) (now new : BackendView) → Shakes g b past h now → SentAll g b past x y now → next true now ≡ (NoneWhole, new) → Waits g b past h new × SentAll g b past x y new
  waits_so h x y now new s sent e =
      let w = waits_at g b past now new s.goes_on s.stands e in
      subst (λ (n : BackendView). Waits g b past h n × SentAll g b past x y n) (sym w.1) (record { shakes = s; stops = w.0 }, sent)

  refuses_of : (h : ClientView) (now new : BackendView) (e : Error) (trouble : Trouble) → trouble_of e ≡ Some trouble → StopsRefused g b past now.unread trouble new → Refuses g b past e new
  refuses_of h now new e trouble is r = record { trouble = trouble; is = is; rest = now.unread; stop = r.stop; stops = r.stops; so = r.so; stands = r.stands }

  -- what was unsent still is
  same_sent : (x y : SinkView) (now new : BackendView) (a : FrontAnswer) → next true now ≡ (a, new) → SentAll g b past x y now → SentAll g b past x y new
  same_sent x y now new a e sent = sent_still g b past x y now new (ap (λ (p : FrontAnswer × BackendView). unsent_of p.1) (sym e) ∙ next_unsent now) sent

  of_parse : (h h' : ClientView) (x y : SinkView) (now new : BackendView) (pe : ParseError) (f : Fault) → fault_of pe ≡ Some f → Shakes g b past h now → SentAll g b past x y now → next true now ≡ (Unread f, new) → Steps g b past (Err (error_of_parse pe)) h' x y new
  of_parse h h' x y now new parse_error.NoMemory f is s sent e = absurd cc
  of_parse h h' x y now new pe f is s sent e = (refuses_of h now new (error.Parse pe) (Parse f) (ap parse_trouble is) (unread_at g b past now new f s.goes_on s.stands e), same_sent x y now new (Unread f) e sent)

  by_fault : (h h' : ClientView) (x y : SinkView) (now new : BackendView) (pe : ParseError) (o : Option Fault) → fault_of pe ≡ o → IfSome o (λ f. next true now ≡ (Unread f, new)) → IsSome o → Shakes g b past h now → SentAll g b past x y now →
      Steps g b past (Err (error_of_parse pe)) h' x y new
  by_fault h h' x y now new pe None is e some s sent = absurd cc
  by_fault h h' x y now new pe (Some f) is e some s sent = of_parse h h' x y now new pe f is s sent e

  pub unread_so : (h h' : ClientView) (x y : SinkView) (now new : BackendView) (answer : PendingRequestResult Event) (r : Result Event Error) (a e : Error) → Answers target_of opcode_of values_of (Some answer) new (next true now) →
      ResultOf answer r → r ≡ Err a → a ≡ e → Shakes g b past h now → SentAll g b past x y now → Steps g b past (Err e) h' x y new
  unread_so h h' x y now new (pending.Request m) r a e is of err same s sent = absurd (let no : ◌≡◌ {A = Result Event Error} (Ok m) (Err a) = sym of ∙ err in cc)
  unread_so h h' x y now new (pending.ParseError pe) r a e is of err same s sent =
      let it : ◌≡◌ {A = Result Event Error} (Err (error_of_parse pe)) (Err a) = sym of ∙ err in
      let which : error_of_parse pe ≡ a = cc in
      subst (λ (q : Error). Steps g b past (Err q) h' x y new) (which ∙ same) (by_fault h h' x y now new pe (fault_of pe) refl is.0 is.1 s sent)
  unread_so h h' x y now new (pending.InvalidObject id) r a e is of err same s sent =
      let it : ◌≡◌ {A = Result Event Error} (Err (error.Handshake (handshake_error.InvalidObject id))) (Err a) = sym of ∙ err in
      let which : error.Handshake (handshake_error.InvalidObject id) ≡ a = cc in
      subst (λ (q : Error). Steps g b past (Err q) h' x y new) (which ∙ same)
      (refuses_of h now new (error.Handshake (handshake_error.InvalidObject id)) (Handshake (handshake_error.InvalidObject id)) refl (gone_at g b past now new id s.goes_on s.stands is), same_sent x y now new (Gone id) is sent)

-- ---- an event

-- the message at the front is this event
abbrev pub IsEvent : BackendView → BackendView → Event → Type 0
IsEvent now mid m = next true now ≡ (Message (target_of m) (opcode_of m) (values_of m), mid)

module _ (g : Greeter) (b : BackendView) (past : List Raw) (h : ClientView) (x y : SinkView) (now mid : BackendView) (s : Shakes g b past h now) (sends_so : SentAll g b past x y now) where
  greeter_is : h.greeter ≡ g
  greeter_is = ap (λ (v : ClientView). v.greeter) s.told

  mid_unsent : (a : FrontAnswer) → next true now ≡ (a, mid) → unsent_of mid ≡ unsent_of now
  mid_unsent a e = ap (λ (p : FrontAnswer × BackendView). unsent_of p.1) (sym e) ∙ next_unsent now

  -- it is refused, and nothing changes
  refuses_event : (m : Event) (e : Error) (trouble : Trouble) (new : BackendView) → IsEvent now mid m → new ≡ mid → trouble_of e ≡ Some trouble → judged (is_long g (target_of m).id) (shake_of (target_of m).interface (opcode_of m) (values_of m)) ≡ Refused trouble →
      Refuses g b past e new × SentAll g b past x y new
  refuses_event m e trouble new is same t j =
      subst (λ (n : BackendView). Refuses g b past e n × SentAll g b past x y n) (sym same)
      (refuses_of g b past h now mid e trouble t (said_at g b past now mid (target_of m) (opcode_of m) (values_of m) trouble s.goes_on s.stands is j), same_sent g b past x y now mid _ is sends_so)

  other_event : (m : Event) (a : Error) (h' : ClientView) (new : BackendView) → shake_in m ≡ None → IsEvent now mid m → RefusesOther a h mid h' new → Steps g b past (Err a) h' x y new
  other_event m (error.Handshake handshake_error.NonHandshakeEvent) h' new none is r =
      refuses_event m (error.Handshake handshake_error.NonHandshakeEvent) (Handshake handshake_error.NonHandshakeEvent) new is r.endpoint refl (ap (judged (is_long g (target_of m).id)) (says m ∙ none))
  other_event m a h' new none is r = absurd r

  -- memory ran out while it was handled, and it is gone
  wants_memory : (m : Event) (said : Shake) (new : BackendView) → IsEvent now mid m → shake_in m ≡ Some said → mid.table ≡ now.table → endpoint_of new ≡ endpoint_of mid → Breaks g b past x y new
  wants_memory m said new is what table same =
      let stays : still mid ≡ still (stopped_at b mid.unread) = stays_behind b now mid (target_of m) (opcode_of m) (values_of m) said s.stands is (says m ∙ what) table in
      let unread : new.unread ≡ mid.unread = ap (λ (e : Endpoint). e.unread) same in
      breaks_here g b past h x y now new s (still_by new mid same ∙ stays ∙ ap (λ (l : List ℕ). still (stopped_at b l)) (sym unread)) (unsent_by new mid same ∙ mid_unsent _ is) sends_so

  told_event : (proxy : ObjectView) (t : Told) (a : Error) (h' : ClientView) (new : BackendView) → IsEvent now mid (event.Handshake proxy t) → Brings announced_of (Some (pending.Request (event.Handshake proxy t))) now.table mid.table →
      HandlesTold proxy.id h mid t (Err a) h' new → Steps g b past (Err a) h' x y new
  told_event proxy (told.HandshakeVersion version) error.MessageTooLong h' new is table r =
      refuses_event (event.Handshake proxy (told.HandshakeVersion version)) error.MessageTooLong MessageTooLong new is r.1.1 refl
      (ap (λ (l : Bool). judged l (Some Begins)) (ap (λ (q : Greeter). is_long q proxy.id) (sym greeter_is) ∙ r.1.0))
  told_event proxy (told.HandshakeVersion version) error.NoMemory h' new is table r = wants_memory (event.Handshake proxy (told.HandshakeVersion version)) Begins new is refl table r.1
  told_event proxy (told.HandshakeVersion version) a h' new is table r = absurd r.1
  told_event proxy (told.InterfaceVersion name version) error.NoMemory h' new is table r =
      wants_memory (event.Handshake proxy (told.InterfaceVersion name version)) (Tells name version) new is refl table (ap endpoint_of r.1.endpoint)
  told_event proxy (told.InterfaceVersion name version) a h' new is table r = absurd r
  told_event proxy (told.Connection serial connection) a h' new is table r = absurd r

  -- the handshaker refuses it, or wants memory
  pub event_fails : (m : Event) (a e : Error) (h' : ClientView) (new : BackendView) → IsEvent now mid m → Brings announced_of (Some (pending.Request m)) now.table mid.table → HandlesEvent h mid m (Err a) h' new → a ≡ e → Steps g b past (Err e) h' x y new
  event_fails (event.Handshake proxy t) a e h' new is table r same = subst (λ (q : Error). Steps g b past (Err q) h' x y new) same (told_event proxy t a h' new is table r)
  event_fails m a e h' new is table r same = subst (λ (q : Error). Steps g b past (Err q) h' x y new) same (other_event m a h' new refl is r)

  -- ---- it is handled

  goes : (m : Event) (said : Shake) → IsEvent now mid m → shake_in m ≡ Some said → judged (is_long g (target_of m).id) (Some said) ≡ Accepted → mid.table ≡ now.table → GoesOn g b past (target_of m) said mid
  goes m said is what j table = goes_behind g b past now mid (target_of m) (opcode_of m) (values_of m) said s.goes_on s.stands is (says m ∙ what) j table

  -- one message more was told to the handshaker
  shakes_more : (target : ObjectView) (said : Shake) (q : GoesOn g b past target said mid) (h' : ClientView) (sent : BackendView) → h' ≡ record { greeter = g; versions = with_version (versions_told (found b.table) b past) (Some said) } → still sent ≡ still mid →
      Shakes g b (q.message ∷ past) h' sent
  unfolding versions_told
  shakes_more target said q h' sent is same =
      let unread : sent.unread ≡ mid.unread = ap (λ (e : Endpoint). e.unread) same in
      record {
        told = is ∙ ap (λ (o : Option Shake). record { greeter = g; versions = with_version (versions_told (found b.table) b past) o }) (sym q.said_is);
        stands = same ∙ q.stands ∙ ap (λ (l : List ℕ). still (stopped_at b l)) (sym unread);
        goes_on = q.goes_on ∙ ap (read (judge g (found b.table) b) (q.message ∷ past)) (sym unread);
      }

  -- what is to be sent then
  answered : (target : ObjectView) (said : Shake) (q : GoesOn g b past target said mid) (sent : BackendView) (w : List Raw) (a : FrontAnswer) → next true now ≡ (a, mid) → answer_to g (Some target) (Some said) ≡ w →
      unsent_of sent ≡ record { bytes = mid.unsent ++ all_bytes w; handles = mid.unsent_handles } → unsent_of sent ≡ sent_at g b past q.message
  answered target said q sent w a is what e =
      let same : unsent_of mid ≡ unsent_of now = mid_unsent a is in
      at_message g b past x y now sent q.message w ((λ i. answer_to g (q.object i) (q.said_is i)) ∙ what) (e ∙ (λ i. record { bytes = (same i).bytes ++ all_bytes w; handles = (same i).handles })) sends_so

  -- the handshake goes on, or the connection came
  abbrev pub StepsTo : Option HandshakeResp → Raw → ClientView → BackendView → Type 0
  StepsTo None m h' sent = Shakes g b (m ∷ past) h' sent
  StepsTo (Some resp) m h' sent = Connects g b (m ∷ past) resp sent

  -- what was handled, with what answers it unsent
  pub record HandledOne (answer : Option HandshakeResp) (h' : ClientView) (sent : BackendView) : Type 0 where
    pub message : Raw
    pub goes_so : StepsTo answer message h' sent
    pub unsent : unsent_of sent ≡ sent_at g b past message
    pub reaches : (more : List Raw) × ((reading_of g (found b.table) b).past ≡ more ++ (message ∷ past))
    pub stands : StandsAfter b (message ∷ past) sent

  handled_going : (target : ObjectView) (said : Shake) (q : GoesOn g b past target said mid) (h' : ClientView) (sent : BackendView) (w : List Raw) (a : FrontAnswer) → next true now ≡ (a, mid) → answer_to g (Some target) (Some said) ≡ w →
      unsent_of sent ≡ record { bytes = mid.unsent ++ all_bytes w; handles = mid.unsent_handles } → h' ≡ record { greeter = g; versions = with_version (versions_told (found b.table) b past) (Some said) } → still sent ≡ still mid → HandledOne None h' sent
  handled_going target said q h' sent w a is what e told same =
      let shakes = shakes_more target said q h' sent told same in
      record {
        message = q.message;
        goes_so = shakes;
        unsent = answered target said q sent w a is what e;
        reaches = handled_of_shakes g b (q.message ∷ past) h' sent shakes;
        stands = inl shakes.stands;
      }

  no_more : (sent : BackendView) → unsent_of sent ≡ unsent_of mid → unsent_of sent ≡ record { bytes = mid.unsent ++ []; handles = mid.unsent_handles }
  no_more sent e = e ∙ ap (λ (l : List ℕ). record { bytes = l; handles = mid.unsent_handles }) (sym (append-nil mid.unsent))

  handled_connection : (proxy : ObjectView) (serial : ℕ) (connection : ObjectView) (resp : HandshakeResp) (h' : ClientView) (sent : BackendView) → IsEvent now mid (event.Handshake proxy (told.Connection serial connection)) →
      accept now.table connection.id connection.interface connection.version ≡ Ok (connection, mid.table) → HandedOver h serial connection resp h' → sent ≡ mid → HandledOne (Some resp) h' sent
  handled_connection proxy serial connection resp h' sent is announced handed same =
      let f = finishes g b past now mid (target_of (event.Handshake proxy (told.Connection serial connection))) serial connection s.goes_on s.stands refl is announced in
      subst (λ (n : BackendView). HandledOne (Some resp) h' n) (sym same) (record {
        message = f.message;
        goes_so = record { stops = f.stops; hands = hands f; stands = f.stands };
        unsent = unsent_so f;
        reaches = ([], ap (λ (r : Reading Trouble). r.past) f.stops);
        stands = inr f.stands;
      })
    where
      hands : (f : Finishes g b past serial connection mid) → HandsOver (connected_at (found b.table) 0 b (f.message ∷ past) mid.unread).ending resp
      hands f = subst (λ (o : Option Shake). HandsOver (ended_by (handover_by b.table.client (versions_told (found b.table) b past) o)) resp) (sym f.said_is)
          (handed.connection_is ∙ f.object, handed.serial_is, handed.versions ∙ ap (λ (v : ClientView). v.versions) s.told)

      none_to : (o : Option ObjectView) → answer_to g o (Some (HandsConnection serial connection.id connection.version)) ≡ []
      none_to None = refl
      none_to (Some target) = refl

      unsent_so : (f : Finishes g b past serial connection mid) → unsent_of mid ≡ sent_at g b past f.message
      unsent_so f =
          let same_unsent : unsent_of mid ≡ unsent_of now = mid_unsent _ is in
          at_message g b past x y now mid f.message [] (ap (answer_to g (found b.table f.message.id)) f.said_is ∙ none_to (found b.table f.message.id))
          (same_unsent ∙ ap (λ (l : List ℕ). record { bytes = l; handles = now.unsent_handles }) (sym (append-nil now.unsent))) sends_so

  -- the handshaker handled it
  pub event_handled : (m : Event) (answer : Option HandshakeResp) (h' : ClientView) (sent : BackendView) → IsEvent now mid m → Brings announced_of (Some (pending.Request m)) now.table mid.table → HandlesEvent h mid m (Ok answer) h' sent → HandledOne answer h' sent
  event_handled (event.Handshake proxy (told.HandshakeVersion version)) None h' sent is table r =
      let m : Event = event.Handshake proxy (told.HandshakeVersion version) in
      let short : is_long g proxy.id ≡ false = ap (λ (q : Greeter). is_long q proxy.id) (sym greeter_is) ∙ r.1.0 in
      let same : endpoint_of sent ≡ endpoint_of (sends mid (greeting g proxy.id)) = r.1.1 ∙ ap (λ (q : Greeter). endpoint_of (sends mid (greeting q proxy.id))) greeter_is in
      handled_going (target_of m) Begins (goes m Begins is refl (ap (λ (l : Bool). judged l (Some Begins)) short) table) h' sent (greeting g proxy.id) _ is refl
      (unsent_by sent (sends mid (greeting g proxy.id)) same) (r.0 ∙ s.told) (still_by sent (sends mid (greeting g proxy.id)) same)
  event_handled (event.Handshake proxy (told.HandshakeVersion version)) (Some resp) h' sent is table r = absurd r
  event_handled (event.Handshake proxy (told.InterfaceVersion name version)) None h' sent is table r =
      let m : Event = event.Handshake proxy (told.InterfaceVersion name version) in
      handled_going (target_of m) (Tells name version) (goes m (Tells name version) is refl refl table) h' sent [] _ is refl
      (no_more sent (ap unsent_of r.1)) (r.0 ∙ ap (λ (v : ClientView). record { greeter = v.greeter; versions = with_version v.versions (Some (Tells name version)) }) s.told) (ap still r.1)
  event_handled (event.Handshake proxy (told.InterfaceVersion name version)) (Some resp) h' sent is table r = absurd r
  event_handled (event.Handshake proxy (told.Connection serial connection)) (Some resp) h' sent is table r = handled_connection proxy serial connection resp h' sent is table r.0 r.1
  event_handled (event.Handshake proxy (told.Connection serial connection)) None h' sent is table r = absurd r
  event_handled m answer h' sent is table r = absurd r

-- ---- and what answers it is sent

module _ (g : Greeter) (b : BackendView) (past : List Raw) (h : ClientView) (x : SinkView) (now mid : BackendView) where
  -- what stands isn't touched by sending
  flushed_shakes : (past' : List Raw) (h' : ClientView) (sent new : BackendView) → new ≡ with_unsent (unsent_of new) sent → Shakes g b past' h' sent → Shakes g b past' h' new
  flushed_shakes past' h' sent new kept q = subst (λ (n : BackendView). Shakes g b past' h' n) (sym kept) (record { told = q.told; stands = q.stands; goes_on = q.goes_on })

  flushed_connects : (past' : List Raw) (resp : HandshakeResp) (sent new : BackendView) → new ≡ with_unsent (unsent_of new) sent → Connects g b past' resp sent → Connects g b past' resp new
  flushed_connects past' resp sent new kept q = subst (λ (n : BackendView). Connects g b past' resp n) (sym kept) (record { stops = q.stops; hands = q.hands; stands = q.stands })

  flushed_stands : (past' : List Raw) (sent new : BackendView) → new ≡ with_unsent (unsent_of new) sent → StandsAfter b past' sent → StandsAfter b past' new
  flushed_stands past' sent new kept (inl q) = subst (λ (n : BackendView). StandsAfter b past' n) (sym kept) (inl q)
  flushed_stands past' sent new kept (inr q) = subst (λ (n : BackendView). StandsAfter b past' n) (sym kept) (inr q)

  module _ {K : Type 0} {view : K → SinkView} {later : K → K → Type 0} (y z : K) (s : Shakes g b past h now) (sends_so : SentAll g b past x (view y) now) (h' : ClientView) (sent new : BackendView) where
    pub handled_on : HandledOne g b past h x (view y) now mid s sends_so None h' sent → Flushes view later (Ok tt) (unsent_of sent) (unsent_of new) y z → new ≡ with_unsent (unsent_of new) sent → Steps g b past (Ok shaken.Handled) h' x (view z) new
    handled_on q f kept = (q.message, flushed_shakes (q.message ∷ past) h' sent new kept q.goes_so, sent_then g b {later = later} past q.message x y z (unsent_of sent) (unsent_of new) q.unsent now new sends_so f refl)

    pub handled_last : (resp : HandshakeResp) → HandledOne g b past h x (view y) now mid s sends_so (Some resp) h' sent → Flushes view later (Ok tt) (unsent_of sent) (unsent_of new) y z → new ≡ with_unsent (unsent_of new) sent →
        Steps g b past (Ok (shaken.Connected resp)) h' x (view z) new
    handled_last resp q f kept = (q.message, flushed_connects (q.message ∷ past) resp sent new kept q.goes_so, sent_then g b {later = later} past q.message x y z (unsent_of sent) (unsent_of new) q.unsent now new sends_so f refl)

    fails_here : (answer : Option HandshakeResp) (fault : FlushError) → HandledOne g b past h x (view y) now mid s sends_so answer h' sent → Flushes view later (Err fault) (unsent_of sent) (unsent_of new) y z → new ≡ with_unsent (unsent_of new) sent → Fails g b past x (view z) new
    fails_here answer fault q f kept =
        let part = sent_in_part g b {later = later} past q.message x y z (unsent_of sent) (unsent_of new) q.unsent fault now new sends_so f refl in
        record {
          newest = q.message;
          reaches = record { more = q.reaches.0; handled = q.reaches.1 };
          n = sent_bytes g b past + part.0;
          sends = part.1;
          least = omega arith;
          unsent = some_left f.stops.0 (unsent_of sent) (unsent_of new) f.stops.1 f.stops.2;
          stands = flushed_stands (q.message ∷ past) sent new kept q.stands;
        }

    cut_off : (answer : Option HandshakeResp) (fault : FlushError) → HandledOne g b past h x (view y) now mid s sends_so answer h' sent → Flushes view later (Err fault) (unsent_of sent) (unsent_of new) y z → new ≡ with_unsent (unsent_of new) sent → Breaks g b past x (view z) new
    cut_off answer fault q f kept =
        let c = fails_here answer fault q f kept in
        record { behind = c.newest ∷ []; reaches = c.reaches; n = c.n; sends = c.sends; least = c.least; stands = c.stands }

    pub cuts : (answer : Option HandshakeResp) (fault : FlushError) (e : Error) → HandledOne g b past h x (view y) now mid s sends_so answer h' sent → Flushes view later (Err fault) (unsent_of sent) (unsent_of new) y z → new ≡ with_unsent (unsent_of new) sent →
        error_of_flush fault ≡ e → Steps g b past (Err e) h' x (view z) new
    cuts answer flush_error.WriteFault e q f kept same = subst (λ (w : Error). Steps g b past (Err w) h' x (view z) new) same (fails_here answer flush_error.WriteFault q f kept)
    cuts answer flush_error.NoMemory e q f kept same = subst (λ (w : Error). Steps g b past (Err w) h' x (view z) new) same (cut_off answer flush_error.NoMemory q f kept)

-- ---- what the function saw

-- memory ran out before the message at the front was looked at
pub wants_front : (g : Greeter) (b : BackendView) (past : List Raw) (h : ClientView) (x y : SinkView) (now new : BackendView) → new ≡ now → Shakes g b past h now → SentAll g b past x y now → Breaks g b past x y new
wants_front g b past h x y now new same s sent =
    breaks_here g b past h x y now new s (ap still same ∙ s.stands ∙ ap (λ (l : List ℕ). still (stopped_at b l)) (sym (ap (λ (e : BackendView). e.unread) same))) (ap unsent_of same) sent

-- an event stands at the front, and is taken out
pub record FrontEvent (now mid : BackendView) (m : Event) : Type 0 where
  pub is : IsEvent now mid m
  pub table : Brings announced_of (Some (pending.Request m)) now.table mid.table

pub front_event : (now mid : BackendView) (p : PendingRequestResult Event) (r : Result Event Error) (m : Event) → Answers target_of opcode_of values_of (Some p) mid (next true now) → Brings announced_of (Some p) now.table mid.table →
    ResultOf p r → r ≡ Ok m → FrontEvent now mid m
front_event now mid (pending.Request e) r m answers brings of ok =
    let it : ◌≡◌ {A = Result Event Error} (Ok e) (Ok m) = sym of ∙ ok in
    let same : e ≡ m = cc in
    subst (λ (q : Event). FrontEvent now mid q) same (record { is = answers; table = brings })
front_event now mid (pending.ParseError pe) r m answers brings of ok = absurd (let no : ◌≡◌ {A = Result Event Error} (Err (error_of_parse pe)) (Ok m) = sym of ∙ ok in cc)
front_event now mid (pending.InvalidObject id) r m answers brings of ok = absurd (let no : ◌≡◌ {A = Result Event Error} (Err (error.Handshake (handshake_error.InvalidObject id))) (Ok m) = sym of ∙ ok in cc)
