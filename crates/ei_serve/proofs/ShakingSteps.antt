-- What becomes of the message at the front during the handshake.
use Rattle.std.proofs.Common.{◌≡◌, inl, ◌==◌, ◌≤◌, ℕ, Bool, true, false, ◌||◌, List, [], ◌∷◌, ◌++◌, Option, Some, None, Ok, Err, refl, sym, ap, ◌∙◌, subst}
use Rattle.std.proofs.Common.{arith}
use Rattle.std.specs.Prelude.{is_some, codes}
use Rattle.ei_spec.specs.declared.handle.Handle.{Handle}
use Rattle.ei_spec.specs.declared.interface.KnownInterface.TheVariants as known
use Rattle.ei_spec.specs.Interface.{Known, ObjectView}
use Rattle.ei_spec.specs.Message.{Raw, Short, Whole, front}
use Rattle.ei_spec.specs.Reading.{EndOfMessage, Utf8, InvalidId, NoFd, InvalidOpcode, InvalidVariant, InvalidInterface, MessageLength, InvalidNull}
use Rattle.ei_spec.specs.Stream.{Accepted}
use Rattle.ei_types.specs.declared.error.Error.{Error}
use Rattle.ei_types.specs.declared.error.Error.TheVariants as error
use Rattle.ei_types.specs.declared.error.HandshakeError.TheVariants as handshake_error
use Rattle.ei_wire.specs.Gives.{fault_of}
use Rattle.ei_wire.specs.declared.error.ParseError.{ParseError}
use Rattle.ei_wire.specs.declared.error.ParseError.TheVariants as parse_error
use Rattle.ei_backend.specs.Table.{own, own_end}
use Rattle.ei_backend.specs.Endpoint.{endpoint_of}
use Rattle.ei_backend.specs.Message.{front_wants}
use Rattle.ei_backend.specs.Backend.{BackendView, Answers, next}
use Rattle.ei_backend.specs.declared.message.PendingRequestResult.{PendingRequestResult}
use Rattle.ei_backend.specs.declared.message.PendingRequestResult.TheVariants as pending
use Rattle.ei_server.specs.declared.request.Request.{Request}
use Rattle.ei_server.specs.declared.request.Request.TheVariants as request
use Rattle.ei_server.specs.declared.handshake.Request.{Request as Asked}
use Rattle.ei_server.specs.declared.handshake.Request.TheVariants as asked
use Rattle.ei_server.specs.Handshake as handshake
use Rattle.ei_server.specs.Request.{target_of, opcode_of, values_of}
use Rattle.ei_session.specs.Setup.{Setup, connection_id}
use Rattle.ei_session.specs.Handshake.{connected, is_finish, settled, all_settled}
use Rattle.ei_session.specs.SettledMap.{settled_map}
use Rattle.ei_session.specs.Refusals.{Refusal, Handshake, came, judge, verdict}
use Rattle.ei_session.specs.Meaning.{Finishes}
use Rattle.ei_session.specs.ByMeaning.{shake_refusal}
use Rattle.ei_session.specs.Replies.{connection_event, settled_events}
use Rattle.ei_session.proofs.OneMore.{connected_more}
use Rattle.ei_session.proofs.SettledMapLaws.{other_map}
use Rattle.ei_handshake.specs.Handshaker.{Completes, Handles, HandshakerView, KeepsButFinish, IsSecond, RefusesFinish, RefusesOther, RefusesTold}
use Rattle.ei_handshake.specs.Handshaker.{told, is_repeated, with_version, has_required, hands_over, kept_events, sends}
use Rattle.ei_handshake.specs.Versions.{VersionMap}
use Rattle.ei_handshake.specs.declared.server.EisHandshakeResp.{EisHandshakeResp}
use Rattle.ei_handshake.proofs.Sending.{sends-append}
use Rattle.ei_handshake.proofs.SettledLaws.{announced_kept, required_kept, events_kept}
use Rattle.ei_serve.specs.AtFront.{SaysOfFront, SaysWhy}
use Rattle.ei_serve.specs.Causes.{IsInner}
use Rattle.ei_serve.specs.Standing.{ShakesHands, connection_table, handshake_table, most_capacity, quiet}
use Rattle.ei_serve.specs.Steps.{AsksToFinish, HandsOver, Refuses, RefusesFront}
use Rattle.ei_serve.specs.Wanting.{MayWant}
use Rattle.ei_serve.proofs.Wanted.{fine_of, front_may}
use Rattle.ei_serve.proofs.ShakingAsked.{says_of_front}
use Rattle.ei_serve.proofs.Endpoints.{Memory, memory_of, quiet_with, backend_is}
use Rattle.ei_serve.proofs.ShakingFront.{Front, all_known, announced_none, announced_this, context_came, finishes, front_of, gone_refused, judged}
use Rattle.ei_serve.proofs.ShakingFront.{name_came, only_shaking, shake_of}
use Rattle.ei_serve.proofs.ShakingFront.{unread_refused, first_there}

-- ---- asking

-- what asking answers where it shakes hands
pub said_here : (setup : Setup) (past : List Raw) (rest : List ℕ) (handles : List Handle) (b new : BackendView) (h : HandshakerView) (answer : Option (PendingRequestResult Request)) → ShakesHands setup past rest handles b h → Answers target_of opcode_of values_of answer new (next false b) → SaysOfFront (quiet_with handshake_table rest handles (memory_of b)) answer new
said_here setup past rest handles b new h answer s a =
    says_of_front (quiet_with handshake_table rest handles (memory_of b)) new answer all_known
    (subst (λ (x : BackendView). Answers target_of opcode_of values_of answer new (next false x)) (backend_is b (quiet handshake_table rest handles) s.endpoint) a)

pub waits : (setup : Setup) (past : List Raw) (rest : List ℕ) (handles : List Handle) (b new : BackendView) (h : HandshakerView) (answer : Option (PendingRequestResult Request)) → ShakesHands setup past rest handles b h → answer ≡ None → Answers target_of opcode_of values_of answer new (next false b) → (front rest ≡ Short) × ShakesHands setup past rest handles new h
waits setup past rest handles b new h answer s none a =
    let w : SaysOfFront (quiet_with handshake_table rest handles (memory_of b)) None new = subst (λ (x : Option (PendingRequestResult Request)). SaysOfFront (quiet_with handshake_table rest handles (memory_of b)) x new) none (said_here setup past rest handles b new h answer s a) in
    let same : new ≡ b = w.1 ∙ sym (backend_is b (quiet handshake_table rest handles) s.endpoint) in
    (w.0, subst (λ (x : BackendView). ShakesHands setup past rest handles x h) (sym same) s)

-- what it answers, where that is this
said_of : (setup : Setup) (past : List Raw) (rest : List ℕ) (handles : List Handle) (b new : BackendView) (h : HandshakerView) (answer : Option (PendingRequestResult Request)) (p said : PendingRequestResult Request) → ShakesHands setup past rest handles b h → answer ≡ Some p → p ≡ said → Answers target_of opcode_of values_of answer new (next false b) → SaysOfFront (quiet_with handshake_table rest handles (memory_of b)) (Some said) new
said_of setup past rest handles b new h answer p said s some is a =
    subst (λ (x : Option (PendingRequestResult Request)). SaysOfFront (quiet_with handshake_table rest handles (memory_of b)) x new) (some ∙ ap (λ (x : PendingRequestResult Request). Some x) is) (said_here setup past rest handles b new h answer s a)

-- reading it took memory
pub may_want : (setup : Setup) (past : List Raw) (rest : List ℕ) (handles : List Handle) (b : BackendView) (h : HandshakerView) → ShakesHands setup past rest handles b h → front_wants false b.table (front b.unread) ≡ true → MayWant setup past rest
may_want setup past rest handles b h s w =
    front_may setup past rest handshake_table (first_there past s.unfinished)
    (subst (λ (x : BackendView). front_wants false x.table (front x.unread) ≡ true) (backend_is b (quiet handshake_table rest handles) s.endpoint) w)

-- ---- why there is no request

parse_refused : (setup : Setup) (past : List Raw) (rest : List ℕ) (handles : List Handle) (memory : Memory) (e : ParseError) → connected past ≡ false → SaysWhy (quiet_with handshake_table rest handles memory) (fault_of e) → Refuses setup past rest (error.Parse e)
parse_refused setup past rest handles memory parse_error.NoMemory off u = absurd u
parse_refused setup past rest handles memory (parse_error.HeaderLength n) off u = u
parse_refused setup past rest handles memory parse_error.EndOfMessage off u = unread_refused setup past rest handles memory EndOfMessage off u
parse_refused setup past rest handles memory (parse_error.Utf8 n) off u = unread_refused setup past rest handles memory (Utf8 n) off u
parse_refused setup past rest handles memory (parse_error.InvalidId n) off u = unread_refused setup past rest handles memory (InvalidId n) off u
parse_refused setup past rest handles memory parse_error.NoFd off u = unread_refused setup past rest handles memory NoFd off u
parse_refused setup past rest handles memory (parse_error.InvalidOpcode name n) off u = unread_refused setup past rest handles memory (InvalidOpcode name.now n) off u
parse_refused setup past rest handles memory (parse_error.InvalidVariant name n) off u = unread_refused setup past rest handles memory (InvalidVariant name.now n) off u
parse_refused setup past rest handles memory (parse_error.InvalidInterface name) off u = unread_refused setup past rest handles memory (InvalidInterface name) off u
parse_refused setup past rest handles memory (parse_error.MessageLength n k) off u = unread_refused setup past rest handles memory (MessageLength n k) off u
parse_refused setup past rest handles memory parse_error.InvalidNull off u = unread_refused setup past rest handles memory InvalidNull off u

pub unreadable : (setup : Setup) (past : List Raw) (rest : List ℕ) (handles : List Handle) (b new : BackendView) (h : HandshakerView) (answer : Option (PendingRequestResult Request)) (p : PendingRequestResult Request) (e : ParseError) → ShakesHands setup past rest handles b h → answer ≡ Some p → p ≡ pending.ParseError e → Answers target_of opcode_of values_of answer new (next false b) → Refuses setup past rest (error.Parse e)
unreadable setup past rest handles b new h answer p e s some is a = parse_refused setup past rest handles (memory_of b) e s.unfinished (said_of setup past rest handles b new h answer p (pending.ParseError e) s some is a)

pub gone : (setup : Setup) (past : List Raw) (rest : List ℕ) (handles : List Handle) (b new : BackendView) (h : HandshakerView) (answer : Option (PendingRequestResult Request)) (p : PendingRequestResult Request) (id : ℕ) → ShakesHands setup past rest handles b h → answer ≡ Some p → p ≡ pending.InvalidObject id → Answers target_of opcode_of values_of answer new (next false b) → Refuses setup past rest (error.Handshake (handshake_error.InvalidObject id))
gone setup past rest handles b new h answer p id s some is a = gone_refused setup past rest handles (memory_of b) id new s.unfinished (said_of setup past rest handles b new h answer p (pending.InvalidObject id) s some is a)

-- ---- the request

-- it was a request of the handshake at the front
abbrev pub IsFront : List ℕ → List Handle → Memory → BackendView → Request → Type 0
IsFront rest handles memory b (request.Handshake proxy m) = (proxy.id ≡ 0) × Front rest handles memory m b
IsFront rest handles memory b other = ⊥

is_front : (r : Request) (rest : List ℕ) (handles : List Handle) (memory : Memory) (new : BackendView) → SaysOfFront (quiet_with handshake_table rest handles memory) (Some (pending.Request r)) new → IsFront rest handles memory new r
is_front (request.Handshake proxy m) rest handles memory new a = front_of rest handles memory proxy m new a
is_front other rest handles memory new a = absurd (only_shaking rest handles memory other new a)

pub brings_request : (setup : Setup) (past : List Raw) (rest : List ℕ) (handles : List Handle) (b new : BackendView) (h : HandshakerView) (answer : Option (PendingRequestResult Request)) (p : PendingRequestResult Request) (r : Request) → ShakesHands setup past rest handles b h → answer ≡ Some p → p ≡ pending.Request r → Answers target_of opcode_of values_of answer new (next false b) → IsFront rest handles (memory_of b) new r
brings_request setup past rest handles b new h answer p r s some is a = is_front r rest handles (memory_of b) new (said_of setup past rest handles b new h answer p (pending.Request r) s some is a)

-- ---- what keeping is refused with says nothing of the outside

module _ (h : HandshakerView) (b : BackendView) (new : HandshakerView) where
  second_inner : (e : Error) (came : Bool) → IsSecond came e → IsInner e
  second_inner (error.Handshake handshake_error.DuplicateEvent) came d = tt
  second_inner e came d = absurd d

  told_inner : (e : Error) (a : Asked) → RefusesTold e h b a new b → IsInner e
  told_inner e a d = second_inner e (is_repeated h a) d.0

  pub finish_inner : (sent : BackendView) (e : Error) (id : ℕ) → RefusesFinish e id h b new sent → IsInner e
  finish_inner sent error.NoMemory id d = tt
  finish_inner sent (error.Handshake handshake_error.MissingInterface) id d = tt
  finish_inner sent error.IdsExhausted id d = tt
  finish_inner sent e id d = absurd d

  other_inner : (e : Error) → RefusesOther e h b new b → IsInner e
  other_inner (error.Handshake handshake_error.NonHandshakeEvent) d = tt
  other_inner e d = absurd d

  handles_inner : (r : Request) (e : Error) → Handles h b r (Err e) new b → IsInner e
  handles_inner (request.Handshake proxy asked.Finish) e d = finish_inner b e proxy.id d
  handles_inner (request.Handshake proxy (asked.HandshakeVersion version)) e d = told_inner e (asked.HandshakeVersion version) d
  handles_inner (request.Handshake proxy (asked.ContextType kind)) e d = told_inner e (asked.ContextType kind) d
  handles_inner (request.Handshake proxy (asked.Name name)) e d = told_inner e (asked.Name name) d
  handles_inner (request.Handshake proxy (asked.InterfaceVersion name version)) e d = told_inner e (asked.InterfaceVersion name version) d
  handles_inner other e d = other_inner e d

pub keeps_inner : (h : HandshakerView) (b : BackendView) (new : HandshakerView) (r : Request) (e : Error) → KeepsButFinish h r (Err e) new → IsInner e
keeps_inner h b new r e k = handles_inner h b new r e (k b)

-- ---- the finish

module _ (setup : Setup) (past : List Raw) (rest : List ℕ) (handles : List Handle) (proxy : ObjectView) (b : BackendView) (h : HandshakerView) (a : AsksToFinish setup past rest handles proxy b h) where
  here : b ≡ quiet_with handshake_table a.after handles (memory_of b)
  here = backend_is b (quiet handshake_table a.after handles) a.stands.endpoint

  handed_over : (serial : ℕ) (events : List Raw) →
      hands_over (sends (quiet_with handshake_table a.after handles (memory_of b)) events) 0 serial ≡ sends (quiet_with connection_table a.after handles (memory_of b)) (events ++ connection_event 0 serial connection_id ∷ [])
  handed_over serial events = sends-append (quiet_with connection_table a.after handles (memory_of b)) events (connection_event 0 serial connection_id ∷ [])

  sent_is : hands_over (sends b (kept_events proxy.id h.versions)) proxy.id h.serial ≡ sends (quiet_with connection_table a.after handles (memory_of b)) (settled_events 0 (settled past) ++ connection_event 0 setup.serial connection_id ∷ [])
  sent_is =
      ap (λ (c : BackendView). hands_over (sends c (kept_events proxy.id h.versions)) proxy.id h.serial) here
      ∙ ap (λ (n : ℕ). hands_over (sends (quiet_with handshake_table a.after handles (memory_of b)) (kept_events n h.versions)) n h.serial) a.id_is
      ∙ ap (λ (n : ℕ). hands_over (sends (quiet_with handshake_table a.after handles (memory_of b)) (kept_events 0 h.versions)) 0 n) a.stands.serial
      ∙ ap (λ (events : List Raw). hands_over (sends (quiet_with handshake_table a.after handles (memory_of b)) events) 0 setup.serial) (ap (kept_events 0) a.stands.versions ∙ events_kept past 0)
      ∙ handed_over setup.serial (settled_events 0 (settled past))

  all_there : all_settled past ≡ has_required h.versions
  all_there = sym (required_kept past) ∙ ap has_required (sym a.stands.versions)

  -- it is complete, and the connection can be handed over
  pub completed : (resp : EisHandshakeResp) (new : HandshakerView) (sent : BackendView) → sent.capacity ≡ b.capacity → Completes proxy.id h b resp new sent → (judge setup past a.m ≡ Accepted) × HandsOver setup past a.after handles resp sent
  completed resp new sent same d =
      let whole : shake_refusal past Finishes ≡ None = rw (all_there ∙ d.complete) refl in (
        a.judged ∙ ap (λ (o : Option Refusal). verdict o false) whole,
        record {
          connection = d.connection ∙ ap (λ (x : BackendView). own x.table (Known known.Connection) 1) here;
          name = ap is_some d.name ∙ a.stands.name;
          versions = d.versions ∙ a.stands.versions;
          lawful = a.stands.lawful;
          in_range = a.stands.in_range;
          ring = subst (λ (n : ℕ). n ≤ most_capacity) (sym same) a.stands.ring;
          endpoint = d.events ∙ ap endpoint_of sent_is;
        },
      )

  -- an id is left for the connection
  id_left : own_end b.table ≤ b.table.next_own → ⊥
  id_left le =
      let full : 18446744073709551615 ≤ 18374686479671623680 = subst (λ (x : BackendView). own_end x.table ≤ x.table.next_own) here le in
      absurd (omega (arith, full))

  pub missing : has_required h.versions ≡ false → RefusesFront setup past rest (Some (Handshake handshake_error.MissingInterface))
  missing d =
      let why : shake_refusal past Finishes ≡ Some (Handshake handshake_error.MissingInterface) = rw (all_there ∙ d) refl in
      (a.m, a.after, a.front_is, a.judged ∙ ap (λ (o : Option Refusal). verdict o false) why)

  -- where none is missing it isn't refused, and may take memory
  pub may_finish : has_required h.versions ≡ true → MayWant setup past rest
  may_finish d =
      let whole : shake_refusal past Finishes ≡ None = rw (all_there ∙ d) refl in
      record { m = a.m; after = a.after; front_is = a.front_is; wants = inl (fine_of setup past a.m (a.judged ∙ ap (λ (o : Option Refusal). verdict o false) whole)) }

  -- or it is refused
  pub refused_finish : (e : Error) (new : HandshakerView) (sent : BackendView) → (e ≡ error.NoMemory → MayWant setup past rest) → RefusesFinish e proxy.id h b new sent → Refuses setup past rest e
  refused_finish error.NoMemory new sent may d = may refl
  refused_finish (error.Handshake handshake_error.MissingInterface) new sent may d = missing d.0
  refused_finish error.IdsExhausted new sent may d = absurd (id_left d.1)
  refused_finish e new sent may d = absurd d

-- ---- what is told

module _ (setup : Setup) (past : List Raw) (rest : List ℕ) (handles : List Handle) (first : BackendView) (h : HandshakerView) (s : ShakesHands setup past rest handles first h) (b : BackendView) where
  named : (a : Asked) (f : Front rest handles (memory_of first) a b) → is_some (told h a).name ≡ came (codes "name") (f.m ∷ past)
  named (asked.HandshakeVersion version) f = s.name ∙ sym (name_came past s.unfinished _ f)
  named asked.Finish f = s.name ∙ sym (name_came past s.unfinished _ f)
  named (asked.ContextType kind) f = s.name ∙ sym (name_came past s.unfinished _ f)
  named (asked.Name name) f = sym (name_came past s.unfinished _ f)
  named (asked.InterfaceVersion name version) f = s.name ∙ sym (name_came past s.unfinished _ f)

  placed : (a : Asked) (f : Front rest handles (memory_of first) a b) → is_some (told h a).context_type ≡ came (codes "context_type") (f.m ∷ past)
  placed (asked.HandshakeVersion version) f = s.context_type ∙ sym (context_came past s.unfinished _ f)
  placed asked.Finish f = s.context_type ∙ sym (context_came past s.unfinished _ f)
  placed (asked.ContextType kind) f = sym (context_came past s.unfinished _ f)
  placed (asked.Name name) f = s.context_type ∙ sym (context_came past s.unfinished _ f)
  placed (asked.InterfaceVersion name version) f = s.context_type ∙ sym (context_came past s.unfinished _ f)

  kept : (a : Asked) (f : Front rest handles (memory_of first) a b) → (told h a).versions ≡ settled_map (f.m ∷ past)
  kept (asked.HandshakeVersion version) f = s.versions ∙ sym (other_map past f.m (announced_none f.m 0 f.opcode_is refl))
  kept asked.Finish f = s.versions ∙ sym (other_map past f.m (announced_none f.m 1 f.opcode_is refl))
  kept (asked.ContextType kind) f = s.versions ∙ sym (other_map past f.m (announced_none f.m 2 f.opcode_is refl))
  kept (asked.Name name) f = s.versions ∙ sym (other_map past f.m (announced_none f.m 3 f.opcode_is refl))
  kept (asked.InterfaceVersion name version) f =
      ap (λ (v : VersionMap). with_version v name version) s.versions
      ∙ announced_kept past f.m (record { name = name; version = version }) s.unfinished (announced_this f.m name version f.id_is f.opcode_is f.args)

  same_serial : (a : Asked) → (told h a).serial ≡ h.serial
  same_serial (asked.HandshakeVersion version) = refl
  same_serial asked.Finish = refl
  same_serial (asked.ContextType kind) = refl
  same_serial (asked.Name name) = refl
  same_serial (asked.InterfaceVersion name version) = refl

  -- it shakes hands on
  shakes_on : (a : Asked) (f : Front rest handles (memory_of first) a b) → (handshake.opcode_of a == 1) ≡ false → ShakesHands setup (f.m ∷ past) f.after handles b (told h a)
  shakes_on a f other = record {
    unfinished = connected_more past f.m ∙ ap (λ (x : Bool). x || connected past) (finishes a f ∙ other) ∙ s.unfinished;
    lawful = s.lawful;
    in_range = s.in_range;
    ring = subst (λ (x : BackendView). x.capacity ≤ most_capacity) (sym f.new_is) s.ring;
    endpoint = ap endpoint_of f.new_is;
    serial = same_serial a ∙ s.serial;
    versions = kept a f;
    name = named a f;
    context_type = placed a f;
  }

  -- what is told for the first time isn't refused
  unrefused : (a : Asked) → (handshake.opcode_of a == 1) ≡ false → is_repeated h a ≡ false → shake_refusal past (shake_of a) ≡ None
  unrefused (asked.HandshakeVersion version) other r = refl
  unrefused asked.Finish other r = let g : true ≡ false = other in absurd cc
  unrefused (asked.ContextType kind) other r = rw (sym s.context_type ∙ r) refl
  unrefused (asked.Name name) other r = rw (sym s.name ∙ r) refl
  unrefused (asked.InterfaceVersion name version) other r = refl

  repeats : (a : Asked) → is_repeated h a ≡ true → shake_refusal past (shake_of a) ≡ Some (Handshake handshake_error.DuplicateEvent)
  repeats (asked.HandshakeVersion version) r = absurd cc
  repeats asked.Finish r = absurd cc
  repeats (asked.ContextType kind) r = rw (sym s.context_type ∙ r) refl
  repeats (asked.Name name) r = rw (sym s.name ∙ r) refl
  repeats (asked.InterfaceVersion name version) r = absurd cc

  abbrev Handled : BackendView → HandshakerView → Type 0
  Handled sent new = (m : Raw) × (after : List ℕ) × (front rest ≡ Whole m after) × (judge setup past m ≡ Accepted) × (is_finish m ≡ false) × ShakesHands setup (m ∷ past) after handles sent new

  told_so : (a : Asked) (f : Front rest handles (memory_of first) a b) (sent : BackendView) (new : HandshakerView) → (handshake.opcode_of a == 1) ≡ false → (is_repeated h a ≡ false) × (new ≡ told h a) × (sent ≡ b) → Handled sent new
  told_so a f sent new other d = (
    f.m,
    f.after,
    f.front_is,
    judged past s.unfinished a f setup None (unrefused a other d.0),
    finishes a f ∙ other,
    subst (λ (x : BackendView). ShakesHands setup (f.m ∷ past) f.after handles x new) (sym d.2) (subst (λ (x : HandshakerView). ShakesHands setup (f.m ∷ past) f.after handles b x) (sym d.1) (shakes_on a f other)),
  )

  handled : (r : Request) (sent : BackendView) (new : HandshakerView) → IsFront rest handles (memory_of first) b r → Handles h b r (Ok None) new sent → Handled sent new
  handled (request.Handshake proxy asked.Finish) sent new f d = absurd d
  handled (request.Handshake proxy (asked.HandshakeVersion version)) sent new f d = told_so (asked.HandshakeVersion version) f.1 sent new refl d
  handled (request.Handshake proxy (asked.ContextType kind)) sent new f d = told_so (asked.ContextType kind) f.1 sent new refl d
  handled (request.Handshake proxy (asked.Name name)) sent new f d = told_so (asked.Name name) f.1 sent new refl d
  handled (request.Handshake proxy (asked.InterfaceVersion name version)) sent new f d = told_so (asked.InterfaceVersion name version) f.1 sent new refl d
  handled other sent new f d = absurd f

  pub handled_at : (r : Request) (answer : Option ObjectView) (new : HandshakerView) → IsFront rest handles (memory_of first) b r → answer ≡ None → KeepsButFinish h r (Ok answer) new → Handled b new
  handled_at r answer new f e k = handled r b new f (subst (λ (x : Option ObjectView). KeepsButFinish h r (Ok x) new) e k b)

  -- ---- a finish

  -- of which nothing is done yet
  asks : (proxy : ObjectView) → proxy.id ≡ 0 → Front rest handles (memory_of first) asked.Finish b → AsksToFinish setup past rest handles proxy b h
  asks proxy zero f = record {
    m = f.m;
    after = f.after;
    front_is = f.front_is;
    finish_is = finishes asked.Finish f;
    judged = judged past s.unfinished asked.Finish f setup (shake_refusal past (shake_of asked.Finish)) refl;
    id_is = zero;
    stands = record {
      unfinished = s.unfinished;
      lawful = s.lawful;
      in_range = s.in_range;
      ring = subst (λ (x : BackendView). x.capacity ≤ most_capacity) (sym f.new_is) s.ring;
      endpoint = ap endpoint_of f.new_is;
      serial = s.serial;
      versions = s.versions;
      name = s.name;
      context_type = s.context_type;
    };
  }

  pub finish_at : (r : Request) (answer : Option ObjectView) (proxy : ObjectView) (new : HandshakerView) → IsFront rest handles (memory_of first) b r → answer ≡ Some proxy → KeepsButFinish h r (Ok answer) new → AsksToFinish setup past rest handles proxy b new
  finish_at r answer proxy new f e k =
      let d : (r ≡ request.Handshake proxy asked.Finish) × (new ≡ h) = subst (λ (x : Option ObjectView). KeepsButFinish h r (Ok x) new) e k in
      let here = subst (IsFront rest handles (memory_of first) b) d.0 f in
      subst (λ (x : HandshakerView). AsksToFinish setup past rest handles proxy b x) (sym d.1) (asks proxy here.0 here.1)

  -- ---- how handling is refused

  refused_so : (a : Asked) (f : Front rest handles (memory_of first) a b) (refusal : Refusal) → shake_refusal past (shake_of a) ≡ Some refusal → RefusesFront setup past rest (Some refusal)
  refused_so a f refusal e = (f.m, f.after, f.front_is, judged past s.unfinished a f setup (Some refusal) e)

  refused_second : (e : Error) (a : Asked) (f : Front rest handles (memory_of first) a b) → IsSecond (is_repeated h a) e → Refuses setup past rest e
  refused_second (error.Handshake handshake_error.DuplicateEvent) a f d = refused_so a f (Handshake handshake_error.DuplicateEvent) (repeats a d)
  refused_second e a f d = absurd d

  refused_told : (e : Error) (a : Asked) (f : Front rest handles (memory_of first) a b) (sent : BackendView) (new : HandshakerView) → RefusesTold e h b a new sent → Refuses setup past rest e
  refused_told e a f sent new d = refused_second e a f d.0

  refused_handling : (r : Request) (e : Error) (sent : BackendView) (new : HandshakerView) → (e ≡ error.NoMemory → ⊥) → IsFront rest handles (memory_of first) b r → Handles h b r (Err e) new sent → Refuses setup past rest e
  refused_handling (request.Handshake proxy asked.Finish) e sent new none f d = refused_finish setup past rest handles proxy b h (asks proxy f.0 f.1) e new sent (λ q. absurd (none q)) d
  refused_handling (request.Handshake proxy (asked.HandshakeVersion version)) e sent new none f d = refused_told e (asked.HandshakeVersion version) f.1 sent new d
  refused_handling (request.Handshake proxy (asked.ContextType kind)) e sent new none f d = refused_told e (asked.ContextType kind) f.1 sent new d
  refused_handling (request.Handshake proxy (asked.Name name)) e sent new none f d = refused_told e (asked.Name name) f.1 sent new d
  refused_handling (request.Handshake proxy (asked.InterfaceVersion name version)) e sent new none f d = refused_told e (asked.InterfaceVersion name version) f.1 sent new d
  refused_handling other e sent new none f d = absurd f

  pub refused_keeping : (r : Request) (e : Error) (new : HandshakerView) → (e ≡ error.NoMemory → ⊥) → IsFront rest handles (memory_of first) b r → KeepsButFinish h r (Err e) new → Refuses setup past rest e
  refused_keeping r e new none f k = refused_handling r e b new none f (k b)
