-- What asking for the message at the front of a connection answers.
use Rattle.std.proofs.Common.{◌≡◌, ℕ, true, false, List, [], Option, Some, None, Result, Ok, Err, refl, sym, ap, ◌∙◌, subst}
use Rattle.std.specs.Prelude.{MatchResult, IfSome, IsSome, drop}
use Rattle.std.specs.Option.{option_map}
use Rattle.ei_spec.specs.declared.handle.Handle.{Handle}
use Rattle.ei_spec.specs.Value.{Value}
use Rattle.ei_spec.specs.Interface.{ObjectView}
use Rattle.ei_spec.specs.Reading.{Fault, HeaderLength}
use Rattle.ei_spec.specs.Message.{Raw, Front, Short, Unlawful, Whole, front}
use Rattle.ei_spec.specs.Stream.{Refused as RefusedSo}
use Rattle.ei_spec.proofs.Faults.{IsNoHeader}
use Rattle.ei_backend.specs.Table.{TableView, found}
use Rattle.ei_backend.specs.Backend.{BackendView, BodyOutcome, FrontAnswer, Waits, Refused, Gone, Message, said_of, of_outcome, of_target, of_front}
use Rattle.ei_backend.specs.Backend.{body_read, next, Answers, Brings}
use Rattle.ei_backend.specs.declared.message.PendingRequestResult.TheVariants as pending
use Rattle.ei_wire.specs.Gives.{fault_of}
use Rattle.ei_wire.specs.declared.error.ParseError.{ParseError}
use Rattle.ei_wire.specs.declared.error.ParseError.TheVariants as parse_error
use Rattle.ei_types.specs.declared.error.Error.TheVariants as error
use Rattle.ei_server.specs.declared.request.Request.{Request}
use Rattle.ei_server.specs.Request.{target_of, opcode_of, values_of, announced_of}
use Rattle.ei_session.specs.Setup.{Setup}
use Rattle.ei_session.specs.Arguments.{request_args}
use Rattle.ei_session.specs.NextIds.{next_peer}
use Rattle.ei_session.specs.Objects.{Entry, object}
use Rattle.ei_session.specs.Refusals.{Refusal, Parse, refusal, judge}
use Rattle.ei_request.specs.Converter.{ConverterView}
use Rattle.ei_standing.specs.Standing.{IsHeld, object_of}
use Rattle.ei_serve.specs.AtFront.{IsAsked}
use Rattle.ei_serve.specs.Standing.{IsConnected}
use Rattle.ei_serve.specs.Steps.{Refuses, RefusesFront}
use Rattle.ei_serve.proofs.ReadFront.{exactly}

abbrev pair : FrontAnswer → BackendView → FrontAnswer × BackendView
pair a b = (a, b)

abbrev answer_of : FrontAnswer × BackendView → FrontAnswer
answer_of p = p.0

abbrev backend_of : FrontAnswer × BackendView → BackendView
backend_of p = p.1

-- ---- a converter of which only the endpoint changed, and not its objects

pub held_with : (setup : Setup) (past : List Raw) (times : List ℕ) (c d : ConverterView) (ctx : BackendView) → IsHeld setup past times c → ctx.table ≡ c.handle.ctx.table → ctx.closed ≡ c.handle.ctx.closed → ctx.unsent_handles ≡ [] → d.handle ≡ record c.handle { ctx = ctx } →
    IsHeld setup past times d
held_with setup past times c d ctx h t closed none is =
    subst (λ x. IsHeld setup past times (record { handle = x; queue = d.queue })) (sym is) (record {
      lawful = h.lawful;
      connected = h.connected;
      server = ap (λ (x : TableView). x.client) t ∙ h.server;
      opened = closed ∙ h.opened;
      no_handles = none;
      objects = λ id. ap (λ (x : TableView). found x id) t ∙ h.objects id;
      own = ap (λ (x : TableView). x.next_own) t ∙ h.own;
      peer = ap (λ (x : TableView). x.next_peer) t ∙ h.peer;
      proxy = h.proxy;
      name = h.name;
      versions = h.versions;
      serial = h.serial;
      seats = h.seats;
      devices = h.devices;
      going_on = h.going_on;
      frames = h.frames;
    })

-- ---- the answer, by what stands at the front

pub data View (setup : Setup) (past : List Raw) (b : BackendView) (w : FrontAnswer × BackendView) : Type 0 where
  IsShort : front b.unread ≡ Short → w ≡ pair Waits b → View setup past b w
  IsUnlawful : (n : ℕ) → front b.unread ≡ Unlawful n → w ≡ pair (Refused (HeaderLength n)) b → View setup past b w
  IsGone : (m : Raw) → (after : List ℕ) → front b.unread ≡ Whole m after → object past m.id ≡ None → w ≡ pair (Gone m.id) (record b { unread = after }) → View setup past b w
  IsMessage : (m : Raw) → (after : List ℕ) → (e : Entry) → (values : List Value) → (table : TableView) → front b.unread ≡ Whole m after → object past m.id ≡ Some e → request_args e.interface m ≡ Some values →
      w ≡ pair (Message (object_of m.id e) m.opcode values) (record b { table = table; unread = after }) → View setup past b w
  IsRefused : (m : Raw) → (after : List ℕ) → (f : Fault) → (left : BackendView) → front b.unread ≡ Whole m after → refusal setup past m ≡ Some (Parse f) → IsNoHeader f → w ≡ pair (Refused f) left → View setup past b w

module _ (setup : Setup) (past : List Raw) (b : BackendView) (server : b.table.client ≡ false) (peer : b.table.next_peer ≡ next_peer past) (objects : (id : ℕ) → found b.table id ≡ option_map (object_of id) (object past id)) where
  said_by : (m : Raw) (after : List ℕ) (e : Entry) (o : BodyOutcome) (r : Result (List Value) Fault) → front b.unread ≡ Whole m after → object past m.id ≡ Some e → o.said ≡ r →
      MatchResult r (λ values. (request_args e.interface m ≡ Some values) × (o.taken ≡ 0)) (λ f. (refusal setup past m ≡ Some (Parse f)) × IsNoHeader f) →
      next false b ≡ of_outcome b (object_of m.id e) m.opcode after o → View setup past b (next false b)
  said_by m after e o (Ok values) f k same x n =
      IsMessage m after e values o.table f k x.0 (n
      ∙ ap (λ (r : Result (List Value) Fault). pair (said_of (object_of m.id e) m.opcode r) (record b { table = o.table; unread = after; handles = drop o.taken b.handles })) same
      ∙ ap (λ (n : ℕ). pair (Message (object_of m.id e) m.opcode values) (record b { table = o.table; unread = after; handles = drop n b.handles })) x.1)
  said_by m after e o (Err fault) f k same x n =
      IsRefused m after fault (record b { table = o.table; unread = after; handles = drop o.taken b.handles }) f x.0 x.1 (n
      ∙ ap (λ (r : Result (List Value) Fault). pair (said_of (object_of m.id e) m.opcode r) (record b { table = o.table; unread = after; handles = drop o.taken b.handles })) same)

  view_whole : (m : Raw) (after : List ℕ) (o : Option Entry) → front b.unread ≡ Whole m after → object past m.id ≡ o → View setup past b (next false b)
  view_whole m after None f k =
      let t : found b.table m.id ≡ None = objects m.id ∙ ap (option_map (object_of m.id)) k in
      IsGone m after f k (ap (of_front false b) f ∙ ap (λ (x : Option ObjectView). of_target false b x m after) t)
  view_whole m after (Some e) f k =
      let t : found b.table m.id ≡ Some (object_of m.id e) = objects m.id ∙ ap (option_map (object_of m.id)) k in
      let o : BodyOutcome = body_read false (object_of m.id e) m.opcode m.body b.handles b.table in
      said_by m after e o o.said f k refl (exactly past b.table server peer setup m e (object_of m.id e) b.handles k refl)
      (ap (of_front false b) f ∙ ap (λ (x : Option ObjectView). of_target false b x m after) t)

  view_front : (f : Front) → front b.unread ≡ f → View setup past b (next false b)
  view_front Short f = IsShort f (ap (of_front false b) f)
  view_front (Unlawful n) f = IsUnlawful n f (ap (of_front false b) f)
  view_front (Whole m after) f = view_whole m after (object past m.id) f refl

  pub view : View setup past b (next false b)
  view = view_front (front b.unread) refl

-- ---- no message

pub waits_by : (setup : Setup) (past : List Raw) (b new : BackendView) (w : FrontAnswer × BackendView) → View setup past b w → w ≡ pair Waits new → (front b.unread ≡ Short) × (new ≡ b)
waits_by setup past b new w (IsShort f n) h = (f, sym (ap backend_of h) ∙ ap backend_of n)
waits_by setup past b new w (IsUnlawful k f n) h = let g : Waits ≡ Refused (HeaderLength k) = sym (ap answer_of h) ∙ ap answer_of n in absurd cc
waits_by setup past b new w (IsGone m after f k n) h = let g : Waits ≡ Gone m.id = sym (ap answer_of h) ∙ ap answer_of n in absurd cc
waits_by setup past b new w (IsMessage m after e values table f k a n) h = let g : Waits ≡ Message (object_of m.id e) m.opcode values = sym (ap answer_of h) ∙ ap answer_of n in absurd cc
waits_by setup past b new w (IsRefused m after fault left f k a n) h = let g : Waits ≡ Refused fault = sym (ap answer_of h) ∙ ap answer_of n in absurd cc

-- ---- no object has its id

pub record NoObject (past : List Raw) (b : BackendView) (id : ℕ) (new : BackendView) : Type 0 where
  pub m : Raw
  pub after : List ℕ
  pub front_is : front b.unread ≡ Whole m after
  pub none : object past m.id ≡ None
  pub id_is : id ≡ m.id
  pub now : new ≡ record b { unread = after }

pub gone_by : (setup : Setup) (past : List Raw) (b new : BackendView) (id : ℕ) (w : FrontAnswer × BackendView) → View setup past b w → w ≡ pair (Gone id) new → NoObject past b id new
gone_by setup past b new id w (IsShort f n) h = let g : Gone id ≡ Waits = sym (ap answer_of h) ∙ ap answer_of n in absurd cc
gone_by setup past b new id w (IsUnlawful k f n) h = let g : Gone id ≡ Refused (HeaderLength k) = sym (ap answer_of h) ∙ ap answer_of n in absurd cc
gone_by setup past b new id w (IsGone m after f k n) h =
    let g : Gone id ≡ Gone m.id = sym (ap answer_of h) ∙ ap answer_of n in
    let same : id ≡ m.id = cc in
    record { m = m; after = after; front_is = f; none = k; id_is = same; now = sym (ap backend_of h) ∙ ap backend_of n }
gone_by setup past b new id w (IsMessage m after e values table f k a n) h = let g : Gone id ≡ Message (object_of m.id e) m.opcode values = sym (ap answer_of h) ∙ ap answer_of n in absurd cc
gone_by setup past b new id w (IsRefused m after fault left f k a n) h = let g : Gone id ≡ Refused fault = sym (ap answer_of h) ∙ ap answer_of n in absurd cc

-- ---- a request

pub record TakenOut (past : List Raw) (b : BackendView) (r : Request) (new : BackendView) : Type 0 where
  pub m : Raw
  pub after : List ℕ
  pub e : Entry
  pub front_is : front b.unread ≡ Whole m after
  pub there : object past m.id ≡ Some e
  pub target : target_of r ≡ object_of m.id e
  pub opcode : m.opcode ≡ opcode_of r
  pub args : request_args e.interface m ≡ Some (values_of r)
  pub table : TableView
  pub now : new ≡ record b { table = table; unread = after }

pub taken_by : (setup : Setup) (past : List Raw) (b new : BackendView) (r : Request) (w : FrontAnswer × BackendView) → View setup past b w → w ≡ pair (Message (target_of r) (opcode_of r) (values_of r)) new → TakenOut past b r new
taken_by setup past b new r w v h = by (target_of r) (opcode_of r) (values_of r) refl refl refl v h
  where
    by : (t : ObjectView) (op : ℕ) (vs : List Value) → target_of r ≡ t → opcode_of r ≡ op → values_of r ≡ vs → View setup past b w → w ≡ pair (Message t op vs) new → TakenOut past b r new
    by t op vs t_is op_is vs_is (IsShort f n) h = let g : Message t op vs ≡ Waits = sym (ap answer_of h) ∙ ap answer_of n in absurd cc
    by t op vs t_is op_is vs_is (IsUnlawful k f n) h = let g : Message t op vs ≡ Refused (HeaderLength k) = sym (ap answer_of h) ∙ ap answer_of n in absurd cc
    by t op vs t_is op_is vs_is (IsGone m after f k n) h = let g : Message t op vs ≡ Gone m.id = sym (ap answer_of h) ∙ ap answer_of n in absurd cc
    by t op vs t_is op_is vs_is (IsMessage m after e values table f k a n) h =
        let g : Message t op vs ≡ Message (object_of m.id e) m.opcode values = sym (ap answer_of h) ∙ ap answer_of n in
        let same_target : t ≡ object_of m.id e = cc in
        let same_opcode : op ≡ m.opcode = cc in
        let same_values : vs ≡ values = cc in
        record {
          m = m;
          after = after;
          e = e;
          front_is = f;
          there = k;
          target = t_is ∙ same_target;
          opcode = sym (op_is ∙ same_opcode);
          args = a ∙ ap (λ (x : List Value). Some x) (sym (vs_is ∙ same_values));
          table = table;
          now = sym (ap backend_of h) ∙ ap backend_of n;
        }
    by t op vs t_is op_is vs_is (IsRefused m after fault left f k a n) h = let g : Message t op vs ≡ Refused fault = sym (ap answer_of h) ∙ ap answer_of n in absurd cc

-- ---- a fault

pub judged_refused : (setup : Setup) (past : List Raw) (m : Raw) (r : Refusal) → refusal setup past m ≡ Some r → judge setup past m ≡ RefusedSo r
unfolding judge
judged_refused setup past m r e = rw (judge, e) refl

-- what a fault says of the front
abbrev SaysWhy : Setup → List Raw → List ℕ → Option Fault → Type 0
SaysWhy setup past rest None = ⊥
SaysWhy setup past rest (Some (HeaderLength n)) = front rest ≡ Unlawful n
SaysWhy setup past rest (Some f) = RefusesFront setup past rest (Some (Parse f))

no_header : (setup : Setup) (past : List Raw) (rest : List ℕ) (f : Fault) → IsNoHeader f → RefusesFront setup past rest (Some (Parse f)) → SaysWhy setup past rest (Some f)
no_header setup past rest (HeaderLength n) nh u = absurd nh
no_header setup past rest other nh u = u

pub refused_by : (setup : Setup) (past : List Raw) (b new : BackendView) (fault : Fault) (w : FrontAnswer × BackendView) → View setup past b w → w ≡ pair (Refused fault) new → SaysWhy setup past b.unread (Some fault)
refused_by setup past b new fault w (IsShort f n) h = let g : Refused fault ≡ Waits = sym (ap answer_of h) ∙ ap answer_of n in absurd cc
refused_by setup past b new fault w (IsUnlawful k f n) h =
    let g : Refused fault ≡ Refused (HeaderLength k) = sym (ap answer_of h) ∙ ap answer_of n in
    let same : HeaderLength k ≡ fault = cc in
    subst (λ (x : Fault). SaysWhy setup past b.unread (Some x)) same f
refused_by setup past b new fault w (IsGone m after f k n) h = let g : Refused fault ≡ Gone m.id = sym (ap answer_of h) ∙ ap answer_of n in absurd cc
refused_by setup past b new fault w (IsMessage m after e values table f k a n) h = let g : Refused fault ≡ Message (object_of m.id e) m.opcode values = sym (ap answer_of h) ∙ ap answer_of n in absurd cc
refused_by setup past b new fault w (IsRefused m after other left f k a n) h =
    let g : Refused fault ≡ Refused other = sym (ap answer_of h) ∙ ap answer_of n in
    let same : other ≡ fault = cc in
    subst (λ (x : Fault). SaysWhy setup past b.unread (Some x)) same (no_header setup past b.unread other a (m, after, f, judged_refused setup past m (Parse other) k))

says_why : (setup : Setup) (past : List Raw) (b new : BackendView) (o : Option Fault) (w : FrontAnswer × BackendView) → View setup past b w → IfSome o (λ f. w ≡ pair (Refused f) new) × IsSome o → SaysWhy setup past b.unread o
says_why setup past b new None w v h = let g : false ≡ true = h.1 in absurd cc
says_why setup past b new (Some fault) w v h = refused_by setup past b new fault w v h.0

pub parse_refused : (setup : Setup) (past : List Raw) (rest : List ℕ) (e : ParseError) → SaysWhy setup past rest (fault_of e) → Refuses setup past rest (error.Parse e)
parse_refused setup past rest (parse_error.HeaderLength n) h = h
parse_refused setup past rest parse_error.NoMemory h = absurd h
parse_refused setup past rest parse_error.EndOfMessage h = h
parse_refused setup past rest (parse_error.Utf8 n) h = h
parse_refused setup past rest (parse_error.InvalidId n) h = h
parse_refused setup past rest parse_error.NoFd h = h
parse_refused setup past rest (parse_error.InvalidOpcode name n) h = h
parse_refused setup past rest (parse_error.InvalidVariant name n) h = h
parse_refused setup past rest (parse_error.InvalidInterface name) h = h
parse_refused setup past rest (parse_error.MessageLength n k) h = h
parse_refused setup past rest parse_error.InvalidNull h = h

-- ---- over a converter that stands

module _ (setup : Setup) (past : List Raw) (times rest : List ℕ) (handles : List Handle) (old : ConverterView) (new : BackendView) (stands : IsConnected setup past times rest handles old) where
  seen : View setup past old.handle.ctx (next false old.handle.ctx)
  seen = view setup past old.handle.ctx stands.held.server stands.held.peer stands.held.objects

  unread_is : {A : Type 0} (x : A) (f : List ℕ → A) → f old.handle.ctx.unread ≡ x → f rest ≡ x
  unread_is x f h = ap f (sym stands.unread) ∙ h

  pub asks_waits : Answers target_of opcode_of values_of None new (next false old.handle.ctx) → (front rest ≡ Short) × (new ≡ old.handle.ctx)
  asks_waits h = let w = waits_by setup past old.handle.ctx new (next false old.handle.ctx) seen h in (unread_is Short front w.0, w.1)

  pub asks_refused : (e : ParseError) → Answers target_of opcode_of values_of (Some (pending.ParseError e)) new (next false old.handle.ctx) → Refuses setup past rest (error.Parse e)
  asks_refused e h = parse_refused setup past rest e (subst (λ (x : List ℕ). SaysWhy setup past x (fault_of e)) stands.unread (says_why setup past old.handle.ctx new (fault_of e) (next false old.handle.ctx) seen h))

  -- the converter whose endpoint is that one, but for what is unread
  standing : (after : List ℕ) → IsConnected setup past times after handles (record old { handle = record old.handle { ctx = record old.handle.ctx { unread = after } } })
  standing after = record {
    held = held_with setup past times old _ (record old.handle.ctx { unread = after }) stands.held refl refl stands.held.no_handles refl;
    ring = stands.ring;
    unread = refl;
    unread_handles = stands.unread_handles;
    unsent = stands.unsent;
    queue = stands.queue;
  }

  pub asks_gone : (id : ℕ) → Answers target_of opcode_of values_of (Some (pending.InvalidObject id)) new (next false old.handle.ctx) →
      (g : NoObject past old.handle.ctx id new) × (front rest ≡ Whole g.m g.after) × IsConnected setup past times g.after handles (record old { handle = record old.handle { ctx = new } })
  asks_gone id h =
      let g = gone_by setup past old.handle.ctx new id (next false old.handle.ctx) seen h in
      (g, unread_is (Whole g.m g.after) front g.front_is, subst (λ (x : BackendView). IsConnected setup past times g.after handles (record old { handle = record old.handle { ctx = x } })) (sym g.now) (standing g.after))

  pub asks_request : (r : Request) → Answers target_of opcode_of values_of (Some (pending.Request r)) new (next false old.handle.ctx) → Brings announced_of (Some (pending.Request r)) old.handle.ctx.table new.table →
      IsAsked setup past times rest handles r (record old { handle = record old.handle { ctx = new } })
  asks_request r h announced =
      let t = taken_by setup past old.handle.ctx new r (next false old.handle.ctx) seen h in
      record {
        m = t.m;
        after = t.after;
        e = t.e;
        front_is = unread_is (Whole t.m t.after) front t.front_is;
        there = t.there;
        target = t.target;
        opcode = t.opcode;
        args = t.args;
        stood = record old { handle = record old.handle { ctx = record old.handle.ctx { unread = t.after } } };
        stands = standing t.after;
        table = new.table;
        announced = announced;
        now = ap (λ (x : BackendView). record old { handle = record old.handle { ctx = x } })
            (t.now ∙ ap (λ (x : TableView). record old.handle.ctx { table = x; unread = t.after }) (sym (ap (λ (x : BackendView). x.table) t.now)));
      }
