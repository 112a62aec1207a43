-- The message at the front during the handshake.
use Rattle.std.proofs.Common.{◌≡◌, ◌==◌, ℕ, Bool, true, false, cond, ◌&&◌, ◌||◌, eqb, List, [], ◌∷◌, Option, Some, None, Ok, Err, refl, sym, ap, subst, ◌∙◌}
use Rattle.std.specs.Prelude.{codes}
use Rattle.std.specs.Option.{option_map}
use Rattle.std.specs.Ordering.{nat_cmp, eq_by_cmp}
use Rattle.std.specs.Cmp.{nat_cmp_total, Equal-is}
use Rattle.std.specs.FinMap.{empty, get-empty, get-insert, nat_cmp-IsAntisymmetric}
use Rattle.std.proofs.lemmas.Bool.{eqb-true}
use Rattle.ei_spec.specs.declared.handle.Handle.{Handle}
use Rattle.ei_spec.specs.declared.interface.KnownInterface.{KnownInterface}
use Rattle.ei_spec.specs.declared.interface.KnownInterface.TheVariants as known
use Rattle.ei_spec.specs.Value.{Value, Word, Letters}
use Rattle.ei_spec.specs.Reading.{Fault}
use Rattle.ei_spec.specs.Rows.{Row, row_at}
use Rattle.ei_spec.specs.Table.{table}
use Rattle.ei_spec.specs.Interface.{Known, ObjectView}
use Rattle.ei_spec.specs.Message.{Raw, Whole, front}
use Rattle.ei_types.specs.Enums.{context_type_number}
use Rattle.ei_types.specs.declared.error.HandshakeError.TheVariants as handshake_error
use Rattle.ei_backend.specs.Table.{found, first_object, first_server_id}
use Rattle.ei_backend.specs.Backend.{BackendView}
use Rattle.ei_server.specs.declared.handshake.Request.{Request as Asked}
use Rattle.ei_server.specs.declared.handshake.Request.TheVariants as asked
use Rattle.ei_server.specs.Handshake as handshake
use Rattle.ei_server.specs.declared.request.Request.{Request}
use Rattle.ei_server.specs.declared.request.Request.TheVariants as request
use Rattle.ei_server.specs.Request.{as_one_of, target_of, opcode_of, values_of}
use Rattle.ei_session.specs.Setup.{Setup}
use Rattle.ei_session.specs.Arguments.{request_args}
use Rattle.ei_session.specs.Asked.{first as first_some}
use Rattle.ei_session.specs.Handshake.{Announced, announced, announced_by, connected, is_finish}
use Rattle.ei_session.specs.Meaning.{Shake, Greets, Finishes, TellsContext, TellsName, TellsInterface, Shakes, meaning}
use Rattle.ei_session.specs.Meaning as rows
use Rattle.ei_session.specs.ByMeaning.{tells_name, tells_context, shake_refusal}
use Rattle.ei_session.specs.Objects.{object}
use Rattle.ei_session.specs.Touches.{input}
use Rattle.ei_session.specs.Devices.{is_past, next_id, exhausts}
use Rattle.ei_session.specs.Refusals.{Refusal, Parse, Handshake, Arguments, arguments, no_row, stuck, announced_id, bad_id, left_over, came, verdict, refusal}
use Rattle.ei_session.specs.Refusals.{bad_handshake, bad_sync, bad_capabilities, bad_touch, bad_text, is_disconnect, judge}
use Rattle.ei_session.proofs.AskedMeans.{name_asked, context_asked}
use Rattle.ei_session.proofs.BeforeTheFinish.{came_more}
use Rattle.ei_session.proofs.FirstObjects.{the_handshake, object_first, shut_makes_nothing}
use Rattle.ei_session.proofs.RefusalLaws.{refused_known, refused_early}
use Rattle.ei_session.proofs.RefusedMeans.{refusal_asked}
use Rattle.ei_session.proofs.RowsMean.{asks_means}
use Rattle.ei_request.specs.Typed.{interface_asked}
use Rattle.ei_standing.specs.Standing.{object_of}
use Rattle.ei_serve.specs.AtFront.{AllKnown, is_sync, TakesOut, IsGone, Unreadable, bytes_refused}
use Rattle.ei_serve.specs.Standing.{handshake_table}
use Rattle.ei_serve.specs.Steps.{RefusesFront}
use Rattle.ei_serve.proofs.Endpoints.{Memory, quiet_with}
use Rattle.ei_serve.proofs.Standing.{found_first}
use Rattle.ei_serve.proofs.Taking.{IsPlain, plain_rows}

-- ---- before the connection no message is the last

off_end : (past : List Raw) (m : Raw) → connected past ≡ false → is_disconnect past m ≡ false
unfolding is_disconnect
off_end past m off = rw off refl

off_ids : (past : List Raw) (m : Raw) → connected past ≡ false → exhausts past m ≡ false
unfolding exhausts
off_ids past m off = ap (is_past (next_id past)) (shut_makes_nothing past m off)

goes_on : (past : List Raw) (m : Raw) → connected past ≡ false → (is_disconnect past m || exhausts past m) ≡ false
goes_on past m off = rw (off_end past m off, off_ids past m off) refl

-- it is refused, or accepted
pub by_refusal : (setup : Setup) (past : List Raw) (m : Raw) (o : Option Refusal) → connected past ≡ false → refusal setup past m ≡ o → judge setup past m ≡ verdict o false
unfolding judge
by_refusal setup past m o off r = ap (verdict (refusal setup past m)) (goes_on past m off) ∙ ap (λ (x : Option Refusal). verdict x false) r

-- ---- object 0 alone is in the table

abbrev pub first : ObjectView
first = first_object false

first_at : (id : ℕ) (b : Bool) (target : ObjectView) → eq_by_cmp nat_cmp id 0 ≡ b → cond b (Some first) None ≡ Some target → (id ≡ 0) × (first ≡ target)
first_at id true target e h = (nat_cmp-IsAntisymmetric id 0 ((Equal-is (nat_cmp id 0)).0 e), cc)
first_at id false target e h = absurd cc

pub only_first : (id : ℕ) (target : ObjectView) → found handshake_table id ≡ Some target → (id ≡ 0) × (first ≡ target)
only_first id target h =
    first_at id (eq_by_cmp nat_cmp id 0) target refl
    (sym (get-insert nat_cmp_total empty 0 first id ∙ ap (cond (eq_by_cmp nat_cmp id 0) (Some first)) (get-empty nat_cmp id)) ∙ h)

pub all_known : AllKnown handshake_table
all_known id target h = (known.Handshake, ap (λ (o : ObjectView). o.interface) (sym (only_first id target h).1))

-- ---- what was taken out

-- a request of the handshake to object 0 stood at the front
pub record Front (rest : List ℕ) (handles : List Handle) (memory : Memory) (asked : Asked) (new : BackendView) : Type 0 where
  pub m : Raw
  pub after : List ℕ
  pub front_is : front rest ≡ Whole m after
  pub id_is : m.id ≡ 0
  pub opcode_is : m.opcode ≡ handshake.opcode_of asked
  pub args : request_args known.Handshake m ≡ Some (handshake.values_of asked)
  pub new_is : new ≡ quiet_with handshake_table after handles memory

-- the object is object 0, and a request of the handshake is to it
is_handshake : (id : ℕ) (target : ObjectView) (interface wanted : KnownInterface) → found handshake_table id ≡ Some target → target.interface ≡ Known interface → target.interface ≡ Known wanted → (known.Handshake ≡ wanted) × (known.Handshake ≡ interface)
is_handshake id target interface wanted f i w =
    let same : first.interface ≡ target.interface = ap (λ (o : ObjectView). o.interface) (only_first id target f).1 in
    let one : Known known.Handshake ≡ Known wanted = same ∙ w in
    let other : Known known.Handshake ≡ Known interface = same ∙ i in
    (cc, cc)

-- no request of the handshake announces an object
no_sync : (m : Raw) {interface : KnownInterface} → known.Handshake ≡ interface → is_sync interface m.opcode ≡ false
no_sync m e = ap (λ (k : KnownInterface). is_sync k m.opcode) (sym e)

pub front_of : (rest : List ℕ) (handles : List Handle) (memory : Memory) (proxy : ObjectView) (asked : Asked) (new : BackendView) →
    TakesOut (quiet_with handshake_table rest handles memory) (as_one_of known.Handshake proxy) (handshake.opcode_of asked) (handshake.values_of asked) new →
    (proxy.id ≡ 0) × Front rest handles memory asked new
front_of rest handles memory proxy asked new h =
    let is = only_first h.m.id (as_one_of known.Handshake proxy) h.target_is in
    let i = is_handshake h.m.id (as_one_of known.Handshake proxy) h.interface known.Handshake h.target_is h.interface_is refl in (
      sym (ap (λ (o : ObjectView). o.id) is.1),
      record {
        m = h.m;
        after = h.rest;
        front_is = h.front_is;
        id_is = is.0;
        opcode_is = sym h.opcode_is;
        args = ap (λ (k : KnownInterface). request_args k h.m) i.1 ∙ h.args (no_sync h.m i.1);
        new_is = h.after (no_sync h.m i.1);
      },
    )

-- no other object is there
no_other : (rest : List ℕ) (handles : List Handle) (memory : Memory) (wanted : KnownInterface) (proxy : ObjectView) (opcode : ℕ) (values : List Value) (new : BackendView) →
    TakesOut (quiet_with handshake_table rest handles memory) (as_one_of wanted proxy) opcode values new → known.Handshake ≡ wanted
no_other rest handles memory wanted proxy opcode values new h = (is_handshake h.m.id (as_one_of wanted proxy) h.interface wanted h.target_is h.interface_is refl).0

-- a request of the handshake
abbrev pub IsShaking : Request → Type 0
IsShaking (request.Handshake proxy m) = Unit {0}
IsShaking other = ⊥

pub only_shaking : (rest : List ℕ) (handles : List Handle) (memory : Memory) (r : Request) (new : BackendView) → TakesOut (quiet_with handshake_table rest handles memory) (target_of r) (opcode_of r) (values_of r) new → IsShaking r
only_shaking rest handles memory (request.Handshake proxy m) new h = tt
only_shaking rest handles memory r new h = let e : known.Handshake ≡ interface_asked r = no_other rest handles memory (interface_asked r) (target_of r) _ _ new h in absurd cc

-- ---- what it asks

-- what a request of the handshake says
abbrev pub shake_of : Asked → Shake
shake_of (asked.HandshakeVersion version) = Greets version
shake_of asked.Finish = Finishes
shake_of (asked.ContextType kind) = TellsContext (context_type_number kind)
shake_of (asked.Name name) = TellsName name
shake_of (asked.InterfaceVersion name version) = TellsInterface name version

by_row : (a : Asked) → rows.Asks known.Handshake (handshake.opcode_of a) (handshake.values_of a) (Shakes (shake_of a))
by_row (asked.HandshakeVersion version) = rows.Greeting version
by_row asked.Finish = rows.Finish
by_row (asked.ContextType kind) = rows.ContextType (context_type_number kind)
by_row (asked.Name name) = rows.Name name
by_row (asked.InterfaceVersion name version) = rows.InterfaceVersion name version

module _ (past : List Raw) (off : connected past ≡ false) where
  handshake_at : (m : Raw) → m.id ≡ 0 → object past m.id ≡ Some the_handshake
  handshake_at m i = ap (object past) i ∙ object_first past 0 off

  module _ {rest : List ℕ} {handles : List Handle} {memory : Memory} {new : BackendView} (a : Asked) (f : Front rest handles memory a new) where
    pub means : meaning known.Handshake f.m ≡ Some (Shakes (shake_of a))
    means = asks_means f.m known.Handshake (handshake.opcode_of a) (handshake.values_of a) (Shakes (shake_of a)) (by_row a) f.opcode_is f.args

    -- what becomes of it
    pub judged : (setup : Setup) (o : Option Refusal) → shake_refusal past (shake_of a) ≡ o → judge setup past f.m ≡ verdict o false
    judged setup o e = by_refusal setup past f.m o off (refusal_asked setup past f.m the_handshake (Shakes (shake_of a)) (handshake_at f.m f.id_is) means ∙ e)

    at_zero : eqb f.m.id 0 ≡ true
    at_zero = ap (λ (n : ℕ). eqb n 0) f.id_is

    -- whether a name, or a context type, came by then
    pub name_came : came (codes "name") (f.m ∷ past) ≡ (tells_name (Some (Shakes (shake_of a))) || came (codes "name") past)
    name_came = came_more (codes "name") past f.m ∙ rw (at_zero, name_asked f.m, means) refl

    pub context_came : came (codes "context_type") (f.m ∷ past) ≡ (tells_context (Some (Shakes (shake_of a))) || came (codes "context_type") past)
    context_came = came_more (codes "context_type") past f.m ∙ rw (at_zero, context_asked f.m, means) refl

-- ---- the finish, and announcements

finish_by : (m : Raw) (n : ℕ) → m.id ≡ 0 → m.opcode ≡ n → is_finish m ≡ (n == 1)
unfolding is_finish
finish_by m n i o = ap (λ (x : ℕ). (x == 0) && (m.opcode == 1)) i ∙ ap (λ (x : ℕ). x == 1) o

pub finishes : {rest : List ℕ} {handles : List Handle} {memory : Memory} {new : BackendView} (a : Asked) (f : Front rest handles memory a new) → is_finish f.m ≡ (handshake.opcode_of a == 1)
finishes a f = finish_by f.m (handshake.opcode_of a) f.id_is f.opcode_is

pub announced_this : (m : Raw) (name : List ℕ) (version : ℕ) → m.id ≡ 0 → m.opcode ≡ 4 → request_args known.Handshake m ≡ Some (Letters name ∷ Word version ∷ []) → announced m ≡ Some (record { name = name; version = version })
unfolding announced
announced_this m name version i e a = rw (a, i, e) refl

none_of : (b : Bool) (x : Option Announced) → cond (b && false) x None ≡ None
none_of true x = refl
none_of false x = refl

pub announced_none : (m : Raw) (n : ℕ) → m.opcode ≡ n → (n == 4) ≡ false → announced m ≡ None
unfolding announced
announced_none m n e plain =
    ap (λ (k : ℕ). cond ((m.id == 0) && (k == 4)) (announced_by (request_args known.Handshake m)) None) e
    ∙ ap (λ (b : Bool). cond ((m.id == 0) && b) (announced_by (request_args known.Handshake m)) None) plain
    ∙ none_of (m.id == 0) (announced_by (request_args known.Handshake m))

-- ---- messages that aren't requests of the handshake

-- the first of these is the first of all tests
first_of_all : (a b c : Option Refusal) (rest : List (Option Refusal)) (r : Refusal) → first_some (a ∷ b ∷ c ∷ []) ≡ Some r → first_some (a ∷ b ∷ None ∷ c ∷ rest) ≡ Some r
first_of_all (Some x) b c rest r e = e
first_of_all None (Some x) c rest r e = e
first_of_all None None (Some x) rest r e = e
first_of_all None None None rest r e = absurd cc

-- no id is announced by a plain row
no_id : (o : Option Row) (args : Arguments) → IsPlain o → announced_id o args ≡ None
no_id None args p = refl
no_id (Some r) (Ok x) p = rw p.0 refl
no_id (Some r) (Err e) p = refl

-- a message to the handshake that can't be read is refused for its bytes
bytes_refusal : (setup : Setup) (past : List Raw) (m : Raw) (r : Refusal) → connected past ≡ false → m.id ≡ 0 → bytes_refused known.Handshake m ≡ Some r → refusal setup past m ≡ Some r
bytes_refusal setup past m r off i e =
    let row = row_at m.opcode (table false known.Handshake) in
    let args = arguments row m in
    let rest = bad_handshake past m known.Handshake ∷ bad_sync m known.Handshake ∷ bad_capabilities setup.capabilities m known.Handshake ∷ bad_touch past 1 (input past m) ∷ bad_text m known.Handshake ∷ [] in
    refused_known setup past m the_handshake (handshake_at past off m i)
    ∙ ap (λ (o : Option ℕ). first_some (no_row known.Handshake m row ∷ stuck args ∷ bad_id past o ∷ left_over m args ∷ rest)) (no_id row args (plain_rows known.Handshake m.opcode refl))
    ∙ first_of_all (no_row known.Handshake m row) (stuck args) (left_over m args) rest r e

pub unread_refused : (setup : Setup) (past : List Raw) (rest : List ℕ) (handles : List Handle) (memory : Memory) (fault : Fault) → connected past ≡ false → Unreadable (quiet_with handshake_table rest handles memory) fault → RefusesFront setup past rest (Some (Parse fault))
unread_refused setup past rest handles memory fault off u =
    let here = only_first u.m.id u.target u.target_is in
    let same : Known known.Handshake ≡ Known u.interface = ap (λ (o : ObjectView). o.interface) here.1 ∙ u.interface_is in
    let one : known.Handshake ≡ u.interface = cc in
    let why : bytes_refused known.Handshake u.m ≡ Some (Parse fault) = ap (λ (k : KnownInterface). bytes_refused k u.m) one ∙ u.why (no_sync u.m one) in
    (u.m, u.rest, u.front_is, by_refusal setup past u.m (Some (Parse fault)) off (bytes_refusal setup past u.m (Parse fault) off here.0 why))

-- a message to another object is refused
no_first : (id : ℕ) (b : Bool) → eqb id 0 ≡ b → found handshake_table id ≡ None → eqb id 0 ≡ false
no_first id true e n = let there : found handshake_table id ≡ Some first = ap (found handshake_table) (eqb-true id 0 e) ∙ found_first false first_server_id in let g : None ≡ Some first = sym n ∙ there in absurd cc
no_first id false e n = e

nothing_at : (past : List Raw) (m : Raw) → connected past ≡ false → found handshake_table m.id ≡ None → object past m.id ≡ None
nothing_at past m off n = object_first past m.id off ∙ rw (no_first m.id (eqb m.id 0) refl n) refl

none_there : (id : ℕ) (o : Option ObjectView) → eqb id 0 ≡ false → found handshake_table id ≡ o → found handshake_table id ≡ None
none_there id None e h = h
none_there id (Some target) e h = absurd (let z : true ≡ false = subst (λ (n : ℕ). eqb n 0 ≡ false) (only_first id target h).0 e in cc)

-- what is there is just what the definitions say
there_by : (past : List Raw) (id : ℕ) (b : Bool) → connected past ≡ false → eqb id 0 ≡ b → found handshake_table id ≡ option_map (object_of id) (object past id)
there_by past id true off e =
    let zero : id ≡ 0 = eqb-true id 0 e in
    ap (found handshake_table) zero ∙ found_first false first_server_id
    ∙ rw zero (sym (ap (option_map (object_of 0)) (object_first past 0 off)))
there_by past id false off e =
    let none : object past id ≡ None = object_first past id off ∙ rw e refl in
    none_there id (found handshake_table id) e refl ∙ sym (ap (option_map (object_of id)) none)

pub first_there : (past : List Raw) → connected past ≡ false → (id : ℕ) → found handshake_table id ≡ option_map (object_of id) (object past id)
first_there past off id = there_by past id (eqb id 0) off refl

pub gone_refused : (setup : Setup) (past : List Raw) (rest : List ℕ) (handles : List Handle) (memory : Memory) (id : ℕ) (new : BackendView) → connected past ≡ false → IsGone (quiet_with handshake_table rest handles memory) id new → RefusesFront setup past rest (Some (Handshake (handshake_error.InvalidObject id)))
gone_refused setup past rest handles memory id new off g =
    let why = refused_early setup past g.m off (nothing_at past g.m off g.none) ∙ ap (λ (n : ℕ). Some (Handshake (handshake_error.InvalidObject n))) (sym g.id_is) in
    (g.m, g.rest, g.front_is, by_refusal setup past g.m (Some (Handshake (handshake_error.InvalidObject id))) off why)
