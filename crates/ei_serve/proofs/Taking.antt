-- The message at the front, as a server's endpoint takes it, and the arguments that the definitions read of it.
use Rattle.std.proofs.Common.{◌≡◌, ℕ, ◌+◌, Bool, true, false, ◌||◌, cond, eqb, ltb, leb, List, [], ◌∷◌, length, drop, Option, Some, None, Result, Ok, Err, refl}
use Rattle.std.proofs.Common.{ap, sym, subst, ◌∙◌}
use Rattle.std.specs.Prelude.{MatchOption, MatchResult, codes}
use Rattle.ei_spec.specs.declared.handle.Handle.{Handle}
use Rattle.ei_spec.specs.declared.interface.KnownInterface.{KnownInterface}
use Rattle.ei_spec.specs.declared.interface.KnownInterface.TheVariants as known
use Rattle.ei_spec.specs.Value.{Value, New, U32}
use Rattle.ei_spec.specs.Interface.{Known, ObjectView, short_of}
use Rattle.ei_spec.specs.Reading.{Fault, InvalidId, InvalidOpcode, HeaderLength, MessageLength, Unread, ArgumentStop, ◌then◌, stopping, all_at}
use Rattle.ei_spec.specs.Rows.{Row, Nothing, Fixed, announcing, new_id, row_at}
use Rattle.ei_spec.specs.Table.{table}
use Rattle.ei_spec.specs.Message.{Raw, size, Short, Unlawful, Whole, front}
use Rattle.ei_spec.proofs.Faults.{IsNoHeader, StopsNoHeader, all_no_header}
use Rattle.ei_spec.proofs.Handleless.{AreNoHandles, Got, got_of, all_alike}
use Rattle.ei_spec.proofs.QuietRows.{takes_no_handle, announces_at, quiet_row}
use Rattle.ei_backend.specs.Table.{TableView, found, peer_end}
use Rattle.ei_backend.specs.Message.{Parsed, announce, with_new, some_row}
use Rattle.ei_backend.specs.Backend.{BackendView, BodyOutcome, outcome, body_read, FrontAnswer, Waits, Refused, Gone, Message, next, said_of}
use Rattle.ei_serve.specs.AtFront.{is_sync, bytes_refused_by, bytes_refused}
use Rattle.ei_session.specs.Arguments.{whole, body_of, row_args, request_args}
use Rattle.ei_session.specs.Asked.{first}
use Rattle.ei_session.specs.Refusals.{Refusal, Parse, arguments, left_over}
use Rattle.ei_serve.proofs.NoHandles.{KeepsTaken, all_keeps, SameArgs, all_same}

-- a row that announces nothing and takes no handle
abbrev pub IsPlain : Option Row → Type 0
IsPlain o = MatchOption o (Unit {0}) (λ r. (r.announces ≡ Nothing) × AreNoHandles r.kinds)

-- a request announces only where it is `sync`
sync_announces : (interface : KnownInterface) (opcode : ℕ) → announces_at false interface opcode ≡ is_sync interface opcode
sync_announces known.Handshake opcode = refl
sync_announces interface opcode = refl

rows_at : (interface : KnownInterface) (opcode : ℕ) (o : Option Row) → is_sync interface opcode ≡ false → row_at opcode (table false interface) ≡ o → IsPlain o
rows_at interface opcode None h e = tt
rows_at interface opcode (Some r) h e = (quiet_row false interface opcode r (sync_announces interface opcode ∙ h) e, takes_no_handle interface opcode r e)

-- each request is one, but `sync`
pub plain_rows : (interface : KnownInterface) (opcode : ℕ) → is_sync interface opcode ≡ false → IsPlain (row_at opcode (table false interface))
plain_rows interface opcode h = rows_at interface opcode (row_at opcode (table false interface)) h refl

-- what reading a body says, where the definitions read these arguments of it
abbrev pub OutcomeIs : Option (List Value) → TableView → BodyOutcome → Type 0
OutcomeIs (Some values) t o = o ≡ record { said = Ok values; table = t; taken = 0 }
OutcomeIs None t o = (f : Fault) × (o.said ≡ Err f) × IsNoHeader f

abbrev said_if : Bool → List Value → ℕ → ℕ → Result (List Value) Fault
said_if b values a n = cond b (Ok values) (Err (MessageLength a n))

with_rest : (b : Bool) (values : List Value) (a n taken : ℕ) (t : TableView) → taken ≡ 0 → OutcomeIs (cond b (Some values) None) t (record { said = said_if b values a n; table = t; taken = taken })
with_rest true values a n taken t e = rw e refl
with_rest false values a n taken t e = (MessageLength a n, refl, tt)

parsed_is : (len : ℕ) (t : TableView) (values : List Value) (s : Unread) (vs : List Value) (rest : List ℕ) → values ≡ vs → s.bytes ≡ rest → s.taken ≡ 0 →
    OutcomeIs (cond (eqb (length rest) 0) (Some vs) None) t (outcome len t (Ok (record { values = values; table = t; unread = s })))
parsed_is len t values s vs rest e r k = rw (← e, ← r) (with_rest (eqb (length s.bytes) 0) values (len + length s.bytes) len s.taken t k)

abbrev announced : Row → TableView → Result (List Value × Unread) ArgumentStop → Result Parsed ArgumentStop
announced r t a = a then λ x. stopping x.1.taken (announce r.announces r.kinds x.0 t) then λ u. Ok (record { values = x.0; table = u; unread = x.1 })

abbrev got : List Value → List ℕ → Got (List Value)
got value rest = record { value = value; rest = rest }

row_case : (r : Row) (len : ℕ) (t : TableView) (a b : Result (List Value × Unread) ArgumentStop) → r.announces ≡ Nothing → got_of a ≡ got_of b → KeepsTaken {A = List Value} 0 a → StopsNoHeader a →
    OutcomeIs (whole b) t (outcome len t (announced r t a))
unfolding whole
row_case r len t (Ok x) (Ok y) n e k h =
    let same : got x.0 x.1.bytes ≡ got y.0 y.1.bytes = cc in
    rw n (parsed_is len t x.0 x.1 y.0 y.1.bytes (ap (λ (g : Got (List Value)). g.value) same) (ap (λ (g : Got (List Value)). g.rest) same) k)
row_case r len t (Ok x) (Err f) n e k h = absurd cc
row_case r len t (Err f) (Ok y) n e k h = absurd cc
row_case r len t (Err f) (Err g) n e k h = (f.0, refl, h)

some_case : (o : Option Row) (short : List ℕ) (m : Raw) (handles : List Handle) (t : TableView) → IsPlain o →
    OutcomeIs (row_args o m) t (outcome (size m) t (some_row o short m.opcode (record { bytes = m.body; handles = handles; taken = 0 }) t))
unfolding row_args
some_case None short m handles t p = (InvalidOpcode short m.opcode, refl, tt)
some_case (Some r) short m handles t p =
    let s : Unread = record { bytes = m.body; handles = handles; taken = 0 } in
    row_case r (size m) t (all_at r.kinds s) (all_at r.kinds (body_of m)) p.0 (all_alike r.kinds s (body_of m) p.1 refl) (all_keeps r.kinds s 0 p.1 refl) (all_no_header r.kinds s)

-- what a whole message says to an object of a known interface is what the definitions read of it
pub body_is : (interface : KnownInterface) (target : ObjectView) (m : Raw) (handles : List Handle) (t : TableView) → target.interface ≡ Known interface → is_sync interface m.opcode ≡ false →
    OutcomeIs (request_args interface m) t (body_read false target m.opcode m.body handles t)
unfolding request_args
body_is interface target m handles t e h = rw e (some_case (row_at m.opcode (table false interface)) (short_of interface) m handles t (plain_rows interface m.opcode h))

-- ---- why it can't be read

-- where an outcome is a fault, it is this refusal
abbrev pub IsExact : Option Refusal → BodyOutcome → Type 0
IsExact refusal o = MatchResult o.said (λ values. Unit {0}) (λ f. refusal ≡ Some (Parse f))

exact_left : (b : Bool) (values : List Value) (a n taken : ℕ) (t : TableView) → IsExact (cond b None (Some (Parse (MessageLength a n)))) (record { said = said_if b values a n; table = t; taken = taken })
exact_left true values a n taken t = tt
exact_left false values a n taken t = refl

exact_ok : (m : Raw) (t : TableView) (values : List Value) (s : Unread) (rest : List ℕ) → s.bytes ≡ rest →
    IsExact (cond (eqb (length rest) 0) None (Some (Parse (MessageLength (size m + length rest) (size m))))) (outcome (size m) t (Ok (record { values = values; table = t; unread = s })))
exact_ok m t values s rest e = rw (← e) (exact_left (eqb (length s.bytes) 0) values (size m + length s.bytes) (size m) s.taken t)

alone : (o : Option Refusal) → first (None ∷ None ∷ o ∷ []) ≡ o
alone None = refl
alone (Some r) = refl

exact_row : (interface : KnownInterface) (r : Row) (m : Raw) (t : TableView) (a b : Result (List Value × Unread) ArgumentStop) → r.announces ≡ Nothing → SameArgs a b →
    IsExact (bytes_refused_by interface m (Some r) b) (outcome (size m) t (announced r t a))
exact_row interface r m t (Ok x) (Ok y) n e = rw n (by (exact_ok m t x.0 x.1 y.1.bytes e.1))
  where
    by : IsExact (cond (eqb (length y.1.bytes) 0) None (Some (Parse (MessageLength (size m + length y.1.bytes) (size m))))) (outcome (size m) t (Ok (record { values = x.0; table = t; unread = x.1 }))) →
        IsExact (bytes_refused_by interface m (Some r) (Ok y)) (outcome (size m) t (Ok (record { values = x.0; table = t; unread = x.1 })))
    by h = subst (λ (o : Option Refusal). IsExact o (outcome (size m) t (Ok (record { values = x.0; table = t; unread = x.1 })))) (sym (alone (left_over m (Ok y)))) h
exact_row interface r m t (Ok x) (Err f) n e = absurd e
exact_row interface r m t (Err f) (Ok y) n e = absurd e
exact_row interface r m t (Err f) (Err g) n e = ap (λ (x : Fault). Some (Parse x)) (sym e)

exact_some : (interface : KnownInterface) (o : Option Row) (m : Raw) (handles : List Handle) (t : TableView) → IsPlain o →
    IsExact (bytes_refused_by interface m o (arguments o m)) (outcome (size m) t (some_row o (short_of interface) m.opcode (record { bytes = m.body; handles = handles; taken = 0 }) t))
exact_some interface None m handles t p = refl
exact_some interface (Some r) m handles t p =
    let s : Unread = record { bytes = m.body; handles = handles; taken = 0 } in
    exact_row interface r m t (all_at r.kinds s) (all_at r.kinds (body_of m)) p.0 (all_same r.kinds s (body_of m) p.1 refl)

-- a fault that a whole message meets is why its bytes are refused
pub exact_is : (interface : KnownInterface) (target : ObjectView) (m : Raw) (handles : List Handle) (t : TableView) → target.interface ≡ Known interface → is_sync interface m.opcode ≡ false →
    IsExact (bytes_refused interface m) (body_read false target m.opcode m.body handles t)
exact_is interface target m handles t e h = rw e (exact_some interface (row_at m.opcode (table false interface)) m handles t (plain_rows interface m.opcode h))

-- ---- what a `sync` says

-- a message, or a refusal that isn't that of a length
abbrev pub SaysSome : BodyOutcome → Type 0
SaysSome o = MatchResult o.said (λ values. Unit {0}) (λ f. IsNoHeader f)

said_some : (b : Bool) (values : List Value) (a n taken : ℕ) (t : TableView) → SaysSome (record { said = said_if b values a n; table = t; taken = taken })
said_some true values a n taken t = tt
said_some false values a n taken t = tt

made_some : (len taken : ℕ) (t : TableView) (values : List Value) (s : Unread) (u : Result TableView Fault) → MatchResult u (λ x. Unit {0}) (λ f. IsNoHeader f) →
    SaysSome (outcome len t (stopping taken u then λ x. Ok (record { values = values; table = x; unread = s })))
made_some len taken t values s (Ok u) h = said_some (eqb (length s.bytes) 0) values (len + length s.bytes) len s.taken u
made_some len taken t values s (Err f) h = h

accepted_if : (b : Bool) (id : ℕ) (x : ObjectView × TableView) → MatchResult (with_new (cond b (Err (InvalidId id)) (Ok x))) (λ u. Unit {0}) (λ f. IsNoHeader f)
accepted_if true id x = tt
accepted_if false id x = tt

abbrev sync_row : Row
sync_row = announcing (codes "sync") (New ∷ U32 ∷ []) (Fixed known.Callback)

read_some : (len : ℕ) (t : TableView) (a : Result (List Value × Unread) ArgumentStop) → StopsNoHeader a → SaysSome (outcome len t (announced sync_row t a))
read_some len t (Ok x) h = made_some len x.1.taken t x.0 x.1 (announce (Fixed known.Callback) (New ∷ U32 ∷ []) x.0 t) (accepted_if (ltb (new_id (New ∷ U32 ∷ []) x.0) t.next_peer || leb (peer_end t) (new_id (New ∷ U32 ∷ []) x.0)) (new_id (New ∷ U32 ∷ []) x.0) _)
read_some len t (Err f) h = h

pub sync_is : (target : ObjectView) (m : Raw) (handles : List Handle) (t : TableView) → target.interface ≡ Known known.Connection → is_sync known.Connection m.opcode ≡ true →
    SaysSome (body_read false target m.opcode m.body handles t)
sync_is target m handles t e h =
    let s : Unread = record { bytes = m.body; handles = handles; taken = 0 } in
    rw (e, h) (read_some (size m) t (all_at (New ∷ U32 ∷ []) s) (all_no_header (New ∷ U32 ∷ []) s))

-- ---- the next message, from what stands at the front

abbrev said : FrontAnswer → BackendView → FrontAnswer × BackendView
said a b = (a, b)

abbrev answer_of : FrontAnswer × BackendView → FrontAnswer
answer_of p = p.0

abbrev backend_of : FrontAnswer × BackendView → BackendView
backend_of p = p.1

pub next_short : (b : BackendView) → front b.unread ≡ Short → next false b ≡ said Waits b
next_short b e = rw e refl

pub next_unlawful : (b : BackendView) (n : ℕ) → front b.unread ≡ Unlawful n → next false b ≡ said (Refused (HeaderLength n)) b
next_unlawful b n e = rw e refl

pub next_gone : (b : BackendView) (m : Raw) (rest : List ℕ) → front b.unread ≡ Whole m rest → found b.table m.id ≡ None → next false b ≡ said (Gone m.id) (record b { unread = rest })
next_gone b m rest e n = rw (e, n) refl

-- what is said of a body, and the endpoint after it
pub record SaysOf (b : BackendView) (target : ObjectView) (m : Raw) (rest : List ℕ) (args : Option (List Value)) (o : BodyOutcome) : Type 0 where
  pub values : (vs : List Value) → args ≡ Some vs → (answer_of (said (said_of target m.opcode o.said) b) ≡ Message target m.opcode vs) × (o.table ≡ b.table) × (o.taken ≡ 0)
  pub none : args ≡ None → (f : Fault) × (said_of target m.opcode o.said ≡ Refused f) × IsNoHeader f × (o.said ≡ Err f)

says : (b : BackendView) (target : ObjectView) (m : Raw) (rest : List ℕ) (args : Option (List Value)) (o : BodyOutcome) → OutcomeIs args b.table o → SaysOf b target m rest args o
says b target m rest (Some vs) o h = record {
  values = λ ws e. let same : vs ≡ ws = cc in (ap (λ (x : BodyOutcome). said_of target m.opcode x.said) h ∙ ap (Message target m.opcode) same, ap (λ (x : BodyOutcome). x.table) h, ap (λ (x : BodyOutcome). x.taken) h);
  none = λ e. absurd cc;
}
says b target m rest None o h = record {
  values = λ ws e. absurd cc;
  none = λ e. (h.0, ap (said_of target m.opcode) h.1, h.2, h.1);
}

after_is : (b : BackendView) (t : TableView) (rest : List ℕ) (n : ℕ) → t ≡ b.table → n ≡ 0 → ◌≡◌ {A = BackendView} (record b { table = t; unread = rest; handles = drop n b.handles }) (record b { unread = rest })
after_is b t rest n e z = rw (e, z) refl

pub next_taken : (b : BackendView) (m : Raw) (rest : List ℕ) (target : ObjectView) (interface : KnownInterface) (vs : List Value) → front b.unread ≡ Whole m rest → found b.table m.id ≡ Some target → target.interface ≡ Known interface → is_sync interface m.opcode ≡ false → request_args interface m ≡ Some vs →
    (answer_of (next false b) ≡ Message target m.opcode vs) × (backend_of (next false b) ≡ record b { unread = rest })
next_taken b m rest target interface vs e f k plain a =
    let o = body_read false target m.opcode m.body b.handles b.table in
    let h = (says b target m rest (request_args interface m) o (body_is interface target m b.handles b.table k plain)).values vs a in
    rw (e, f) (h.0, after_is b o.table rest o.taken h.1 h.2)

pub next_refused : (b : BackendView) (m : Raw) (rest : List ℕ) (target : ObjectView) (interface : KnownInterface) → front b.unread ≡ Whole m rest → found b.table m.id ≡ Some target → target.interface ≡ Known interface → is_sync interface m.opcode ≡ false → request_args interface m ≡ None →
    (f : Fault) × (answer_of (next false b) ≡ Refused f) × IsNoHeader f × (bytes_refused interface m ≡ Some (Parse f))
next_refused b m rest target interface e f k plain a =
    let o = body_read false target m.opcode m.body b.handles b.table in
    let h = (says b target m rest (request_args interface m) o (body_is interface target m b.handles b.table k plain)).none a in
    let why = subst (λ (r : Result (List Value) Fault). MatchResult r (λ values. Unit {0}) (λ f. bytes_refused interface m ≡ Some (Parse f))) h.3 (exact_is interface target m b.handles b.table k plain) in
    rw (e, f) (h.0, h.1, h.2, why)

-- what a `sync` is answered by
abbrev pub AnswersSync : ObjectView → ℕ → FrontAnswer → Type 0
AnswersSync target opcode (Message t op vs) = (t ≡ target) × (op ≡ opcode)
AnswersSync target opcode (Refused f) = IsNoHeader f
AnswersSync target opcode a = ⊥

says_sync : (target : ObjectView) (opcode : ℕ) (r : Result (List Value) Fault) → MatchResult r (λ values. Unit {0}) (λ f. IsNoHeader f) → AnswersSync target opcode (said_of target opcode r)
says_sync target opcode (Ok vs) h = (refl, refl)
says_sync target opcode (Err f) h = h

pub next_sync : (b : BackendView) (m : Raw) (rest : List ℕ) (target : ObjectView) → front b.unread ≡ Whole m rest → found b.table m.id ≡ Some target → target.interface ≡ Known known.Connection → is_sync known.Connection m.opcode ≡ true →
    AnswersSync target m.opcode (answer_of (next false b))
next_sync b m rest target e f k h =
    let o = body_read false target m.opcode m.body b.handles b.table in
    rw (e, f) (says_sync target m.opcode o.said (sync_is target m b.handles b.table k h))
