-- What no message of a client is refused for: no request takes a handle, and none names an interface.
use Rattle.std.proofs.Common.{◌≡◌, ℕ, zero, suc, ◌+◌, ◌-◌, ◌<◌, Bool, true, false, cond, not, ◌&&◌, ◌||◌, ltb, leb, eqb, List, [], ◌∷◌, length, take, drop, Option, Some, None, Result}
use Rattle.std.proofs.Common.{Ok, Err, refl, arith}
use Rattle.std.specs.Prelude.{nat_eq, codes, bit_and, MatchOption, MatchResult}
use Rattle.std.specs.Int.{Width, w32, w64, byte_len, from_le_bytes, cast_signed}
use Rattle.std.specs.List.{list_any}
use Rattle.std.specs.Str.{is_utf8}
use Rattle.std.specs.Str.Lossy.{utf8_valid_len}
use Rattle.ei_spec.specs.declared.interface.KnownInterface.{KnownInterface}
use Rattle.ei_spec.specs.declared.interface.KnownInterface.TheVariants as known
use Rattle.ei_spec.specs.Value.{Kind, U32, I32, U64, I64, Float, Text, Nullable, Handle, New, Choice, OpenChoice, Value, Word, Long, Signed, SignedLong}
use Rattle.ei_spec.specs.Value.{Letters, padding}
use Rattle.ei_spec.specs.Reading.{Fault, EndOfMessage, Utf8, NoFd, InvalidVariant, InvalidInterface, InvalidId, MessageLength, ◌>>=◌, Unread, number_at, letters_at}
use Rattle.ei_spec.specs.Reading.{text_at, some_text, or_null, choice_at, of_bytes, read, utf8, ArgumentStop, ◌then◌, stopping, all_at}
use Rattle.ei_spec.specs.Rows.{Row, row_at}
use Rattle.ei_spec.specs.Table.{table}
use Rattle.ei_spec.specs.Message.{Raw, Front, Short, Unlawful, Whole, front, size}
use Rattle.ei_spec.specs.Stream.{Verdict, Accepted, Final, Refused as RefusedBy, Stop, Waiting, Ended, HeaderLength, Refusal as Stopped, read as read_all}
use Rattle.ei_spec.specs.Piece.{Piece, stream}
use Rattle.ei_spec.proofs.FrontLaws.{shorter}
use Rattle.ei_spec.proofs.GoesOn.{read_short, read_unlawful, read_accepted, read_final, read_refused}
use Rattle.ei_spec.proofs.Handleless.{IsNoHandle, AreNoHandles}
use Rattle.ei_types.specs.declared.error.HandshakeError.TheVariants as handshake
use Rattle.ei_types.specs.declared.error.RequestError.TheVariants as request
use Rattle.ei_spec.specs.declared.limits.TheConstants.{MOST_TOUCHES, MOST_TEXT_BYTES}
use Rattle.ei_spec.specs.Interface.{name_of}
use Rattle.ei_input.specs.declared.input_event.InputEvent.{InputEvent}
use Rattle.ei_input.specs.declared.input_event.InputEvent.TheVariants as input_event
use Rattle.ei_session.specs.Setup.{Setup}
use Rattle.ei_session.specs.Arguments.{body_of}
use Rattle.ei_session.specs.Asked.{asked, asks, first}
use Rattle.ei_session.specs.Handshake.{connected, all_settled}
use Rattle.ei_session.specs.Inputs.{DeviceInput, input_to}
use Rattle.ei_session.specs.Devices.{asked_mask}
use Rattle.ei_session.specs.Objects.{Entry, object}
use Rattle.ei_session.specs.Touches.{input, is_down, touches_down}
use Rattle.ei_session.specs.Refusals.{Refusal, Parse, Handshake as Shaking, InvalidInterfaceVersion, Request, came, Arguments, arguments, no_row, stuck, announced_id, may_give, bad_id, left_over, bad_handshake, bad_sync, bad_callback}
use Rattle.ei_session.specs.Refusals.{bad_capabilities, bad_mask, bad_touch, bad_text, bad_letters, unfit_text, refused_row, refused_at, refusal, verdict, judge}
use Rattle.ei_session.specs.Served.{Answer, End, UnexpectedEof, IdsExhausted, PieceLimit, HandleLimit, Disconnect, Refused, Outcome, answer_of, answer_at, too_many_handles, ran_out, least, is_over, reading_of, read_first}
use Rattle.ei_session.specs.Served.{over_at, session}
use Rattle.ei_serve.proofs.ReadFront.{IsHandleless, rows}

-- ---- arguments

-- a fault that is neither a handle that didn't come nor an interface that isn't known
abbrev pub IsPlain : Fault → Type 0
IsPlain NoFd = ⊥
IsPlain (InvalidInterface name) = ⊥
IsPlain fault = Unit {0}

abbrev Plain : {A : Type 0} → Result A Fault → Type 0
Plain r = MatchResult r (λ _. Unit {0}) IsPlain

either : {A : Type 0} (P : A → Type 0) (b : Bool) (x y : A) → P x → P y → P (cond b x y)
either P true x y p q = p
either P false x y p q = q

bound : {A B : Type 0} (r : Result A Fault) (f : A → Result B Fault) → Plain r → ((x : A) → Plain (f x)) → Plain (r >>= f)
bound (Ok x) f h k = k x
bound (Err e) f h k = h

number_plain : (w : Width) (bytes : List ℕ) → Plain (number_at w bytes)
number_plain w bytes = either (λ r. Plain r) (ltb (length bytes) (byte_len w)) (Err EndOfMessage) (Ok (from_le_bytes w (take (byte_len w) bytes), drop (byte_len w) bytes)) tt tt

utf8_plain : (bytes : List ℕ) → Plain (utf8 bytes)
utf8_plain bytes = either (λ r. Plain r) (is_utf8 bytes) (Ok bytes) (Err (Utf8 (utf8_valid_len bytes))) tt tt

letters_plain : (n : ℕ) (bytes : List ℕ) → Plain (letters_at n bytes)
unfolding letters_at
letters_plain n bytes = either (λ r. Plain r) (ltb (length bytes) n) (Err EndOfMessage)
    (utf8 (take n bytes) >>= λ t. cond (ltb (length bytes) (n + 1 + padding (n + 1))) (Err EndOfMessage) (Ok (t, drop (n + 1 + padding (n + 1)) bytes))) tt
    (bound (utf8 (take n bytes)) (λ t. cond (ltb (length bytes) (n + 1 + padding (n + 1))) (Err EndOfMessage) (Ok (t, drop (n + 1 + padding (n + 1)) bytes))) (utf8_plain (take n bytes))
    (λ t. either (λ r. Plain r) (ltb (length bytes) (n + 1 + padding (n + 1))) (Err EndOfMessage) (Ok (t, drop (n + 1 + padding (n + 1)) bytes)) tt tt))

text_plain : (bytes : List ℕ) → Plain (text_at bytes)
unfolding text_at
text_plain bytes = bound (number_at w32 bytes) (λ n. cond (eqb n.0 0) (Ok (None, n.1)) (letters_at (n.0 - 1) n.1 >>= λ t. Ok (Some t.0, t.1))) (number_plain w32 bytes)
    (λ n. either (λ r. Plain r) (eqb n.0 0) (Ok (None, n.1)) (letters_at (n.0 - 1) n.1 >>= λ t. Ok (Some t.0, t.1)) tt
    (bound (letters_at (n.0 - 1) n.1) (λ t. Ok (Some t.0, t.1)) (letters_plain (n.0 - 1) n.1) (λ t. tt)))

some_text_plain : (t : Option (List ℕ)) (rest : List ℕ) → Plain (some_text t rest)
some_text_plain None rest = tt
some_text_plain (Some t) rest = tt

of_bytes_plain : {A : Type 0} (f : A → Value) (s : Unread) (r : Result (A × List ℕ) Fault) → Plain r → Plain (of_bytes f s r)
of_bytes_plain f s (Ok x) h = tt
of_bytes_plain f s (Err e) h = h

read_plain : (k : Kind) (s : Unread) → IsNoHandle k → Plain (read k s)
read_plain U32 s n = of_bytes_plain Word s (number_at w32 s.bytes) (number_plain w32 s.bytes)
read_plain I32 s n = of_bytes_plain (λ n. Signed (cast_signed w32 n)) s (number_at w32 s.bytes) (number_plain w32 s.bytes)
read_plain U64 s n = of_bytes_plain Long s (number_at w64 s.bytes) (number_plain w64 s.bytes)
read_plain I64 s n = of_bytes_plain (λ n. SignedLong (cast_signed w64 n)) s (number_at w64 s.bytes) (number_plain w64 s.bytes)
read_plain New s n = of_bytes_plain Long s (number_at w64 s.bytes) (number_plain w64 s.bytes)
read_plain Float s n = of_bytes_plain Word s (number_at w32 s.bytes) (number_plain w32 s.bytes)
read_plain Text s n = of_bytes_plain Letters s (text_at s.bytes >>= λ t. some_text t.0 t.1) (bound (text_at s.bytes) (λ t. some_text t.0 t.1) (text_plain s.bytes) (λ t. some_text_plain t.0 t.1))
read_plain Nullable s n = of_bytes_plain or_null s (text_at s.bytes) (text_plain s.bytes)
read_plain Handle s n = absurd n
read_plain (Choice name values) s n = of_bytes_plain Word s (choice_at name values s.bytes)
    (bound (number_at w32 s.bytes) (λ n. cond (list_any (nat_eq n.0) values) (Ok n) (Err (InvalidVariant name n.0))) (number_plain w32 s.bytes)
    (λ n. either (λ r. Plain r) (list_any (nat_eq n.0) values) (Ok n) (Err (InvalidVariant name n.0)) tt tt))
read_plain OpenChoice s n = of_bytes_plain Word s (number_at w32 s.bytes) (number_plain w32 s.bytes)

abbrev StopsPlain : {A : Type 0} → Result A ArgumentStop → Type 0
StopsPlain r = MatchResult r (λ _. Unit {0}) (λ e. IsPlain e.0)

stepped : {A B : Type 0} (n : ℕ) (r : Result A Fault) (f : A → Result B ArgumentStop) → Plain r → ((x : A) → StopsPlain (f x)) → StopsPlain (stopping n r then f)
stepped n (Ok x) f h k = k x
stepped n (Err e) f h k = h

consed : (v : Value) (r : Result (List Value × Unread) ArgumentStop) → StopsPlain r → StopsPlain {A = List Value × Unread} (r then λ xs. Ok (v ∷ xs.0, xs.1))
consed v (Ok x) h = tt
consed v (Err e) h = h

all_plain : (ks : List Kind) (s : Unread) → AreNoHandles ks → StopsPlain (all_at ks s)
all_plain [] s h = tt
all_plain (k ∷ ks) s h = stepped s.taken (read k s) (λ x. all_at ks x.1 then λ xs. Ok (x.0 ∷ xs.0, xs.1)) (read_plain k s h.0) (λ x. consed x.0 (all_at ks x.1) (all_plain ks x.1 h.1))

-- ---- a message

-- a refusal for neither
abbrev pub MayCome : Refusal → Type 0
MayCome (Parse fault) = IsPlain fault
MayCome refusal = Unit {0}

abbrev Fine : Option Refusal → Type 0
Fine o = MatchOption o (Unit {0}) MayCome

first_fine : (o : Option Refusal) (rest : List (Option Refusal)) → Fine o → Fine (first rest) → Fine (first (o ∷ rest))
first_fine None rest h k = k
first_fine (Some r) rest h k = h

chosen : (b : Bool) (x y : Option Refusal) → Fine x → Fine y → Fine (cond b x y)
chosen true x y h k = h
chosen false x y h k = k

no_row_fine : (interface : KnownInterface) (m : Raw) (row : Option Row) → Fine (no_row interface m row)
no_row_fine interface m None = tt
no_row_fine interface m (Some row) = tt

stuck_at : (arguments : Arguments) → StopsPlain arguments → Fine (stuck arguments)
stuck_at (Ok x) h = tt
stuck_at (Err stop) h = h

stuck_fine : (m : Raw) (row : Option Row) → IsHandleless row → Fine (stuck (arguments row m))
stuck_fine m None h = tt
stuck_fine m (Some row) h = stuck_at (all_at row.kinds (body_of m)) (all_plain row.kinds (body_of m) h)

bad_id_fine : (before : List Raw) (id : Option ℕ) → Fine (bad_id before id)
bad_id_fine before None = tt
bad_id_fine before (Some id) = chosen (may_give before id) None (Some (Parse (InvalidId id))) tt tt

left_over_fine : (m : Raw) (arguments : Arguments) → Fine (left_over m arguments)
left_over_fine m (Err stop) = tt
left_over_fine m (Ok x) = chosen (eqb (length x.1.bytes) 0) None (Some (Parse (MessageLength (size m + length x.1.bytes) (size m)))) tt tt

-- ---- what the state doesn't allow

handshake_fine : (before : List Raw) (m : Raw) (interface : KnownInterface) → Fine (bad_handshake before m interface)
handshake_fine before m known.Handshake =
    let unfinished : Bool = asks known.Handshake (codes "finish") m && not (all_settled before) in
    let without : Option Refusal = cond unfinished (Some (Shaking handshake.MissingInterface)) None in
    chosen ((asks known.Handshake (codes "name") m && came (codes "name") before) || (asks known.Handshake (codes "context_type") m && came (codes "context_type") before))
    (Some (Shaking handshake.DuplicateEvent)) without tt (chosen unfinished (Some (Shaking handshake.MissingInterface)) None tt tt)
handshake_fine before m interface = tt

callback_fine : (values : Option (List Value)) → Fine (bad_callback values)
callback_fine (Some (Long id ∷ Word version ∷ [])) = chosen (eqb version 1) None (Some (InvalidInterfaceVersion (name_of known.Callback) version)) tt tt
callback_fine values = tt

sync_fine : (m : Raw) (interface : KnownInterface) → Fine (bad_sync m interface)
sync_fine m known.Connection = callback_fine (asked known.Connection (codes "sync") m)
sync_fine m interface = tt

mask_fine : (capabilities : ℕ) (mask : Option ℕ) → Fine (bad_mask capabilities mask)
mask_fine capabilities None = tt
mask_fine capabilities (Some mask) = chosen (eqb (bit_and mask capabilities) mask) None (Some (Request request.InvalidCapabilities)) tt tt

capabilities_fine : (capabilities : ℕ) (m : Raw) (interface : KnownInterface) → Fine (bad_capabilities capabilities m interface)
capabilities_fine capabilities m known.Seat = mask_fine capabilities (asked_mask m)
capabilities_fine capabilities m interface = tt

input_fine : (before : List Raw) (version device : ℕ) (asked : InputEvent) → Fine (bad_touch before version (Some (record { device = device; input = asked })))
input_fine before version device (input_event.TouchDown touch x y) =
    chosen (leb MOST_TOUCHES (length (touches_down before device))) (Some (Request request.TooManyTouches)) (cond (is_down before device touch) (Some (Request request.DuplicatedTouchDown)) None) tt
    (chosen (is_down before device touch) (Some (Request request.DuplicatedTouchDown)) None tt tt)
input_fine before version device (input_event.TouchCancel touch) = chosen (ltb version 2) (Some (InvalidInterfaceVersion (name_of known.Touchscreen) version)) None tt tt
input_fine before version device asked = tt

touch_fine : (before : List Raw) (version : ℕ) (asked : Option DeviceInput) → Fine (bad_touch before version asked)
touch_fine before version None = tt
touch_fine before version (Some i) = input_fine before version i.device i.input

length_fine : (letters : Option (List ℕ)) → Fine (bad_letters letters)
length_fine None = tt
length_fine (Some letters) = chosen (eqb (length letters) 0 || ltb MOST_TEXT_BYTES (length letters)) (Some (Request request.InvalidTextLength)) None tt tt

unfit_fine : (asked : Option InputEvent) → Fine (unfit_text asked)
unfit_fine (Some (input_event.TextUtf8 letters)) = length_fine (Some letters)
unfit_fine asked = tt

text_fine : (m : Raw) (interface : KnownInterface) → Fine (bad_text m interface)
text_fine m interface = unfit_fine (input_to interface m)

-- ---- the verdict

row_fine : (setup : Setup) (before : List Raw) (m : Raw) (e : Entry) (row : Option Row) → IsHandleless row → Fine (refused_row setup before m e row)
row_fine setup before m e row h =
    first_fine _ _ (no_row_fine e.interface m row) (first_fine _ _ (stuck_fine m row h) (first_fine _ _ (bad_id_fine before (announced_id row (arguments row m)))
    (first_fine _ _ (left_over_fine m (arguments row m)) (first_fine _ _ (handshake_fine before m e.interface) (first_fine _ _ (sync_fine m e.interface)
    (first_fine _ _ (capabilities_fine setup.capabilities m e.interface) (first_fine _ _ (touch_fine before e.version (input before m)) (first_fine _ [] (text_fine m e.interface) tt))))))))

at_fine : (setup : Setup) (before : List Raw) (m : Raw) (e : Option Entry) → Fine (refused_at setup before m e)
at_fine setup before m None = chosen (connected before) None (Some (Shaking (handshake.InvalidObject m.id))) tt tt
at_fine setup before m (Some e) = row_fine setup before m e (row_at m.opcode (table false e.interface)) (rows e.interface m.opcode)

refusal_fine : (setup : Setup) (before : List Raw) (m : Raw) → Fine (refusal setup before m)
unfolding refusal
refusal_fine setup before m = at_fine setup before m (object before m.id)

abbrev FineVerdict : Verdict Refusal → Type 0
FineVerdict (RefusedBy r) = MayCome r
FineVerdict v = Unit {0}

verdict_fine : (o : Option Refusal) (last : Bool) → Fine o → FineVerdict (verdict o last)
verdict_fine (Some r) last h = h
verdict_fine None true h = tt
verdict_fine None false h = tt

judge_fine : (setup : Setup) (before : List Raw) (m : Raw) → FineVerdict (judge setup before m)
unfolding judge
judge_fine setup before m = verdict_fine (refusal setup before m) _ (refusal_fine setup before m)

-- ---- a stream

abbrev FineStop : Stop Refusal → Type 0
FineStop (Stopped r) = MayCome r
FineStop stop = Unit {0}

abbrev ReadsFine : Setup → ℕ → Type 0
ReadsFine setup k = (past : List Raw) (bytes : List ℕ) → length bytes < k → FineStop (read_all (judge setup) past bytes).stop

judged_fine : (setup : Setup) (k : ℕ) → ReadsFine setup k → (past : List Raw) (bytes : List ℕ) (m : Raw) (rest : List ℕ) (v : Verdict Refusal) → front bytes ≡ Whole m rest → judge setup past m ≡ v → FineVerdict v → length bytes < suc k → FineStop (read_all (judge setup) past bytes).stop
judged_fine setup k next past bytes m rest Accepted e v h lt =
    let less = shorter bytes m rest e in
    rw (read_accepted (judge setup) past bytes m rest e v) (next (m ∷ past) rest (omega arith))
judged_fine setup k next past bytes m rest Final e v h lt = rw (read_final (judge setup) past bytes m rest e v) tt
judged_fine setup k next past bytes m rest (RefusedBy r) e v h lt = rw (read_refused (judge setup) past bytes m rest r e v) h

front_fine : (setup : Setup) (k : ℕ) → ReadsFine setup k → (past : List Raw) (bytes : List ℕ) (f : Front) → front bytes ≡ f → length bytes < suc k → FineStop (read_all (judge setup) past bytes).stop
front_fine setup k next past bytes Short e lt = rw (read_short (judge setup) past bytes e) tt
front_fine setup k next past bytes (Unlawful n) e lt = rw (read_unlawful (judge setup) past bytes n e) tt
front_fine setup k next past bytes (Whole m rest) e lt = judged_fine setup k next past bytes m rest (judge setup past m) e refl (judge_fine setup past m) lt

reads_fine : (setup : Setup) (k : ℕ) → ReadsFine setup k
reads_fine setup zero past bytes lt = absurd (omega arith)
reads_fine setup (suc k) past bytes lt = front_fine setup k (reads_fine setup k) past bytes (front bytes) refl lt

-- ---- a session

abbrev pub FineAnswer : Answer → Type 0
FineAnswer (Refused r) = MayCome r
FineAnswer answer = Unit {0}

answer_fine : (stop : Stop Refusal) (past : List Raw) → FineStop stop → FineAnswer (answer_of stop past)
answer_fine Waiting past h = either FineAnswer (connected past) End UnexpectedEof tt tt
answer_fine Ended past h = either FineAnswer (ran_out past) IdsExhausted Disconnect tt tt
answer_fine (HeaderLength n) past h = tt
answer_fine (Stopped r) past h = h

over_fine : (setup : Setup) (pieces : List Piece) (m : ℕ) → FineAnswer (over_at setup pieces m).answer
unfolding over_at read_first reading_of
over_fine setup pieces m =
    let bytes : List ℕ = stream (take m pieces) in
    let full : Outcome = record { handled = (read_first setup pieces (m - 1)).past; answer = PieceLimit } in
    let many : Outcome = record { handled = (read_first setup pieces (m - 1)).past; answer = HandleLimit } in
    let stopped : Outcome = record { handled = (read_first setup pieces m).past; answer = answer_at (read_first setup pieces m) } in
    either (λ (o : Outcome). FineAnswer o.answer) (ltb setup.pieces m) full (cond (too_many_handles pieces m) many stopped) tt
    (either (λ (o : Outcome). FineAnswer o.answer) (too_many_handles pieces m) many stopped tt
    (answer_fine (read_all (judge setup) [] bytes).stop (read_all (judge setup) [] bytes).past (reads_fine setup (suc (length bytes)) [] bytes (omega arith))))

by_least : (setup : Setup) (pieces : List Piece) (o : Option ℕ) → least (is_over setup pieces) 1 (length pieces) ≡ o → FineAnswer (session setup pieces).answer
unfolding session
by_least setup pieces (Some m) e = rw (e, session) (over_fine setup pieces m)
by_least setup pieces None e = rw (e, session) (answer_fine Waiting (read_first setup pieces (length pieces)).past tt)

-- no session answers such a refusal
pub session_fine : (setup : Setup) (pieces : List Piece) → FineAnswer (session setup pieces).answer
session_fine setup pieces = by_least setup pieces (least (is_over setup pieces) 1 (length pieces)) refl
