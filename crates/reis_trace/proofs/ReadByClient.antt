-- A fresh client reads the replies up to the first event of a callback, and traces them.
use Rattle.std.proofs.Common.{◌≡◌, ℕ, ◌<◌, ◌^◌, Bool, true, false, cond, ◌||◌, eqb, List, [], ◌∷◌, ◌++◌, reverse, length, drop, Option, Some, None}
use Rattle.std.proofs.Common.{Result, Ok, Err, refl, sym, ap, subst, ◌∙◌, arith}
use Rattle.std.proofs.Common.{append_assoc, inl, inr}
use Rattle.std.specs.Prelude.{is_some, is_none, unwrap_or}
use Rattle.std.specs.Option.{option_or}
use Rattle.std.proofs.lemmas.List.{reverse-append, append-nil}
use Rattle.std.proofs.Math.Seq.{drop-nil}
use Rattle.ei_spec.specs.declared.interface.KnownInterface.{KnownInterface}
use Rattle.ei_spec.specs.declared.interface.KnownInterface.TheVariants as known
use Rattle.ei_spec.specs.declared.handle.Handle.{Handle}
use Rattle.ei_spec.specs.Interface.{Interface, Known, ObjectView}
use Rattle.ei_spec.specs.Value.{Value}
use Rattle.ei_spec.specs.Reading.{Unread, ArgumentStop, all_at}
use Rattle.ei_spec.specs.Rows.{Row}
use Rattle.ei_spec.specs.Message.{Raw, IsLawful, IsBytes, bytes_of, all_bytes}
use Rattle.ei_spec.specs.History.{occurs, joined}
use Rattle.ei_spec.proofs.FrontLaws.{front_again}
use Rattle.ei_spec.proofs.HistoryLaws.{joined_more, occurs_or}
use Rattle.ei_session.specs.Setup.{Setup, connection_id}
use Rattle.ei_session.specs.Arguments.{whole, body_of, row_args}
use Rattle.ei_session.specs.Refusals.{refusal}
use Rattle.ei_session.specs.Events.{replies}
use Rattle.ei_session.specs.Served.{accepted, AreUnrefused}
use Rattle.ei_session.specs.Told.{row_of, tells, told, interface_of, ReadsAs, HasTarget}
use Rattle.ei_session.proofs.Choices.{chosen, some_is, none_some, not_both}
use Rattle.ei_session.proofs.AcceptedLaws.{accepted_unrefused}
use Rattle.ei_session.proofs.NewCallbacks.{callback_new}
use Rattle.ei_session.proofs.Telling.{onto, onto_nothing, interface_at}
use Rattle.ei_session.proofs.TellingAnswers.{reply_told}
use Rattle.ei_backend.specs.Table.{TableView, found, new_table}
use Rattle.ei_backend.specs.Message.{announce}
use Rattle.ei_backend.specs.Backend.{Message, body_read, next}
use Rattle.ei_backend.proofs.NextIs.{gone}
use Rattle.reis_trace.specs.Traced.{event_line, client_with, lines_from, lines_read, traced_bytes, is_done, told_line, traced_line, traced}
use Rattle.reis_trace.proofs.GoingOn.{message_read, gone_read}
use Rattle.reis_trace.proofs.Climbing.{AllClimb, replies_climb}
use Rattle.reis_trace.proofs.ClientTable.{Matches, Stands, first_stands, event_stands}
use Rattle.ei_session.proofs.ReplyBytes.{longest_is}
use Rattle.reis_trace.proofs.ShortReplies.{AllShort, all_short}

-- ---- one event

-- the arguments are read as they are, and nothing is left behind them
record Wholly (read : Result (List Value × Unread) ArgumentStop) (values : List Value) : Type 0 where
  pub left : Unread
  pub is : read ≡ Ok (values, left)
  pub none : eqb (length left.bytes) 0 ≡ true

wholly : (read : Result (List Value × Unread) ArgumentStop) (values : List Value) → whole read ≡ Some values → Wholly read values
unfolding whole
wholly (Err e) values h = absurd (none_some values h)
wholly (Ok x) values h =
    elim (chosen (eqb (length x.1.bytes) 0) _ _ _ h) [
      | inl a ↦ let of : List Value → Result (List Value × Unread) ArgumentStop = λ v. Ok (v, x.1) in
          record { left = x.1; is = ap of (some_is x.0 values a.1); none = a.0 }
      | inr b ↦ absurd (none_some values b.1)
    ]

args_wholly : (row : Row) (x : Raw) (values : List Value) → row_args (Some row) x ≡ Some values → Wholly (all_at row.kinds (body_of x)) values
unfolding row_args
args_wholly row x values h = wholly (all_at row.kinds (body_of x)) values h

-- a body is read by its row
body_is : (o : ObjectView) (k : KnownInterface) (x : Raw) (row : Row) (values : List Value) (t after : TableView) → o.interface ≡ Known k → ReadsAs k x row values → announce row.announces row.kinds values t ≡ Ok after →
    (taken : ℕ) × (body_read true o x.opcode x.body [] t ≡ record { said = Ok values; table = after; taken = taken })
body_is o k x row values t after is r accepted =
    let w = args_wholly row x values r.reads in
    (w.left.taken, rw (is, r.is_row, w.is, accepted, w.none) refl)

both_same : {A B : Type 0} (p : A × B) (a : A) (b : B) → p.0 ≡ a → p.1 ≡ b → ◌≡◌ {A = A × B} p (a, b)
both_same p a b e f = rw (← e, ← f) refl

-- the event at the front is read, and the rest is left
event_next : (o : ObjectView) (k : KnownInterface) (x : Raw) (row : Row) (values : List Value) (t after : TableView) (rest : List ℕ) → IsLawful x → found t x.id ≡ Some o → o.interface ≡ Known k → ReadsAs k x row values → announce row.announces row.kinds values t ≡ Ok after →
    next true (client_with t (bytes_of x ++ rest)) ≡ (Message o x.opcode values, client_with after rest)
event_next o k x row values t after rest lawful at is r accepted =
    let b = body_is o k x row values t after is r accepted in
    let left : drop b.0 [] ≡ drop 0 [] = drop-nil {A = Handle} b.0 in
    rw (front_again x rest lawful, at, b.1, left) refl

event_read : (o : ObjectView) (k : KnownInterface) (x : Raw) (row : Row) (values : List Value) (t after : TableView) (rest : List ℕ) → IsLawful x → found t x.id ≡ Some o → o.interface ≡ Known k → ReadsAs k x row values → announce row.announces row.kinds values t ≡ Ok after →
    lines_read t (bytes_of x ++ rest) ≡ event_line o.interface o.id x.opcode values ++ lines_read after rest
event_read o k x row values t after rest lawful at is r accepted =
    let n = event_next o k x row values t after rest lawful at is r accepted in
    ap (lines_read t) (sym (append-nil (bytes_of x ++ rest)))
    ∙ message_read (client_with t (bytes_of x ++ rest)) (client_with after rest) o x.opcode values [] refl n
    ∙ ap (λ l. event_line o.interface o.id x.opcode values ++ lines_read after l) (append-nil rest)

-- an event to no object
unknown_read : (t : TableView) (x : Raw) (rest : List ℕ) → IsLawful x → found t x.id ≡ None → lines_read t (bytes_of x ++ rest) ≡ []
unknown_read t x rest lawful none =
    ap (lines_read t) (sym (append-nil (bytes_of x ++ rest)))
    ∙ gone_read (client_with t (bytes_of x ++ rest)) _ x.id [] refl (gone true x rest (client_with t (bytes_of x ++ rest)) lawful refl none)

nothing_more : (t : TableView) → lines_read t [] ≡ []
unfolding lines_read lines_from
nothing_more t = refl

-- ---- what is known of each event

-- an event reads as its row, and a callback has an id of eight bytes
pub record IsReadable (earlier : List Raw) (x : Raw) : Type 0 where
  pub row : Row
  pub values : List Value
  pub reads : ReadsAs (interface_of earlier x) x row values
  pub own : told earlier x.id ≡ None → x.id < 2 ^ 64

abbrev pub AllReadable : List Raw → List Raw → Type 0
AllReadable earlier [] = Unit {0}
AllReadable earlier (x ∷ xs) = IsReadable earlier x × AllReadable (x ∷ earlier) xs

some_of : (a b : Option KnownInterface) → is_some a ≡ true → is_some (option_or a b) ≡ true
some_of None b h = absurd cc
some_of (Some k) b h = refl

some_after : (a b : Option KnownInterface) → is_some b ≡ true → is_some (option_or a b) ≡ true
some_after None b h = h
some_after (Some k) b h = refl

-- what was announced is told
pub announced_told : (later : List Raw) (event : Raw) (before : List Raw) (id : ℕ) → is_some (tells (interface_of before event) event id) ≡ true → is_some (told (later ++ (event ∷ before)) id) ≡ true
unfolding told
announced_told [] event before id h = some_of (tells (interface_of before event) event id) (told before id) h
announced_told (y ∷ later) event before id h =
    some_after (tells (interface_of (later ++ (event ∷ before)) y) y id) (told (later ++ (event ∷ before)) id) (announced_told later event before id h)

pub unrefused_at : (setup : Setup) (more : List Raw) (m : Raw) (before : List Raw) → AreUnrefused setup (more ++ (m ∷ before)) → refusal setup before m ≡ None
unfolding AreUnrefused
unrefused_at setup [] m before h = h.0
unrefused_at setup (y ∷ more) m before h = unrefused_at setup more m before h.1

own_id : (setup : Setup) (past earlier : List Raw) (x : Raw) → AreUnrefused setup past → HasTarget setup past earlier x → told earlier x.id ≡ None → x.id < 2 ^ 64
own_id setup past earlier x un (inl zero) none = omega (arith, zero)
own_id setup past earlier x un (inr (inl a)) none =
    let some : is_some (told earlier x.id) ≡ true = ap (λ (l : List Raw). is_some (told l x.id)) a.place ∙ announced_told a.later a.event a.before x.id a.announced in
    absurd (not_both (is_some (told earlier x.id)) some (ap is_some none))
own_id setup past earlier x un (inr (inr c)) none =
    let refused = unrefused_at setup c.more c.sync c.before (subst (AreUnrefused setup) c.place un) in
    omega (arith, (callback_new setup c.before c.sync x.id refused c.callback).high)

turn_one : (earlier : List Raw) (x : Raw) (xs : List Raw) → reverse earlier ++ (x ∷ xs) ≡ reverse (x ∷ earlier) ++ xs
turn_one earlier x xs = sym (append_assoc (reverse earlier) (x ∷ []) xs) ∙ ap (λ (l : List Raw). l ++ xs) (sym (reverse-append (x ∷ []) earlier))

module _ (setup : Setup) (stream : List ℕ) (small : setup.serial < 2 ^ 32) (bytes : IsBytes stream) where
  pub readable : (xs earlier : List Raw) → replies setup (accepted setup stream) ≡ reverse earlier ++ xs → AllReadable earlier xs
  readable [] earlier place = tt
  readable (x ∷ xs) earlier place =
      let told = reply_told setup stream earlier x (record { serial = small; bytes = bytes; later = xs; place = place }) in (
        record { row = told.row; values = told.values; reads = told.reads; own = λ none. own_id setup (accepted setup stream) earlier x (accepted_unrefused setup stream bytes) told.target none },
        readable xs (x ∷ earlier) (place ∙ turn_one earlier x xs),
      )

-- ---- all of them

-- from the first event of a callback on nothing is traced
nothing_after : (xs earlier : List Raw) → occurs is_done earlier ≡ true → joined traced_line (onto xs earlier) ≡ joined traced_line earlier
nothing_after [] earlier done = refl
nothing_after (x ∷ xs) earlier done =
    let now : occurs is_done (x ∷ earlier) ≡ true = occurs_or is_done earlier x ∙ rw done (by (is_done earlier x)) in
    nothing_after xs (x ∷ earlier) now ∙ joined_more traced_line earlier x
    ∙ ap (λ (b : Bool). joined traced_line earlier ++ cond b [] (told_line earlier x)) now ∙ append-nil (joined traced_line earlier)
  where
    by : (b : Bool) → (b || true) ≡ true
    by true = refl
    by false = refl

lines_of : (earlier : List Raw) (x : Raw) (k : KnownInterface) (row : Row) (values : List Value) → interface_of earlier x ≡ k → ReadsAs k x row values → told_line earlier x ≡ event_line (Known k) x.id x.opcode values
lines_of earlier x k row values at r =
    ap (λ (i : KnownInterface). event_line (Known i) x.id x.opcode (unwrap_or (row_args (row_of i x) x) [])) at
    ∙ ap (λ (o : Option Row). event_line (Known k) x.id x.opcode (unwrap_or (row_args o x) [])) r.is_row
    ∙ ap (λ (o : Option (List Value)). event_line (Known k) x.id x.opcode (unwrap_or o [])) r.reads

same_kind : (k j : KnownInterface) (o : Option KnownInterface) → o ≡ Some k → o ≡ Some j → k ≡ j
same_kind k j o a b = some_is k j (sym a ∙ b)

matches_some : (id : ℕ) (o : Option ObjectView) (k : KnownInterface) → Matches id o (Some k) → (x : ObjectView) × (o ≡ Some x) × (x.interface ≡ Known k) × (x.id ≡ id)
matches_some id None k h = absurd h
matches_some id (Some x) k h = (x, refl, h.0, h.1)

matches_none : (id : ℕ) (o : Option ObjectView) → Matches id o None → o ≡ None
matches_none id None h = refl
matches_none id (Some x) h = absurd h

all_traced : (xs earlier : List Raw) (from to : ℕ) (t : TableView) → Stands t earlier from → AllClimb from xs to → AllReadable earlier xs → AllShort xs → occurs is_done earlier ≡ false →
    joined traced_line (onto xs earlier) ≡ joined traced_line earlier ++ lines_read t (all_bytes xs)
all_traced [] earlier from to t s climb readable short going = sym (ap (λ (l : List ℕ). joined traced_line earlier ++ l) (nothing_more t) ∙ append-nil (joined traced_line earlier))
all_traced (x ∷ xs) earlier from to t s climb readable short going =
    by (λ after stands now. all_traced xs (x ∷ earlier) climb.0 to after stands climb.2 readable.1 short.1 now) (told earlier x.id) refl
  where
    lawful : x.id < 2 ^ 64 → IsLawful x
    lawful lt = record { id = lt; opcode = climb.1.opcode; size = omega (arith, short.0, longest_is) }

    by : ((after : TableView) → Stands after (x ∷ earlier) climb.0 → occurs is_done (x ∷ earlier) ≡ false → joined traced_line (onto xs (x ∷ earlier)) ≡ joined traced_line (x ∷ earlier) ++ lines_read after (all_bytes xs)) →
        (o : Option KnownInterface) → told earlier x.id ≡ o → joined traced_line (onto xs (x ∷ earlier)) ≡ joined traced_line earlier ++ lines_read t (bytes_of x ++ all_bytes xs)
    by later None e =
        let now : occurs is_done (x ∷ earlier) ≡ true = occurs_or is_done earlier x ∙ ap (λ (o : Option KnownInterface). is_none o || occurs is_done earlier) e in
        let none = matches_none x.id (found t x.id) (subst (λ (o : Option KnownInterface). Matches x.id (found t x.id) o) e (s.has x.id)) in
        nothing_after xs (x ∷ earlier) now ∙ joined_more traced_line earlier x
        ∙ ap (λ (b : Bool). joined traced_line earlier ++ cond b [] (told_line earlier x)) now
        ∙ ap (λ (l : List ℕ). joined traced_line earlier ++ l) (sym (unknown_read t x (all_bytes xs) (lawful (readable.0.own e)) none))
    by later (Some k) e =
        let now : occurs is_done (x ∷ earlier) ≡ false = occurs_or is_done earlier x ∙ ap (λ (o : Option KnownInterface). is_none o || occurs is_done earlier) e ∙ going in
        let at : interface_of earlier x ≡ k = interface_at earlier x x.id k refl e in
        let row = readable.0.row in
        let values = readable.0.values in
        let r : ReadsAs k x row values = subst (λ (i : KnownInterface). ReadsAs i x row values) at readable.0.reads in
        let object = matches_some x.id (found t x.id) k (subst (λ (o : Option KnownInterface). Matches x.id (found t x.id) o) e (s.has x.id)) in
        let first : x.id ≡ 0 → k ≡ known.Handshake = λ z. same_kind k known.Handshake (told earlier x.id) e (ap (told earlier) z ∙ s.zero) in
        let only : k ≡ known.Handshake → x.id ≡ 0 = λ h. s.only x.id (e ∙ ap (λ (i : KnownInterface). Some i) h) in
        let next = event_stands t earlier x k row values from climb.0 at r s (climb.1.rises k row values first only r) in
        let line : traced_line earlier x ≡ event_line object.0.interface object.0.id x.opcode values =
        ap (λ (b : Bool). cond b [] (told_line earlier x)) now ∙ lines_of earlier x k row values at r
        ∙ ap (λ (i : Interface). event_line i x.id x.opcode values) (sym object.2) ∙ ap (λ (n : ℕ). event_line object.0.interface n x.opcode values) (sym object.3) in
        later next.after next.stands now
        ∙ ap (λ (l : List ℕ). l ++ lines_read next.after (all_bytes xs)) (joined_more traced_line earlier x ∙ ap (λ (l : List ℕ). joined traced_line earlier ++ l) line)
        ∙ append_assoc (joined traced_line earlier) (event_line object.0.interface object.0.id x.opcode values) (lines_read next.after (all_bytes xs))
        ∙ ap (λ (l : List ℕ). joined traced_line earlier ++ l) (sym (event_read object.0 k x row values t next.after (all_bytes xs) (lawful (s.small x.id k e)) object.1 object.2 r next.accepted))

none_done : occurs is_done [] ≡ false
unfolding occurs
none_done = refl

no_line : joined traced_line [] ≡ []
unfolding joined
no_line = refl

pub traced_replies : (setup : Setup) (stream : List ℕ) → setup.serial < 2 ^ 32 → IsBytes stream → traced_bytes (all_bytes (replies setup (accepted setup stream))) ≡ traced setup (accepted setup stream)
unfolding traced
traced_replies setup stream small bytes =
    let all = replies setup (accepted setup stream) in
    sym (ap (joined traced_line) (sym (onto_nothing all))
    ∙ all_traced all [] connection_id _ (new_table true 1) first_stands (replies_climb setup small (accepted setup stream)) (readable setup stream small bytes all [] refl) (all_short setup (accepted setup stream)) none_done
    ∙ ap (λ (l : List ℕ). l ++ traced_bytes (all_bytes all)) no_line)
