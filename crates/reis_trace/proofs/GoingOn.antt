-- What a client traces of some bytes stays, whatever comes behind them.
use Rattle.std.proofs.Common.{◌≡◌, ℕ, zero, suc, ◌-◌, ◌<◌, ◌≤◌, true, List, [], ◌∷◌, ◌++◌, length, drop, Option, Some, None, Result, Ok, Err, refl}
use Rattle.std.proofs.Common.{sym, ap, subst, ◌∙◌, arith}
use Rattle.std.proofs.Math.Seq.{drop-nil}
use Rattle.ei_spec.specs.declared.handle.Handle.{Handle}
use Rattle.ei_spec.specs.Value.{Value}
use Rattle.ei_spec.specs.Reading.{Fault}
use Rattle.ei_spec.specs.Interface.{ObjectView}
use Rattle.ei_spec.specs.Message.{Raw, Front, Short, Unlawful, Whole, front}
use Rattle.ei_spec.proofs.FrontLaws.{shorter, whole_more, unlawful_more}
use Rattle.ei_spec.proofs.Cuts.{front_none}
use Rattle.ei_backend.specs.Table.{found}
use Rattle.ei_backend.specs.Backend.{BackendView, BodyOutcome, FrontAnswer, Waits, Refused, Gone, Message, said_of, of_target, of_front, body_read, next}
use Rattle.reis_trace.specs.Traced.{event_line, client_with, lines_from, lines_read}

-- ---- as many answers as there are bytes are enough

pub no_answer : (n : ℕ) (c : BackendView) → lines_from n Waits c ≡ []
unfolding lines_from
no_answer zero c = refl
no_answer (suc n) c = refl

pub refused_none : (n : ℕ) (f : Fault) (c : BackendView) → lines_from n (Refused f) c ≡ []
unfolding lines_from
refused_none zero f c = refl
refused_none (suc n) f c = refl

pub gone_none : (n id : ℕ) (c : BackendView) → lines_from n (Gone id) c ≡ []
unfolding lines_from
gone_none zero id c = refl
gone_none (suc n) id c = refl

pub one_line : (n : ℕ) (target : ObjectView) (opcode : ℕ) (values : List Value) (c : BackendView) →
    lines_from (suc n) (Message target opcode values) c ≡ event_line target.interface target.id opcode values ++ lines_from n (next true c).0 (next true c).1
unfolding lines_from
one_line n target opcode values c = refl

target_shorter : (b : BackendView) (o : Option ObjectView) (m : Raw) (rest : List ℕ) → length rest < length b.unread → length (of_target true b o m rest).1.unread < length b.unread
target_shorter b None m rest lt = lt
target_shorter b (Some o) m rest lt = lt

-- a message takes bytes
pub message_shorter : (b : BackendView) (target : ObjectView) (opcode : ℕ) (values : List Value) → (next true b).0 ≡ Message target opcode values → length (next true b).1.unread < length b.unread
message_shorter b target opcode values h = by (front b.unread) refl h
  where
    by : (f : Front) → front b.unread ≡ f → (of_front true b f).0 ≡ Message target opcode values → length (of_front true b f).1.unread < length b.unread
    by Short e h = absurd cc
    by (Unlawful n) e h = absurd cc
    by (Whole m rest) e h = target_shorter b (found b.table m.id) m rest (shorter b.unread m rest e)

empty : (bytes : List ℕ) → length bytes ≤ 0 → bytes ≡ []
empty [] le = refl
empty (byte ∷ bytes) le = absurd (omega (arith, le))

pub waits_at : (b : BackendView) → front b.unread ≡ Short → (n : ℕ) → lines_from n (next true b).0 (next true b).1 ≡ []
waits_at b short n = rw short (no_answer n b)

pub enough : (n k : ℕ) (b : BackendView) → length b.unread ≤ n → length b.unread ≤ k → lines_from n (next true b).0 (next true b).1 ≡ lines_from k (next true b).0 (next true b).1
enough zero k b low high =
    let short : front b.unread ≡ Short = ap front (empty b.unread low) ∙ front_none in
    waits_at b short 0 ∙ sym (waits_at b short k)
enough (suc n) zero b low high =
    let short : front b.unread ≡ Short = ap front (empty b.unread high) ∙ front_none in
    waits_at b short (suc n) ∙ sym (waits_at b short 0)
enough (suc n) (suc k) b low high = by (λ c lo hi. enough n k c lo hi) (next true b).0 refl
  where
    by : ((c : BackendView) → length c.unread ≤ n → length c.unread ≤ k → lines_from n (next true c).0 (next true c).1 ≡ lines_from k (next true c).0 (next true c).1) → (a : FrontAnswer) → (next true b).0 ≡ a → lines_from (suc n) a (next true b).1 ≡ lines_from (suc k) a (next true b).1
    by step Waits e = no_answer (suc n) (next true b).1 ∙ sym (no_answer (suc k) (next true b).1)
    by step (Refused f) e = refused_none (suc n) f (next true b).1 ∙ sym (refused_none (suc k) f (next true b).1)
    by step (Gone id) e = gone_none (suc n) id (next true b).1 ∙ sym (gone_none (suc k) id (next true b).1)
    by step (Message target opcode values) e =
        let lt = message_shorter b target opcode values e in
        let c = (next true b).1 in
        one_line n target opcode values c
        ∙ ap (λ l. event_line target.interface target.id opcode values ++ l) (step c (omega (arith, lt, low)) (omega (arith, lt, high)))
        ∙ sym (one_line k target opcode values c)

-- ---- more bytes behind

-- a client with these objects, and more bytes behind those that are unread
abbrev pub ahead : BackendView → List ℕ → BackendView
ahead b more = client_with b.table (b.unread ++ more)

-- with more bytes behind, the answer is the same, and they are behind what is left
pub record Ahead (b : BackendView) (more : List ℕ) (was now : FrontAnswer × BackendView) : Type 0 where
  pub answer : now.0 ≡ was.0
  pub client : now.1 ≡ ahead was.1 more
  pub handles : was.1.handles ≡ []
  pub closed : was.1.closed ≡ b.closed

target_ahead : (b : BackendView) (more : List ℕ) (o : Option ObjectView) (m : Raw) (rest : List ℕ) → b.handles ≡ [] →
    Ahead b more (of_target true b o m rest) (of_target true (ahead b more) o m (rest ++ more))
target_ahead b more None m rest none = record { answer = refl; client = refl; handles = none; closed = refl }
target_ahead b more (Some o) m rest none =
    let body : List Handle → BodyOutcome = λ hs. body_read true o m.opcode m.body hs b.table in
    let with : List Handle → List Handle → BackendView = λ hs left. record (client_with (body hs).table (rest ++ more)) { handles = left } in
    record {
      answer = ap (λ hs. said_of o m.opcode (body hs).said) (sym none);
      client = ap (λ left. with [] left) (drop-nil (body []).taken) ∙ ap (λ hs. with hs []) (sym none);
      handles = ap (λ hs. drop (body b.handles).taken hs) none ∙ drop-nil (body b.handles).taken;
      closed = refl;
    }

-- unless no message is whole yet
pub next_ahead : (b : BackendView) (more : List ℕ) → b.handles ≡ [] → (front b.unread ≡ Short → ⊥) → Ahead b more (next true b) (next true (ahead b more))
next_ahead b more none some = by (front b.unread) refl
  where
    by : (f : Front) → front b.unread ≡ f → Ahead b more (of_front true b f) (next true (ahead b more))
    by Short e = absurd (some e)
    by (Unlawful n) e = rw (unlawful_more b.unread more n e) (record { answer = refl; client = refl; handles = none; closed = refl })
    by (Whole m rest) e = rw (whole_more b.unread more m rest e) (target_ahead b more (found b.table m.id) m rest none)

-- ---- what a client traces

answers : (b : BackendView) (a : FrontAnswer) → (next true b).0 ≡ a → (a ≡ Waits → ⊥) → front b.unread ≡ Short → ⊥
answers b a e not short = not (sym e ∙ ap (λ f. (of_front true b f).0) short)

-- a message: its line, and then those of what is behind it
pub message_read : (b c : BackendView) (target : ObjectView) (opcode : ℕ) (values : List Value) (more : List ℕ) → b.handles ≡ [] → next true b ≡ (Message target opcode values, c) →
    lines_read b.table (b.unread ++ more) ≡ event_line target.interface target.id opcode values ++ lines_read c.table (c.unread ++ more)
unfolding lines_read
message_read b c target opcode values more none is =
    let said : (next true b).0 ≡ Message target opcode values = ap (λ (p : FrontAnswer × BackendView). p.0) is in
    let left : (next true b).1 ≡ c = ap (λ (p : FrontAnswer × BackendView). p.1) is in
    let a = next_ahead b more none (answers b (Message target opcode values) said (λ e. cc)) in
    let answer : (next true (ahead b more)).0 ≡ Message target opcode values = a.answer ∙ said in
    let client : (next true (ahead b more)).1 ≡ ahead c more = a.client ∙ ap (λ x. ahead x more) left in
    let lt = message_shorter (ahead b more) target opcode values answer in
    let short : length (ahead c more).unread < length (b.unread ++ more) = subst (λ (x : BackendView). length x.unread < length (b.unread ++ more)) client lt in
    let n = length (b.unread ++ more) - 1 in
    let count : length (b.unread ++ more) ≡ suc n = omega (arith, short) in
    ap (λ k. lines_from k (next true (ahead b more)).0 (next true (ahead b more)).1) count
    ∙ ap (λ x. lines_from (suc n) x (next true (ahead b more)).1) answer
    ∙ ap (λ x. lines_from (suc n) (Message target opcode values) x) client
    ∙ one_line n target opcode values (ahead c more)
    ∙ ap (λ l. event_line target.interface target.id opcode values ++ l) (enough n (length (c.unread ++ more)) (ahead c more) (omega (arith, short, count)) (omega arith))

pub message_leaves : (b c : BackendView) (target : ObjectView) (opcode : ℕ) (values : List Value) → b.handles ≡ [] → next true b ≡ (Message target opcode values, c) → (c.handles ≡ []) × (c.closed ≡ b.closed)
message_leaves b c target opcode values none is =
    let said : (next true b).0 ≡ Message target opcode values = ap (λ (p : FrontAnswer × BackendView). p.0) is in
    let left : (next true b).1 ≡ c = ap (λ (p : FrontAnswer × BackendView). p.1) is in
    let a = next_ahead b [] none (answers b (Message target opcode values) said (λ e. cc)) in
    subst (λ (x : BackendView). (x.handles ≡ []) × (x.closed ≡ b.closed)) left (a.handles, a.closed)

-- a message that goes to no object, or is refused
pub gone_read : (b c : BackendView) (id : ℕ) (more : List ℕ) → b.handles ≡ [] → next true b ≡ (Gone id, c) → lines_read b.table (b.unread ++ more) ≡ []
unfolding lines_read
gone_read b c id more none is =
    let said : (next true b).0 ≡ Gone id = ap (λ (p : FrontAnswer × BackendView). p.0) is in
    let a = next_ahead b more none (answers b (Gone id) said (λ e. cc)) in
    let n = length (b.unread ++ more) in
    ap (λ x. lines_from n x (next true (ahead b more)).1) (a.answer ∙ said) ∙ gone_none n id (next true (ahead b more)).1

pub refused_read : (b c : BackendView) (f : Fault) (more : List ℕ) → b.handles ≡ [] → next true b ≡ (Refused f, c) → lines_read b.table (b.unread ++ more) ≡ []
unfolding lines_read
refused_read b c f more none is =
    let said : (next true b).0 ≡ Refused f = ap (λ (p : FrontAnswer × BackendView). p.0) is in
    let a = next_ahead b more none (answers b (Refused f) said (λ e. cc)) in
    let n = length (b.unread ++ more) in
    ap (λ x. lines_from n x (next true (ahead b more)).1) (a.answer ∙ said) ∙ refused_none n f (next true (ahead b more)).1

said_something : (target : ObjectView) (opcode : ℕ) (said : Result (List Value) Fault) → said_of target opcode said ≡ Waits → ⊥
said_something target opcode (Ok values) e = cc
said_something target opcode (Err f) e = cc

target_answers : (b c : BackendView) (o : Option ObjectView) (m : Raw) (rest : List ℕ) → (of_target true b o m rest).0 ≡ Waits → ⊥
target_answers b c None m rest e = cc
target_answers b c (Some o) m rest e = said_something o m.opcode (body_read true o m.opcode m.body b.handles b.table).said e

waiting : (b : BackendView) (f : Front) → (of_front true b f).0 ≡ Waits → (f ≡ Short) × ((of_front true b f).1 ≡ b)
waiting b Short e = (refl, refl)
waiting b (Unlawful n) e = absurd cc
waiting b (Whole m rest) e = absurd (target_answers b b (found b.table m.id) m rest e)

-- no message is whole
pub nothing_read : (b c : BackendView) → next true b ≡ (Waits, c) → (c ≡ b) × (lines_read b.table b.unread ≡ [])
unfolding lines_read
nothing_read b c is =
    let w = waiting b (front b.unread) (ap (λ (p : FrontAnswer × BackendView). p.0) is) in
    (sym (ap (λ (p : FrontAnswer × BackendView). p.1) is) ∙ w.1, waits_at (client_with b.table b.unread) w.0 (length b.unread))
