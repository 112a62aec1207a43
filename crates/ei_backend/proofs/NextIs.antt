-- What the next message is, where the front of what is unread is known.
use Rattle.std.proofs.Common.{◌≡◌, ℕ, ◌<◌, ◌≤◌, Bool, List, [], ◌++◌, length, drop, Option, Some, None, Result, Ok, Err, refl, ap, ◌∙◌, arith}
use Rattle.std.specs.List.{flat_map}
use Rattle.std.proofs.Math.Seq.{drop-append_seam}
use Rattle.ei_spec.specs.declared.handle.Handle.{Handle}
use Rattle.ei_spec.specs.declared.interface.KnownInterface.{KnownInterface}
use Rattle.ei_spec.specs.Value.{Value, written, handles_of}
use Rattle.ei_spec.specs.Arguments.{AreOf}
use Rattle.ei_spec.specs.Interface.{ObjectView}
use Rattle.ei_spec.specs.Rows.{Row}
use Rattle.ei_spec.specs.Reading.{Fault}
use Rattle.ei_spec.specs.Message.{Raw, IsLawful, message, bytes_of, Front, Short, Unlawful, Whole, front}
use Rattle.ei_spec.specs.Piece.{Piece}
use Rattle.ei_spec.proofs.FrontLaws.{front_again}
use Rattle.ei_spec.proofs.WrittenRows.{all_read}
use Rattle.ei_spec.proofs.Cuts.{short_below}
use Rattle.ei_backend.specs.Table.{TableView, found}
use Rattle.ei_backend.specs.Message.{announce, Parsed, row_read}
use Rattle.ei_backend.specs.Step.{reading}
use Rattle.ei_backend.specs.Next.{IsOfRow, HasAtFront}
use Rattle.ei_backend.specs.Backend.{BackendView, FrontAnswer, Waits, Gone, Message, BodyOutcome, said_of, of_target, of_front, body_read, next}

-- ---- a message that is read

abbrev read_of : List Value → List Handle → TableView → Parsed
read_of values hs u = record { values = values; table = u; unread = record { bytes = []; handles = hs; taken = length (flat_map handles_of values) } }

row_again : (r : Row) (values : List Value) (hs more : List Handle) (t u : TableView) → AreOf r.kinds values → length (flat_map written values) ≤ 1048576 → hs ≡ flat_map handles_of values ++ more → announce r.announces r.kinds values t ≡ Ok u →
    row_read r (record { bytes = flat_map written values; handles = hs; taken = 0 }) t ≡ Ok (read_of values hs u)
row_again r values hs more t u are short e accepted =
    let values_read = all_read r.kinds values hs more 0 (length (flat_map handles_of values)) are short e (omega arith) in
    rw (values_read, accepted) refl

pub reads : (events : Bool) (interface : KnownInterface) (opcode : ℕ) (r : Row) (target : ObjectView) (id : ℕ) (values : List Value) (rest : Piece) (after : TableView) (b : BackendView) → IsOfRow events interface opcode r id values → HasAtFront interface opcode r target id values rest after b →
    next events b ≡ (Message target opcode values, reading rest.bytes rest.handles after b)
reads events interface opcode r target id values rest after b m has =
    let raw = message id opcode values in
    let whole : front b.unread ≡ Whole raw rest.bytes = ap front has.bytes ∙ front_again raw rest.bytes m.lawful in
    let short : length (flat_map written values) ≤ 1048576 = omega (arith, m.lawful.size) in
    let body = row_again r values b.handles rest.handles b.table after m.kinds short has.handles has.accepted in
    let left : drop (length (flat_map handles_of values)) b.handles ≡ rest.handles = ap (λ hs. drop (length (flat_map handles_of values)) hs) has.handles ∙ drop-append_seam (flat_map handles_of values) rest.handles in
    rw (whole, has.live, has.is_one, m.row, body, left) refl

-- ---- a message whose target is gone

pub gone : (events : Bool) (m : Raw) (rest : List ℕ) (b : BackendView) → IsLawful m → b.unread ≡ bytes_of m ++ rest → found b.table m.id ≡ None → next events b ≡ (Gone m.id, record b { unread = rest })
gone events m rest b lawful bytes none =
    let whole : front b.unread ≡ Whole m rest = ap front bytes ∙ front_again m rest lawful in
    rw (whole, none) refl

-- ---- no message

pub waits : (events : Bool) (b : BackendView) → front b.unread ≡ Short → next events b ≡ (Waits, b)
waits events b short = rw short refl

answer_of : (a c : FrontAnswer) (x y : BackendView) → ◌≡◌ {A = FrontAnswer × BackendView} (a, x) (c, y) → a ≡ c
answer_of a c x y e = ap (λ (p : FrontAnswer × BackendView). p.0) e

said_something : (target : ObjectView) (opcode : ℕ) (said : Result (List Value) Fault) → said_of target opcode said ≡ Waits → ⊥
said_something target opcode (Ok values) e = cc
said_something target opcode (Err f) e = cc

target_answers : (events : Bool) (b c : BackendView) (target : Option ObjectView) (m : Raw) (rest : List ℕ) → of_target events b target m rest ≡ (Waits, c) → ⊥
target_answers events b c None m rest e = let f = answer_of (Gone m.id) Waits (record b { unread = rest }) c e in cc
target_answers events b c (Some target) m rest e =
    let o : BodyOutcome = body_read events target m.opcode m.body b.handles b.table in
    said_something target m.opcode o.said (ap (λ (p : FrontAnswer × BackendView). p.0) e)

waits_at : (events : Bool) (b c : BackendView) (f : Front) → of_front events b f ≡ (Waits, c) → f ≡ Short
waits_at events b c Short e = refl
waits_at events b c (Unlawful n) e = absurd (let f = ap (λ (p : FrontAnswer × BackendView). p.0) e in cc)
waits_at events b c (Whole m rest) e = absurd (target_answers events b c (found b.table m.id) m rest e)

-- where nothing whole waits, fewer bytes than the longest message has are unread
pub few_left : (events : Bool) (b c : BackendView) → next events b ≡ (Waits, c) → length b.unread < 1048576
few_left events b c e = short_below b.unread (waits_at events b c (front b.unread) e)

waits_stay : (events : Bool) (b c : BackendView) (f : Front) → f ≡ Short → of_front events b f ≡ (Waits, c) → b ≡ c
waits_stay events b c Short s e = ap (λ (p : FrontAnswer × BackendView). p.1) e
waits_stay events b c (Unlawful n) s e = absurd cc
waits_stay events b c (Whole m rest) s e = absurd cc

-- and so it is behind the call
pub few_stay : (events : Bool) (b c : BackendView) → next events b ≡ (Waits, c) → length c.unread < 1048576
few_stay events b c e =
    let same : b ≡ c = waits_stay events b c (front b.unread) (waits_at events b c (front b.unread) e) e in
    rw same at (few_left events b c e)
