-- Where the handshake waits, and where a message is refused.
use Rattle.std.proofs.Common.{◌≡◌, inl, inr, ℕ, true, List, refl, sym, ap, subst, ◌∙◌}
use Rattle.ei_spec.specs.Message.{Raw, Short, Unlawful, Whole, front}
use Rattle.ei_spec.specs.Reading.{Fault, HeaderLength as LengthFault}
use Rattle.ei_spec.specs.Interface.{ObjectView}
use Rattle.ei_spec.specs.Value.{Value}
use Rattle.ei_spec.specs.Stream.{Stop, Waiting, HeaderLength, Refusal, Refused, reading, read}
use Rattle.ei_spec.proofs.GoesOn.{read_short, read_unlawful, read_refused}
use Rattle.ei_types.specs.declared.error.HandshakeError.TheVariants as handshake
use Rattle.ei_backend.specs.Table.{found}
use Rattle.ei_backend.specs.Backend.{BackendView, FrontAnswer, Waits, Gone, Message, Refused as Unread, next}
use Rattle.ei_greeting.specs.Shaking.{Greeter, Trouble, Parse, Handshake, judge, judged, is_long, shake_of}
use Rattle.ei_greeting.specs.Opening.{reading_of, stopped_at}
use Rattle.ei_blocking.specs.Still.{still}
use Rattle.ei_blocking.specs.Steps.{StopsAt}
use Rattle.ei_blocking.proofs.AnyMemory.{next_same}
use Rattle.ei_blocking.proofs.Fronts as fronts

-- the reading stops at a refused message, which is taken out
pub record StopsRefused (g : Greeter) (b : BackendView) (past : List Raw) (rest : List ℕ) (trouble : Trouble) (left : BackendView) : Type 0 where
  pub stop : Stop Trouble
  pub stops : reading_of g (found b.table) b ≡ reading past rest stop
  pub so : StopsAt stop trouble
  pub stands : still left ≡ still (next true (stopped_at b rest)).1

module _ (g : Greeter) (b : BackendView) (past : List Raw) (now left : BackendView) (answer : FrontAnswer)
    (goes : reading_of g (found b.table) b ≡ read (judge g (found b.table) b) past now.unread) (at : still now ≡ still (stopped_at b now.unread)) (answers : next true now ≡ (answer, left)) where
  front_is : fronts.Stands g b past now.unread answer
  front_is = subst (λ (a : FrontAnswer). fronts.Stands g b past now.unread a)
      (sym (next_same (stopped_at b now.unread) now at).answer ∙ ap (λ (x : FrontAnswer × BackendView). x.0) answers) (fronts.stands g b past now.unread)

  left_is : still left ≡ still (next true (stopped_at b now.unread)).1
  left_is = ap (λ (x : FrontAnswer × BackendView). still x.1) (sym answers) ∙ (next_same (stopped_at b now.unread) now at).stands

  -- a whole message that is refused
  of_whole : (m : Raw) (after : List ℕ) (trouble : Trouble) → front now.unread ≡ Whole m after → judge g (found b.table) b past m ≡ Refused trouble → StopsRefused g b past now.unread trouble left
  of_whole m after trouble w j = record {
    stop = Refusal trouble;
    stops = goes ∙ read_refused (judge g (found b.table) b) past now.unread m after trouble w j;
    so = refl;
    stands = left_is;
  }

  of_length : (n : ℕ) → front now.unread ≡ Unlawful n → StopsRefused g b past now.unread (Parse (LengthFault n)) left
  of_length n u = record {
    stop = HeaderLength n;
    stops = goes ∙ read_unlawful (judge g (found b.table) b) past now.unread n u;
    so = refl;
    stands = left_is;
  }

-- no more messages are whole
pub waits_at : (g : Greeter) (b : BackendView) (past : List Raw) (now left : BackendView) → reading_of g (found b.table) b ≡ read (judge g (found b.table) b) past now.unread →
    still now ≡ still (stopped_at b now.unread) → next true now ≡ (Waits, left) → (reading_of g (found b.table) b ≡ reading past now.unread Waiting) × (left ≡ now)
waits_at g b past now left goes at answers =
    let short : front now.unread ≡ Short = front_is g b past now left Waits goes at answers in
    let same : next true now ≡ (Waits, now) = rw short refl in
    (goes ∙ read_short (judge g (found b.table) b) past now.unread short, ap (λ (x : FrontAnswer × BackendView). x.1) (sym answers ∙ same))

-- it can't be read
pub unread_at : (g : Greeter) (b : BackendView) (past : List Raw) (now left : BackendView) (fault : Fault) → reading_of g (found b.table) b ≡ read (judge g (found b.table) b) past now.unread →
    still now ≡ still (stopped_at b now.unread) → next true now ≡ (Unread fault, left) → StopsRefused g b past now.unread (Parse fault) left
unread_at g b past now left (LengthFault n) goes at answers = elim (front_is g b past now left (Unread (LengthFault n)) goes at answers) [
  | inl u ↦ of_length g b past now left (Unread (LengthFault n)) goes at answers n u
  | inr f ↦ of_whole g b past now left (Unread (LengthFault n)) goes at answers f.message f.behind (Parse (LengthFault n)) f.whole f.judges
]
unread_at g b past now left fault goes at answers =
    let f = front_is g b past now left (Unread fault) goes at answers in
    of_whole g b past now left (Unread fault) goes at answers f.message f.behind (Parse fault) f.whole f.judges

-- its object isn't there
pub gone_at : (g : Greeter) (b : BackendView) (past : List Raw) (now left : BackendView) (id : ℕ) → reading_of g (found b.table) b ≡ read (judge g (found b.table) b) past now.unread →
    still now ≡ still (stopped_at b now.unread) → next true now ≡ (Gone id, left) → StopsRefused g b past now.unread (Handshake (handshake.InvalidObject id)) left
gone_at g b past now left id goes at answers =
    let f = front_is g b past now left (Gone id) goes at answers in
    of_whole g b past now left (Gone id) goes at answers f.message f.behind (Handshake (handshake.InvalidObject id)) f.whole f.judges

-- what it says is refused
pub said_at : (g : Greeter) (b : BackendView) (past : List Raw) (now left : BackendView) (target : ObjectView) (opcode : ℕ) (values : List Value) (trouble : Trouble) → reading_of g (found b.table) b ≡ read (judge g (found b.table) b) past now.unread →
    still now ≡ still (stopped_at b now.unread) → next true now ≡ (Message target opcode values, left) → judged (is_long g target.id) (shake_of target.interface opcode values) ≡ Refused trouble → StopsRefused g b past now.unread trouble left
said_at g b past now left target opcode values trouble goes at answers j =
    let f = front_is g b past now left (Message target opcode values) goes at answers in
    of_whole g b past now left (Message target opcode values) goes at answers f.message f.behind trouble f.whole (f.judges.2 ∙ j)
