-- What stands at the front of what is unread, and what a client's handshake makes of it.
use Rattle.std.proofs.Common.{◌≡◌, ◌⊎◌, inl, inr, ℕ, true, List, Option, Some, None, Result, Ok, Err, refl}
use Rattle.ei_spec.specs.Interface.{ObjectView}
use Rattle.ei_spec.specs.Message.{Raw, Front, Short, Unlawful, Whole, front}
use Rattle.ei_spec.specs.Reading.{Fault, HeaderLength as LengthFault}
use Rattle.ei_spec.specs.Value.{Value}
use Rattle.ei_spec.specs.Stream.{Refused}
use Rattle.ei_types.specs.declared.error.HandshakeError.TheVariants as handshake
use Rattle.ei_backend.specs.Table.{found}
use Rattle.ei_backend.specs.Backend.{BackendView, FrontAnswer, Waits, Gone, Message, Refused as Unread, said_of, next}
use Rattle.ei_greeting.specs.Shaking.{Greeter, Parse, Handshake, judge, judged, is_long, shake, shake_of, outcome_to}
use Rattle.ei_greeting.specs.Opening.{stopped_at}

module _ (g : Greeter) (b : BackendView) (past : List Raw) (rest : List ℕ) where
  -- what a message comes to, whose answer this is
  abbrev pub Judges : Raw → FrontAnswer → Type 0
  Judges m Waits = ⊥
  Judges m (Gone id) = judge g (found b.table) b past m ≡ Refused (Handshake (handshake.InvalidObject id))
  Judges m (Unread fault) = judge g (found b.table) b past m ≡ Refused (Parse fault)
  Judges m (Message target opcode values) =
      (found b.table m.id ≡ Some target) × (shake (found b.table) b m ≡ shake_of target.interface opcode values) × (judge g (found b.table) b past m ≡ judged (is_long g target.id) (shake_of target.interface opcode values))

  -- a whole message stands there, and it comes to this
  pub record IsFront (answer : FrontAnswer) : Type 0 where
    pub message : Raw
    pub behind : List ℕ
    pub whole : front rest ≡ Whole message behind
    pub judges : Judges message answer

  -- what stands at the front, where the answer is this
  abbrev pub Stands : FrontAnswer → Type 0
  Stands Waits = front rest ≡ Short
  Stands (Unread (LengthFault n)) = (front rest ≡ Unlawful n) ⊎ IsFront (Unread (LengthFault n))
  Stands answer = IsFront answer

  of_whole : (m : Raw) (after : List ℕ) (a : FrontAnswer) → front rest ≡ Whole m after → Judges m a → Stands a
  of_whole m after Waits e h = absurd h
  of_whole m after (Gone id) e h = record { message = m; behind = after; whole = e; judges = h }
  of_whole m after (Unread (LengthFault n)) e h = inr (record { message = m; behind = after; whole = e; judges = h })
  of_whole m after (Unread fault) e h = record { message = m; behind = after; whole = e; judges = h }
  of_whole m after (Message target opcode values) e h = record { message = m; behind = after; whole = e; judges = h }

  read_to : (m : Raw) (after : List ℕ) (target : ObjectView) → found b.table m.id ≡ Some target → (said : Result (List Value) Fault) → (outcome_to b m target).said ≡ said → Judges m (said_of target m.opcode said)
  unfolding judge shake
  read_to m after target f (Ok values) e = (f, rw (f, e) refl, rw (f, e) refl)
  read_to m after target f (Err fault) e = rw (f, e) refl

  pub stands : Stands (next true (stopped_at b rest)).0
  unfolding judge
  stands = by (front rest) refl
    where
      at : (m : Raw) (after : List ℕ) (o : Option ObjectView) → found b.table m.id ≡ o → front rest ≡ Whole m after → Stands (next true (stopped_at b rest)).0
      at m after None f e = rw (e, f) (of_whole m after (Gone m.id) e (rw f refl))
      at m after (Some target) f e = rw (e, f) (of_whole m after (said_of target m.opcode (outcome_to b m target).said) e (read_to m after target f (outcome_to b m target).said refl))

      by : (f : Front) → front rest ≡ f → Stands (next true (stopped_at b rest)).0
      by Short e = rw e e
      by (Unlawful n) e = rw e (inl e)
      by (Whole m after) e = at m after (found b.table m.id) refl e
