-- A `sync` at the front: its callback comes into the table.
use Rattle.std.proofs.Common.{◌≡◌, ℕ, ◌+◌, Bool, true, false, cond, ◌||◌, eqb, ltb, leb, List, [], ◌∷◌, length, drop, Option, Some, Result, Ok, Err, refl, sym, ap, ◌∙◌}
use Rattle.ei_spec.specs.declared.interface.KnownInterface.TheVariants as known
use Rattle.ei_spec.specs.Value.{Value, Long, Word, New, U32}
use Rattle.ei_spec.specs.Interface.{Interface, Known, ObjectView}
use Rattle.ei_spec.specs.Reading.{Fault, InvalidId, MessageLength, Unread, ArgumentStop, ◌then◌, stopping, all_at}
use Rattle.ei_spec.specs.Rows.{Fixed, new_id, version_of}
use Rattle.ei_spec.specs.Message.{Raw, size, Whole, front}
use Rattle.ei_backend.specs.Table.{TableView, Announced, found, peer_end}
use Rattle.ei_backend.specs.Message.{Parsed, announce, with_new, message_read}
use Rattle.ei_backend.specs.Backend.{BackendView, BodyOutcome, FrontAnswer, Refused, Message, outcome, of_outcome, of_target, of_front, body_read, next}
use Rattle.std.specs.FinMap.{insert}

-- the callback of that id came into the table, as the table accepts it
pub record CameIn (id : ℕ) (old new : TableView) : Type 0 where
  pub callback : ObjectView
  pub id_is : callback.id ≡ id
  pub announced : Announced (Some callback) old new

abbrev pair : FrontAnswer → BackendView → FrontAnswer × BackendView
pair a b = (a, b)

abbrev answer_of : FrontAnswer × BackendView → FrontAnswer
answer_of p = p.0

abbrev table_of : FrontAnswer × BackendView → TableView
table_of p = p.1.table

module _ (b new : BackendView) (target t : ObjectView) (opcode op len : ℕ) (after : List ℕ) (id v : ℕ) where
  abbrev IsAnswer : BodyOutcome → Type 0
  IsAnswer o = of_outcome b target opcode after o ≡ pair (Message t op (Long id ∷ Word v ∷ [])) new

  no_fault : (f : Fault) (u : TableView) (n : ℕ) → IsAnswer (record { said = Err f; table = u; taken = n }) → CameIn id b.table new.table
  no_fault f u n h = let g : Refused f ≡ Message t op (Long id ∷ Word v ∷ []) = ap answer_of h in absurd cc

  -- the arguments were read
  module _ (values : List Value) (s : Unread) where
    abbrev it : ℕ
    it = new_id (New ∷ U32 ∷ []) values

    abbrev callback : ObjectView
    callback = record { id = it; interface = Known known.Callback; version = version_of values; client_side = b.table.client }

    abbrev with_it : TableView
    with_it = record { objects = insert b.table.objects it callback; next_own = b.table.next_own; next_peer = it + 1; client = b.table.client; room = b.table.room }

    abbrev read_as : Result (ObjectView × TableView) Fault → Result Parsed ArgumentStop
    read_as r = stopping s.taken (with_new r) then λ u. Ok (record { values = values; table = u; unread = s })

    came : (ltb it b.table.next_peer || leb (peer_end b.table) it) ≡ false → pair (Message target opcode values) (record b { table = with_it; unread = after; handles = drop s.taken b.handles }) ≡ pair (Message t op (Long id ∷ Word v ∷ [])) new → CameIn id b.table new.table
    came e h =
        let g : Message target opcode values ≡ Message t op (Long id ∷ Word v ∷ []) = ap answer_of h in
        let same : values ≡ Long id ∷ Word v ∷ [] = cc in
        record {
          callback = callback;
          id_is = ap (λ (vs : List Value). new_id (New ∷ U32 ∷ []) vs) same;
          announced = rw e (ap (λ (u : TableView). Ok (callback, u)) (ap table_of h));
        }

    by_rest : (whole : Bool) → (ltb it b.table.next_peer || leb (peer_end b.table) it) ≡ false → IsAnswer (record { said = cond whole (Ok values) (Err (MessageLength (len + length s.bytes) len)); table = with_it; taken = s.taken }) → CameIn id b.table new.table
    by_rest true e h = came e h
    by_rest false e h = no_fault (MessageLength (len + length s.bytes) len) with_it s.taken h

    by_test : (bad : Bool) → (ltb it b.table.next_peer || leb (peer_end b.table) it) ≡ bad → IsAnswer (outcome len b.table (read_as (cond bad (Err (InvalidId it)) (Ok (callback, with_it))))) → CameIn id b.table new.table
    by_test true e h = no_fault (InvalidId it) b.table s.taken h
    by_test false e h = by_rest (eqb (length s.bytes) 0) e h

  by_arguments : (a : Result (List Value × Unread) ArgumentStop) →
      IsAnswer (outcome len b.table (a then λ x. stopping x.1.taken (announce (Fixed known.Callback) (New ∷ U32 ∷ []) x.0 b.table) then λ u. Ok (record { values = x.0; table = u; unread = x.1 }))) → CameIn id b.table new.table
  by_arguments (Ok x) h = by_test x.0 x.1 (ltb (it x.0 x.1) b.table.next_peer || leb (peer_end b.table) (it x.0 x.1)) refl h
  by_arguments (Err f) h = no_fault f.0 b.table f.1 h

pub sync_comes : (b new : BackendView) (m : Raw) (after : List ℕ) (target t : ObjectView) (op id v : ℕ) → front b.unread ≡ Whole m after → found b.table m.id ≡ Some target → target.interface ≡ Known known.Connection → m.opcode ≡ 0 →
    next false b ≡ pair (Message t op (Long id ∷ Word v ∷ [])) new → CameIn id b.table new.table
sync_comes b new m after target t op id v f k i o n =
    let s : Unread = record { bytes = m.body; handles = b.handles; taken = 0 } in
    let read : body_read false target m.opcode m.body b.handles b.table ≡ outcome (size m) b.table (message_read false (Known known.Connection) 0 s b.table) =
    ap (λ (x : Interface). outcome (size m) b.table (message_read false x m.opcode s b.table)) i ∙ ap (λ (x : ℕ). outcome (size m) b.table (message_read false (Known known.Connection) x s b.table)) o in
    by_arguments b new target t m.opcode op (size m) after id v (all_at (New ∷ U32 ∷ []) s)
    (sym (ap (of_front false b) f ∙ ap (λ (x : Option ObjectView). of_target false b x m after) k ∙ ap (of_outcome b target m.opcode after) read) ∙ n)
