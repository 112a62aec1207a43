-- A callback is new where its sync isn't refused.
use Rattle.std.proofs.Common.{◌≡◌, ℕ, ◌<◌, Bool, true, false, not, ◌&&◌, eqb, ltb, List, [], ◌∷◌, length, Option, Some, None, Ok, Err, Result, refl, sym, ap}
use Rattle.std.proofs.Common.{◌∙◌, inl, inr}
use Rattle.std.specs.Prelude.{codes}
use Rattle.std.proofs.lemmas.Bool.{eqb-true, ltb-true}
use Rattle.ei_spec.specs.declared.interface.KnownInterface.TheVariants as known
use Rattle.ei_spec.specs.Value.{Value, New, U32, Word, Long}
use Rattle.ei_spec.specs.Reading.{Unread, ArgumentStop, all_at}
use Rattle.ei_spec.specs.Rows.{Row, announcing, Fixed, row_at}
use Rattle.ei_spec.specs.Table.{table}
use Rattle.ei_spec.specs.Message.{Raw}
use Rattle.ei_spec.specs.History.{occurs}
use Rattle.ei_session.specs.Setup.{Setup, connection_id}
use Rattle.ei_session.specs.Arguments.{whole, row_args, body_of}
use Rattle.ei_session.specs.Asked.{asked}
use Rattle.ei_session.specs.Handshake.{connected}
use Rattle.ei_session.specs.Objects.{Entry, object}
use Rattle.ei_session.specs.Refusals.{Arguments, arguments, announced_id, callback_of, synced, is_at_most, may_give, bad_id, tests, refused_by, refused_row}
use Rattle.ei_session.specs.Refusals.{refused_at, refusal}
use Rattle.ei_session.proofs.Choices.{chosen, none_some, and_left, and_right}
use Rattle.ei_session.proofs.ItemLaws.{args_are}
use Rattle.ei_session.proofs.FirstObjects.{object_connection, the_connection}
use Rattle.ei_session.proofs.TouchLaws.{all_none}

-- the row of `sync`
abbrev pub sync_row : Row
sync_row = announcing (codes "sync") (New ∷ U32 ∷ []) (Fixed known.Callback)

callback_is : (args : Option (List Value)) (c : ℕ) → callback_of args ≡ Some c → (v : ℕ) × (args ≡ Some (Long c ∷ Word v ∷ []))
callback_is (Some (Long id ∷ Word v ∷ [])) c h = (v, ap (λ (n : ℕ). Some (Long n ∷ Word v ∷ [])) (one id c h))
  where
    one : (a b : ℕ) → Some a ≡ Some b → a ≡ b
    one a b e = cc
callback_is args c h = absurd (none_some c h)

record IsSync (before : List Raw) (m : Raw) (c : ℕ) : Type 0 where
  pub on : connected before ≡ true
  pub at : m.id ≡ connection_id
  pub v : ℕ
  pub args : asked known.Connection (codes "sync") m ≡ Some (Long c ∷ Word v ∷ [])

is_sync : (before : List Raw) (m : Raw) (c : ℕ) → synced before m ≡ Some c → IsSync before m c
unfolding synced
is_sync before m c h =
    elim (chosen (connected before && eqb m.id connection_id) _ _ _ h) [
      | inl a ↦ let w = callback_is (asked known.Connection (codes "sync") m) c a.1 in record { on = and_left (connected before) (eqb m.id connection_id) a.0; at = eqb-true m.id connection_id (and_right (connected before) (eqb m.id connection_id) a.0); v = w.0; args = w.1 }
      | inr b ↦ absurd (none_some c b.1)
    ]

pub whole_is : (r : Result (List Value × Unread) ArgumentStop) (args : List Value) → whole r ≡ Some args → (u : Unread) × (r ≡ Ok (args, u))
unfolding whole
whole_is (Ok x) args h = elim (chosen (eqb (length x.1.bytes) 0) _ _ _ h) [ inl a ↦ (x.1, ap (λ (xs : List Value). Ok (xs, x.1)) (one x.0 args a.1)) | inr b ↦ absurd (none_some args b.1) ]
  where
    one : (a b : List Value) → Some a ≡ Some b → a ≡ b
    one a b e = cc
whole_is (Err e) args h = absurd (none_some args h)

pub read_is : (m : Raw) (args : List Value) → asked known.Connection (codes "sync") m ≡ Some args → (m.opcode ≡ 0) × ((u : Unread) × (all_at (New ∷ U32 ∷ []) (body_of m) ≡ Ok (args, u)))
unfolding asked row_args
read_is m args h = let a = args_are 0 sync_row m args h in (a.0, whole_is (all_at (New ∷ U32 ∷ []) (body_of m)) args a.1)

module _ (setup : Setup) (before : List Raw) (m : Raw) where
  id_allowed : (e : Entry) (row : Option Row) (args : Arguments) → refused_by setup before m e row args ≡ None → bad_id before (announced_id row args) ≡ None
  id_allowed e row args h = (all_none (tests setup before m e row args) h).1.1.0

given_by : (before : List Raw) (c : ℕ) → bad_id before (Some c) ≡ None → may_give before c ≡ true
given_by before c h = elim (chosen (may_give before c) _ _ _ h) [ inl a ↦ a.0 | inr b ↦ absurd (none_some _ (sym b.1)) ]

pub record IsNew (before : List Raw) (c : ℕ) : Type 0 where
  pub low : 0 < c
  pub high : c < connection_id
  pub fresh : occurs (λ b x. is_at_most c (synced b x)) before ≡ false

is_new : (before : List Raw) (c : ℕ) → may_give before c ≡ true → IsNew before c
unfolding may_give
is_new before c h =
    let rest = and_right (ltb 0 c) _ h in
    record {
      low = ltb-true 0 c (and_left (ltb 0 c) _ h);
      high = ltb-true c connection_id (and_left (ltb c connection_id) _ rest);
      fresh = by (occurs (λ b x. is_at_most c (synced b x)) before) (and_right (ltb c connection_id) _ rest);
    }
  where
    by : (b : Bool) → not b ≡ true → b ≡ false
    by true e = absurd cc
    by false e = refl

sync_refused : (setup : Setup) (before : List Raw) (m : Raw) (c v : ℕ) (u : Unread) → m.opcode ≡ 0 → all_at (New ∷ U32 ∷ []) (body_of m) ≡ Ok (Long c ∷ Word v ∷ [], u) → refused_at setup before m (Some the_connection) ≡ None → bad_id before (Some c) ≡ None
sync_refused setup before m c v u o a h =
    let row : row_at m.opcode (table false known.Connection) ≡ Some sync_row = ap (λ (n : ℕ). row_at n (table false known.Connection)) o in
    let by_row : refused_row setup before m the_connection (Some sync_row) ≡ None = ap (refused_row setup before m the_connection) (sym row) ∙ h in
    ap (λ (x : Arguments). bad_id before (announced_id (Some sync_row) x)) (sym a) ∙ id_allowed setup before m the_connection (Some sync_row) (arguments (Some sync_row) m) by_row

-- the callback of a sync that isn't refused is above those of all earlier ones
pub callback_new : (setup : Setup) (before : List Raw) (m : Raw) (c : ℕ) → refusal setup before m ≡ None → synced before m ≡ Some c → IsNew before c
unfolding refusal
callback_new setup before m c r s =
    let w = is_sync before m c s in
    let k : object before m.id ≡ Some the_connection = ap (object before) w.at ∙ object_connection before ∙ rw w.on refl in
    let a = read_is m (Long c ∷ Word w.v ∷ []) w.args in
    is_new before c (given_by before c (sync_refused setup before m c w.v a.1.0 a.0 a.1.1 (ap (refused_at setup before m) (sym k) ∙ r)))
