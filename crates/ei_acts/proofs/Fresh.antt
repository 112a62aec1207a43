-- A connection right behind its handshake holds nothing.
use Rattle.std.proofs.Common.{◌≡◌, ℕ, Bool, true, false, cond, eqb, inl, inr, List, [], ◌∷◌, Option, Some, None, refl, sym, ap, ◌∙◌}
use Rattle.std.specs.Prelude.{codes}
use Rattle.std.proofs.lemmas.Option.{same_Some}
use Rattle.ei_spec.specs.declared.interface.KnownInterface.{KnownInterface}
use Rattle.ei_spec.specs.declared.interface.KnownInterface.TheVariants as known
use Rattle.ei_spec.specs.Interface.{Interface, Known, Other, ObjectView}
use Rattle.ei_spec.specs.Rows.{Fixed, handing_over, row_at}
use Rattle.ei_spec.specs.Table.{table, handshake_version, interface_version}
use Rattle.ei_spec.specs.Value.{Value, U32, New as NewId}
use Rattle.ei_backend.specs.Table.{found}
use Rattle.ei_ends.specs.Sent.{Sent, New, new_in, new_of, row_of}
use Rattle.ei_ends.specs.Announced.{if_named, announced}
use Rattle.ei_ends.specs.Way.{End}
use Rattle.ei_ends.proofs.Known.{or_else_some, if_named_some}
use Rattle.ei_request.specs.Connection.{ConnectionView}
use Rattle.ei_acts.specs.Holding.{is_seat_interface, is_a_seat}
use Rattle.ei_acts.specs.Sendable.{IsEndOf}
use Rattle.ei_acts.specs.Acting.{IsFresh, AllShake}
use Rattle.ei_acts.proofs.AnnouncedThere.{table_announces}

-- a handshake announces a connection alone
shake_news : (opcode : ℕ) (values : List Value) (n : New) → new_in (row_at opcode (table true known.Handshake)) values ≡ Some n → n.interface ≡ Known known.Connection
shake_news opcode values n e = by (eqb opcode 0) (eqb opcode 1) (eqb opcode 2) e
  where
    by : (a b c : Bool) → new_in (cond a (Some handshake_version) (cond b (Some interface_version) (cond c (Some (handing_over (codes "connection") (U32 ∷ NewId ∷ U32 ∷ []) (Fixed known.Connection))) None))) values ≡ Some n → n.interface ≡ Known known.Connection
    by true b c f = absurd cc
    by false true c f = absurd cc
    by false false true f = sym (ap (λ (m : New). m.interface) (same_Some _ n f))
    by false false false f = absurd cc

one_shake : (m : Sent) (n : New) → m.interface ≡ known.Handshake → new_of true m ≡ Some n → n.interface ≡ Known known.Connection
unfolding row_of
one_shake m n i e = shake_news m.opcode m.values n (sym (ap (λ (k : KnownInterface). new_in (row_at m.opcode (table true k)) m.values) i) ∙ e)

shakes_announce : (past : List Sent) (id : ℕ) (n : New) → AllShake past → announced true past id ≡ Some n → n.interface ≡ Known known.Connection
unfolding announced
shakes_announce [] id n h e = absurd cc
shakes_announce (m ∷ past) id n h e = elim (or_else_some (announced true past id) (if_named id (new_of true m)) n e) [
  | inl p ↦ shakes_announce past id n h.1 p
  | inr p ↦ one_shake m n h.0 (if_named_some id (new_of true m) n p.1).0
]

no_seat : (i : Interface) → (i ≡ Known known.Seat → ⊥) → is_seat_interface i ≡ false
no_seat (Known known.Seat) f = absurd (f refl)
no_seat (Known k) f = refl
no_seat (Other name) f = refl

pub fresh : (x : End) (c : ConnectionView) → IsEndOf x c → AllShake x.sent → c.seats ≡ [] → c.devices ≡ [] → IsFresh c
fresh x c e h seats devices = record { seats = seats; devices = devices; no_seat = λ id. by id (found c.ctx.table id) refl }
  where
    by : (id : ℕ) (o : Option ObjectView) → found c.ctx.table id ≡ o → is_a_seat o ≡ false
    by id None f = refl
    by id (Some o) f = no_seat o.interface (λ is.
        let now = table_announces x c e o known.Seat is (λ g. absurd cc) (λ g. absurd cc) id f in
        let clash : ◌≡◌ {A = Interface} (Known known.Seat) (Known known.Connection) = shakes_announce x.sent id _ h now in
        absurd cc)
