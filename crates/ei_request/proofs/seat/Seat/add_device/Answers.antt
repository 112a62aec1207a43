use Rattle.std.proofs.Common.{◌≡◌, ℕ, ◌+◌, ◌<◌, ◌≤◌, List, length, Some, true, sym, ap, subst, ◌∙◌}
use Rattle.std.specs.Prelude.{◌↔◌, IsErrOf, find}
use Rattle.std.specs.Option.{option_copied, option_map}
use Rattle.ei_spec.specs.declared.interface.KnownInterface.{KnownInterface}
use Rattle.ei_wire.specs.declared.error.SendError.TheVariants as send_error
use Rattle.ei_backend.specs.Table.{own_end}
use Rattle.ei_request.specs.Held.{is_seat}
use Rattle.ei_request.specs.Making.{has_keyboard, is_long_description}
use Rattle.ei_request.proofs.AddedDevice.{granted_is}
use Rattle.ei_request.proofs.seat.Seat.add_device.Goals as goal

pub add_allowed-requires : goal.add_allowed-requires
add_allowed-requires c =
    let seats = c.args.conn.now.seats in
    let known : option_map (λ s. s.capabilities) (find (is_seat c.args.self.now.id) seats) ≡ Some c.unwrap-given.result =
    ap (λ (n : ℕ). option_map (λ s. s.capabilities) (find (is_seat n) seats)) (sym c.id.ensures) ∙ sym c.capabilities_of.ensures ∙ c.unwrap-given.ensures in
    let same = granted_is (find (is_seat c.args.self.now.id) seats) c.unwrap-given.result c.args.capabilities known in
    record { keyboard = λ needs. ap (λ (is : List KnownInterface). has_keyboard is) (sym same) ∙ c.requires.keyboard needs }

pub returns-clause-exhausted : goal.returns-clause-exhausted
returns-clause-exhausted c =
    let seats = c.args.conn.now.seats in
    let known : option_map (λ s. s.capabilities) (find (is_seat c.args.self.now.id) seats) ≡ Some c.unwrap-given.result =
    ap (λ (n : ℕ). option_map (λ s. s.capabilities) (find (is_seat n) seats)) (sym c.id.ensures) ∙ sym c.capabilities_of.ensures ∙ c.unwrap-given.ensures in
    let same = granted_is (find (is_seat c.args.self.now.id) seats) c.unwrap-given.result c.args.capabilities known in
    let t = c.args.conn.now.ctx.table in
    subst (λ (is : List KnownInterface). IsErrOf c.add_allowed.result send_error.IdsExhausted ↔ (own_end t < t.next_own + (length is + 1))) (sym same) c.add_allowed.ensures.exhausted

pub returns-clause-long : goal.returns-clause-long
returns-clause-long c =
    let seats = c.args.conn.now.seats in
    let known : option_map (λ s. s.capabilities) (find (is_seat c.args.self.now.id) seats) ≡ Some c.unwrap-given.result =
    ap (λ (n : ℕ). option_map (λ s. s.capabilities) (find (is_seat n) seats)) (sym c.id.ensures) ∙ sym c.capabilities_of.ensures ∙ c.unwrap-given.ensures in
    let same = granted_is (find (is_seat c.args.self.now.id) seats) c.unwrap-given.result c.args.capabilities known in
    let t = c.args.conn.now.ctx.table in
    subst (λ (is : List KnownInterface). IsErrOf c.add_allowed.result send_error.MessageTooLong ↔
    ((t.next_own + (length is + 1) ≤ own_end t) × (is_long_description t.next_own (option_copied c.args.name) c.args.setup.now ≡ true))) (sym same) c.add_allowed.ensures.long
