use Rattle.std.proofs.Common.{◌≡◌, ℕ, ◌+◌, length, arith}
use Rattle.std.specs.Option.{option_copied}
use Rattle.ei_spec.specs.Reading.{or_null}
use Rattle.ei_spec.specs.Value.{Value, written}
use Rattle.ei_types.specs.Enums.{disconnect_reason_number}
use Rattle.ei_request.specs.Costs.{Fits, plain}
use Rattle.ei_request.specs.declared.costs.TheConstants.{END_BYTES}
use Rattle.ei_request.proofs.Rooms.{end_size, fits_end}
use Rattle.ei_request.proofs.Spending.{fits_after}
use Rattle.ei_request.proofs.Unfailing.{never_any}
use Rattle.ei_request.proofs.connection.Connection.disconnected.Goals as goal

pub unwrap-requires : goal.unwrap-requires
unwrap-requires c =
    let id : ℕ = c.self.inside.proxy.id in
    let text : Value = or_null (option_copied c.args.explanation) in
    let last : ℕ = c.destroy_each-last.result in
    let reason : ℕ = disconnect_reason_number c.args.reason in
    let bytes : ℕ = c.saturating_add-bytes.result in
    let is : bytes ≡ END_BYTES + length (written text) = omega (arith, c.text_bytes.ensures, c.saturating_add-bytes.ensures, c.if-bytes.false) in
    let sends = c.disconnected.ensures.sends in
    let fits : Fits (plain bytes) c.destroy_each-last.new.ctx =
    fits_after _ _ (plain bytes) _ _ c.in_ok-make_room.ensures.fits c.destroy_each-last.ensures.spends (omega (arith, c.len.ensures, c.deref-2.ensures.len)) (omega arith) (omega arith) in
    never_any _ (λ e. omega (arith, sends.long.0 e, end_size id last reason text, is, c.if-bytes.false)) sends.not_exhausted
    (sends.room (fits_end c.destroy_each-last.new.ctx id last reason bytes (option_copied c.args.explanation) is fits))
