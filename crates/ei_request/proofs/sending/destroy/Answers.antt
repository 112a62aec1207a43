use Rattle.std.proofs.Common.{false, refl, arith}
use Rattle.std.proofs.lemmas.List.{append-nil}
use Rattle.ei_spec.specs.declared.interface.KnownInterface.TheVariants as known
use Rattle.ei_spec.specs.Interface.{Known, ObjectView}
use Rattle.ei_request.proofs.sending.destroy.Goals as goal

pub returns : goal.returns
returns c =
    let object : ObjectView = record { id = c.args.id; interface = Known known.Seat; version = 0; client_side = false } in
    let sends = c.destroyed_by_id.ensures.sends object refl in
    record {
      ok = rw (append-nil c.args.ctx.now.unsent_handles) at sends.ok;
      err = sends.err;
      only = sends.only;
      room = λ fits. sends.room (record { spare_bytes = omega (arith, fits.bytes); spare_handles = omega (arith, fits.handles) });
    }
