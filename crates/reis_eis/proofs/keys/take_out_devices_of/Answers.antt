use Rattle.std.proofs.Common.{rules}
use Rattle.std.specs.Prelude.{not}
use Rattle.std.proofs.lemmas.Fn.{filter_same}
use Rattle.ei_request.specs.Keys.{DeviceKey}
use Rattle.reis_eis.specs.Keys.{names_device_of}
use Rattle.reis_eis.proofs.keys.take_out_devices_of.Goals as goal

pub returns : goal.returns
returns c =
    filter_same _ (λ (d : DeviceKey). not (names_device_of c.args.seat d)) _ (λ x b f' k. search rules) _ _ c.retain.ensures.filtered
