use Rattle.std.proofs.Common.{◌≡◌, List, [], ◌∷◌, ◌++◌, ap, ◌∙◌, arith}
use Rattle.std.specs.Option.{option_copied}
use Rattle.ei_spec.specs.declared.interface.KnownInterface.TheVariants as known
use Rattle.ei_spec.specs.Interface.{ObjectView}
use Rattle.ei_backend.specs.Endpoint.{endpoint_of}
use Rattle.ei_request.specs.Connection.{ConnectionView, version_in}
use Rattle.ei_request.specs.Held.{DeviceView}
use Rattle.ei_request.specs.Costs.{begin_cost}
use Rattle.ei_request.specs.Making.{granted_to, begins_device}
use Rattle.ei_request.proofs.AddedDevice.{made_whole, adds_device, device_is, same_held}
use Rattle.ei_request.proofs.Spending.{fits_within, fits_after}
use Rattle.ei_request.proofs.TableRoom.{has_room}
use Rattle.ei_request.proofs.connection.Connection.add_allowed.Goals as goal

pub begin-proxy-requires-clause-fits : goal.begin-proxy-requires-clause-fits
begin-proxy-requires-clause-fits c = fits_within _ (begin_cost (option_copied c.args.name)) _ c.in_ok-make_room.ensures.fits (omega arith) (omega arith) (omega arith)

pub describe-requires-clause-fits : goal.describe-requires-clause-fits
describe-requires-clause-fits c = fits_after _ (begin_cost (option_copied c.args.name)) _ _ _ c.in_ok-make_room.ensures.fits c.begin-proxy.ensures.spends (omega arith) (omega arith) (omega arith)

pub push_reserved-requires : goal.push_reserved-requires
push_reserved-requires c =
    has_room c.reserve.new.self c.new.result c.args.allowed.given c.args.allowed.wanted (endpoint_of c.begin-proxy.new.ctx) (version_in c.self.inside.negotiated) c.in_ok-reserve.ensures.ok
    (ap (λ (d : DeviceView). d.interfaces) c.new.ensures ∙ c.describe.ensures.objects)

pub returns-clause-ok : goal.returns-clause-ok
returns-clause-ok c =
    let e = endpoint_of c.make_room.new.ctx in
    let e1 = endpoint_of c.begin-proxy.new.ctx in
    let versions = c.self.inside.negotiated in
    let seat = c.args.seat.now in
    let name = option_copied c.args.name in
    let kind = c.args.device_type in
    let items = c.args.setup.now in
    let is = granted_to c.args.allowed in
    let v = c.unwrap_or-version.result in
    let proxy = c.begin-proxy.result in
    let objects = c.describe.new.objects.items in
    let version : v ≡ version_in versions known.Device = cc in
    let begun : e1 ≡ begins_device e seat.id v name kind = c.begin-proxy.ensures.ok ∙ ap (λ (o : ObjectView). begins_device e o.id v name kind) c.eis_seat.ensures in
    let endpoint = made_whole e e1 (endpoint_of c.describe.new.ctx) versions v seat proxy name kind items is objects version c.begin-proxy.ensures.device begun c.describe.ensures.objects c.describe.ensures.ok in
    let device = device_is e e1 versions v seat proxy name kind is objects version c.begin-proxy.ensures.device begun c.describe.ensures.objects in
    let at : ConnectionView = record {
      ctx = c.self.inside.context;
      proxy = c.self.inside.proxy;
      context_type = c.self.inside.context_type;
      name = c.self.inside.name;
      negotiated = c.self.inside.negotiated;
      last_serial = c.self.inside.last_serial;
      seats = c.self.inside.seats.items;
      devices = c.self.inside.devices.items;
      disconnected = c.self.inside.disconnected;
    } in
    let held : c.push_reserved.new.self.items ≡ c.self.inside.devices.items ++ c.new.result ∷ [] = c.push_reserved.ensures.items ∙ ap (λ (ds : List DeviceView). ds ++ c.new.result ∷ []) c.reserve.ensures.items in
    let key : c.copy-2.result ≡ record { seat = seat; proxy = proxy } = c.copy-2.ensures ∙ c.over-device.ensures ∙ ap (λ (o : ObjectView). record { seat = o; proxy = proxy }) c.copy.ensures in
    let made = c.new.ensures ∙ same_held c.copy-2.result (record { seat = seat; proxy = proxy }) c.in_ok-kept.kept name objects key c.in_ok-kept.ensures.ok ∙ device in
    adds_device c.args.self.now at c.describe.new.ctx c.make_room.new.ctx seat name kind is items c.push_reserved.new.self.items c.new.result c.self.view_is c.make_room.ensures.same endpoint held made
