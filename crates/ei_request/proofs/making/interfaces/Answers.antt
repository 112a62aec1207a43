use Rattle.std.proofs.Common.{◌<◌, List, ◌++◌, length, take, ap, ◌∙◌, arith}
use Rattle.ei_spec.specs.declared.interface.KnownInterface.{KnownInterface}
use Rattle.ei_types.specs.declared.capability.DeviceCapability.TheVariants.{Pointer}
use Rattle.ei_types.specs.Capability.{capability_list}
use Rattle.ei_backend.specs.Endpoint.{endpoint_of}
use Rattle.ei_request.specs.Connection.{version_in}
use Rattle.ei_request.specs.Costs.{interfaces_cost}
use Rattle.ei_request.specs.Making.{announces_all, objects_of}
use Rattle.ei_request.proofs.MadeInTurn.{so_far, so_far_all, so_far_length, made_more, listed_more, few_left}
use Rattle.ei_request.proofs.Spending.{fits_after, spends_both, spends_within}
use Rattle.ei_request.proofs.making.interfaces.Goals as goal

pub loop-one-preserved : goal.loop-one-preserved
loop-one-preserved c =
    let inv = c.loop-one.invariant in
    let ok = c.interface_if.ensures in
    let e = endpoint_of c.args.ctx.now in
    let v = version_in c.args.versions.now in
    let d = c.args.device.now.id in
    let given = c.args.allowed.given in
    let wanted = c.args.allowed.wanted in
    let i = c.loop-one.one-index in
    let lt : i < length capability_list = omega (arith, c.loop-one-test.true) in
    let more = so_far_length given wanted i Pointer lt in
    record {
      made = made_more e (endpoint_of c.loop-one.ctx) (endpoint_of c.interface_if.new.ctx) v d given wanted i _ lt inv.made ok.ok;
      listed = listed_more e (endpoint_of c.loop-one.ctx) v d given wanted i _ c.args.objects.now.items c.loop-one.objects.items c.interface_if.new.objects.items lt inv.made inv.listed ok.objects;
      spends = spends_both _ (interfaces_cost (so_far given wanted (take i capability_list))) _ _ _ _ inv.spends ok.spends (omega (arith, more)) (omega arith) (omega (arith, more));
      len = omega (arith, ok.len, inv.len);
      capacity = ok.capacity ∙ inv.capacity;
    }

pub interface_if-requires-clause-fits : goal.interface_if-requires-clause-fits
interface_if-requires-clause-fits c =
    let given = c.args.allowed.given in
    let wanted = c.args.allowed.wanted in
    let i = c.loop-one.one-index in
    let few = few_left given wanted i Pointer (omega (arith, c.loop-one-test.true)) in
    fits_after _ (interfaces_cost (so_far given wanted (take i capability_list))) _ _ _ c.requires.fits c.loop-one.invariant.spends (omega (arith, few)) (omega arith) (omega (arith, few))

pub returns-clause-ok : goal.returns-clause-ok
returns-clause-ok c =
    c.loop-one.invariant.made
    ∙ ap (announces_all (endpoint_of c.args.ctx.now) (version_in c.args.versions.now) c.args.device.now.id) (so_far_all c.args.allowed.given c.args.allowed.wanted c.loop-one.one-index c.loop-one-test.false)

pub returns-clause-objects : goal.returns-clause-objects
returns-clause-objects c =
    c.loop-one.invariant.listed
    ∙ ap (λ (xs : List KnownInterface). c.args.objects.now.items ++ objects_of (endpoint_of c.args.ctx.now) (version_in c.args.versions.now) xs) (so_far_all c.args.allowed.given c.args.allowed.wanted c.loop-one.one-index c.loop-one-test.false)

pub returns-clause-spends : goal.returns-clause-spends
returns-clause-spends c =
    let given = c.args.allowed.given in
    let wanted = c.args.allowed.wanted in
    let all = ap (λ (l : List KnownInterface). length l) (so_far_all given wanted c.loop-one.one-index c.loop-one-test.false) in
    spends_within _ (interfaces_cost (so_far given wanted (take c.loop-one.one-index capability_list))) _ _ c.loop-one.invariant.spends (omega (arith, all)) (omega arith) (omega (arith, all))
