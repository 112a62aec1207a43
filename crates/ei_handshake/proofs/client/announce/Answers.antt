use Rattle.std.proofs.Common.{arith}
use Rattle.ei_handshake.specs.declared.sizes.TheConstants.{MOST_VERSION_BYTES}
use Rattle.ei_handshake.proofs.Greeting.{version_is_told}
use Rattle.ei_handshake.proofs.client.announce.Goals as goal

pub unwrap-requires : goal.unwrap-requires
unwrap-requires c =
    (version_is_told c.args.handshake.now c.args.ctx.now c.interface_version.new.ctx c.interface_version.result MOST_VERSION_BYTES 0 c.requires
    (c.args.interface, c.args.version) c.name.result.now c.name.ensures c.interface_version.ensures.sends (omega arith)).ok

pub returns : goal.returns
returns c =
    (version_is_told c.args.handshake.now c.args.ctx.now c.interface_version.new.ctx c.interface_version.result MOST_VERSION_BYTES 0 c.requires
    (c.args.interface, c.args.version) c.name.result.now c.name.ensures c.interface_version.ensures.sends (omega arith)).is
