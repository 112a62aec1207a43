use Rattle.ei_client.proofs.NameAgain.{announced_name}
use Rattle.ei_client.proofs.device.announce_named.Goals as goal

-- the object's interface is the one of the name
pub returns-clause-name : goal.returns-clause-name
returns-clause-name c = announced_name _ c.new_peer_object.result c.args.objects.now _ c.args.id c.args.version _ c.args.name.now c.new_peer_object.ensures.read c.in_ok-interface.ensures.name
