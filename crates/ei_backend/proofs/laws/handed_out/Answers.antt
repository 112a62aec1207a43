use Rattle.ei_backend.proofs.TypedRead.{typed_out}
use Rattle.ei_backend.proofs.laws.handed_out.Goals as goal

pub returns : goal.returns
returns g c = record {
  sent = λ interface name r target there values added rest before after reader left answer s h answers brings.
      typed_out g.T.MessageEnum.target g.T.MessageEnum.code g.T.MessageEnum.values g.T.MessageEnum.announced g.T.MessageEnum.events interface name r target there values added rest before after reader left answer s h answers brings;
}
