use Rattle.ei_promises.proofs.Waiting.{server_all, client_all}
use Rattle.ei_promises.proofs.laws.waiting.Goals as goal

pub returns : goal.returns
returns g c = record {
  server = λ p new before after result whole ok s. server_all p new before after result whole ok s;
  client = λ p new told now result whole ok s. client_all g.H.Call.may_answer p new told now result whole ok s;
}
