use Rattle.ei_keyed.proofs.MapLaws.{rises_put, rises_taken}
use Rattle.ei_keyed.proofs.laws.rises.Goals as goal

pub returns : goal.returns
returns g c = record { put = λ xs from key v h. rises_put xs from key v h; taken = λ xs from end key h. rises_taken xs from end key h }
