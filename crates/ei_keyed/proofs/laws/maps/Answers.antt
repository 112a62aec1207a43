use Rattle.ei_keyed.proofs.MapLaws.{got, put, took}
use Rattle.ei_keyed.proofs.laws.maps.Goals as goal

pub returns : goal.returns
returns g c = record { get = λ xs k. got xs k; put = λ xs from key v h. put xs from key v h; taken = λ xs from end key h. took xs from end key h }
