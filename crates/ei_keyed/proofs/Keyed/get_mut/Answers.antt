use Rattle.std.specs.Option.{ghost_name_of}
use Rattle.ei_keyed.proofs.Live.{live_written}
use Rattle.ei_keyed.proofs.SameRead.{same_read}
use Rattle.ei_keyed.proofs.Keyed.get_mut.Goals as goal

pub returns : goal.returns
returns g c = rw (← c.self.view_is) (
  same_read (ghost_name_of c.get_mut.result) _ _ _ (λ w i. record { items = live_written c.args.key c.self.inside.places.places w i; room = c.self.inside.places.room }),
  record { writes_back = tt; value = c.get_mut.ensures.value },
)
