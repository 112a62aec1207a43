use Rattle.ei_event.proofs.kept_interfaces.KeptInterfaces.find.Goals as goal

pub returns : goal.returns
returns g c = λ test_of decides. rw (← c.self.view_is) (c.find.ensures test_of decides)
