use Rattle.std.proofs.Common.{refl}
use Rattle.ei_reported.proofs.TestsInOrder.{refused_capability, refused_device_done, refused_goes}
use Rattle.ei_reported.proofs.rows.refusals.Goals as goal

pub returns : goal.returns
returns c = record {
  shakes = λ before. refl;
  aside = λ before. refl;
  disconnects = λ before last_serial why text. refl;
  seat_comes = λ before seat. refl;
  seat_name = λ before seat. refl;
  capability = refused_capability;
  seat_done = λ before seat. refl;
  seat_goes = λ before seat serial. refl;
  device_comes = λ before seat device. refl;
  device_has = λ before device. refl;
  device_type = λ before device. refl;
  device_gets = λ before device id version name. refl;
  device_done = refused_device_done;
  device_tells = λ before device serial told. refl;
  device_goes = λ before device serial. refl;
  keymap = λ before id. refl;
  input = λ before id input. refl;
  modifiers = λ before id serial depressed locked latched layout. refl;
  goes = refused_goes;
}
