use Rattle.std.proofs.Common.{refl}
use Rattle.ei_spec.specs.History.{last_said, occurs, total, joined}
use Rattle.ei_session.specs.Devices.{interfaces_of}
use Rattle.ei_record.specs.Replayable.{wrong_from, is_wrong, is_there, mask_before, gives_mask, next_device, takes_ids, closes_device, touch_is_down, says_touch}
use Rattle.ei_record.proofs.laws.rows.Goals as goal

pub returns : goal.returns
unfolding wrong_from is_wrong is_there mask_before gives_mask next_device takes_ids closes_device touch_is_down says_touch last_said occurs total joined interfaces_of
returns c = (refl, refl, refl, refl)
