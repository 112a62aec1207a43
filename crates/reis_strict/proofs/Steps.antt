-- What a judged deed leaves of the devices.
use Rattle.std.proofs.Common.{◌≡◌, Some, sym, ap, ◌∙◌, Result, Ok, Err}
use Rattle.std.specs.FinMap.{get, insert}
use Rattle.std.specs.Result.{IfOk, OnErr}
use Rattle.ei_wire.specs.declared.error.NoMemory.{NoMemory}
use Rattle.reis_strict.specs.declared.act.Act.{Act}
use Rattle.reis_strict.specs.declared.device.KnownDevice.{KnownDevice}
use Rattle.reis_strict.specs.declared.verdict.Verdict.{Verdict}
use Rattle.reis_strict.specs.declared.verdict.Verdict.TheVariants as verdict
use Rattle.reis_strict.specs.Devices.{behind, with_judged}
use Rattle.reis_strict.specs.View.{StrictView, with_devices}
use Rattle.reis_strict.proofs.Same.{same}

module _ (act : Act) (s : StrictView) (old new : KnownDevice) (found : get s.devices act.device ≡ Some old) where
  judged_device : (v : Verdict) → new ≡ behind v act.deed old → insert s.devices act.device new ≡ with_judged v (Some act) s.devices
  judged_device verdict.Pass e = rw found (ap (insert s.devices act.device) e)
  judged_device verdict.Drop e = ap (insert s.devices act.device) e ∙ sym (same s.devices act.device old found)
  judged_device (verdict.End why) e = ap (insert s.devices act.device) e ∙ sym (same s.devices act.device old found)

  pub judged_devices : (r : Result Verdict NoMemory) → IfOk r (λ v. new ≡ behind v act.deed old) →
      IfOk r (λ v. with_devices s (insert s.devices act.device new) ≡ with_devices s (with_judged v (Some act) s.devices))
  judged_devices (Ok v) e = ap (with_devices s) (judged_device v e)
  judged_devices (Err why) e = tt

  pub kept_devices : (r : Result Verdict NoMemory) → OnErr r (new ≡ old) → OnErr r (with_devices s (insert s.devices act.device new) ≡ s)
  kept_devices (Ok v) e = tt
  kept_devices (Err why) e = ap (with_devices s) (ap (insert s.devices act.device) e ∙ sym (same s.devices act.device old found))
