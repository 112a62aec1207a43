-- A device that is announced with what a call was given.
use Rattle.std.proofs.Common.{◌≡◌, ℕ, ◌≤◌, true, false, List, map, Option, Some, None, if◌then◌else◌, refl, ap, subst, arith}
use Rattle.std.specs.Str.{is_utf8}
use Rattle.ei_types.specs.Capability.{all_bits, bits_of}
use Rattle.ei_types.specs.declared.capability.DeviceCapabilities.{DeviceCapabilities}
use Rattle.ei_request.specs.declared.making.DeviceSetup.{DeviceSetup}
use Rattle.reis_eis.specs.declared.call_error.CallError.{CallError}
use Rattle.reis_eis.specs.View.{EisView}
use Rattle.reis_strict.specs.View.{StrictView}
use Rattle.reis_eis.specs.Refusals.{TellsOrWants, adding_device}
use Rattle.reis_eis.specs.Acting.{AddsDeviceAs, ActsOn, IsKept, refusal}
use Rattle.reis_c.specs.declared.device.ReisDevice.{ReisDevice}
use Rattle.reis_c.specs.declared.device.ReisRegion.{ReisRegion}
use Rattle.reis_c.specs.Numbers.{OK, NO_MEMORY, INVALID}
use Rattle.reis_c.specs.Answers.{refusal_number}
use Rattle.reis_c.specs.Connecting.{Tries, AddsDeviceTo, AnnouncesOr}
use Rattle.reis_c.specs.Describing.{item_of, items_of, is_wrong, type_of}
use Rattle.reis_c.specs.Given.{named, set_of, text_fault}
use Rattle.reis_c.proofs.Given.{nothing_wrong}
use Rattle.reis_c.specs.declared.connection.Handed.{Handed}
use Rattle.reis_c.proofs.Obliging.{behind, tried_ok, tried_err}

set_is : (set : DeviceCapabilities) (bits : ℕ) → bits_of set ≡ bits → set ≡ set_of bits
set_is set bits e = ap (λ n. set_of n) e

fault_none : (d : ReisDevice) (regions : List ReisRegion) (ids name : List ℕ) → is_wrong d regions ids ≡ false → is_utf8 name ≡ true
    → (if is_wrong d regions ids then Some INVALID else text_fault name) ≡ None
fault_none d regions ids name e f = rw (e, f) refl

module _ (seat : ℕ) (d : ReisDevice) (regions : List ReisRegion) (ids name : List ℕ) (text : Option (List ℕ)) (set : DeviceCapabilities)
    (setup : List DeviceSetup) (old new : EisView) (last : Handed) (p : Option StrictView) (id : ℕ) (within : d.capabilities ≤ all_bits)
    (set_bits : bits_of set ≡ d.capabilities) (fine : is_wrong d regions ids ≡ false) (is_text : is_utf8 name ≡ true) (text_is : text ≡ named name)
    (items : map item_of setup ≡ items_of d regions ids) where
  device_tries : (answer : ℕ) → (answer ≡ NO_MEMORY → IsKept old new)
      → Tries (adding_device seat text set setup) (AddsDeviceAs id seat text (type_of d) set setup) answer (behind old last p) (behind new last p)
      → AddsDeviceTo seat d regions ids name answer id (behind old last p) (behind new last p)
  device_tries answer kept tries =
      nothing_wrong d.capabilities (behind old last p) (behind new last p)
      (AnnouncesOr seat d regions ids name answer id (behind old last p) (behind new last p)) (if is_wrong d regions ids then Some INVALID else text_fault name)
      answer within (fault_none d regions ids name fine is_text) (record {
        announces = λ _. record {
          setup = setup;
          items = items;
          tries =
              subst (λ (s : DeviceCapabilities). Tries (adding_device seat (named name) s setup) (AddsDeviceAs id seat (named name) (type_of d) s setup) answer
              (behind old last p) (behind new last p)) (set_is set d.capabilities set_bits)
              (subst (λ (t : Option (List ℕ)). Tries (adding_device seat t set setup) (AddsDeviceAs id seat t (type_of d) set setup) answer (behind old last p)
              (behind new last p)) text_is tries);
        };
        kept = kept;
        handed = refl;
        policy = refl;
      })

  pub device_added : ActsOn (AddsDeviceAs id seat text (type_of d) set setup) old new → refusal (adding_device seat text set setup) old ≡ None
      → AddsDeviceTo seat d regions ids name OK id (behind old last p) (behind new last p)
  device_added done accepted =
      device_tries OK (λ h. absurd (omega (arith, h)))
      (tried_ok (adding_device seat text set setup) (AddsDeviceAs id seat text (type_of d) set setup) old new last p done accepted)

  pub device_refused : (e : CallError) → TellsOrWants (refusal (adding_device seat text set setup) old) e → IsKept old new
      → AddsDeviceTo seat d regions ids name (refusal_number e) id (behind old last p) (behind new last p)
  device_refused e why kept =
      device_tries (refusal_number e) (λ _. kept)
      (tried_err (adding_device seat text set setup) (AddsDeviceAs id seat text (type_of d) set setup) old new last p e why kept)
