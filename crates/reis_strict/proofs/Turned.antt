-- What the last turn leaves, behind turns at which requests were dropped.
use Rattle.std.proofs.Common.{◌≡◌, Option, Some, None, sym, ap, subst, ◌∙◌}
use Rattle.ei_request.specs.declared.event.EisRequest.{EisRequest}
use Rattle.reis_eis.specs.Words.{queue_in}
use Rattle.reis_eis.specs.Acting.{IsKept}
use Rattle.reis_eis.specs.View.{EisView}
use Rattle.reis_strict.specs.Acts.{act_of}
use Rattle.reis_strict.specs.Devices.{with_act}
use Rattle.reis_strict.specs.View.{StrictView}
use Rattle.reis_strict.specs.Sifting.{Sifted, NonePasses, Passes, EndsBy, waiting, with_requests, ChangesRequests, sifting, passing, behind, undropped, devices_behind, EndsClient, Tells, WantsMemory}
use Rattle.reis_strict.specs.Turning.{NoneWaits, IsDropped, IsPassed, IsEnded, IsHeld}
use Rattle.reis_strict.proofs.Waiting.{as_changed, changes_twice, wants_the_same}

-- behind such turns
pub record Dropping (s : StrictView) (c : EisView) (t : StrictView) (d : EisView) : Type 0 where
  pub sifts : sifting s c ≡ sifting t d
  pub devices : t.devices ≡ s.devices
  pub requests : ChangesRequests c d

-- what an answer that isn't for want of memory leaves
pub record Leaves (request : Option EisRequest) (s : StrictView) (c : EisView) (t : StrictView) (d : EisView) : Type 0 where
  pub passes : request ≡ passing (sifting s c)
  pub waits : waiting t d ≡ behind (sifting s c)
  pub devices : t.devices ≡ devices_behind (sifting s c) s.devices
  pub tells : Tells (sifting s c) c d

-- what want of memory leaves
pub record Keeps (s : StrictView) (c : EisView) (t : StrictView) (d : EisView) : Type 0 where
  pub held : waiting t d ≡ undropped (sifting s c)
  pub known : t.devices ≡ s.devices
  pub kept : IsKept (with_requests c (queue_in d.phase)) d
  pub wants : WantsMemory (sifting s c) c

module _ (s u t : StrictView) (c b d : EisView) (before : Dropping s c u b) where
  pub one_more : IsDropped u b t d → Dropping s c t d
  one_more e = record {
    sifts = before.sifts ∙ e.sifts;
    devices = e.devices ∙ before.devices;
    requests = changes_twice c b d before.requests e.requests;
  }

  pub none_waits : NoneWaits u b t d → Leaves None s c t d
  none_waits e =
      let all : sifting s c ≡ NonePasses = before.sifts ∙ e.sifts in
      record {
        passes = ap passing (sym all);
        waits = e.waits ∙ ap behind (sym all);
        devices = e.devices ∙ before.devices ∙ ap (λ (x : Sifted). devices_behind x s.devices) (sym all);
        tells = subst (λ (x : Sifted). Tells x c d) (sym all) (changes_twice c b d before.requests e.requests);
      }

  pub passed : (request : EisRequest) → IsPassed request u b t d → Leaves (Some request) s c t d
  passed request e =
      let all : sifting s c ≡ Passes request (waiting t d) = before.sifts ∙ e.sifts in
      record {
        passes = ap passing (sym all);
        waits = ap behind (sym all);
        devices = e.devices ∙ ap (with_act (act_of request)) before.devices ∙ ap (λ (x : Sifted). devices_behind x s.devices) (sym all);
        tells = subst (λ (x : Sifted). Tells x c d) (sym all) (changes_twice c b d before.requests e.requests);
      }

  pub ended : IsEnded u b t d → Leaves None s c t d
  ended e =
      let all : sifting s c ≡ EndsBy e.request e.why (waiting t d) = before.sifts ∙ e.sifts in
      let ends : EndsClient e.why (with_requests c (queue_in d.phase)) d =
      subst (λ (x : EisView). EndsClient e.why x d) (as_changed c b (queue_in d.phase) before.requests) e.ends in
      record {
        passes = ap passing (sym all);
        waits = ap behind (sym all);
        devices = e.devices ∙ ap (λ (x : Sifted). devices_behind x s.devices) (sym all);
        tells = subst (λ (x : Sifted). Tells x c d) (sym all) ends;
      }

  pub held : IsHeld u b t d → Keeps s c t d
  held e = record {
    held = e.waits ∙ ap undropped (sym before.sifts);
    known = e.devices ∙ before.devices;
    kept = subst (λ (x : EisView). IsKept x d) (as_changed c b (queue_in d.phase) before.requests) e.kept;
    wants = subst (λ (x : Sifted). WantsMemory x c) (sym before.sifts) (wants_the_same c b before.requests (sifting u b) e.wants);
  }
