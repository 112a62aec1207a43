-- A step that the server carried out comes to the client.
use Rattle.std.proofs.Common.{◌≡◌, ℕ, List, ◌∷◌, Option, sym, ap, subst, ◌∙◌}
use Rattle.ei_linked.specs.declared.side.Side.TheVariants as side
use Rattle.ei_linked.specs.TwoEnds.{end_of}
use Rattle.ei_spec.specs.Interface.{ObjectView}
use Rattle.ei_request.specs.Keys.{DeviceKey}
use Rattle.ei_emit.specs.declared.step.EmitStep.{EmitStep}
use Rattle.ei_emit.specs.Carried.{moment, IsCarried}
use Rattle.ei_emit.specs.Steps.{step_of}
use Rattle.ei_emit.specs.Stands.{EmitterView, Script, StandsFor, AreDevices, PerformsOne, PlaysOne}
use Rattle.ei_emit.proofs.Hearing.{HearingLaws}
use Rattle.ei_emit.proofs.Comes.{RestsSaid, Came, comes}

module _ {H : Type 0} (laws : HearingLaws) (rests : RestsSaid) (s : Script) (step : EmitStep) (old mid new : EmitterView H) (told now : Option (List ℕ)) (stood : StandsFor s old)
    (p : PerformsOne s step old mid) (c : IsCarried side.Client (moment mid.pair told) (moment new.pair now)) where
  came : Came s (step_of step ∷ s.before) told now new.pair
  came = comes laws rests s (step_of step ∷ s.before) p.said p.more (end_of side.Server old.pair.ends).sent mid.pair new.pair told now p.served p.sent p.followed p.taken c

  pub plays_one : new.seat ≡ mid.seat → new.devices ≡ mid.devices → PlaysOne s step told now new
  plays_one seat devices = record {
    good = p.good;
    used = came.used;
    gave = came.gave;
    stands = record {
      pair = came.stands;
      seat = ap (λ (o : ObjectView). o.id) (seat ∙ p.seat) ∙ stood.seat;
      devices = subst (λ (l : List (Option DeviceKey)). AreDevices (step_of step ∷ s.before) l) (sym devices) p.devices;
    };
  }
