-- What holds once some steps were carried out, and all that the client reports of them was given.
use Rattle.std.proofs.Common.{◌≡◌, ℕ, List, [], ◌∷◌, ◌++◌, map, Option, refl, sym, ap, ◌∙◌, append_assoc, arith}
use Rattle.std.proofs.lemmas.List.{append-nil, map-append}
use Rattle.ei_reported.specs.Reported.{Report, reported}
use Rattle.ei_told.specs.Told.{event_of}
use Rattle.ei_event.specs.declared.event.EiEvent.{EiEvent}
use Rattle.ei_event.specs.Core.{report_of}
use Rattle.ei_promises.specs.Pair.{ClientStage, PairView}
use Rattle.ei_emitting.specs.Emitted.{Step, emitted}
use Rattle.ei_emit.specs.declared.step.EmitStep.{EmitStep}
use Rattle.ei_emit.specs.Steps.{step_of}
use Rattle.ei_emit.specs.Heard.{Gave}
use Rattle.ei_emit.specs.Queued.{queue_in, GivesFront}
use Rattle.ei_emit.specs.Stands.{Script, with_step, Stands, EmitterView, emitter, StandsFor, Begins, PlaysOne}
use Rattle.ei_emit.specs.Emits.{EmitsWhole, EmitsInPart}
use Rattle.ei_emit.proofs.Fronts.{emitted_prefix}
use Rattle.ei_emit.proofs.Hearing.{gave_more}
use Rattle.ei_emit.proofs.HandedOut.{emptied_pair, given_out, none_left_in}

abbrev pub script : ℕ → List Step → List ℕ → List EiEvent → Script
script start before readings given = record { start = start; before = before; readings = readings; given = given }

-- The emitter carried these steps out, the newest first, with readings that the clock gave, and the events grew by all that its client
-- reports.
pub record HasEmitted {H : Type 0} (start : ℕ) (before : List Step) (told now : Option (List ℕ)) (old new : List EiEvent) (e : EmitterView H) : Type 0 where
  pub readings : List ℕ
  pub given : List EiEvent
  pub stands : StandsFor (script start before readings given) e
  pub gave : Gave readings told now
  pub grew : new ≡ old ++ given
  pub none_queued : queue_in e.pair.client ≡ []

-- ---- what is told of the steps was given, or is queued

module _ {H : Type 0} (s : Script) (p : PairView H) (t : Stands s p) (later : List ℕ) where
  pub told_so : reported s.start (s.readings ++ later) (map event_of t.said) ≡ map report_of s.given ++ map report_of (queue_in p.client)
  unfolding reported
  told_so =
      t.followed.accounts.told later
      ∙ ap (λ (k : ClientStage H). map report_of s.given ++ map report_of (queue_in k)) (sym t.followed.follows)

  pub emitted_so : emitted s.start (s.readings ++ later) s.before ≡ map report_of s.given ++ map report_of (queue_in p.client)
  emitted_so = sym (t.served.emits.told.reports (s.readings ++ later)) ∙ told_so

-- a front of what is queued was given, or nothing
pub given_in_part : {H : Type 0} (s : Script) (e : EmitterView H) (more : List Step) (told now : Option (List ℕ)) (old middle new : List EiEvent) → StandsFor s e → Gave s.readings told now → middle ≡ old ++ s.given → GivesFront (queue_in e.pair.client) middle new →
    EmitsInPart s.start (more ++ s.before) told old new
given_in_part s e more told now old middle new t gave grew f = record {
  readings = s.readings;
  are = gave.are;
  events = s.given ++ f.given;
  grew = f.grew ∙ ap (λ (l : List EiEvent). l ++ f.given) grew ∙ append_assoc old s.given f.given;
  front = λ later.
      let longer = emitted_prefix s.start (s.readings ++ later) more s.before in (
        map report_of f.left ++ longer.0,
        longer.1
            ∙ ap (λ (l : List Report). l ++ longer.0) (
            emitted_so s e.pair t.pair later
            ∙ ap (λ (q : List EiEvent). map report_of s.given ++ map report_of q) f.front
            ∙ ap (λ (l : List Report). map report_of s.given ++ l) (map-append report_of f.given f.left)
            ∙ sym (append_assoc (map report_of s.given) (map report_of f.given) (map report_of f.left))
            ∙ ap (λ (l : List Report). l ++ map report_of f.left) (sym (map-append report_of s.given f.given))
            )
            ∙ append_assoc (map report_of (s.given ++ f.given)) (map report_of f.left) longer.0,
      );
}

-- nothing of what is queued was given
pub none_of : (queue events : List EiEvent) → GivesFront queue events events
none_of queue events = record { given = []; left = queue; front = refl; grew = sym (append-nil events) }

-- ---- how it begins and goes on

-- what the client reported of the handshake and the seat was given
pub begun : {H : Type 0} (start : ℕ) (told now : Option (List ℕ)) (old new : List EiEvent) (e : EmitterView H) (p : PairView H) → Begins start told now e → p ≡ emptied_pair e.pair → new ≡ old ++ queue_in e.pair.client →
    HasEmitted start [] told now old new (emitter p e.seat e.devices)
begun start told now old new e p b is grew = record {
  readings = b.readings;
  given = queue_in e.pair.client;
  stands = given_out (script start [] b.readings []) e p b.stands is;
  gave = b.gave;
  grew = grew;
  none_queued = none_left_in p e.pair is;
}

module _ {H : Type 0} (start : ℕ) (before : List Step) (told now : Option (List ℕ)) (old new : List EiEvent) (e : EmitterView H) (h : HasEmitted start before told now old new e) where
  abbrev so : Script
  so = script start before h.readings h.given

  -- one more step, and what the client reports of it was given
  pub went_on : (step : EmitStep) (later : Option (List ℕ)) (newer : List EiEvent) (left : EmitterView H) (p : PairView H) → PlaysOne so step now later left → p ≡ emptied_pair left.pair → newer ≡ new ++ queue_in left.pair.client →
      HasEmitted start (step_of step ∷ before) told later old newer (emitter p left.seat left.devices)
  went_on step later newer left p o is grew = record {
    readings = h.readings ++ o.used;
    given = h.given ++ queue_in left.pair.client;
    stands = given_out (with_step (step_of step) o.used so) left p o.stands is;
    gave = gave_more h.readings o.used told now later h.gave o.gave;
    grew = grew ∙ ap (λ (l : List EiEvent). l ++ queue_in left.pair.client) h.grew ∙ append_assoc old h.given (queue_in left.pair.client);
    none_queued = none_left_in p left.pair is;
  }

  -- one more step, and a front of what the client reports of it was given
  pub part_on : (step : EmitStep) (more : List Step) (later : Option (List ℕ)) (newer : List EiEvent) (left : EmitterView H) → PlaysOne so step now later left → GivesFront (queue_in left.pair.client) new newer → EmitsInPart start (more ++ step_of step ∷ before) told old newer
  part_on step more later newer left o f = given_in_part (with_step (step_of step) o.used so) left more told later old new newer o.stands (gave_more h.readings o.used told now later h.gave o.gave) h.grew f

  -- ---- what it comes to

  -- a front of what is told of more steps
  pub in_part : (more : List Step) → EmitsInPart start (more ++ before) told old new
  in_part more = given_in_part so e more told now old new new h.stands h.gave h.grew (none_of (queue_in e.pair.client) new)

  all_given : map report_of h.given ++ map report_of (queue_in e.pair.client) ≡ map report_of h.given
  all_given = ap (λ (q : List EiEvent). map report_of h.given ++ map report_of q) h.none_queued ∙ append-nil (map report_of h.given)

  -- all that is told of these
  pub in_whole : EmitsWhole start before told now old new e.pair
  in_whole = record {
    emits = record {
      readings = h.readings;
      gave = h.gave;
      events = h.given;
      grew = h.grew;
      emits = λ later. emitted_so so e.pair h.stands.pair later ∙ all_given;
    };
    reported = record {
      whole = h.stands.pair.served.whole;
      all = h.stands.pair.all;
      none_missed = h.stands.pair.followed.none_missed;
      said = h.stands.pair.said;
      behind = h.stands.pair.served.behind;
      reports = λ later. told_so so e.pair h.stands.pair later ∙ all_given;
      none_waits = h.none_queued;
    };
  }

-- an emitter that has given nothing
pub nothing_given : (start : ℕ) (before : List Step) (told : Option (List ℕ)) (events : List EiEvent) → EmitsInPart start before told events events
nothing_given start before told events = record {
  readings = [];
  are = λ readings is k lt. absurd (omega (arith, lt));
  events = [];
  grew = sym (append-nil events);
  front = λ later. (emitted start later before, refl);
}
