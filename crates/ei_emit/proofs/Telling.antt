-- A step by which a held device tells something.
use Rattle.std.proofs.Common.{◌≡◌, ℕ, Bool, true, false, ◌||◌, List, ◌∷◌, Option, Some, None, refl, sym, ap, subst, ◌∙◌}
use Rattle.std.specs.Prelude.{not}
use Rattle.std.specs.Option.{option_map}
use Rattle.std.proofs.lemmas.Option.{same_Some}
use Rattle.ei_spec.specs.Interface.{ObjectView}
use Rattle.ei_ends.specs.Sent.{Sent}
use Rattle.ei_ends.specs.Way.{onto}
use Rattle.ei_request.specs.Keys.{DeviceKey}
use Rattle.ei_request.specs.Connection.{ConnectionView, holds_device}
use Rattle.ei_request.specs.Converter.{ConverterView as ServerConverter}
use Rattle.ei_acts.specs.Acting.{Makes}
use Rattle.ei_promises.specs.declared.calls.ServerCall.{ServerCall}
use Rattle.ei_promises.specs.declared.calls.ServerCall.TheVariants as call
use Rattle.ei_promises.specs.declared.calls.Made.{Made}
use Rattle.ei_promises.specs.Pair.{PairView}
use Rattle.ei_promises.specs.Calling.{object_at, act_of, messages_of, is_steady_call, MeetsServer}
use Rattle.ei_emitting.specs.Emitted.{Step, is_held, is_bad}
use Rattle.ei_emitting.specs.Emits.{Emits, IsKeyOf}
use Rattle.ei_emitting.proofs.Carrying as carrying
use Rattle.ei_emitting.proofs.Conditions as conditions
use Rattle.ei_emit.specs.declared.step.EmitStep.{EmitStep}
use Rattle.ei_emit.specs.declared.step.EmitStep.TheVariants as step
use Rattle.ei_emit.specs.Held.{held_at}
use Rattle.ei_emit.specs.Steps.{step_of, fits_step, is_bad_step}
use Rattle.ei_emit.specs.Stands.{Script, Stands, IsHeldAs, AreDevices, emitter, StandsFor, PerformsOne}
use Rattle.ei_emit.specs.Performing.{MayMake, HasMade, is_told, telling}
use Rattle.ei_emit.proofs.Calling.{onto_front, Speaks, speaks_of, does, spoke, performs_by}
use Rattle.ei_emit.proofs.Numbered.{changes_none, still}

-- ---- the device

-- one that is held
pub held_key : (before : List Step) (devices : List (Option DeviceKey)) (number : ℕ) (key : DeviceKey) → AreDevices before devices → held_at devices number ≡ Some key →
    (is_held before number ≡ true) × IsKeyOf before number key
held_key before devices number key a e = subst (IsHeldAs before number) e (a.held number)

-- or isn't
pub not_held : (before : List Step) (devices : List (Option DeviceKey)) (number : ℕ) → AreDevices before devices → held_at devices number ≡ None → is_held before number ≡ false
not_held before devices number a e = subst (IsHeldAs before number) e (a.held number)

named : (o : Option DeviceKey) (make : DeviceKey → ServerCall) (asked : ServerCall) → option_map make o ≡ Some asked → (key : DeviceKey) × (o ≡ Some key) × (make key ≡ asked)
named None make asked e = absurd cc
named (Some key) make asked e = (key, refl, same_Some (make key) asked e)

unnamed : (o : Option DeviceKey) (make : DeviceKey → ServerCall) → option_map make o ≡ None → o ≡ None
unnamed None make e = refl
unnamed (Some key) make e = absurd cc

-- whether the step is bad, where its values are of the kinds of its row
pub by_fit : (before : List Step) (s : EmitStep) → fits_step s ≡ true → is_bad_step before s ≡ is_bad before (step_of s)
by_fit before s e = ap (λ (b : Bool). not b || is_bad before (step_of s)) e

module _ {H : Type 0} (s : Script) (p : PairView H) (seat : ObjectView) (devices : List (Option DeviceKey)) (stood : StandsFor s (emitter p seat devices)) where
  abbrev st : Stands s p
  st = stood.pair

  abbrev server : ServerConverter
  server = st.served.server

  -- ---- before the call

  may_one : (number : ℕ) (make : DeviceKey → ServerCall) (asked : ServerCall) →
      ((key : DeviceKey) → holds_device server.handle key ≡ true → MeetsServer (make key) p.ends server.handle) → option_map make (held_at devices number) ≡ Some asked → MayMake asked p
  may_one number make asked meets e =
      let n = named (held_at devices number) make asked e in
      let h = held_key s.before devices number n.0 stood.devices n.1 in
      record {
        whole = st.served.whole;
        server = server;
        serves = st.served.serves;
        meets = subst (λ (c : ServerCall). MeetsServer c p.ends server.handle) n.2 (meets n.0 (conditions.device s.start s.before server.handle st.said number n.0 st.served.emits h.0 h.1));
      }

  pub may_tell : (one : EmitStep) (asked : ServerCall) → telling devices one ≡ Some asked → MayMake asked p
  may_tell (step.Start number sequence) asked e = may_one number (λ key. call.StartEmulating key sequence) asked (λ key h. h) e
  may_tell (step.Stop number) asked e = may_one number (λ key. call.StopEmulating key) asked (λ key h. h) e
  may_tell (step.Pause number) asked e = may_one number (λ key. call.Paused key) asked (λ key h. h) e
  may_tell (step.Resume number) asked e = may_one number (λ key. call.Resumed key) asked (λ key h. h) e
  may_tell (step.Frame number time) asked e = may_one number (λ key. call.Frame key time) asked (λ key h. h) e
  may_tell other asked e = absurd cc

  -- ---- where there is none

  bad_one : (one : EmitStep) (number : ℕ) (make : DeviceKey → ServerCall) → fits_step one ≡ true → is_bad s.before (step_of one) ≡ not (is_held s.before number) →
      option_map make (held_at devices number) ≡ None → is_bad_step s.before one ≡ true
  bad_one one number make fits bad e = by_fit s.before one fits ∙ bad ∙ ap not (not_held s.before devices number stood.devices (unnamed (held_at devices number) make e))

  pub bad_told : (one : EmitStep) → is_told one ≡ true → telling devices one ≡ None → is_bad_step s.before one ≡ true
  unfolding is_bad
  bad_told (step.Start number sequence) t e = bad_one (step.Start number sequence) number (λ key. call.StartEmulating key sequence) refl refl e
  bad_told (step.Stop number) t e = bad_one (step.Stop number) number (λ key. call.StopEmulating key) refl refl e
  bad_told (step.Pause number) t e = bad_one (step.Pause number) number (λ key. call.Paused key) refl refl e
  bad_told (step.Resume number) t e = bad_one (step.Resume number) number (λ key. call.Resumed key) refl refl e
  bad_told (step.Frame number time) t e = bad_one (step.Frame number time) number (λ key. call.Frame key time) refl refl e
  bad_told other t e = absurd cc

  -- ---- once the call was made

  module _ (q : PairView H) (asked : ServerCall) (answer : Made) (m : HasMade asked p answer q) where
    -- what the law of the step says
    abbrev Law : Step → ℕ → (DeviceKey → ServerCall) → Type 0
    Law one number make = (key : DeviceKey) (left : ConnectionView) → is_bad s.before one ≡ false → IsKeyOf s.before number key → Makes (act_of (make key) p.ends) server.handle left →
        Emits s.start (one ∷ s.before) left (onto (messages_of (make key) p.ends server.handle) st.said)

    told_one : (one : EmitStep) (number : ℕ) (make : DeviceKey → ServerCall) → fits_step one ≡ true → is_bad s.before (step_of one) ≡ not (is_held s.before number) →
        changes_none (step_of one) ≡ true →
        ((key : DeviceKey) → is_steady_call (make key) server.handle ≡ true) → Law (step_of one) number make →
        option_map make (held_at devices number) ≡ Some asked → PerformsOne s one (emitter p seat devices) (emitter q seat devices)
    told_one one number make fits bad none steady law e =
        let n = named (held_at devices number) make asked e in
        let h = held_key s.before devices number n.0 stood.devices n.1 in
        let made : HasMade (make n.0) p answer q = subst (λ (c : ServerCall). HasMade c p answer q) (sym n.2) m in
        let speaks : Speaks st.said server p = speaks_of s p st in
        let d = does p q st.said server speaks (make n.0) answer made in
        let good : is_bad s.before (step_of one) ≡ false = bad ∙ ap not h.0 in
        performs_by s one p q seat devices devices stood _ _ (spoke p q st.said server speaks (make n.0) answer made (steady n.0)) (by_fit s.before one fits ∙ good)
        (subst (λ (l : List Sent). Emits s.start (step_of one ∷ s.before) d.left l) (onto_front (messages_of (make n.0) p.ends server.handle) st.said) (law n.0 d.left good h.1 d.makes))
        (still s.before (step_of one) devices none good stood.devices)

    pub told : (one : EmitStep) → telling devices one ≡ Some asked → PerformsOne s one (emitter p seat devices) (emitter q seat devices)
    unfolding is_bad
    told (step.Start number sequence) e = told_one (step.Start number sequence) number (λ key. call.StartEmulating key sequence) refl refl refl (λ key. refl)
        (λ key left bad k made. carrying.starts s.start s.before server.handle left st.said number sequence key (object_at p.ends key.proxy.id) st.served.emits bad k made) e
    told (step.Stop number) e = told_one (step.Stop number) number (λ key. call.StopEmulating key) refl refl refl (λ key. refl)
        (λ key left bad k made. carrying.stops s.start s.before server.handle left st.said number key (object_at p.ends key.proxy.id) st.served.emits bad k made) e
    told (step.Pause number) e = told_one (step.Pause number) number (λ key. call.Paused key) refl refl refl (λ key. refl)
        (λ key left bad k made. carrying.pauses s.start s.before server.handle left st.said number key (object_at p.ends key.proxy.id) st.served.emits bad k made) e
    told (step.Resume number) e = told_one (step.Resume number) number (λ key. call.Resumed key) refl refl refl (λ key. refl)
        (λ key left bad k made. carrying.resumes s.start s.before server.handle left st.said number key (object_at p.ends key.proxy.id) st.served.emits bad k made) e
    told (step.Frame number time) e = told_one (step.Frame number time) number (λ key. call.Frame key time) refl refl refl (λ key. refl)
        (λ key left bad k made. carrying.frames s.start s.before server.handle left st.said number time key (object_at p.ends key.proxy.id) st.served.emits bad k made) e
    told other e = absurd cc
