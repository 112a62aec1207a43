-- A step that removes a device.
use Rattle.std.proofs.Common.{◌≡◌, ℕ, true, false, List, [], ◌∷◌, ◌++◌, set, Option, Some, None, refl, sym, ap, subst, ◌∙◌}
use Rattle.std.specs.Prelude.{not}
use Rattle.ei_spec.specs.Interface.{ObjectView}
use Rattle.ei_ends.specs.Sent.{Sent}
use Rattle.ei_ends.specs.Way.{onto}
use Rattle.ei_linked.specs.declared.side.Side.TheVariants as side
use Rattle.ei_linked.specs.TwoEnds.{end_of}
use Rattle.ei_request.specs.Keys.{DeviceKey}
use Rattle.ei_request.specs.Converter.{ConverterView as ServerConverter}
use Rattle.ei_acts.specs.Acting as act
use Rattle.ei_acts.specs.Acting.{Act, sent_by}
use Rattle.ei_acts.specs.Allowed.{announced_by}
use Rattle.ei_acts.specs.Sendable.{IsEndOf}
use Rattle.ei_acts.proofs.Joining.{announced_same}
use Rattle.ei_promises.specs.declared.calls.ServerCall.TheVariants as call
use Rattle.ei_promises.specs.declared.calls.Made.{Made}
use Rattle.ei_promises.specs.Pair.{PairView}
use Rattle.ei_promises.proofs.ServerKeeps.{pair_joined}
use Rattle.ei_pair.specs.Stepped.{IsKept}
use Rattle.ei_emitting.specs.Emitted.{Remove, is_bad}
use Rattle.ei_emitting.specs.Emits.{Emits}
use Rattle.ei_emitting.proofs.Removing.{removes}
use Rattle.ei_emit.specs.declared.step.EmitStep.TheVariants as step
use Rattle.ei_emit.specs.Held.{held_at}
use Rattle.ei_emit.specs.Steps.{is_bad_step}
use Rattle.ei_emit.specs.Stands.{Script, Stands, AreDevices, emitter, StandsFor, PerformsOne}
use Rattle.ei_emit.specs.Performing.{HasMade}
use Rattle.ei_emit.proofs.Calling.{onto_front, Speaks, speaks_of, does, spoke, performs_by}
use Rattle.ei_emit.proofs.Numbered.{without}
use Rattle.ei_emit.proofs.Telling.{held_key, not_held}

module _ {H : Type 0} (s : Script) (p : PairView H) (seat : ObjectView) (devices : List (Option DeviceKey)) (stood : StandsFor s (emitter p seat devices)) where
  abbrev st : Stands s p
  st = stood.pair

  abbrev server : ServerConverter
  server = st.served.server

  -- the server's end has the connection
  pub its_end : IsKept p → IsEndOf (end_of side.Server p.ends) server.handle
  its_end kept = record {
    client = end_of side.Client p.ends;
    to_client = p.ends.to_client;
    to_server = p.ends.to_server;
    joined = pair_joined p kept.pair st.served.whole;
    backend = sym st.served.endpoint;
  }

  module _ (number : ℕ) where
    pub bad_removal : held_at devices number ≡ None → is_bad_step s.before (step.Remove number) ≡ true
    unfolding is_bad
    bad_removal e = ap not (not_held s.before devices number stood.devices e)

    pub removed : (key : DeviceKey) (q : PairView H) (answer : Made) (left : List (Option DeviceKey)) → held_at devices number ≡ Some key → left ≡ set devices number None → IsKept p →
        HasMade (call.RemoveDevice key) p answer q → PerformsOne s (step.Remove number) (emitter p seat devices) (emitter q seat left)
    unfolding is_bad
    removed key q answer left e l kept m =
        let h = held_key s.before devices number key stood.devices e in
        let speaks : Speaks st.said server p = speaks_of s p st in
        let d = does p q st.said server speaks (call.RemoveDevice key) answer m in
        let good : is_bad s.before (Remove number) ≡ false = ap not h.0 in
        let a : Act = act.RemovesDevice key in
        let same : announced_by (end_of side.Server p.ends).sent a server.handle ≡ sent_by a server.handle =
        announced_same a (end_of side.Server p.ends) server.handle (its_end kept) st.served.emits.stands.there in
        let behind : onto (sent_by a server.handle) st.said ≡ onto (announced_by (end_of side.Server p.ends).sent a server.handle) [] ++ st.said =
        ap (λ (l : List Sent). onto l st.said) (sym same) ∙ onto_front (announced_by (end_of side.Server p.ends).sent a server.handle) st.said in
        performs_by s (step.Remove number) p q seat devices left stood _ _ (spoke p q st.said server speaks (call.RemoveDevice key) answer m refl) good
        (subst (λ (l : List Sent). Emits s.start (Remove number ∷ s.before) d.left l) behind (removes s.start s.before server.handle d.left st.said number key st.served.emits good h.1 d.makes))
        (subst (AreDevices (Remove number ∷ s.before)) (sym l) (without s.before number devices good stood.devices))
