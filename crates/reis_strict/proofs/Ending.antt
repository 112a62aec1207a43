-- A request that stood first and ends the client.
use Rattle.std.proofs.Common.{◌≡◌, List, ◌∷◌, Option, Some, None, refl, sym, ap, subst, ◌∙◌}
use Rattle.ei_input.specs.Queue.{first_of, rest_of}
use Rattle.ei_request.specs.Connection.{ConnectionView}
use Rattle.ei_request.specs.declared.event.EisRequest.{EisRequest}
use Rattle.reis_eis.specs.Words.{handle_in, queue_in}
use Rattle.reis_eis.specs.Acting.{IsKept}
use Rattle.reis_eis.specs.View.{EisView}
use Rattle.reis_strict.specs.declared.fault.Fault.{Fault}
use Rattle.reis_strict.specs.declared.verdict.Verdict.{Verdict}
use Rattle.reis_strict.specs.declared.verdict.Verdict.TheVariants as verdict
use Rattle.reis_strict.specs.declared.sifting.Turn.{Turn}
use Rattle.reis_strict.specs.declared.sifting.Turn.TheVariants as turn
use Rattle.reis_strict.specs.View.{StrictView}
use Rattle.reis_strict.specs.Sifting.{Sifted, EndsBy, before, waiting, with_requests, ChangesRequests, verdict_at, by_verdict, sifted, sifting, undropped, EndsClient, WantsMemory}
use Rattle.reis_strict.specs.Turning.{Turns, EndsOne}
use Rattle.reis_strict.proofs.Waiting.{front, left_in, ends_waiting, told_the_same}

module _ (s u t : StrictView) (c b d : EisView) (request : EisRequest) (why : Fault) where
  module _ (first : first_of (waiting s c) ≡ Some request) (rest : queue_in b.phase ≡ rest_of (waiting s c)) (devices : u.devices ≡ s.devices)
      (free : u.held ≡ None) (requests : ChangesRequests c b) (handle : handle_in b.phase ≡ handle_in c.phase)
      (judged : verdict.End why ≡ verdict_at (handle_in b.phase) request s.devices) where
    whole : waiting s c ≡ request ∷ queue_in b.phase
    whole = front (waiting s c) request first ∙ ap (λ (xs : List EisRequest). request ∷ xs) (sym rest)

    at_first : (v : Verdict) (later : Sifted) → verdict.End why ≡ v → by_verdict v request (queue_in b.phase) later ≡ EndsBy request why (queue_in b.phase)
    at_first v later e = subst (λ (w : Verdict). by_verdict w request (queue_in b.phase) later ≡ EndsBy request why (queue_in b.phase)) e refl

    sifts : sifting s c ≡ EndsBy request why (queue_in b.phase)
    sifts = ap (λ (xs : List EisRequest). sifted (handle_in c.phase) s.devices xs) whole
        ∙ at_first (verdict_at (handle_in c.phase) request s.devices) (sifted (handle_in c.phase) s.devices (queue_in b.phase))
        (judged ∙ ap (λ (h : Option ConnectionView). verdict_at h request s.devices) handle)

    -- the connection before it was told, with what waits behind it
    changed : queue_in d.phase ≡ queue_in b.phase → b ≡ with_requests c (queue_in d.phase)
    changed q = requests ∙ ap (with_requests c) (sym q)

    pub ended : (r : Turn) → EndsOne r request why u b t d → Turns r s c t d
    ended turn.NoneWaits e = absurd e
    ended turn.Dropped e = absurd e
    ended (turn.Passed other) e = absurd e
    ended turn.Ended e =
        let q : queue_in d.phase ≡ queue_in b.phase = ends_waiting why b d e.ends in
        let w : waiting t d ≡ queue_in b.phase = ap (λ (x : StrictView). waiting x d) e.strict ∙ ap (λ (o : Option EisRequest). before o (queue_in d.phase)) free ∙ q in
        record {
          request = request;
          why = why;
          sifts = sifts ∙ ap (EndsBy request why) (sym w);
          devices = ap (λ (x : StrictView). x.devices) e.strict;
          ends = subst (λ (x : EisView). EndsClient why x d) (changed q) e.ends;
        }
    ended turn.Held e =
        let q : queue_in d.phase ≡ queue_in b.phase = left_in b.phase d.phase e.kept.phase in
        record {
          waits = ap (λ (x : StrictView). waiting x d) e.strict ∙ ap (λ (xs : List EisRequest). request ∷ xs) q ∙ ap undropped (sym sifts);
          devices = ap (λ (x : StrictView). x.devices) e.strict ∙ devices;
          kept = subst (λ (x : EisView). IsKept x d) (changed q) e.kept;
          wants = subst (λ (x : Sifted). WantsMemory x c) (sym sifts) (sym (told_the_same why c b requests) ∙ e.untold);
        }
