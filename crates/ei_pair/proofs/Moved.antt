-- The ends of a pair have changed, and what holds the server's endpoint is as before but for that.
use Rattle.std.proofs.Common.{◌≡◌, refl, ap, ◌∙◌}
use Rattle.ei_backend.specs.Backend.{BackendView}
use Rattle.ei_linked.specs.Held.{Keeps}
use Rattle.ei_linked.specs.Ends.{EndsView, world_in}
use Rattle.ei_linked.specs.TwoEnds.{WorldView}
use Rattle.ei_handshake.specs.Handshaker.{HandshakerView}
use Rattle.ei_promises.specs.Pair.{ServerStage, PairView, HasEndpoint, on_endpoint, with_ends}
use Rattle.ei_pair.specs.declared.server_end.ServerEnd.{ServerEnd}
use Rattle.ei_pair.specs.declared.server_end.ServerEnd.TheVariants as end
use Rattle.ei_pair.specs.ServerEnd.{endpoint_in, with_endpoint_in}
use Rattle.ei_pair.specs.Parts.{PartsView, server_in, pair_in}

-- a server's stage has the endpoint that its end holds
pub has_endpoint : (h : HandshakerView) (s : ServerEnd) → HasEndpoint (server_in h s) (endpoint_in s)
has_endpoint h (end.Shaking b) = tt
has_endpoint h (end.Talking c) = refl

on_other : (h : HandshakerView) (s : ServerEnd) (b : BackendView) → server_in h (with_endpoint_in s b) ≡ on_endpoint b (server_in h s)
on_other h (end.Shaking x) b = refl
on_other h (end.Talking c) b = refl

pub server_on : (h : HandshakerView) (s t : ServerEnd) → t ≡ with_endpoint_in s (endpoint_in t) → server_in h t ≡ on_endpoint (endpoint_in t) (server_in h s)
server_on h s t e = ap (server_in h) e ∙ on_other h s (endpoint_in t)

-- so the pair has other ends, and all else as it was
pub moved : {H : Type 0} (p : PartsView H) (e : EndsView ServerEnd) → Keeps endpoint_in with_endpoint_in p.ends.server e.server → pair_in (record p { ends = e }) ≡ with_ends (world_in endpoint_in e) (pair_in p)
moved {H} p e keeps = ap (λ (s : ServerStage). let q : PairView H = record (pair_in (record p { ends = e })) { server = s } in q) (server_on p.tells p.ends.server.context e.server.context keeps)

pub moved_to : {H : Type 0} (p : PartsView H) (e : EndsView ServerEnd) (w : WorldView) → Keeps endpoint_in with_endpoint_in p.ends.server e.server → world_in endpoint_in e ≡ w → pair_in (record p { ends = e }) ≡ with_ends w (pair_in p)
moved_to {H} p e w keeps same = moved p e keeps ∙ ap (λ (v : WorldView). with_ends v (pair_in p)) same

same_stage : (h : HandshakerView) (s : ServerEnd) → on_endpoint (endpoint_in s) (server_in h s) ≡ server_in h s
same_stage h (end.Shaking b) = refl
same_stage h (end.Talking c) = refl

-- with the ends that it has it is the same
pub same_ends : {H : Type 0} (p : PartsView H) → with_ends (pair_in p).ends (pair_in p) ≡ pair_in p
same_ends {H} p = ap (λ (s : ServerStage). let q : PairView H = record (pair_in p) { server = s } in q) (same_stage p.tells p.ends.server.context)
