-- What a pair keeps where a call of its server was refused: at most memory was made ready.
use Rattle.std.proofs.Common.{◌≡◌, Bool, true, false, [], ◌⊎◌, inl, inr, refl, sym, ap, subst, ◌∙◌}
use Rattle.ei_backend.specs.Endpoint.{endpoint_of}
use Rattle.ei_shaking.specs.Sending.{AreVersions}
use Rattle.ei_linked.specs.declared.side.Side.TheVariants as side
use Rattle.ei_linked.specs.Stored.{with_endpoint}
use Rattle.ei_linked.specs.TwoEnds.{WorldView, IsWorld, end_of, with_end}
use Rattle.ei_request.specs.Connection.{ConnectionView, Unchanged}
use Rattle.ei_request.specs.Converter.{ConverterView as ServerConverter}
use Rattle.ei_acts.specs.Sendable.{IsEndOf}
use Rattle.ei_acts.specs.Serving.{Serves as IsServer}
use Rattle.ei_acts.proofs.Quiet.{unchanged_quiet}
use Rattle.ei_acts.proofs.Serving.{serves_on}
use Rattle.ei_promises.specs.Pair.{ClientStage, Asks, Follows, Serves, IsPair}
use Rattle.ei_promises.specs.Keeping.{Keeps, AreAnswering, AreStuck}
use Rattle.ei_promises.proofs.ServerShakes.{pair}
use Rattle.ei_promises.proofs.ServerKeeps.{pair_joined, asking_keeps, following_keeps}
use Rattle.ei_pair.proofs.Written.{server_world}

pub refused_world : (w : WorldView) (c left : ConnectionView) → w.spent ≡ false → IsWorld w → c.ctx ≡ w.server.backend → Unchanged c left → IsWorld (with_end side.Server (with_endpoint left.ctx w.server) w)
refused_world w c left whole kept e u = server_world [] w left.ctx whole kept (record { endpoint = u.endpoint ∙ ap endpoint_of e; listed = tt })

-- both ends then, and the server's converter
abbrev pub refused_ends : WorldView → ConnectionView → WorldView
refused_ends w left = with_end side.Server (with_endpoint left.ctx w.server) w

abbrev pub refused_server : ServerConverter → ConnectionView → ServerConverter
refused_server c left = record c { handle = left }

settled : (c left : ConnectionView) → Unchanged c left → left.negotiated ≡ c.negotiated
settled c left u = ap (λ (d : ConnectionView). d.negotiated) u.rest

module _ {H : Type 0} (w : WorldView) (k : ClientStage H) (c : ServerConverter) (steady cw sw : Bool) (left : ConnectionView) (u : Unchanged c.handle left) (whole : w.spent ≡ false) (keeps : Keeps (pair w k (Serves c) steady cw sw))
    (ok_then : IsPair (pair (refused_ends w left) k (Serves (refused_server c left)) steady cw sw)) where
  serves_still : IsServer (end_of side.Server (refused_ends w left)) left steady
  serves_still =
      let joined = pair_joined (pair (refused_ends w left) k (Serves (refused_server c left)) steady cw sw) ok_then whole in
      let end : IsEndOf (end_of side.Server (refused_ends w left)) left = record { client = end_of side.Client w; to_client = w.to_client; to_server = w.to_server; joined = joined; backend = refl } in
      serves_on (end_of side.Server w) (end_of side.Server (refused_ends w left)) c.handle left steady (keeps.serving whole).0 end refl (unchanged_quiet c.handle left u)

  small : AreVersions left.negotiated
  small = subst AreVersions (sym (settled c.handle left u)) (keeps.serving whole).1

pub refused_keeps : {H : Type 0} (w : WorldView) (k : ClientStage H) (c : ServerConverter) (steady cw sw : Bool) (left : ConnectionView) → Unchanged c.handle left → w.spent ≡ false → Keeps (pair w k (Serves c) steady cw sw) →
    IsPair (pair (refused_ends w left) k (Serves (refused_server c left)) steady cw sw) → Keeps (pair (refused_ends w left) k (Serves (refused_server c left)) steady cw sw)
refused_keeps {H} w (Follows f) c steady cw sw left u whole keeps ok_then =
    following_keeps (refused_ends w left) f (refused_server c left) steady cw sw ok_then whole (keeps.same ∙ sym (settled c.handle left u))
    (serves_still {H = H} w (Follows f) c steady cw sw left u whole keeps ok_then) (small {H = H} w (Follows f) c steady cw sw left u whole keeps ok_then) (keeps.following whole)
refused_keeps {H} w (Asks k) c steady cw sw left u whole keeps ok_then =
    asking_keeps (refused_ends w left) k (Serves (refused_server c left)) steady cw sw (λ _. ((keeps.greeting whole).0, by (keeps.greeting whole).1))
    (λ _. (serves_still {H = H} w (Asks k) c steady cw sw left u whole keeps ok_then, small {H = H} w (Asks k) c steady cw sw left u whole keeps ok_then))
  where
    by : AreAnswering {H = H} k (pair w (Asks k) (Serves c) steady cw sw) ⊎ AreStuck {H = H} (pair w (Asks k) (Serves c) steady cw sw) →
        AreAnswering {H = H} k (pair (refused_ends w left) (Asks k) (Serves (refused_server c left)) steady cw sw) ⊎ AreStuck {H = H} (pair (refused_ends w left) (Asks k) (Serves (refused_server c left)) steady cw sw)
    by (inl a) = inl (record {
      serial = a.serial;
      small = a.small;
      shaking = a.shaking;
      server_misses = a.server_misses;
      client_misses = a.client_misses;
      server = (a.server.0, settled c.handle left u ∙ a.server.1);
      versions = a.versions;
      unhanded = a.unhanded;
    })
    by (inr a) = absurd (let d : true ≡ false = a.shakes in cc)
