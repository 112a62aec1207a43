-- A client that knows what a server has, and still does behind one more message.
use Rattle.std.proofs.Common.{◌≡◌, ℕ, ◌+◌, ◌-◌, ◌≤◌, ◌<◌, Bool, true, false, cond, eqb, ltb, List, [], ◌∷◌, length, Option, Some, None, refl, sym, ap, subst, ◌∙◌, arith}
use Rattle.std.specs.Prelude.{slice_get}
use Rattle.std.specs.Option.{option_or}
use Rattle.std.proofs.lemmas.Bool.{eqb-true, ltb-true}
use Rattle.std.proofs.lemmas.Bool.Decides.{nat_tests}
use Rattle.ei_spec.specs.declared.interface.KnownInterface.{KnownInterface}
use Rattle.ei_spec.specs.declared.interface.KnownInterface.TheVariants as known
use Rattle.ei_spec.specs.Message.{Raw}
use Rattle.ei_backend.specs.Table.{found}
use Rattle.ei_backend.specs.Backend.{BackendView, unsent_of}
use Rattle.ei_session.specs.Setup.{connection_id, seat_id}
use Rattle.ei_session.specs.Handshake.{connected, version}
use Rattle.ei_session.specs.Devices.{interfaces_of, made, next_id}
use Rattle.ei_session.specs.Objects.{Entry, interface_entry, new_device, introduces, removes, object}
use Rattle.ei_session.proofs.DeviceRange.{ids_some}
use Rattle.ei_session.proofs.GoneLaws.{no_finish_again}
use Rattle.ei_session.proofs.KeptByRequests.{same_next_id}
use Rattle.ei_session.proofs.NextLaws.{own_below, own_connected}
use Rattle.ei_session.proofs.ObjectLaws.{changed, object_more, given_by, object_new}
use Rattle.ei_session.proofs.ObjectShape.{next_id_more}
use Rattle.ei_session.proofs.FirstObjects.{the_connection}
use Rattle.ei_playing.specs.Playing.{shaken}
use Rattle.ei_playing.proofs.Early.{shaken_next, shaken_objects}
use Rattle.ei_playing.proofs.Wants.{the_seat}
use Rattle.ei_player.specs.Objects.{IsAt, IsOf, with_peer, Announces, Knows}
use Rattle.ei_player.proofs.Announcing.{at_new, kept}

-- ---- behind the handshake

module _ (b : BackendView) where
  -- with the connection and its seat
  abbrev pub with_first : BackendView
  with_first = with_peer (with_peer b connection_id known.Connection 1) seat_id known.Seat 2

  first_case : (id : ℕ) (i : KnownInterface) (c s : Bool) → eqb id connection_id ≡ c → eqb id seat_id ≡ s → IsOf i (cond c (Some the_connection) (cond s (Some the_seat) None)) → IsAt i id (found with_first.table id)
  first_case id i true s e f is =
      let at : id ≡ connection_id = eqb-true id connection_id e in
      rw (at, ← is) (subst (IsAt known.Connection connection_id) {x = found (with_peer b connection_id known.Connection 1).table connection_id} (sym (kept (with_peer b connection_id known.Connection 1) seat_id connection_id known.Seat 2 refl)) (at_new b connection_id known.Connection 1))
  first_case id i false true e f is =
      let at : id ≡ seat_id = eqb-true id seat_id f in
      rw (at, ← is) (at_new (with_peer b connection_id known.Connection 1) seat_id known.Seat 2)
  first_case id i false false e f is = absurd is

  pub knows_first : b.table.client ≡ true → unsent_of b ≡ record { bytes = []; handles = [] } → Knows shaken with_first
  knows_first client unsent = record {
    client = client;
    objects = λ id i is. first_case id i (eqb id connection_id) (eqb id seat_id) refl refl (subst (IsOf i) (shaken_objects id) is);
    next = let next = shaken_next in omega (arith, next);
    unsent = unsent;
  }

-- ---- behind one more message

module _ (past : List Raw) (m : Raw) (on : connected past ≡ true) where
  -- where it makes no device, what is there was there
  was_there : made past m ≡ None → (id : ℕ) (i : KnownInterface) → IsOf i (object (m ∷ past) id) → IsOf i (object past id)
  was_there none id i is =
      let new : introduces past m id ≡ None = given_by past m id (no_finish_again past m on) ∙ rw none refl in
      by (removes past m id) (subst (IsOf i) (object_more past m id ∙ ap (λ (o : Option Entry). changed o (removes past m id) (object past id)) new) is)
    where
      by : (r : Bool) → IsOf i (changed None r (object past id)) → IsOf i (object past id)
      by true h = absurd h
      by false h = h

  pub knows_same : (b : BackendView) → Knows past b → made past m ≡ None → Knows (m ∷ past) b
  knows_same b k none = record {
    client = k.client;
    objects = λ id i is. k.objects id i (was_there none id i is);
    next = let same = same_next_id past m none in let next = k.next in omega (arith, same, next);
    unsent = k.unsent;
  }

  module _ (b new : BackendView) (k : Knows past b) (mask : ℕ) (is_made : made past m ≡ Some mask) (a : Announces (next_id past) (interfaces_of mask) b new) where
    none_above : (id : ℕ) (i : KnownInterface) → next_id past ≤ id → IsOf i (object past id) → ⊥
    none_above id i high is = by (object past id) refl is
      where
        by : (o : Option Entry) → object past id ≡ o → IsOf i o → ⊥
        by None e h = h
        by (Some x) e h = let below = own_below past id x e in let own = own_connected past on in omega (arith, below, own, high)

    at_interface : (id : ℕ) (i : KnownInterface) (o : Option KnownInterface) → next_id past < id → slice_get (interfaces_of mask) (id - next_id past - 1) ≡ o →
        IsOf i (option_or (interface_entry past (next_id past) o) (object past id)) → IsAt i id (found new.table id)
    at_interface id i None above e is = absurd (none_above id i (omega (arith, above)) is)
    at_interface id i (Some j) above e is =
        let place : next_id past + 1 + (id - next_id past - 1) ≡ id = omega (arith, above) in
        subst (λ (n : ℕ). IsAt i n (found new.table n)) place (a.interfaces_are (id - next_id past - 1) i (e ∙ ap Some is))

    now_there : (id : ℕ) (i : KnownInterface) (c d : Bool) → eqb id (next_id past) ≡ c → ltb (next_id past) id ≡ d →
        IsOf i (option_or (new_device past (next_id past) (interfaces_of mask) id) (object past id)) → IsAt i id (found new.table id)
    unfolding new_device
    now_there id i true d e f is =
        let at : id ≡ next_id past = eqb-true id (next_id past) e in
        let one : known.Device ≡ i = rw e at is in
        rw (at, ← one) a.device_is
    now_there id i false true e f is = at_interface id i (slice_get (interfaces_of mask) (id - next_id past - 1)) (ltb-true (next_id past) id f) refl (rw (e, f) at is)
    now_there id i false false e f is =
        let below : id < next_id past = grind (arith, nat_tests, e, f) in
        subst (IsAt i id) (sym (a.below id below)) (k.objects id i (rw (e, f) at is))

    pub knows_more : Knows (m ∷ past) new
    knows_more = record {
      client = a.client ∙ k.client;
      objects = λ id i is. now_there id i (eqb id (next_id past)) (ltb (next_id past) id) refl refl (subst (IsOf i) (object_new past m mask id is_made) is);
      next = let next = next_id_more past m in let some = ids_some past m mask is_made in let peer = a.next in omega (arith, next, some, peer);
      unsent = a.same ∙ k.unsent;
    }
