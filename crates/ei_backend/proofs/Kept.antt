-- What a table is kept in, where an object comes or goes.
use Rattle.std.proofs.Common.{◌≡◌, ◌≤◌, ◌<◌, ◌+◌, ℕ, Bool, true, false, List, [], ◌∷◌, ◌++◌, sym, ap, subst, ◌∙◌}
use Rattle.ei_spec.specs.Interface.{ObjectView}
use Rattle.ei_keyed.specs.Keyed.{without_key}
use Rattle.ei_backend.specs.Table.{TableView, table_of, objects_in, AreIds, IsKept, is_own, own_end, peer_end, own_start, own_limit, first_object, first_server_id, by_id, without}
use Rattle.ei_backend.proofs.Objects.{more_objects, more_ids, ids_left, rises_left, objects_left}
use Rattle.ei_backend.proofs.OwnAndPeer.{own_ordered, peer_ordered, own_stands, peer_stands, own_left, peer_left, own_gone, peer_gone, new_client, new_server}

-- a new table
module _ (own peer : List (ℕ × ObjectView)) (client : Bool) (next_own places : ℕ) (o : ObjectView) (is : o ≡ first_object client) (from : own_start client ≤ next_own) (to : next_own ≤ own_limit client) where
  first_ids : (xs : List (ℕ × ObjectView)) → xs ≡ (0, o) ∷ [] → AreIds xs
  first_ids xs e = subst AreIds (sym e) (ap (λ (x : ObjectView). x.id) (sym is), tt)

  no_ids : (xs : List (ℕ × ObjectView)) → xs ≡ [] → AreIds xs
  no_ids xs e = subst AreIds (sym e) tt

  pub client_kept : client ≡ true → own ≡ (0, o) ∷ [] → peer ≡ [] → IsKept own peer (table_of (objects_in own) (objects_in peer) next_own first_server_id client 0) places
  client_kept is_client low high = record {
    own_ids = first_ids own low;
    peer_ids = no_ids peer high;
    stands = new_client (objects_in own) (objects_in peer) client next_own places o is_client is (ap objects_in low) (ap objects_in high) from to;
  }

  pub server_kept : client ≡ false → own ≡ [] → peer ≡ (0, o) ∷ [] → IsKept own peer (table_of (objects_in own) (objects_in peer) next_own 1 client 0) places
  server_kept is_server high low = record {
    own_ids = no_ids own high;
    peer_ids = first_ids peer low;
    stands = new_server (objects_in own) (objects_in peer) client next_own places o is_server is (ap objects_in high) (ap objects_in low) from to;
  }

module _ (own peer : List (ℕ × ObjectView)) (next_own next_peer : ℕ) (client : Bool) (room places : ℕ) (h : IsKept own peer (table_of (objects_in own) (objects_in peer) next_own next_peer client room) places) where
  abbrev this : TableView
  this = table_of (objects_in own) (objects_in peer) next_own next_peer client room

  -- the next own object comes
  pub own_more : (o : ObjectView) (own' : List (ℕ × ObjectView)) (places' : ℕ) → o.id ≡ next_own → own' ≡ own ++ (next_own, o) ∷ [] → next_own < own_end this → places ≤ places' + 1 →
      IsKept own' peer (table_of (objects_in own') (objects_in peer) (next_own + 1) next_peer client room) places'
  own_more o own' places' id is lt left = record {
    own_ids = subst AreIds (sym is) (more_ids own next_own o h.own_ids (sym id));
    peer_ids = h.peer_ids;
    stands = own_stands _ _ _ _ _ _ _ h.stands o (objects_in own') places' id (ap objects_in is ∙ more_objects own next_own o) lt left;
  }

  -- an object of the peer comes
  pub peer_more : (id : ℕ) (o : ObjectView) (peer' : List (ℕ × ObjectView)) → o.id ≡ id → peer' ≡ peer ++ (id, o) ∷ [] → next_peer ≤ id → id < peer_end this →
      IsKept own peer' (table_of (objects_in own) (objects_in peer') next_own (id + 1) client room) places
  peer_more id o peer' same is low high = record {
    own_ids = h.own_ids;
    peer_ids = subst AreIds (sym is) (more_ids peer id o h.peer_ids (sym same));
    stands = peer_stands _ _ _ _ _ _ _ h.stands id o (objects_in peer') same (ap objects_in is ∙ more_objects peer id o) low high;
  }

  -- an object goes
  pub own_less : (own' : List (ℕ × ObjectView)) (k places' : ℕ) → is_own client k ≡ true → own' ≡ without_key k own → places ≤ places' →
      IsKept own' peer (table_of (objects_in own') (objects_in peer) next_own next_peer client room) places' × (table_of (objects_in own') (objects_in peer) next_own next_peer client room ≡ without this k)
  own_less own' k places' mine is left =
      let gone = ap (λ (xs : List (ℕ × ObjectView)). by_id (objects_in xs)) is ∙ objects_left own k h.own_ids (own_ordered _ _ _ _ h.stands) in (
        record {
          own_ids = subst AreIds (sym is) (ids_left own k h.own_ids);
          peer_ids = h.peer_ids;
          stands = own_left _ _ _ _ _ _ _ h.stands (objects_in own') k places' mine gone (λ from end r. rw is (rises_left own k from end r)) left;
        },
        own_gone _ _ _ _ _ _ _ h.stands (objects_in own') k mine gone,
      )

  pub peer_less : (peer' : List (ℕ × ObjectView)) (k : ℕ) → is_own client k ≡ false → peer' ≡ without_key k peer →
      IsKept own peer' (table_of (objects_in own) (objects_in peer') next_own next_peer client room) places × (table_of (objects_in own) (objects_in peer') next_own next_peer client room ≡ without this k)
  peer_less peer' k other is =
      let gone = ap (λ (xs : List (ℕ × ObjectView)). by_id (objects_in xs)) is ∙ objects_left peer k h.peer_ids (peer_ordered _ _ _ _ h.stands) in (
        record {
          own_ids = h.own_ids;
          peer_ids = subst AreIds (sym is) (ids_left peer k h.peer_ids);
          stands = peer_left _ _ _ _ _ _ _ h.stands (objects_in peer') k other gone (λ from end r. rw is (rises_left peer k from end r));
        },
        peer_gone _ _ _ _ _ _ _ h.stands (objects_in peer') k other gone,
      )
