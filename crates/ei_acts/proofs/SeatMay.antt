-- The messages of a new seat may be sent.
use Rattle.std.proofs.Common.{◌≡◌, ℕ, ◌+◌, ◌<◌, ◌≤◌, ◌^◌, leb, ltb, Bool, true, false, cond, ◌&&◌, List, [], ◌∷◌, ◌++◌, map, Option, Some, None, refl, sym, ap, subst, ◌∙◌, arith, lit≤}
use Rattle.std.specs.Prelude.{unwrap_or}
use Rattle.std.specs.Str.{is_utf8}
use Rattle.std.specs.List.{list_all, filter_map}
use Rattle.std.specs.FinMap as finite
use Rattle.std.proofs.lemmas.Bool.{leb-true, ltb-false, eq-eqb, or_parts, and_parts}
use Rattle.ei_spec.specs.declared.interface.KnownInterface.{KnownInterface}
use Rattle.ei_spec.specs.declared.interface.KnownInterface.TheVariants as known
use Rattle.ei_spec.specs.declared.limits.TheConstants.{MOST_MESSAGE_BYTES}
use Rattle.ei_spec.specs.Interface.{Known, ObjectView, name_of}
use Rattle.ei_spec.specs.Message.{size, message}
use Rattle.ei_spec.specs.Rows.{Row}
use Rattle.ei_spec.specs.Value.{Long, Letters}
use Rattle.ei_spec.proofs.EachInterface.{of_each}
use Rattle.ei_spec.proofs.NameLaws.{name_text}
use Rattle.ei_types.specs.Capability.{capabilities, has_bit, bits_of}
use Rattle.ei_types.specs.declared.capability.DeviceCapabilities.{DeviceCapabilities}
use Rattle.ei_session.specs.Replies.{name_event}
use Rattle.ei_backend.specs.Table.{own_limit}
use Rattle.ei_backend.specs.Backend.{BackendView}
use Rattle.ei_ends.specs.Sent.{Sent, New, new_of, row_of}
use Rattle.ei_ends.specs.Announced.{announced, next_own, counts}
use Rattle.ei_ends.specs.Way.{HasNextId, End}
use Rattle.ei_ends.specs.Joined.{AreListedCalls}
use Rattle.ei_ends.proofs.Known.{Rising, not_yet, next_more}
use Rattle.ei_ends.proofs.JoinedSteps.{next_id_is}
use Rattle.ei_request.specs.Connection.{ConnectionView, version_in, is_settled}
use Rattle.ei_request.specs.Making.{is_long_name}
use Rattle.ei_shaking.specs.Sending.{AreVersions}
use Rattle.ei_acts.specs.Events as event
use Rattle.ei_acts.specs.Acts.{named, seat_version, offered, add_seat}
use Rattle.ei_acts.specs.Sendable.{Announces, AnnouncesIt, IsEndOf, IsText}
use Rattle.ei_acts.proofs.MaySend.{Fine, listed, rose_more, AreOrdinary, ordinary_both, alone, rose}

-- ---- a new object

pub announced_new : (sent : List Sent) (m : Sent) (n : New) → Rising true sent → new_of true m ≡ Some n → n.id ≡ next_own true sent → announced true (m ∷ sent) n.id ≡ Some n
unfolding announced
announced_new sent m n h new next =
    let none : announced true sent n.id ≡ None = not_yet true sent n.id h (omega (arith, next)) in
    rw (none, new, eq-eqb n.id n.id refl) refl

pub one_more_id : (sent : List Sent) (m : Sent) (n : New) → new_of true m ≡ Some n → next_own true (m ∷ sent) ≡ next_own true sent + 1
one_more_id sent m n new = next_more true m sent ∙ ap (λ (o : Option New). next_own true sent + counts o) new

pub next_of : (x : End) (c : ConnectionView) → IsEndOf x c → c.ctx.table.next_own ≡ next_own true x.sent
next_of x c e = ap (λ (b : BackendView). b.table.next_own) (sym e.backend) ∙ next_id_is true x e.client e.to_client e.to_server e.joined

pub version_small : (c : ConnectionView) (k : KnownInterface) → AreVersions c.negotiated → version_in c.negotiated k < 2 ^ 32
version_small c k small = by (finite.get c.negotiated (name_of k)) refl
  where
    by : (o : Option ℕ) → finite.get c.negotiated (name_of k) ≡ o → unwrap_or o 1 < 2 ^ 32
    by None e = omega arith
    by (Some v) e = small (name_of k) v e

-- ---- single events

seat_fine : (o : ObjectView) (id v : ℕ) → id < 2 ^ 64 → v < 2 ^ 32 → (r : Row) × Fine (event.seat o id v) r
unfolding row_of
seat_fine o id v i w = (_, record { row = refl; kinds = (i, (w, tt)); opcode = omega arith; short = lit≤ tt })

seat_new : (o : ObjectView) (id v : ℕ) → new_of true (event.seat o id v) ≡ Some (record { id = id; interface = Known known.Seat; version = v })
unfolding row_of
seat_new o id v = refl

name_fine : (v seat : ℕ) (t : List ℕ) → is_utf8 t ≡ true → size (name_event seat t) ≤ MOST_MESSAGE_BYTES → ((r : Row) × Fine (event.seat_name v seat t) r) × (new_of true (event.seat_name v seat t) ≡ None)
unfolding row_of
name_fine v seat t text short = ((_, record { row = refl; kinds = (text, tt); opcode = omega arith; short = short }), refl)

capability_short : (id opcode b : ℕ) (k : KnownInterface) → size (message id opcode (Long b ∷ Letters (name_of k) ∷ [])) ≤ MOST_MESSAGE_BYTES
capability_short id opcode b k = leb-true _ MOST_MESSAGE_BYTES (of_each (λ (i : KnownInterface). leb (size (message id opcode (Long b ∷ Letters (name_of i) ∷ []))) MOST_MESSAGE_BYTES) refl k)

capability_fine : (v seat : ℕ) (p : ℕ × KnownInterface) → p.0 < 2 ^ 64 → ((r : Row) × Fine (event.capability v seat p) r) × (new_of true (event.capability v seat p) ≡ None)
unfolding row_of
capability_fine v seat p b = ((_, record { row = refl; kinds = (b, (name_text p.1, tt)); opcode = omega arith; short = capability_short seat 2 p.0 p.1 }), refl)

done_fine : (v seat : ℕ) → ((r : Row) × Fine (event.seat_done v seat) r) × (new_of true (event.seat_done v seat) ≡ None)
unfolding row_of
done_fine v seat = ((_, record { row = refl; kinds = tt; opcode = omega arith; short = lit≤ tt }), refl)

-- ---- the description

module _ (sent : List Sent) (v seat : ℕ) (to : Announces sent seat known.Seat v) where
  name_ordinary : (name : Option (List ℕ)) → IsText name → is_long_name (name_event seat) name ≡ false → AreOrdinary sent (named (event.seat_name v seat) name)
  name_ordinary None text long = tt
  name_ordinary (Some t) text long =
      let short : size (name_event seat t) ≤ MOST_MESSAGE_BYTES = ltb-false MOST_MESSAGE_BYTES (size (name_event seat t)) (or_parts (ltb MOST_MESSAGE_BYTES (size (name_event seat t))) false long).0 in
      let f = name_fine v seat t text short in ((f.0.0, f.0.1, to, f.1), tt)

  capabilities_ordinary : (test : ℕ × KnownInterface → Bool) (ps : List (ℕ × KnownInterface)) → list_all (λ (p : ℕ × KnownInterface). leb p.0 4294967295) ps ≡ true →
      AreOrdinary sent (map (event.capability v seat) (filter_map (λ (p : ℕ × KnownInterface). cond (test p) (Some p) None) ps))
  capabilities_ordinary test [] h = tt
  capabilities_ordinary test (p ∷ ps) h =
      let parts = and_parts (leb p.0 4294967295) (list_all (λ (q : ℕ × KnownInterface). leb q.0 4294967295) ps) h in
      by (test p) refl (leb-true p.0 4294967295 parts.0) (capabilities_ordinary test ps parts.1)
    where
      by : (b : Bool) → test p ≡ b → p.0 ≤ 4294967295 → AreOrdinary sent (map (event.capability v seat) (filter_map (λ (q : ℕ × KnownInterface). cond (test q) (Some q) None) ps)) →
          AreOrdinary sent (map (event.capability v seat) (filter_map (λ (q : ℕ × KnownInterface). cond (test q) (Some q) None) (p ∷ ps)))
      by true e le next = let f = capability_fine v seat p (omega (arith, le)) in rw e ((f.0.0, f.0.1, to, f.1), next)
      by false e le next = rw e next

  done_ordinary : AreOrdinary sent (event.seat_done v seat ∷ [])
  done_ordinary = let f = done_fine v seat in ((f.0.0, f.0.1, to, f.1), tt)

bits_small : list_all (λ (p : ℕ × KnownInterface). leb p.0 4294967295) capabilities ≡ true
bits_small = refl

pub seat_comes_may : (x : End) (c : ConnectionView) (name : Option (List ℕ)) (given : DeviceCapabilities) → IsEndOf x c → AnnouncesIt x.sent known.Connection c.proxy → AreVersions c.negotiated →
    c.ctx.table.next_own < own_limit false → IsText name → is_long_name (name_event c.ctx.table.next_own) name ≡ false → AreListedCalls true (add_seat c name given) x.sent x.taken
seat_comes_may x c name given e to small room text long =
    let seat : ℕ = c.ctx.table.next_own in let v : ℕ = seat_version c in
    let m : Sent = event.seat c.proxy seat v in
    let n : New = record { id = seat; interface = Known known.Seat; version = v } in
    let h = rose x c e in
    let next = next_of x c e in
    let f = seat_fine c.proxy seat v (omega (arith, room)) (version_small c known.Seat small) in
    let new = seat_new c.proxy seat v in
    let fresh : HasNextId (next_own true x.sent) (new_of true m) = subst (HasNextId (next_own true x.sent)) (sym new) next in
    let more = one_more_id x.sent m n new in
    let left : next_own true (m ∷ x.sent) ≤ own_limit false = omega (arith, more, next, room) in
    let known_now : Announces (m ∷ x.sent) seat known.Seat v = announced_new x.sent m n h.rises new next in
    let caps : List Sent = map (event.capability v seat) (offered c given) in
    let done : List Sent = event.seat_done v seat ∷ [] in
    let rest = ordinary_both (m ∷ x.sent) (named (event.seat_name v seat) name) (caps ++ done) (name_ordinary (m ∷ x.sent) v seat known_now name text long)
    (ordinary_both (m ∷ x.sent) caps done (capabilities_ordinary (m ∷ x.sent) v seat known_now (λ p. has_bit (bits_of given) p.0 && is_settled c.negotiated p.1) capabilities bits_small) (done_ordinary (m ∷ x.sent) v seat known_now)) in
    (f.0, listed x.sent x.taken m f.0 h f.1 to fresh left, alone (named (event.seat_name v seat) name ++ (caps ++ done)) (m ∷ x.sent) x.taken (rose_more x.sent m h fresh left) rest)
