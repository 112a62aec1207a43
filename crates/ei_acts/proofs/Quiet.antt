-- Where nothing is sent, what is held stays.
use Rattle.std.proofs.Common.{◌≡◌, ℕ, ◌<◌, ◌≤◌, Bool, true, false, cond, eqb, Option, Some, None, refl, sym, ap, subst, ◌∙◌, arith}
use Rattle.std.specs.FinMap as finite
use Rattle.std.proofs.lemmas.Bool.{eqb-true, eq-eqb}
use Rattle.ei_spec.specs.declared.interface.KnownInterface.{KnownInterface}
use Rattle.ei_spec.specs.declared.interface.KnownInterface.TheVariants as known
use Rattle.ei_spec.specs.declared.limits.TheConstants.{FIRST_SERVER_ID}
use Rattle.ei_spec.specs.Interface.{ObjectView}
use Rattle.ei_backend.specs.Backend.{BackendView}
use Rattle.ei_backend.specs.Table.{TableView, found, Announced}
use Rattle.ei_backend.specs.Endpoint.{Endpoint}
use Rattle.ei_backend.proofs.GivenOnce.{Accepted, accepted_is, peer_found, peer_others}
use Rattle.ei_ends.specs.Way.{End}
use Rattle.ei_ends.proofs.Known.{in_range}
use Rattle.ei_request.specs.Connection.{ConnectionView, Unchanged}
use Rattle.ei_acts.specs.Holding.{is_a_seat, is_destroyed}
use Rattle.ei_acts.specs.There.{IsThere}
use Rattle.ei_acts.specs.Sendable.{IsEndOf}
use Rattle.ei_acts.specs.Acting.{IsQuiet}
use Rattle.ei_acts.proofs.MaySend.{rose}
use Rattle.ei_acts.proofs.AnnouncedThere.{table_announces}
use Rattle.ei_acts.proofs.Parts.{not_both}

pub unchanged_quiet : (old new : ConnectionView) → Unchanged old new → IsQuiet old new
unchanged_quiet old new u = record {
  next = let n = ap (λ (e : Endpoint). e.next_own) u.endpoint in omega (arith, n);
  stays = λ id k d i. found_is id;
  no_seat = λ id h. ap is_a_seat (sym (found_is id)) ∙ h;
  seats = ap (λ (c : ConnectionView). c.seats) u.rest;
  devices = ap (λ (c : ConnectionView). c.devices) u.rest;
  proxy = ap (λ (c : ConnectionView). c.proxy) u.rest;
}
  where
    found_is : (id : ℕ) → found new.ctx.table id ≡ found old.ctx.table id
    found_is id = ap (λ (e : Endpoint). finite.get e.objects id) u.endpoint

-- ---- a request is read

client_is : (x : End) (c : ConnectionView) → IsEndOf x c → c.ctx.table.client ≡ false
client_is x c e = ap (λ (b : BackendView). b.table.client) (sym e.backend) ∙ e.joined.tied.back.objects.client_is

-- what a server announced isn't among the ids of its client
own_id : (x : End) (c : ConnectionView) (id : ℕ) (k : KnownInterface) → IsEndOf x c → is_destroyed k ≡ true → IsThere c.ctx.table id k → FIRST_SERVER_ID ≤ id
own_id x c id k e d i =
    let now = table_announces x c e i.object k i.is (λ f. not_destroyed known.Handshake refl f) (λ f. not_destroyed known.Callback refl f) id i.there in
    (in_range true x.sent id _ (rose x c e).rises now).low
  where
    not_destroyed : (j : KnownInterface) → is_destroyed j ≡ false → k ≡ j → ⊥
    not_destroyed j f g = let both : true ≡ false = sym d ∙ ap is_destroyed g ∙ f in absurd cc

pub reads_quiet : (x : End) (c new : ConnectionView) (o : Option ObjectView) → IsEndOf x c → Announced o c.ctx.table new.ctx.table → is_a_seat o ≡ false → new ≡ record c { ctx = new.ctx } → IsQuiet c new
reads_quiet x c new None e a n r = record {
  next = let up = ap (λ (t : TableView). t.next_own) a in omega (arith, up);
  stays = λ id k d i. ap (λ (t : TableView). found t id) a;
  no_seat = λ id h. ap (λ (t : TableView). is_a_seat (found t id)) (sym a) ∙ h;
  seats = ap (λ (w : ConnectionView). w.seats) r;
  devices = ap (λ (w : ConnectionView). w.devices) r;
  proxy = ap (λ (w : ConnectionView). w.proxy) r;
}
reads_quiet x c new (Some o) e a n r = record {
  next = let up = ap (λ (t : TableView). t.next_own) accepted.table in omega (arith, up);
  stays = λ id k d i. let low = own_id x c id k e d i in others id (λ same. let high = below in omega (arith, low, high, same));
  no_seat = λ id h. by id (eqb id o.id) refl h;
  seats = ap (λ (w : ConnectionView). w.seats) r;
  devices = ap (λ (w : ConnectionView). w.devices) r;
  proxy = ap (λ (w : ConnectionView). w.proxy) r;
}
  where
    accepted : Accepted c.ctx.table new.ctx.table o.id o.version o.interface o
    accepted = accepted_is c.ctx.table new.ctx.table o.id o.version o.interface o a

    below : o.id < FIRST_SERVER_ID
    below = subst (λ (b : Bool). o.id < cond b 18446744073709551615 FIRST_SERVER_ID) (client_is x c e) (accepted_is c.ctx.table new.ctx.table o.id o.version o.interface o a).high

    others : (id : ℕ) → (id ≡ o.id → ⊥) → found new.ctx.table id ≡ found c.ctx.table id
    others id apart = peer_others c.ctx.table new.ctx.table o.id o.version id o.interface o a apart

    by : (id : ℕ) (b : Bool) → eqb id o.id ≡ b → is_a_seat (found new.ctx.table id) ≡ true → is_a_seat (found c.ctx.table id) ≡ true
    by id true f h =
        let there : found new.ctx.table id ≡ Some o = subst (λ (k : ℕ). found new.ctx.table k ≡ Some o) (sym (eqb-true id o.id f)) (peer_found c.ctx.table new.ctx.table o.id o.version o.interface o a) in
        absurd (not_both (is_a_seat (Some o)) (sym (ap is_a_seat there) ∙ h) n)
    by id false f h = sym (ap is_a_seat (others id (λ same. not_both (eqb id o.id) (eq-eqb id o.id same) f))) ∙ h
