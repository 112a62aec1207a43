-- The server took its next message, or none, by what reading is said to do: what becomes of the parts of a pair.
use Rattle.std.proofs.Common.{◌≡◌, ◌⊎◌, ℕ, Bool, true, false, List, Option, Some, None, Result, Ok, Err, Bor, refl, sym, ap, subst, ◌∙◌}
use Rattle.std.specs.Prelude.{is_some, not}
use Rattle.std.specs.Option.{option_copied}
use Rattle.ei_wire.specs.declared.error.ParseError.{ParseError}
use Rattle.ei_types.specs.declared.error.Error.{Error}
use Rattle.ei_types.specs.declared.error.Error.TheVariants as error
use Rattle.ei_types.specs.declared.error.HandshakeError.TheVariants as handshake_error
use Rattle.ei_backend.specs.declared.message.PendingRequestResult.{PendingRequestResult}
use Rattle.ei_backend.specs.declared.message.PendingRequestResult.TheVariants as pending
use Rattle.ei_server.specs.declared.request.Request.{Request}
use Rattle.ei_linked.specs.declared.side.Side.TheVariants as side
use Rattle.ei_linked.specs.Held.{Keeps}
use Rattle.ei_linked.specs.Ends.{EndsView, world_in}
use Rattle.ei_linked.specs.TwoEnds.{WorldView, IsWorld, read_world, spent_world, NotRefused}
use Rattle.ei_promises.specs.Pair.{connection_in}
use Rattle.ei_promises.specs.Stepping.{as_step, ReadsRequest, StepsServer}
use Rattle.ei_pair.specs.declared.server_end.ServerEnd.{ServerEnd}
use Rattle.ei_pair.specs.ServerEnd.{endpoint_in, with_endpoint_in}
use Rattle.ei_pair.specs.Parts.{PartsView, pair_in}
use Rattle.ei_pair.specs.Stepped.{IsSound, TookRequest, server_answered}
use Rattle.ei_pair.specs.Handed.{HandsParts, TakesParts}
use Rattle.ei_pair.proofs.Moved.{moved_to}
use Rattle.ei_pair.proofs.TakingAt.{request_wants, request_lost, request_none, request_gone_shaking, request_gone_serving, request_steps, spent_of}

-- ---- whether there is a connection

same_some : {A : Type 0} (o : Option (Bor A)) → is_some (option_copied o) ≡ is_some o
same_some None = refl
same_some (Some x) = refl

-- it is told by a copy of it, and by the test that there is none
pub has_connection : {A : Type 0} (o : Option (Bor A)) (k : Option A) (none : Bool) → option_copied o ≡ k → is_some o ≡ not none → is_some k ≡ not none
has_connection {A} o k none copy test = ap (λ (x : Option A). is_some x) (sym copy) ∙ same_some o ∙ test

-- ---- v are the parts by their fields, e the ends once they were read

module _ {H : Type 0} (v p : PartsView H) (is : v ≡ p) (e : EndsView ServerEnd) (before : Option (List ℕ)) (keeps : Keeps endpoint_in with_endpoint_in v.ends.server e.server) (sound : IsSound p) (whole : p.ends.spent ≡ false)
    (world : IsWorld (world_in endpoint_in e)) where
  abbrev read_parts : PartsView H
  read_parts = record v { ends = e }

  sound_here : IsSound v
  sound_here = subst (λ (x : PartsView H). IsSound x) (sym is) sound

  whole_here : v.ends.spent ≡ false
  whole_here = ap (λ (x : PartsView H). x.ends.spent) is ∙ whole

  -- memory was wanted
  pub takes_wants : (result : Result Bool Error) → result ≡ Err error.NoMemory →
      (world_in endpoint_in e ≡ world_in endpoint_in v.ends) ⊎ (world_in endpoint_in e ≡ spent_world side.Server (world_in endpoint_in v.ends)) → TakesParts p before before result read_parts
  takes_wants result wanted both =
      let so : TakesParts p before before (Err error.NoMemory) read_parts = record {
        steps = λ off. request_wants v p is e before before keeps sound whole both refl off;
        memory = λ on. refl;
        spent = λ on. request_lost v p is e before before keeps sound whole both on;
        world = world;
        serial = sound_here.serial;
      } in
      subst (λ (a : Result Bool Error). TakesParts p before before a read_parts) (sym wanted) so

  module _ (read : world_in endpoint_in e ≡ read_world side.Server (world_in endpoint_in v.ends)) (a : Option (PendingRequestResult Request)) (reads : ReadsRequest a (pair_in v).ends (world_in endpoint_in e)) where
    still : e.spent ≡ false
    still = ap (λ (w : WorldView). w.spent) read ∙ whole_here

    reads_so : (b : Option (PendingRequestResult Request)) → a ≡ b → ReadsRequest b (pair_in v).ends (world_in endpoint_in e)
    reads_so b same = subst (λ (x : Option (PendingRequestResult Request)). ReadsRequest x (pair_in v).ends (world_in endpoint_in e)) same reads

    takes_so : (result : Result Bool Error) → StepsServer (pair_in p) before before result (server_answered result (pair_in read_parts)) → TakesParts p before before result read_parts
    takes_so result steps = record {
      steps = λ off. steps;
      memory = λ on. let off : e.spent ≡ false = still in cc;
      spent = λ on. let off : e.spent ≡ false = still in absurd cc;
      world = world;
      serial = sound_here.serial;
    }

    -- nothing is there
    pub takes_none : a ≡ None → TakesParts p before before (Ok false) read_parts
    takes_none none = takes_so (Ok false) (request_none v p is e before before keeps sound whole read (reads_so None none) refl)

    -- it has no target
    pub takes_gone_shaking : (id : ℕ) → a ≡ Some (pending.InvalidObject id) → is_some (connection_in (pair_in read_parts).server) ≡ false → TakesParts p before before (Err (error.Handshake (handshake_error.InvalidObject id))) read_parts
    takes_gone_shaking id gone none = takes_so (Err (error.Handshake (handshake_error.InvalidObject id)))
        (request_gone_shaking v p is e before before keeps sound whole read id (reads_so (Some (pending.InvalidObject id)) gone) refl none)

    pub takes_gone_serving : (id : ℕ) → a ≡ Some (pending.InvalidObject id) → is_some (connection_in (pair_in read_parts).server) ≡ true → TakesParts p before before (Ok true) read_parts
    takes_gone_serving id gone some = takes_so (Ok true) (request_gone_serving v p is e before before keeps sound whole read id (reads_so (Some (pending.InvalidObject id)) gone) refl some)

    -- it is handed on
    pub takes_took : (r : Request) → a ≡ Some (pending.Request r) → TookRequest r (pair_in read_parts)
    takes_took r is_r = record {
      world = world;
      old = pair_in v;
      kept = sound_here.kept;
      whole = whole_here;
      reads = reads_so (Some (pending.Request r)) is_r;
      is = moved_to v e (read_world side.Server (world_in endpoint_in v.ends)) keeps read;
    }

    pub takes_handed : (r : Request) → a ≡ Some (pending.Request r) → (now : Option (List ℕ)) (answer : Result (Unit {0}) Error) (q : PartsView H) → HandsParts read_parts r before now answer q →
        (result : Result Bool Error) → as_step answer ≡ result → TakesParts p before now result q
    takes_handed r is_r now answer q h result same =
        let t : TookRequest r (pair_in read_parts) = record {
          world = world;
          old = pair_in v;
          kept = sound_here.kept;
          whole = whole_here;
          reads = reads_so (Some (pending.Request r)) is_r;
          is = moved_to v e (read_world side.Server (world_in endpoint_in v.ends)) keeps read;
        } in
        let so : TakesParts p before now (as_step answer) q = record {
          steps = λ off. request_steps v p is e before now keeps sound whole read r (as_step answer) (server_answered (as_step answer) (pair_in q)) (reads_so (Some (pending.Request r)) is_r) (h.hands off);
          memory = λ on. ap as_step (h.memory on);
          spent = λ on. spent_of v p (pair_in q) is (h.spent t on);
          world = h.world;
          serial = h.serial;
        } in
        subst (λ (x : Result Bool Error). TakesParts p before now x q) same so

-- a message that is refused never comes
pub never_refused : {X : Type 0} (a : Option (PendingRequestResult Request)) (why : ParseError) → NotRefused a → a ≡ Some (pending.ParseError why) → X
never_refused a why not_so is = absurd (subst (λ (b : Option (PendingRequestResult Request)). NotRefused b) is not_so)
