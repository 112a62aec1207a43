-- The seat that a server adds behind its handshake comes to the client.
use Rattle.std.proofs.Common.{◌≡◌, ℕ, ◌<◌, ◌^◌, Bool, true, false, ◌&&◌, List, [], ◌∷◌, ◌++◌, Option, Some, None, Ok, refl, sym, ap, subst, ◌∙◌, append-nil}
use Rattle.ei_session.specs.Setup.{seat_id}
use Rattle.ei_spec.specs.History.{total, last_said}
use Rattle.ei_spec.specs.Interface.{ObjectView}
use Rattle.ei_ends.specs.Sent.{Sent}
use Rattle.ei_ends.specs.Way.{onto}
use Rattle.ei_told.specs.Told.{after_connection, messages, NoneMissed}
use Rattle.ei_linked.specs.declared.side.Side.TheVariants as side
use Rattle.ei_linked.specs.TwoEnds.{end_of}
use Rattle.ei_request.specs.Connection.{ConnectionView}
use Rattle.ei_request.specs.Converter.{ConverterView as ServerConverter}
use Rattle.ei_acts.specs.Acting.{AddsSeat, Makes, IsFresh, sent_by}
use Rattle.ei_acts.proofs.Acting.{connection_onto}
use Rattle.ei_promises.specs.declared.calls.Made.{Made}
use Rattle.ei_promises.specs.declared.calls.Made.TheVariants as made
use Rattle.ei_promises.specs.Pair.{ServerStage, PairView}
use Rattle.ei_promises.specs.Calling.{DoesAt, DoesServer}
use Rattle.ei_pair.specs.Calls.{SendsAt}
use Rattle.ei_emitting.specs.Emitted.{count, is_held, added}
use Rattle.ei_emitting.specs.Emits.{all_capabilities, Emits}
use Rattle.ei_emit.specs.Carried.{moment, IsCarried}
use Rattle.ei_emit.specs.Stands.{NoneDestroys, Served, Followed, AreDevices, Begins, emitter}
use Rattle.ei_emit.specs.Shaken.{new_script, IsShaken, seat_call}
use Rattle.ei_emit.proofs.Hearing.{HearingLaws}
use Rattle.ei_emit.proofs.Comes.{RestsSaid, Came, comes}

-- what the laws of a history say where the seat was added
abbrev pub BeginsSaid : Type 0
BeginsSaid = (start : ℕ) (c left : ConnectionView) → IsFresh c → c.last_serial ≡ start → start < 2 ^ 32 → c.ctx.table.next_own ≡ seat_id → Makes (AddsSeat None all_capabilities) c left →
    Emits start [] left (onto (sent_by (AddsSeat None all_capabilities) c) [])

-- ---- lists

onto_append : (ms a b : List Sent) → onto ms (a ++ b) ≡ onto ms a ++ b
onto_append [] a b = refl
onto_append (m ∷ ms) a b = onto_append ms (m ∷ a) b

-- no device was added
no_devices : AreDevices [] []
unfolding count is_held added total last_said
no_devices = record { counted = refl; good = tt; held = λ number. refl }

-- ---- the seat

module _ (laws : HearingLaws) (rests : RestsSaid) (begins : BeginsSaid) {H : Type 0} (start : ℕ) (small : start < 2 ^ 32) (old mid new : PairView H) (told now : Option (List ℕ))
    (seat : ObjectView) (shaken : IsShaken start old)
    (does : DoesAt old.server seat_call old (Ok (made.Seat seat)) mid) (sends : SendsAt old.server seat_call old mid) (whole : mid.ends.spent ≡ false)
    (c : IsCarried side.Client (moment mid told) (moment new now)) where
  abbrev server : ServerConverter
  server = shaken.server

  done : DoesServer seat_call server old (made.Seat seat) mid
  done = subst (λ (s : ServerStage). DoesAt s seat_call old (Ok (made.Seat seat)) mid) shaken.serves does

  abbrev more : List Sent
  more = onto (sent_by (AddsSeat None all_capabilities) server.handle) []

  sent_is : (end_of side.Server mid.ends).sent ≡ more ++ (end_of side.Server old.ends).sent
  sent_is = subst (λ (s : ServerStage). SendsAt s seat_call old mid) shaken.serves sends ∙ onto_append (sent_by (AddsSeat None all_capabilities) server.handle) [] (end_of side.Server old.ends).sent

  behind : after_connection (end_of side.Server mid.ends).sent ≡ Some more
  behind =
      ap after_connection (subst (λ (s : ServerStage). SendsAt s seat_call old mid) shaken.serves sends)
      ∙ connection_onto (sent_by (AddsSeat None all_capabilities) server.handle) (end_of side.Server old.ends).sent [] shaken.behind

  served : Served start [] (more ++ []) mid
  served = record {
    whole = whole;
    steady = ap (λ (p : PairView H). p.steady) done.leaves ∙ ap (λ (b : Bool). b && true) shaken.steady;
    wanted = ap (λ (p : PairView H). p.server_wanted) done.leaves ∙ shaken.wanted;
    server = record server { handle = done.left };
    serves = ap (λ (p : PairView H). p.server) done.leaves;
    endpoint = ap (λ (p : PairView H). p.ends.server.backend) (sym done.leaves);
    behind = behind ∙ ap (λ (l : List Sent). let o : Option (List Sent) = Some l in o) (sym (append-nil more));
    emits = subst (λ (l : List Sent). Emits start [] done.left l) (sym (append-nil more)) (begins start server.handle done.left shaken.fresh shaken.serial small shaken.next done.makes);
  }

  followed : Followed (new_script start) [] mid
  followed =
      let f = shaken.followed in record {
        wanted = ap (λ (p : PairView H). p.client_wanted) done.leaves ∙ f.wanted;
        client = f.client;
        follows = ap (λ (p : PairView H). p.client) done.leaves ∙ f.follows;
        behind = ap (λ (p : PairView H). after_connection (messages (end_of side.Client p.ends).taken)) done.leaves ∙ f.behind;
        none_missed = subst (λ (p : PairView H). NoneMissed (end_of side.Client p.ends).taken) (sym done.leaves) f.none_missed;
        stay = subst (λ (p : PairView H). NoneDestroys (end_of side.Client p.ends).sent) (sym done.leaves) f.stay;
        accounts = f.accounts;
      }

  taken : messages (end_of side.Client mid.ends).taken ≡ (end_of side.Server old.ends).sent
  taken = ap (λ (p : PairView H). messages (end_of side.Client p.ends).taken) done.leaves ∙ shaken.all

  came : Came (new_script start) [] told now new
  came = comes laws rests (new_script start) [] [] more (end_of side.Server old.ends).sent mid new told now served sent_is followed taken c

  seat_is : seat.id ≡ seat_id
  seat_is = ap seat_of done.answer_is ∙ shaken.next
    where
      seat_of : Made → ℕ
      seat_of (made.Seat o) = o.id
      seat_of m = 0

  pub seat_comes : Begins start told now (emitter new seat [])
  seat_comes = record { readings = came.used; gave = came.gave; stands = record { pair = came.stands; seat = seat_is; devices = no_devices } }
