-- A turn: what a piece that makes at most one message whole comes to, and what the program does behind it.
use Rattle.std.proofs.Common.{◌≡◌, ◌⊎◌, ◌==◌, ℕ, ◌+◌, ◌<◌, ◌≤◌, Bool, true, false, List, [], ◌∷◌, ◌++◌, length, Option, Some, None, refl, sym, ap, subst, ◌∙◌, inl, inr, arith}
use Rattle.ei_spec.specs.Message.{Raw, Short, Whole, front}
use Rattle.ei_spec.specs.Piece.{Piece}
use Rattle.ei_spec.specs.History.{each, total}
use Rattle.ei_spec.specs.Groups.{frames_made}
use Rattle.ei_types.specs.declared.error.Error.{Error}
use Rattle.ei_types.specs.declared.error.Error.TheVariants as error
use Rattle.ei_types.specs.Errors.{error_of_read}
use Rattle.ei_wire.specs.declared.error.ReadError.{ReadError}
use Rattle.ei_wire.specs.declared.error.ReadError.TheVariants as read_error
use Rattle.ei_backend.specs.Endpoint.{Endpoint}
use Rattle.ei_backend.specs.Backend.{BackendView, with_piece, with_unsent}
use Rattle.ei_backend.specs.Outgoing.{nothing}
use Rattle.ei_session.specs.Setup.{Setup}
use Rattle.ei_session.specs.Handshake.{connected}
use Rattle.ei_session.specs.Requests.{slot}
use Rattle.ei_session.proofs.BeforeTheFinish.{early_item}
use Rattle.ei_session.proofs.FirstObjects.{not_the_finish}
use Rattle.ei_session.proofs.GivenByItem.{frames_none}
use Rattle.ei_request.specs.declared.event.EisRequest.{EisRequest}
use Rattle.ei_serve.proofs.Asked.{held_with}
use Rattle.reis_eis.specs.declared.ending.Ending.{Ending}
use Rattle.reis_eis.specs.declared.ending.Ending.TheVariants as ending
use Rattle.reis_eis.specs.declared.notice.Notice.{Notice}
use Rattle.reis_eis.specs.declared.shaking.Shaking.{Shaking}
use Rattle.reis_eis.specs.declared.phase.Phase.{Phase}
use Rattle.reis_eis.specs.declared.phase.Phase.TheVariants as phase
use Rattle.reis_eis.specs.View.{EisView}
use Rattle.reis_eis.specs.Words.{context_in, with_context, unread_of, unsent_in, queue_in, shaking_with, with_ctx}
use Rattle.reis_alike.specs.Standing.{IsShaking, StandsFor}
use Rattle.ei_types.specs.Capability.{bits_of}
use Rattle.ei_types.specs.declared.capability.DeviceCapabilities.{DeviceCapabilities}
use Rattle.ei_request.specs.declared.event.EisRequest.TheVariants as asked
use Rattle.reis_alike.specs.Program.{Came, AddsSeatBehind, AddsWanted, Does, taken_from, TakesOut, HasOneAtMost, Turns}
use Rattle.reis_alike.proofs.Turning.{AreAlike, Answered, IsLast, Stepped, Nothing, Taken, Rejected, WantsMemory, none_first, stepped}
use Rattle.ei_backend.specs.Incoming.{Fits}
use Rattle.reis_eis.specs.Steps.{AnyStep as Step}
use Rattle.reis_eis.specs.Handling.{IsHandled, Steps}
use Rattle.reis_eis.specs.Feeding.{HandlesAll, TakesPiece, LeavesPiece, RefusesPiece, FeedsTo}
use Rattle.reis_alike.proofs.Conversing.{how_by}
use Rattle.reis_alike.proofs.Stepping.{IsStill, still, none_handled, how_of, IsOneStep, one_step}
use Rattle.ei_serve.specs.Steps.{Refuses as RefusesSo}

no_frame : (setup : Setup) (past : List Raw) → connected past ≡ false → frames_made (each (slot setup) past) ≡ 0
unfolding frames_made total each
no_frame setup [] off = refl
no_frame setup (m ∷ past) off = let w = not_the_finish past m off in frames_none setup past m (early_item past m w.1) ∙ no_frame setup past w.1

-- ---- the endpoint of a phase

pub context_with : (p : Phase) (b d : BackendView) → context_in p ≡ Some b → context_in (with_context p d) ≡ Some d
context_with (phase.Shaking s) b d is = refl
context_with (phase.Standing c) b d is = refl
context_with phase.Between b d is = absurd cc

-- a phase that took a piece stands as it did, and so does one of which all was written
module _ (setup : Setup) (past : List Raw) (readings : List ℕ) where
  shaking_piece : (piece : Piece) (s : Shaking) → IsShaking setup past s → IsShaking setup past (shaking_with s (with_piece piece s.context))
  shaking_piece piece s i = record {
    unfinished = i.unfinished;
    lawful = i.lawful;
    in_range = i.in_range;
    endpoint = ap (λ (e : Endpoint). record e { unread = s.context.unread ++ piece.bytes; handles = s.context.handles ++ piece.handles }) i.endpoint;
    initial_serial = i.initial_serial;
    serial = i.serial;
    versions = i.versions;
    name = i.name;
    context_type = i.context_type;
  }

  pub shaking_written : (s : Shaking) → IsShaking setup past s → IsShaking setup past (shaking_with s (with_unsent nothing s.context))
  shaking_written s i = record {
    unfinished = i.unfinished;
    lawful = i.lawful;
    in_range = i.in_range;
    endpoint = ap (λ (e : Endpoint). record e { unsent = []; unsent_handles = [] }) i.endpoint;
    initial_serial = i.initial_serial;
    serial = i.serial;
    versions = i.versions;
    name = i.name;
    context_type = i.context_type;
  }

  pub stands_piece : (piece : Piece) (p : Phase) (b : BackendView) → context_in p ≡ Some b → StandsFor setup past readings p → StandsFor setup past readings (with_context p (with_piece piece b))
  stands_piece piece (phase.Shaking s) b is i =
      let here : s.context ≡ b = cc in
      subst (λ (x : BackendView). StandsFor setup past readings (phase.Shaking (shaking_with s (with_piece piece x)))) here (i.0, shaking_piece piece s i.1)
  stands_piece piece (phase.Standing c) b is i =
      let here : c.handle.ctx ≡ b = cc in
      subst (λ (x : BackendView). StandsFor setup past readings (phase.Standing (with_ctx c (with_piece piece x)))) here (record {
        held = held_with setup past readings c (with_ctx c (with_piece piece c.handle.ctx)) (with_piece piece c.handle.ctx) i.held refl refl i.held.no_handles refl;
        queue = i.queue;
      })
  stands_piece piece phase.Between b is i = absurd i

  pub stands_written : (p : Phase) (b : BackendView) → context_in p ≡ Some b → StandsFor setup past readings p → StandsFor setup past readings (with_context p (with_unsent nothing b))
  stands_written (phase.Shaking s) b is i =
      let here : s.context ≡ b = cc in
      subst (λ (x : BackendView). StandsFor setup past readings (phase.Shaking (shaking_with s (with_unsent nothing x)))) here (i.0, shaking_written s i.1)
  stands_written (phase.Standing c) b is i =
      let here : c.handle.ctx ≡ b = cc in
      subst (λ (x : BackendView). StandsFor setup past readings (phase.Standing (with_ctx c (with_unsent nothing x)))) here (record {
        held = held_with setup past readings c (with_ctx c (with_unsent nothing c.handle.ctx)) (with_unsent nothing c.handle.ctx) i.held refl refl refl refl;
        queue = i.queue;
      })
  stands_written phase.Between b is i = absurd i

  -- what waits has no handle, and the endpoint is open
  pub no_handle : (p : Phase) → StandsFor setup past readings p → (unsent_in p).handles ≡ []
  no_handle (phase.Shaking s) i = ap (λ (e : Endpoint). e.unsent_handles) i.1.endpoint
  no_handle (phase.Standing c) i = i.held.no_handles
  no_handle phase.Between i = absurd i

  pub opened : (p : Phase) (b : BackendView) → context_in p ≡ Some b → StandsFor setup past readings p → b.closed ≡ false
  opened (phase.Shaking s) b is i = let here : s.context ≡ b = cc in ap (λ (x : BackendView). x.closed) (sym here) ∙ ap (λ (e : Endpoint). e.closed) i.1.endpoint
  opened (phase.Standing c) b is i = let here : c.handle.ctx ≡ b = cc in ap (λ (x : BackendView). x.closed) (sym here) ∙ i.held.opened
  opened phase.Between b is i = absurd i

  -- as many readings were used as frames made
  pub count_readings : (p : Phase) → StandsFor setup past readings p → length readings ≡ frames_made (each (slot setup) past)
  count_readings (phase.Shaking s) i = ap length i.0 ∙ sym (no_frame setup past i.1.unfinished)
  count_readings (phase.Standing c) i = i.held.frames
  count_readings phase.Between i = absurd i

  pub enough_readings : (p : Phase) → StandsFor setup past readings p → frames_made (each (slot setup) past) ≤ length readings
  enough_readings p i = omega (arith, count_readings p i)

-- ---- what stays

none_seated : (setup : Setup) (p q : Phase) (e f : EisView) → AreAlike p q → AddsSeatBehind setup p q e f → f ≡ e
none_seated setup (phase.Shaking h) (phase.Shaking k) e f a s = s
none_seated setup (phase.Standing c) q e f a s = s
none_seated setup (phase.Shaking h) (phase.Standing c) e f a s = absurd a
none_seated setup (phase.Shaking h) phase.Between e f a s = absurd a
none_seated setup phase.Between q e f a s = absurd a

alike_with : (p : Phase) (b d : BackendView) → context_in p ≡ Some b → AreAlike p (with_context p d)
alike_with (phase.Shaking s) b d is = tt
alike_with (phase.Standing c) b d is = tt
alike_with phase.Between b d is = absurd cc

seats_alike : (setup : Setup) (p : Phase) (d : BackendView) (q : Phase) (e f : EisView) → AddsSeatBehind setup p q e f → AddsSeatBehind setup (with_context p d) q e f
seats_alike setup (phase.Shaking h) d (phase.Shaking k) e f s = s
seats_alike setup (phase.Shaking h) d (phase.Standing c) e f s = s
seats_alike setup (phase.Shaking h) d phase.Between e f s = s
seats_alike setup (phase.Standing c) d q e f s = s
seats_alike setup phase.Between d q e f s = s

seats_keep : (setup : Setup) (p q : Phase) (e f : EisView) → AddsSeatBehind setup p q e f → f.ending ≡ e.ending
seats_keep setup (phase.Shaking h) (phase.Shaking k) e f s = ap (λ (v : EisView). v.ending) s
seats_keep setup (phase.Shaking h) (phase.Standing c) e f s = s.adds.kept
seats_keep setup (phase.Shaking h) phase.Between e f s = ap (λ (v : EisView). v.ending) s
seats_keep setup (phase.Standing c) q e f s = ap (λ (v : EisView). v.ending) s
seats_keep setup phase.Between q e f s = ap (λ (v : EisView). v.ending) s

wanted_keep : (b : Bool) (seat : ℕ) (wanted : DeviceCapabilities) (e f : EisView) → AddsWanted b seat wanted e f → f.ending ≡ e.ending
wanted_keep true seat wanted e f d = ap (λ (v : EisView). v.ending) d
wanted_keep false seat wanted e f d = d.resumes.kept ∙ d.adds.kept

pub does_keep : (r : EisRequest) (e f : EisView) → Does r e f → f.ending ≡ e.ending
does_keep (asked.Bind r) e f d = wanted_keep (bits_of r.capabilities == 0) r.seat.id r.capabilities e f d
does_keep (asked.RequestDevice r) e f d = wanted_keep (bits_of r.capabilities == 0) r.seat.id r.capabilities e f d
does_keep (asked.DeviceClosed r) e f d = d.kept
does_keep r e f d = ap (λ (v : EisView). v.ending) d

takes_keep : (rs : List EisRequest) (e f : EisView) → TakesOut rs e f → f.ending ≡ e.ending
takes_keep [] e f t = ap (λ (v : EisView). v.ending) t.1
takes_keep (r ∷ rs) e f t = takes_keep rs t.1.0 f t.1.2 ∙ does_keep r (taken_from e) t.1.0 t.1.1

no_queue : (setup : Setup) (past : List Raw) (readings : List ℕ) (p : Phase) → StandsFor setup past readings p → queue_in p ≡ []
no_queue setup past readings (phase.Shaking s) i = refl
no_queue setup past readings (phase.Standing c) i = i.queue
no_queue setup past readings phase.Between i = absurd i

queue_with : (p : Phase) (d : BackendView) → queue_in (with_context p d) ≡ queue_in p
queue_with (phase.Shaking s) d = refl
queue_with (phase.Standing c) d = refl
queue_with phase.Between d = refl

alike_back : (p : Phase) (d : BackendView) (q : Phase) → AreAlike (with_context p d) q → AreAlike p q
alike_back (phase.Shaking s) d (phase.Shaking k) a = tt
alike_back (phase.Shaking s) d (phase.Standing c) a = absurd a
alike_back (phase.Shaking s) d phase.Between a = absurd a
alike_back (phase.Standing c) d (phase.Standing k) a = tt
alike_back (phase.Standing c) d (phase.Shaking k) a = absurd a
alike_back (phase.Standing c) d phase.Between a = absurd a
alike_back phase.Between d q a = absurd a

pub some_context : (setup : Setup) (past : List Raw) (readings : List ℕ) (p : Phase) → StandsFor setup past readings p → (b : BackendView) × (context_in p ≡ Some b)
some_context setup past readings (phase.Shaking s) i = (s.context, refl)
some_context setup past readings (phase.Standing c) i = (c.handle.ctx, refl)
some_context setup past readings phase.Between i = absurd i

-- ---- a turn

-- the bytes that are unread with the piece
abbrev pub bytes_with : BackendView → Came → List ℕ
bytes_with b c = b.unread ++ c.piece.bytes

-- the phase with the piece
abbrev pub fed_with : Phase → BackendView → Came → Phase
fed_with p b c = with_context p (with_piece c.piece b)

-- no more handles are unread with the piece than may be
abbrev pub HasRoom : BackendView → Came → Type 0
HasRoom b c = length b.handles + length c.piece.handles ≤ 4096

-- what a turn came to
pub data Turned (setup : Setup) (past : List Raw) (readings : List ℕ) (c : Came) (p : Phase) (b : BackendView) (handed : List EisRequest) (new : EisView) : Type 0 where
  -- no message was whole
  Quiet : HasRoom b c → front (bytes_with b c) ≡ Short → new.ending ≡ None → handed ≡ [] → new.phase ≡ fed_with p b c → Turned setup past readings c p b handed new
  Answers : HasRoom b c → (m : Raw) → (after : List ℕ) → (last : Bool) → front (bytes_with b c) ≡ Whole m after → IsLast setup past m last → new.ending ≡ how_by last → Answered setup past m readings c.time after (fed_with p b c) new.ending handed new →
      Turned setup past readings c p b handed new
  Refuses : HasRoom b c → (e : Error) → RefusesSo setup past (bytes_with b c) e → (e ≡ error.NoMemory → ⊥) → new.ending ≡ Some (ending.Refused e) → handed ≡ [] → Turned setup past readings c p b handed new
  -- more handles would be unread than may
  Overflown : 4096 < length b.handles + length c.piece.handles → new.ending ≡ Some (ending.Refused error.HandleLimit) → handed ≡ [] → Turned setup past readings c p b handed new
  -- memory ran out
  Full : new.ending ≡ Some (ending.Refused error.NoMemory) → Turned setup past readings c p b handed new

-- the phase with the piece
module _ (setup : Setup) (past : List Raw) (readings : List ℕ) (c : Came) (p : Phase) (b : BackendView) (context : context_in p ≡ Some b) (stands : StandsFor setup past readings p) where
  pub fed_stands : StandsFor setup past readings (fed_with p b c)
  fed_stands = stands_piece setup past readings c.piece p b context stands

  pub fed_unread : unread_of (context_in (fed_with p b c)) ≡ bytes_with b c
  fed_unread = ap unread_of (context_with p b (with_piece c.piece b) context)

  module _ (one : HasOneAtMost (bytes_with b c)) where
    -- behind one message no other is whole
    behind_by : (s : Step) (y : Phase) → IsHandled s → Steps c.time (fed_with p b c) s y → Stepped setup past readings c.time (fed_with p b c) s y → front (unread_of (context_in y)) ≡ Short
    behind_by s y h x (Nothing short) = absurd (none_handled c.time (fed_with p b c) s y short h x)
    behind_by s y h x (Taken m after last f is unread acts) = ap front unread ∙ one m after (ap front (sym fed_unread) ∙ f)
    behind_by s y h x (Rejected e why some is alike empty) = absurd (subst IsHandled is h)
    behind_by s y h x (WantsMemory is) = absurd (subst IsHandled is h)

    -- the piece is one step
    pub one_piece : (waiting : List Notice) (new : Phase) (told : List Notice) (how : Option Ending) → (how ≡ Some (ending.Refused error.NoMemory) → ⊥) → HandlesAll c.time (fed_with p b c) waiting new told how →
        IsOneStep c.time (fed_with p b c) new how
    one_piece waiting new told how some h =
        one_step c.time (fed_with p b c) waiting (λ s y it st. behind_by s y it st (stepped setup past readings c.time (fed_with p b c) s y fed_stands st)) new told how some h

module _ (setup : Setup) (past : List Raw) (readings : List ℕ) (c : Came) (old : EisView) (stands : StandsFor setup past readings old.phase) (b : BackendView) (context : context_in old.phase ≡ Some b) (handed : List EisRequest) (new : EisView)
    (t : Turns setup c old handed new) where
  abbrev begun : Phase
  begun = fed_with old.phase b c

  begun_stands : StandsFor setup past readings begun
  begun_stands = fed_stands setup past readings c old.phase b context stands

  begun_unread : unread_of (context_in begun) ≡ bytes_with b c
  begun_unread = fed_unread setup past readings c old.phase b context stands

  abbrev Result : Type 0
  Result = Turned setup past readings c old.phase b handed new

  same_ending : new.ending ≡ t.fed.ending
  same_ending = takes_keep handed t.seated new t.takes ∙ seats_keep setup old.phase t.fed.phase t.fed t.seated t.seats

  -- where the phase stays of its kind, and no request waits, nothing is done
  module _ (alike : AreAlike old.phase t.fed.phase) (empty : queue_in t.fed.phase ≡ []) where
    same_seated : t.seated ≡ t.fed
    same_seated = none_seated setup old.phase t.fed.phase t.fed t.seated alike t.seats

    nothing_taken : (handed ≡ []) × (new ≡ t.seated)
    nothing_taken = none_first handed t.seated new (ap (λ (v : EisView). queue_in v.phase) same_seated ∙ empty) t.takes

    nothing_done : (handed ≡ []) × (new ≡ t.fed)
    nothing_done = (nothing_taken.0, nothing_taken.1 ∙ same_seated)

  old_queue : queue_in old.phase ≡ []
  old_queue = no_queue setup past readings old.phase stands

  -- the piece wasn't taken
  refused_piece : (why : ReadError) (left : BackendView) → LeavesPiece why c.piece b left → t.fed ≡ record old { phase = with_context old.phase left; ending = Some (ending.Refused (error_of_read why)) } → Result
  refused_piece read_error.HandleLimit left l is =
      let phase_is : t.fed.phase ≡ with_context old.phase left = ap (λ (v : EisView). v.phase) is in
      let x = nothing_done (subst (λ (p : Phase). AreAlike old.phase p) (sym phase_is) (alike_with old.phase b left context)) (ap queue_in phase_is ∙ queue_with old.phase left ∙ old_queue) in
      Overflown l.0.limit (same_ending ∙ ap (λ (v : EisView). v.ending) is) x.0
  refused_piece read_error.NoMemory left l is = Full (same_ending ∙ ap (λ (v : EisView). v.ending) is)
  refused_piece read_error.UnexpectedEof left l is = let z : true ≡ false = sym l.0 ∙ opened setup past readings old.phase b context stands in absurd cc
  refused_piece read_error.ReadFault left l is = absurd l

  -- or it was
  module _ (size : ℕ) (fits : Fits size b.handles c.piece) (one : HasOneAtMost (bytes_with b c)) where
    still_so : (s : Step) → front (unread_of (context_in begun)) ≡ Short → t.fed.ending ≡ how_of s → IsStill begun s t.fed.phase → Result
    still_so s short how (inl x) =
        let alike : AreAlike old.phase t.fed.phase = subst (λ (p : Phase). AreAlike old.phase p) (sym x.1) (alike_with old.phase b (with_piece c.piece b) context) in
        let d = nothing_done alike (ap queue_in x.1 ∙ queue_with old.phase (with_piece c.piece b) ∙ old_queue) in
        Quiet fits.limit (ap front (sym begun_unread) ∙ short) (same_ending ∙ how ∙ ap how_of x.0) d.0 (ap (λ (v : EisView). v.phase) d.1 ∙ x.1)
    still_so s short how (inr x) = Full (same_ending ∙ how ∙ ap how_of x)

    stepped_so : (s : Step) → Steps c.time begun s t.fed.phase → t.fed.ending ≡ how_of s → Stepped setup past readings c.time begun s t.fed.phase → Result
    stepped_so s steps how (Nothing short) = still_so s short how (still c.time begun s t.fed.phase short steps)
    stepped_so s steps how (Taken m after last f is unread acts) =
        let x = acts (t.fed.ending, t.fed.notices) t.seated new handed (seats_alike setup old.phase (with_piece c.piece b) t.fed.phase t.fed t.seated t.seats) t.takes in
        Answers fits.limit m after last (ap front (sym begun_unread) ∙ f) x.0 (same_ending ∙ how ∙ is)
        (subst (λ (k : Option Ending). Answered setup past m readings c.time after begun k handed new) (sym same_ending) x.1)
    stepped_so s steps how (Rejected e why some is alike empty) =
        let d = nothing_done (alike_back old.phase (with_piece c.piece b) t.fed.phase alike) empty in
        Refuses fits.limit e (subst (λ (u : List ℕ). RefusesSo setup past u e) begun_unread why) some (same_ending ∙ how ∙ ap how_of is) d.0
    stepped_so s steps how (WantsMemory is) = Full (same_ending ∙ how ∙ ap how_of is)

    handles_so : HandlesAll c.time begun old.notices t.fed.phase t.fed.notices t.fed.ending → (t.fed.ending ≡ Some (ending.Refused error.NoMemory) → ⊥) → Result
    handles_so h some =
        let x = one_piece setup past readings c old.phase b context stands one old.notices t.fed.phase t.fed.notices t.fed.ending some h in
        stepped_so x.s x.steps x.how_is (stepped setup past readings c.time begun x.s t.fed.phase begun_stands x.steps)

    by_ending : (how : Option Ending) → t.fed.ending ≡ how → HandlesAll c.time begun old.notices t.fed.phase t.fed.notices t.fed.ending → Result
    by_ending (Some (ending.Refused error.NoMemory)) is h = Full (same_ending ∙ is)
    by_ending None is h = handles_so h (λ z. let y : None ≡ Some (ending.Refused error.NoMemory) = sym is ∙ z in cc)
    by_ending (Some how) is h = handles_so h (λ z. let y : Some how ≡ Some (ending.Refused error.NoMemory) = sym is ∙ z in cc)

  fed : HasOneAtMost (bytes_with b c) → TakesPiece c.piece c.time b old t.fed ⊎ RefusesPiece c.piece b old t.fed → Result
  fed one (inl x) = by_ending x.size x.fits one t.fed.ending refl x.handles
  fed one (inr x) = refused_piece x.why x.left x.leaves x.is

  pub turned : HasOneAtMost (unread_of (context_in old.phase) ++ c.piece.bytes) → Result
  turned one =
      fed (subst (λ (u : List ℕ). HasOneAtMost (u ++ c.piece.bytes)) (ap unread_of context) one)
      (subst (λ (o : Option BackendView). FeedsTo c.piece c.time o old t.fed) context t.feeds)
