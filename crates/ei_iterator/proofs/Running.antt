-- A client's next event after some pieces, and each way in which it comes.
use Rattle.std.proofs.Common.{◌≡◌, ◌≤◌, ◌<◌, ℕ, ◌+◌, inl, inr, Bool, true, false, List, [], ◌∷◌, ◌++◌, length, Option, Some, None, Result, Ok, Err, refl, ap, sym, subst, ◌∙◌, append_assoc, arith}
use Rattle.std.specs.Prelude.{IsErrOf}
use Rattle.std.proofs.lemmas.Bool.{le-ltb, lt-ltb}
use Rattle.std.proofs.lemmas.List.{length-append}
use Rattle.ei_spec.specs.declared.handle.Handle.{Handle}
use Rattle.ei_spec.specs.declared.limits.TheConstants.{MOST_UNREAD_HANDLES}
use Rattle.ei_spec.specs.Piece.{Piece}
use Rattle.ei_types.specs.declared.error.Error.{Error}
use Rattle.ei_types.specs.declared.error.Error.TheVariants as error
use Rattle.ei_types.specs.Errors.{error_of_read}
use Rattle.ei_wire.specs.declared.error.ReadError.{ReadError}
use Rattle.ei_wire.specs.declared.error.ReadError.TheVariants as read_error
use Rattle.ei_backend.specs.Endpoint.{Endpoint}
use Rattle.ei_backend.specs.Backend.{BackendView, Waits, next, Reads, ReadsOn, unsent_of, closed_of, with_ring}
use Rattle.ei_backend.specs.Backend as backend
use Rattle.ei_backend.specs.Incoming.{Fits, Hands, Overflows as ManyHandles}
use Rattle.ei_backend.specs.Outside.{SourceView}
use Rattle.ei_backend.specs.Lent.{LentSource}
use Rattle.ei_backend.proofs.Lending.{source_as, source_twice}
use Rattle.ei_backend.specs.Pieces.{ArePieces, GavePieces, TookPieces}
use Rattle.ei_greeting.specs.Opening.{overflows}
use Rattle.ei_input.specs.Queue.{first_of, rest_of}
use Rattle.ei_event.specs.declared.event.EiEvent.{EiEvent}
use Rattle.ei_event.specs.Kept.{KeptView}
use Rattle.ei_event.specs.Converter.{ConverterView, with_queue, ping_in}
use Rattle.ei_blocking.specs.Still.{still}
use Rattle.ei_blocking.proofs.GivenPieces.{Gave, none_gave, keeps_gave, ends_gave, hands_gave, all_gave, Parts, parts, parts_end, took}
use Rattle.ei_iterator.specs.Turns.{Standing, Turn, Comes, Skips, Hears, front_at, IsIdle, standing_at, pieces_of}
use Rattle.ei_iterator.specs.Next.{Trouble, Gives, Ends, PieceLimit, HandleLimit, Fails as FailsFor, IsRead}
use Rattle.ei_iterator.specs.Around.{Around, around, standing_of, answers_to, HasCalled, StandsAs, Did, SendsAll}
use Rattle.ei_iterator.specs.Sending.{SentAll}
use Rattle.ei_iterator.specs.Steps.{Ran, RanOut, Fails, CutsShort, FailsToSend, StandsOrLost, ByAll, Behind}
use Rattle.ei_iterator.specs.Nexts.{Answered, answered, CameToEnd, Decides, WasDue, WasCut, DecidesBy, Nexts}
use Rattle.ei_iterator.proofs.Fronts.{next_closed, without_closed}
use Rattle.ei_iterator.proofs.Stepping.{cut_here}

-- ---- what no turn changes

pub closed_still : {H : Type 0} (s : Standing H) (turns : List Turn) → (standing_at s turns).endpoint.closed ≡ s.endpoint.closed
closed_still s [] = refl
closed_still s (Comes piece ∷ before) = closed_still s before
closed_still s (Skips ∷ before) = next_closed (standing_at s before).endpoint ∙ closed_still s before
closed_still s (Hears e time ∷ before) = without_closed (ping_in e) (next true (standing_at s before).endpoint).1 ∙ next_closed (standing_at s before).endpoint ∙ closed_still s before

few_handles : (b : BackendView) (unread : List Handle) (p : Piece) → unread ≡ b.handles → length unread + length p.handles ≤ MOST_UNREAD_HANDLES → overflows b p ≡ false
few_handles b unread p same le = le-ltb MOST_UNREAD_HANDLES (length (b.handles ++ p.handles)) (omega (arith, le, ap length same, length-append b.handles p.handles))

many_handles : (b : BackendView) (unread : List Handle) (p : Piece) → unread ≡ b.handles → MOST_UNREAD_HANDLES < length unread + length p.handles → overflows b p ≡ true
many_handles b unread p same lt = lt-ltb MOST_UNREAD_HANDLES (length (b.handles ++ p.handles)) (omega (arith, lt, ap length same, length-append b.handles p.handles))

open_where_read : {S : Type 0} {view : S → SourceView} {later : S → S → Type 0} (old new : BackendView) (u v : S) (count : ℕ) → Reads view later (Ok count) old new u v → old.closed ≡ false
open_where_read old new u v count reads = by old.closed refl
  where
    none : IsErrOf {T = ℕ} {E = ReadError} (Ok count) read_error.UnexpectedEof → ⊥
    none e = cc

    by : (closed : Bool) → old.closed ≡ closed → old.closed ≡ false
    by false e = e
    by true e = absurd (none (reads.closed e).0)

-- ---- the queue

none_queued : (q : List EiEvent) → first_of q ≡ None → q ≡ []
none_queued [] e = refl
none_queued (x ∷ q) e = absurd cc

some_queued : (q : List EiEvent) (event : EiEvent) → first_of q ≡ Some event → q ≡ event ∷ rest_of q
some_queued [] event e = absurd cc
some_queued (x ∷ q) event e = let same : x ≡ event = cc in ap (λ (y : EiEvent). y ∷ q) same

same_queue : {H : Type 0} (c : ConverterView H) → c.kept.queue ≡ [] → with_queue (rest_of c.kept.queue) c ≡ c
same_queue c e = ap (λ (q : List EiEvent). with_queue q c) (ap rest_of e ∙ sym e)

-- ---- the pieces that came in these turns

pub record Came (x : SourceView) (n : ℕ) (source : SourceView) (turns : List Turn) : Type 0 where
  pub count : length (pieces_of turns) ≡ n
  pub gave : Gave x source (pieces_of turns)
  pub asked : source.asked ≤ x.asked + n

came_behind : (x : SourceView) (n : ℕ) (source : SourceView) (turns more : List Turn) → pieces_of more ≡ pieces_of turns → Came x n source turns → Came x n source more
came_behind x n source turns more same c = record {
  count = ap length same ∙ c.count;
  gave = subst (Gave x source) (sym same) c.gave;
  asked = c.asked;
}

pub all_came : (x : SourceView) (n : ℕ) (source : SourceView) (turns : List Turn) → Came x n source turns → GavePieces x source
all_came x n source turns c = all_gave x source (pieces_of turns) c.gave (omega (arith, c.asked, c.count))

-- ---- behind some turns, every whole message is read

module _ {H : Type 0} (may : H → ℕ → ℕ → Type 0) (most : ℕ) (old : Around H) (x : SourceView) (n : ℕ) (source : SourceView) (turns : List Turn) (came : Came x n source turns) (told : List Piece) (left : Option (List Piece)) where
  abbrev s : Standing H
  s = standing_at (standing_of old) turns

  took_all : Parts told left (pieces_of turns) → TookPieces told left (length (pieces_of turns))
  took_all p = took told left (pieces_of turns) p

  -- ---- a message was refused, or it was cut short

  refused_next : (trouble : Trouble) (e : Error) (now : Around H) → (f : Fails may most old turns e now) → f.trouble ≡ trouble → Parts told left (pieces_of turns) → Decides may most told left (FailsFor trouble) old now
  refused_next trouble e now f same p = record {
    turns = turns;
    next = record { answer = FailsFor f.trouble; left = f.left; taken = length (pieces_of turns) };
    is = record {
      turns_are = f.are;
      more = p.rest;
      pieces_are = p.told_is;
      comes = (λ none. ap (λ (l : List Turn). (standing_at (standing_of old) l).kept.queue) none ∙ f.began, f.so, refl);
    };
    answer_is = ap FailsFor same;
    stands = f.stands;
    did = f.did;
    sends = f.sends;
    took = took_all p;
  }

  fails_next : (e : Error) (now : Around H) → Fails may most old turns e now → Parts told left (pieces_of turns) → Nexts may most told left (answered (Err e)) old now
  fails_next (error.Parse why) now f p = subst (λ (o : Option Trouble). DecidesBy may most told left o old now) (sym f.is) (refused_next f.trouble (error.Parse why) now f refl p)
  fails_next (error.Event why) now f p = subst (λ (o : Option Trouble). DecidesBy may most told left o old now) (sym f.is) (refused_next f.trouble (error.Event why) now f refl p)
  fails_next error.UnexpectedHandshakeEvent now f p = absurd (let none = f.is in cc)
  fails_next (error.InvalidInterfaceVersion name version) now f p = absurd (let none = f.is in cc)
  fails_next (error.Request reason) now f p = absurd (let none = f.is in cc)
  fails_next (error.Handshake reason) now f p = absurd (let none = f.is in cc)
  fails_next error.UnexpectedEof now f p = absurd (let none = f.is in cc)
  fails_next error.ReadFault now f p = absurd (let none = f.is in cc)
  fails_next error.WriteFault now f p = absurd (let none = f.is in cc)
  fails_next error.HandleLimit now f p = absurd (let none = f.is in cc)
  fails_next error.IdsExhausted now f p = absurd (let none = f.is in cc)
  fails_next error.MessageTooLong now f p = absurd (let none = f.is in cc)
  fails_next error.PieceLimit now f p = absurd (let none = f.is in cc)
  fails_next error.NoMemory now f p = absurd (let none = f.is in cc)

  cut_next : (Cuts : List Turn → Type 0) → Cuts turns → Parts told left (pieces_of turns) → WasCut told left Cuts
  cut_next Cuts c p = record { turns = turns; more = p.rest; pieces_are = p.told_is; cut = c; took = took_all p }

  messages_next : (e : Error) (now : Around H) → ByAll may most old (Err e) now turns → Parts told left (pieces_of turns) → Nexts may most told left (answered (Err e)) old now
  messages_next error.WriteFault now h p = cut_next (λ all. FailsToSend may most old all now) h p
  messages_next error.NoMemory now h p = cut_next (λ all. CutsShort may most old all StandsOrLost now) h p
  messages_next e now h p = fails_next e now h p

  -- ---- an event is queued

  is_read : (turns : List Turn) (s : Standing H) → front_at s ≡ Waits → IsRead turns s
  is_read [] s w = tt
  is_read (t ∷ before) s w = w

  pub gives_next : (event : EiEvent) (now : Around H) (conv : ConverterView H) → RanOut may most old turns now → first_of now.converter.kept.queue ≡ Some event → conv ≡ with_queue (rest_of now.converter.kept.queue) now.converter →
      Parts told left (pieces_of turns) → Decides may most told left (Gives event) old (around now.endpoint conv now.sink now.readings)
  gives_next event now conv r first rest p = subst (λ (c : ConverterView H). Decides may most told left (Gives event) old (around now.endpoint c now.sink now.readings)) (sym rest) (record {
    turns = turns;
    next = record { answer = Gives event; left = record s { kept = record s.kept { queue = rest_of now.converter.kept.queue } }; taken = length (pieces_of turns) };
    is = record {
      turns_are = r.ran.are;
      more = p.rest;
      pieces_are = p.told_is;
      comes = (
        is_read turns s r.waits,
        record {
          others = rest_of now.converter.kept.queue;
          queue = ap (λ (k : KeptView). k.queue) (sym r.ran.stands.kept) ∙ some_queued now.converter.kept.queue event first;
          left_is = refl;
        },
        refl,
      );
    };
    answer_is = refl;
    stands = record {
      endpoint = r.ran.stands.endpoint;
      kept = ap (λ (k : KeptView). record k { queue = rest_of now.converter.kept.queue }) r.ran.stands.kept;
      waiting = r.ran.stands.waiting;
    };
    did = record { reads = r.ran.did.reads; calls = r.ran.did.calls };
    sends = r.ran.sends;
    took = took_all p;
  })

  -- ---- none is

  module _ (now : Around H) (conv : ConverterView H) (r : RanOut may most old turns now) (none : first_of now.converter.kept.queue ≡ None) (rest : conv ≡ with_queue (rest_of now.converter.kept.queue) now.converter) where
    same_conv : conv ≡ now.converter
    same_conv = rest ∙ same_queue now.converter (none_queued now.converter.kept.queue none)

    idle : IsIdle s
    idle = (r.waits, ap (λ (k : KeptView). k.queue) (sym r.ran.stands.kept) ∙ none_queued now.converter.kept.queue none)

    closed_is : now.endpoint.closed ≡ old.endpoint.closed
    closed_is = ap (λ (e : Endpoint). e.closed) r.ran.stands.endpoint ∙ closed_still (standing_of old) turns

    handles_are : now.endpoint.handles ≡ s.endpoint.handles
    handles_are = ap (λ (e : Endpoint). e.handles) r.ran.stands.endpoint

    did_at : (last : BackendView) → Did may old turns (around last conv now.sink now.readings)
    did_at last = record {
      reads = r.ran.did.reads;
      calls = subst (λ (c : ConverterView H). HasCalled may (standing_of old) turns old.converter.receipts c.receipts) (sym same_conv) r.ran.did.calls;
    }

    -- what is so of the endpoint, where reading left it but for its memory
    module _ (last : BackendView) (same : still last ≡ still now.endpoint) (unsent : unsent_of last ≡ unsent_of now.endpoint) where
      stands_on : StandsAs s (around last conv now.sink now.readings)
      stands_on = record {
        endpoint = same ∙ r.ran.stands.endpoint;
        kept = ap (λ (c : ConverterView H). c.kept) same_conv ∙ r.ran.stands.kept;
        waiting = ap (λ (c : ConverterView H). c.waiting) same_conv ∙ r.ran.stands.waiting;
      }

      sends_on : SendsAll old turns (around last conv now.sink now.readings)
      sends_on = subst (λ (u : Piece). SentAll (unsent_of old.endpoint) (answers_to turns) old.sink now.sink u) (sym unsent) r.ran.sends

      ran_on : Ran may most old turns (around last conv now.sink now.readings)
      ran_on = record { began = r.ran.began; are = r.ran.are; stands = stands_on; did = did_at last; sends = sends_on }

      pub limit_next : length (pieces_of turns) ≡ most → Parts told left (pieces_of turns) → Decides may most told left PieceLimit old (around last conv now.sink now.readings)
      limit_next all p = record {
        turns = turns;
        next = record { answer = PieceLimit; left = s; taken = length (pieces_of turns) };
        is = record { turns_are = r.ran.are; more = p.rest; pieces_are = p.told_is; comes = (idle, all, refl, refl) };
        answer_is = refl;
        stands = stands_on;
        did = did_at last;
        sends = sends_on;
        took = took_all p;
      }

      pub ends_next : length (pieces_of turns) < most → (p : Parts told left (pieces_of turns)) → p.rest ≡ [] → Decides may most told left Ends old (around last conv now.sink now.readings)
      ends_next few p no_more = record {
        turns = turns;
        next = record { answer = Ends; left = s; taken = length (pieces_of turns) };
        is = record { turns_are = r.ran.are; more = p.rest; pieces_are = p.told_is; comes = (idle, few, inr no_more, refl, refl) };
        answer_is = refl;
        stands = stands_on;
        did = did_at last;
        sends = sends_on;
        took = took_all p;
      }

      pub closes_next : old.endpoint.closed ≡ true → length (pieces_of turns) < most → Parts told left (pieces_of turns) → Decides may most told left Ends old (around last conv now.sink now.readings)
      closes_next closed few p = record {
        turns = turns;
        next = record { answer = Ends; left = s; taken = length (pieces_of turns) };
        is = record { turns_are = r.ran.are; more = p.rest; pieces_are = p.told_is; comes = (idle, few, inl (closed_still (standing_of old) turns ∙ closed), refl, refl) };
        answer_is = refl;
        stands = stands_on;
        did = did_at last;
        sends = sends_on;
        took = took_all p;
      }

      pub due_next : length (pieces_of turns) < most → Parts told left (pieces_of turns) → WasDue may most told left old (around last conv now.sink now.readings)
      due_next few p = record {
        turns = turns;
        are = r.ran.are;
        more = p.rest;
        pieces_are = p.told_is;
        idle = idle;
        few = few;
        stands = stands_on;
        did = did_at last;
        sends = sends_on;
        took = took_all p;
      }

      pub wants_next : Parts told left (pieces_of turns) → WasCut told left (λ all. CutsShort may most old all StandsOrLost (around last conv now.sink now.readings))
      wants_next p = cut_next (λ all. CutsShort may most old all StandsOrLost (around last conv now.sink now.readings)) (cut_here may most old turns (around last conv now.sink now.readings) ran_on) p

    -- a piece comes that has too many handles
    pub overflows_next : (piece : Piece) (last : BackendView) → old.endpoint.closed ≡ false → length (pieces_of turns) < most → ManyHandles now.endpoint.handles piece → last ≡ closed_of (with_ring now.endpoint) → Parts told left (pieces_of turns ++ piece ∷ []) →
        Decides may most told left HandleLimit old (around last conv now.sink now.readings)
    overflows_next piece last open_so few many is p =
        let ring = stands_on (with_ring now.endpoint) refl refl in
        record {
          turns = turns;
          next = record { answer = HandleLimit; left = record s { endpoint = closed_of s.endpoint }; taken = length (pieces_of turns) + 1 };
          is = record {
            turns_are = r.ran.are;
            more = piece ∷ p.rest;
            pieces_are = p.told_is ∙ append_assoc (pieces_of turns) (piece ∷ []) p.rest;
            comes = (idle, few, closed_still (standing_of old) turns ∙ open_so, record { piece = piece; others = p.rest; first = refl; many = many_handles s.endpoint now.endpoint.handles piece handles_are many.limit; left_is = refl }, refl);
          };
          answer_is = refl;
          stands = record {
            endpoint = ap still is ∙ ap (λ (e : Endpoint). record e { closed = true }) ring.endpoint;
            kept = ring.kept;
            waiting = ring.waiting;
          };
          did = did_at last;
          sends = subst (λ (u : Piece). SentAll (unsent_of old.endpoint) (answers_to turns) old.sink now.sink u) (sym (ap unsent_of is)) r.ran.sends;
          took = subst (TookPieces told left) (length-append (pieces_of turns) (piece ∷ [])) (took told left (pieces_of turns ++ piece ∷ []) p);
        }

    -- a piece comes
    pub comes_next : (count : ℕ) (piece : Piece) (last : BackendView) → old.endpoint.closed ≡ false → length (pieces_of turns) < most → Fits count now.endpoint.handles piece → last ≡ backend.with_piece piece now.endpoint →
        Ran may most old (Comes piece ∷ turns) (around last conv now.sink now.readings)
    comes_next count piece last open_so few fits is =
        let here = stands_on now.endpoint refl refl in
        record {
          began = r.ran.began;
          are = (r.ran.began, r.ran.are, (idle, few, closed_still (standing_of old) turns ∙ open_so, few_handles s.endpoint now.endpoint.handles piece handles_are fits.limit));
          stands = record {
            endpoint = ap still is ∙ ap (λ (e : Endpoint). record e { unread = e.unread ++ piece.bytes; handles = e.handles ++ piece.handles }) here.endpoint;
            kept = here.kept;
            waiting = here.waiting;
          };
          did = record { reads = (did_at last).reads; calls = (did_at last).calls };
          sends = subst (λ (u : Piece). SentAll (unsent_of old.endpoint) (answers_to turns) old.sink now.sink u) (sym (ap unsent_of is)) r.ran.sends;
        }

-- what is queued comes first, and no piece is taken for it
pub gives_queued : {H : Type 0} (may : H → ℕ → ℕ → Type 0) (most : ℕ) (old : Around H) (x : SourceView) (told : List Piece) (left : Option (List Piece)) (ended : Type 0) (event : EiEvent) (o : Option EiEvent) (conv : ConverterView H) → o ≡ Some event → o ≡ first_of old.converter.kept.queue →
    conv ≡ with_queue (rest_of old.converter.kept.queue) old.converter → ArePieces x x ended told left → Decides may most told left (Gives event) old (around old.endpoint conv old.sink old.readings)
gives_queued {H} may most old x told left ended event o conv some first rest are =
    let p = parts x x [] ended told left (none_gave x) are in
    subst (λ (c : ConverterView H). Decides may most told left (Gives event) old (around old.endpoint c old.sink old.readings)) (sym rest) (record {
      turns = [];
      next = record { answer = Gives event; left = record (standing_of old) { kept = record old.converter.kept { queue = rest_of old.converter.kept.queue } }; taken = 0 };
      is = record {
        turns_are = tt;
        more = p.rest;
        pieces_are = p.told_is;
        comes = (tt, record { others = rest_of old.converter.kept.queue; queue = some_queued old.converter.kept.queue event (sym first ∙ some); left_is = refl }, refl);
      };
      answer_is = refl;
      stands = record { endpoint = refl; kept = refl; waiting = refl };
      did = record { reads = refl; calls = refl };
      sends = (refl, refl);
      took = took told left [] p;
    })

pub none_given : (x : SourceView) → GavePieces x x
none_given x = all_gave x x [] (none_gave x) (omega arith)

-- ---- a fault of the source, and its end

pub fault_from : (f : ReadError) → error_of_read f ≡ error.ReadFault → f ≡ read_error.ReadFault
fault_from read_error.ReadFault e = refl
fault_from read_error.HandleLimit e = absurd cc
fault_from read_error.UnexpectedEof e = absurd cc
fault_from read_error.NoMemory e = absurd cc

pub end_from : (f : ReadError) → answered (Err (error_of_read f)) ≡ None → f ≡ read_error.UnexpectedEof
end_from read_error.UnexpectedEof e = refl
end_from read_error.ReadFault e = absurd cc
end_from read_error.HandleLimit e = absurd cc
end_from read_error.NoMemory e = absurd cc

-- ---- after n pieces

pub record Running {H : Type 0} (may : H → ℕ → ℕ → Type 0) (most : ℕ) (old : Around H) (x : SourceView) (n : ℕ) (source : SourceView) (now : Around H) : Type 0 where
  pub turns : List Turn
  pub came : Came x n source turns
  pub ran : Ran may most old turns now

pub starts : {H : Type 0} (may : H → ℕ → ℕ → Type 0) (most : ℕ) (old : Around H) (x : SourceView) → old.converter.kept.queue ≡ [] → Running may most old x 0 x old
starts may most old x empty = record {
  turns = [];
  came = record { count = refl; gave = none_gave x; asked = omega arith };
  ran = record {
    began = empty;
    are = tt;
    stands = record { endpoint = refl; kept = refl; waiting = refl };
    did = record { reads = refl; calls = refl };
    sends = (refl, refl);
  };
}

module _ {H : Type 0} (may : H → ℕ → ℕ → Type 0) (most : ℕ) (old : Around H) (x : SourceView) (n : ℕ) (source : SourceView) (now : Around H) (r : Running may most old x n source now) where
  -- what became of the whole messages then
  abbrev pub After : Result (Unit {0}) Error → Around H → Type 0
  After result then = Behind r.turns (ByAll may most old result then)

  came_then : (result : Result (Unit {0}) Error) (then : Around H) → (a : After result then) → Came x n source (a.0 ++ r.turns)
  came_then result then a = came_behind x n source r.turns (a.0 ++ r.turns) a.1 r.came

  pub all_given : GavePieces x source
  all_given = all_came x n source r.turns r.came

  -- a message was refused, or it was cut short
  pub messages_fail : (told : List Piece) (left : Option (List Piece)) (ended : Type 0) (e : Error) (r' : Result (Unit {0}) Error) (result : Result EiEvent Error) (then : Around H) → r' ≡ Err e → result ≡ Err e → After r' then → ArePieces x source ended told left →
      Nexts may most told left (answered result) old then
  messages_fail told left ended e r' result then is is' a are =
      let c = came_then r' then a in
      subst (λ (q : Result EiEvent Error). Nexts may most told left (answered q) old then) (sym is')
      (messages_next may most old x n source (a.0 ++ r.turns) c told left e then (subst (λ (q : Result (Unit {0}) Error). ByAll may most old q then (a.0 ++ r.turns)) is a.2) (parts x source (pieces_of (a.0 ++ r.turns)) ended told left c.gave are))

  module _ (r' : Result (Unit {0}) Error) (done : Unit {0}) (then : Around H) (is : r' ≡ Ok done) (a : After r' then) where
    out : RanOut may most old (a.0 ++ r.turns) then
    out = subst (λ (q : Result (Unit {0}) Error). ByAll may most old q then (a.0 ++ r.turns)) is a.2

    c : Came x n source (a.0 ++ r.turns)
    c = came_then r' then a

    -- an event is queued
    pub event_given : (told : List Piece) (left : Option (List Piece)) (ended : Type 0) (event : EiEvent) (o : Option EiEvent) (conv : ConverterView H) → o ≡ Some event → o ≡ first_of then.converter.kept.queue → conv ≡ with_queue (rest_of then.converter.kept.queue) then.converter →
        ArePieces x source ended told left → Nexts may most told left (answered (Ok event)) old (around then.endpoint conv then.sink then.readings)
    event_given told left ended event o conv some first rest are =
        gives_next may most old x n source (a.0 ++ r.turns) c told left event then conv out (sym first ∙ some) rest (parts x source (pieces_of (a.0 ++ r.turns)) ended told left c.gave are)

    module _ (o : Option EiEvent) (conv : ConverterView H) (none : o ≡ None) (first : o ≡ first_of then.converter.kept.queue) (rest : conv ≡ with_queue (rest_of then.converter.kept.queue) then.converter) where
      empty : first_of then.converter.kept.queue ≡ None
      empty = sym first ∙ none

      -- as many pieces as may be were taken
      pub at_limit : (told : List Piece) (left : Option (List Piece)) (ended : Type 0) → most ≡ n → ArePieces x source ended told left → Nexts may most told left (answered (Err error.PieceLimit)) old (around then.endpoint conv then.sink then.readings)
      at_limit told left ended all are =
          limit_next may most old x n source (a.0 ++ r.turns) c told left then conv out empty rest then.endpoint refl refl (omega (arith, all, c.count)) (parts x source (pieces_of (a.0 ++ r.turns)) ended told left c.gave are)

      -- ---- a piece is read

      mid_closed : then.endpoint.closed ≡ old.endpoint.closed
      mid_closed = closed_is may most old x n source (a.0 ++ r.turns) c [] None then conv out empty rest

      more_came : (source' : SourceView) (piece : Piece) → Hands source piece source' → Came x (n + 1) source' (Comes piece ∷ a.0 ++ r.turns)
      more_came source' piece h = record {
        count = omega (arith, c.count, length-append (pieces_of (a.0 ++ r.turns)) (piece ∷ []));
        gave = hands_gave x source source' (pieces_of (a.0 ++ r.turns)) c.gave piece h;
        asked = omega (arith, c.asked, h.asked.once);
      }

      -- or not
      came_open : (source' : SourceView) (last : BackendView) (f : ReadError) → ReadsOn source source' (Err f) then.endpoint last → GavePieces x source'
      came_open source' last read_error.HandleLimit q = all_came x (n + 1) source' (Comes q.0 ∷ a.0 ++ r.turns) (more_came source' q.0 q.1)
      came_open source' last read_error.UnexpectedEof q = all_gave x source' (pieces_of (a.0 ++ r.turns)) (ends_gave x source source' (pieces_of (a.0 ++ r.turns)) c.gave q.0) (omega (arith, c.asked, c.count, q.0.asked.once))
      came_open source' last read_error.ReadFault q = all_gave x source' (pieces_of (a.0 ++ r.turns)) (keeps_gave x source source' (pieces_of (a.0 ++ r.turns)) c.gave q.0) (omega (arith, c.asked, c.count, q.0.asked))
      came_open source' last read_error.NoMemory q = all_gave x source' (pieces_of (a.0 ++ r.turns)) (keeps_gave x source source' (pieces_of (a.0 ++ r.turns)) c.gave q.0) (omega (arith, c.asked, c.count, q.0.asked))

      pub came_at_last : {S : Type 0} {view : S → SourceView} {later : S → S → Type 0} (u v : S) → view u ≡ source → (last : BackendView) (f : ReadError) → Reads view later (Err f) then.endpoint last u v → GavePieces x (view v)
      came_at_last {view = view} u v at last f reads = by then.endpoint.closed refl
        where
          by : (closed : Bool) → then.endpoint.closed ≡ closed → GavePieces x (view v)
          by false e = came_open (view v) last f (subst (λ (q : SourceView). ReadsOn q (view v) (Err f) then.endpoint last) at (reads.reads e))
          by true e = subst (λ (q : SourceView). GavePieces x q) (sym at ∙ ap view (sym (reads.closed e).2)) all_given

      -- what the source says then
      pub source_failed : {S : Type 0} {view : S → SourceView} {later : S → S → Type 0} (start u v : S) → ((p q t : S) → later p q → later q t → later p t) → LentSource view later ⊥ ⊥ start u → (last : BackendView) (f : ReadError) → Reads view later (Err f) then.endpoint last u v →
          (result : Result EiEvent Error) → result ≡ Err (error_of_read f) → LentSource view later (IsErrOf result error.ReadFault) (CameToEnd old.endpoint.closed (answered result)) start v
      source_failed start u v trans before last f reads result is' =
          source_twice trans (λ no. no) before (source_as
          (λ failed. is' ∙ ap (λ (e : ReadError). Err (error_of_read e)) (same_fault failed))
          (λ failed. ap (λ (e : ReadError). Err e) (fault_from f (same_error (sym is' ∙ failed))))
          (λ end. (mid_closed ∙ end.0, ap (λ (e : ReadError). Err e) (end_from f (ap answered (sym is') ∙ end.1))))
          reads.lent)
        where
          same_fault : IsErrOf {T = ℕ} (Err f) read_error.ReadFault → f ≡ read_error.ReadFault
          same_fault e = cc

          same_error : ◌≡◌ {A = Result EiEvent Error} (Err (error_of_read f)) (Err error.ReadFault) → error_of_read f ≡ error.ReadFault
          same_error e = cc

      module _ (few : n < most) where
        fewer : length (pieces_of (a.0 ++ r.turns)) < most
        fewer = omega (arith, few, c.count)

        one_more : (source' : SourceView) (last : BackendView) (count : ℕ) → then.endpoint.closed ≡ false → ReadsOn source source' (Ok count) then.endpoint last → Running may most old x (n + 1) source' (around last conv then.sink then.readings)
        one_more source' last count is_open q = record {
          turns = Comes q.0 ∷ a.0 ++ r.turns;
          came = more_came source' q.0 q.1;
          ran = comes_next may most old x n source (a.0 ++ r.turns) c [] None then conv out empty rest count q.0 last (sym mid_closed ∙ is_open) fewer q.2 q.3;
        }

        -- it came
        pub one_read : {S : Type 0} {view : S → SourceView} {later : S → S → Type 0} (u v : S) → view u ≡ source → (last : BackendView) (count : ℕ) → Reads view later (Ok count) then.endpoint last u v →
            Running may most old x (n + 1) (view v) (around last conv then.sink then.readings)
        one_read {view = view} u v at last count reads =
            let is_open = open_where_read then.endpoint last u v count reads in
            one_more (view v) last count is_open (subst (λ (q : SourceView). ReadsOn q (view v) (Ok count) then.endpoint last) at (reads.reads is_open))

        module _ (told : List Piece) (left : Option (List Piece)) (source' : SourceView) (last : BackendView) where
          abbrev Says : Result EiEvent Error → Type 0
          Says result = Nexts may most told left (answered result) old (around last conv then.sink then.readings)

          abbrev Are : ReadError → Type 0
          Are f = ArePieces x source' (CameToEnd old.endpoint.closed (answered (Err (error_of_read f)))) told left

          fails_open : (f : ReadError) → old.endpoint.closed ≡ false → ReadsOn source source' (Err f) then.endpoint last → Are f → Says (Err (error_of_read f))
          fails_open read_error.HandleLimit is_open q are =
              overflows_next may most old x n source (a.0 ++ r.turns) c told left then conv out empty rest q.0 last is_open fewer q.2 q.3
              (parts x source' (pieces_of (a.0 ++ r.turns) ++ q.0 ∷ []) _ told left (hands_gave x source source' (pieces_of (a.0 ++ r.turns)) c.gave q.0 q.1) are)
          fails_open read_error.UnexpectedEof is_open q are =
              let none = parts_end x source source' (pieces_of (a.0 ++ r.turns)) _ told left c.gave q.0 (is_open, refl) are in
              ends_next may most old x n source (a.0 ++ r.turns) c told left then conv out empty rest last (ap still q.1) (ap unsent_of q.1) fewer (record { rest = []; told_is = none.0; left_is = none.1 }) refl
          fails_open read_error.ReadFault is_open q are =
              due_next may most old x n source (a.0 ++ r.turns) c told left then conv out empty rest last (ap still q.1) (ap unsent_of q.1) fewer
              (parts x source' (pieces_of (a.0 ++ r.turns)) _ told left (keeps_gave x source source' (pieces_of (a.0 ++ r.turns)) c.gave q.0) are)
          fails_open read_error.NoMemory is_open q are =
              wants_next may most old x n source (a.0 ++ r.turns) c told left then conv out empty rest last (ap still q.1) (ap unsent_of q.1)
              (parts x source' (pieces_of (a.0 ++ r.turns)) _ told left (keeps_gave x source source' (pieces_of (a.0 ++ r.turns)) c.gave q.0) are)

          fails_closed : (f : ReadError) → f ≡ read_error.UnexpectedEof → old.endpoint.closed ≡ true → last ≡ then.endpoint → source' ≡ source → Are f → Says (Err (error_of_read f))
          fails_closed f eof closed same kept are =
              subst (λ (w : ReadError). Says (Err (error_of_read w))) (sym eof)
              (closes_next may most old x n source (a.0 ++ r.turns) c told left then conv out empty rest last (ap still same) (ap unsent_of same) closed fewer
              (parts x source' (pieces_of (a.0 ++ r.turns)) _ told left (subst (λ (q : SourceView). Gave x q (pieces_of (a.0 ++ r.turns))) (sym kept) c.gave) are))

        pub reading_fails : {S : Type 0} {view : S → SourceView} {later : S → S → Type 0} (u v : S) → view u ≡ source → (last : BackendView) (f : ReadError) → Reads view later (Err f) then.endpoint last u v →
            (told : List Piece) (left : Option (List Piece)) (result : Result EiEvent Error) → result ≡ Err (error_of_read f) → ArePieces x (view v) (CameToEnd old.endpoint.closed (answered result)) told left →
            Nexts may most told left (answered result) old (around last conv then.sink then.readings)
        reading_fails {view = view} u v at last f reads told left result is' are =
            subst (Says told left (view v) last) (sym is') (by old.endpoint.closed refl (subst (λ (q : Result EiEvent Error). ArePieces x (view v) (CameToEnd old.endpoint.closed (answered q)) told left) is' are))
          where
            eof : (h : IsErrOf {T = ℕ} (Err f) read_error.UnexpectedEof) → f ≡ read_error.UnexpectedEof
            eof h = cc

            by : (closed : Bool) → old.endpoint.closed ≡ closed → Are told left (view v) last f → Says told left (view v) last (Err (error_of_read f))
            by false e are = fails_open told left (view v) last f e (subst (λ (q : SourceView). ReadsOn q (view v) (Err f) then.endpoint last) at (reads.reads (mid_closed ∙ e))) are
            by true e are = let q = reads.closed (mid_closed ∙ e) in fails_closed told left (view v) last f (eof q.0) e q.1 (ap view q.2 ∙ at) are

-- ---- the call, where no event was queued

module _ {H : Type 0} (old : Around H) (o : Option EiEvent) (conv : ConverterView H) (none : o ≡ None) (first : o ≡ first_of old.converter.kept.queue) (rest : conv ≡ with_queue (rest_of old.converter.kept.queue) old.converter) where
  was_empty : old.converter.kept.queue ≡ []
  was_empty = none_queued old.converter.kept.queue (sym first ∙ none)

  pub is_empty : conv.kept.queue ≡ []
  is_empty = ap (λ (c : ConverterView H). c.kept.queue) (rest ∙ same_queue old.converter was_empty) ∙ was_empty

  pub next_from : (may : H → ℕ → ℕ → Type 0) (most : ℕ) (told : List Piece) (left : Option (List Piece)) (a result : Answered) (new : Around H) → result ≡ a → Nexts may most told left a (around old.endpoint conv old.sink old.readings) new → Nexts may most told left result old new
  next_from may most told left a result new is h =
      subst (λ (r : Answered). Nexts may most told left r old new) (sym is)
      (subst (λ (c : ConverterView H). Nexts may most told left a (around old.endpoint c old.sink old.readings) new) (rest ∙ same_queue old.converter was_empty) h)
