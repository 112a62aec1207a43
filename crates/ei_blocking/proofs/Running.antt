-- A handshake after some pieces, and each way in which it ends.
use Rattle.std.proofs.Common.{◌≡◌, ◌≤◌, ◌<◌, ℕ, ◌+◌, Bool, true, false, List, [], ◌∷◌, ◌++◌, length, Option, Some, None, Result, Ok, Err, refl, ap, sym, subst, ◌∙◌, arith}
use Rattle.std.specs.Prelude.{IsErrOf}
use Rattle.std.proofs.lemmas.List.{length-append}
use Rattle.ei_spec.specs.Message.{Raw, Short, front}
use Rattle.ei_spec.specs.Piece.{Piece}
use Rattle.ei_spec.proofs.GoesOn.{read_short}
use Rattle.ei_types.specs.declared.error.Error.{Error}
use Rattle.ei_types.specs.declared.error.Error.TheVariants as error
use Rattle.ei_types.specs.Errors.{error_of_read}
use Rattle.ei_wire.specs.declared.error.ReadError.{ReadError}
use Rattle.ei_wire.specs.declared.error.ReadError.TheVariants as read_error
use Rattle.ei_backend.specs.Table.{found}
use Rattle.ei_backend.specs.Endpoint.{Endpoint}
use Rattle.ei_backend.specs.Backend.{BackendView, Reads, ReadsOn, unsent_of}
use Rattle.ei_backend.specs.Incoming.{Fits}
use Rattle.ei_backend.specs.Outside.{SourceView, SinkView}
use Rattle.ei_backend.specs.Pieces.{ArePieces, GavePieces}
use Rattle.ei_greeting.specs.Shaking.{Greeter, judge, versions_told}
use Rattle.ei_greeting.specs.Opening.{reading_of}
use Rattle.ei_handshake.specs.Client.{ClientView, unshaken}
use Rattle.ei_handshake.specs.declared.client.HandshakeResp.{HandshakeResp}
use Rattle.ei_blocking.specs.SourceEnd.{CameToEnd}
use Rattle.ei_blocking.specs.Sending.{SentAll, sent_bytes}
use Rattle.ei_blocking.specs.Blocking.{Opens, around}
use Rattle.ei_blocking.specs.Steps.{Shakes, Waits, StepsOn}
use Rattle.ei_blocking.proofs.GivenPieces.{Gave, none_gave, keeps_gave, ends_gave, hands_gave, all_gave, Parts, parts, parts_end}
use Rattle.ei_blocking.proofs.Sending.{bytes_grow}
use Rattle.ei_blocking.proofs.Turning.{Turned, turns_none, turns_on, refuses, connects, limits, closes, ends, read_fails, breaks_write, breaks_memory, wants_ring, overflows_at}

-- ---- the messages that are whole

-- a new handshaker was told nothing
pub begun : (g : Greeter) (h : ClientView) (b : BackendView) → h ≡ unshaken g → Shakes g b [] h b
unfolding versions_told reading_of
begun g h b e = record { told = e; stands = refl; goes_on = refl }

none_at : (bytes : List ℕ) → length bytes ≡ 0 → front bytes ≡ Short
unfolding front
none_at [] e = refl
none_at (x ∷ bytes) e = absurd (omega (arith, e))

-- where nothing is unread, none is whole
pub none_left : (g : Greeter) (b : BackendView) (past : List Raw) (h : ClientView) (now : BackendView) → Shakes g b past h now → length now.unread ≡ 0 → Waits g b past h now
none_left g b past h now s e = record { shakes = s; stops = s.goes_on ∙ read_short (judge g (found b.table) b) past now.unread (none_at now.unread e) }

-- a piece came, so the endpoint isn't closed
pub open_where_read : {S : Type 0} {view : S → SourceView} {later : S → S → Type 0} (old new : BackendView) (u v : S) (count : ℕ) → Reads view later (Ok count) old new u v → old.closed ≡ false
open_where_read old new u v count reads = by old.closed refl
  where
    none : IsErrOf {T = ℕ} {E = ReadError} (Ok count) read_error.UnexpectedEof → ⊥
    none e = cc

    by : (closed : Bool) → old.closed ≡ closed → old.closed ≡ false
    by false e = e
    by true e = absurd (none (reads.closed e).0)

-- ---- after n pieces

pub record Running (g : Greeter) (b : BackendView) (x : SourceView) (s : SinkView) (n : ℕ) (h : ClientView) (source : SourceView) (sink : SinkView) (now : BackendView) : Type 0 where
  pub pieces : List Piece
  pub count : length pieces ≡ n
  pub gave : Gave x source pieces
  pub asked : source.asked ≤ x.asked + n
  pub turned : Turned g b pieces h s sink now

pub starts : (g : Greeter) (b : BackendView) (x : SourceView) (s : SinkView) (h : ClientView) → h ≡ unshaken g → Running g b x s 0 h x s b
starts g b x s h e = record { pieces = []; count = refl; gave = none_gave x; asked = omega arith; turned = turns_none g b h s (begun g h b e) }

module _ (g : Greeter) (b : BackendView) (x : SourceView) (s : SinkView) (n : ℕ) (h : ClientView) (source : SourceView) (sink : SinkView) (now : BackendView) (r : Running g b x s n h source sink now) where
  -- what became of the whole messages then
  abbrev pub After : Result (Option HandshakeResp) Error → ClientView → SinkView → BackendView → Type 0
  After result h' sink' last = (behind : List Raw) × StepsOn g r.turned.c (behind ++ r.turned.past) result h' s sink' last

  -- the pieces that came
  pub all_came : GavePieces x source
  all_came = all_gave x source r.pieces r.gave (omega (arith, r.asked, r.count))

  module _ (most : ℕ) (few : n ≤ most) (told : List Piece) (left : Option (List Piece)) where
    at_most : length r.pieces ≤ most
    at_most = omega (arith, few, r.count)

    part : (ended : Type 0) → ArePieces x source ended told left → Parts told left r.pieces
    part ended are = parts x source r.pieces ended told left r.gave are

    -- a message was refused, or cut short
    pub messages_fail : (ended : Type 0) (e : Error) (r' : Result (Option HandshakeResp) Error) (result : Result HandshakeResp Error) (h' : ClientView) (sink' : SinkView) (last : BackendView) → r' ≡ Err e → result ≡ Err e → After r' h' sink' last →
        ArePieces x source ended told left → Opens g most told left result (around b s) (around last sink')
    messages_fail ended e r' result h' sink' last is is' a are =
        subst (λ (q : Result HandshakeResp Error). Opens g most told left q (around b s) (around last sink')) (sym is')
        (by e (subst (λ (q : Result (Option HandshakeResp) Error). StepsOn g r.turned.c (a.0 ++ r.turned.past) q h' s sink' last) is a.1))
      where
        grown : sent_bytes g r.turned.c r.turned.past ≤ sent_bytes g r.turned.c (a.0 ++ r.turned.past)
        grown = bytes_grow g r.turned.c a.0 r.turned.past

        by : (e : Error) → StepsOn g r.turned.c (a.0 ++ r.turned.past) (Err e) h' s sink' last → Opens g most told left (Err e) (around b s) (around last sink')
        by error.WriteFault q = breaks_write g b most r.pieces h s sink now r.turned at_most told left (part ended are) a.0 (a.0 ++ r.turned.past) sink' last refl grown q
        by error.NoMemory q = breaks_memory g b most r.pieces h s sink now r.turned at_most told left (part ended are) a.0 (a.0 ++ r.turned.past) sink' last refl grown q
        by e q = refuses g b most r.pieces h s sink now r.turned at_most told left (part ended are) e (a.0 ++ r.turned.past) sink' last q.0 q.1

    -- the connection came
    pub handed_over : (ended : Type 0) (resp : HandshakeResp) (r' : Result (Option HandshakeResp) Error) (h' : ClientView) (sink' : SinkView) (last : BackendView) → r' ≡ Ok (Some resp) → After r' h' sink' last →
        ArePieces x source ended told left → Opens g most told left (Ok resp) (around b s) (around last sink')
    handed_over ended resp r' h' sink' last is a are =
        let q = subst (λ (p : Result (Option HandshakeResp) Error). StepsOn g r.turned.c (a.0 ++ r.turned.past) p h' s sink' last) is a.1 in
        connects g b most r.pieces h s sink now r.turned at_most told left (part ended are) resp (a.0 ++ r.turned.past) sink' last q.0 q.1

    -- as many pieces as may be were taken
    pub at_limit : (ended : Type 0) (r' : Result (Option HandshakeResp) Error) (h' : ClientView) (sink' : SinkView) (last : BackendView) → most ≡ n → r' ≡ Ok None → After r' h' sink' last →
        ArePieces x source ended told left → Opens g most told left (Err error.PieceLimit) (around b s) (around last sink')
    at_limit ended r' h' sink' last all is a are =
        let q = subst (λ (p : Result (Option HandshakeResp) Error). StepsOn g r.turned.c (a.0 ++ r.turned.past) p h' s sink' last) is a.1 in
        limits g b most r.pieces h s sink now r.turned at_most told left (part ended are) (a.0 ++ r.turned.past) h' sink' last (omega (arith, all, r.count)) q.0 q.1

  -- ---- a piece is read

  module _ (h' : ClientView) (sink' : SinkView) (mid last : BackendView) (source' : SourceView) (a : After (Ok None) h' sink' mid) where
    mid_closed : mid.closed ≡ b.closed
    mid_closed = ap (λ (e : Endpoint). e.closed) a.1.0.shakes.stands ∙ r.turned.alike.closed

    -- reading leaves what is unsent
    sends_so : unsent_of last ≡ unsent_of mid → SentAll g r.turned.c (a.0 ++ r.turned.past) s sink' last
    sends_so e = by (a.0 ++ r.turned.past) a.1.1
      where
        by : (past : List Raw) → SentAll g r.turned.c past s sink' mid → SentAll g r.turned.c past s sink' last
        by [] q = (q.0, e ∙ q.1)
        by (m ∷ past) q = record { told = q.told; unsent = e ∙ q.unsent; puts = q.puts; bytes = q.bytes }

    -- it came
    pub one_more : (count : ℕ) → mid.closed ≡ false → ReadsOn source source' (Ok count) mid last → Running g b x s (n + 1) h' source' sink' last
    one_more count is_open q = record {
      pieces = r.pieces ++ q.0 ∷ [];
      count = omega (arith, r.count, length-append r.pieces (q.0 ∷ []));
      gave = hands_gave x source source' r.pieces r.gave q.0 q.1;
      asked = omega (arith, r.asked, q.1.asked.once);
      turned = turns_on g b r.pieces h h' s sink sink' now mid r.turned (a.0 ++ r.turned.past) a.1.0 a.1.1 count q.0 last (sym mid_closed ∙ is_open) q.3
          (subst (λ (k : ℕ). Fits k mid.handles q.0) refl q.2);
    }

    -- or not
    came_open : (f : ReadError) → ReadsOn source source' (Err f) mid last → GavePieces x source'
    came_open read_error.HandleLimit q = all_gave x source' (r.pieces ++ q.0 ∷ []) (hands_gave x source source' r.pieces r.gave q.0 q.1) (omega (arith, r.asked, r.count, q.1.asked.once, length-append r.pieces (q.0 ∷ [])))
    came_open read_error.UnexpectedEof q = all_gave x source' r.pieces (ends_gave x source source' r.pieces r.gave q.0) (omega (arith, r.asked, r.count, q.0.asked.once))
    came_open read_error.ReadFault q = all_gave x source' r.pieces (keeps_gave x source source' r.pieces r.gave q.0) (omega (arith, r.asked, r.count, q.0.asked))
    came_open read_error.NoMemory q = all_gave x source' r.pieces (keeps_gave x source source' r.pieces r.gave q.0) (omega (arith, r.asked, r.count, q.0.asked))

    module _ (most : ℕ) (few : n < most) (told : List Piece) (left : Option (List Piece)) where
      at_most_still : length r.pieces ≤ most
      at_most_still = omega (arith, few, r.count)

      fewer : length r.pieces < most
      fewer = omega (arith, few, r.count)

      grown : sent_bytes g r.turned.c r.turned.past ≤ sent_bytes g r.turned.c (a.0 ++ r.turned.past)
      grown = bytes_grow g r.turned.c a.0 r.turned.past

      fails_open : (f : ReadError) → b.closed ≡ false → ReadsOn source source' (Err f) mid last → ArePieces x source' (CameToEnd {T = HandshakeResp} b.closed (Err (error_of_read f))) told left → Opens g most told left (Err (error_of_read f)) (around b s) (around last sink')
      fails_open read_error.HandleLimit is_open q are =
          overflows_at g b most r.pieces h s sink now r.turned at_most_still told left q.0 (a.0 ++ r.turned.past) h' sink' mid last fewer is_open
          (parts x source' (r.pieces ++ q.0 ∷ []) _ told left (hands_gave x source source' r.pieces r.gave q.0 q.1) are) q.2 q.3 a.1.0 (sends_so (ap unsent_of q.3))
      fails_open read_error.UnexpectedEof is_open q are =
          let whole = ends_gave x source source' r.pieces r.gave q.0 in
          let none = parts_end x source source' r.pieces _ told left r.gave q.0 (is_open, refl) are in
          ends g b most r.pieces h s sink now r.turned at_most_still told left (parts x source' r.pieces _ told left whole are) (a.0 ++ r.turned.past) h' sink' mid last fewer none.0 q.1 a.1.0 a.1.1 (sends_so (ap unsent_of q.1))
      fails_open read_error.ReadFault is_open q are =
          read_fails g b most r.pieces h s sink now r.turned at_most_still told left (parts x source' r.pieces _ told left (keeps_gave x source source' r.pieces r.gave q.0) are)
          (a.0 ++ r.turned.past) h' sink' mid last q.1 a.1.0 (sends_so (ap unsent_of q.1))
      fails_open read_error.NoMemory is_open q are =
          subst (λ (e : BackendView). Opens g most told left (Err error.NoMemory) (around b s) (around e sink')) (sym q.1)
          (wants_ring g b most r.pieces h s sink now r.turned at_most_still told left (parts x source' r.pieces _ told left (keeps_gave x source source' r.pieces r.gave q.0) are)
          a.0 (a.0 ++ r.turned.past) h' sink' mid refl grown a.1.0 a.1.1)

      -- the endpoint is closed
      pub fails_closed : b.closed ≡ true → last ≡ mid → source' ≡ source → ArePieces x source' (CameToEnd {T = HandshakeResp} b.closed (Err error.UnexpectedEof)) told left → Opens g most told left (Err error.UnexpectedEof) (around b s) (around last sink')
      fails_closed closed same kept are =
          subst (λ (e : BackendView). Opens g most told left (Err error.UnexpectedEof) (around b s) (around e sink')) (sym same)
          (closes g b most r.pieces h s sink now r.turned at_most_still told left (parts x source' r.pieces _ told left (subst (λ (v : SourceView). Gave x v r.pieces) (sym kept) r.gave) are)
          (a.0 ++ r.turned.past) h' sink' mid fewer closed a.1.0 a.1.1)

  -- a call for one piece hands one
  pub one_read : {S : Type 0} {view : S → SourceView} {later : S → S → Type 0} (h' : ClientView) (sink' : SinkView) (mid last : BackendView) (u v : S) → view u ≡ source → (r' : Result (Option HandshakeResp) Error) → r' ≡ Ok None →
      After r' h' sink' mid → (count : ℕ) → Reads view later (Ok count) mid last u v → Running g b x s (n + 1) h' (view v) sink' last
  one_read {view = view} h' sink' mid last u v at r' none a count reads =
      let is_open = open_where_read mid last u v count reads in
      let went : After (Ok None) h' sink' mid = (a.0, subst (λ (p : Result (Option HandshakeResp) Error). StepsOn g r.turned.c (a.0 ++ r.turned.past) p h' s sink' mid) none a.1) in
      one_more h' sink' mid last (view v) went count is_open (subst (λ (q : SourceView). ReadsOn q (view v) (Ok count) mid last) at (reads.reads is_open))

  -- a call for one piece fails
  module _ {S : Type 0} {view : S → SourceView} {later : S → S → Type 0} (h' : ClientView) (sink' : SinkView) (mid last : BackendView) (u v : S) (at : view u ≡ source) (r' : Result (Option HandshakeResp) Error) (none : r' ≡ Ok None) (a : After r' h' sink' mid) (f : ReadError)
      (reads : Reads view later (Err f) mid last u v) where
    went : After (Ok None) h' sink' mid
    went = (a.0, subst (λ (p : Result (Option HandshakeResp) Error). StepsOn g r.turned.c (a.0 ++ r.turned.past) p h' s sink' mid) none a.1)

    reads_from : mid.closed ≡ false → ReadsOn source (view v) (Err f) mid last
    reads_from is_open = subst (λ (q : SourceView). ReadsOn q (view v) (Err f) mid last) at (reads.reads is_open)

    pub came_at_last : GavePieces x (view v)
    came_at_last = by mid.closed refl
      where
        by : (closed : Bool) → mid.closed ≡ closed → GavePieces x (view v)
        by false e = came_open h' sink' mid last (view v) went f (reads_from e)
        by true e = subst (λ (q : SourceView). GavePieces x q) (sym at ∙ ap view (sym (reads.closed e).2)) all_came

    pub reading_fails : (most : ℕ) → n < most → (told : List Piece) (left : Option (List Piece)) (result : Result HandshakeResp Error) → result ≡ Err (error_of_read f) → ArePieces x (view v) (CameToEnd b.closed result) told left →
        Opens g most told left result (around b s) (around last sink')
    reading_fails most few told left result is are =
        subst (λ (q : Result HandshakeResp Error). Opens g most told left q (around b s) (around last sink')) (sym is)
        (by b.closed refl (subst (λ (q : Result HandshakeResp Error). ArePieces x (view v) (CameToEnd b.closed q) told left) is are))
      where
        closed_is : mid.closed ≡ b.closed
        closed_is = mid_closed h' sink' mid last (view v) went

        eof : (k : ReadError) → f ≡ k → (IsErrOf {T = ℕ} (Err f) read_error.UnexpectedEof) → ArePieces x (view v) (CameToEnd {T = HandshakeResp} b.closed (Err (error_of_read f))) told left → b.closed ≡ true → last ≡ mid → view v ≡ source →
            Opens g most told left (Err (error_of_read f)) (around b s) (around last sink')
        eof k e end are closed same kept =
            let it : f ≡ read_error.UnexpectedEof = cc in
            subst (λ (w : ReadError). Opens g most told left (Err (error_of_read w)) (around b s) (around last sink')) (sym it)
            (fails_closed h' sink' mid last (view v) went most few told left closed same kept (subst (λ (w : ReadError). ArePieces x (view v) (CameToEnd {T = HandshakeResp} b.closed (Err (error_of_read w))) told left) it are))

        by : (closed : Bool) → b.closed ≡ closed → ArePieces x (view v) (CameToEnd {T = HandshakeResp} b.closed (Err (error_of_read f))) told left → Opens g most told left (Err (error_of_read f)) (around b s) (around last sink')
        by false e are = fails_open h' sink' mid last (view v) went most few told left f e (reads_from (closed_is ∙ e)) are
        by true e are = let q = reads.closed (closed_is ∙ e) in eof f refl q.0 are e q.1 (ap view q.2 ∙ at)
