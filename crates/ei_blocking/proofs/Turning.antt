-- A handshake from piece to piece, and how it ends.
use Rattle.std.proofs.Common.{◌≡◌, ◌≤◌, ◌<◌, ℕ, suc, ◌+◌, ◌-◌, inl, true, false, List, [], ◌∷◌, ◌++◌, length, take, Option, Some, Result, Ok, Err, refl, ap, sym, subst, ◌∙◌, append_assoc, arith}
use Rattle.std.proofs.lemmas.Bool.{lt-ltb, le-ltb}
use Rattle.std.proofs.lemmas.List.{length-append, take-append-le}
use Rattle.ei_spec.specs.declared.handle.Handle.{Handle}
use Rattle.ei_spec.specs.declared.limits.TheConstants.{MOST_UNREAD_HANDLES}
use Rattle.ei_spec.specs.Message.{Raw}
use Rattle.ei_spec.specs.Piece.{Piece}
use Rattle.ei_spec.specs.Stream.{Waiting, Reading, reading, read}
use Rattle.ei_types.specs.declared.error.Error.{Error}
use Rattle.ei_types.specs.declared.error.Error.TheVariants as error
use Rattle.ei_types.specs.Decided.{IsDecided, IsCutShort}
use Rattle.ei_backend.specs.Table.{found}
use Rattle.ei_backend.specs.Endpoint.{Endpoint}
use Rattle.ei_backend.specs.Backend.{BackendView, unsent_of, ReadsOn, closed_of, with_ring}
use Rattle.ei_backend.specs.Backend as backend
use Rattle.ei_backend.specs.Incoming.{Fits, Overflows}
use Rattle.ei_backend.specs.Outside.{SinkView}
use Rattle.ei_backend.specs.Pieces.{TookPieces}
use Rattle.ei_greeting.specs.Shaking.{Greeter, Trouble, judge}
use Rattle.ei_greeting.specs.Opening.{Opening, UnexpectedEof, PieceLimit, Refused, opening, opens, reading_of, stopped_at, with_piece, overflows, refused_at, connected_at, waited_at, overflown_at}
use Rattle.ei_greeting.proofs.TakenPieces.{takes_one}
use Rattle.ei_greeting.proofs.GoingOn.{goes_on}
use Rattle.ei_handshake.specs.Client.{ClientView}
use Rattle.ei_handshake.specs.declared.client.HandshakeResp.{HandshakeResp}
use Rattle.ei_blocking.specs.Still.{still}
use Rattle.ei_blocking.specs.Sending.{SentAll, SentFront, sent_bytes}
use Rattle.ei_blocking.specs.Blocking.{EndsAs, IsTrouble, StandsAfter, trouble_of, with_pieces, handled_of, around, CutShort, FailsToSend, Opens}
use Rattle.ei_blocking.specs.Steps.{Shakes, Waits, Connects, Refuses, Breaks, Fails}
use Rattle.ei_blocking.proofs.MoreHandles.{versions_more, sends_more, front_more, bytes_more}
use Rattle.ei_blocking.proofs.Sending.{all_front}
use Rattle.ei_blocking.proofs.GivenPieces.{Parts, took, firsts, firsts_before}
use Rattle.ei_blocking.proofs.Opens.{opens_ended, opens_refused, opens_limit, opens_end, opens_closed, opens_overflown, opens_past}

-- ---- the endpoint with the pieces that came

pieces_then : (b : BackendView) (ps : List Piece) (p : Piece) → with_pieces b (ps ++ p ∷ []) ≡ with_piece (with_pieces b ps) p
pieces_then b [] p = refl
pieces_then b (q ∷ ps) p = pieces_then (with_piece b q) ps p

-- an endpoint with the same objects and the same to be sent
pub record IsAlike (b c : BackendView) : Type 0 where
  pub table : c.table ≡ b.table
  pub unsent : c.unsent ≡ b.unsent
  pub unsent_handles : c.unsent_handles ≡ b.unsent_handles
  pub closed : c.closed ≡ b.closed

-- ---- after some pieces

-- After these pieces the handshake goes on: the endpoint has them too, these messages were handled, and what answers them was sent.
pub record Turned (g : Greeter) (b : BackendView) (pieces : List Piece) (h : ClientView) (old new : SinkView) (now : BackendView) : Type 0 where
  pub c : BackendView
  pub is : c ≡ with_pieces b pieces
  pub alike : IsAlike b c
  pub past : List Raw
  pub shakes : Shakes g c past h now
  pub sends : SentAll g c past old new now
  pub opened : (j : ℕ) (more : List Piece) → opens g (found b.table) 0 (length pieces + j) b (pieces ++ more) ≡ opens g (found c.table) (length pieces) j c more
  pub before : 0 < length pieces → past ≡ handled_of g (with_pieces b (take (length pieces - 1) pieces))

-- none came yet
pub turns_none : (g : Greeter) (b : BackendView) (h : ClientView) (sink : SinkView) → Shakes g b [] h b → Turned g b [] h sink sink b
turns_none g b h sink s = record {
  c = b;
  is = refl;
  alike = record { table = refl; unsent = refl; unsent_handles = refl; closed = refl };
  past = [];
  shakes = s;
  sends = (refl, refl);
  opened = λ j more. ap (λ (k : ℕ). opens g (found b.table) 0 k b more) (omega arith);
  before = λ some. absurd (omega (arith, some));
}

-- the same handles are unread, and it is closed where the endpoint at entry is
same_handles : (g : Greeter) (c : BackendView) (past : List Raw) (h : ClientView) (now : BackendView) → Shakes g c past h now → now.handles ≡ c.handles
same_handles g c past h now s = ap (λ (e : Endpoint). e.handles) s.stands

few_handles : (c : BackendView) (unread : List Handle) (p : Piece) → unread ≡ c.handles → length unread + length p.handles ≤ MOST_UNREAD_HANDLES → overflows c p ≡ false
few_handles c unread p same le = le-ltb MOST_UNREAD_HANDLES (length (c.handles ++ p.handles)) (omega (arith, le, ap length same, length-append c.handles p.handles))

many_handles : (c : BackendView) (unread : List Handle) (p : Piece) → unread ≡ c.handles → MOST_UNREAD_HANDLES < length unread + length p.handles → overflows c p ≡ true
many_handles c unread p same lt = lt-ltb MOST_UNREAD_HANDLES (length (c.handles ++ p.handles)) (omega (arith, lt, ap length same, length-append c.handles p.handles))

-- every whole message was handled, and a piece more came
module _ (g : Greeter) (b : BackendView) (pieces : List Piece) (h h' : ClientView) (old mid new : SinkView) (now then : BackendView) (t : Turned g b pieces h old mid now)
    (past : List Raw) (w : Waits g t.c past h' then) (sends : SentAll g t.c past old new then) where
  waits : reading_of g (found t.c.table) t.c ≡ reading past then.unread Waiting
  waits = w.stops

  stop_is : (reading_of g (found t.c.table) t.c).stop ≡ Waiting
  stop_is = ap (λ (r : Reading Trouble). r.stop) waits

  -- the handshaker knows what it was told
  shakes_on : (p : Piece) (last : BackendView) → last ≡ backend.with_piece p then → Shakes g (with_piece t.c p) past h' last
  shakes_on p last is = record {
    told = w.shakes.told ∙ ap (λ (v : _). record { greeter = g; versions = v }) (sym (versions_more t.c (with_piece t.c p) refl (found t.c.table) past));
    stands = ap still is ∙ ap (λ (e : Endpoint). record e { unread = then.unread ++ p.bytes; handles = e.handles ++ p.handles }) w.shakes.stands ∙ ap (λ (l : List ℕ). still (stopped_at (with_piece t.c p) l)) (sym (ap (λ (x : BackendView). x.unread) is));
    goes_on = goes_on g (found t.c.table) t.c p stop_is ∙ ap (λ (r : Reading Trouble). read (judge g (found t.c.table) (with_piece t.c p)) r.past (r.rest ++ p.bytes)) waits
        ∙ ap (read (judge g (found t.c.table) (with_piece t.c p)) past) (sym (ap (λ (x : BackendView). x.unread) is));
  }

  pub turns_on : (n : ℕ) (p : Piece) (last : BackendView) → b.closed ≡ false → last ≡ backend.with_piece p then → Fits n then.handles p → Turned g b (pieces ++ p ∷ []) h' old new last
  turns_on n p last is_open is fits =
      let handles : then.handles ≡ t.c.handles = same_handles g t.c past h' then w.shakes in
      let count : length (pieces ++ p ∷ []) ≡ length pieces + 1 = length-append pieces (p ∷ []) in
      record {
        c = with_piece t.c p;
        is = ap (λ (x : BackendView). with_piece x p) t.is ∙ sym (pieces_then b pieces p);
        alike = record { table = t.alike.table; unsent = t.alike.unsent; unsent_handles = t.alike.unsent_handles; closed = t.alike.closed };
        past = past;
        shakes = shakes_on p last is;
        sends = sent_on past last is (sends_more g t.c (with_piece t.c p) refl refl refl past old new then sends);
        opened = λ j more.
            let shift : length (pieces ++ p ∷ []) + j ≡ length pieces + suc j = omega (arith, count) in
            (λ i. opens g (found b.table) 0 (shift i) b (append_assoc pieces (p ∷ []) more i))
            ∙ t.opened (suc j) (p ∷ more)
            ∙ takes_one g (found t.c.table) (length pieces) j t.c p more stop_is (t.alike.closed ∙ is_open) (few_handles t.c then.handles p handles fits.limit)
            ∙ ap (λ (k : ℕ). opens g (found t.c.table) k j (with_piece t.c p) more) (sym count);
        before = λ some.
            let less : length (pieces ++ p ∷ []) - 1 ≡ length pieces = omega (arith, count) in
            ap (λ (r : Reading Trouble). r.past) (sym waits) ∙ ap (handled_of g) t.is
            ∙ ap (λ (l : List Piece). handled_of g (with_pieces b l)) (sym (ap (λ (k : ℕ). take k (pieces ++ p ∷ [])) less ∙ take-append-le (length pieces) pieces (p ∷ []) (omega arith) ∙ all_of pieces));
      }
    where
      all_of : (l : List Piece) → take (length l) l ≡ l
      all_of [] = refl
      all_of (x ∷ l) = ap (λ (q : List Piece). x ∷ q) (all_of l)

      -- reading a piece leaves what is unsent
      sent_on : (past : List Raw) (last : BackendView) → last ≡ backend.with_piece p then → SentAll g (with_piece t.c p) past old new then → SentAll g (with_piece t.c p) past old new last
      sent_on [] last is q = (q.0, ap unsent_of is ∙ q.1)
      sent_on (m ∷ past) last is q = record { told = q.told; unsent = ap unsent_of is ∙ q.unsent; puts = q.puts; bytes = q.bytes }

-- ---- how it ends

-- it is refused for that trouble
ends_refused : (e : Error) (trouble : Trouble) → trouble_of e ≡ Some trouble → EndsAs (Refused trouble) (Err e)
ends_refused error.UnexpectedEof trouble h = absurd cc
ends_refused error.PieceLimit trouble h = absurd cc
ends_refused error.HandleLimit trouble h = absurd cc
ends_refused error.ReadFault trouble h = absurd cc
ends_refused error.WriteFault trouble h = absurd cc
ends_refused error.NoMemory trouble h = absurd cc
ends_refused e trouble h = subst (λ (o : Option Trouble). IsTrouble o (Refused trouble)) (sym h) refl

no_fault : (e : Error) (trouble : Trouble) → trouble_of e ≡ Some trouble → ◌≡◌ {A = Result HandshakeResp Error} (Err e) (Err error.ReadFault) → ⊥
no_fault e trouble h q = let same : e ≡ error.ReadFault = cc in let none : trouble_of error.ReadFault ≡ Some trouble = ap trouble_of (sym same) ∙ h in absurd cc

not_cut : (e : Error) (trouble : Trouble) → trouble_of e ≡ Some trouble → IsCutShort {T = HandshakeResp} (Err e) → ⊥
not_cut error.WriteFault trouble h q = absurd cc
not_cut error.NoMemory trouble h q = absurd cc
not_cut e trouble h q = absurd q

module _ (g : Greeter) (b : BackendView) (most : ℕ) (pieces : List Piece) (h : ClientView) (old mid : SinkView) (now : BackendView) (t : Turned g b pieces h old mid now) (few : length pieces ≤ most)
    (told : List Piece) (left : Option (List Piece)) where
  -- what is sent over the endpoint with the pieces is sent over that at entry
  at_entry : (past : List Raw) (new : SinkView) (last : BackendView) → SentAll g t.c past old new last → SentAll g b past old new last
  at_entry past new last = sends_more g t.c b (sym t.alike.table) (sym t.alike.unsent) (sym t.alike.unsent_handles) past old new last

  front_at_entry : (past : List Raw) (n : ℕ) (new : SinkView) (last : BackendView) → SentFront g t.c past n old new last → SentFront g b past n old new last
  front_at_entry past n new last = front_more g t.c b (sym t.alike.table) (sym t.alike.unsent) (sym t.alike.unsent_handles) past n old new last

  bytes_at_entry : (past : List Raw) → sent_bytes g b past ≡ sent_bytes g t.c past
  bytes_at_entry past = bytes_more g t.c b (sym t.alike.table) (sym t.alike.unsent) (sym t.alike.unsent_handles) past

  -- what it comes to, from these pieces on
  goes_to : (rest : List Piece) → told ≡ pieces ++ rest → opening g most b told ≡ opens g (found t.c.table) (length pieces) (most - length pieces) t.c rest
  goes_to rest is =
      let count : most ≡ length pieces + (most - length pieces) = omega (arith, few) in
      (λ i. opens g (found b.table) 0 (count i) b (is i)) ∙ t.opened (most - length pieces) rest

  module _ (p : Parts told left pieces) where
    took_so : TookPieces told left (length pieces)
    took_so = took told left pieces p

    c_is : t.c ≡ with_pieces b (take (length pieces) told)
    c_is = t.is ∙ ap (with_pieces b) (sym (firsts told left pieces p))

    -- the result is decided by how the reading stops
    decided : (r : Result HandshakeResp Error) (o : Opening) (past : List Raw) (new : SinkView) (last : BackendView) → opening g most b told ≡ o → EndsAs o.ending r → still last ≡ still o.left → o.past ≡ past → o.taken ≡ length pieces → SentAll g t.c past old new last →
        (r ≡ Err error.ReadFault → ⊥) → (IsCutShort r → ⊥) → Opens g most told left r (around b old) (around last new)
    decided r o past new last is ends stands passed taken sends not_read not_short = record {
      answer = subst (λ (x : Opening). EndsAs x.ending r) (sym is) ends;
      stands = λ d. stands ∙ ap (λ (x : Opening). still x.left) (sym is);
      sends = λ d. subst (λ (l : List Raw). SentAll g b l old new last) (sym (ap (λ (x : Opening). x.past) is ∙ passed)) (at_entry past new last sends);
      taken = λ d. subst (λ (k : ℕ). TookPieces told left k) (sym (ap (λ (x : Opening). x.taken) is ∙ taken)) took_so;
      pieces = (length pieces, few, took_so);
      read_fault = λ f. absurd (not_read f);
      cut_short = λ s. absurd (not_short s);
      write_fault = λ w. absurd (not_short (subst (λ (q : Result HandshakeResp Error). IsCutShort q) (sym w) tt));
    }

    -- a message is refused
    pub refuses : (e : Error) (past : List Raw) (new : SinkView) (last : BackendView) → Refuses g t.c past e last → SentAll g t.c past old new last → Opens g most told left (Err e) (around b old) (around last new)
    refuses e past new last r sends =
        decided (Err e) (refused_at (length pieces) t.c past r.rest r.trouble) past new last
        (goes_to p.rest p.told_is ∙ opens_refused g (found t.c.table) t.c (length pieces) (most - length pieces) p.rest past r.rest r.stop r.trouble r.stops r.so)
        (ends_refused e r.trouble r.is) r.stands refl refl sends (no_fault e r.trouble r.is) (not_cut e r.trouble r.is)

    -- the connection is handed over
    pub connects : (resp : HandshakeResp) (past : List Raw) (new : SinkView) (last : BackendView) → Connects g t.c past resp last → SentAll g t.c past old new last → Opens g most told left (Ok resp) (around b old) (around last new)
    connects resp past new last r sends =
        decided (Ok resp) (connected_at (found t.c.table) (length pieces) t.c past last.unread) past new last
        (goes_to p.rest p.told_is ∙ opens_ended g (found t.c.table) t.c (length pieces) (most - length pieces) p.rest past last.unread r.stops)
        r.hands r.stands refl refl sends (λ f. absurd cc) (λ s. absurd s)

    -- as many pieces as may be were taken
    pub limits : (past : List Raw) (h' : ClientView) (new : SinkView) (last : BackendView) → most ≡ length pieces → Waits g t.c past h' last → SentAll g t.c past old new last → Opens g most told left (Err error.PieceLimit) (around b old) (around last new)
    limits past h' new last all w sends =
        let none : most - length pieces ≡ 0 = omega (arith, all) in
        decided (Err error.PieceLimit) (waited_at (length pieces) t.c past last.unread PieceLimit) past new last
        (goes_to p.rest p.told_is ∙ ap (λ (k : ℕ). opens g (found t.c.table) (length pieces) k t.c p.rest) none ∙ opens_limit g (found t.c.table) t.c (length pieces) p.rest past last.unread w.stops)
        refl w.shakes.stands refl refl sends (λ f. absurd cc) (λ s. absurd s)

    -- the endpoint is closed
    pub closes : (past : List Raw) (h' : ClientView) (new : SinkView) (last : BackendView) → length pieces < most → b.closed ≡ true → Waits g t.c past h' last → SentAll g t.c past old new last →
        Opens g most told left (Err error.UnexpectedEof) (around b old) (around last new)
    closes past h' new last more closed w sends =
        let some : most - length pieces ≡ suc (most - length pieces - 1) = omega (arith, more) in
        decided (Err error.UnexpectedEof) (waited_at (length pieces) t.c past last.unread UnexpectedEof) past new last
        (goes_to p.rest p.told_is ∙ ap (λ (k : ℕ). opens g (found t.c.table) (length pieces) k t.c p.rest) some
        ∙ opens_closed g (found t.c.table) t.c (length pieces) (most - length pieces - 1) p.rest past last.unread w.stops (t.alike.closed ∙ closed))
        refl w.shakes.stands refl refl sends (λ f. absurd cc) (λ s. absurd s)

    -- the source is at its end
    pub ends : (past : List Raw) (h' : ClientView) (new : SinkView) (mid_read last : BackendView) → length pieces < most → told ≡ pieces ++ [] → last ≡ with_ring mid_read → Waits g t.c past h' mid_read → SentAll g t.c past old new mid_read →
        SentAll g t.c past old new last → Opens g most told left (Err error.UnexpectedEof) (around b old) (around last new)
    ends past h' new mid_read last more all ring w _ sends =
        let some : most - length pieces ≡ suc (most - length pieces - 1) = omega (arith, more) in
        decided (Err error.UnexpectedEof) (waited_at (length pieces) t.c past mid_read.unread UnexpectedEof) past new last
        (goes_to [] all ∙ ap (λ (k : ℕ). opens g (found t.c.table) (length pieces) k t.c []) some
        ∙ opens_end g (found t.c.table) t.c (length pieces) (most - length pieces - 1) past mid_read.unread w.stops)
        refl (ap still ring ∙ w.shakes.stands) refl refl sends (λ f. absurd cc) (λ s. absurd s)

    -- the source failed
    pub read_fails : (past : List Raw) (h' : ClientView) (new : SinkView) (mid_read last : BackendView) → last ≡ with_ring mid_read → Waits g t.c past h' mid_read → SentAll g t.c past old new last →
        Opens g most told left (Err error.ReadFault) (around b old) (around last new)
    read_fails past h' new mid_read last ring w sends =
        let read_is : reading_of g (found b.table) (with_pieces b (take (length pieces) told)) ≡ reading past mid_read.unread Waiting =
        (λ i. reading_of g (found (sym t.alike.table i)) (sym c_is i)) ∙ w.stops in
        record {
          answer = tt;
          stands = λ d. absurd d;
          sends = λ d. absurd d;
          taken = λ d. absurd d;
          pieces = (length pieces, few, took_so);
          read_fault = λ f. record {
            k = length pieces;
            took = took_so;
            waits = ap (λ (r : Reading Trouble). r.stop) read_is;
            stands = ap still ring ∙ w.shakes.stands ∙ (λ i. still (stopped_at (c_is i) (sym read_is i).rest));
            sends = subst (λ (l : List Raw). SentAll g b l old new last) (sym (ap (λ (r : Reading Trouble). r.past) read_is)) (at_entry past new last sends);
          };
          cut_short = λ s. absurd s;
          write_fault = λ w. absurd cc;
        }

    -- ---- cut short

    last_handled : 0 < length pieces → t.past ≡ handled_of g (with_pieces b (take (length pieces - 1) told))
    last_handled some = t.before some ∙ ap (λ (l : List Piece). handled_of g (with_pieces b l)) (sym (firsts_before told left pieces p (length pieces - 1) (omega arith)))

    abbrev cut : (reached : List Raw) (n : ℕ) (new : SinkView) (last : BackendView) → ((more : List Raw) × ((reading_of g (found t.c.table) t.c).past ≡ more ++ reached)) → (0 < length pieces → (done : List Raw) × (reached ≡ done ++ t.past)) →
        SentFront g t.c reached n old new last → sent_bytes g t.c t.past ≤ n → StandsAfter t.c reached last → CutShort g most told left (around b old) (around last new)
    cut reached n new last ahead behind front least stands = record {
      k = length pieces;
      took = took_so;
      reached = reached;
      ahead =
          let q = opens_past g (found t.c.table) (length pieces) (most - length pieces) t.c p.rest in
          (q.0 ++ ahead.0, ap (λ (x : Opening). x.past) (goes_to p.rest p.told_is) ∙ q.1 ∙ ap (λ (l : List Raw). q.0 ++ l) ahead.1 ∙ sym (append_assoc q.0 ahead.0 reached));
      owed = λ some. let q = behind some in (q.0, q.1 ∙ ap (λ (l : List Raw). q.0 ++ l) (last_handled some));
      n = n;
      sends = front_at_entry reached n new last front;
      least = λ some. subst (λ (l : List Raw). sent_bytes g b l ≤ n) (last_handled some) (omega (arith, least, bytes_at_entry t.past));
      stands = subst (λ (x : BackendView). StandsAfter x reached last) c_is stands;
    }

    cuts_off : (r : Result HandshakeResp Error) (new : SinkView) (last : BackendView) → EndsAs (opening g most b told).ending r → (IsDecided r → ⊥) → (r ≡ Err error.ReadFault → ⊥) → CutShort g most told left (around b old) (around last new) →
        (r ≡ Err error.WriteFault → FailsToSend g most told left (around b old) (around last new)) → Opens g most told left r (around b old) (around last new)
    cuts_off r new last answer undecided not_read c fails = record {
      answer = answer;
      stands = λ d. absurd (undecided d);
      sends = λ d. absurd (undecided d);
      taken = λ d. absurd (undecided d);
      pieces = (length pieces, few, took_so);
      read_fault = λ f. absurd (not_read f);
      cut_short = λ s. c;
      write_fault = fails;
    }

    -- in the middle of the messages
    broken : (behind : List Raw) (past : List Raw) (new : SinkView) (last : BackendView) → past ≡ behind ++ t.past → Breaks g t.c past old new last → sent_bytes g t.c t.past ≤ sent_bytes g t.c past → CutShort g most told left (around b old) (around last new)
    broken behind past new last is x grown = cut (x.behind ++ past) x.n new last (x.reaches.more, x.reaches.handled)
        (λ some. (x.behind ++ behind, ap (λ (l : List Raw). x.behind ++ l) is ∙ sym (append_assoc x.behind behind t.past))) x.sends (omega (arith, x.least, grown)) x.stands

    pub breaks_write : (behind : List Raw) (past : List Raw) (new : SinkView) (last : BackendView) → past ≡ behind ++ t.past → sent_bytes g t.c t.past ≤ sent_bytes g t.c past → Fails g t.c past old new last → Opens g most told left (Err error.WriteFault) (around b old) (around last new)
    breaks_write behind past new last is grown f =
        let less : sent_bytes g t.c t.past ≤ f.n = omega (arith, f.least, grown) in
        let owes : 0 < length pieces → (done : List Raw) × (f.newest ∷ past ≡ done ++ t.past) = λ some. (f.newest ∷ behind, ap (λ (l : List Raw). f.newest ∷ l) is) in
        cuts_off (Err error.WriteFault) new last tt (λ d. d) (λ q. absurd cc) (cut (f.newest ∷ past) f.n new last (f.reaches.more, f.reaches.handled) owes f.sends less f.stands) (λ w. record {
          short = cut (f.newest ∷ past) f.n new last (f.reaches.more, f.reaches.handled) owes f.sends less f.stands;
          newest = f.newest;
          before = past;
          reached = refl;
          owed = λ some. (behind, is ∙ ap (λ (l : List Raw). behind ++ l) (last_handled some));
          least = omega (arith, f.least, bytes_at_entry past);
          unsent = f.unsent;
        })

    pub breaks_memory : (behind : List Raw) (past : List Raw) (new : SinkView) (last : BackendView) → past ≡ behind ++ t.past → sent_bytes g t.c t.past ≤ sent_bytes g t.c past → Breaks g t.c past old new last → Opens g most told left (Err error.NoMemory) (around b old) (around last new)
    breaks_memory behind past new last is grown x = cuts_off (Err error.NoMemory) new last tt (λ d. d) (λ f. absurd cc) (broken behind past new last is x grown) (λ w. absurd cc)

    -- where memory for the ring runs out
    pub wants_ring : (behind : List Raw) (past : List Raw) (h' : ClientView) (new : SinkView) (last : BackendView) → past ≡ behind ++ t.past → sent_bytes g t.c t.past ≤ sent_bytes g t.c past → Waits g t.c past h' last → SentAll g t.c past old new last →
        Opens g most told left (Err error.NoMemory) (around b old) (around last new)
    wants_ring behind past h' new last is grown w sends = cuts_off (Err error.NoMemory) new last tt (λ d. d) (λ f. absurd cc)
        (cut past (sent_bytes g t.c past) new last ([], ap (λ (r : Reading Trouble). r.past) w.stops) (λ some. (behind, is)) (all_front g t.c past old new last sends) grown (inl w.shakes.stands)) (λ f. absurd cc)

  -- a piece with too many handles came
  pub overflows_at : (piece : Piece) (past : List Raw) (h' : ClientView) (new : SinkView) (mid_read last : BackendView) → length pieces < most → b.closed ≡ false → Parts told left (pieces ++ piece ∷ []) → Overflows mid_read.handles piece →
      last ≡ closed_of (with_ring mid_read) → Waits g t.c past h' mid_read → SentAll g t.c past old new last → Opens g most told left (Err error.HandleLimit) (around b old) (around last new)
  overflows_at piece past h' new mid_read last more is_open p over ring w sends =
      let some : most - length pieces ≡ suc (most - length pieces - 1) = omega (arith, more) in
      let handles : mid_read.handles ≡ t.c.handles = same_handles g t.c past h' mid_read w.shakes in
      let is : opening g most b told ≡ overflown_at (length pieces + 1) t.c past mid_read.unread =
      goes_to (piece ∷ p.rest) (p.told_is ∙ append_assoc pieces (piece ∷ []) p.rest) ∙ ap (λ (k : ℕ). opens g (found t.c.table) (length pieces) k t.c (piece ∷ p.rest)) some
      ∙ opens_overflown g (found t.c.table) t.c (length pieces) (most - length pieces - 1) piece p.rest past mid_read.unread w.stops (t.alike.closed ∙ is_open) (many_handles t.c mid_read.handles piece handles over.limit) in
      let count : length (pieces ++ piece ∷ []) ≡ length pieces + 1 = length-append pieces (piece ∷ []) in
      let taken : TookPieces told left (length pieces + 1) = subst (λ (k : ℕ). TookPieces told left k) count (took told left (pieces ++ piece ∷ []) p) in
      record {
        answer = ap (λ (x : Opening). x.ending) is;
        stands = λ d. ap still ring ∙ ap (λ (e : Endpoint). record e { closed = true }) w.shakes.stands ∙ ap (λ (x : Opening). still x.left) (sym is);
        sends = λ d. subst (λ (l : List Raw). SentAll g b l old new last) (sym (ap (λ (x : Opening). x.past) is)) (at_entry past new last sends);
        taken = λ d. subst (λ (k : ℕ). TookPieces told left k) (sym (ap (λ (x : Opening). x.taken) is)) taken;
        pieces = (length pieces + 1, omega (arith, more), taken);
        read_fault = λ f. absurd cc;
        cut_short = λ s. absurd s;
        write_fault = λ w. absurd cc;
      }
