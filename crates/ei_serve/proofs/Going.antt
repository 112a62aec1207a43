-- What a session gives and answers, one message after another.
use Rattle.std.proofs.Common.{◌≡◌, ℕ, ◌+◌, zero, suc, List, [], ◌∷◌, ◌++◌, length, take, drop, Option, Some, refl, ap, sym, subst, ◌∙◌, append_assoc, arith}
use Rattle.std.specs.Prelude.{map}
use Rattle.std.proofs.lemmas.List.{append-nil, map-append, length-append, drop-drop}
use Rattle.std.proofs.lemmas.Grind.{flat_map-append}
use Rattle.std.proofs.Math.Seq.{take-append-add}
use Rattle.ei_spec.specs.declared.handle.Handle.{Handle}
use Rattle.ei_spec.specs.declared.interface.KnownInterface.{KnownInterface}
use Rattle.ei_spec.specs.Piece.{Piece}
use Rattle.ei_spec.specs.Message.{Raw, Front, Short, Unlawful, Whole, front, bytes_of, all_bytes}
use Rattle.ei_spec.specs.Stream.{Verdict, Reading, Accepted, Final, Refused, read_within, read}
use Rattle.ei_session.specs.Setup.{Setup}
use Rattle.ei_session.specs.Requests.{Request as Asked, framed}
use Rattle.ei_session.specs.Events.{replies}
use Rattle.ei_session.specs.Refusals.{Refusal, judge}
use Rattle.ei_session.proofs.KeptByRequests.{fixed_versions, stays_connected}
use Rattle.ei_backend.specs.Outside.{SourceView, SinkView, with_more}
use Rattle.ei_backend.proofs.GoingOut.{none_put}
use Rattle.ei_request.specs.declared.event.EisRequest.{EisRequest}
use Rattle.ei_standing.specs.Standing.{handed_as}
use Rattle.ei_serve.specs.Around.{Around, first_readings, AreDrawn, LeavesReadings}
use Rattle.ei_serve.proofs.Puts.{behind_then, no_puts, puts_then}
use Rattle.ei_serve.specs.Steps.{AreVersions, GivesOut, bytes_only, IsToldInPart, Replies, RepliesInPart, Goes, GoesInPart, Breaks}

-- ---- what a sink holds

piece_is : (a b : List ℕ) (h k : List Handle) → a ≡ b → h ≡ k → ◌≡◌ {A = Piece} (record { bytes = a; handles = h }) (record { bytes = b; handles = k })
piece_is a b h k e f = rw (e, f) refl

-- nothing more
pub none_more : (held : Piece) → held ≡ with_more [] [] held
none_more held = piece_is held.bytes (held.bytes ++ []) held.handles (held.handles ++ []) (sym (append-nil held.bytes)) (sym (append-nil held.handles))

-- some bytes, and then more
pub more_more : (a b : List ℕ) (held : Piece) → with_more b [] (with_more a [] held) ≡ with_more (a ++ b) [] held
more_more a b held = piece_is _ _ _ _ (append_assoc held.bytes a b) (append-nil (held.handles ++ []))

-- none of these messages was told
pub cut : (messages : List Raw) (sink : SinkView) → IsToldInPart messages sink sink
cut messages sink = record { told = λ held told. (0, told ∙ ap (λ (x : Piece). Some x) (none_more held)); puts = none_put (bytes_only (all_bytes messages)) sink.puts }

-- ---- requests

-- once the connection stands its versions stay
versions_before : (done before : List Raw) (versions : KnownInterface → ℕ) → AreVersions (done ++ before) versions → AreVersions before versions
versions_before [] before versions v = v
versions_before (m ∷ done) before versions v =
    versions_before done before versions (λ on interface. sym ((fixed_versions (done ++ before) m on).same_version interface) ∙ v (stays_connected (done ++ before) m on) interface)

pub versions_behind : (before reached : List Raw) (versions : KnownInterface → ℕ) → ((done : List Raw) × (reached ≡ done ++ before)) → AreVersions reached versions → AreVersions before versions
versions_behind before reached versions behind v = versions_before behind.0 before versions (subst (λ (x : List Raw). AreVersions x versions) behind.1 v)

-- the messages between give none
pub gives_none : (setup : Setup) (before reached : List Raw) (times : List ℕ) (out : List EisRequest) → ((readings : List ℕ) → framed setup readings reached ≡ framed setup readings before) → GivesOut setup before reached times [] out out
gives_none setup before reached times out h = record {
  more = [];
  grown = λ versions v. sym (append-nil out);
  framed_is = λ later. h ((times ++ []) ++ later) ∙ sym (append-nil (framed setup ((times ++ []) ++ later) before));
}

pub gives_then : (setup : Setup) (a b c : List Raw) (times u v : List ℕ) (x y z : List EisRequest) → ((done : List Raw) × (c ≡ done ++ b)) → GivesOut setup a b times u x y → GivesOut setup b c (times ++ u) v y z → GivesOut setup a c times (u ++ v) x z
gives_then setup a b c times u v x y z behind g h = record {
  more = g.more ++ h.more;
  grown = λ versions are.
      h.grown versions are ∙ ap (λ (t : List EisRequest). t ++ map (handed_as versions) h.more) (g.grown versions (versions_behind b c versions behind are))
      ∙ append_assoc x (map (handed_as versions) g.more) (map (handed_as versions) h.more)
      ∙ ap (λ (t : List EisRequest). x ++ t) (sym (map-append (handed_as versions) g.more h.more));
  framed_is = λ later.
      ap (λ (r : List ℕ). framed setup (r ++ later) c) (sym (append_assoc times u v))
      ∙ h.framed_is later
      ∙ ap (λ (r : List ℕ). framed setup r b ++ h.more) (append_assoc (times ++ u) v later)
      ∙ ap (λ (t : List Asked). t ++ h.more) (g.framed_is (v ++ later))
      ∙ append_assoc (framed setup ((times ++ u) ++ (v ++ later)) a) g.more h.more
      ∙ ap (λ (r : List ℕ). framed setup r a ++ (g.more ++ h.more)) (sym (append_assoc (times ++ u) v later) ∙ ap (λ (r : List ℕ). r ++ later) (append_assoc times u v));
}

-- ---- readings

pub drop_none : (n : ℕ) → drop {A = ℕ} n [] ≡ []
drop_none zero = refl
drop_none (suc n) = refl

first_more : (m n k : ℕ) (told : List ℕ) → k ≡ m + n → first_readings k told ≡ first_readings m told ++ first_readings n (drop m told)
first_more zero n k told e = let same : k ≡ n = omega (arith, e) in ap (λ (j : ℕ). first_readings j told) same
first_more (suc m) n zero told e = absurd (omega (arith, e))
first_more (suc m) n (suc k) [] e =
    let same : k ≡ m + n = omega (arith, e) in
    ap (λ (l : List ℕ). 0 ∷ l) (first_more m n k [] same ∙ ap (λ (l : List ℕ). first_readings m [] ++ first_readings n l) (drop_none m))
first_more (suc m) n (suc k) (t ∷ told) e =
    let same : k ≡ m + n = omega (arith, e) in
    ap (λ (l : List ℕ). t ∷ l) (first_more m n k told same)

pub drawn_then : (u v : List ℕ) (old mid : Option (List ℕ)) → AreDrawn u old → LeavesReadings u old mid → AreDrawn v mid → AreDrawn (u ++ v) old
drawn_then u v old mid d l e told is =
    ap (λ (x : List ℕ). x ++ v) (d told is)
    ∙ ap (λ (x : List ℕ). first_readings (length u) told ++ x) (e (drop (length u) told) (l told is))
    ∙ sym (first_more (length u) (length v) (length (u ++ v)) told (length-append u v))

pub leaves_then : (u v : List ℕ) (old mid new : Option (List ℕ)) → LeavesReadings u old mid → LeavesReadings v mid new → LeavesReadings (u ++ v) old new
leaves_then u v old mid new l m told is =
    m (drop (length u) told) (l told is)
    ∙ ap (λ (x : List ℕ). Some x) (drop-drop (length v) (length u) told)
    ∙ ap (λ (n : ℕ). Some (drop n told)) (sym (length-append u v))

-- ---- replies

-- the messages between are answered by nothing
pub replies_none : (setup : Setup) (before reached : List Raw) (sink : SinkView) → replies setup reached ≡ replies setup before → Replies setup before reached sink sink
replies_none setup before reached sink e = record {
  told = λ held told. ([], e ∙ sym (append-nil (replies setup before)), told ∙ ap (λ (x : Piece). Some x) (none_more held));
  puts = no_puts setup before reached sink.puts;
  wants = omega arith;
}

joined_bytes : (a b : List Raw) → all_bytes (a ++ b) ≡ all_bytes a ++ all_bytes b
joined_bytes a b = flat_map-append bytes_of a b

pub replies_then : (setup : Setup) (a b c : List Raw) (x y z : SinkView) → ((done : List Raw) × (b ≡ done ++ a)) → ((done : List Raw) × (c ≡ done ++ b)) → Replies setup a b x y → Replies setup b c y z → Replies setup a c x z
replies_then setup a b c x y z first second g h = record {
  told = λ held told.
      let p = g.told held told in
      let q = h.told (with_more (all_bytes p.0) [] held) p.2 in (
        p.0 ++ q.0,
        q.1 ∙ ap (λ (t : List Raw). t ++ q.0) p.1 ∙ append_assoc (replies setup a) p.0 q.0,
        q.2 ∙ ap (λ (t : Piece). Some t) (more_more (all_bytes p.0) (all_bytes q.0) held) ∙ ap (λ (t : List ℕ). Some (with_more t [] held)) (sym (joined_bytes p.0 q.0)),
      );
  puts = puts_then setup a b c x.puts y.puts z.puts first second g.puts h.puts;
  wants = omega (arith, g.wants, h.wants);
}

pub replies_then_part : (setup : Setup) (a b c : List Raw) (x y z : SinkView) → ((done : List Raw) × (b ≡ done ++ a)) → ((done : List Raw) × (c ≡ done ++ b)) → Replies setup a b x y → RepliesInPart setup b c y z → RepliesInPart setup a c x z
replies_then_part setup a b c x y z first second g h = record {
  told = λ held told.
      let p = g.told held told in
      let q = h.told (with_more (all_bytes p.0) [] held) p.2 in
      let bytes : all_bytes p.0 ++ take q.1 (all_bytes q.0) ≡ take (length (all_bytes p.0) + q.1) (all_bytes (p.0 ++ q.0)) =
      sym (take-append-add (all_bytes p.0) (all_bytes q.0) q.1) ∙ ap (λ (t : List ℕ). take (length (all_bytes p.0) + q.1) t) (sym (joined_bytes p.0 q.0)) in (
        p.0 ++ q.0,
        length (all_bytes p.0) + q.1,
        q.2 ∙ ap (λ (t : List Raw). t ++ q.0) p.1 ∙ append_assoc (replies setup a) p.0 q.0,
        q.3 ∙ ap (λ (t : Piece). Some t) (more_more (all_bytes p.0) (take q.1 (all_bytes q.0)) held) ∙ ap (λ (t : List ℕ). Some (with_more t [] held)) bytes,
      );
  puts = puts_then setup a b c x.puts y.puts z.puts first second g.puts h.puts;
}

-- none of them
pub in_part_none : (setup : Setup) (before : List Raw) (sink : SinkView) → RepliesInPart setup before before sink sink
in_part_none setup before sink = record {
  told = λ held told. ([], 0, sym (append-nil (replies setup before)), told ∙ ap (λ (x : Piece). Some x) (none_more held));
  puts = no_puts setup before before sink.puts;
}

-- ---- all of it

pub goes_none : (setup : Setup) (before : List Raw) (times : List ℕ) (x : Around) → Goes setup before before times [] x x
goes_none setup before times x = record {
  behind = ([], refl);
  gives = gives_none setup before before times x.out (λ readings. refl);
  replies = replies_none setup before before x.sink refl;
  drawn = λ told is. refl;
  leaves = λ told is. is;
  frames = omega arith;
}

pub goes_then : (setup : Setup) (a b c : List Raw) (times u v : List ℕ) (x y z : Around) → Goes setup a b times u x y → Goes setup b c (times ++ u) v y z → Goes setup a c times (u ++ v) x z
goes_then setup a b c times u v x y z g h = record {
  behind = behind_then a b c g.behind h.behind;
  gives = gives_then setup a b c times u v x.out y.out z.out h.behind g.gives h.gives;
  replies = replies_then setup a b c x.sink y.sink z.sink g.behind h.behind g.replies h.replies;
  drawn = drawn_then u v x.readings y.readings g.drawn g.leaves h.drawn;
  leaves = leaves_then u v x.readings y.readings z.readings g.leaves h.leaves;
  frames = omega (arith, g.frames, h.frames, length-append u v);
}

-- whatever the source says
pub goes_beside : (setup : Setup) (a b : List Raw) (times used : List ℕ) (x y : Around) (source_old source_new : SourceView) → Goes setup a b times used x y → Goes setup a b times used (record x { source = source_old }) (record y { source = source_new })
goes_beside setup a b times used x y source_old source_new g = record { behind = g.behind; gives = g.gives; replies = g.replies; drawn = g.drawn; leaves = g.leaves; frames = g.frames }

-- on the way to the same messages, by other words
unfoldable pub breaks_to : (setup : Setup) (a b c : List Raw) (times : List ℕ) (x y : Around) (source_old source_new : SourceView) → c ≡ b → GoesInPart setup a b times x y → GoesInPart setup a c times (record x { source = source_old }) (record y { source = source_new })
breaks_to setup a b c times x y source_old source_new same g = record { reached = g.reached; used = g.used; behind = g.behind; ahead = (g.ahead.0, same ∙ g.ahead.1); gives = g.gives; replies = g.replies; drawn = g.drawn; leaves = g.leaves; least = g.least; most = g.most }

unfoldable pub breaks_beside : (setup : Setup) (a b : List Raw) (times : List ℕ) (x y : Around) (source_old source_new : SourceView) → GoesInPart setup a b times x y → GoesInPart setup a b times (record x { source = source_old }) (record y { source = source_new })
breaks_beside setup a b times x y source_old source_new g = record { reached = g.reached; used = g.used; behind = g.behind; ahead = g.ahead; gives = g.gives; replies = g.replies; drawn = g.drawn; leaves = g.leaves; least = g.least; most = g.most }

-- ---- broken off

module _ {E : Type 0} (judge : List Raw → Raw → Verdict E) where
  abbrev Extends : ℕ → Type 0
  Extends k = (past : List Raw) (bytes : List ℕ) → (more : List Raw) × ((read_within judge k past bytes).past ≡ more ++ past)

  extends_judged : (k : ℕ) → Extends k → (past : List Raw) (bytes : List ℕ) (m : Raw) (rest : List ℕ) (v : Verdict E) → front bytes ≡ Whole m rest → judge past m ≡ v → (more : List Raw) × ((read_within judge (suc k) past bytes).past ≡ more ++ past)
  unfolding read_within
  extends_judged k h past bytes m rest Accepted e j = let g = h (m ∷ past) rest in (g.0 ++ (m ∷ []), rw (e, j, read_within) (g.1 ∙ sym (append_assoc g.0 (m ∷ []) past)))
  extends_judged k h past bytes m rest Final e j = (m ∷ [], rw (e, j, read_within) refl)
  extends_judged k h past bytes m rest (Refused r) e j = ([], rw (e, j, read_within) refl)

  extends_front : (k : ℕ) → Extends k → (past : List Raw) (bytes : List ℕ) (f : Front) → front bytes ≡ f → (more : List Raw) × ((read_within judge (suc k) past bytes).past ≡ more ++ past)
  unfolding read_within
  extends_front k h past bytes Short e = ([], rw (e, read_within) refl)
  extends_front k h past bytes (Unlawful n) e = ([], rw (e, read_within) refl)
  extends_front k h past bytes (Whole m rest) e = extends_judged k h past bytes m rest (judge past m) e refl

  extends_within : (k : ℕ) → Extends k
  unfolding read_within
  extends_within zero past bytes = ([], refl)
  extends_within (suc k) past bytes = extends_front k (extends_within k) past bytes (front bytes) refl

  -- the messages read are more behind those before
  pub extends : (past : List Raw) (bytes : List ℕ) → (more : List Raw) × ((read judge past bytes).past ≡ more ++ past)
  unfolding read
  extends past bytes = extends_within (suc (length bytes)) past bytes

-- at the message at the front, none of it was given or answered
unfoldable pub breaks_here : (setup : Setup) (past : List Raw) (times rest : List ℕ) (x : Around) → Breaks setup past times rest x x
breaks_here setup past times rest x = record {
  reached = past;
  used = [];
  behind = ([], refl);
  ahead = extends (judge setup) past rest;
  gives = gives_none setup past past times x.out (λ readings. refl);
  replies = in_part_none setup past x.sink;
  drawn = λ told is. refl;
  leaves = λ told is. is;
  least = omega arith;
  most = omega arith;
}

-- later on the way
unfoldable pub breaks_then : (setup : Setup) (a b : List Raw) (times u s t : List ℕ) (x y z : Around) → read (judge setup) a s ≡ read (judge setup) b t → Goes setup a b times u x y → Breaks setup b (times ++ u) t y z → Breaks setup a times s x z
breaks_then setup a b times u s t x y z same g h = record {
  reached = h.reached;
  used = u ++ h.used;
  behind = behind_then a b h.reached g.behind h.behind;
  ahead = (h.ahead.0, ap (λ (r : Reading Refusal). r.past) same ∙ h.ahead.1);
  gives = gives_then setup a b h.reached times u h.used x.out y.out z.out h.behind g.gives h.gives;
  replies = replies_then_part setup a b h.reached x.sink y.sink z.sink g.behind h.behind g.replies h.replies;
  drawn = drawn_then u h.used x.readings y.readings g.drawn g.leaves h.drawn;
  leaves = leaves_then u h.used x.readings y.readings z.readings g.leaves h.leaves;
  least = omega (arith, g.frames, h.least, length-append u h.used);
  most = omega (arith, g.frames, h.most, length-append u h.used);
}
