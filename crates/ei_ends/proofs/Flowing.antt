-- Bytes and handles on their way: each step keeps what is said of them.
use Rattle.std.proofs.Common.{◌≡◌, ℕ, ◌+◌, ◌≤◌, Bool, true, false, inl, inr, List, [], ◌∷◌, ◌++◌, length, map, Option, Some, None, refl, sym, ap, ◌∙◌}
use Rattle.std.proofs.Common.{length-append, append_assoc, append-nil, add-zero, arith}
use Rattle.std.specs.Prelude.{◌-◌}
use Rattle.std.specs.List.{flat_map}
use Rattle.std.proofs.lemmas.List.Concat.{flat_map-append}
use Rattle.ei_spec.specs.declared.handle.Handle.{Handle}
use Rattle.ei_spec.specs.Value.{Value, Word, Long, Signed, SignedLong, Letters, Null, Fd, handles_of}
use Rattle.ei_spec.specs.Message.{size}
use Rattle.ei_spec.specs.Piece.{Piece}
use Rattle.ei_ends.specs.Sent.{Sent, Got, Took, Missed, raw_of, bytes_in, handles_in, spelled, bare}
use Rattle.ei_ends.specs.Agree.{handles_sent, handles_got, Agree}
use Rattle.ei_ends.specs.Way.{onto, needed, Flows}
use Rattle.ei_ends.specs.Steps.{behind, piece_in, no_piece, IsPiece}
use Rattle.ei_ends.proofs.InTime.{AllFew, needed_fits, needed_all, needed_more, needed_le, few_more, handles_onto, bytes_length}

-- ---- a call

bytes_more : (unread rest : List ℕ) (ms : List Sent) (r : Sent) → unread ++ rest ≡ spelled ms → unread ++ (rest ++ bytes_in r) ≡ spelled (ms ++ (r ∷ []))
bytes_more unread rest ms r e =
    sym (append_assoc unread rest (bytes_in r)) ∙ ap (λ l. l ++ bytes_in r) e
    ∙ ap (λ l. spelled ms ++ l) (sym (append-nil (bytes_in r))) ∙ sym (flat_map-append bytes_in ms (r ∷ []))

handles_more : (sent : List Sent) (r : Sent) → handles_sent (r ∷ sent) ≡ handles_sent sent ++ handles_in r
unfolding handles_sent
handles_more sent r = refl

pub call_flows : (closed : Bool) (unread link unsent : Piece) (sent flight : List Sent) (taken : List Got) (rest : Piece) (r : Sent) → Flows closed unread link unsent sent flight taken rest →
    Flows closed unread link (behind unsent (piece_in r)) (r ∷ sent) (flight ++ (r ∷ [])) taken (behind rest (piece_in r))
call_flows closed unread link unsent sent flight taken rest r h =
    let spelled_length = length-append unread.bytes rest.bytes in
    record {
      bytes = bytes_more unread.bytes rest.bytes flight r h.bytes;
      handles = ap (λ l. handles_got taken ++ l) (sym (append_assoc unread.handles rest.handles (handles_in r))) ∙ sym (append_assoc (handles_got taken) (unread.handles ++ rest.handles) (handles_in r)) ∙ ap (λ l. l ++ handles_in r) h.handles ∙ sym (handles_more sent r);
      open_bytes = λ c. ap (λ l. l ++ bytes_in r) (h.open_bytes c) ∙ append_assoc link.bytes unsent.bytes (bytes_in r);
      open_handles = λ c. ap (λ l. l ++ handles_in r) (h.open_handles c) ∙ append_assoc link.handles unsent.handles (handles_in r);
      in_time = rw (needed_more (length unread.bytes) flight r (omega (arith, spelled_length, ap length h.bytes))) h.in_time;
      in_time_waiting = λ c. rw (needed_more (length unread.bytes + length link.bytes) flight r (omega (arith, spelled_length, ap length h.bytes, ap length (h.open_bytes c), length-append link.bytes unsent.bytes))) (h.in_time_waiting c);
    }

-- ---- a flush

none_count : Option Value → ℕ
none_count None = 1
none_count (Some v) = 0

bare_handles : (v : Value) → length (handles_of v) ≡ none_count (bare v)
unfolding none_count
bare_handles (Word n) = refl
bare_handles (Long n) = refl
bare_handles (Signed z) = refl
bare_handles (SignedLong z) = refl
bare_handles (Letters t) = refl
bare_handles Null = refl
bare_handles (Fd h) = refl

pub alike_handles : (vs ws : List Value) → map bare vs ≡ map bare ws → length (flat_map handles_of vs) ≡ length (flat_map handles_of ws)
alike_handles [] [] e = refl
alike_handles [] (w ∷ ws) e = absurd cc
alike_handles (v ∷ vs) [] e = absurd cc
alike_handles (v ∷ vs) (w ∷ ws) e =
    let head : bare v ≡ bare w = cc in
    let tail : map bare vs ≡ map bare ws = cc in
    omega (arith, bare_handles v ∙ ap none_count head ∙ sym (bare_handles w), alike_handles vs ws tail, length-append (handles_of v) (flat_map handles_of vs), length-append (handles_of w) (flat_map handles_of ws))

-- fewer handles were taken than sent
fewer_got : (events : Bool) (own past : List Sent) (gots : List Got) → Agree events own past gots → length (handles_got gots) ≤ length (handles_sent past)
unfolding Agree handles_got handles_sent
fewer_got events own [] [] h = omega arith
fewer_got events own [] (g ∷ gots) h = absurd h
fewer_got events own (m ∷ past) [] h = absurd h
fewer_got events own (m ∷ past) (Took r after ∷ gots) h =
    omega (arith, fewer_got events own past gots h.1, length-append (handles_got gots) (handles_in r), length-append (handles_sent past) (handles_in m), alike_handles r.values m.values h.0.2.values)
fewer_got events own (m ∷ past) (Missed id after ∷ gots) h =
    omega (arith, fewer_got events own past gots h.1, length-append (handles_sent past) (handles_in m))

-- the handles that wait are enough for all messages on their way
enough : (events : Bool) (own sent past flight : List Sent) (gots : List Got) (queue : List Handle) → Agree events own past gots → sent ≡ onto flight past → handles_got gots ++ queue ≡ handles_sent sent → length (flat_map handles_in flight) ≤ length queue
enough events own sent past flight gots queue h is e =
    let all : handles_got gots ++ queue ≡ handles_sent past ++ flat_map handles_in flight = e ∙ ap handles_sent is ∙ handles_onto flight past in
    omega (arith, ap length all, length-append (handles_got gots) queue, length-append (handles_sent past) (flat_map handles_in flight), fewer_got events own past gots h)

pub flush_flows : (events closed : Bool) (unread link unsent : Piece) (own sent past flight : List Sent) (taken : List Got) (rest : Piece) → Agree events own past taken → sent ≡ onto flight past → Flows closed unread link unsent sent flight taken rest →
    Flows closed unread (behind link unsent) no_piece sent flight taken rest
flush_flows events closed unread link unsent own sent past flight taken rest agree is h = record {
  bytes = h.bytes;
  handles = h.handles;
  open_bytes = λ c. h.open_bytes c ∙ sym (append-nil (link.bytes ++ unsent.bytes));
  open_handles = λ c. h.open_handles c ∙ sym (append-nil (link.handles ++ unsent.handles));
  in_time = h.in_time;
  in_time_waiting = λ c.
      let queue = enough events own sent past flight taken (unread.handles ++ rest.handles) agree is h.handles in
      omega (arith, needed_all (length unread.bytes + length (link.bytes ++ unsent.bytes)) flight, queue, length-append unread.handles rest.handles, ap length (h.open_handles c));
}

-- ---- a delivery

moved : {A : Type 0} (a b c rest : List A) (link unsent : List A) → link ≡ b ++ c → rest ≡ link ++ unsent → a ++ rest ≡ (a ++ b) ++ (c ++ unsent)
moved a b c rest link unsent e f = ap (λ l. a ++ l) (f ∙ ap (λ l. l ++ unsent) e ∙ append_assoc b c unsent) ∙ sym (append_assoc a b (c ++ unsent))

pub deliver_flows : (unread link unsent : Piece) (sent flight : List Sent) (taken : List Got) (rest p left : Piece) → AllFew flight → IsPiece p left link → Flows false unread link unsent sent flight taken rest →
    Flows false (behind unread p) left unsent sent flight taken (behind left unsent)
deliver_flows unread link unsent sent flight taken rest p left few is h =
    let lb = length-append unread.bytes p.bytes in
    let lh = length-append unread.handles p.handles in
    let ll = ap length is.bytes ∙ length-append p.bytes left.bytes in
    let lk = ap length is.handles ∙ length-append p.handles left.handles in
    record {
      bytes = sym (moved unread.bytes p.bytes left.bytes rest.bytes link.bytes unsent.bytes is.bytes (h.open_bytes refl)) ∙ h.bytes;
      handles = ap (λ l. handles_got taken ++ l) (sym (moved unread.handles p.handles left.handles rest.handles link.handles unsent.handles is.handles (h.open_handles refl))) ∙ h.handles;
      open_bytes = λ c. refl;
      open_handles = λ c. refl;
      in_time = elim is.enough [
        | inl full ↦
            let more = few_more (length unread.bytes) (length p.bytes) flight few in
            let same : needed (length (unread.bytes ++ p.bytes)) flight ≡ needed (length unread.bytes + length p.bytes) flight = ap (λ n. needed n flight) lb in
            omega (arith, more, same, full, lh, is.most, h.in_time)
        | inr none ↦
            let all : length p.handles ≡ length link.handles = sym (lk ∙ ap (λ l. length p.handles + length l) none ∙ add-zero (length p.handles)) in
            let less = needed_le (length (unread.bytes ++ p.bytes)) (length unread.bytes + length link.bytes) flight (omega (arith, lb, ll)) in
            omega (arith, less, all, lh, h.in_time_waiting refl)
      ];
      in_time_waiting = λ c.
          let same : needed (length (unread.bytes ++ p.bytes) + length left.bytes) flight ≡ needed (length unread.bytes + length link.bytes) flight = ap (λ n. needed n flight) (let sum : length (unread.bytes ++ p.bytes) + length left.bytes ≡ length unread.bytes + length link.bytes = omega (arith, lb, ll) in sum) in
          omega (arith, same, lh, lk, h.in_time_waiting refl);
    }

-- the end is closed, and what is left between the ends is of no account
pub close_flows : (closed : Bool) (unread link unsent : Piece) (sent flight : List Sent) (taken : List Got) (rest left : Piece) → Flows closed unread link unsent sent flight taken rest → Flows true unread left unsent sent flight taken rest
close_flows closed unread link unsent sent flight taken rest left h = record {
  bytes = h.bytes;
  handles = h.handles;
  open_bytes = λ c. absurd cc;
  open_handles = λ c. absurd cc;
  in_time = h.in_time;
  in_time_waiting = λ c. absurd cc;
}

-- ---- a message that is taken

got_more : (taken : List Got) (r : Sent) (after : ℕ) → handles_got (Took r after ∷ taken) ≡ handles_got taken ++ handles_in r
unfolding handles_got
got_more taken r after = refl

got_same : (taken : List Got) (id after : ℕ) → handles_got (Missed id after ∷ taken) ≡ handles_got taken
unfolding handles_got
got_same taken id after = refl

cut_front : (x a b : List ℕ) → x ++ a ≡ x ++ b → a ≡ b
cut_front [] a b e = e
cut_front (y ∷ x) a b e = cut_front x a b cc

-- the unread bytes without the message
left_bytes : (m : Sent) (ms : List Sent) (unread after rest : List ℕ) → unread ≡ bytes_in m ++ after → unread ++ rest ≡ spelled (m ∷ ms) → after ++ rest ≡ spelled ms
left_bytes m ms unread after rest e f = cut_front (bytes_in m) (after ++ rest) (spelled ms) (sym (append_assoc (bytes_in m) after rest) ∙ ap (λ l. l ++ rest) (sym e) ∙ f)

pub took_flows : (closed : Bool) (unread link unsent : Piece) (sent flight : List Sent) (taken : List Got) (rest : Piece) (m r : Sent) (after : ℕ) (left : Piece) →
    unread.bytes ≡ bytes_in m ++ left.bytes → unread.handles ≡ handles_in r ++ left.handles → length (handles_in r) ≡ length (handles_in m) → Flows closed unread link unsent sent (m ∷ flight) taken rest →
    Flows closed left link unsent sent flight (Took r after ∷ taken) rest
took_flows closed unread link unsent sent flight taken rest m r after left eb eh count h =
    let lb = ap length eb ∙ length-append (bytes_in m) left.bytes in
    let lh = ap length eh ∙ length-append (handles_in r) left.handles in
    let fits : size (raw_of m) ≤ length unread.bytes = omega (arith, lb, bytes_length m) in
    let less : length unread.bytes - size (raw_of m) ≡ length left.bytes = omega (arith, lb, bytes_length m) in
    record {
      bytes = left_bytes m flight unread.bytes left.bytes rest.bytes eb h.bytes;
      handles = rw (got_more taken r after) (append_assoc (handles_got taken) (handles_in r) (left.handles ++ rest.handles) ∙ ap (λ l. handles_got taken ++ l) (sym (append_assoc (handles_in r) left.handles rest.handles) ∙ ap (λ l. l ++ rest.handles) (sym eh)) ∙ h.handles);
      open_bytes = h.open_bytes;
      open_handles = h.open_handles;
      in_time =
          let all = needed_fits (length unread.bytes) m flight fits in
          let same : needed (length unread.bytes - size (raw_of m)) flight ≡ needed (length left.bytes) flight = ap (λ n. needed n flight) less in
          omega (arith, all, same, h.in_time, lh, count);
      in_time_waiting = λ c.
          let all = needed_fits (length unread.bytes + length link.bytes) m flight (omega (arith, fits)) in
          let sum : length unread.bytes + length link.bytes - size (raw_of m) ≡ length left.bytes + length link.bytes = omega (arith, lb, bytes_length m) in
          let same : needed (length unread.bytes + length link.bytes - size (raw_of m)) flight ≡ needed (length left.bytes + length link.bytes) flight = ap (λ n. needed n flight) sum in
          omega (arith, all, same, h.in_time_waiting c, lh, count);
    }

pub missed_flows : (closed : Bool) (unread link unsent : Piece) (sent flight : List Sent) (taken : List Got) (rest : Piece) (m : Sent) (id after : ℕ) (left : List ℕ) →
    unread.bytes ≡ bytes_in m ++ left → Flows closed unread link unsent sent (m ∷ flight) taken rest →
    Flows closed (record { bytes = left; handles = unread.handles }) link unsent sent flight (Missed id after ∷ taken) rest
missed_flows closed unread link unsent sent flight taken rest m id after left eb h =
    let lb = ap length eb ∙ length-append (bytes_in m) left in
    let fits : size (raw_of m) ≤ length unread.bytes = omega (arith, lb, bytes_length m) in
    let less : length unread.bytes - size (raw_of m) ≡ length left = omega (arith, lb, bytes_length m) in
    record {
      bytes = left_bytes m flight unread.bytes left rest.bytes eb h.bytes;
      handles = rw (got_same taken id after) h.handles;
      open_bytes = h.open_bytes;
      open_handles = h.open_handles;
      in_time =
          let all = needed_fits (length unread.bytes) m flight fits in
          let same : needed (length unread.bytes - size (raw_of m)) flight ≡ needed (length left) flight = ap (λ n. needed n flight) less in
          omega (arith, all, same, h.in_time);
      in_time_waiting = λ c.
          let all = needed_fits (length unread.bytes + length link.bytes) m flight (omega (arith, fits)) in
          let sum : length unread.bytes + length link.bytes - size (raw_of m) ≡ length left + length link.bytes = omega (arith, lb, bytes_length m) in
          let same : needed (length unread.bytes + length link.bytes - size (raw_of m)) flight ≡ needed (length left + length link.bytes) flight = ap (λ n. needed n flight) sum in
          omega (arith, all, same, h.in_time_waiting c);
    }
