-- Where nothing is on its way any more, all was taken.
use Rattle.std.proofs.Common.{◌≡◌, ◌≤◌, Bool, false, ◌⊎◌, inl, inr, List, [], ◌∷◌, ◌++◌, length, refl, sym, ap, ◌∙◌, length-append, append-nil, arith}
use Rattle.ei_spec.specs.Message.{size}
use Rattle.ei_spec.specs.Piece.{Piece}
use Rattle.ei_backend.specs.Backend.{BackendView, FrontAnswer, Waits, Gone, Message, next}
use Rattle.ei_ends.specs.Sent.{Sent, bytes_in, raw_of, spelled}
use Rattle.ei_ends.specs.Way.{onto, End, Cut, Tied}
use Rattle.ei_ends.proofs.ReadsNext.{Misses, Takes}
use Rattle.ei_ends.proofs.InTime.{bytes_length}
use Rattle.ei_ends.proofs.Agreeing.{agree_length}
use Rattle.ei_ends.proofs.Reading.{reads_whole}

pub pair_first : (a b : FrontAnswer) (x y : BackendView) → ◌≡◌ {A = FrontAnswer × BackendView} (a, x) (b, y) → a ≡ b
pair_first a b x y e = ap (λ (p : FrontAnswer × BackendView). p.0) e

pub pair_second : (a b : FrontAnswer) (x y : BackendView) → ◌≡◌ {A = FrontAnswer × BackendView} (a, x) (b, y) → x ≡ y
pair_second a b x y e = ap (λ (p : FrontAnswer × BackendView). p.1) e

message_long : (m : Sent) → 16 ≤ length (bytes_in m)
message_long m = omega (arith, bytes_length m)

not_message : (events : Bool) (x y : End) (to_y to_x : Piece) (cx cy : Cut) (m : Sent) (ms : List Sent) → Tied events x y to_y to_x cx cy → cx.flight ≡ m ∷ ms → size (raw_of m) ≤ length y.backend.unread → Misses events x y to_y to_x cx cy ⊎ Takes events x y to_y to_x cx cy
not_message events x y to_y to_x cx cy m ms h is le = reads_whole events x y to_y to_x cx cy m ms h is le

waits_not : (events : Bool) (x y : End) (to_y to_x : Piece) (cx cy : Cut) → Misses events x y to_y to_x cx cy ⊎ Takes events x y to_y to_x cx cy → next events y.backend ≡ (Waits, y.backend) → ⊥
waits_not events x y to_y to_x cx cy (inl miss) w = let e = pair_first (Gone miss.message.target) Waits miss.after y.backend (sym miss.next_is ∙ w) in cc
waits_not events x y to_y to_x cx cy (inr take) w = let e = pair_first (Message take.target take.read.opcode take.read.values) Waits take.after y.backend (sym take.next_is ∙ w) in cc

not_waiting : (events : Bool) (x y : End) (to_y to_x : Piece) (cx cy : Cut) (m : Sent) (ms : List Sent) → Tied events x y to_y to_x cx cy → cx.flight ≡ m ∷ ms → y.backend.unread ≡ spelled (m ∷ ms) → next events y.backend ≡ (Waits, y.backend) → ⊥
not_waiting events x y to_y to_x cx cy m ms h is e w =
    let long : size (raw_of m) ≤ length y.backend.unread = omega (arith, ap length e, length-append (bytes_in m) (spelled ms), bytes_length m) in
    waits_not events x y to_y to_x cx cy (not_message events x y to_y to_x cx cy m ms h is long) w

whole_there : (events : Bool) (x y : End) (to_y to_x : Piece) (cx cy : Cut) (flight : List Sent) → Tied events x y to_y to_x cx cy → cx.flight ≡ flight → y.backend.unread ≡ spelled flight → next events y.backend ≡ (Waits, y.backend) → flight ≡ []
whole_there events x y to_y to_x cx cy [] h is e w = refl
whole_there events x y to_y to_x cx cy (m ∷ ms) h is e w = absurd (not_waiting events x y to_y to_x cx cy m ms h is e w)

-- where nothing waits with the sender or between them, and there is no whole message, all was taken
pub all_taken : (events : Bool) (x y : End) (to_y to_x : Piece) (cx cy : Cut) → Tied events x y to_y to_x cx cy → y.backend.closed ≡ false → to_y.bytes ≡ [] → x.backend.unsent ≡ [] → next events y.backend ≡ (Waits, y.backend) → length y.taken ≡ length x.sent
all_taken events x y to_y to_x cx cy h opened none sent w =
    let flows = h.there.flows in
    let nothing_more : cx.rest.bytes ≡ [] = flows.open_bytes opened ∙ ap (λ l. l ++ x.backend.unsent) none ∙ sent in
    let all : y.backend.unread ≡ spelled cx.flight = sym (append-nil y.backend.unread) ∙ ap (λ l. y.backend.unread ++ l) (sym nothing_more) ∙ flows.bytes in
    let empty_way = whole_there events x y to_y to_x cx cy cx.flight h refl all w in
    agree_length events y.sent cx.past y.taken h.there.agree ∙ ap length (sym (h.there.sent_is ∙ ap (λ f. onto f cx.past) empty_way))
