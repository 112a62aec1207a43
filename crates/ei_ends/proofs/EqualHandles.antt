-- What was taken is equal, with its handles, until a message with a handle is dropped.
use Rattle.std.proofs.Common.{◌≡◌, ◌+◌, ◌≤◌, Bool, false, List, [], ◌∷◌, ◌++◌, length, map, Option, Some, None, refl, sym, ap, subst, ◌∙◌, length-append}
use Rattle.std.proofs.Common.{append_assoc, append-nil, arith}
use Rattle.std.specs.List.{flat_map}
use Rattle.ei_spec.specs.declared.handle.Handle.{Handle}
use Rattle.ei_spec.specs.Value.{Value, Word, Long, Signed, SignedLong, Letters, Null, Fd, handles_of}
use Rattle.ei_spec.specs.Piece.{Piece}
use Rattle.ei_ends.specs.Sent.{Sent, Got, Took, Missed, IsAlike, handles_in, bare}
use Rattle.ei_ends.specs.Agree.{handles_sent, handles_got, IsTaken, Agree, KeepsHandles, AllEqual}
use Rattle.ei_ends.specs.Way.{End, Cut, Tied}
use Rattle.ei_ends.specs.Steps.{IsPiece}
use Rattle.ei_ends.proofs.Splits.{split_long}
use Rattle.ei_ends.proofs.InTime.{handles_onto}
use Rattle.ei_ends.proofs.Flowing.{alike_handles}

-- ---- each one

-- the one at each place: before it lie as many messages as were taken before it
pub each_one : (events : Bool) (own : List Sent) (a b : List Sent) (m : Sent) (c d : List Got) (g : Got) → length a ≡ length c → Agree events own (a ++ (m ∷ b)) (c ++ (g ∷ d)) → IsTaken events own b d m g × Agree events own b d
unfolding Agree
each_one events own [] b m [] d g e h = (h.0, h.1)
each_one events own [] b m (x ∷ c) d g e h = absurd (omega (arith, e))
each_one events own (x ∷ a) b m [] d g e h = absurd (omega (arith, e))
each_one events own (x ∷ a) b m (y ∷ c) d g e h = each_one events own a b m c d g (omega (arith, e)) h.1

-- ---- handles

sent_parts : (m : Sent) (past : List Sent) → handles_sent (m ∷ past) ≡ handles_sent past ++ handles_in m
unfolding handles_sent
sent_parts m past = refl

sent_more : (a b : List Sent) → (rest : List Handle) × (handles_sent (a ++ b) ≡ handles_sent b ++ rest)
unfolding handles_sent
sent_more [] b = ([], sym (append-nil (handles_sent b)))
sent_more (m ∷ a) b =
    let r = sent_more a b in
    (r.0 ++ handles_in m, ap (λ l. l ++ handles_in m) r.1 ∙ append_assoc (handles_sent b) r.0 (handles_in m))

got_more : (a b : List Got) → (rest : List Handle) × (handles_got (a ++ b) ≡ handles_got b ++ rest)
unfolding handles_got
got_more [] b = ([], sym (append-nil (handles_got b)))
got_more (Took m after ∷ a) b =
    let r = got_more a b in
    (r.0 ++ handles_in m, ap (λ l. l ++ handles_in m) r.1 ∙ append_assoc (handles_got b) r.0 (handles_in m))
got_more (Missed id after ∷ a) b = got_more a b

cut_front : (x a b : List Handle) → x ++ a ≡ x ++ b → a ≡ b
cut_front [] a b e = e
cut_front (y ∷ x) a b e = cut_front x a b cc

pub nothing : {A : Type 0} (x : List A) → length x ≡ 0 → x ≡ []
nothing [] e = refl
nothing (y ∷ x) e = absurd (omega (arith, e))

same_front : (a b x y : List Handle) → a ++ x ≡ b ++ y → length a ≡ length b → a ≡ b
same_front a b x y e l =
    let s = split_long a x b y e (omega (arith, l)) in
    let none = nothing s.0 (omega (arith, ap length s.1, length-append b s.0, l)) in
    s.1 ∙ ap (λ r. b ++ r) none ∙ append-nil b

bare_of : (v w : Value) → bare w ≡ Some v → w ≡ v
bare_of v (Word n) e = cc
bare_of v (Long n) e = cc
bare_of v (Signed z) e = cc
bare_of v (SignedLong z) e = cc
bare_of v (Letters t) e = cc
bare_of v Null e = cc
bare_of v (Fd h) e = absurd cc

value_head : (v w : Value) (vs ws : List Value) → handles_of v ≡ [] → Some v ≡ bare w → handles_of v ++ flat_map handles_of vs ≡ handles_of w ++ flat_map handles_of ws → (flat_map handles_of vs ≡ flat_map handles_of ws → vs ≡ ws) → v ∷ vs ≡ w ∷ ws
value_head v w vs ws none head h rest =
    let same : w ≡ v = bare_of v w (sym head) in
    let tail : flat_map handles_of vs ≡ flat_map handles_of ws = sym (ap (λ l. l ++ flat_map handles_of vs) none) ∙ h ∙ ap (λ u. handles_of u ++ flat_map handles_of ws) same ∙ ap (λ l. l ++ flat_map handles_of ws) none in
    rw (same, rest tail) refl

handle_head : (g : Handle) (w : Value) (vs ws : List Value) → bare w ≡ None → g ∷ flat_map handles_of vs ≡ handles_of w ++ flat_map handles_of ws → (flat_map handles_of vs ≡ flat_map handles_of ws → vs ≡ ws) → Fd g ∷ vs ≡ w ∷ ws
handle_head g (Word n) vs ws e h rest = absurd cc
handle_head g (Long n) vs ws e h rest = absurd cc
handle_head g (Signed z) vs ws e h rest = absurd cc
handle_head g (SignedLong z) vs ws e h rest = absurd cc
handle_head g (Letters t) vs ws e h rest = absurd cc
handle_head g Null vs ws e h rest = absurd cc
handle_head g (Fd k) vs ws e h rest =
    let one : g ≡ k = cc in
    let tail : flat_map handles_of vs ≡ flat_map handles_of ws = cc in
    rw (one, rest tail) refl

same_values : (vs ws : List Value) → map bare vs ≡ map bare ws → flat_map handles_of vs ≡ flat_map handles_of ws → vs ≡ ws
same_values [] [] e h = refl
same_values [] (w ∷ ws) e h = absurd cc
same_values (v ∷ vs) [] e h = absurd cc
same_values (Word n ∷ vs) (w ∷ ws) e h =
    let head : Some (Word n) ≡ bare w = cc in
    let tail : map bare vs ≡ map bare ws = cc in
    value_head (Word n) w vs ws refl head h (same_values vs ws tail)
same_values (Long n ∷ vs) (w ∷ ws) e h =
    let head : Some (Long n) ≡ bare w = cc in
    let tail : map bare vs ≡ map bare ws = cc in
    value_head (Long n) w vs ws refl head h (same_values vs ws tail)
same_values (Signed z ∷ vs) (w ∷ ws) e h =
    let head : Some (Signed z) ≡ bare w = cc in
    let tail : map bare vs ≡ map bare ws = cc in
    value_head (Signed z) w vs ws refl head h (same_values vs ws tail)
same_values (SignedLong z ∷ vs) (w ∷ ws) e h =
    let head : Some (SignedLong z) ≡ bare w = cc in
    let tail : map bare vs ≡ map bare ws = cc in
    value_head (SignedLong z) w vs ws refl head h (same_values vs ws tail)
same_values (Letters t ∷ vs) (w ∷ ws) e h =
    let head : Some (Letters t) ≡ bare w = cc in
    let tail : map bare vs ≡ map bare ws = cc in
    value_head (Letters t) w vs ws refl head h (same_values vs ws tail)
same_values (Null ∷ vs) (w ∷ ws) e h =
    let head : Some Null ≡ bare w = cc in
    let tail : map bare vs ≡ map bare ws = cc in
    value_head Null w vs ws refl head h (same_values vs ws tail)
same_values (Fd g ∷ vs) (w ∷ ws) e h =
    let head : ◌≡◌ {A = Option Value} None (bare w) = cc in
    let tail : map bare vs ≡ map bare ws = cc in
    handle_head g w vs ws (sym head) h (same_values vs ws tail)

-- a message that is read alike, with the same handles, is the message
pub same_message : (m r : Sent) → IsAlike m r → handles_in r ≡ handles_in m → r ≡ m
same_message m r a e =
    let values : r.values ≡ m.values = same_values r.values m.values a.values e in
    rw (sym a.target, sym a.interface, sym a.version, sym a.opcode) (ap (λ (v : List Value). let s : Sent = record { target = r.target; interface = r.interface; version = r.version; opcode = r.opcode; values = v } in s) values)

all_equal : (events : Bool) (own past : List Sent) (gots : List Got) (q r : List Handle) → Agree events own past gots → KeepsHandles past gots → handles_got gots ++ q ≡ handles_sent past ++ r → AllEqual past gots × (handles_got gots ≡ handles_sent past)
unfolding Agree KeepsHandles AllEqual handles_got handles_sent
all_equal events own [] [] q r h k e = (tt, refl)
all_equal events own [] (g ∷ gots) q r h k e = absurd h
all_equal events own (m ∷ past) [] q r h k e = absurd h
all_equal events own (m ∷ past) (Took x after ∷ gots) q r h k e =
    let e2 = sym (append_assoc (handles_got gots) (handles_in x) q) ∙ e ∙ append_assoc (handles_sent past) (handles_in m) r in
    let before = all_equal events own past gots (handles_in x ++ q) (handles_in m ++ r) h.1 k e2 in
    let rest = cut_front (handles_sent past) (handles_in x ++ q) (handles_in m ++ r) (ap (λ l. l ++ (handles_in x ++ q)) (sym before.1) ∙ e2) in
    let same = same_front (handles_in x) (handles_in m) q r rest (alike_handles x.values m.values h.0.2.values) in
    ((same_message m x h.0.2 same, before.0), ap (λ l. l ++ handles_in x) before.1 ∙ ap (λ l. handles_sent past ++ l) same)
all_equal events own (m ∷ past) (Missed id after ∷ gots) q r h k e =
    let none : handles_sent past ++ handles_in m ≡ handles_sent past = ap (λ l. handles_sent past ++ l) k.0 ∙ append-nil (handles_sent past) in
    let before = all_equal events own past gots q r h.1 k.1 (e ∙ ap (λ l. l ++ r) none) in
    (before.0, before.1 ∙ sym none)

agree_part : (events : Bool) (own : List Sent) (a b : List Sent) (c d : List Got) → length a ≡ length c → Agree events own (a ++ b) (c ++ d) → Agree events own b d
unfolding Agree
agree_part events own [] b [] d e h = h
agree_part events own [] b (x ∷ c) d e h = absurd (omega (arith, e))
agree_part events own (x ∷ a) b [] d e h = absurd (omega (arith, e))
agree_part events own (x ∷ a) b (y ∷ c) d e h = agree_part events own a b c d (omega (arith, e)) h.1

-- what was taken before a message with a handle was dropped is the very messages that were sent
pub equal_until : (events : Bool) (x y : End) (to_y to_x : Piece) (cx cy : Cut) (a b : List Sent) (c d : List Got) → Tied events x y to_y to_x cx cy → cx.past ≡ a ++ b → y.taken ≡ c ++ d → length a ≡ length c → KeepsHandles b d → AllEqual b d
equal_until events x y to_y to_x cx cy a b c d h is was same k =
    let p = sent_more a b in
    let g = got_more c d in
    let flows = h.there.flows.handles in
    let queue : List Handle = y.backend.handles ++ cx.rest.handles in
    let all : handles_got (c ++ d) ++ queue ≡ handles_sent (a ++ b) ++ flat_map handles_in cx.flight =
    ap (λ l. handles_got l ++ queue) (sym was) ∙ flows ∙ ap handles_sent h.there.sent_is ∙ handles_onto cx.flight cx.past ∙ ap (λ l. handles_sent l ++ flat_map handles_in cx.flight) is in
    let parts : handles_got d ++ (g.0 ++ queue) ≡ handles_sent b ++ (p.0 ++ flat_map handles_in cx.flight) =
    sym (append_assoc (handles_got d) g.0 queue) ∙ ap (λ l. l ++ queue) (sym g.1) ∙ all ∙ ap (λ l. l ++ flat_map handles_in cx.flight) p.1 ∙ append_assoc (handles_sent b) p.0 (flat_map handles_in cx.flight) in
    let agree : Agree events y.sent (a ++ b) (c ++ d) = subst (λ l. Agree events y.sent (a ++ b) l) was (subst (λ l. Agree events y.sent l y.taken) is h.there.agree) in
    (all_equal events y.sent b d _ _ (agree_part events y.sent a b c d same agree) k parts).0

-- few handles that were sent are never too many
pub no_limit : (events : Bool) (x y : End) (to_y to_x p left : Piece) (cx cy : Cut) → Tied events x y to_y to_x cx cy → y.backend.closed ≡ false → IsPiece p left to_y → length (handles_sent x.sent) ≤ 4096 → length y.backend.handles + length p.handles ≤ 4096
no_limit events x y to_y to_x p left cx cy h opened is few =
    let flows = h.there.flows in
    omega (arith, few, ap length flows.handles, length-append (handles_got y.taken) (y.backend.handles ++ cx.rest.handles), length-append y.backend.handles cx.rest.handles, ap length (flows.open_handles opened), length-append to_y.handles x.backend.unsent_handles, ap length is.handles, length-append p.handles left.handles)
