-- Messages that are buffered one after another.
use Rattle.std.proofs.Common.{◌≡◌, ℕ, ◌+◌, ◌<◌, ◌≤◌, List, [], ◌∷◌, ◌++◌, length, take, get_or, Option, Some, None, refl, sym, ap, ◌∙◌, append_assoc}
use Rattle.std.specs.Option.{option_map}
use Rattle.std.specs.List.{filter_map, flat_map}
use Rattle.std.proofs.lemmas.List.{append-nil, take_more, take_all}
use Rattle.std.proofs.lemmas.List.Elements.{filter_map-append}
use Rattle.ei_spec.specs.declared.handle.Handle.{Handle}
use Rattle.ei_spec.specs.declared.interface.KnownInterface.{KnownInterface}
use Rattle.ei_spec.specs.Value.{Value, handles_of}
use Rattle.ei_spec.specs.Message.{Raw, message, bytes_of, all_bytes}
use Rattle.ei_backend.specs.Backend.{BackendView, sent}
use Rattle.ei_spec.specs.declared.limits.TheConstants.{SETTLED_INTERFACES}
use Rattle.ei_types.specs.Settled.{versions}
use Rattle.ei_session.specs.Replies.{settled_event, settled_events}
use Rattle.ei_handshake.specs.Handshaker.{sends, event_if}

same_backend : (b : BackendView) (unsent : List ℕ) (handles : List Handle) (want : List ℕ) → unsent ≡ want → handles ≡ b.unsent_handles →
    ◌≡◌ {A = BackendView} (record b { unsent = unsent; unsent_handles = handles }) (record b { unsent = want })
same_backend b unsent handles want e h = rw (e, h) refl

-- one message without handles
pub sent_one : (b : BackendView) (id opcode : ℕ) (values : List Value) → flat_map handles_of values ≡ [] → sent b id opcode values ≡ sends b (message id opcode values ∷ [])
sent_one b id opcode values none =
    same_backend b _ _ _
    (ap (λ (x : List ℕ). b.unsent ++ x) (sym (append-nil (bytes_of (message id opcode values)))))
    (ap (λ (x : List Handle). b.unsent_handles ++ x) none ∙ append-nil b.unsent_handles)

all_bytes-append : (x y : List Raw) → all_bytes (x ++ y) ≡ all_bytes x ++ all_bytes y
all_bytes-append [] y = refl
all_bytes-append (m ∷ x) y = ap (λ (b : List ℕ). bytes_of m ++ b) (all_bytes-append x y) ∙ sym (append_assoc (bytes_of m) (all_bytes x) (all_bytes y))

unsent_is : (b : BackendView) (x y : List ℕ) → x ≡ y → ◌≡◌ {A = BackendView} (record b { unsent = x }) (record b { unsent = y })
unsent_is b x y e = rw e refl

-- some messages, and then more
pub sends-append : (b : BackendView) (x y : List Raw) → sends (sends b x) y ≡ sends b (x ++ y)
sends-append b x y = unsent_is b _ _ (append_assoc b.unsent (all_bytes x) (all_bytes y) ∙ ap (λ (t : List ℕ). b.unsent ++ t) (sym (all_bytes-append x y)))

pub sends-nil : (b : BackendView) → sends b [] ≡ b
sends-nil b = unsent_is b _ _ (append-nil b.unsent)

-- the events of these interfaces, where they are settled
abbrev pub settled_pairs : ℕ → (KnownInterface → Option ℕ) → List (KnownInterface × ℕ) → List Raw
settled_pairs handshake settled pairs = filter_map (λ p. option_map (settled_event handshake p.0) (settled p.0)) pairs

one_pair : (handshake : ℕ) (settled : KnownInterface → Option ℕ) (p : KnownInterface × ℕ) (o : Option ℕ) → settled p.0 ≡ o → settled_pairs handshake settled (p ∷ []) ≡ event_if handshake p.0 o
one_pair handshake settled p None e = rw e refl
one_pair handshake settled p (Some v) e = rw e refl

-- the events of one interface more
pub settled_pairs_more : (handshake : ℕ) (settled : KnownInterface → Option ℕ) (pairs : List (KnownInterface × ℕ)) (i : ℕ) (d : KnownInterface × ℕ) → i < length pairs →
    settled_pairs handshake settled (take (i + 1) pairs) ≡ settled_pairs handshake settled (take i pairs) ++ event_if handshake (get_or pairs i d).0 (settled (get_or pairs i d).0)
settled_pairs_more handshake settled pairs i d lt =
    ap (settled_pairs handshake settled) (take_more pairs i d lt)
    ∙ filter_map-append (λ (q : KnownInterface × ℕ). option_map (settled_event handshake q.0) (settled q.0)) (take i pairs) (get_or pairs i d ∷ [])
    ∙ ap (λ (x : List Raw). settled_pairs handshake settled (take i pairs) ++ x) (one_pair handshake settled (get_or pairs i d) (settled (get_or pairs i d).0) refl)

-- all of them
pub settled_pairs_all : (handshake : ℕ) (settled : KnownInterface → Option ℕ) → settled_pairs handshake settled versions ≡ settled_events handshake settled
unfolding settled_events
settled_pairs_all handshake settled = refl

-- the endpoint after one event more, or none
pub sends_more : (b c : BackendView) (x y : List Raw) → c ≡ sends b x → sends c y ≡ sends b (x ++ y)
sends_more b c x y e = ap (λ (d : BackendView). sends d y) e ∙ sends-append b x y

-- the events of all settled interfaces
pub settled_pairs_whole : (handshake : ℕ) (settled : KnownInterface → Option ℕ) (pairs : List (KnownInterface × ℕ)) (n : ℕ) → pairs ≡ versions → SETTLED_INTERFACES ≤ n → settled_pairs handshake settled (take n pairs) ≡ settled_events handshake settled
settled_pairs_whole handshake settled pairs n is le =
    let all : take n versions ≡ versions = take_all n versions le in
    ap (λ (x : List (KnownInterface × ℕ)). settled_pairs handshake settled (take n x)) is ∙ ap (settled_pairs handshake settled) all ∙ settled_pairs_all handshake settled
