-- The messages of the handshakes may be sent, and add their bytes alone, but for the connection.
use Rattle.std.proofs.Common.{◌≡◌, ℕ, ◌+◌, ◌<◌, ◌≤◌, ◌^◌, leb, Bool, true, false, List, [], ◌∷◌, ◌++◌, map, length, Option, Some, None, refl, sym, ap, subst, ◌∙◌, length-append, arith, lit≤}
use Rattle.std.specs.Prelude.{replicate, nat_eq, codes}
use Rattle.std.specs.Int.{w32, to_le_bytes}
use Rattle.std.specs.List.{filter_map, list_any}
use Rattle.std.specs.Str.{is_utf8}
use Rattle.std.specs.FinMap as finite
use Rattle.std.proofs.lemmas.Bool.{leb-true, le-ltb}
use Rattle.std.proofs.lemmas.List.{length-replicate}
use Rattle.ei_spec.specs.declared.interface.KnownInterface.{KnownInterface}
use Rattle.ei_spec.specs.declared.interface.KnownInterface.TheVariants as known
use Rattle.ei_spec.specs.declared.limits.TheConstants.{MOST_MESSAGE_BYTES}
use Rattle.ei_spec.specs.Interface.{Known, name_of, server_version, the_settled}
use Rattle.ei_spec.specs.Message.{Raw, size, message, all_bytes}
use Rattle.ei_spec.specs.NameMap.{NameMap}
use Rattle.ei_spec.specs.Rows.{Row}
use Rattle.ei_spec.specs.Value.{Word, Letters, padding, text_bytes}
use Rattle.ei_spec.proofs.EachInterface.{of_each}
use Rattle.ei_spec.proofs.NameLaws.{name_text, version_small}
use Rattle.ei_types.specs.declared.enums.ContextType.{ContextType}
use Rattle.ei_types.specs.declared.enums.ContextType.TheVariants as context
use Rattle.ei_types.specs.Enums.{context_type_number}
use Rattle.ei_backend.specs.Backend.{BackendView}
use Rattle.ei_backend.specs.Table.{first_server_id, own_limit}
use Rattle.ei_ends.specs.Sent.{other, Sent, Got, New, new_of, IsCall, row_of}
use Rattle.ei_ends.specs.Announced.{next_own, counts}
use Rattle.ei_ends.specs.Way.{onto, HasNextId}
use Rattle.ei_ends.specs.Joined.{acquainted, IsListedCall, AreListedCalls, ArePlain}
use Rattle.ei_ends.specs.Way.{End}
use Rattle.ei_ends.specs.Steps.{after_calls}
use Rattle.ei_ends.proofs.JoinedSteps.{plain_all}
use Rattle.ei_greeting.specs.Shaking.{Greeter}
use Rattle.ei_greeting.specs.Shaking as greeter
use Rattle.ei_shaking.specs.Messages.{to_handshake, greeting, version_event, version_if, version_events, connection_event, settled_by, version_request, told_by, finish, asked_by}
use Rattle.ei_shaking.specs.Sending.{AreVersions}
use Rattle.ei_shaking.proofs.AllOpen.{all_open}
use Rattle.ei_shaking.proofs.Raws.{asked_raws}

-- ---- messages that announce nothing

-- a lawful message to the handshake, which announces nothing
record IsShake (events : Bool) (m : Sent) (r : Row) : Type 0 where
  call : IsCall events m r
  is : m ≡ record { target = 0; interface = known.Handshake; version = 1; opcode = m.opcode; values = m.values }
  none : new_of events m ≡ None

abbrev AreShakes : Bool → List Sent → Type 0
AreShakes events [] = Unit {0}
AreShakes events (m ∷ ms) = ((r : Row) × IsShake events m r) × AreShakes events ms

next_same : (events : Bool) (m : Sent) (sent : List Sent) → new_of events m ≡ None → next_own events (m ∷ sent) ≡ next_own events sent
unfolding next_own
next_same events m sent none = ap (λ (o : Option New). next_own events sent + counts o) none ∙ omega arith

one_more : (events : Bool) (m : Sent) (r : Row) (sent : List Sent) (taken : List Got) → IsShake events m r → next_own events sent ≤ own_limit (other events) → IsListedCall events sent taken m r
one_more events m r sent taken s le = record {
  call = s.call;
  target = subst (λ (n : Sent). acquainted events sent taken n.target ≡ Some (record { id = n.target; interface = Known n.interface; version = n.version })) (sym s.is) refl;
  next = subst (HasNextId (next_own events sent)) (sym s.none) tt;
  left = let same = next_same events m sent s.none in omega (arith, le, same);
}

all_more : (events : Bool) (ms sent more : List Sent) (taken : List Got) → AreShakes events ms → next_own events sent ≤ own_limit (other events) →
    (next_own events (onto ms sent) ≡ next_own events sent → AreListedCalls events more (onto ms sent) taken) → AreListedCalls events (ms ++ more) sent taken
all_more events [] sent more taken are le rest = rest refl
all_more events (m ∷ ms) sent more taken are le rest =
    let same = next_same events m sent are.0.1.none in
    (are.0.0, one_more events m are.0.0 sent taken are.0.1 le, all_more events ms (m ∷ sent) more taken are.1 (omega (arith, le, same)) (λ e. rest (e ∙ same)))

-- ---- what a server sends

version_short : (id opcode v : ℕ) (i : KnownInterface) → size (message id opcode (Letters (name_of i) ∷ Word v ∷ [])) ≤ MOST_MESSAGE_BYTES
version_short id opcode v i = leb-true _ MOST_MESSAGE_BYTES (of_each (λ (k : KnownInterface). leb (size (message id opcode (Letters (name_of k) ∷ Word v ∷ []))) MOST_MESSAGE_BYTES) refl i)

is_version : (i : KnownInterface) (v : ℕ) → v < 2 ^ 32 → (r : Row) × IsShake true (version_event i v) r
unfolding all_open
is_version i v lt = (
  _,
  record {
    call = record { row = refl; kinds = (name_text i, (lt, tt)); target = omega arith; opcode = omega arith; short = version_short 0 1 v i };
    is = refl;
    none = refl;
  },
)

are_versions : (versions : NameMap) (is : List KnownInterface) → AreVersions versions → AreShakes true (filter_map (version_if versions) is)
are_versions versions [] small = tt
are_versions versions (i ∷ is) small = by (finite.get versions (name_of i)) refl (are_versions versions is small)
  where
    by : (o : Option ℕ) → finite.get versions (name_of i) ≡ o → AreShakes true (filter_map (version_if versions) is) → AreShakes true (filter_map (version_if versions) (i ∷ is))
    by None e next = rw e next
    by (Some v) e next = rw e (is_version i v (small (name_of i) v e), next)

last_one : (serial : ℕ) (sent : List Sent) (taken : List Got) → serial < 2 ^ 32 → next_own true sent ≡ first_server_id → AreListedCalls true (connection_event serial first_server_id ∷ []) sent taken
unfolding all_open
last_one serial sent taken lt next = (
  _,
  record {
    call = record { row = refl; kinds = (lt, (omega arith, (omega arith, tt))); target = omega arith; opcode = omega arith; short = lit≤ tt };
    target = refl;
    next = sym next;
    left = omega (arith, next);
  },
  tt,
)

first_next : (taken : List Got) → next_own true (greeting ∷ []) ≡ first_server_id
unfolding all_open
first_next taken = refl

pub settled_may : (versions : NameMap) (serial : ℕ) (taken : List Got) → serial < 2 ^ 32 → AreVersions versions → AreListedCalls true (settled_by versions serial first_server_id) (greeting ∷ []) taken
unfolding version_events
settled_may versions serial taken lt small =
    let first = first_next taken in
    all_more true (version_events versions) (greeting ∷ []) (connection_event serial first_server_id ∷ []) taken (are_versions versions the_settled small) (omega (arith, first))
    (λ e. last_one serial (onto (version_events versions) (greeting ∷ [])) taken lt (e ∙ first))

pub greeting_may : (taken : List Got) → AreListedCalls true (greeting ∷ []) [] taken
unfolding all_open
greeting_may taken = (
  _,
  record {
    call = record { row = refl; kinds = (omega arith, tt); target = omega arith; opcode = omega arith; short = lit≤ tt };
    target = refl;
    next = tt;
    left = lit≤ tt;
  },
  tt,
)

-- ---- what a client sends

le4_length : (n : ℕ) → length (to_le_bytes w32 n) ≡ 4
le4_length n = refl

padding_fits : (n : ℕ) → n ≤ 1048556 → n + padding n ≤ 1048556
padding_fits n le = omega (arith, le)

replicate_length : (n : ℕ) → length (replicate {A = ℕ} n 0) ≡ n
replicate_length n = length-replicate {A = ℕ} n 0

name_fits : (id opcode : ℕ) (t : List ℕ) → length t ≤ 1048555 → size (message id opcode (Letters t ∷ [])) ≤ MOST_MESSAGE_BYTES
name_fits id opcode t le =
    let n : ℕ = length t + 1 in
    let pads = padding_fits n (omega (arith, le)) in
    let zeros = replicate_length (1 + padding n) in
    omega (arith, pads, zeros, le, length-append (text_bytes t) [], length-append (to_le_bytes w32 n ++ t) (replicate (1 + padding n) 0), length-append (to_le_bytes w32 n) t, le4_length n)

is_request : (i : KnownInterface) → (r : Row) × IsShake false (version_request i) r
unfolding all_open
is_request i = (
  _,
  record {
    call = record { row = refl; kinds = (name_text i, (version_small i, tt)); target = omega arith; opcode = omega arith; short = version_short 0 4 (server_version i) i };
    is = refl;
    none = refl;
  },
)

are_requests : (is : List KnownInterface) → AreShakes false (map version_request is)
are_requests [] = tt
are_requests (i ∷ is) = (is_request i, are_requests is)

kind_is_one : (k : ContextType) → (context_type_number k < 2 ^ 32) × (list_any (nat_eq (context_type_number k)) (1 ∷ 2 ∷ []) ≡ true)
kind_is_one context.Receiver = (omega arith, refl)
kind_is_one context.Sender = (omega arith, refl)

is_name : (t : List ℕ) → is_utf8 t ≡ true → length t ≤ 1048555 → (r : Row) × IsShake false (to_handshake false (codes "name") (Letters t ∷ [])) r
unfolding row_of
is_name t text le = (
  _,
  record {
    call = record { row = refl; kinds = (text, tt); target = omega arith; opcode = omega arith; short = name_fits 0 3 t le };
    is = refl;
    none = refl;
  },
)

are_told : (g : Greeter) → is_utf8 g.name ≡ true → length g.name ≤ 1048555 → AreShakes false (told_by g)
unfolding row_of
are_told g text le = (
  (_, record { call = record { row = refl; kinds = (omega arith, tt); target = omega arith; opcode = omega arith; short = lit≤ tt }; is = refl; none = refl }),
  (
    is_name g.name text le,
    ((_, record { call = record { row = refl; kinds = (kind_is_one g.kind, tt); target = omega arith; opcode = omega arith; short = lit≤ tt }; is = refl; none = refl }), tt),
  ),
)

is_finish : (r : Row) × IsShake false finish r
unfolding all_open
is_finish = (_, record { call = record { row = refl; kinds = tt; target = omega arith; opcode = omega arith; short = lit≤ tt }; is = refl; none = refl })

next_at_first : next_own false [] ≤ own_limit true
unfolding all_open
next_at_first = lit≤ tt

pub asked_may : (g : Greeter) (taken : List Got) → is_utf8 g.name ≡ true → length g.name ≤ 1048555 → AreListedCalls false (asked_by g) [] taken
unfolding asked_by
asked_may g taken text le =
    all_more false (told_by g) [] (map version_request the_settled ++ (finish ∷ [])) taken (are_told g text le) next_at_first
    (λ e. all_more false (map version_request the_settled) (onto (told_by g) []) (finish ∷ []) taken (are_requests the_settled) (subst (λ (n : ℕ). n ≤ own_limit true) (sym e) next_at_first)
    (λ f. all_more false (finish ∷ []) (onto (map version_request the_settled) (onto (told_by g) [])) [] taken (is_finish, tt) (subst (λ (n : ℕ). n ≤ own_limit true) (sym (f ∙ e)) next_at_first) (λ h. tt)))

pub asked_plain : (g : Greeter) → ArePlain false (asked_by g)
unfolding all_open
asked_plain g =
    let p : Unit {0} = tt in
    (refl, refl, refl, (refl, refl, refl, (refl, refl, refl, (refl, refl, refl, (refl, refl, refl, (refl, refl, refl, (refl, refl, refl, (refl, refl, refl, (refl, refl, refl, (refl, refl, refl, (refl, refl, refl, (refl, refl, refl, (refl, refl, refl, (refl, refl, refl, (refl, refl, refl, (refl, refl, refl, (refl, refl, refl, p)))))))))))))))))

pub asked_sends : (g : Greeter) (x : End) → (after_calls false (asked_by g) x).backend ≡ record x.backend { unsent = x.backend.unsent ++ all_bytes (greeter.greeting g 0) }
asked_sends g x = plain_all false (asked_by g) x (asked_plain g) ∙ ap (λ (l : List Raw). let b : BackendView = record x.backend { unsent = x.backend.unsent ++ all_bytes l } in b) (asked_raws g)

pub name_is_short : (g : Greeter) → length g.name ≤ 1048555 → greeter.is_long g 0 ≡ false
name_is_short g le = le-ltb _ _ (name_fits 0 3 g.name le)
