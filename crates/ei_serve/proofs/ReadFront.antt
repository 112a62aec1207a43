-- What an endpoint reads of a whole message is what the definitions read of it, and a fault is why the session refuses it.
use Rattle.std.proofs.Common.{◌≡◌, ℕ, ◌+◌, Bool, true, false, cond, not, ◌&&◌, ◌||◌, eqb, ltb, leb, List, [], ◌∷◌, length, Option, Some, None, Result}
use Rattle.std.proofs.Common.{Ok, Err, refl, sym, ap, subst, arith, inl, inr}
use Rattle.std.specs.Prelude.{MatchOption, MatchResult}
use Rattle.std.proofs.lemmas.Bool.{cases_lt}
use Rattle.std.proofs.lemmas.Bool.Decides.{nat_tests}
use Rattle.ei_spec.specs.declared.handle.Handle.{Handle}
use Rattle.ei_spec.specs.declared.interface.KnownInterface.{KnownInterface}
use Rattle.ei_spec.specs.Value.{Value}
use Rattle.ei_spec.specs.Interface.{Interface, Known, ObjectView, short_of}
use Rattle.ei_spec.specs.Reading.{Fault, InvalidId, MessageLength, Unread, ArgumentStop, ◌then◌, stopping, all_at}
use Rattle.ei_spec.specs.Rows.{Row, Announces, Nothing, Fixed, Named, row_at, new_id}
use Rattle.ei_spec.specs.Table.{table}
use Rattle.ei_spec.specs.Message.{Raw, size}
use Rattle.ei_spec.proofs.Faults.{IsNoHeader, StopsNoHeader, all_no_header}
use Rattle.ei_spec.proofs.Handleless.{AreNoHandles}
use Rattle.ei_spec.proofs.QuietRows.{takes_no_handle}
use Rattle.ei_backend.specs.Table.{TableView, accept, peer_end}
use Rattle.ei_backend.specs.Message.{Parsed, announce, with_new, some_row}
use Rattle.ei_backend.specs.Backend.{BodyOutcome, outcome, body_read}
use Rattle.ei_session.specs.Setup.{Setup, connection_id}
use Rattle.ei_session.specs.Arguments.{whole, body_of, row_args, request_args}
use Rattle.ei_session.specs.Asked.{first}
use Rattle.ei_session.specs.NextIds.{next_peer}
use Rattle.ei_session.specs.Objects.{Entry, object}
use Rattle.ei_session.specs.Touches.{input}
use Rattle.ei_session.specs.Refusals.{Refusal, Parse, Arguments, arguments, no_row, stuck, announced_by, announced_id, bad_id, left_over, refusal}
use Rattle.ei_session.specs.Refusals.{bad_handshake, bad_sync, bad_capabilities, bad_touch, bad_text}
use Rattle.ei_session.proofs.NextLaws.{bad_id_by}
use Rattle.ei_session.proofs.RefusalLaws.{refused_known}
use Rattle.ei_serve.proofs.NoHandles.{KeepsTaken, all_keeps, SameArgs, all_same}

-- ---- no request takes a handle

abbrev pub IsHandleless : Option Row → Type 0
IsHandleless o = MatchOption o (Unit {0}) (λ r. AreNoHandles r.kinds)

rows_at : (interface : KnownInterface) (opcode : ℕ) (o : Option Row) → row_at opcode (table false interface) ≡ o → IsHandleless o
rows_at interface opcode None e = tt
rows_at interface opcode (Some r) e = takes_no_handle interface opcode r e

pub rows : (interface : KnownInterface) (opcode : ℕ) → IsHandleless (row_at opcode (table false interface))
rows interface opcode = rows_at interface opcode (row_at opcode (table false interface)) refl

-- ---- the id that a message announces

turned : (a b id : ℕ) → (ltb id a || leb b id) ≡ not (leb a id && ltb id b)
turned a b id =
    elim (cases_lt id a) [
      | inl low ↦
          let p : ltb id a ≡ true = grind (arith, nat_tests, low) in
          let q : leb a id ≡ false = grind (arith, nat_tests, low) in
          rw (p, q) refl
      | inr high ↦
          let p : ltb id a ≡ false = grind (arith, nat_tests, high) in
          let q : leb a id ≡ true = grind (arith, nat_tests, high) in
          rw (p, q) (elim (cases_lt id b) [
            | inl below ↦
                let r : leb b id ≡ false = grind (arith, nat_tests, below) in
                let s : ltb id b ≡ true = grind (arith, nat_tests, below) in
                rw (r, s) refl
            | inr above ↦
                let r : leb b id ≡ true = grind (arith, nat_tests, above) in
                let s : ltb id b ≡ false = grind (arith, nat_tests, above) in
                rw (r, s) refl
          ])
    ]

-- what was announced is in the table, or the fault is this refusal
abbrev Agrees : Result TableView Fault → Option Refusal → Type 0
Agrees u g = MatchResult u (λ _. g ≡ None) (λ f. (g ≡ Some (Parse f)) × IsNoHeader f)

by_test : (b : Bool) (id : ℕ) (x : ObjectView × TableView) → Agrees (with_new (cond (not b) (Err (InvalidId id)) (Ok x))) (cond b None (Some (Parse (InvalidId id))))
by_test true id x = refl
by_test false id x = (refl, tt)

-- where an outcome is a message, these are its arguments, and no handle is taken; where it is a fault, it is this refusal
abbrev pub IsExact : Option Refusal → Option (List Value) → BodyOutcome → Type 0
IsExact refusal args o = MatchResult o.said (λ values. (args ≡ Some values) × (o.taken ≡ 0)) (λ f. (refusal ≡ Some (Parse f)) × IsNoHeader f)

ends_exactly : (b : Bool) (values : List Value) (a n taken : ℕ) (u : TableView) (more : List (Option Refusal)) → taken ≡ 0 →
    IsExact (first (cond b None (Some (Parse (MessageLength a n))) ∷ more)) (cond b (Some values) None) (record { said = cond b (Ok values) (Err (MessageLength a n)); table = u; taken = taken })
ends_exactly true values a n taken u more z = (refl, z)
ends_exactly false values a n taken u more z = (refl, tt)

abbrev too_long : Raw → List ℕ → Option Refusal
too_long m bytes = cond (eqb (length bytes) 0) None (Some (Parse (MessageLength (size m + length bytes) (size m))))

abbrev announced_in : List Value → Unread → Result TableView Fault → Result Parsed ArgumentStop
announced_in values s u = stopping s.taken u then λ w. Ok (record { values = values; table = w; unread = s })

made_exactly : (m : Raw) (t : TableView) (values : List Value) (s : Unread) (more : List (Option Refusal)) (u : Result TableView Fault) (g : Option Refusal) → Agrees u g → s.taken ≡ 0 →
    IsExact (first (g ∷ too_long m s.bytes ∷ more)) (cond (eqb (length s.bytes) 0) (Some values) None) (outcome (size m) t (announced_in values s u))
made_exactly m t values s more (Ok w) g a z =
    subst (λ (x : Option Refusal). IsExact (first (x ∷ too_long m s.bytes ∷ more)) (cond (eqb (length s.bytes) 0) (Some values) None) (outcome (size m) t (announced_in values s (Ok w)))) (sym a)
    (ends_exactly (eqb (length s.bytes) 0) values (size m + length s.bytes) (size m) s.taken w more z)
made_exactly m t values s more (Err f) g a z = (ap (λ (x : Option Refusal). first (x ∷ too_long m s.bytes ∷ more)) a.0, a.1)

module _ (past : List Raw) (t : TableView) (server : t.client ≡ false) (peer : t.next_peer ≡ next_peer past) where
  same_test : (id : ℕ) → (ltb id t.next_peer || leb (peer_end t) id) ≡ not (leb (next_peer past) id && ltb id connection_id)
  same_test id = rw (server, peer) (turned (next_peer past) connection_id id)

  accepted : (id : ℕ) (interface : Interface) (version : ℕ) → Agrees (with_new (accept t id interface version)) (bad_id past (Some id))
  accepted id interface version = rw (same_test id, bad_id_by past id) (by_test (leb (next_peer past) id && ltb id connection_id) id _)

  announces_so : (a : Announces) (r : Row) (values : List Value) → Agrees (announce a r.kinds values t) (bad_id past (announced_by a values r))
  announces_so Nothing r values = refl
  announces_so (Fixed k) r values = accepted (new_id r.kinds values) (Known k) _
  announces_so Named r values = accepted (new_id r.kinds values) _ _

  abbrev first_four : KnownInterface → Raw → Option Row → Arguments → List (Option Refusal) → Option Refusal
  first_four interface m o a more = first (no_row interface m o ∷ stuck a ∷ bad_id past (announced_id o a) ∷ left_over m a ∷ more)

  row_exactly : (interface : KnownInterface) (m : Raw) (r : Row) (more : List (Option Refusal)) (a b : Result (List Value × Unread) ArgumentStop) → SameArgs a b → KeepsTaken {A = List Value} 0 a → StopsNoHeader a →
      IsExact (first_four interface m (Some r) b more) (whole b) (outcome (size m) t (a then λ x. announced_in x.0 x.1 (announce r.announces r.kinds x.0 t)))
  unfolding whole
  row_exactly interface m r more (Ok x) (Ok y) e k n =
      let at = λ (v : List Value) (bytes : List ℕ). IsExact (first (bad_id past (announced_by r.announces v r) ∷ too_long m bytes ∷ more)) (cond (eqb (length bytes) 0) (Some v) None)
      (outcome (size m) t (announced_in x.0 x.1 (announce r.announces r.kinds x.0 t))) in
      subst (λ (v : List Value). at v y.1.bytes) e.0 (subst (λ (bytes : List ℕ). at x.0 bytes) e.1
      (made_exactly m t x.0 x.1 more (announce r.announces r.kinds x.0 t) (bad_id past (announced_by r.announces x.0 r)) (announces_so r.announces r x.0) k))
  row_exactly interface m r more (Ok x) (Err f) e k n = absurd e
  row_exactly interface m r more (Err f) (Ok y) e k n = absurd e
  row_exactly interface m r more (Err f) (Err g) e k n = (ap (λ (x : Fault). Some (Parse x)) (sym e), n)

  some_exactly : (interface : KnownInterface) (o : Option Row) (m : Raw) (handles : List Handle) (more : List (Option Refusal)) → IsHandleless o →
      IsExact (first_four interface m o (arguments o m) more) (row_args o m) (outcome (size m) t (some_row o (short_of interface) m.opcode (record { bytes = m.body; handles = handles; taken = 0 }) t))
  unfolding row_args
  some_exactly interface None m handles more p = (refl, tt)
  some_exactly interface (Some r) m handles more p =
      let s : Unread = record { bytes = m.body; handles = handles; taken = 0 } in
      row_exactly interface m r more (all_at r.kinds s) (all_at r.kinds (body_of m)) (all_same r.kinds s (body_of m) p refl) (all_keeps r.kinds s 0 p refl) (all_no_header r.kinds s)

  -- what a whole message says to an object that is there
  pub exactly : (setup : Setup) (m : Raw) (e : Entry) (target : ObjectView) (handles : List Handle) → object past m.id ≡ Some e → target.interface ≡ Known e.interface →
      IsExact (refusal setup past m) (request_args e.interface m) (body_read false target m.opcode m.body handles t)
  unfolding request_args
  exactly setup m e target handles k i =
      rw (i, refused_known setup past m e k)
      (some_exactly e.interface (row_at m.opcode (table false e.interface)) m handles
      (bad_handshake past m e.interface ∷ bad_sync m e.interface ∷ bad_capabilities setup.capabilities m e.interface ∷ bad_touch past e.version (input past m) ∷ bad_text m e.interface ∷ [])
      (rows e.interface m.opcode))
