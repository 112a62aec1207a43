-- What the handshake over pieces comes to, by how the reading of what came stops.
use Rattle.std.proofs.Common.{◌≡◌, ◌<◌, ℕ, zero, suc, ◌+◌, Bool, true, false, List, [], ◌∷◌, ◌++◌, length, refl, ap, sym, ◌∙◌, append_assoc, arith}
use Rattle.ei_spec.specs.Message.{Raw, Front, Short, Unlawful, Whole, front}
use Rattle.ei_spec.specs.Piece.{Piece}
use Rattle.ei_spec.specs.Stream.{Verdict, Accepted, Final, Refused, Stop, Waiting, Ended, HeaderLength, Refusal, Reading, reading, read}
use Rattle.ei_spec.proofs.FrontLaws.{shorter}
use Rattle.ei_spec.proofs.GoesOn.{read_short, read_unlawful, read_accepted, read_final, read_refused}
use Rattle.ei_backend.specs.Backend.{BackendView}
use Rattle.ei_greeting.specs.Shaking.{Greeter, Objects, Trouble, judge}
use Rattle.ei_greeting.specs.Opening.{Opening, UnexpectedEof, PieceLimit, reading_of, opens, at_stop, or_more, waited_at, refused_at, connected_at, overflown_at, overflows, with_piece}
use Rattle.ei_greeting.proofs.GoingOn.{goes_on}
use Rattle.ei_blocking.specs.Steps.{StopsAt}

-- ---- reading on only adds messages

module _ {E : Type 0} (judge : List Raw → Raw → Verdict E) where
  abbrev Grows : ℕ → Type 0
  Grows k = (past : List Raw) (bytes : List ℕ) → length bytes < k → (more : List Raw) × ((read judge past bytes).past ≡ more ++ past)

  grows_judged : (k : ℕ) → Grows k → (past : List Raw) (bytes : List ℕ) (m : Raw) (rest : List ℕ) (v : Verdict E) → front bytes ≡ Whole m rest → judge past m ≡ v → length bytes < suc k →
      (more : List Raw) × ((read judge past bytes).past ≡ more ++ past)
  grows_judged k next past bytes m rest Accepted e v lt =
      let less = shorter bytes m rest e in
      let h = next (m ∷ past) rest (omega arith) in
      (h.0 ++ (m ∷ []), ap (λ (r : Reading E). r.past) (read_accepted judge past bytes m rest e v) ∙ h.1 ∙ sym (append_assoc h.0 (m ∷ []) past))
  grows_judged k next past bytes m rest Final e v lt = (m ∷ [], ap (λ (r : Reading E). r.past) (read_final judge past bytes m rest e v))
  grows_judged k next past bytes m rest (Refused r) e v lt = ([], ap (λ (r : Reading E). r.past) (read_refused judge past bytes m rest r e v))

  grows_front : (k : ℕ) → Grows k → (past : List Raw) (bytes : List ℕ) (f : Front) → front bytes ≡ f → length bytes < suc k → (more : List Raw) × ((read judge past bytes).past ≡ more ++ past)
  grows_front k next past bytes Short e lt = ([], ap (λ (r : Reading E). r.past) (read_short judge past bytes e))
  grows_front k next past bytes (Unlawful n) e lt = ([], ap (λ (r : Reading E). r.past) (read_unlawful judge past bytes n e))
  grows_front k next past bytes (Whole m rest) e lt = grows_judged k next past bytes m rest (judge past m) e refl lt

  grows : (k : ℕ) → Grows k
  grows zero past bytes lt = absurd (omega arith)
  grows (suc k) past bytes lt = grows_front k (grows k) past bytes (front bytes) refl lt

  pub read_grows : (past : List Raw) (bytes : List ℕ) → (more : List Raw) × ((read judge past bytes).past ≡ more ++ past)
  read_grows past bytes = grows (suc (length bytes)) past bytes (omega arith)

-- ---- where the reading stops for good

module _ (g : Greeter) (objects : Objects) (c : BackendView) where
  -- how the reading stops is asked first
  pub record IsAtStop (taken n : ℕ) (pieces : List Piece) : Type 0 where
    pub waits : Opening
    pub is : opens g objects taken n c pieces ≡ at_stop objects taken c (reading_of g objects c) waits

  is_at_stop : (taken n : ℕ) (pieces : List Piece) → IsAtStop taken n pieces
  unfolding opens
  is_at_stop taken zero pieces = record { waits = _; is = refl }
  is_at_stop taken (suc n) [] = record { waits = _; is = refl }
  is_at_stop taken (suc n) (p ∷ ps) = record { waits = _; is = refl }

  pub opens_ended : (taken n : ℕ) (pieces : List Piece) (past : List Raw) (rest : List ℕ) → reading_of g objects c ≡ reading past rest Ended → opens g objects taken n c pieces ≡ connected_at objects taken c past rest
  opens_ended taken n pieces past rest e = let h = is_at_stop taken n pieces in h.is ∙ ap (λ (r : Reading Trouble). at_stop objects taken c r h.waits) e

  refused_so : (taken : ℕ) (waits : Opening) (past : List Raw) (rest : List ℕ) (stop : Stop Trouble) (trouble : Trouble) → StopsAt stop trouble →
      at_stop objects taken c (reading past rest stop) waits ≡ refused_at taken c past rest trouble
  refused_so taken waits past rest (HeaderLength k) trouble so = ap (refused_at taken c past rest) (sym so)
  refused_so taken waits past rest (Refusal e) trouble so = ap (refused_at taken c past rest) (sym so)
  refused_so taken waits past rest Waiting trouble so = absurd so
  refused_so taken waits past rest Ended trouble so = absurd so

  pub opens_refused : (taken n : ℕ) (pieces : List Piece) (past : List Raw) (rest : List ℕ) (stop : Stop Trouble) (trouble : Trouble) → reading_of g objects c ≡ reading past rest stop → StopsAt stop trouble →
      opens g objects taken n c pieces ≡ refused_at taken c past rest trouble
  opens_refused taken n pieces past rest stop trouble e so =
      let h = is_at_stop taken n pieces in
      h.is ∙ ap (λ (r : Reading Trouble). at_stop objects taken c r h.waits) e ∙ refused_so taken h.waits past rest stop trouble so

  -- ---- where it waits

  pub opens_limit : (taken : ℕ) (pieces : List Piece) (past : List Raw) (rest : List ℕ) → reading_of g objects c ≡ reading past rest Waiting → opens g objects taken zero c pieces ≡ waited_at taken c past rest PieceLimit
  unfolding opens
  opens_limit taken pieces past rest e = rw e refl

  pub opens_end : (taken n : ℕ) (past : List Raw) (rest : List ℕ) → reading_of g objects c ≡ reading past rest Waiting → opens g objects taken (suc n) c [] ≡ waited_at taken c past rest UnexpectedEof
  unfolding opens
  opens_end taken n past rest e = rw e refl

  pub opens_closed : (taken n : ℕ) (pieces : List Piece) (past : List Raw) (rest : List ℕ) → reading_of g objects c ≡ reading past rest Waiting → c.closed ≡ true →
      opens g objects taken (suc n) c pieces ≡ waited_at taken c past rest UnexpectedEof
  unfolding opens
  opens_closed taken n [] past rest e closed = rw e refl
  opens_closed taken n (p ∷ ps) past rest e closed = rw (e, closed) refl

  pub opens_overflown : (taken n : ℕ) (p : Piece) (ps : List Piece) (past : List Raw) (rest : List ℕ) → reading_of g objects c ≡ reading past rest Waiting → c.closed ≡ false → overflows c p ≡ true →
      opens g objects taken (suc n) c (p ∷ ps) ≡ overflown_at (taken + 1) c past rest
  unfolding opens
  opens_overflown taken n p ps past rest e closed over = rw (e, closed, over) refl

-- ---- the messages of what came are the first that are handled

module _ (g : Greeter) (objects : Objects) where
  stop_past : (taken : ℕ) (c : BackendView) (r : Reading Trouble) (waits : Opening) (s : Stop Trouble) → r.stop ≡ s → (s ≡ Waiting → (more : List Raw) × (waits.past ≡ more ++ r.past)) →
      (more : List Raw) × ((at_stop objects taken c r waits).past ≡ more ++ r.past)
  stop_past taken c r waits Waiting e h = let q = h refl in (q.0, rw e q.1)
  stop_past taken c r waits Ended e h = ([], rw e refl)
  stop_past taken c r waits (HeaderLength n) e h = ([], rw e refl)
  stop_past taken c r waits (Refusal t) e h = ([], rw e refl)

  more_past : (closed over : Bool) (taken : ℕ) (c : BackendView) (r : Reading Trouble) (next : Opening) → ((more : List Raw) × (next.past ≡ more ++ r.past)) →
      (more : List Raw) × ((or_more closed over taken c r next).past ≡ more ++ r.past)
  more_past true over taken c r next h = ([], refl)
  more_past false true taken c r next h = ([], refl)
  more_past false false taken c r next h = h

  -- reading goes on behind one piece more
  on_past : (c : BackendView) (p : Piece) → (reading_of g objects c).stop ≡ Waiting → (more : List Raw) × ((reading_of g objects (with_piece c p)).past ≡ more ++ (reading_of g objects c).past)
  on_past c p w =
      let h = read_grows (judge g objects (with_piece c p)) (reading_of g objects c).past ((reading_of g objects c).rest ++ p.bytes) in
      (h.0, ap (λ (r : Reading Trouble). r.past) (goes_on g objects c p w) ∙ h.1)

  pub opens_past : (taken n : ℕ) (c : BackendView) (pieces : List Piece) → (more : List Raw) × ((opens g objects taken n c pieces).past ≡ more ++ (reading_of g objects c).past)
  unfolding opens
  opens_past taken zero c pieces = stop_past taken c (reading_of g objects c) _ (reading_of g objects c).stop refl (λ w. ([], refl))
  opens_past taken (suc n) c [] = stop_past taken c (reading_of g objects c) _ (reading_of g objects c).stop refl (λ w. ([], refl))
  opens_past taken (suc n) c (p ∷ ps) = stop_past taken c (reading_of g objects c) _ (reading_of g objects c).stop refl
      (λ w. more_past c.closed (overflows c p) (taken) c (reading_of g objects c) (opens g objects (taken + 1) n (with_piece c p) ps)
      (let h = opens_past (taken + 1) n (with_piece c p) ps in let q = on_past c p w in
      (h.0 ++ q.0, h.1 ∙ ap (λ (l : List Raw). h.0 ++ l) q.1 ∙ sym (append_assoc h.0 q.0 (reading_of g objects c).past))))
