-- What stands at a place of a list, and a client that has just joined.
use Rattle.std.proofs.Common.{◌≡◌, ◌<◌, ℕ, arith, zero, suc, ◌⊎◌, inl, inr, List, [], ◌∷◌, ◌++◌, length, get_or, Some, None, refl, ap, sym, subst, ◌∙◌}
use Rattle.std.specs.Prelude.{slice_get, slice_set, map}
use Rattle.std.proofs.lemmas.List.{append-nil}
use Rattle.ei_spec.specs.Message.{Raw}
use Rattle.ei_spec.specs.History.{each}
use Rattle.ei_spec.specs.Groups.{frames_made}
use Rattle.ei_session.specs.Setup.{Setup}
use Rattle.ei_session.specs.Requests.{Request, slot, framed}
use Rattle.ei_standing.specs.Standing.{request_in_code}
use Rattle.ei_serve.specs.Causes.{Greeted}
use Rattle.ei_serve.specs.Standing.{Stands}
use Rattle.ei_serve.specs.Serving.{Replied}
use Rattle.ei_serve.proofs.Running.{none_accepted}
use Rattle.ei_serve.proofs.Serves.{framed_none, greeted, no_frames}
use Rattle.ei_hub.specs.declared.client.Client.{Client}
use Rattle.ei_hub.specs.Alone.{ClientView, Start, IsAlone}
use Rattle.ei_hub.specs.Limit.{IsWithin, AreWithin}

-- ---- places

pub got : {A : Type 0} (xs : List A) (i : ℕ) (c d : A) → slice_get xs i ≡ Some c → get_or xs i d ≡ c
got [] i c d h = absurd cc
got (x ∷ xs) zero c d h = cc
got (x ∷ xs) (suc i) c d h = got xs i c d h

pub set_at : {A : Type 0} (xs : List A) (i : ℕ) (v c d : A) → slice_get xs i ≡ Some c → slice_get (slice_set xs i v) i ≡ Some d → v ≡ d
set_at [] i v c d h g = absurd cc
set_at (x ∷ xs) zero v c d h g = cc
set_at (x ∷ xs) (suc i) v c d h g = set_at xs i v c d h g

pub set_length : {A : Type 0} (xs : List A) (i : ℕ) (v : A) → length (slice_set xs i v) ≡ length xs
set_length [] i v = refl
set_length (x ∷ xs) zero v = refl
set_length (x ∷ xs) (suc i) v = ap (λ (n : ℕ). suc n) (set_length xs i v)

pub set_others : {A : Type 0} (xs : List A) (i : ℕ) (v : A) (k : ℕ) → (k ≡ i → ⊥) → slice_get (slice_set xs i v) k ≡ slice_get xs k
set_others [] i v k ne = refl
set_others (x ∷ xs) zero v zero ne = absurd (ne refl)
set_others (x ∷ xs) zero v (suc k) ne = refl
set_others (x ∷ xs) (suc i) v zero ne = refl
set_others (x ∷ xs) (suc i) v (suc k) ne = set_others xs i v k (λ e. ne (ap (λ (n : ℕ). suc n) e))

last_at : {A : Type 0} (xs : List A) (x c : A) → slice_get (xs ++ x ∷ []) (length xs) ≡ Some c → x ≡ c
last_at [] x c h = cc
last_at (y ∷ xs) x c h = last_at xs x c h

before_last : {A : Type 0} (xs : List A) (x : A) (k : ℕ) → k < length xs → slice_get (xs ++ x ∷ []) k ≡ slice_get xs k
before_last [] x k lt = absurd (omega (arith, lt))
before_last (y ∷ xs) x zero lt = refl
before_last (y ∷ xs) x (suc k) lt = before_last xs x k (omega (arith, lt))

pub pushed_at : {A : Type 0} (new xs old : List A) (x c : A) (n : ℕ) → new ≡ xs ++ x ∷ [] → xs ≡ old → n ≡ length old → slice_get new n ≡ Some c → x ≡ c
pushed_at new xs old x c n e f m h =
    let at : slice_get (xs ++ x ∷ []) (length xs) ≡ Some c = rw (← e, f, ← m) h in
    last_at xs x c at

pub there : {A : Type 0} (xs : List A) (k : ℕ) → k < length xs → (x : A) × (slice_get xs k ≡ Some x)
there [] k lt = absurd (omega (arith, lt))
there (x ∷ xs) zero lt = (x, refl)
there (x ∷ xs) (suc k) lt = there xs k (omega (arith, lt))

pub within : {A : Type 0} (xs : List A) (k : ℕ) (x : A) → slice_get xs k ≡ Some x → k < length xs
within [] k x at = absurd cc
within (y ∷ xs) zero x at = omega arith
within (y ∷ xs) (suc k) x at = omega (arith, within xs k x at)

-- those before one that was pushed
pub pushed_others : {A : Type 0} (new xs old : List A) (x : A) → new ≡ xs ++ x ∷ [] → xs ≡ old → (k : ℕ) → k < length old → slice_get new k ≡ slice_get old k
pushed_others new xs old x e f k lt = rw (e, f) (before_last old x k lt)

-- ---- the sessions that go on

in_pushed : {A : Type 0} (xs : List A) (x c : A) (k : ℕ) → slice_get (xs ++ x ∷ []) k ≡ Some c → (slice_get xs k ≡ Some c) ⊎ (x ≡ c)
in_pushed [] x c zero h = inr cc
in_pushed [] x c (suc k) h = absurd cc
in_pushed (y ∷ xs) x c zero h = inl h
in_pushed (y ∷ xs) x c (suc k) h = in_pushed xs x c k h

in_set : {A : Type 0} (xs : List A) (i : ℕ) (v c : A) (k : ℕ) → slice_get (slice_set xs i v) k ≡ Some c → (slice_get xs k ≡ Some c) ⊎ (v ≡ c)
in_set [] i v c k h = absurd cc
in_set (x ∷ xs) zero v c zero h = inr cc
in_set (x ∷ xs) zero v c (suc k) h = inl h
in_set (x ∷ xs) (suc i) v c zero h = inl h
in_set (x ∷ xs) (suc i) v c (suc k) h = in_set xs i v c k h

module _ {S K : Type 0} (limit : ℕ) where
  either : (xs : List (Client S K)) (v c : Client S K) (k : ℕ) → AreWithin limit xs → (v.end ≡ None → IsWithin limit v.session) → c.end ≡ None → (slice_get xs k ≡ Some c) ⊎ (v ≡ c) → IsWithin limit c.session
  either xs v c k all here none (inl old) = all k c old none
  either xs v c k all here none (inr same) = subst (λ (d : Client S K). d.end ≡ None → IsWithin limit d.session) same here none

  -- one client more
  pub within_pushed : (new xs old : List (Client S K)) (v : Client S K) → new ≡ xs ++ v ∷ [] → xs ≡ old → AreWithin limit old → (v.end ≡ None → IsWithin limit v.session) → AreWithin limit new
  within_pushed new xs old v e f all here k c at none =
      let place : slice_get (old ++ v ∷ []) k ≡ Some c = rw (← f, ← e) at in
      either old v c k all here none (in_pushed old v c k place)

  -- a client changed
  pub within_set : (xs : List (Client S K)) (i : ℕ) (v : Client S K) → AreWithin limit xs → (v.end ≡ None → IsWithin limit v.session) → AreWithin limit (slice_set xs i v)
  within_set xs i v all here k c at none = either xs v c k all here none (in_set xs i v c k at)

-- no client is there
pub within_none : {S K : Type 0} (limit : ℕ) (clients : List (Client S K)) → clients ≡ [] → AreWithin limit clients
within_none limit [] none k c at on = absurd cc
within_none limit (d ∷ clients) none k c at on = absurd cc

-- ---- a client that has just joined

pub starts_alone : (setup : Setup) (start : Start) (v : ClientView) → v.answer ≡ None → Stands setup [] [] v.session → v.source.given ≡ start.given → v.requests ≡ [] →
    Greeted start.sink v.sink → IsAlone setup start [] [] v
starts_alone setup start v none stands given requests greets = record {
  goes_on = none;
  stands = stands;
  given = given ∙ sym (append-nil start.given);
  requests = requests ∙ sym (ap (λ (m : List Raw). map (request_in_code m) (framed setup [] m)) (none_accepted setup) ∙ ap (λ (l : List Request). map (request_in_code []) l) (framed_none setup []));
  replies = subst (λ (m : List Raw). Replied setup m start.sink v.sink) (sym (none_accepted setup)) (greeted setup start.sink v.sink greets);
  frames = sym (ap (λ (m : List Raw). frames_made (each (slot setup) m)) (none_accepted setup) ∙ no_frames setup);
}
