-- The most pieces that the session of a client takes.
use Rattle.std.specs.Prelude.{◌≡◌, ◌≤◌, ℕ, List, slice_get, Some, None}
use Rattle.ei_serve.specs.declared.state.SessionState.{SessionState}
use Rattle.ei_serve.specs.Standing.{IsOver}
use Rattle.ei_hub.specs.declared.client.Client.{Client}

-- a session that goes on, takes so many pieces at most, and took no more
pub record IsWithin (limit : ℕ) (s : SessionState) : Type 0 where
  pub going : IsOver s → ⊥
  pub limit_is : s.start.terms.pieces ≡ limit
  pub few : s.taken ≤ limit

-- the session of each client that goes on is one of these
abbrev pub AreWithin : {S K : Type 0} → ℕ → List (Client S K) → Type 0
AreWithin {S = S} {K = K} limit clients = (k : ℕ) (c : Client S K) → slice_get clients k ≡ Some c → c.end ≡ None → IsWithin limit c.session
