-- What all requests give and are answered by, message by message; and how a loop over pieces ends.
use Rattle.std.proofs.Common.{◌≡◌, ℕ, ◌<◌, ◌≤◌, true, false, List, [], ◌∷◌, ◌++◌, length, refl, ap, ◌∙◌, arith}
use Rattle.ei_spec.specs.Message.{Raw}
use Rattle.ei_spec.specs.Piece.{Piece}
use Rattle.ei_spec.specs.History.{each}
use Rattle.ei_spec.specs.Groups.{frames_made, gives, grouped}
use Rattle.ei_spec.proofs.HistoryLaws.{joined_more, joined_prefix, each_more}
use Rattle.ei_spec.proofs.GroupsLaws.{grouped_more, grouped_prefix, grouped_readings}
use Rattle.ei_session.specs.Setup.{Setup}
use Rattle.ei_session.specs.Requests.{Request, framed, slot}
use Rattle.ei_session.specs.Replies.{greeting}
use Rattle.ei_session.specs.Events.{reply, replies}
use Rattle.ei_session.specs.Served.{session, over_at, is_over, read_first, at_end}
use Rattle.ei_session.proofs.Least.{least_none, least_some}

pub framed_more : (setup : Setup) (readings : List ℕ) (before : List Raw) (m : Raw) →
    framed setup readings (m ∷ before) ≡ framed setup readings before ++ gives readings (each (slot setup) before) (slot setup before m)
unfolding framed
framed_more setup readings before m = ap (grouped readings) (each_more (slot setup) before m) ∙ grouped_more readings (each (slot setup) before) (slot setup before m)

pub replies_more : (setup : Setup) (before : List Raw) (m : Raw) → replies setup (m ∷ before) ≡ replies setup before ++ reply setup before m
unfolding replies
replies_more setup before m = ap (λ (x : List Raw). greeting ∷ x) (joined_more (reply setup) before m)

-- the slots of a longer list are more slots before those of the shorter one
each_longer : (setup : Setup) (more before : List Raw) → (rest : List _) × (each (slot setup) (more ++ before) ≡ rest ++ each (slot setup) before)
each_longer setup [] before = ([], refl)
each_longer setup (m ∷ more) before =
    let h = each_longer setup more before in
    (slot setup (more ++ before) m ∷ h.0, each_more (slot setup) (more ++ before) m ∙ ap (λ (x : List _). slot setup (more ++ before) m ∷ x) h.1)

pub framed_prefix : (setup : Setup) (readings : List ℕ) (more before : List Raw) → (rest : List Request) × (framed setup readings (more ++ before) ≡ framed setup readings before ++ rest)
unfolding framed
framed_prefix setup readings more before =
    let h = each_longer setup more before in
    let g = grouped_prefix readings h.0 (each (slot setup) before) in
    (g.0, ap (grouped readings) h.1 ∙ g.1)

pub replies_prefix : (setup : Setup) (more before : List Raw) → (rest : List Raw) × (replies setup (more ++ before) ≡ replies setup before ++ rest)
unfolding replies
replies_prefix setup more before =
    let h = joined_prefix (reply setup) more before in
    (h.0, ap (λ (x : List Raw). greeting ∷ x) h.1)

-- later readings of the clock leave what was given
pub framed_readings : (setup : Setup) (readings later : List ℕ) (before : List Raw) → frames_made (each (slot setup) before) ≤ length readings → framed setup (readings ++ later) before ≡ framed setup readings before
unfolding framed
framed_readings setup readings later before le = grouped_readings readings later (each (slot setup) before) le

-- ---- over pieces

module _ (setup : Setup) (pieces : List Piece) where
  pub session_over : (m : ℕ) → 1 ≤ m → m ≤ length pieces → ((j : ℕ) → 1 ≤ j → j < m → is_over setup pieces j ≡ false) → is_over setup pieces m ≡ true → session setup pieces ≡ over_at setup pieces m
  unfolding session
  session_over m low high h passes = rw (least_some (is_over setup pieces) 1 (length pieces) m low (omega arith) h passes, session) refl

  pub session_end : ((j : ℕ) → 1 ≤ j → j ≤ length pieces → is_over setup pieces j ≡ false) → session setup pieces ≡ at_end (read_first setup pieces (length pieces)).past
  unfolding session
  session_end h = rw (least_none (is_over setup pieces) 1 (length pieces) (λ j a b. h j a (omega arith)), session) refl
