-- Two new ends are tied.
use Rattle.std.proofs.Common.{◌≡◌, ℕ, Bool, true, false, inl, inr, [], refl, ◌∙◌, arith}
use Rattle.std.specs.FinMap.{empty, get-empty}
use Rattle.std.specs.Ordering.{nat_cmp}
use Rattle.std.proofs.lemmas.Bool.Decides.{eqb_tells}
use Rattle.ei_backend.specs.Table.{found, new_table, first_object, own_start}
use Rattle.ei_backend.proofs.Objects.{get_with}
use Rattle.ei_ends.specs.Sent.{other}
use Rattle.ei_ends.specs.Announced.{announced, destroyed, next_own}
use Rattle.ei_ends.specs.Agree.{handles_sent, handles_got, Agree, AreTimes}
use Rattle.ei_ends.specs.Way.{gone, AllSent, alive, needed, Way, Cut, Tied}
use Rattle.ei_ends.specs.Steps.{no_piece}
use Rattle.ei_ends.specs.Joined.{new_end}

-- nothing was sent
abbrev pub new_cut : Cut
new_cut = record { past = []; flight = []; rest = no_piece }

start_objects : (client : Bool) (id : ℕ) → found (new_table client (own_start client)) id ≡ alive client [] [] [] id
unfolding destroyed gone announced
start_objects client id = get_with empty 0 id (first_object client) ∙ elim (eqb_tells id 0) [
  | inl p ↦ rw p.0 refl
  | inr p ↦ rw p.0 (get-empty nat_cmp id)
]

start_way : (events : Bool) → Way events [] no_piece no_piece [] (new_end events).backend [] [] [] no_piece
unfolding Agree AreTimes handles_sent handles_got next_own needed
start_way true = record {
  sent_is = refl;
  agree = tt;
  times = tt;
  flows = record { bytes = refl; handles = refl; open_bytes = λ c. refl; open_handles = λ c. refl; in_time = omega arith; in_time_waiting = λ c. omega arith };
  objects = record { client_is = refl; objects = start_objects true; next = refl; ends = omega arith; peer = omega arith };
}
start_way false = record {
  sent_is = refl;
  agree = tt;
  times = tt;
  flows = record { bytes = refl; handles = refl; open_bytes = λ c. refl; open_handles = λ c. refl; in_time = omega arith; in_time_waiting = λ c. omega arith };
  objects = record { client_is = refl; objects = start_objects false; next = refl; ends = omega arith; peer = omega arith };
}

pub start : (events : Bool) → Tied events (new_end (other events)) (new_end events) no_piece no_piece new_cut new_cut
unfolding AllSent
start true = record { there = start_way true; back = start_way false; says = tt; answers = tt }
start false = record { there = start_way false; back = start_way true; says = tt; answers = tt }
