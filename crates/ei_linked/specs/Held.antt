-- An end by what holds its endpoint, with what the end sent and took. Lists have the newest first.
use Rattle.std.specs.Prelude.{◌≡◌, List, refl}
use Rattle.std.specs.Coded.{Coded, code_by, coded×, coded_list}
use Rattle.ei_backend.specs.Backend.{BackendView}
use Rattle.ei_linked.specs.contracts.record.Record as record_type
use Rattle.ei_linked.specs.declared.record.Record.{Record}
use Rattle.ei_linked.specs.contracts.record.Got as got_type
use Rattle.ei_linked.specs.declared.record.Got.{Got as StoredGot}
use Rattle.ei_linked.specs.Stored.{StoredEnd}

-- what holds the endpoint, and what was sent and taken
pub record Held (C : Type 0) : Type 0 where
  pub context : C
  pub sent : List Record
  pub taken : List StoredGot

abbrev pub held_code : {C : Type 0} → Coded C → Coded (Held C)
held_code {C} code = code_by (C × (List Record × List StoredGot)) (coded× code (coded× (coded_list record_type.the_row.coded) (coded_list got_type.the_row.coded)))
    (λ h. (h.context, (h.sent, h.taken))) (λ p. record { context = p.0; sent = p.1.0; taken = p.1.1 }) (λ _. refl)

-- the end, by its endpoint alone
abbrev pub stored_by : {C : Type 0} → (C → BackendView) → Held C → StoredEnd
stored_by seen h = record { backend = seen h.context; sent = h.sent; taken = h.taken }

-- the same end, of which the endpoint, and what was sent and taken, are these
abbrev pub held_with : {C : Type 0} → (C → BackendView → C) → Held C → StoredEnd → Held C
held_with with h x = record { context = with h.context x.backend; sent = x.sent; taken = x.taken }

-- what holds the endpoint is as before but for that
abbrev pub Keeps : {C : Type 0} → (C → BackendView) → (C → BackendView → C) → Held C → Held C → Type 0
Keeps seen with old new = new.context ≡ with old.context (seen new.context)
