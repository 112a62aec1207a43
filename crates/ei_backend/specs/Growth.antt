-- How a table grows, and which ids its objects are given.
use Rattle.std.specs.Prelude.{◌≡◌, ℕ, ◌+◌, ◌<◌, ◌≤◌, Bool, ◌⊎◌, List, [], ◌∷◌, ◌++◌, Result, Ok, Err, nat_lt, if◌then◌else◌}
use Rattle.ei_spec.specs.Reading.{Fault}
use Rattle.ei_spec.specs.Interface.{Interface, ObjectView}
use Rattle.ei_backend.specs.Table.{TableView, accept, without, own_end, with_own, new_table, first_server_id}

-- what is done to a table
pub data Step : Type 0 where
  -- the next object of this end is made
  Makes : (interface : Interface) → (version : ℕ) → Step
  -- the peer announces an object
  Hears : (id : ℕ) → (interface : Interface) → (version : ℕ) → Step
  -- the object of an id is taken out
  Removes : (id : ℕ) → Step

-- the table where the peer's object was accepted, else the one before
abbrev pub table_after : TableView → Result (ObjectView × TableView) Fault → TableView
table_after t (Ok x) = x.1
table_after t (Err f) = t

-- the id that was accepted, if it was
abbrev pub id_after : Result (ObjectView × TableView) Fault → List ℕ
id_after (Ok x) = x.0.id ∷ []
id_after (Err f) = []

-- the table after a step, which stays where no own id is left or the peer's id isn't accepted
abbrev pub after_step : TableView → Step → TableView
after_step t (Makes interface version) = if nat_lt t.next_own (own_end t) then with_own t interface version else t
after_step t (Hears id interface version) = table_after t (accept t id interface version)
after_step t (Removes id) = without t id

-- the id that a step gives to an object, if there is one
abbrev pub step_ids : TableView → Step → List ℕ
step_ids t (Makes interface version) = if nat_lt t.next_own (own_end t) then t.next_own ∷ [] else []
step_ids t (Hears id interface version) = id_after (accept t id interface version)
step_ids t (Removes id) = []

-- the table after all of the steps
abbrev pub grown : TableView → List Step → TableView
grown t [] = t
grown t (s ∷ steps) = grown (after_step t s) steps

-- the ids that they give, in their order
abbrev pub ids_given : TableView → List Step → List ℕ
ids_given t [] = []
ids_given t (s ∷ steps) = step_ids t s ++ ids_given (after_step t s) steps

-- how many of the steps make an object of this end
abbrev pub made_by : List Step → ℕ
made_by [] = 0
made_by (Makes interface version ∷ steps) = made_by steps + 1
made_by (s ∷ steps) = made_by steps

-- a new endpoint gives its own ids from the first on, and its table stands so after the steps
abbrev pub table_grown : Bool → ℕ → List Step → TableView
table_grown client first steps = grown (new_table client first) steps

-- the ids of the peer begin here
abbrev pub peer_start : Bool → ℕ
peer_start client = if client then first_server_id else 1

-- an id is 0, or an own one that was given, or may have been given by the peer
abbrev pub IsKnownId : ℕ → TableView → ℕ → Type 0
IsKnownId first t id = (id ≡ 0) ⊎ ((first ≤ id) × (id < t.next_own)) ⊎ ((peer_start t.client ≤ id) × (id < t.next_peer))
