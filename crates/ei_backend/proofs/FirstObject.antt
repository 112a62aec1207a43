-- Object 0 stays that of the handshake.
use Rattle.std.proofs.Common.{◌≡◌, ◌≤◌, ℕ, zero, suc, Bool, false, cond, is_eq, Less, Option, Some, None, Bor, sym, ap, ◌∙◌, arith}
use Rattle.std.specs.Prelude.{IfSome}
use Rattle.std.specs.Option.{option_copied}
use Rattle.std.specs.Ordering.{nat_cmp, eq_by_cmp}
use Rattle.std.specs.Cmp.{nat_cmp_total, nat_cmp_is}
use Rattle.std.specs.FinMap.{FinMap, get, insert, remove, empty, get-insert, get-remove}
use Rattle.ei_spec.specs.Interface.{ObjectView}
use Rattle.ei_backend.specs.Table.{TableView, HasFirst, first_object, found}

abbrev table_of : FinMap nat_cmp ObjectView → ℕ → ℕ → Bool → ℕ → TableView
table_of m own peer client room = record { objects = m; next_own = own; next_peer = peer; client = client; room = room }

apart : (n : ℕ) → eq_by_cmp nat_cmp 0 (suc n) ≡ false
apart n = ap is_eq (sym (nat_cmp_is 0 (suc n) Less (omega arith)))

still_insert : (m : FinMap nat_cmp ObjectView) (id : ℕ) (o : ObjectView) → 1 ≤ id → get (insert m id o) 0 ≡ get m 0
still_insert m zero o le = absurd (omega arith)
still_insert m (suc n) o le = get-insert nat_cmp_total m (suc n) o 0 ∙ ap (λ b. cond b (Some o) (get m 0)) (apart n)

still_remove : (m : FinMap nat_cmp ObjectView) (id : ℕ) (o : ObjectView) → get (remove m id) 0 ≡ Some o → get m 0 ≡ Some o
still_remove m zero o e = let gone : get (remove m 0) 0 ≡ None = get-remove nat_cmp_total m 0 0 in cc
still_remove m (suc n) o e = sym (get-remove nat_cmp_total m (suc n) 0 ∙ ap (λ b. cond b None (get m 0)) (apart n)) ∙ e

-- an object that isn't of id 0 comes
pub first_kept : (m n : FinMap nat_cmp ObjectView) (id : ℕ) (o : ObjectView) (own peer own' peer' : ℕ) (client : Bool) (room room' : ℕ) → HasFirst (table_of m own peer client room) →
    n ≡ insert m id o → 1 ≤ id → 1 ≤ own' → 1 ≤ peer' → HasFirst (table_of n own' peer' client room')
first_kept m n id o own peer own' peer' client room room' h e le lo lp = record {
  first = λ x is. h.first x (sym (still_insert m id o le) ∙ (ap (λ (k : FinMap nat_cmp ObjectView). get k 0) (sym e) ∙ is));
  own = lo;
  peer = lp;
}

-- an object goes
pub first_left : (m n : FinMap nat_cmp ObjectView) (id : ℕ) (own peer : ℕ) (client : Bool) (room : ℕ) → HasFirst (table_of m own peer client room) →
    n ≡ remove m id → HasFirst (table_of n own peer client room)
first_left m n id own peer client room h e = record {
  first = λ x is. h.first x (still_remove m id x (ap (λ (k : FinMap nat_cmp ObjectView). get k 0) (sym e) ∙ is));
  own = h.own;
  peer = h.peer;
}

same_object : (x y : ObjectView) → Some x ≡ Some y → x ≡ y
same_object x y e = cc

-- a new table
pub first_there : (n : FinMap nat_cmp ObjectView) (own peer : ℕ) (client : Bool) (room : ℕ) → n ≡ insert empty 0 (first_object client) → 1 ≤ own → 1 ≤ peer → HasFirst (table_of n own peer client room)
first_there n own peer client room e lo lp =
    let there : get (insert empty 0 (first_object client)) 0 ≡ Some (first_object client) = get-insert nat_cmp_total empty 0 (first_object client) 0 in
    record { first = λ x is. same_object x (first_object client) (sym is ∙ (ap (λ (k : FinMap nat_cmp ObjectView). get k 0) e ∙ there)); own = lo; peer = lp }

-- what is found at id 0
pub first_found : (t : TableView) (id : ℕ) (r : Option (Bor ObjectView)) → HasFirst t → option_copied r ≡ found t id → id ≡ 0 → IfSome r (λ o. o.now ≡ first_object t.client)
first_found t id None h is first = tt
first_found t id (Some o) h is first = h.first o.now (ap (λ (k : ℕ). found t k) (sym first) ∙ sym is)
