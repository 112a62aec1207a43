-- What is computed over the list of all interfaces, or over all rows of the table, is so of every one.
use Rattle.std.proofs.Common.{◌≡◌, ℕ, ◌+◌, Bool, true, false, cond, eqb, List, [], ◌∷◌, Some, refl, sym, ap, ◌∙◌}
use Rattle.std.specs.List.{list_all, Contains}
use Rattle.std.proofs.lemmas.Bool.{eqb-true, leb-true, and_parts}
use Rattle.std.proofs.lemmas.List.Elements.{All-contains}
use Rattle.std.proofs.lemmas.List.Sums.{AllPass-from_list_all}
use Rattle.std.proofs.lemmas.Option.{same_Some}
use Rattle.ei_spec.specs.declared.interface.KnownInterface.{KnownInterface}
use Rattle.ei_spec.specs.declared.interface.KnownInterface.TheVariants as known
use Rattle.ei_spec.specs.declared.limits.TheConstants.{INTERFACES}
use Rattle.ei_spec.specs.Interface.{place_of, the_interfaces}
use Rattle.ei_spec.specs.Rows.{Row, row_at}
use Rattle.ei_spec.specs.Table.{table}

pub interfaces : (interface : KnownInterface) → Contains the_interfaces interface
interfaces known.Handshake = (0, leb-true 1 INTERFACES refl, refl)
interfaces interface = (place_of interface, leb-true (1 + place_of interface) INTERFACES refl, refl)

pub of_each : (p : KnownInterface → Bool) → list_all p the_interfaces ≡ true → (interface : KnownInterface) → p interface ≡ true
of_each p h interface = All-contains (λ (i : KnownInterface). p i ≡ true) the_interfaces interface (AllPass-from_list_all p the_interfaces h) (interfaces interface)

-- ---- rows

-- whether each row of one end's messages to an interface passes
abbrev pub each_row : (KnownInterface → ℕ → Row → Bool) → Bool → KnownInterface → Bool
each_row p events k = list_all (λ (x : ℕ × Row). p k x.0 x.1) (table events k)

module _ (p : ℕ → Row → Bool) where
  at_head : (b : Bool) (n : ℕ) (x : ℕ × Row) (xs : List (ℕ × Row)) (r : Row) → eqb n x.0 ≡ b → p x.0 x.1 ≡ true → (row_at n xs ≡ Some r → p n r ≡ true) → cond b (Some x.1) (row_at n xs) ≡ Some r → p n r ≡ true
  at_head true n x xs r same h rest e =
      let opcode : n ≡ x.0 = eqb-true n x.0 same in
      let row : x.1 ≡ r = same_Some x.1 r e in
      ap (λ (k : ℕ). p k r) opcode ∙ ap (λ (q : Row). p x.0 q) (sym row) ∙ h
  at_head false n x xs r same h rest e = rest e

  of_rows : (n : ℕ) (rows : List (ℕ × Row)) (r : Row) → list_all (λ (x : ℕ × Row). p x.0 x.1) rows ≡ true → row_at n rows ≡ Some r → p n r ≡ true
  of_rows n [] r h e = absurd cc
  of_rows n (x ∷ xs) r h e =
      let parts = and_parts (p x.0 x.1) (list_all (λ (y : ℕ × Row). p y.0 y.1) xs) h in
      at_head (eqb n x.0) n x xs r refl parts.0 (of_rows n xs r parts.1) e

pub of_each_row : (p : KnownInterface → ℕ → Row → Bool) (events : Bool) → list_all (each_row p events) the_interfaces ≡ true → (k : KnownInterface) (n : ℕ) (r : Row) → row_at n (table events k) ≡ Some r → p k n r ≡ true
of_each_row p events h k n r e = of_rows (p k) n (table events k) r (of_each (each_row p events) h k) e
