-- Objects are equal to `==` exactly where they are the same.
use Rattle.std.proofs.Common.{◌≡◌, ℕ, Bool, true, false, ◌&&◌, List, nat_eq, refl, ap, sym, ◌∙◌}
use Rattle.std.specs.Bool.{Decides}
use Rattle.std.specs.Cmp.{booleans_Decides, unsigned_Decides}
use Rattle.std.specs.Cmp.Lexicographic.{pointwise, pointwise_decides}
use Rattle.ei_spec.specs.declared.interface.KnownInterface.{KnownInterface}
use Rattle.ei_spec.specs.Interface.{Interface, Known, Other, ObjectView, name_of, known_of}
use Rattle.ei_wire.proofs.InterfaceNames.{named}
use Rattle.ei_backend.specs.Object.{same_name, same_name_equiv, same_object, same_object_equiv}

both : (a b : Bool) → (a && b) ≡ true → (a ≡ true) × (b ≡ true)
both true true e = (refl, refl)
both true false e = absurd cc
both false b e = absurd cc

one_name : (j k : KnownInterface) → name_of j ≡ name_of k → j ≡ k
one_name j k e = let f = named j in let g = named k in let h = ap known_of e in cc

same_bytes : (xs ys : List ℕ) → pointwise nat_eq xs ys ≡ true → xs ≡ ys
same_bytes xs ys = (pointwise_decides unsigned_Decides xs ys).0

pub one_interface : (i j : Interface) → same_name i j ≡ true → i ≡ j
one_interface (Known j) (Known k) e = ap Known (one_name j k (same_bytes _ _ (both (pointwise nat_eq (name_of j) (name_of k)) true e).0))
one_interface (Known j) (Other n) e = absurd (let h = (both (pointwise nat_eq (name_of j) n) false e).1 in cc)
one_interface (Other m) (Known k) e = absurd (let h = (both (pointwise nat_eq m (name_of k)) false e).1 in cc)
one_interface (Other m) (Other n) e = ap Other (same_bytes _ _ (both (pointwise nat_eq m n) true e).0)

pub one_object : (o p : ObjectView) → same_object o p ≡ true → o ≡ p
one_object o p e =
    let halves = both _ _ e in
    let front = both _ _ halves.0 in
    let back = both _ _ halves.1 in
    let ids : o.id ≡ p.id = (unsigned_Decides o.id p.id).0 front.0 in
    let names : o.interface ≡ p.interface = one_interface o.interface p.interface front.1 in
    let versions : o.version ≡ p.version = (unsigned_Decides o.version p.version).0 back.0 in
    let sides : o.client_side ≡ p.client_side = (booleans_Decides o.client_side p.client_side).0 back.1 in
    λ i. record { id = ids i; interface = names i; version = versions i; client_side = sides i }

pub same_where_one : (o p : ObjectView) → o ≡ p → same_object o p ≡ true
same_where_one o p e = ap (same_object o) (sym e) ∙ same_object_equiv.refl o

pub decides : (o p : ObjectView) → Decides (same_object o p) (o ≡ p)
decides o p = (one_object o p, same_where_one o p)

pub decides_name : (i j : Interface) → Decides (same_name i j) (i ≡ j)
decides_name i j = (one_interface i j, λ e. ap (same_name i) (sym e) ∙ same_name_equiv.refl i)
