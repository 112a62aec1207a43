-- The interface of a name has that name, and so has the object that is announced by it.
use Rattle.std.proofs.Common.{◌≡◌, ℕ, Bool, true, false, cond, List, Option, Some, None, Result, Ok, Err, IfOk, refl, sym, ap, ◌∙◌}
use Rattle.ei_spec.specs.declared.interface.KnownInterface.{KnownInterface}
use Rattle.ei_spec.specs.Interface.{Interface, ObjectView, bytes_of, known_of, named, named_as}
use Rattle.ei_spec.specs.Reading.{Fault}
use Rattle.ei_spec.proofs.NameLaws.{called}
use Rattle.ei_wire.specs.declared.error.ParseError.{ParseError}
use Rattle.ei_wire.specs.Gives.{Gives}
use Rattle.ei_backend.specs.Table.{TableView, accept}

name_at : (n : List ℕ) (o : Option KnownInterface) → known_of n ≡ o → bytes_of (named_as n o) ≡ n
name_at n (Some k) is = sym (called n k is)
name_at n None is = refl

pub name_again : (n : List ℕ) → bytes_of (named n) ≡ n
name_again n = name_at n (known_of n) refl

announced_at : (b : Bool) (f : Fault) (x y : ObjectView × TableView) → cond b (Err f) (Ok x) ≡ Ok y → y.0 ≡ x.0
announced_at true f x y is = absurd cc
announced_at false f x y is = let same : x ≡ y = cc in ap (λ z. z.0) (sym same)

pub announced_name : {X : Type 0} (view : X → ObjectView) (r : Result X ParseError) (t u : TableView) (id version : ℕ) (i : Interface) (n : List ℕ) → Gives (λ o. (view o, u)) r (accept t id i version) → i ≡ named n → IfOk r (λ o. bytes_of (view o).interface ≡ n)
announced_name view (Ok o) t u id version i n is same =
    ap (λ o. bytes_of o.interface) (announced_at _ _ _ _ is) ∙ (ap bytes_of same ∙ name_again n)
announced_name view (Err e) t u id version i n is same = tt
