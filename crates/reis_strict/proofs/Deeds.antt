-- What a deed does to what is kept of a device, by its words of the history.
use Rattle.std.proofs.Common.{◌≡◌, ℕ, Bool, true, false, cond, not, eqb, ◌||◌, ◌&&◌, refl, ap, ◌∙◌, arith}
use Rattle.std.specs.Ordering.{nat_cmp, eq_by_cmp}
use Rattle.std.specs.Cmp.{nat_cmp_total, unsigned_tied}
use Rattle.std.specs.FinSet.{FinSet, contains, contains-empty, contains-insert, contains-remove}
use Rattle.std.proofs.lemmas.Bool.Decides.{nat_tests}
use Rattle.reis_strict.specs.declared.act.Deed.{Deed}
use Rattle.reis_strict.specs.declared.act.Deed.TheVariants as deed
use Rattle.reis_strict.specs.declared.act.Kind.{Kind}
use Rattle.reis_strict.specs.declared.act.Kind.TheVariants as kind
use Rattle.reis_strict.specs.declared.device.State.{State}
use Rattle.reis_strict.specs.declared.device.State.TheVariants as state
use Rattle.reis_strict.specs.declared.device.KnownDevice.{KnownDevice}
use Rattle.reis_strict.specs.Devices.{at_rest, is_down_on, with_code, turned, after_deed}
use Rattle.reis_strict.specs.History.{state_after, same_kind, down_after}

-- nothing is down on a device at rest
pub rest_down : (id : ℕ) (s : State) (k : Kind) (code : ℕ) → is_down_on (at_rest id s) k code ≡ false
rest_down id s kind.Key code = contains-empty nat_cmp code
rest_down id s kind.Button code = contains-empty nat_cmp code

tied : (code c : ℕ) → eq_by_cmp nat_cmp code c ≡ eqb c code
tied code c = unsigned_tied code c ∙ grind (arith, nat_tests)

or_cond : (b x : Bool) → (b || x) ≡ cond b true x
or_cond true x = refl
or_cond false x = refl

and_cond : (b x : Bool) → (not b && x) ≡ cond b false x
and_cond true x = refl
and_cond false x = refl

-- what is among codes, once one is put in or taken out
contains_with : (codes : FinSet nat_cmp) (c : ℕ) (down : Bool) (code : ℕ) → contains (with_code c down codes) code ≡ cond (eqb c code) down (contains codes code)
contains_with codes c true code =
    contains-insert nat_cmp_total codes c code ∙ ap (λ (b : Bool). b || contains codes code) (tied code c) ∙ or_cond (eqb c code) (contains codes code)
contains_with codes c false code =
    contains-remove nat_cmp_total codes c code ∙ ap (λ (b : Bool). not b && contains codes code) (tied code c) ∙ and_cond (eqb c code) (contains codes code)

turned_down : (l : Kind) (c : ℕ) (down : Bool) (v : KnownDevice) (k : Kind) (code : ℕ) →
    is_down_on (turned l c down v) k code ≡ cond (same_kind k l && eqb c code) down (is_down_on v k code)
turned_down kind.Key c down v kind.Key code = contains_with v.keys c down code
turned_down kind.Key c down v kind.Button code = refl
turned_down kind.Button c down v kind.Key code = refl
turned_down kind.Button c down v kind.Button code = contains_with v.buttons c down code

turned_state : (l : Kind) (c : ℕ) (down : Bool) (v : KnownDevice) → (turned l c down v).state ≡ v.state
turned_state kind.Key c down v = refl
turned_state kind.Button c down v = refl

pub deed_state : (act : Deed) (v : KnownDevice) → (after_deed act v).state ≡ state_after act v.state
deed_state deed.Start v = refl
deed_state deed.Stop v = refl
deed_state deed.Input v = refl
deed_state (deed.Turn s) v = turned_state s.kind s.code s.down v

started_down : (v : KnownDevice) (k : Kind) (code : ℕ) → is_down_on (after_deed deed.Start v) k code ≡ is_down_on v k code
started_down v kind.Key code = refl
started_down v kind.Button code = refl

pub deed_down : (act : Deed) (v : KnownDevice) (k : Kind) (code : ℕ) → is_down_on (after_deed act v) k code ≡ down_after k code act (is_down_on v k code)
deed_down deed.Start v k code = started_down v k code
deed_down deed.Stop v k code = rest_down v.id state.Resumed k code
deed_down deed.Input v k code = refl
deed_down (deed.Turn s) v k code = turned_down s.kind s.code s.down v k code

turned_id : (l : Kind) (c : ℕ) (down : Bool) (v : KnownDevice) → (turned l c down v).id ≡ v.id
turned_id kind.Key c down v = refl
turned_id kind.Button c down v = refl

pub deed_id : (act : Deed) (v : KnownDevice) → (after_deed act v).id ≡ v.id
deed_id deed.Start v = refl
deed_id deed.Stop v = refl
deed_id deed.Input v = refl
deed_id (deed.Turn s) v = turned_id s.kind s.code s.down v
