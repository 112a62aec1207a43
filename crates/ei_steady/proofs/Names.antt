-- The interfaces of a new device have different names.
use Rattle.std.proofs.Common.{◌≡◌, ℕ, Bool, true, false, cond, List, [], ◌∷◌, Some, None, refl}
use Rattle.std.specs.Prelude.{not, ◌&&◌}
use Rattle.std.specs.Str.{bytes_eq}
use Rattle.std.specs.List.{filter_map, list_all}
use Rattle.std.proofs.lemmas.Bool.{and_parts}
use Rattle.ei_spec.specs.declared.interface.KnownInterface.{KnownInterface}
use Rattle.ei_spec.specs.Interface.{name_of}
use Rattle.ei_types.specs.Capability.{capabilities}
use Rattle.ei_steady.specs.Steady.{NoneNamed, NamesDiffer, brought_by, chosen}

-- those that pass the test
abbrev passed : (ℕ → Bool) → List (ℕ × KnownInterface) → List KnownInterface
passed test cs = filter_map (λ c. cond (test c.0) (Some c.1) None) cs

abbrev all_of : List (ℕ × KnownInterface) → List KnownInterface
all_of [] = []
all_of (c ∷ cs) = c.1 ∷ all_of cs

none_passed : (versions : KnownInterface → ℕ) (test : ℕ → Bool) (name : List ℕ) (cs : List (ℕ × KnownInterface)) → NoneNamed name (brought_by versions (all_of cs)) → NoneNamed name (brought_by versions (passed test cs))
none_passed versions test name [] h = tt
none_passed versions test name (c ∷ cs) h = by (none_passed versions test name cs h.1) (test c.0) refl
  where
    by : NoneNamed name (brought_by versions (passed test cs)) → (b : Bool) → test c.0 ≡ b → NoneNamed name (brought_by versions (passed test (c ∷ cs)))
    by next true e = rw e (h.0, next)
    by next false e = rw e next

differ_passed : (versions : KnownInterface → ℕ) (test : ℕ → Bool) (cs : List (ℕ × KnownInterface)) → NamesDiffer (brought_by versions (all_of cs)) → NamesDiffer (brought_by versions (passed test cs))
differ_passed versions test [] h = tt
differ_passed versions test (c ∷ cs) h = by (differ_passed versions test cs h.1) (test c.0) refl
  where
    by : NamesDiffer (brought_by versions (passed test cs)) → (b : Bool) → test c.0 ≡ b → NamesDiffer (brought_by versions (passed test (c ∷ cs)))
    by next true e = rw e (none_passed versions test (name_of c.1) cs h.0, next)
    by next false e = rw e next

-- ---- the names of the capabilities, computed over their list

-- whether none of these has the name
abbrev none_named : List ℕ → List (ℕ × KnownInterface) → Bool
none_named name cs = list_all (λ (c : ℕ × KnownInterface). not (bytes_eq (name_of c.1) name)) cs

abbrev differ : List (ℕ × KnownInterface) → Bool
differ [] = true
differ (c ∷ cs) = none_named (name_of c.1) cs && differ cs

is_other : (b : Bool) → not b ≡ true → b ≡ false
is_other true h = absurd cc
is_other false h = refl

none_so : (versions : KnownInterface → ℕ) (name : List ℕ) (cs : List (ℕ × KnownInterface)) → none_named name cs ≡ true → NoneNamed name (brought_by versions (all_of cs))
none_so versions name [] h = tt
none_so versions name (c ∷ cs) h =
    let parts = and_parts (not (bytes_eq (name_of c.1) name)) (none_named name cs) h in
    (is_other (bytes_eq (name_of c.1) name) parts.0, none_so versions name cs parts.1)

differ_so : (versions : KnownInterface → ℕ) (cs : List (ℕ × KnownInterface)) → differ cs ≡ true → NamesDiffer (brought_by versions (all_of cs))
differ_so versions [] h = tt
differ_so versions (c ∷ cs) h =
    let parts = and_parts (none_named (name_of c.1) cs) (differ cs) h in
    (none_so versions (name_of c.1) cs parts.0, differ_so versions cs parts.1)

pub names_differ : (versions : KnownInterface → ℕ) (test : ℕ → Bool) → NamesDiffer (brought_by versions (chosen test))
names_differ versions test = differ_passed versions test capabilities (differ_so versions capabilities refl)
