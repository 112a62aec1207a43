-- The interfaces that are announced, one after another.
use Rattle.std.proofs.Common.{◌≡◌, ℕ, zero, suc, ◌+◌, ◌<◌, ◌≤◌, List, [], ◌∷◌, ◌++◌, length, take, map, get_or, Bor, sym, ap, ◌∙◌, arith, append_assoc}
use Rattle.std.proofs.lemmas.List.{append-nil, get_or-map, map_more}
use Rattle.std.proofs.lemmas.Grind.{flat_map-append}
use Rattle.ei_spec.specs.Message.{bytes_of, all_bytes}
use Rattle.reis_demo.specs.Generated.{announcement, objects_announced, capabilities_announced, own_versions}

-- a name with its version, as the table has it
abbrev named : Bor (List ℕ) × ℕ → List ℕ × ℕ
named p = (p.0.now, p.1)

-- the announcements of interfaces
abbrev pub announced : List (List ℕ × ℕ) → List ℕ
announced names = all_bytes (map (λ p. announcement p.0 p.1) names)

abbrev AreShort : List (List ℕ × ℕ) → Type 0
AreShort [] = Unit {0}
AreShort (p ∷ names) = (length p.0 ≤ 100) × AreShort names

short_in : (names : List (List ℕ × ℕ)) (i : ℕ) → AreShort names → length (get_or names i ([], 0)).0 ≤ 100
short_in [] i h = omega arith
short_in (p ∷ names) zero h = h.0
short_in (p ∷ names) (suc i) h = short_in names i h.1

all_short : AreShort own_versions
all_short =
    (omega arith, (omega arith, (omega arith, (omega arith, (omega arith, (omega arith, (omega arith, (omega arith, (omega arith, (omega arith, (omega arith, (omega arith, tt))))))))))))

module _ (table : List (Bor (List ℕ) × ℕ)) (i : ℕ) (d : Bor (List ℕ) × ℕ) (is : map {B = List ℕ × ℕ} (λ p. (p.0.now, p.1)) table ≡ own_versions) (lt : i < length table) (few : i < 12) where
  name_at : get_or own_versions i ([], 0) ≡ named (get_or table i d)
  name_at = ap (λ (names : List (List ℕ × ℕ)). get_or names i ([], 0)) (sym is) ∙ get_or-map named table i d ([], 0) lt

  -- each name is short
  pub short_at : length (get_or table i d).0.now ≤ 100
  short_at = omega (arith, short_in own_versions i all_short, ap (λ (p : List ℕ × ℕ). length p.0) name_at)

  -- one more is announced
  pub more_announced : (start items more : List ℕ) → items ≡ start ++ announced (take i own_versions) → more ≡ items ++ bytes_of (announcement (get_or table i d).0.now (get_or table i d).1) →
      more ≡ start ++ announced (take (i + 1) own_versions)
  more_announced start items more so_far next =
      let last = bytes_of (announcement (get_or table i d).0.now (get_or table i d).1) in
      let before = map (λ p. announcement p.0 p.1) (take i own_versions) in
      next
      ∙ ap (λ (x : List ℕ). x ++ last) so_far
      ∙ append_assoc start (all_bytes before) last
      ∙ ap (λ (x : List ℕ). start ++ (all_bytes before ++ x))
      (ap (λ (p : List ℕ × ℕ). bytes_of (announcement p.0 p.1)) (sym name_at) ∙ sym (append-nil (bytes_of (announcement (get_or own_versions i ([], 0)).0 (get_or own_versions i ([], 0)).1))))
      ∙ ap (λ (x : List ℕ). start ++ x) (sym (flat_map-append bytes_of before (announcement (get_or own_versions i ([], 0)).0 (get_or own_versions i ([], 0)).1 ∷ [])))
      ∙ ap (λ m. start ++ all_bytes m) (sym (map_more (λ p. announcement p.0 p.1) own_versions i ([], 0) few))

-- the twelve are those of a connection, and then those of a device
pub all_announced : (i : ℕ) (start items : List ℕ) → i ≡ 12 → items ≡ start ++ announced (take i own_versions) → items ≡ start ++ all_bytes (objects_announced ++ capabilities_announced)
unfolding objects_announced capabilities_announced
all_announced i start items e said = said ∙ ap (λ (n : ℕ). start ++ announced (take n own_versions)) e
