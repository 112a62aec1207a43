-- What a sink that takes so many bytes has taken.
use Rattle.std.specs.Prelude.{◌≡◌, ℕ, ◌+◌, ◌<◌, ◌≤◌, length}
use Rattle.std.proofs.Common.{arith, ◌∙◌, refl}
use Rattle.ei_spec.specs.Piece.{Piece}

-- What it took grew by as many bytes as it takes less, and where it failed it takes none.
pub record IsLater (left faults : ℕ) (taken : Piece) (left_new faults_new : ℕ) (taken_new : Piece) : Type 0 where
  pub count : left_new + length taken_new.bytes ≡ left + length taken.bytes
  pub fewer : left_new ≤ left
  pub faults_kept : faults ≤ faults_new
  pub failed : faults < faults_new → left_new ≡ 0

pub is_later_self : (left faults : ℕ) (taken : Piece) → IsLater left faults taken left faults taken
is_later_self left faults taken = record { count = refl; fewer = omega arith; faults_kept = omega arith; failed = λ h. absurd (omega (arith, h)) }

failed_twice : (faults a b c left_b left_c : ℕ) → left_c ≤ left_b → (a < b → left_b ≡ 0) → (b < c → left_c ≡ 0) → a < c → left_c ≡ 0
failed_twice faults a b c left_b left_c fewer first second h = grind arith

pub is_later_twice : (l f : ℕ) (t : Piece) (l1 f1 : ℕ) (t1 : Piece) (l2 f2 : ℕ) (t2 : Piece) → IsLater l f t l1 f1 t1 → IsLater l1 f1 t1 l2 f2 t2 → IsLater l f t l2 f2 t2
is_later_twice l f t l1 f1 t1 l2 f2 t2 first second = record {
  count = second.count ∙ first.count;
  fewer = omega arith;
  faults_kept = omega arith;
  failed = λ h. failed_twice f f f1 f2 l1 l2 second.fewer first.failed second.failed h;
}
