-- Bytes that end no later than a message does make at most that one whole.
use Rattle.std.proofs.Common.{◌≡◌, ℕ, List, [], ◌∷◌, ◌++◌, length, sym, ap, ◌∙◌, arith}
use Rattle.std.proofs.lemmas.List.{append-nil, length-append}
use Rattle.ei_spec.specs.Message.{Raw, IsLawful, Short, Whole, bytes_of, front}
use Rattle.ei_spec.proofs.Cuts.{size_is, cut_short, front_none}
use Rattle.ei_spec.proofs.FrontLaws.{front_again}
use Rattle.reis_alike.specs.Program.{HasOneAtMost}

-- the whole message is followed by nothing
all_of : (m : Raw) (bytes : List ℕ) → IsLawful m → bytes_of m ≡ bytes → HasOneAtMost bytes
all_of m bytes lawful e other after f =
    let g : front bytes ≡ Whole m [] = ap front (sym e ∙ sym (append-nil (bytes_of m))) ∙ front_again m [] lawful in
    let z : Whole other after ≡ Whole m [] = sym f ∙ g in
    let same : after ≡ [] = cc in
    ap front same ∙ front_none

-- and a part of it is none
part_of : (m : Raw) (bytes : List ℕ) (b : ℕ) (more : List ℕ) → IsLawful m → bytes_of m ≡ bytes ++ b ∷ more → HasOneAtMost bytes
part_of m bytes b more lawful e other after f =
    let n = length-append bytes (b ∷ more) in
    let s = size_is m in
    let t : length (bytes_of m) ≡ length (bytes ++ b ∷ more) = ap length e in
    let short : front bytes ≡ Short = cut_short m bytes (b ∷ more) lawful e (omega (arith, n, s, t)) in
    let z : Short ≡ Whole other after = sym short ∙ f in
    absurd cc

pub one_cut : (m : Raw) (bytes more : List ℕ) → IsLawful m → bytes_of m ≡ bytes ++ more → HasOneAtMost bytes
one_cut m bytes [] lawful e = all_of m bytes lawful (e ∙ append-nil bytes)
one_cut m bytes (b ∷ more) lawful e = part_of m bytes b more lawful e
