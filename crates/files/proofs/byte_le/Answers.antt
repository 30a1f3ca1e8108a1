-- `files::byte_le` meets its contract. Assumes nothing.
use Rattle.std.proofs.Common.{◌≡◌, refl, List, ℕ, zero, suc, ◌<◌, ◌∙◌, ap, ℤ, arith, of_z, get_or}
use Rattle.std.specs.Int.{w32, to_le_bytes}
use mir.ValLaws.{to_z-of_z}
use Rattle.files.specs.Files.{digit, byte_of}
use Rattle.files.proofs.byte_le.Goals as goal

-- the bytes of a number are its digits
digits : (v k : ℕ) → k < 4 → get_or (to_le_bytes w32 v) k 0 ≡ digit v k
unfolding digit
digits v zero h = refl
digits v (suc zero) h = refl
digits v (suc (suc zero)) h = refl
digits v (suc (suc (suc zero))) h = refl
digits v (suc (suc (suc (suc k)))) h = absurd (omega arith)

pub returns : goal.returns
unfolding byte_of
returns c =
    let k = c.args.k in
    ap (λ (l : List ℕ). get_or l k 0) c.to_le_bytes.ensures
    ∙ digits _ k c.requires
    ∙ ap (λ (z : ℤ). digit (of_z w32 z) k) (to_z-of_z w32 _ c.ranges.w)
