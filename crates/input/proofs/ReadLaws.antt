-- What reads do to the bytes that a reader has left, where those are known. Assumes nothing.
use Rattle.std.proofs.Common.{◌≡◌, sym, ap, ap₂, subst, ◌∙◌, List, ◌++◌, ℕ, ◌+◌, ◌-◌, ◌≤◌, length, take, Option, None, Some, Result, Ok, Err, append_assoc, length-take-le, drop_at}
use Rattle.std.proofs.lemmas.List.{take-append-le}
use Rattle.std.proofs.lemmas.Slice.{take-put_mid_below}
use Rattle.std.proofs.Math.Nat.{min-eq_left, le_refl}
use Rattle.std.proofs.Math.Seq.{take-add}
use borrow.Rule.Slice.PartMut.{put_mid, post_of}
use Rattle.std.specs.Io.{ReadsAtMost}
use Rattle.std.specs.Io.KnownBytes.{Consumes, ReadConsumes}
use Rattle.input.specs.Got.{told_by, ReadsSome}

-- one read, of which no more is believed than the room takes
pub told_reads : {E : Type 0} (old new : Option (List ℕ)) (r : Result ℕ E) (room : List ℕ) → ReadsAtMost r room → ReadConsumes old new r room
    → ReadsSome old new (told_by r (length room)) room
unfolding told_by
told_reads old new (Ok n) room within took = subst (λ (k : ℕ). ReadsSome old new (Ok k) room) (sym (min-eq_left within.0)) took
told_reads old new (Err e) room within took = took

-- what was read after a bytes were
pub joined : (a n : ℕ) (room part : List ℕ) → a ≤ length room → n ≤ length part
    → take (a + n) (put_mid a (length room - a) room part) ≡ take a room ++ take n part
joined a n room part within fits =
    let after = post_of a (length room - a) room in
    take-add a n (put_mid a (length room - a) room part)
    ∙ ap₂ (λ (x y : List ℕ). x ++ y)
    (take-put_mid_below a (length room - a) room part a (le_refl a) within)
    (ap (take n) (drop_at (take a room) (part ++ after) a (length-take-le a room within)) ∙ take-append-le n part after fits)

pub then_reads : (old mid new : Option (List ℕ)) (bs cs : List ℕ) → Consumes old mid bs → Consumes mid new cs → Consumes old new (bs ++ cs)
then_reads None mid new bs cs p q = tt
then_reads (Some x) None new bs cs p q = absurd p
then_reads (Some x) (Some y) None bs cs p q = absurd q
then_reads (Some x) (Some y) (Some z) bs cs p q = p ∙ ap (λ (l : List ℕ). bs ++ l) q ∙ sym (append_assoc bs cs z)
