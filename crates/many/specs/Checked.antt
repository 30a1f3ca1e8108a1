-- What a check hands on, where it refuses nothing. No promise of an open call cites this.
use Rattle.std.specs.Prelude.{◌≡◌, List, ℕ, ◌≤◌, ℤ}
use Rattle.sheet.specs.declared.Size.{Size}
use Rattle.sheet.specs.Open.{Opens}
use Rattle.bits.specs.Set.{words_for}
use Rattle.ring.specs.Lent.{need}

-- both sheets open with these counts, so many words are needed, and as many are lent
pub record Served (P Q : List ℤ) (hp hq : Size) (words len : ℕ) : Type 0 where
  pub p_opens : Opens P hp.n hp.m
  pub q_opens : Opens Q hq.n hq.m
  pub needed : words ≡ words_for hp.n
  pub all : words ≡ need P
  pub lent : words ≤ len
