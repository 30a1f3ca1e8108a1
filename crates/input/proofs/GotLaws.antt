-- What is known of the bytes that were read. Assumes nothing.
use Rattle.std.proofs.Common.{◌≡◌, subst, List, ℕ, Result, Ok}
use Rattle.std.specs.Counts.{IsPrefixLen}
use Rattle.input.specs.Got.{Within}
use Rattle.input.specs.declared.ReadFailed.{ReadFailed}

-- n bytes were read: they stand at the start of the room
pub bytes_within : (r : Result ℕ ReadFailed) (n : ℕ) (room : List ℕ) → r ≡ Ok n → Within r room → IsPrefixLen n room
bytes_within r n room e w = subst (λ (g : Result ℕ ReadFailed). Within g room) e w
