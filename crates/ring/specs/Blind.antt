-- A sheet in two runs.
use Rattle.std.specs.Prelude.{◌≡◌, List, ℤ}
use Rattle.sheet.specs.Layout.{form, edition}

-- it has one edition and one form in both; how it is packed may differ [U5]
pub record SameSeen (w w' : List ℤ) : Type 0 where
  pub editions : edition w ≡ edition w'
  pub forms : form w ≡ form w'
