-- The ranges of ids, editions, coordinates and sizes. They stand here and nowhere else.
use Rattle.std.specs.Prelude.{Bool, ◌&&◌, ℕ, leb, ℤ, pos, neg_ℤ}
use Rattle.words.specs.Word.{within}

-- "Ids strictly ascending, 1 to 2,000,000,000"; "edition 1 to 1,000,000,000" [S3]
abbrev pub last_id : ℕ
last_id = 2000000000

-- [S13]
abbrev pub last_edition : ℕ
last_edition = 1000000000

-- the word of an id, of an edition [S3]
unfoldable pub id_word : ℤ → Bool
id_word z = within (pos 1) (pos last_id) z

-- [S13]
unfoldable pub edition_word : ℤ → Bool
edition_word z = within (pos 1) (pos last_edition) z

-- "x and y from -1,000,000 to 1,000,000", of form 2 to 1,000,000,000: c is the form's limit, `Limits` of the sheet [S4]
unfoldable pub coord_word : ℤ → ℤ → Bool
coord_word c z = within (neg_ℤ c) c z

-- an id, an edition, as a number
unfoldable pub id_ok : ℕ → Bool
id_ok k = leb 1 k && leb k last_id

-- [N24]
unfoldable pub edition_ok : ℕ → Bool
edition_ok k = leb 1 k && leb k last_edition
