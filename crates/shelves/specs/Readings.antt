-- How far a file was read. Assumes nothing.
use Rattle.std.specs.Prelude.{◌≡◌, List, [], ◌∷◌, ◌++◌, ℕ, length, take}
use Rattle.shelves.specs.declared.Tally.{Tally}
use Rattle.shelves.specs.declared.Reading.{Reading}
use Rattle.shelves.specs.Blocks.{blocks_of, left_over}
use Rattle.shelves.specs.Tallies.{tally_of}

-- A reading has this tally, and the bytes left over of these stand in front of its rest.
pub record Settled (tally : Tally) (bytes : List ℕ) (r : Reading) : Type 0 where
  pub counts : r.tally ≡ tally
  pub over : r.over ≡ length (left_over bytes)
  pub rest : take r.over r.rest ≡ left_over bytes

-- These bytes were read: their whole blocks are in the tally.
abbrev pub After : List ℕ → Reading → Type 0
After file = Settled (tally_of (blocks_of file)) file

-- One reading is another with the next piece: wherever the pieces of a file end, its bytes are read.
pub record Onwards (r : Reading) (piece : List ℕ) (s : Reading) : Type 0 where
  pub after : (file : List ℕ) → After file r → After (file ++ piece) s

-- A file read in these pieces, from nothing on.
pub data ReadIn : List (List ℕ) → Reading → Type 0 where
  unread : {r : Reading} → After [] r → ReadIn [] r
  onwards : {pieces : List (List ℕ)} {piece : List ℕ} {r s : Reading} → ReadIn pieces r → Onwards r piece s → ReadIn (pieces ++ (piece ∷ [])) s
