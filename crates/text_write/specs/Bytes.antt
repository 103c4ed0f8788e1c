-- Bytes put into a text from an index on.
use Rattle.std.specs.Prelude.{List, ℕ}
use Rattle.std.proofs.lemmas.List.Edits.{sets}

-- m with the bytes bs put one after the other from index i on; past m's end nothing is put
unfoldable pub put_bytes : ℕ → List ℕ → List ℕ → List ℕ
put_bytes i bs m = sets m i bs
