-- The tables that moves are made on: lent by a caller, or a run's own.
use Rattle.std.specs.Prelude.{List, ℕ}

-- the contents, and the reader and writer marks of each location
pub record Tables : Type 0 where
  pub contents : List ℕ
  pub readers : List ℕ
  pub writers : List ℕ

abbrev pub tables : List ℕ → List ℕ → List ℕ → Tables
tables c rs ws = record { contents = c; readers = rs; writers = ws }
