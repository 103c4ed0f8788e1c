-- A computation that reads locations one by one: its value and what it reads come from one definition.
use Rattle.std.specs.Prelude.{List, [], ◌∷◌, ℕ, get_or}

-- a computation: it is done and has a value, or it reads a location and goes on by what that holds
pub data Reader (A : Type 0) : Type 0 where
  done : A → Reader A
  read_then : ℕ → (ℕ → Reader A) → Reader A

-- reads one location and gives its value
abbrev pub read : ℕ → Reader ℕ
read l = read_then l done

module _ {A : Type 0} (c : List ℕ) where
  -- the value of a computation on the contents c
  unfoldable pub value_in : Reader A → A
  value_in (done a) = a
  value_in (read_then l k) = value_in (k (get_or c l 0))

  -- the locations that a computation reads on the contents c, in order
  unfoldable pub locations_read : Reader A → List ℕ
  locations_read (done a) = []
  locations_read (read_then l k) = l ∷ locations_read (k (get_or c l 0))

-- one computation, and then another that depends on its value
module _ {A B : Type 0} where
  infixl 15 ◌>>=◌
  unfoldable pub ◌>>=◌ : Reader A → (A → Reader B) → Reader B
  done a >>= f = f a
  read_then l k >>= f = read_then l (λ v. k v >>= f)
