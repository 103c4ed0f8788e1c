-- Quoted text as bytes, and a table of questions with their answers under one lemma: for theorems by computation.
use Rattle.std.specs.Prelude.{◌≡◌, refl, Bool, true, false, ◌&&◌, List, [], ◌∷◌, ◌++◌, ℕ, zero, suc, ◌+◌, ◌*◌, ◌-◌, ◌<◌, eqb, leb, length, get_or}
use Rattle.std.proofs.Common.{ap₂, le_of_suc-le-suc, not-suc-le-zero, eqb-true}
use Prim.Native.String.{String}
use Prim.Native.Char.{code}
use Rattle.text.specs.Text.{written}

-- ---- quoted text: as it stands, or lines without padding, split by /, as the specification shows them

-- the bytes of a quoted text
abbrev pub bytes : String → List ℕ
bytes String.[] = []
bytes (String.◌∷◌ c s) = code c ∷ bytes s

-- the numbers of a text; n is what has been read of a number, if the test says that one has begun
abbrev pub numbers : ℕ → Bool → List ℕ → List ℕ
numbers n false [] = []
numbers n true [] = n ∷ []
numbers n false (c ∷ s) = elim (leb 48 c) [ true ↦ numbers (c - 48) true s | false ↦ numbers 0 false s ]
numbers n true (c ∷ s) = elim (leb 48 c) [ true ↦ numbers (10 * n + (c - 48)) true s | false ↦ n ∷ numbers 0 false s ]

-- numbers as the bytes of padded lines, four numbers to a line; up to three that are left over are dropped
abbrev pub laid_out : List ℕ → List ℕ
laid_out [] = []
laid_out (a ∷ []) = []
laid_out (a ∷ (b ∷ [])) = []
laid_out (a ∷ (b ∷ (c ∷ []))) = []
laid_out (a ∷ (b ∷ (c ∷ (d ∷ ns)))) = written (record { a = a; b = b; c = c; d = d }) ++ laid_out ns

-- a quoted text of numbers as the bytes of padded lines
abbrev pub padded : String → List ℕ
padded s = laid_out (numbers 0 false (bytes s))

-- ---- a table of questions, each with its answer

-- a question, and the numbers that must answer it
pub record Case (Q : Type 0) : Type 0 where
  pub question : Q
  pub answer : List ℕ

-- a case from its question and its answer
abbrev pub case : {Q : Type 0} → Q → List ℕ → Case Q
case q a = record { question = q; answer = a }

-- two lists of numbers are the same: a test, which computes faster than a comparison by refl
unfoldable pub same : List ℕ → List ℕ → Bool
same [] [] = true
same [] (y ∷ ys) = false
same (x ∷ xs) [] = false
same (x ∷ xs) (y ∷ ys) = eqb x y && same xs ys

both_left : (a b : Bool) → a && b ≡ true → a ≡ true
both_left true b e = refl
both_left false b e = e

both_right : (a b : Bool) → a && b ≡ true → b ≡ true
both_right true b e = e
both_right false b e = cc

same_eq : (xs ys : List ℕ) → same xs ys ≡ true → xs ≡ ys
unfolding same
same_eq [] [] e = refl
same_eq [] (y ∷ ys) e = cc
same_eq (x ∷ xs) [] e = cc
same_eq (x ∷ xs) (y ∷ ys) e =
    ap₂ (λ (a : ℕ) (rest : List ℕ). a ∷ rest) (eqb-true x y (both_left (eqb x y) (same xs ys) e)) (same_eq xs ys (both_right (eqb x y) (same xs ys) e))

module _ {Q : Type 0} (asked : Q → List ℕ) where
  -- the case's question has its answer
  abbrev pub right : Case Q → Bool
  right k = same (asked k.question) k.answer

  -- each case of the list has its answer
  abbrev pub all_right : List (Case Q) → Bool
  all_right [] = true
  all_right (k ∷ ks) = right k && all_right ks

  -- where all cases are right, the question of case i has its answer
  pub each_right : (ks : List (Case Q)) (d : Case Q) (i : ℕ) → all_right ks ≡ true → i < length ks → asked (get_or ks i d).question ≡ (get_or ks i d).answer
  each_right [] d i e h = absurd (not-suc-le-zero h)
  each_right (k ∷ ks) d zero e h = same_eq (asked k.question) k.answer (both_left (right k) (all_right ks) e)
  each_right (k ∷ ks) d (suc i) e h = each_right ks d i (both_right (right k) (all_right ks) e) (le_of_suc-le-suc h)
