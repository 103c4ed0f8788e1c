-- What writing into the lent list and reading from it leave, record by record.
use mathlib.Core.Path.{◌≡◌, refl, sym, ◌∙◌, ap, subst}
use mathlib.Core.List.{List, [], ◌∷◌, map}
use Prim.Native.Nat.{ℕ, zero, suc, ◌<◌, ◌≤◌, suc-le-suc}
use native.Mathlib.Nat.{not-suc-le-zero, le_of_suc-le-suc, zero-lt-suc}
use native.Mathlib.Omega.{arith}
use lib.ListN.{length, get_or, set, take}
use Rattle.engine.specs.declared.Instruction.{Instruction}
use Rattle.engine.specs.declared.Instruction.TheVariants.{Update}
use Rattle.engine.specs.declared.Record.{Record}
use Rattle.engine_instruction.specs.Code.{decode_of, items}
use Rattle.engine_list.specs.Written.{what_of, records_written, through, all_records_written}

-- the record that stands past the end of a list
abbrev pub blank : Record
blank = record { what = Update 0 0 }

abbrev pub record_of : ℕ → Record
record_of c = record { what = decode_of c }

-- ---- writing

pub length_written : (is : List Instruction) (ys : List Record) → length (records_written is ys) ≡ length ys
unfolding records_written
length_written [] ys = refl
length_written (i ∷ is) [] = refl
length_written (i ∷ is) (y ∷ ys) = ap suc (length_written is ys)

pub none_written : (xs : List ℕ) (ys : List Record) → records_written (items xs 0) ys ≡ ys
unfolding records_written
none_written xs ys = refl

-- one record more is written
pub one_written : (i : ℕ) (xs : List ℕ) (ys : List Record) → i < length xs → i < length ys
    → set (records_written (items xs i) ys) i (record_of (get_or xs i 0)) ≡ records_written (items xs (suc i)) ys
unfolding records_written
one_written i [] ys hx hy = absurd (not-suc-le-zero hx)
one_written i (x ∷ xs) [] hx hy = absurd (not-suc-le-zero hy)
one_written zero (x ∷ xs) (y ∷ ys) hx hy = refl
one_written (suc i) (x ∷ xs) (y ∷ ys) hx hy = ap (λ (zs : List Record). record_of x ∷ zs) (one_written i xs ys (le_of_suc-le-suc hx) (le_of_suc-le-suc hy))

-- writing more instructions than there are numbers or records changes nothing
pub all_written : (m n : ℕ) (xs : List ℕ) (ys : List Record) → m ≤ n → (m < n → m < length ys → m < length xs → ⊥) → records_written (items xs m) ys ≡ records_written (items xs n) ys
unfolding records_written
all_written zero zero xs ys h over = refl
all_written zero (suc n) [] ys h over = refl
all_written zero (suc n) (x ∷ xs) [] h over = refl
all_written zero (suc n) (x ∷ xs) (y ∷ ys) h over = absurd (over (zero-lt-suc n) (zero-lt-suc (length ys)) (zero-lt-suc (length xs)))
all_written (suc m) zero xs ys h over = absurd (not-suc-le-zero h)
all_written (suc m) (suc n) [] ys h over = refl
all_written (suc m) (suc n) (x ∷ xs) [] h over = refl
all_written (suc m) (suc n) (x ∷ xs) (y ∷ ys) h over =
    ap (λ (zs : List Record). record_of x ∷ zs) (all_written m n xs ys (le_of_suc-le-suc h) (λ a b c. over (suc-le-suc a) (suc-le-suc b) (suc-le-suc c)))

-- ---- reading

-- the first n numbers stand for the first n records
abbrev pub Stands : List Record → List ℕ → ℕ → Type 0
Stands ys zs n = items zs n ≡ map what_of (take n ys)

head_of : List Instruction → Instruction
head_of [] = Update 0 0
head_of (i ∷ is) = i

tail_of : List Instruction → List Instruction
tail_of [] = []
tail_of (i ∷ is) = is

-- one number more is read
pub one_read : (i c : ℕ) (ys : List Record) (zs : List ℕ) → i < length ys → i < length zs → decode_of c ≡ what_of (get_or ys i blank) → Stands ys zs i → Stands ys (set zs i c) (suc i)
unfolding decode_of head_of tail_of
one_read i c [] zs hy hz e s = absurd (not-suc-le-zero hy)
one_read i c (y ∷ ys) [] hy hz e s = absurd (not-suc-le-zero hz)
one_read zero c (y ∷ ys) (z ∷ zs) hy hz e s = ap (λ (k : Instruction). k ∷ []) e
one_read (suc i) c (y ∷ ys) (z ∷ zs) hy hz e s =
    ap (λ (k : Instruction). k ∷ items (set zs i c) (suc i)) (ap head_of s)
    ∙ ap (λ (ks : List Instruction). y.what ∷ ks) (one_read i c ys zs (le_of_suc-le-suc hy) (le_of_suc-le-suc hz) e (ap tail_of s))

-- what was written is read back
pub read_back : (n : ℕ) (xs : List ℕ) (ys : List Record) → n ≤ length xs → n ≤ length ys → map what_of (take n (records_written (items xs n) ys)) ≡ items xs n
unfolding records_written
read_back zero xs ys hx hy = refl
read_back (suc n) [] ys hx hy = absurd (not-suc-le-zero hx)
read_back (suc n) (x ∷ xs) [] hx hy = absurd (not-suc-le-zero hy)
read_back (suc n) (x ∷ xs) (y ∷ ys) hx hy = ap (λ (ks : List Instruction). decode_of x ∷ ks) (read_back n xs ys (le_of_suc-le-suc hx) (le_of_suc-le-suc hy))

-- as many of n numbers as there is room for are read back as they were written
pub through_back : (n : ℕ) (xs : List ℕ) (ys : List Record) → map what_of (take (through n ys xs) (records_written (items xs n) ys)) ≡ items xs (through n ys xs)
through_back n xs ys =
    ap (λ (zs : List Record). map what_of (take (through n ys xs) zs)) (sym (all_written (through n ys xs) n xs ys (omega arith) (λ a b c. omega arith)))
    ∙ read_back (through n ys xs) xs ys (omega arith) (omega arith)

-- all n numbers are read back as they were written, where there is room for all
pub all_through : (n : ℕ) (xs : List ℕ) (ys : List Record) (us : List ℕ) → items us (through n ys xs) ≡ items xs (through n ys xs)
    → n ≤ length ys → n ≤ length xs → items us n ≡ items xs n
all_through n xs ys us e h k = subst (λ (j : ℕ). items us j ≡ items xs j) {x = through n ys xs} {y = n} (omega arith) e

-- no list of instructions writes nothing
pub none_left : (ys : List Record) → all_records_written [] ys ≡ ys
unfolding all_records_written
none_left ys = refl
