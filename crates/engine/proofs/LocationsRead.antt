-- Reads (SPECIFICATION 5.1), as equations on what is read: by a term of kind 4 to 6, its arguments and its own location; by a set, only the arguments of the
-- location that it names; by an if, its guard, whatever it gives; by a forall, its universe at all E elements. What an import reads is in Import.
use Rattle.std.specs.Prelude.{if◌then◌else◌}
use mathlib.Core.Path.{◌≡◌, refl, ap, ◌∙◌}
use mathlib.Core.List.{List, [], ◌∷◌, ◌++◌, append-nil}
use Prim.Native.Nat.{ℕ, zero, suc}
use lib.Dec.{eqb}
use lib.ListN.{set}
use Rattle.text.specs.Words.{table_from, table}
use Rattle.book.specs.Book.{Program, true_element, location}
use Rattle.book.specs.Sound.{at}
use Rattle.engine.specs.Reader.{done, read, value_in, locations_read, ◌>>=◌}
use Rattle.engine.specs.Term.{Term, at0, at1, at2, eval, target}
use Rattle.engine.specs.Rule.{Rule, test, for_all, Walk, members, each, walk}
use Rattle.engine.proofs.Reader.{value_bind, reads_bind}

module _ (B : Program) (c : List ℕ) (me : ℕ) (vs : List ℕ) where
  abbrev value : Term → ℕ
  value t = value_in c (eval B me vs t)

  abbrev looks : Term → List ℕ
  looks t = locations_read c (eval B me vs t)

  -- ---- terms

  pub reads_none : (f : ℕ) → looks (at0 f) ≡ location B f 0 0 ∷ []
  unfolding eval locations_read
  reads_none f = refl

  pub reads_one : (f : ℕ) (a : Term) → looks (at1 f a) ≡ looks a ++ (location B f (value a) 0 ∷ [])
  unfolding eval locations_read
  reads_one f a = reads_bind c (eval B me vs a) (λ x. read (location B f x 0))

  pub reads_two : (f : ℕ) (a b : Term) → looks (at2 f a b) ≡ looks a ++ (looks b ++ (location B f (value a) (value b) ∷ []))
  unfolding eval locations_read
  reads_two f a b =
      reads_bind c (eval B me vs a) (λ x. eval B me vs b >>= λ y. read (location B f x y))
      ∙ ap (λ (s : List ℕ). looks a ++ s) (reads_bind c (eval B me vs b) (λ y. read (location B f (value a) y)))

  -- ---- the location that is only set

  pub sets_none : (f : ℕ) → locations_read c (target B me vs (at0 f)) ≡ []
  unfolding target locations_read
  sets_none f = refl

  pub sets_one : (f : ℕ) (a : Term) → locations_read c (target B me vs (at1 f a)) ≡ looks a
  unfolding target locations_read
  sets_one f a = reads_bind c (eval B me vs a) (λ x. done (location B f x 0)) ∙ append-nil (looks a)

  pub sets_two : (f : ℕ) (a b : Term) → locations_read c (target B me vs (at2 f a b)) ≡ looks a ++ looks b
  unfolding target locations_read
  sets_two f a b =
      reads_bind c (eval B me vs a) (λ x. eval B me vs b >>= λ y. done (location B f x y))
      ∙ ap (λ (s : List ℕ). looks a ++ s) (reads_bind c (eval B me vs b) (λ y. done (location B f (value a) y)) ∙ append-nil (looks b))

  -- the location that a set names is that of the values of its arguments

  pub names_one : (f : ℕ) (a : Term) → value_in c (target B me vs (at1 f a)) ≡ location B f (value a) 0
  unfolding target value_in
  names_one f a = value_bind c (eval B me vs a) (λ x. done (location B f x 0))

  pub names_two : (f : ℕ) (a b : Term) → value_in c (target B me vs (at2 f a b)) ≡ location B f (value a) (value b)
  unfolding target value_in
  names_two f a b =
      value_bind c (eval B me vs a) (λ x. eval B me vs b >>= λ y. done (location B f x y))
      ∙ value_bind c (eval B me vs b) (λ y. done (location B f (value a) y))

  -- ---- rules

  pub reads_guard : (t : Term) (r s : Rule) (w : Walk)
      → locations_read c (walk B me (test t r s) vs w) ≡ looks t ++ locations_read c (if eqb (value t) true_element then walk B me r vs w else walk B me s vs w)
  unfolding walk
  reads_guard t r s w = reads_bind c (eval B me vs t) (λ x. if eqb x true_element then walk B me r vs w else walk B me s vs w)

  reads_members : (u x n : ℕ) → locations_read c (members B u x n) ≡ table_from (λ y. location B u y 0) x n
  unfolding members locations_read ◌>>=◌ table_from
  reads_members u x zero = refl
  reads_members u x (suc n) =
      ap (λ (s : List ℕ). location B u x 0 ∷ s)
      (reads_bind c (members B u (suc x) n) (λ ys. done (if eqb (at c (location B u x 0)) true_element then x ∷ ys else ys))
      ∙ append-nil (locations_read c (members B u (suc x) n)) ∙ reads_members u (suc x) n)

  pub reads_forall : (x u : ℕ) (r : Rule) (w : Walk)
      → locations_read c (walk B me (for_all x u r) vs w)
      ≡ table (λ y. location B u y 0) B.E ++ locations_read c (each (λ y. walk B me r (set vs x y)) (value_in c (members B u 0 B.E)) w)
  unfolding walk
  reads_forall x u r w =
      reads_bind c (members B u 0 B.E) (λ ys. each (λ y. walk B me r (set vs x y)) ys w)
      ∙ ap (λ (s : List ℕ). s ++ locations_read c (each (λ y. walk B me r (set vs x y)) (value_in c (members B u 0 B.E)) w)) (reads_members u 0 B.E)
