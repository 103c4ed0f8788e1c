-- A list that is passed over from its start, each element put by its place.
use mathlib.Core.Path.{◌≡◌, refl, sym, ap, ◌∙◌}
use mathlib.Core.Bool.{Bool, true, false}
use mathlib.Core.List.{List, [], ◌∷◌, ◌++◌}
use Prim.Native.Nat.{ℕ, zero, suc, ◌+◌, ◌-◌, ◌<◌, ◌≤◌}
use native.Mathlib.Omega.{arith}
use borrow.Author.Tests.{eqb-true, eqb-false, ltb-true, ltb-false}
use lib.Dec.{eqb, ltb}
use lib.ListN.{length, get_or, set, take, drop, length-set, length-take, length-drop, take-append-drop, get_or-eq_default}
use lib.Seq.{ext_get_or, get_or-set_same, get_or-set_other, length-take-le}
use Rattle.text.specs.Words.{by_place}

pub length_each : (f : ℕ → ℕ → ℕ) (i : ℕ) (s : List ℕ) → length (by_place f i s) ≡ length s
unfolding by_place
length_each f i [] = refl
length_each f i (v ∷ vs) = ap suc (length_each f (suc i) vs)

getD_each_from : (f : ℕ → ℕ → ℕ) (i : ℕ) (s : List ℕ) (k : ℕ) → k < length s → get_or (by_place f i s) k 0 ≡ f (i + k) (get_or s k 0)
unfolding by_place
getD_each_from f i [] k h = absurd (omega arith)
getD_each_from f i (v ∷ vs) zero h = ap (λ (n : ℕ). f n v) (omega arith)
getD_each_from f i (v ∷ vs) (suc k) h =
    getD_each_from f (suc i) vs k (omega arith) ∙ ap (λ (n : ℕ). f n (get_or vs k 0)) (omega arith)

pub getD_each : (f : ℕ → ℕ → ℕ) (s : List ℕ) (k : ℕ) → k < length s → get_or (by_place f 0 s) k 0 ≡ f k (get_or s k 0)
getD_each f s k h = getD_each_from f 0 s k h ∙ ap (λ (n : ℕ). f n (get_or s k 0)) (omega arith)

pub each_is : (f : ℕ → ℕ → ℕ) (s t : List ℕ) → length t ≡ length s → ((k : ℕ) → k < length s → get_or t k 0 ≡ f k (get_or s k 0)) → t ≡ by_place f 0 s
each_is f s t e h =
    ext_get_or 0 t (by_place f 0 s) (e ∙ sym (length_each f 0 s)) (λ k l. let m : k < length s = omega arith in h k m ∙ sym (getD_each f s k m))

-- s is s₀ with the places below i put by f
pub record Swept (f : ℕ → ℕ → ℕ) (i : ℕ) (s₀ s : List ℕ) : Type 0 where
  pub same : length s ≡ length s₀
  pub done : (k : ℕ) → k < i → k < length s₀ → get_or s k 0 ≡ f k (get_or s₀ k 0)
  pub left : (k : ℕ) → i ≤ k → get_or s k 0 ≡ get_or s₀ k 0

pub sweep_start : (f : ℕ → ℕ → ℕ) (s : List ℕ) → Swept f 0 s s
sweep_start f s = record { same = refl; done = λ k l m. absurd (omega arith); left = λ k l. refl }

pub sweep_next : (f : ℕ → ℕ → ℕ) (i : ℕ) (s₀ s t : List ℕ) (v : ℕ) → Swept f i s₀ s → v ≡ f i (get_or s₀ i 0) → t ≡ set s i v → Swept f (i + 1) s₀ t
sweep_next f i s₀ s t v w e q =
    record {
      same = ap length q ∙ length-set s i v ∙ w.same;
      done = λ k l m. ap (λ (x : List ℕ). get_or x k 0) q ∙ place k l m (eqb k i) refl;
      left = λ k l. ap (λ (x : List ℕ). get_or x k 0) q ∙ get_or-set_other s i k v 0 (λ h. omega arith) ∙ w.left k (omega arith);
    }
  where
    place : (k : ℕ) → k < i + 1 → k < length s₀ → (b : Bool) → eqb k i ≡ b → get_or (set s i v) k 0 ≡ f k (get_or s₀ k 0)
    place k l m true h =
        let n : k ≡ i = eqb-true k i h in
        let o : i < length s = omega (arith, w.same) in
        ap (λ (x : ℕ). get_or (set s i v) x 0) n ∙ get_or-set_same s i v 0 o ∙ e ∙ ap (λ (x : ℕ). f x (get_or s₀ x 0)) (sym n)
    place k l m false h =
        let n : k ≡ i → ⊥ = eqb-false k i h in
        let o : k < i = omega (arith, n) in
        get_or-set_other s i k v 0 n ∙ w.done k o m

-- places that keep their value may be passed over
pub sweep_pass : (f : ℕ → ℕ → ℕ) (i j : ℕ) (s₀ s : List ℕ) → Swept f i s₀ s → i ≤ j → ((k : ℕ) → i ≤ k → k < j → f k (get_or s₀ k 0) ≡ get_or s₀ k 0)
    → Swept f j s₀ s
sweep_pass f i j s₀ s w h same =
    record {
      same = w.same;
      done = λ k l m. place k l m (ltb k i) refl;
      left = λ k l. w.left k (omega arith);
    }
  where
    place : (k : ℕ) → k < j → k < length s₀ → (b : Bool) → ltb k i ≡ b → get_or s k 0 ≡ f k (get_or s₀ k 0)
    place k l m true e = w.done k (ltb-true k i e) m
    place k l m false e = let n : i ≤ k = ltb-false k i e in w.left k n ∙ sym (same k n l)

pub sweep_end : (f : ℕ → ℕ → ℕ) (i : ℕ) (s₀ s : List ℕ) → Swept f i s₀ s → ((k : ℕ) → i ≤ k → k < length s₀ → f k (get_or s₀ k 0) ≡ get_or s₀ k 0) → s ≡ by_place f 0 s₀
sweep_end f i s₀ s w h = each_is f s₀ s w.same (λ k l. place k l (ltb k i) refl)
  where
    place : (k : ℕ) → k < length s₀ → (b : Bool) → ltb k i ≡ b → get_or s k 0 ≡ f k (get_or s₀ k 0)
    place k l true m = w.done k (ltb-true k i m) l
    place k l false m = let n : i ≤ k = ltb-false k i m in w.left k n ∙ sym (h k n l)

-- a pass over the whole list that changes the places from i up to j by g and leaves the others
pub sweep_run : (f g : ℕ → ℕ → ℕ) (i j : ℕ) (s₀ s t : List ℕ) → i ≤ j → Swept f i s₀ s → t ≡ by_place g 0 s
    → ((k : ℕ) → k < i → k < length s₀ → (v : ℕ) → g k v ≡ v)
    → ((k : ℕ) → i ≤ k → k < j → k < length s₀ → g k (get_or s₀ k 0) ≡ f k (get_or s₀ k 0))
    → ((k : ℕ) → j ≤ k → k < length s₀ → (v : ℕ) → g k v ≡ v)
    → Swept f j s₀ t
sweep_run f g i j s₀ s t i≤j w q before inside after =
    record {
      same = ap length q ∙ length_each g 0 s ∙ w.same;
      done = λ k l m. at k m ∙ early k l m (ltb k i) refl;
      left = λ k l. late k l (ltb k (length s₀)) refl;
    }
  where
    at : (k : ℕ) → k < length s₀ → get_or t k 0 ≡ g k (get_or s k 0)
    at k m = let n : k < length s = omega (arith, w.same) in ap (λ (x : List ℕ). get_or x k 0) q ∙ getD_each g s k n

    early : (k : ℕ) → k < j → k < length s₀ → (b : Bool) → ltb k i ≡ b → g k (get_or s k 0) ≡ f k (get_or s₀ k 0)
    early k l m true h = let n : k < i = ltb-true k i h in before k n m (get_or s k 0) ∙ w.done k n m
    early k l m false h = let n : i ≤ k = ltb-false k i h in ap (g k) (w.left k n) ∙ inside k n l m

    late : (k : ℕ) → j ≤ k → (b : Bool) → ltb k (length s₀) ≡ b → get_or t k 0 ≡ get_or s₀ k 0
    late k l true h = let n : k < length s₀ = ltb-true k (length s₀) h in let o : i ≤ k = omega arith in at k n ∙ after k l n (get_or s k 0) ∙ w.left k o
    late k l false h =
        let n : length s₀ ≤ k = ltb-false k (length s₀) h in
        let m : length t ≤ k = omega (arith, ap length q, length_each g 0 s, w.same) in
        get_or-eq_default t 0 m ∙ sym (get_or-eq_default s₀ 0 n)

-- ---- a part that is lent, and put back

each_append : (f : ℕ → ℕ → ℕ) (i : ℕ) (s t : List ℕ) → by_place f i (s ++ t) ≡ by_place f i s ++ by_place f (i + length s) t
unfolding by_place
each_append f i [] t = ap (λ (n : ℕ). by_place f n t) (omega arith)
each_append f i (v ∷ vs) t = ap (◌∷◌ (f i v)) (each_append f (suc i) vs t ∙ ap (λ (n : ℕ). by_place f (suc i) vs ++ by_place f n t) (omega arith))

each_same : (f g : ℕ → ℕ → ℕ) (i j : ℕ) (s : List ℕ) → ((k : ℕ) → k < length s → (v : ℕ) → f (i + k) v ≡ g (j + k) v) → by_place f i s ≡ by_place g j s
unfolding by_place
each_same f g i j [] h = refl
each_same f g i j (v ∷ vs) h =
    let e : f i v ≡ g j v = ap (λ (n : ℕ). f n v) (omega arith) ∙ h 0 (omega arith) v ∙ ap (λ (n : ℕ). g n v) (omega arith) in
    ap (λ (y : ℕ). y ∷ by_place f (suc i) vs) e
    ∙ ap (◌∷◌ (g j v)) (each_same f g (suc i) (suc j) vs (λ k l u. ap (λ (n : ℕ). f n u) (omega arith) ∙ h (suc k) (omega arith) u ∙ ap (λ (n : ℕ). g n u) (omega arith)))

each_id : (i : ℕ) (s : List ℕ) → by_place (λ (k v : ℕ). v) i s ≡ s
unfolding by_place
each_id i [] = refl
each_id i (v ∷ vs) = ap (◌∷◌ v) (each_id (suc i) vs)

module _ (g h : ℕ → ℕ → ℕ) (a e : ℕ) (xs ys : List ℕ) (a≤e : a ≤ e) (e≤n : e ≤ length xs)
    (before : (k : ℕ) → k < a → (v : ℕ) → h k v ≡ v)
    (inside : (k : ℕ) → a ≤ k → k < e → (v : ℕ) → h k v ≡ g (k - a) v)
    (after : (k : ℕ) → e ≤ k → k < length xs → (v : ℕ) → h k v ≡ v)
    (q : ys ≡ by_place g 0 (take (e - a) (drop a xs))) where
  abbrev mid : List ℕ
  mid = take (e - a) (drop a xs)

  abbrev post : List ℕ
  post = drop (e - a) (drop a xs)

  pub part_back : take a xs ++ (ys ++ drop (e - a) (drop a xs)) ≡ by_place h 0 xs
  part_back =
      let n : length (take a xs) ≡ a = length-take-le a xs (omega arith) in
      let m : length mid ≡ e - a = length-take (e - a) (drop a xs) ∙ simp length-drop (omega arith) in
      let p : length post ≡ length xs - e = length-drop (e - a) (drop a xs) ∙ simp length-drop (omega arith) in
      let whole : take a xs ++ (mid ++ post) ≡ xs = ap (λ (z : List ℕ). take a xs ++ z) (take-append-drop (e - a) (drop a xs)) ∙ take-append-drop a xs in
      let one : by_place h 0 (take a xs) ≡ take a xs = each_same h (λ (k v : ℕ). v) 0 0 (take a xs) (λ k l v. before (0 + k) (omega (arith, n)) v) ∙ each_id 0 (take a xs) in
      let two : by_place h (0 + length (take a xs)) mid ≡ ys = each_same h g (0 + length (take a xs)) 0 mid (λ k l v. inside (0 + length (take a xs) + k) (omega (arith, n)) (omega (arith, n, m)) v ∙ ap (λ (z : ℕ). g z v) (omega (arith, n))) ∙ sym q in
      let three : by_place h (0 + length (take a xs) + length mid) post ≡ post = each_same h (λ (k v : ℕ). v) (0 + length (take a xs) + length mid) 0 post (λ k l v. after (0 + length (take a xs) + length mid + k) (omega (arith, n, m)) (omega (arith, n, m, p)) v) ∙ each_id 0 post in
      sym (ap (by_place h 0) (sym whole) ∙ each_append h 0 (take a xs) (mid ++ post)
      ∙ ap (λ (z : List ℕ). z ++ by_place h (0 + length (take a xs)) (mid ++ post)) one
      ∙ ap (λ (z : List ℕ). take a xs ++ z)
      (each_append h (0 + length (take a xs)) mid post ∙ ap (λ (z : List ℕ). z ++ by_place h (0 + length (take a xs) + length mid) post) two ∙ ap (λ (z : List ℕ). ys ++ z) three))
