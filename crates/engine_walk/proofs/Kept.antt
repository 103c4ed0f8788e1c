-- Laws of what a move's walk leaves: a refused one leaves none of its marks.
use Rattle.std.specs.Prelude.{if◌then◌else◌}
use mathlib.Core.Path.{◌≡◌, refl, sym, ap, ◌∙◌}
use mathlib.Core.Bool.{Bool, true, false}
use mathlib.Core.List.{List, [], ◌∷◌}
use Prim.Native.Nat.{ℕ, suc, ◌-◌, ◌^◌}
use native.Mathlib.Nat.{mod_self, mod-eq_of_lt}
use native.Mathlib.Omega.{arith}
use lib.Bits.{bit_or, bit_and, and_mask, or_mod, or_zero_r}
use lib.Dec.{eqb}
use lib.ListN.{get_or}
use lib.Seq.{map-set_same, set-get_or}
use borrow.Author.Tests.{eqb-true}
use Rattle.book.specs.declared.Agent.{Agent}
use Rattle.book.specs.Book.{Program, node_at, agent_at}
use Rattle.engine.specs.Reader.{done}
use Rattle.engine.specs.Move.{Input, walk_reads}
use Rattle.engine.specs.Rule.{Walk, Walked, walking, refused_at, ◌then◌, all_taken, walk, no_variables, agent_walk, rule_from}
use Rattle.engine_term.specs.Marks.{mark_one, marked, Runs}
use Rattle.engine_term.proofs.Marking.{runs_bind, runs_value}
use Rattle.engine_walk.specs.WalkMarks.{masked, bits_cleared, LowerBits, WalkMarked}

-- ---- marks taken out

-- to mark with bit 0 changes nothing
pub marked_zero : (ls m : List ℕ) → marked 0 ls m ≡ m
unfolding marked
marked_zero [] m = refl
marked_zero (l ∷ ls) m = let e : mark_one 0 l m ≡ m = rw (or_zero_r (get_or m l 0)) (set-get_or m l 0) in rw e (marked_zero ls m)

-- a move's own bit is not among the lower ones
own_bit : (k r : ℕ) → bit_and (bit_or r (2 ^ k)) (2 ^ k - 1) ≡ bit_and r (2 ^ k - 1)
own_bit k r = rw (and_mask, or_mod, mod_self, or_zero_r, and_mask)

masked_marked : (k : ℕ) (ls m : List ℕ) → masked (2 ^ k - 1) (marked (2 ^ k) ls m) ≡ masked (2 ^ k - 1) m
unfolding marked
masked_marked k [] m = refl
masked_marked k (l ∷ ls) m =
    masked_marked k ls (mark_one (2 ^ k) l m)
    ∙ map-set_same (λ v. bit_and v (2 ^ k - 1)) m l (bit_or (get_or m l 0) (2 ^ k)) 0 (own_bit k (get_or m l 0))

masked_below : (k : ℕ) (m : List ℕ) → LowerBits (2 ^ k) m → masked (2 ^ k - 1) m ≡ m
masked_below k [] h = refl
masked_below k (x ∷ xs) h =
    let e : bit_and x (2 ^ k - 1) ≡ x = and_mask x k ∙ mod-eq_of_lt (h 0) in
    rw (e, masked_below k xs (λ i. h (suc i)))

pub taken_back : (bit k : ℕ) (ls m : List ℕ) → bit ≡ 2 ^ k → LowerBits bit m → bits_cleared bit (marked bit ls m) ≡ m
taken_back bit k ls m e h = go (eqb bit 0) refl
  where
    go : (b : Bool) → eqb bit 0 ≡ b → (if b then marked bit ls m else masked (bit - 1) (marked bit ls m)) ≡ m
    go true q = rw (eqb-true bit 0 q) (marked_zero ls m)
    go false q =
        let g : LowerBits (2 ^ k) m = rw e at h in
        rw e (masked_marked k ls m ∙ masked_below k m g)

-- ---- the walk of a move's rule

module _ (B : Program) (c : List ℕ) (bit : ℕ) (z : Walked) (m n : List ℕ) where
  started : (p q : ℕ) (g h : Agent) (ys : List ℕ) → g ≡ h → p ≡ q
      → Runs B c bit (walk B g.element (rule_from (node_at B) 32 g.root) no_variables (record { made = []; next = p; left = ys })) z m n
      → Runs B c bit (walk B h.element (rule_from (node_at B) 32 h.root) no_variables (record { made = []; next = q; left = ys })) z m n
  started p q g h ys e f r = rw (← e, ← f) r

  -- the walk of a move's rule runs: z is what it came to, and y what it came to after the picks left over are checked
  pub runs_agent : (agent p : ℕ) (ys : List ℕ) (g : Agent) (y : Walked) → g ≡ agent_at B agent → p ≡ B.P
      → Runs B c bit (walk B g.element (rule_from (node_at B) 32 g.root) no_variables (record { made = []; next = p; left = ys })) z m n
      → y ≡ (z then λ w. all_taken g.root w.left w) → Runs B c bit (agent_walk B agent ys) y m n
  unfolding agent_walk
  runs_agent agent p ys g y e f r t =
      let h = agent_at B agent in
      let w = walk B h.element (rule_from (node_at B) 32 h.root) no_variables (record { made = []; next = B.P; left = ys }) in
      let same : (z then λ w. all_taken g.root w.left w) ≡ (z then λ w. all_taken h.root w.left w) = ap (λ (a : Agent). z then λ w. all_taken a.root w.left w) e in
      runs_bind B c bit w (λ o. done (o then λ w. all_taken h.root w.left w)) z y m n n (started p B.P g h ys e f r)
      (runs_value B c bit y (z then λ w. all_taken h.root w.left w) n (t ∙ same))

module _ (B : Program) (c : List ℕ) (bit : ℕ) (i : Input) (o : Walked) (m n : List ℕ) (h : Runs B c bit (agent_walk B i.agent i.picks) o m n) where
  pub gathered : (w : Walk) → o ≡ walking w → WalkMarked B c bit i o m n
  gathered w e =
      record {
        outcome = h.value;
        fired = λ p v q. h.marks p;
        refused = λ p r q u k b low.
            let g : walking w ≡ refused_at r q = sym e ∙ u in
            let z : ◌≡◌ {A = ℕ} 0 1 = cc g in
            absurd (omega arith);
        silent = λ p q. h.marks p ∙ rw q (marked_zero (walk_reads B c i) m);
      }

  pub walk_marked_back : (r q : ℕ) (k : List ℕ) → o ≡ refused_at r q → k ≡ bits_cleared bit n → WalkMarked B c bit i o m k
  walk_marked_back r q k e t =
      record {
        outcome = h.value;
        fired = λ p w u.
            let g : refused_at r q ≡ walking w = sym e ∙ u in
            let z : ◌≡◌ {A = ℕ} 0 1 = cc g in
            absurd (omega arith);
        refused = λ p a b u j v low. t ∙ rw (h.marks p) (taken_back bit j (walk_reads B c i) m v low);
        silent = λ p u. t ∙ rw (h.marks p, u) (marked_zero (walk_reads B c i) m);
      }
