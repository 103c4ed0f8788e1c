-- Refusals 9, 2 and 8 of a single-move call: what each check answers, what they answer in turn, and what they show when all pass.
use Rattle.std.specs.Prelude.{None, Some}
use mathlib.Core.Path.{◌≡◌, sym, ap, ◌∙◌}
use mathlib.Core.Logic.{◌≢◌}
use mathlib.Core.List.{List}
use Prim.Native.Nat.{ℕ, ◌≤◌, ◌<◌, min}
use native.Mathlib.Nat.{zero-add}
use native.Mathlib.Omega.{arith, min_cases}
use lib.Dec.{leb}
use lib.ListN.{length, take}
use lib.Seq.{take_all}
use borrow.Author.Tests.{ltb-true, leb-true, lt-ltb, le-ltb, le-leb, lt-leb}
use Rattle.text.specs.Words.{Answer}
use Rattle.text.specs.Words.{Checked, good, refused, ◌>>◌, none_at, must, answer_of, least}
use Rattle.text.proofs.Words.{then_good, test_good}
use Rattle.book.specs.Book.{Program, L}
use Rattle.book.specs.Contents.{bad_value}
use Rattle.engine.specs.Move.{Input}
use Rattle.engine.specs.Single.{pick_place, bad_pick, check_picks, check_agent, check_step_lengths, check_lent_step, check_contents}
use Rattle.engine_step.specs.Call.{check_call}
use Rattle.engine_step.proofs.UpToTen.{UpToTen, accepts, agent_numbered, picks_numbered, lengths_numbered}

abbrev pub refusal_at : ℕ → ℕ → ℕ → Answer
refusal_at n p q = record { number = n; p = p; q = q }

-- ---- one check

module _ (B : Program) (k : ℕ) where
  pub agent_there : k < length B.agents → refusal_at 0 0 0 ≡ answer_of (check_agent B k)
  unfolding check_agent must
  agent_there h = rw (lt-ltb k (length B.agents) h)

  pub agent_missing : length B.agents ≤ k → refusal_at 9 0 0 ≡ answer_of (check_agent B k)
  unfolding check_agent must
  agent_missing h = rw (le-ltb k (length B.agents) h)

module _ (B : Program) (ys : List ℕ) where
  pub pick_bad : (j : ℕ) → Some j ≡ least (bad_pick B ys) (length ys) → refusal_at 9 (pick_place j) 0 ≡ answer_of (check_picks B ys)
  unfolding check_picks
  pick_bad j e = rw (← e)

  pub picks_fine : None ≡ least (bad_pick B ys) (length ys) → refusal_at 0 0 0 ≡ answer_of (check_picks B ys)
  unfolding check_picks
  picks_fine e = rw (← e)

module _ (locations : ℕ) (c : List ℕ) (n : ℕ) where
  pub contents_short : length c < locations → refusal_at 2 locations 0 ≡ answer_of (check_step_lengths locations c n)
  unfolding must ◌>>◌
  contents_short h = rw (lt-leb locations (length c) h)

  pub list_short : locations ≤ length c → n < 256 → refusal_at 2 256 3 ≡ answer_of (check_step_lengths locations c n)
  unfolding must ◌>>◌
  list_short h g = rw (le-leb locations (length c) h, lt-leb 256 n g)

  pub both_lent : locations ≤ length c → 256 ≤ n → refusal_at 0 0 0 ≡ answer_of (check_step_lengths locations c n)
  unfolding must ◌>>◌
  both_lent h g = rw (le-leb locations (length c) h, le-leb 256 n g)

-- the first k records of a table, as far as it goes
pub taken : (k n : ℕ) (c : List ℕ) → n ≡ min k (length c) → take n c ≡ take k c
taken k n c e =
    min_cases k (length c) (take n c ≡ take k c)
    (λ h f. ap (λ (i : ℕ). take i c) (e ∙ f))
    (λ h f. take_all n c (omega (arith, e, f)) ∙ sym (take_all k c h))

-- ---- one check after the other

module _ {A B : Type 0} (r : Answer) (x : Checked A) (y : Checked B) where
  -- if the first check refuses, its answer is that of both
  stops : r ≡ answer_of x → r.number ≢ 0 → r ≡ answer_of (x >> y)
  unfolding ◌>>◌
  stops e h = go x e
    where
      go : (z : Checked A) → r ≡ answer_of z → r ≡ answer_of (z >> y)
      go (good a) f = absurd (h (ap (λ (a : Answer). a.number) f))
      go (refused n p q) f = f

  -- if the first check passes, the answer of the second is that of both
  goes : (s : Answer) → s ≡ answer_of x → UpToTen x → s.number ≡ 0 → r ≡ answer_of y → r ≡ answer_of (x >> y)
  unfolding ◌>>◌
  goes s e h z f = rw (accepts x h (ap (λ (a : Answer). a.number) (sym e) ∙ z)).1 f

module _ (B : Program) (locations : ℕ) (c : List ℕ) (i : Input) (n : ℕ) (nine : Answer) (is_nine : nine ≡ answer_of (check_agent B i.agent)) where
  pub agent_refuses : nine.number ≢ 0 → nine ≡ answer_of (check_call B locations c i n)
  unfolding check_call
  agent_refuses h = stops nine _ _ is_nine h

  module _ (passed : nine.number ≡ 0) (other : Answer) (is_other : other ≡ answer_of (check_picks B i.picks)) where
    after_agent : (r : Answer) → r ≡ answer_of (check_picks B i.picks >> (check_step_lengths locations c n >> check_contents B (take locations c)))
        → r ≡ answer_of (check_call B locations c i n)
    unfolding check_call
    after_agent r e = goes r _ _ nine is_nine (agent_numbered B i.agent) passed e

    pub picks_refuse : other.number ≢ 0 → other ≡ answer_of (check_call B locations c i n)
    picks_refuse h = after_agent other (stops other _ _ is_other h)

    module _ (also_passed : other.number ≡ 0) (two : Answer) (is_two : two ≡ answer_of (check_step_lengths locations c n)) where
      after_picks : (r : Answer) → r ≡ answer_of (check_step_lengths locations c n >> check_contents B (take locations c)) → r ≡ answer_of (check_call B locations c i n)
      after_picks r e = after_agent r (goes r _ _ other is_other (picks_numbered B i.picks) also_passed e)

      pub two_refuses : two.number ≢ 0 → two ≡ answer_of (check_call B locations c i n)
      two_refuses h = after_picks two (stops two _ _ is_two h)

      pub eight_last : two.number ≡ 0 → (r : Answer) → r ≡ answer_of (check_contents B (take locations c)) → r ≡ answer_of (check_call B locations c i n)
      eight_last z r e = after_picks r (goes r _ _ two is_two (lengths_numbered locations c n) z e)

-- if they are the book's locations, refusal 2 is that of the book
pub lengths_are : (B : Program) (locations : ℕ) (c : List ℕ) (n : ℕ) → locations ≡ L B → check_step_lengths locations c n ≡ check_lent_step B c n
unfolding check_lent_step
lengths_are B locations c n e = ap (λ (i : ℕ). check_step_lengths i c n) e

-- ---- what the checks show when all pass

pub record Passed (B : Program) (c : List ℕ) (i : Input) (n : ℕ) : Type 0 where
  pub agent : i.agent < length B.agents
  pub long : L B ≤ length c
  pub records : 256 ≤ n

pub call_passed : (B : Program) (locations : ℕ) (c : List ℕ) (i : Input) (n : ℕ) → locations ≡ L B → (u : Unit {0}) → check_call B locations c i n ≡ good u → Passed B c i n
unfolding check_call check_agent check_contents ◌>>◌
call_passed B locations c i n same u e =
    let e9 = test_good _ _ _ _ _ u e in
    let last = check_contents B (take locations c) in
    let e1 = then_good (check_picks B i.picks) (check_step_lengths locations c n >> last) u e9.1 in
    let e2 = then_good (check_step_lengths locations c n) last u e1.2 in
    let e0 = test_good _ _ _ _ _ e2.0 e2.1 in
    record {
      agent = ltb-true i.agent (length B.agents) e9.0;
      long = rw (← same) (leb-true locations (length c) e0.0);
      records = leb-true 256 n (test_good (leb 256 n) 2 256 3 (good u) u (ap (λ (x : Checked (Unit {0})). x >> good u) e0.1)).0;
    }
