-- How far a walk is, as the code holds it: the list of instructions as numbers, and the picks left; and the steps that give an instruction, take a pick or
-- refuse.
use Rattle.text.specs.declared.Reason.{Reason}
use Rattle.text.specs.Refusals.{number_of, refusal_number}
use Rattle.std.specs.Prelude.{None, Some, IfSome, ◌≡◌, ◌&&◌, not, List, [], ◌∷◌, ℕ, drop, eqb, ltb, if◌then◌else◌}
use Rattle.text.specs.Refusals.{non_boolean, not_releasable, no_label_left, not_in_universe, pick_count}
use Rattle.book.specs.Book.{true_element, false_element, boolean, relation, Program, function_at, reserve}
use Rattle.engine.specs.declared.Instruction.TheVariants.{Update, Release}
use Rattle.engine.specs.Rule.{Walk, Walked, walking, refused_at, ◌then◌, emit, take_label, take_pick, refuse_if, unreleasable, not_member}
use Rattle.engine_instruction.specs.Code.{items}
use Rattle.engine_emit.specs.declared.Picks.{Picks}
use Rattle.engine_emit.specs.declared.Progress.{Progress}

-- ---- the walk that the code's state stands for

-- the picks that are left
abbrev pub picks_left : Picks → List ℕ
picks_left p = drop p.used p.given.now

-- the walk that a state s, its list l and the picks left ys stand for
abbrev pub walk_from : {R : Type 0} → List ℕ → Progress R → List ℕ → Walk
walk_from ys s l = record { made = items l s.len; next = s.label; left = ys }

-- what a walk has come to, by its state s; a refusal's number is not 0
unfoldable pub reached : List ℕ → Progress Reason → List ℕ → Walked
reached ys s l = if eqb (refusal_number s.refused) 0 then walking (walk_from ys s l) else refused_at (refusal_number s.refused) s.node

-- ---- refusals with reasons of any type R, to which this code's reasons are converted

module _ {R : Type 0} (gives : Reason → R → Type 0) where
  -- the state r, its list m and the picks left zs stand for what a walk has come to; a refusal's reason is one of this code's, converted
  abbrev pub StandsFor : List ℕ → Progress R → List ℕ → Walked → Type 0
  StandsFor zs r m (walking w) = (r.refused ≡ None) × (walk_from zs r m ≡ w)
  StandsFor zs r m (refused_at n q) = (e : Reason) × (x : R) × gives e x × (number_of e ≡ n) × (r.refused ≡ Some x) × (r.node ≡ q)

  -- The state s with its list l and the picks left ys became r with m and zs: a walk that is refused stays so, for the same reason at the same node, and any
  -- other has made the step.
  pub record WalkStepped (step : Walk → Walked) (ys : List ℕ) (s : Progress R) (l zs : List ℕ) (r : Progress R) (m : List ℕ) : Type 0 where
    pub stays : IfSome s.refused (λ x. (r.refused ≡ Some x) × (r.node ≡ s.node))
    pub steps : s.refused ≡ None → StandsFor zs r m (step (walk_from ys s l))

-- ---- steps

-- the walk is refused at node n
abbrev pub refused_by : ℕ → ℕ → Walk → Walked
refused_by number n w = refused_at number n

-- Kind 21, a set, at node n: location l of function f gets v, or refusal 11
abbrev pub setting : Program → ℕ → ℕ → ℕ → ℕ → Walk → Walked
setting B f l v n w = refuse_if (relation (function_at B f) && not (boolean v)) non_boolean n w then emit n (Update l v)

-- Kind 27, a release, at node n: x is released, Reserve there being r, or refusal 12
abbrev pub releasing : Program → ℕ → ℕ → ℕ → Walk → Walked
releasing B x r n w = refuse_if (unreleasable B x r) not_releasable n w then emit n (Release x)

-- Kind 26, an import, at node n: label x is taken into a universe, which has location l at x
abbrev pub importing : ℕ → ℕ → ℕ → Walk → Walked
importing l x n w = emit n (Update (reserve x) false_element) (take_label x w) then emit n (Update l true_element)

-- Kind 26, an import, at node n: the search among E elements for a label came to x; refusal 13 if that is past them
abbrev pub importing_found : ℕ → ℕ → ℕ → ℕ → Walk → Walked
importing_found E l x n w = if ltb x E then importing l x n w else refused_at no_label_left n

-- the pick that is next; E, which is no element, if there is none or it is no element
abbrev pub next_pick : ℕ → List ℕ → ℕ
next_pick E [] = E
next_pick E (y ∷ ys) = if ltb y E then y else E

-- Kind 28, a choose, at node n with the picks of the list left: the first is taken, the universe having the value v there, or refusal 18 or 19
abbrev pub picked : ℕ → ℕ → Walk → List ℕ → Walked
picked v n w [] = refused_at pick_count n
picked v n w (y ∷ ys) = refuse_if (not_member v) not_in_universe n (take_pick ys w)

-- Kind 28, a choose, at node n: the next pick of the walk is taken, the universe having the value v there
abbrev pub picking : ℕ → ℕ → Walk → Walked
picking v n w = picked v n w w.left
