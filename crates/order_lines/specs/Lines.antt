-- What reading the lines of one kind finds, and the choices as they are put into the table of a log (SPECIFICATION 6.2, 6.3).
use Rattle.std.specs.Prelude.{Option, None, Some}
use Rattle.std.specs.Prelude.{◌≡◌, Bool, List, [], ◌∷◌, ℕ, suc, ◌+◌, eqb, set, if◌then◌else◌}
use Rattle.text.specs.Words.{table, least_from, least}
use Rattle.text.specs.Text.{bad_line}
use Rattle.order.specs.Log.{Choice, choice_at, bad_choice_at}
use Rattle.order.specs.Table.{end_in}
use Rattle.text.specs.declared.LineFaults.{LineFaults}

-- ---- places

-- the first place, if there is one, or else the second
abbrev pub first_found : Option ℕ → Option ℕ → Option ℕ
first_found None b = b
first_found (Some p) b = Some p

-- the place found, counted from k on
abbrev pub shifted : ℕ → Option ℕ → Option ℕ
shifted k None = None
shifted k (Some p) = Some (k + p)

-- ---- lines of one kind

-- the n lines after line k are read, `bad` saying which of them are at fault: r has what is found, and if nothing is, the table t is u
pub record KindRead (text : List ℕ) (k n : ℕ) (bad : ℕ → Bool) (u t : List ℕ) (r : LineFaults) : Type 0 where
  pub ill : r.ill ≡ least_from (bad_line text) n (1 + k)
  pub fault : r.ill ≡ None → r.fault ≡ shifted (1 + k) (least bad n)
  pub order : r.ill ≡ None → r.fault ≡ None → t ≡ u

-- ---- the choices

-- the table t with pick i as the first of move a, if the move has none yet
abbrev pub first_pick_put : List ℕ → ℕ → ℕ → List ℕ
first_pick_put t i a = if eqb (end_in t a) 0 then set t (128 + a) i else t

-- the table t with pick i, the element y, put in as the last of move a so far
abbrev pub pick_put : List ℕ → ℕ → ℕ → ℕ → List ℕ
pick_put t i a y = set (set (first_pick_put t i a) (192 + a) (i + 1)) (256 + i) y

-- the table t with the picks of the choices put in one after the other, from pick i on
unfoldable pub picks_put : List Choice → ℕ → List ℕ → List ℕ
picks_put [] i t = t
picks_put (x ∷ xs) i t = picks_put xs (suc i) (pick_put t i x.move x.element)

-- the n choice lines of m moves, which begin after line k, are read, with E elements: if none is at fault they are put into the table s
abbrev pub ChoiceLinesRead : ℕ → List ℕ → ℕ → ℕ → ℕ → List ℕ → List ℕ → LineFaults → Type 0
ChoiceLinesRead E text m k n s t r = KindRead text k n (bad_choice_at E m k text) (picks_put (table (choice_at k text) n) 0 s) t r
