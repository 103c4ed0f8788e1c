-- `count_uses` meets its contract.
use Rattle.book_scopes.specs.Tables.{uses_counted}
use Rattle.book.specs.Image.{program_in}
use mathlib.Core.Path.{◌≡◌}
use Rattle.book_scopes.proofs.count_uses.Given as goal

abbrev pub invariant-loop-i : goal.invariant-loop-i
invariant-loop-i l =
    l.s ≡ uses_counted (program_in l.image) l.i l.initial.s
