-- `give_all` meets its contract.
use Rattle.book_scopes.specs.Tables.{to_ab, to_c}
use Rattle.book.specs.Scopes.{all_given}
use Rattle.book.specs.Image.{program_in}
use lib.ListN.{length}
use Prim.Native.Nat.{◌-◌}
use mathlib.Core.Path.{◌≡◌}
use Rattle.book_scopes.proofs.give_all.Given as goal

abbrev pub invariant-loop-m : goal.invariant-loop-m
invariant-loop-m l =
    l.s ≡ all_given (program_in l.image) to_ab to_c (length (program_in l.image).nodes - l.m) l.initial.s
