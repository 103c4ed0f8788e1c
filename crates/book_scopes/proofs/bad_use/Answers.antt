-- `bad_use` meets its contract.
use Rattle.book_scopes.proofs.Tables.{used_once}
use Rattle.book.proofs.Image.{nodes_most}
use Rattle.book.specs.Image.{program_in}
use Rattle.book.specs.Use.{bad_use}
use Rattle.text.proofs.Words.{least_same}
use Prim.Native.Nat.{ℕ}
use mathlib.Core.Path.{◌∙◌}
use lib.ListN.{length, get_or-replicate, length-replicate, replicate}
use native.Mathlib.Omega.{arith}
use Rattle.book_scopes.proofs.bad_use.Goals as goal

pub returns : goal.returns
returns c = let m = c.args.image.now in c.not_once.ensures ∙ rw (c.count_uses.ensures, c.count_roots.ensures, c.nodes-n.ensures, c.agents-a.ensures) (least_same _ (bad_use (program_in m)) (length (program_in m).nodes) (λ j l. used_once (program_in m) j (replicate 1024 0) (rw (length-replicate {A = ℕ} 1024 0) (omega (arith, nodes_most m))) (get_or-replicate {A = ℕ} 1024 j 0 0 (omega (arith, nodes_most m)))))
