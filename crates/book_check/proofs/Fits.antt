-- The numbers of an accepted book fit in sixteen bits, so what the engine takes its image to hold is its program.
use mathlib.Core.Path.{◌≡◌, ap}
use mathlib.Core.List.{List}
use Prim.Native.Nat.{ℕ, ◌≤◌, ◌<◌}
use native.Mathlib.Nat.{mod-eq_of_lt}
use native.Mathlib.Omega.{arith}
use lib.ListN.{length}
use Rattle.text.specs.Words.{good}
use Rattle.book.specs.Book.{Program, Book, node_at, agent_at}
use Rattle.book.specs.Image.{low_node, low_agent, program_in, low_program}
use Rattle.book.specs.Check.{check_book}
use Rattle.book.specs.Sound.{Lawful}
use Rattle.book.proofs.Accepted.{accepted}
use Rattle.book.proofs.Image.{functions_most, nodes_most}
use Rattle.book.proofs.Held.{held_same}
use Rattle.book.proofs.Kept.{small_node}
use Rattle.book_check.specs.ImageOf.{ImageOf}

-- ---- the image of a lawful book

module _ (m : List ℕ) (B : Program) (ok : Lawful B) (is : program_in m ≡ B) where
  few_functions : length B.functions ≤ 32
  few_functions = omega (arith, ap (λ (X : Program). length X.functions) is, functions_most m)

  few_nodes : length B.nodes ≤ 1024
  few_nodes = omega (arith, ap (λ (X : Program). length X.nodes) is, nodes_most m)

  few_permanent : B.P ≤ 10000
  few_permanent = omega (arith, ok.high, ok.elements)

  node_same : (n : ℕ) → n < length B.nodes → low_node (node_at B n) ≡ node_at B n
  node_same n h =
      let s = small_node B n few_permanent few_functions (omega (arith, few_nodes)) (ok.nodes n h) in
      let kind : (node_at B n).kind < 65536 = omega (arith, s.kind) in
      let a : (node_at B n).a < 65536 = omega (arith, s.a) in
      let b : (node_at B n).b < 65536 = omega (arith, s.b) in
      let c : (node_at B n).c < 65536 = omega (arith, s.c) in
      rw (mod-eq_of_lt kind, mod-eq_of_lt a, mod-eq_of_lt b, mod-eq_of_lt c)

  agent_same : (i : ℕ) → i < length B.agents → low_agent (agent_at B i) ≡ agent_at B i
  agent_same i h =
      let root : (agent_at B i).root < 65536 = omega (arith, (ok.roots i h).0, few_nodes) in
      let element : (agent_at B i).element < 65536 = omega (arith, ok.agents i, few_permanent) in
      rw (mod-eq_of_lt root, mod-eq_of_lt element)

  lawful_held : low_program m ≡ B
  lawful_held = held_same m B is (omega (arith, few_permanent)) node_same agent_same

-- the image that the check of an accepted book leaves holds, as the engine reads it, the book's program
pub low_program_is : (text m : List ℕ) → ImageOf m (check_book text) → (b : Book) → check_book text ≡ good b → low_program m ≡ b.program
low_program_is text m opened b e = lawful_held m b.program (accepted text b e) (opened b e).0
