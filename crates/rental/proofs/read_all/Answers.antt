-- `read_all` meets its contract: each read puts its bytes behind those that came before.
use Rattle.std.proofs.Common.{◌≡◌, ℕ, ◌+◌, List, ◌++◌, Option, None, Some, take, drop, ap, ◌∙◌, sym, append_assoc}
use Rattle.std.proofs.Math.Seq.{take-add}
use Rattle.std.specs.Io.KnownBytes.{Consumes}
use Rattle.rental.proofs.read_all.Goals as goal

-- what was consumed in two steps, one after the other
consumed_on : (a b c : Option (List ℕ)) (bs cs : List ℕ) → Consumes a b bs → Consumes b c cs → Consumes a c (bs ++ cs)
consumed_on None b c bs cs p q = tt
consumed_on (Some x) None c bs cs p q = absurd p
consumed_on (Some x) (Some y) None bs cs p q = absurd q
consumed_on (Some x) (Some y) (Some z) bs cs p q = p ∙ ap (λ l. bs ++ l) q ∙ sym (append_assoc bs cs z)

-- ys has the first f bytes of xs, which were consumed, and then n more
consumed_more : (a b c : Option (List ℕ)) (xs ys : List ℕ) (f n : ℕ)
    → take f ys ≡ take f xs → Consumes a b (take f xs) → Consumes b c (take n (drop f ys)) → Consumes a c (take (f + n) ys)
consumed_more a b c xs ys f n front before read = rw (take-add f n ys, front) (consumed_on a b c _ _ before read)

pub loop-n-preserved : goal.loop-n-preserved
loop-n-preserved g c =
    let read = c.in_ok-more.ensures in
    (read.bound, consumed_more _ _ _ c.loop-n.buf _ _ _ read.front c.loop-n.invariant.1 read.bytes)
