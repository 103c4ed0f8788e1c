-- What is printed for the bytes that were read is what is printed for the whole input.
use Rattle.std.proofs.Common.{◌≡◌, ℕ, List, [], ◌++◌, ◌<◌, ◌≤◌, Option, None, Some, inl, inr, IfSome, length, take, take_all, sym, ap, subst, ◌∙◌, append-nil, arith}
use Rattle.std.proofs.lemmas.Bool.{cases_lt}
use Rattle.std.proofs.lemmas.List.{length-take-le, take_at}
use Rattle.std.specs.Io.KnownBytes.{Appends, Consumes, IsAtEnd}
use Rattle.report.specs.Report.{rental, most_input, print_checked}
use Rattle.report.proofs.Split.{input_long}

-- the same is printed for two inputs that are both too long
both_long : (xs ys : List ℕ) → most_input < length xs → most_input < length ys → rental xs ≡ rental ys
unfolding rental
both_long xs ys h k = ap print_checked (input_long xs h ∙ sym (input_long ys k))

-- the first m bytes of an input, which are more than it may have, print what the whole prints
front_printed : (m : ℕ) (xs : List ℕ) → most_input < m → rental (take m xs) ≡ rental xs
front_printed m xs h = elim (cases_lt (length xs) m) [
  | inl k ↦ ap rental (take_all m xs (omega arith))
  | inr k ↦ both_long (take m xs) xs (omega (arith, length-take-le m xs k)) (omega arith)
]

-- n bytes of an input were read into a buffer of m bytes: all of them, or as many as the buffer has
read_printed : (m n : ℕ) (xs ys buf : List ℕ) → most_input < m → length buf ≡ m → n ≤ m → xs ≡ take n buf ++ ys → (n < m → ys ≡ []) → rental (take n buf) ≡ rental xs
read_printed m n xs ys buf h e k read end = elim (cases_lt n m) [
  | inl l ↦ ap rental (sym (read ∙ ap (λ r. take n buf ++ r) (end l) ∙ append-nil (take n buf)))
  | inr l ↦ ap rental (sym (ap (take m) read ∙ take_at (take n buf) ys m (length-take-le n buf (omega arith) ∙ omega arith))) ∙ front_printed m xs h
]

-- the same of a reader's bytes, and of a writer that got what is printed
pub whole_printed :
    (m : ℕ) (a b x y : Option (List ℕ)) (buf : List ℕ) (n : ℕ) → most_input < m → length buf ≡ m → n ≤ length buf
    → Consumes a b (take n buf) → (n < length buf → IsAtEnd b) → Appends x y (rental (take n buf)) → IfSome a (λ text. Appends x y (rental text))
whole_printed m None b x y buf n h e k read end put = tt
whole_printed m (Some xs) None x y buf n h e k read end put = absurd read
whole_printed m (Some xs) (Some ys) x y buf n h e k read end put =
    subst (Appends x y) (read_printed m n xs ys buf h e (omega arith) read (λ l. end (omega arith))) put
