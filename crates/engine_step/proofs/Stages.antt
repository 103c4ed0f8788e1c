-- The call in two stages, begun and finished: what each shows of it, and what the list between them holds.
use Rattle.std.specs.Prelude.{⊤, Option, None, Some, IfSome, Result, Ok, Err}
use Rattle.std.specs.Result.{IsErr, IsErrAnd, is_ok}
use mathlib.Core.Path.{◌≡◌, refl, sym, ap, subst, ◌∙◌}
use mathlib.Core.Bool.{true≢false}
use Rattle.text.specs.declared.Reason.{Reason}
use Rattle.text.specs.declared.Refusal.{Refusal}
use mathlib.Core.List.{List, [], ◌++◌}
use Prim.Native.Nat.{ℕ, ◌≤◌, min}
use native.Mathlib.Omega.{arith}
use lib.ListN.{length, take, drop}
use Rattle.std.proofs.lemmas.List.{take-append-drop}
use Rattle.text.specs.Words.{Answer, told, told_refused}
use Rattle.book.specs.Book.{Program, L}
use Rattle.book.specs.Sum.{Strided}
use Rattle.book.specs.Image.{word, low_program}
use Rattle.engine.specs.Move.{Input, Moved, fires, move_refused, walked, walk_reads, made_by, move}
use Rattle.engine.specs.Single.{Stepped, stepped, step_move, step_call}
use Rattle.engine_instruction.specs.Code.{items}
use Rattle.engine_instruction.proofs.Laws.{take_min, drop_min}
use Rattle.engine_term.proofs.Leaves.{placed}
use Rattle.engine_walk.specs.Walk.{outcome}
use Rattle.engine_fire.specs.Outcome.{contents_after}
use Rattle.engine_fire.specs.Effect.{move_answer}
use Rattle.engine.specs.declared.TalliedResult.{TalliedResult}
use Rattle.engine.specs.Labels.{TalliedAnswer, tallied}
use Rattle.engine_fire.specs.Finish.{MoveFinished}
use Rattle.engine.specs.Reasons.{AnswerAs}
use Rattle.engine.proofs.Reasons.{refusal_own}
use Rattle.engine_fire.specs.Reasons.{refused_result, ProgressAs, FinishesAs}
use Rattle.engine_fire.proofs.Reasons.{finished_as, progress_own}
use Rattle.engine_fire.proofs.Count.{given_few, made_of, same_outcome}
use Rattle.engine_fire.specs.declared.Begun.{Begun}
use Rattle.engine_step.specs.Leaves.{CallLeaves}
use Rattle.engine_step.specs.Stages.{given, MoveWalked, CallMoves, CallBegun, CallFinished, Converted, AnyCallFinished, PassedAs, CallFinishedAs}
use Rattle.engine_step.proofs.Fired.{moved_step}
use Rattle.engine_step.proofs.Whole.{Cleared}
use Rattle.engine.specs.Tables.{Tables, tables}

-- ---- the call begun

module _ (text c : List ℕ) (k : Input) (n : ℕ) (m l : List ℕ) where
  pub halted_call : (p : Result (Begun Reason) (Refusal Reason)) (a : Answer) → told p ≡ a → IsErr p → CallLeaves a 0 l c (step_call text c k n) → CallBegun text c k n m l p
  halted_call (Ok s) a e r t = absurd (true≢false (sym r))
  halted_call (Err f) a e r t = record { stops = subst (λ (b : Answer). CallLeaves b 0 l c (step_call text c k n)) (sym e) t; moves = tt }

  pub begun_call : (s : Begun Reason) → Cleared text c k n m → MoveWalked (low_program m) (take (word m 6) c) k l s → CallBegun text c k n m l (Ok s)
  begun_call s e w = record {
    stops = tt;
    moves = record {
      lent = e.passed.records;
      lawful = e.lawful;
      locations = e.locations;
      long = e.passed.long;
      walked = subst (λ (i : ℕ). MoveWalked (low_program m) (take i c) k l s) e.locations w;
      whole = e.moved;
    };
  }

-- ---- the list between the two stages

step_instructions : (B : Program) (c : List ℕ) (k : Input) → (step_move B c k).instructions ≡ made_by (walked B (take (L B) c) k)
step_instructions B c k = go (move B (take (L B) c) k)
  where
    go : (o : Moved) → (stepped c (take (L B) c) (made_by (walked B (take (L B) c) k)) o).instructions ≡ made_by (walked B (take (L B) c) k)
    go (fires f) = refl
    go (move_refused a q) = refl

module _ (text c : List ℕ) (k : Input) (n : ℕ) (m l : List ℕ) where
  abbrev A : Program
  A = low_program m

  -- the list has the instructions of the call
  pub call_made : (p : Result (Begun Reason) (Refusal Reason)) → CallBegun text c k n m l p → items l (given p) ≡ (step_call text c k n).instructions
  call_made (Ok s) h =
      let w = h.moves in
      let o = w.walked in
      ap (items l) o.count ∙ made_of s.walk l o.room ∙ ap made_by (o.walk.outcome (placed A w.lawful)) ∙ sym (step_instructions A c k) ∙ ap (λ (s : Stepped). s.instructions) w.whole
  call_made (Err e) h = h.stops.instructions

  -- with the call's answer and contents, all that the call leaves is known
  call_tells : (p : Result (Begun Reason) (Refusal Reason)) → CallBegun text c k n m l p → (a : Answer) (d : List ℕ)
      → (a ≡ (step_call text c k n).answer) × (d ≡ (step_call text c k n).contents) → CallLeaves a (given p) l d (step_call text c k n)
  call_tells p h a d s = record { answer = s.0; instructions = call_made p h; contents = s.1 }

  pub call_few : (p : Result (Begun Reason) (Refusal Reason)) → CallBegun text c k n m l p → (given p ≤ 256) × (given p ≤ n)
  call_few (Ok s) h = let w = h.moves in (omega (arith, w.walked.count, given_few s.walk), omega (arith, w.walked.count, given_few s.walk, w.lent))
  call_few (Err e) h = (omega arith, omega arith)

  -- any list that holds the same instructions will do
  pub call_through : (p : Result (Begun Reason) (Refusal Reason)) → CallBegun text c k n m l p
      → (l' : List ℕ) → length l' ≡ 256 → items l' (given p) ≡ items l (given p) → CallBegun text c k n m l' p
  call_through (Ok s) h l' e q = record {
    stops = tt;
    moves =
        let w = h.moves in
        let o = w.walked in
        let i : outcome s.walk l' ≡ outcome s.walk l = same_outcome s.walk l l' o.room e (rw o.count at q) in
        record {
          lent = w.lent;
          lawful = w.lawful;
          locations = w.locations;
          long = w.long;
          walked = record { walk = rw i o.walk; count = o.count; room = e };
          whole = w.whole;
        };
  }
  call_through (Err f) h l' e q = record {
    stops = let s = h.stops in record { answer = s.answer; instructions = s.instructions; contents = s.contents };
    moves = tt;
  }

  -- ---- the call finished

  concluded_moves : (s : Begun Reason) → CallMoves text c k n m l s → (r : Answer) (d : List ℕ) → CallFinished m c l (Ok s) r d
      → (r ≡ (step_move A c k).answer) × (d ≡ (step_move A c k).contents)
  unfolding move
  concluded_moves b w r d s =
      let t : (r ≡ move_answer 0 (move A (take (L A) c) k)) × (d ≡ contents_after (take (L A) c) (move A (take (L A) c) k) ++ drop (L A) c) =
      rw (w.locations, w.walked.walk.outcome (placed A w.lawful)) at (s.moves w.lawful.strides (walk_reads A (take (L A) c) k)) in
      moved_step A c k w.long r d t.0 t.1

  -- the answer, the instructions and the contents are those that the call leaves
  pub call_concluded : (p : Result (Begun Reason) (Refusal Reason)) → CallBegun text c k n m l p → (r : Answer) (d : List ℕ) → CallFinished m c l p r d
      → CallLeaves r (given p) l d (step_call text c k n)
  call_concluded (Ok b) h r d s =
      let t = concluded_moves b h.moves r d s in
      let e = h.moves.whole in
      call_tells (Ok b) h r d (t.0 ∙ ap (λ (x : Stepped). x.answer) e, t.1 ∙ ap (λ (x : Stepped). x.contents) e)
  call_concluded (Err f) h r d s = let t = h.stops in let q = s.stops in call_tells (Err f) h r d (q.0 ∙ t.answer, q.1 ∙ t.contents)

-- a call that was refused stays so, with its contents
pub refused_stays : (m c l : List ℕ) (p : Result (Begun Reason) (Refusal Reason)) (e : Refusal Reason) → p ≡ Err e → (r : Answer) → r ≡ told p → CallFinished m c l p r c
refused_stays m c l (Ok b) e h r q = absurd (true≢false (ap (λ (x : Result (Begun Reason) (Refusal Reason)). is_ok x) h))
refused_stays m c l (Err f) e h r q = record { stops = (q, refl); moves = tt }

-- what `finish_move` says of the first j records of the table, said of the whole
pub concluded_first : (m c l : List ℕ) (b : Begun Reason) (j : ℕ) → j ≡ min (word m 6) (length c) → (r : TalliedAnswer) (d rs ws : List ℕ)
    → (Strided (low_program m) → MoveFinished (low_program m) 1 0 (outcome b.walk l) (tables (take j c) [] []) r (tables d rs ws)) → CallFinished m c l (Ok b) r.answer (d ++ drop j c)
concluded_first m c l b j e r d rs ws does = record {
  stops = tt;
  moves = λ strides ls.
      rw (← take_min c j (word m 6) e, ← drop_min c j (word m 6) e) ((does strides).answer ls, ap (λ (x : List ℕ). x ++ drop j c) ((does strides).contents ls));
}

-- ---- refusals of any type

-- what is said of refusals of any type, said of this code's
pub call_finished : (m c l : List ℕ) (p : Result (Begun Reason) (Refusal Reason)) (r : Result (Unit {0}) (Refusal Reason)) (d : List ℕ)
    → AnyCallFinished (λ x y. y ≡ x) m c l p r d → CallFinished m c l p (told r) d
call_finished m c l (Ok b) r d h = record { stops = tt; moves = λ strides ls. let t = h.moves strides ls in (plain r t.0, t.1) }
  where
    plain : {a : Answer} (x : Result (Unit {0}) (Refusal Reason)) → Converted (λ f e. e ≡ f) a x → told x ≡ a
    plain (Ok u) e = e
    plain (Err e) (f, t, g) = ap told_refused g ∙ t
call_finished m c l (Err e) r d h = let t = h.stops in subst (λ (x : List ℕ). CallFinished m c l (Err e) (told r) x) (sym t.1) (refused_stays m c l (Err e) e refl (told r) (ap told t.0))

module _ {E : Type 0} (gives : Refusal Reason → E → Type 0) where
  -- a call that was begun has the answer of its move
  pub any_begun : (m c l : List ℕ) (b : Begun Reason) (a : Answer) (d : List ℕ) → CallFinished m c l (Ok b) a d
      → (r : Result (Unit {0}) E) → Converted gives a r → AnyCallFinished gives m c l (Ok b) r d
  any_begun m c l b a d h r is = record {
    stops = tt;
    moves = λ strides ls. let t = h.moves strides ls in (subst (λ (x : Answer). Converted gives x r) t.0 is, t.1);
  }

  -- a call that was begun, on its first j records: its move ended so, and its result is that answer, converted
  pub any_concluded : (m c l : List ℕ) (p : Result (Begun Reason) E) (b : Begun Reason) → p ≡ Ok b → (k j : ℕ) → k ≡ word m 6 → j ≡ min k (length c)
      → (t : TalliedAnswer) (d rs ws : List ℕ) → (Strided (low_program m) → MoveFinished (low_program m) 1 0 (outcome b.walk l) (tables (take j c) [] []) t (tables d rs ws))
      → (r : Result (Unit {0}) E) → Converted gives t.answer r → AnyCallFinished gives m c l p r (d ++ drop j c)
  any_concluded m c l p b h k j e f t d rs ws does r is =
      rw h (any_begun m c l b t.answer (d ++ drop j c) (concluded_first m c l b j (f ∙ ap (λ (x : ℕ). min x (length c)) e) t d rs ws does) r is)

-- ---- reasons of any type

-- the result r is the answer a of a move, with its refusal passed on as another
abbrev pub PassedOn : {R E : Type 0} → (Refusal R → E → Type 0) → Result (Unit {0}) (Refusal R) → Result (Unit {0}) E → Type 0
PassedOn passes (Ok u) (Ok v) = ⊤
PassedOn passes (Err f) (Err e) = passes f e
PassedOn passes (Ok u) (Err e) = ⊥
PassedOn passes (Err f) (Ok v) = ⊥

module _ {R E : Type 0} (passes : Refusal R → E → Type 0) where
  -- a refusal passed on
  pub refusal_passed : (a : Result (Unit {0}) (Refusal R)) (f : Refusal R) → a ≡ Err f → (r : Result (Unit {0}) E) → IsErrAnd r (passes f) → PassedOn passes a r
  refusal_passed a f is (Ok u) h = absurd h
  refusal_passed a f is (Err e) h = subst (λ (x : Result (Unit {0}) (Refusal R)). PassedOn passes x (Err e)) (sym is) h

  -- and an answer that is accepted
  pub accepted_passed : (a : Result (Unit {0}) (Refusal R)) → a ≡ Ok tt → PassedOn passes a (Ok tt)
  accepted_passed a is = subst (λ (x : Result (Unit {0}) (Refusal R)). PassedOn passes x (Ok tt)) (sym is) tt

module _ {R E : Type 0} (gives : Reason → R → Type 0) (passes : Refusal R → E → Type 0) where
  -- a call that was refused stays so, with its contents
  pub refused_as : (m c l : List ℕ) (p : Result (Begun R) E) (e : E) → p ≡ Err e → (r : Result (Unit {0}) E) → IsErrAnd r (λ x. x ≡ e) → CallFinishedAs gives passes m c l p r c
  refused_as m c l p e h (Ok u) q = absurd q
  refused_as m c l p e h (Err x) q = rw h (record { stops = (ap Err q, refl); refused = tt; moves = tt })

  -- a call that was begun, on its first j records: its move ended so, and its result is that answer, passed on
  pub concluded_as : (m c l : List ℕ) (p : Result (Begun R) E) (b : Begun R) → p ≡ Ok b → (k j : ℕ) → k ≡ word m 6 → j ≡ min k (length c)
      → (done : TalliedResult R) (d rs ws : List ℕ) → FinishesAs gives m 1 0 b.walk l (tables (take j c) [] []) done (tables d rs ws)
      → (r : Result (Unit {0}) E) → PassedOn passes done.answer r → CallFinishedAs gives passes m c l p r (d ++ drop j c)
  concluded_as m c l p b h k j e f done d rs ws does r is = rw h (record { stops = tt; refused = over b.walk.refused does.refused; moves = moved })
    where
      over : (o : Option R) → IfSome o (λ x. (done ≡ refused_result x 0 b.walk.node) × (tables d rs ws ≡ tables (take j c) [] []))
          → IfSome o (λ x. IsErrAnd r (passes (record { reason = x; p = 0; q = b.walk.node })) × (d ++ drop j c ≡ c))
      over None g = tt
      over (Some x) g = (
        told_on r (subst (λ (a : Result (Unit {0}) (Refusal R)). PassedOn passes a r) (ap (λ (t : TalliedResult R). t.answer) g.0) is),
        ap (λ (t : Tables). t.contents ++ drop j c) g.1 ∙ take-append-drop j c,
      )
        where
          told_on : (r : Result (Unit {0}) E) → PassedOn passes (Err (record { reason = x; p = 0; q = b.walk.node })) r → IsErrAnd r (passes (record { reason = x; p = 0; q = b.walk.node }))
          told_on (Ok u) h = absurd h
          told_on (Err e) h = h

      both : (a : Result (Unit {0}) (Refusal Reason)) (q : Result (Unit {0}) (Refusal R)) (r : Result (Unit {0}) E) → AnswerAs gives a q → PassedOn passes q r → Converted (PassedAs gives passes) (told a) r
      both (Ok u) (Ok v) (Ok w) g i = refl
      both (Err q) (Err f) (Err e) g i = (q, refl, (f, g, i))
      both (Ok u) (Ok v) (Err e) g i = absurd i
      both (Ok u) (Err f) r g i = absurd g
      both (Err q) (Ok v) r g i = absurd g
      both (Err q) (Err f) (Ok w) g i = absurd i

      moved : (z : Begun Reason) → ProgressAs gives z.walk b.walk → AnyCallFinished (PassedAs gives passes) m c l (Ok z) r (d ++ drop j c)
      moved z g =
          let (a, t, n) = finished_as gives m 1 0 z.walk b.walk l (tables (take j c) [] []) done (tables d rs ws) g does in
          any_concluded (PassedAs gives passes) m c l (Ok z) z refl k j e f (tallied a) d rs ws n r (both a.answer done.answer r t.answer is)

-- ---- where the reasons are this code's own

-- what is said of reasons of any type, said of this code's
pub any_call_own : {E : Type 0} (passes : Refusal Reason → E → Type 0) (m c l : List ℕ) (p : Result (Begun Reason) E) (r : Result (Unit {0}) E) (d : List ℕ)
    → CallFinishedAs (λ x y. y ≡ x) passes m c l p r d → AnyCallFinished passes m c l p r d
any_call_own passes m c l (Err e) r d h = record { stops = h.stops; moves = tt }
any_call_own {E = E} passes m c l (Ok b) r d h = record {
  stops = tt;
  moves = λ strides ls. let t = (h.moves b (progress_own b.walk)).moves strides ls in (plain _ r t.0, t.1);
}
  where
    plain : (a : Answer) (x : Result (Unit {0}) E) → Converted (PassedAs (λ x y. y ≡ x) passes) a x → Converted passes a x
    plain a (Ok u) g = g
    plain a (Err e) (q, t, (f, (g, i, j), k)) = (q, t, subst (λ (x : Refusal Reason). passes x e) (refusal_own q f (g, i, j)) k)
